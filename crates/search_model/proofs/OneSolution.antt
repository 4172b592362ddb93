-- Programs that are the same by their names have the same answers.
use Rattle.std.proofs.Common.{◌≡◌, ℕ, ◌<◌, ◌≤◌, List, length, sym, ap, ◌∙◌, arith}
use Rattle.fpc_terms.specs.Name.{AreDifferent}
use Rattle.fpc_terms.specs.Same.{SameList}
use Rattle.clause_language.specs.declared.atom.Atom.{Atom}
use Rattle.clause_language.specs.declared.program.Program.{Program}
use Rattle.clause_language.specs.Program.{HaveWords}
use Rattle.search_model.specs.Run.{Ending, ended, spent}
use Rattle.search_model.specs.Same.{AreOneName, SameAtom, SameClause}
use Rattle.search_model.specs.Search.{Answer, accepted, rejected}
use Rattle.search_model.specs.Solve.{Nothing, solving, atom_text, IsAccepted, IsSolved}
use Rattle.search_model.specs.Renaming.{SameSolved}
use Rattle.search_model.specs.declared.solve.Solved.{Solved}
use Rattle.search_model.specs.declared.solve.Solved.TheVariants.{Accepted, Rejected, Spent, TooLong}
use Rattle.search_model.proofs.NamesKept.{any_is, any_below}
use Rattle.search_model.proofs.Renaming.{TellsTheSame, solved-same, endings_tell, atom_text-same}
use Rattle.search_model.proofs.SameNames.{one_to_one}

no_longer : {m n limit : ℕ} → m ≡ n → m ≤ limit → limit < n → ⊥
no_longer e h k = omega (arith, e, h, k)

-- one answer, where the searches end alike
module _ (names others : List (List ℕ)) (p q : Program) (a b : Atom) (variables budget : ℕ)
    (any : AreOneName names others p.ids.any q.ids.any) (asked : SameAtom (AreOneName names others) a b)
    (tell : (e d : Ending (Answer Nothing Nothing)) → solving p.clauses budget a variables ≡ e → solving q.clauses budget b variables ≡ d → TellsTheSame (AreOneName names others) e d) where
  accepted_once : {x y : Atom} {u v : ℕ} → IsAccepted p a variables budget x u → IsAccepted q b variables budget y v → (atom_text names x ≡ atom_text others y) × (u ≡ v)
  accepted_once {u = u} {v = v} h k =
      let told = tell (ended (accepted h.found) u) (ended (accepted k.found) v) h.ends k.ends in
      let same_text = atom_text-same names others (λ m n s. s.2) (solved-same p.ids.any q.ids.any any asked told.0) in
      (ap (atom_text names) h.atom ∙ same_text ∙ sym (ap (atom_text others) k.atom), told.1)

  answered_once : (r s : Solved) → IsSolved names p a variables budget r → IsSolved others q b variables budget s → SameSolved names others r s
  answered_once (Accepted x u) (Accepted y v) (h, l) (k, m) = accepted_once h k
  answered_once (Accepted x u) (Rejected v) (h, l) k = tell (ended (accepted h.found) u) (ended rejected v) h.ends k
  answered_once (Accepted x u) Spent (h, l) k = tell (ended (accepted h.found) u) spent h.ends k
  answered_once (Accepted x u) TooLong (h, l) k = no_longer (ap length (accepted_once h k.is_accepted).0) l k.is_long
  answered_once (Rejected u) (Accepted y v) h (k, m) = tell (ended rejected u) (ended (accepted k.found) v) h k.ends
  answered_once (Rejected u) (Rejected v) h k = tell (ended rejected u) (ended rejected v) h k
  answered_once (Rejected u) Spent h k = tell (ended rejected u) spent h k
  answered_once (Rejected u) TooLong h k = tell (ended rejected u) (ended (accepted k.is_accepted.found) k.units) h k.is_accepted.ends
  answered_once Spent (Accepted y v) h (k, m) = tell spent (ended (accepted k.found) v) h k.ends
  answered_once Spent (Rejected v) h k = tell spent (ended rejected v) h k
  answered_once Spent Spent h k = tt
  answered_once Spent TooLong h k = tell spent (ended (accepted k.is_accepted.found) k.units) h k.is_accepted.ends
  answered_once TooLong (Accepted y v) h (k, m) = no_longer (sym (ap length (accepted_once h.is_accepted k).0)) m h.is_long
  answered_once TooLong (Rejected v) h k = tell (ended (accepted h.is_accepted.found) h.units) (ended rejected v) h.is_accepted.ends k
  answered_once TooLong Spent h k = tell (ended (accepted h.is_accepted.found) h.units) spent h.is_accepted.ends k
  answered_once TooLong TooLong h k = tt

-- programs whose clauses are the same by names have the same answers
pub solved-by_names : (names others : List (List ℕ)) (p q : Program) (a b : Atom) (variables budget : ℕ) (r s : Solved) → AreDifferent names → AreDifferent others
    → HaveWords names p.ids → HaveWords others q.ids → SameList (SameClause (AreOneName names others)) p.clauses q.clauses → SameAtom (AreOneName names others) a b
    → IsSolved names p a variables budget r → IsSolved others q b variables budget s → SameSolved names others r s
solved-by_names names others p q a b variables budget r s different apart words other_words both asked h k =
    let any : AreOneName names others p.ids.any q.ids.any =
    (any_below names p.ids words, any_below others q.ids other_words, any_is names p.ids words ∙ sym (any_is others q.ids other_words)) in
    answered_once names others p q a b variables budget any asked
    (λ e d i j. endings_tell (one_to_one names others different apart) budget variables both asked i j) r s h k
