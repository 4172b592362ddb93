-- Searches for goals that are the same by their names, by programs that are, have one outcome.
use Rattle.std.proofs.Common.{◌≡◌, ℕ, List, [], sym, subst}
use Rattle.fpc_terms.specs.Open.{constant}
use Rattle.fpc_terms.specs.Same.{SameList, same_nil}
use Rattle.fpc_terms.proofs.SameTerms.{length-same, slice_get-same}
use Rattle.polarised_formulas.specs.Formula.{Formula}
use Rattle.polarised_formulas.specs.declared.step.Step.{Step}
use Rattle.polarised_formulas.specs.Same.{SameFormula}
use Rattle.polarised_formulas.specs.Same.{SameStep}
use Rattle.clause_language.specs.LeastModel.{fits}
use Rattle.clause_language.specs.declared.program.Program.{Program}
use Rattle.search_model.specs.Checking.{trace_of, checking, IsTraced, IsOutcome}
use Rattle.polarised_formulas.specs.OpenFormula.{put_step}
use Rattle.search_model.specs.Run.{Ending, ended, spent}
use Rattle.search_model.specs.Same.{IsOneToOne, SameProgram, SameItem, same_derive, same_item, SameAlternative, same_alternative, SameAnswer, SameEnding, AreSameTables, SameOutcome}
use Rattle.search_model.specs.Search.{item, Alternative, Answer, accepted, rejected, search}
use Rattle.search_model.specs.Table.{ItemOn, derive, Table, calculus_of}
use Rattle.search_model.specs.declared.plain.Outcome.{Outcome}
use Rattle.search_model.specs.declared.plain.Outcome.TheVariants.{Accepted, Rejected, Spent}
use Rattle.search_model.proofs.SameSearches.{search-same, fits-same, EndAlike, told_alike}
use Rattle.search_model.proofs.SameTables.{put_step-same, calculi_of_tables}
use Rattle.search_model.proofs.SameTermParts.{map-same, constant-same, listed, some-same}

module _ {S : ℕ → ℕ → Type 0} (one : IsOneToOne S) (T U : Table) (R : T.SequentOf → U.SequentOf → Type 0) (tables : AreSameTables S T U R)
    (p q : Program) (programs : SameProgram S p q) (f g : Formula) (goals : SameFormula S f g) (budget : ℕ) where
  -- the searches end alike
  checkings-same : SameEnding (SameAnswer S (SameItem S R) (SameStep S)) (checking T p f budget) (checking U q g budget)
  checkings-same =
      subst
      (λ n. SameEnding (SameAnswer S (SameItem S R) (SameStep S)) (checking T p f budget)
      (search (calculus_of U) fits q.clauses budget (item (derive q.term 0 (U.root_of g))) [] n))
      programs.as_many
      (search-same (calculus_of T) (calculus_of U) (SameItem S R) (SameStep S) (calculi_of_tables T U R tables) fits (fits-same one) one programs.clauses
      (item (derive p.term 0 (T.root_of f))) (item (derive q.term 0 (U.root_of g))) (same_item (same_derive 0 programs.terms (tables.roots f g goals))) [] [] same_nil p.variables budget)

  told : (e : Ending (Answer (ItemOn T.SequentOf) Step)) (d : Ending (Answer (ItemOn U.SequentOf) Step)) → checking T p f budget ≡ e → checking U q g budget ≡ d
      → EndAlike S (SameItem S R) (SameStep S) e d
  told e d h k = told_alike S (SameItem S R) (SameStep S) checkings-same h k

  -- the steps of two accepted searches, with `any` for each variable that is left
  traces-same : {a : Alternative (ItemOn T.SequentOf) Step} {b : Alternative (ItemOn U.SequentOf) Step} → SameAlternative S (SameItem S R) (SameStep S) a b
      → SameList (SameStep S) (trace_of p a) (trace_of q b)
  traces-same (same_alternative gs es ts levels) =
      let any : S p.ids.any q.ids.any = some-same S (slice_get-same programs.words 37) in
      map-same (put_step (constant p.ids.any)) (put_step (constant q.ids.any)) (λ d e k. put_step-same (constant p.ids.any) (constant q.ids.any) (constant-same any) k) (listed es)

  accepted-same : (trace more : List Step) (u v : ℕ) → IsTraced T p f budget trace u → IsTraced U q g budget more v → SameOutcome S (Accepted trace u) (Accepted more v)
  accepted-same trace more u v h k =
      let both = told (ended (accepted h.found) u) (ended (accepted k.found) v) h.ends k.ends in
      let steps : SameList (SameStep S) trace more =
      subst (λ w. SameList (SameStep S) w more) (sym h.is_trace) (subst (λ w. SameList (SameStep S) (trace_of p h.found) w) (sym k.is_trace) (traces-same both.0)) in
      (length-same steps, both.1, steps)

  -- the outcome is one
  pub outcome-same : (r s : Outcome) → IsOutcome T p f budget r → IsOutcome U q g budget s → SameOutcome S r s
  outcome-same (Accepted t u) (Accepted m v) h k = accepted-same t m u v h k
  outcome-same (Accepted t u) (Rejected v) h k = told (ended (accepted h.found) u) (ended rejected v) h.ends k
  outcome-same (Accepted t u) Spent h k = told (ended (accepted h.found) u) spent h.ends k
  outcome-same (Rejected u) (Accepted m v) h k = told (ended rejected u) (ended (accepted k.found) v) h k.ends
  outcome-same (Rejected u) (Rejected v) h k = told (ended rejected u) (ended rejected v) h k
  outcome-same (Rejected u) Spent h k = told (ended rejected u) spent h k
  outcome-same Spent (Accepted m v) h k = told spent (ended (accepted k.found) v) h k.ends
  outcome-same Spent (Rejected v) h k = told spent (ended rejected v) h k
  outcome-same Spent Spent h k = tt
