-- A reading that may become whole does so with some bytes.
use Rattle.std.proofs.Common.{◌≡◌, ℕ, Bool, true, List, [], ◌∷◌, ◌++◌, codes, decimal, refl, sym, ap, ◌∙◌, subst, arith, append_assoc}
use Rattle.fpc_terms.specs.Term.{Term, eigen, bound, app, no_args, arg}
use Rattle.polarised_formulas.specs.declared.logic.Logic.{Logic}
use Rattle.polarised_formulas.specs.declared.logic.Logic.TheVariants.{Lkf, Ljf}
use Rattle.polarised_formulas.specs.declared.logic.Polarity.TheVariants.{Positive}
use Rattle.polarised_formulas.specs.Formula.{Formula, truth, falsity, atom, conj, for_all, exists}
use Rattle.polarised_formulas.specs.Text.{mark_text}
use Rattle.polarised_formulas.specs.PlainReading.{conjunction, every, some, binary, operator_text, operators, link_text, Word, true_unit, false_unit, binder, words, word_text, Hole, first_of, second_of, under, depth_of, Around, alone, in_term, in_atom, depth_around, Reading, at_formula, in_word, at_name, in_name, behind_formula, in_operator, at_term, in_function, at_eigen, in_eigen, at_index, in_index, behind_term, args_onto, Use}
use Rattle.polarised_formulas.specs.PlainForm.{begins_name, HasOperator, GivesBack, IsPlainTerm, IsPlainFormula, IsLine, plain_term, plain_formula}
use Rattle.polarised_formulas.proofs.Lookups.{Continues, begins_some-continues, begins_name-snoc, not_keyword-underscore}
use Rattle.polarised_formulas.proofs.Begun.{holes_before, around_before, begun_before, args_before-args_onto, plain_formula-binary, IsLive, IsLiveWord, AreLiveHoles, IsLiveAround}
use Rattle.polarised_formulas.proofs.Live.{HasWord, all_words, all_operators, plain_name, ArePlainTerms-args_onto, IsPlainFormula-binary}

-- with some bytes a line of what is wanted comes out
abbrev pub Completes : (ℕ → List ℕ) → (List ℕ → ℕ) → Logic → Use → (List ℕ → List ℕ) → Type 0
Completes text number logic wanted f = (more : List ℕ) × IsLine text number logic wanted (f more)

module _ (text : ℕ → List ℕ) (number : List ℕ → ℕ) (wanted : Use) where
  moved : (logic : Logic) (f : List ℕ → List ℕ) (more x : List ℕ) → x ≡ f more → IsLine text number logic wanted x → Completes text number logic wanted f
  moved logic f more x e h = (more, subst (IsLine text number logic wanted) e h)

  complete-holes : (logic : Logic) (hs : List Hole) (f : Formula) → AreLiveHoles text number logic wanted hs → IsPlainFormula text number logic (depth_of hs) f
      → Completes text number logic wanted (λ more. holes_before text logic hs (plain_formula text logic (depth_of hs) f more))
  complete-holes logic [] f live p = (10 ∷ [], subst (λ u. IsLine text number logic u (plain_formula text logic 0 f (10 ∷ []))) (sym live) (f, p, refl))
  complete-holes logic (first_of ∷ hs) f live p =
      let c = complete-holes logic hs (conj Positive f (truth Positive)) live (has logic, p, tt) in (codes " &+ tt+)" ++ c.0, c.1)
    where
      has : (l : Logic) → HasOperator l (conjunction Positive)
      has Lkf = tt
      has Ljf = tt
  complete-holes logic (second_of o a ∷ hs) f live p =
      let c = complete-holes logic hs (binary o a f) live.2 (IsPlainFormula-binary text number logic (depth_of hs) o a f live.0 live.1 p) in
      moved logic _ (41 ∷ c.0) _ (ap (holes_before text logic hs) (plain_formula-binary text logic (depth_of hs) o a f c.0)) c.1
  complete-holes logic (under every ∷ hs) f live p = complete-holes logic hs (for_all f) live p
  complete-holes logic (under some ∷ hs) f live p = complete-holes logic hs (exists f) live p

  complete-around : (logic : Logic) (up : Around) (t : Term) → IsLiveAround text number logic wanted up → IsPlainTerm text number (depth_around up) t
      → Completes text number logic wanted (λ more. around_before text logic up (plain_term text t more))
  complete-around logic alone t live p = (10 ∷ [], subst (λ u. IsLine text number logic u (plain_term text t (10 ∷ []))) (sym live) (t, p, refl))
  complete-around logic (in_term f ts up) t live p =
      let c = complete-around logic up (app f (args_onto ts (arg t no_args))) live.2 (live.0, ArePlainTerms-args_onto text number (depth_around up) ts (arg t no_args) live.1 (p, tt)) in
      moved logic _ (41 ∷ c.0) _ (ap (λ x. around_before text logic up (text f ++ x)) (args_before-args_onto text ts t no_args c.0)) c.1
  complete-around logic (in_atom hs positive f ts) t live p =
      let c = complete-holes logic hs (atom positive f (args_onto ts (arg t no_args))) live.2 (live.0, ArePlainTerms-args_onto text number (depth_of hs) ts (arg t no_args) live.1 (p, tt)) in
      moved logic _ (41 ∷ c.0) _ (ap (λ x. holes_before text logic hs (mark_text logic positive ++ (text f ++ x))) (args_before-args_onto text ts t no_args c.0)) c.1

  complete-formula : (logic : Logic) (hs : List Hole) → AreLiveHoles text number logic wanted hs → Completes text number logic wanted (holes_before text logic hs)
  complete-formula logic hs live = let c = complete-holes logic hs (truth Positive) live tt in (codes "tt+" ++ c.0, c.1)

  complete-word : (logic : Logic) (hs : List Hole) (x : Word) → HasWord logic x → AreLiveHoles text number logic wanted hs → Completes text number logic wanted (λ more. holes_before text logic hs (word_text logic x ++ more))
  complete-word logic hs (true_unit p) h live = complete-holes logic hs (truth p) live tt
  complete-word logic hs (false_unit p) h live = complete-holes logic hs (falsity p) live h
  complete-word logic hs (binder q) h live = complete-formula logic (under q ∷ hs) live

  complete-operator : (logic : Logic) (hs : List Hole) (a : Formula) (w : List ℕ) → Continues (link_text logic) (HasOperator logic) w → IsPlainFormula text number logic (depth_of hs) a → AreLiveHoles text number logic wanted hs
      → Completes text number logic wanted (λ more. holes_before text logic hs (40 ∷ plain_formula text logic (depth_of hs) a (32 ∷ (w ++ more))))
  complete-operator logic hs a w next p live =
      let c = complete-formula logic (second_of next.word a ∷ hs) (next.fits, p, live) in
      moved logic _ (next.more ++ c.0) _ (ap (λ x. holes_before text logic hs (40 ∷ plain_formula text logic (depth_of hs) a (32 ∷ x))) (same c.0)) c.1
    where
      same : (x : List ℕ) → operator_text logic next.word ++ 32 ∷ x ≡ w ++ (next.more ++ x)
      same x = sym (append_assoc (operator_text logic next.word) (32 ∷ []) x) ∙ ap (λ v. v ++ x) next.same ∙ append_assoc w next.more x

  module _ (back : GivesBack text number) where
    complete-name : (logic : Logic) (hs : List Hole) (positive : Bool) (w : List ℕ) → begins_name w ≡ true → AreLiveHoles text number logic wanted hs
        → Completes text number logic wanted (λ more. holes_before text logic hs (mark_text logic positive ++ (w ++ more)))
    complete-name logic hs positive w h live =
        let v = w ++ 95 ∷ [] in
        let b = begins_name-snoc w 95 h refl in
        let c = complete-holes logic hs (atom positive (number v) no_args) live (plain_name text number wanted back v b (not_keyword-underscore w), tt) in
        moved logic _ (95 ∷ c.0) _ (ap (λ x. holes_before text logic hs (mark_text logic positive ++ x)) (ap (λ u. u ++ c.0) (back v b) ∙ append_assoc w (95 ∷ []) c.0)) c.1

    complete-function : (logic : Logic) (up : Around) (w : List ℕ) → begins_name w ≡ true → IsLiveAround text number logic wanted up → Completes text number logic wanted (λ more. around_before text logic up (w ++ more))
    complete-function logic up w h live =
        let v = w ++ 95 ∷ [] in
        let b = begins_name-snoc w 95 h refl in
        let c = complete-around logic up (app (number v) no_args) live (plain_name text number wanted back v b (not_keyword-underscore w), tt) in
        moved logic _ (95 ∷ c.0) _ (ap (around_before text logic up) (ap (λ u. u ++ c.0) (back v b) ∙ append_assoc w (95 ∷ []) c.0)) c.1

    complete-in_word : (logic : Logic) (hs : List Hole) (w : List ℕ) → IsLiveWord logic w → AreLiveHoles text number logic wanted hs → Completes text number logic wanted (λ more. holes_before text logic hs (w ++ more))
    complete-in_word Lkf hs w h live = complete-name Lkf hs true w h live
    complete-in_word Ljf hs w h live =
        let next = begins_some-continues (word_text Ljf) w (HasWord Ljf) (words Ljf) (all_words Ljf) h in
        let c = complete-word Ljf hs next.word next.fits live in
        moved Ljf _ (next.more ++ c.0) _ (ap (holes_before text Ljf hs) (ap (λ v. v ++ c.0) next.same ∙ append_assoc w next.more c.0)) c.1

    pub complete-begun : (logic : Logic) (q : Reading) → IsLive text number logic wanted q → Completes text number logic wanted (begun_before text logic q)
    complete-begun logic (at_formula hs) live = complete-formula logic hs live
    complete-begun logic (in_word hs w) live = complete-in_word logic hs w live.0 live.1
    complete-begun logic (at_name hs positive) live = let c = complete-name logic hs positive (97 ∷ []) refl live in (97 ∷ c.0, c.1)
    complete-begun logic (in_name hs positive w) live = complete-name logic hs positive w live.0 live.1
    complete-begun logic (behind_formula hs f) live = complete-holes logic hs f live.1 live.0
    complete-begun logic (in_operator hs a w) live = complete-operator logic hs a w (begins_some-continues (link_text logic) w (HasOperator logic) (operators logic) (all_operators logic) live.1) live.0 live.2
    complete-begun logic (at_term up) live = let c = complete-around logic up (eigen 0) live (omega arith) in (36 ∷ (decimal 0 ++ c.0), c.1)
    complete-begun logic (in_function up w) live = complete-function logic up w live.0 live.1
    complete-begun logic (at_eigen up) live = let c = complete-around logic up (eigen 0) live (omega arith) in (decimal 0 ++ c.0, c.1)
    complete-begun logic (in_eigen up k) live = complete-around logic up (eigen k) live.1 live.0
    complete-begun logic (at_index up) live = let c = complete-around logic up (bound 0) live.1 (live.0, omega arith) in (decimal 0 ++ c.0, c.1)
    complete-begun logic (in_index up k) live = complete-around logic up (bound k) live.2 (live.0, live.1)
    complete-begun logic (behind_term up t) live = complete-around logic up t live.1 live.0
