-- What was read of a problem is nested at most 10,000 deep, and each name has at most 255 arguments.
use Rattle.std.proofs.Common.{◌≡◌, ℕ, suc, ◌+◌, ◌<◌, ◌≤◌, Bool, true, false, if◌then◌else◌, List, [], ◌∷◌, ◌++◌, length, refl, ap, sym, subst, arith, Some, Ok}
use Rattle.fpc_base.specs.declared.tokens.lexeme.Sign.TheVariants as sign
use Rattle.fpc_base.specs.Lexeme.{Lexeme, a_name, a_variable, a_sign, Item}
use Rattle.fpc_base.specs.Reading.{ReadsAll}
use Rattle.fpc_terms.specs.Written.{WrittenTerm, WrittenArgs, variable_word, application, no_words, words, term_tokens, args_tokens, more_tokens, IsKnown, AreKnown}
use Rattle.fpc_terms.specs.Spot.{Spot, in_arguments, in_term}
use Rattle.fpc_terms.specs.Machine as term
use Rattle.fpc_terms.proofs.TermLaws.{IsBehind, more-behind}
use Rattle.polarised_formulas.specs.declared.logic.Logic.{Logic}
use Rattle.polarised_formulas.specs.declared.logic.Logic.TheVariants.{Lkf, Ljf}
use Rattle.polarised_formulas.specs.declared.logic.Polarity.{Polarity}
use Rattle.polarised_formulas.specs.declared.logic.Polarity.TheVariants.{Positive, Negative}
use Rattle.polarised_formulas.specs.declared.connective.Joiner.{Joiner}
use Rattle.polarised_formulas.specs.declared.connective.Binder.{Binder}
use Rattle.polarised_formulas.specs.declared.connective.Binder.TheVariants.{ForAll, Exists}
use Rattle.polarised_formulas.specs.Written.{WrittenFormula, true_unit, false_unit, literal, pair, bind, formula_tokens, mark_tokens, joiner_sign, binder_sign, IsJoinerOf, IsFalseOf, IsBound, IsWrittenIn, is_known, WrittenProblem, IsProblem, logic_word}
use Rattle.polarised_formulas.specs.Place.{Place, whole, in_first, in_second, under, scope_at, nesting, ProblemLimits}
use Rattle.polarised_formulas.specs.Machine.{FormulaState, wants, named, in_atom, has, stuck, joined, within_atom, step, run, whole_of, is_deep, is_full, within, ProblemState, start, reading as reading_of, problem_step, limited_problem, read_within}
use Rattle.polarised_formulas.proofs.States.{IsLive}
use Rattle.polarised_formulas.proofs.Sound.{live-run}
use Rattle.polarised_formulas.proofs.Complete.{joiner_of-joiner_sign, joiner-behind, run-ends}
use Rattle.polarised_formulas.proofs.FormulaLaws.{whole-live}
use Rattle.polarised_formulas.proofs.ProblemLaws.{formula-append, step-dot, start-word, reading-step}
use Rattle.polarised_formulas.specs.Spoken.{Says}
use Rattle.polarised_formulas.proofs.Small.{written_depth, words_count, IsSmall, AreSmall, HasSmall}
use Rattle.polarised_formulas.proofs.Fits.{Fits, less-than}
use Rattle.polarised_formulas.proofs.Takes.{TakesAll, Taken-read}

module _ (logic : Logic) (parameters : List (List ℕ)) (positive : Bool) (x : List ℕ) (p : Place) where
  abbrev FitsIn : term.TermState → List Lexeme → Type 0
  FitsIn t cs = Fits logic parameters (in_atom positive x t p) cs

  abbrev known_here : List ℕ → Bool
  known_here = is_known parameters (scope_at p)

  passed-name : (y : List ℕ) (s : Spot) (rest : List Lexeme) → IsBehind rest → FitsIn (term.named y s) rest → FitsIn (term.has (application y no_words) s) rest
  passed-name y s [] b h = absurd b
  passed-name y s (a_sign sign.OpenParenthesis ∷ rest) b h = absurd b
  passed-name y s (c ∷ rest) b h = h

  passed-variable : (y : List ℕ) (s : Spot) (rest : List Lexeme) → known_here y ≡ true → FitsIn (term.wants s) (a_variable y ∷ rest)
      → FitsIn (term.has (variable_word y) s) rest
  passed-variable y s rest k h =
      let F : Bool → Type 0 = λ v. Fits logic parameters (within_atom positive x p (if v then term.has (variable_word y) s else term.stuck)) rest in
      subst F k h.2

  mutual
    passed-term : (u : WrittenTerm) (s : Spot) (rest : List Lexeme) → IsKnown known_here u → IsBehind rest → FitsIn (term.wants s) (term_tokens u rest)
        → IsSmall u × FitsIn (term.has u s) rest
    passed-term (variable_word y) s rest k b h = (tt, passed-variable y s rest k h)
    passed-term (application y no_words) s rest k b h = ((omega arith, tt), passed-name y s rest b h.2)
    passed-term (application y (words t ts)) s rest k b h =
        let first = passed-term t (in_term y [] s) (more_tokens ts rest) k.0 (more-behind ts rest) h.2.2 in
        let later = passed-more y [] t ts s rest k.1 (omega arith) first.1 in
        ((omega (arith, later.1), (first.0, later.0)), later.2)

    passed-more : (y : List ℕ) (ds : List WrittenTerm) (u : WrittenTerm) (ts : WrittenArgs) (s : Spot) (rest : List Lexeme) → AreKnown known_here ts
        → length ds < 255 → FitsIn (term.has u (in_term y ds s)) (more_tokens ts rest)
        → AreSmall ts × (suc (length ds) + words_count ts ≤ 255) × FitsIn (term.has (application y (term.args_with ds (words u ts))) s) rest
    passed-more y ds u no_words s rest k lt h = (tt, omega (arith, lt), h.2)
    passed-more y ds u (words t ts) s rest k lt h =
        let less : suc (length ds) < 255 = less-than (suc (length ds)) 255 h.1 (omega (arith, lt)) in
        let first = passed-term t (in_term y (u ∷ ds) s) (more_tokens ts rest) k.0 (more-behind ts rest) h.2 in
        let later = passed-more y (u ∷ ds) t ts s rest k.1 less first.1 in
        ((first.0, later.0), omega (arith, later.1), later.2)

  passed-more_arguments : (ds : List WrittenTerm) (u : WrittenTerm) (ts : WrittenArgs) (rest : List Lexeme) → AreKnown known_here ts
      → length ds < 255 → FitsIn (term.has u (in_arguments ds)) (more_tokens ts rest)
      → AreSmall ts × (suc (length ds) + words_count ts ≤ 255) × Fits logic parameters (has (literal positive x (term.args_with ds (words u ts))) p) rest
  passed-more_arguments ds u no_words rest k lt h = (tt, omega (arith, lt), h.2)
  passed-more_arguments ds u (words t ts) rest k lt h =
      let less : suc (length ds) < 255 = less-than (suc (length ds)) 255 h.1 (omega (arith, lt)) in
      let first = passed-term t (in_arguments (u ∷ ds)) (more_tokens ts rest) k.0 (more-behind ts rest) h.2 in
      let later = passed-more_arguments (u ∷ ds) t ts rest k.1 less first.1 in
      ((first.0, later.0), omega (arith, later.1), later.2)

  passed-no_arguments : (rest : List Lexeme) → IsBehind rest → Fits logic parameters (named positive x p) rest
      → Fits logic parameters (has (literal positive x no_words) p) rest
  passed-no_arguments [] b h = absurd b
  passed-no_arguments (a_sign sign.OpenParenthesis ∷ rest) b h = absurd b
  passed-no_arguments (c ∷ rest) b h = h

  passed-named : (ts : WrittenArgs) (rest : List Lexeme) → AreKnown known_here ts → IsBehind rest → Fits logic parameters (named positive x p) (args_tokens ts rest)
      → (words_count ts ≤ 255) × AreSmall ts × Fits logic parameters (has (literal positive x ts) p) rest
  passed-named no_words rest k b h = (omega arith, tt, passed-no_arguments rest b h)
  passed-named (words t ts) rest k b h =
      let first = passed-term t (in_arguments []) (more_tokens ts rest) k.0 (more-behind ts rest) h.2 in
      let later = passed-more_arguments [] t ts rest k.1 (omega arith) first.1 in
      (omega (arith, later.1), (first.0, later.0), later.2)

passed-mark : (logic : Logic) (parameters : List (List ℕ)) (positive : Bool) (x : List ℕ) (p : Place) (rest : List Lexeme)
    → Fits logic parameters (wants p) (mark_tokens logic positive (a_name x ∷ rest)) → (is_deep (wants p) ≡ false) × Fits logic parameters (named positive x p) rest
passed-mark Lkf parameters true x p rest h = (h.0, h.2)
passed-mark Lkf parameters false x p rest h = (h.0, h.2.2)
passed-mark Ljf parameters true x p rest h = (h.0, h.2.2)
passed-mark Ljf parameters false x p rest h = (h.0, h.2.2)

passed-true : (logic : Logic) (parameters : List (List ℕ)) (k : Polarity) (p : Place) (rest : List Lexeme)
    → Fits logic parameters (wants p) (formula_tokens logic (true_unit k) rest) → (is_deep (wants p) ≡ false) × Fits logic parameters (has (true_unit k) p) rest
passed-true logic parameters Positive p rest h = (h.0, h.2)
passed-true logic parameters Negative p rest h = (h.0, h.2)

passed-false : (logic : Logic) (parameters : List (List ℕ)) (k : Polarity) (p : Place) (rest : List Lexeme) → IsFalseOf logic k
    → Fits logic parameters (wants p) (formula_tokens logic (false_unit k) rest) → (is_deep (wants p) ≡ false) × Fits logic parameters (has (false_unit k) p) rest
passed-false Lkf parameters Positive p rest l h = (h.0, h.2)
passed-false Lkf parameters Negative p rest l h = (h.0, h.2)
passed-false Ljf parameters Positive p rest l h = (h.0, h.2)
passed-false Ljf parameters Negative p rest l h = absurd l

-- what the limits let pass
pub record IsWithin (logic : Logic) (parameters : List (List ℕ)) (w : WrittenFormula) (p : Place) (rest : List Lexeme) : Type 0 where
  pub deep : nesting p + written_depth w ≤ 10001
  pub small : HasSmall w
  pub fits : Fits logic parameters (has w p) rest

module _ (logic : Logic) (parameters : List (List ℕ)) where
  passed-join : (j : Joiner) (a : WrittenFormula) (p : Place) (rest : List Lexeme) → IsJoinerOf logic j
      → Fits logic parameters (has a (in_first p)) (a_sign (joiner_sign logic j) ∷ rest) → Fits logic parameters (wants (in_second j a p)) rest
  passed-join j a p rest l h = subst (λ o. Fits logic parameters (joined o a p) rest) (joiner_of-joiner_sign logic j l) h.2

  passed-binder : (q : Binder) (x : List ℕ) (p : Place) (rest : List Lexeme)
      → Fits logic parameters (wants p) (a_sign (binder_sign q) ∷ a_variable x ∷ a_sign sign.Colon ∷ rest)
      → (is_deep (wants p) ≡ false) × Fits logic parameters (wants (under q x p)) rest
  passed-binder ForAll x p rest h = (h.0, h.2.2.2)
  passed-binder Exists x p rest h = (h.0, h.2.2.2)

  passed-under : (q : Binder) (x : List ℕ) (w : WrittenFormula) (p : Place) (rest : List Lexeme) → IsBehind rest → Fits logic parameters (has w (under q x p)) rest
      → Fits logic parameters (has (bind q x w) p) rest
  passed-under q x w p [] b h = absurd b
  passed-under q x w p (c ∷ rest) b h = h

  not-deeper : (p : Place) → is_deep (wants p) ≡ false → nesting p ≤ 10001 → nesting p < 10001
  not-deeper p h le = less-than (nesting p) 10001 h le

  -- what passes is within the limits
  pub passed-formula : (w : WrittenFormula) (p : Place) (rest : List Lexeme) → IsBound parameters (scope_at p) w → IsWrittenIn logic w → IsBehind rest
      → nesting p ≤ 10001 → Fits logic parameters (wants p) (formula_tokens logic w rest) → IsWithin logic parameters w p rest
  passed-formula (true_unit k) p rest known l b le h =
      let s = passed-true logic parameters k p rest h in
      let lt = not-deeper p s.0 le in
      record { deep = omega (arith, lt); small = tt; fits = s.1 }
  passed-formula (false_unit k) p rest known l b le h =
      let s = passed-false logic parameters k p rest l h in
      let lt = not-deeper p s.0 le in
      record { deep = omega (arith, lt); small = tt; fits = s.1 }
  passed-formula (literal positive x args) p rest known l b le h =
      let s = passed-mark logic parameters positive x p (args_tokens args rest) h in
      let lt = not-deeper p s.0 le in
      let a = passed-named logic parameters positive x p args rest known b s.1 in
      record { deep = omega (arith, lt); small = (a.0, a.1); fits = a.2 }
  passed-formula (pair j a c) p rest known l b le h =
      let last : List Lexeme = formula_tokens logic c (a_sign sign.CloseParenthesis ∷ rest) in
      let lt = not-deeper p h.0 le in
      let first = passed-formula a (in_first p) (a_sign (joiner_sign logic j) ∷ last) known.0 l.1 (joiner-behind logic j last) (omega (arith, lt)) h.2 in
      let second = passed-formula c (in_second j a p) (a_sign sign.CloseParenthesis ∷ rest) known.1 l.2 tt (omega (arith, lt)) (passed-join j a p last l.0 first.fits) in
      record { deep = omega (arith, first.deep, second.deep); small = (first.small, second.small); fits = second.fits.2 }
  passed-formula (bind q x a) p rest known l b le h =
      let s = passed-binder q x p (formula_tokens logic a rest) h in
      let lt = not-deeper p s.0 le in
      let body = passed-formula a (under q x p) rest known l b (omega (arith, lt)) s.1 in
      record { deep = omega (arith, body.deep); small = body.small; fits = passed-under q x a p rest b body.fits }

-- what the machine of problems takes is within the limits
module _ (logic : Logic) where
  within-taken : (deep full : Bool) (t : FormulaState) (u : ProblemState) → read_within logic (within deep full t) ≡ Ok u → (deep ≡ false) × (full ≡ false)
  within-taken deep full stuck u e = cc
  within-taken true full t u e = cc
  within-taken false true t u e = cc
  within-taken false false t u e = (refl, refl)

  taken-within : (s : FormulaState) (c : Lexeme) (u : ProblemState) → IsLive (step logic [] s c) → limited_problem (reading_of logic s) c ≡ Ok u
      → (is_deep s ≡ false) × (is_full (step logic [] s c) ≡ false)
  taken-within s (a_sign sign.Dot) u live e = absurd (subst IsLive (step-dot logic [] s) live)
  taken-within s c u live e = within-taken (is_deep s) (is_full (step logic [] s c)) (step logic [] s c) u e

  whole-shallow : (s : FormulaState) (w : WrittenFormula) → whole_of s ≡ Some w → is_deep s ≡ false
  whole-shallow (wants p) w e = cc
  whole-shallow _ w e = refl

  taken-fits : (cs : List Lexeme) (s : FormulaState) (w : WrittenFormula) → whole_of (run logic [] s cs) ≡ Some w
      → TakesAll (reading_of logic s) (cs ++ a_sign sign.Dot ∷ []) → Fits logic [] s (cs ++ a_sign sign.Dot ∷ [])
  taken-fits [] s w e h = (whole-shallow s w e, ap is_full (step-dot logic [] s), tt)
  taken-fits (c ∷ cs) s w e h =
      let live : IsLive (step logic [] s c) = live-run logic [] cs (step logic [] s c) (whole-live (run logic [] (step logic [] s c) cs) w e) in
      let small = taken-within s c (problem_step (reading_of logic s) c) live h.0 in
      let next : problem_step (reading_of logic s) c ≡ reading_of logic (step logic [] s c) = reading-step logic s c live in
      (small.0, small.1, taken-fits cs (step logic [] s c) w e (subst (λ t. TakesAll t (cs ++ a_sign sign.Dot ∷ [])) next h.1))

  taken-formula : (w : WrittenFormula) → IsBound [] [] w → IsWrittenIn logic w
      → TakesAll start (logic_word logic ∷ formula_tokens logic w (a_sign sign.Dot ∷ [])) → IsWithin logic [] w whole (a_sign sign.Dot ∷ [])
  taken-formula w known l h =
      let append : formula_tokens logic w (a_sign sign.Dot ∷ []) ≡ formula_tokens logic w [] ++ a_sign sign.Dot ∷ [] =
      formula-append logic w [] (a_sign sign.Dot ∷ []) in
      let taken : TakesAll (reading_of logic (wants whole)) (formula_tokens logic w [] ++ a_sign sign.Dot ∷ []) =
      subst (TakesAll (reading_of logic (wants whole))) append
      (subst (λ s. TakesAll s (formula_tokens logic w (a_sign sign.Dot ∷ []))) (start-word logic) h.1) in
      let fits : Fits logic [] (wants whole) (formula_tokens logic w (a_sign sign.Dot ∷ [])) =
      subst (Fits logic [] (wants whole)) (sym append)
      (taken-fits (formula_tokens logic w []) (wants whole) w (run-ends logic [] w whole known l) taken) in
      passed-formula logic [] w whole (a_sign sign.Dot ∷ []) known l tt (omega arith) fits

-- what was read of a problem
pub record IsRead (items : List Item) (w : WrittenProblem) : Type 0 where
  pub tokens : List Lexeme
  pub said : Says tokens items
  pub is_problem : IsProblem tokens w
  pub deep : written_depth w.formula ≤ 10000
  pub small : HasSmall w.formula

pub IsRead-read : (items : List Item) (w : WrittenProblem) → ReadsAll IsProblem ProblemLimits [] items w → IsRead items w
IsRead-read items w h =
    let t = Taken-read [] items w h in
    let takes : TakesAll start (logic_word w.logic ∷ formula_tokens w.logic w.formula (a_sign sign.Dot ∷ [])) = subst (TakesAll start) t.is_whole.spelled t.takes in
    let in_limits = taken-formula w.logic w.formula t.is_whole.is_bound t.is_whole.in_logic takes in
    record {
      tokens = t.tokens;
      said = t.said;
      is_problem = t.is_whole;
      deep = let d = in_limits.deep in omega (arith, d);
      small = in_limits.small;
    }
