-- A token behind others is refused or taken as the machine says.
use Rattle.std.proofs.Common.{◌≡◌, ◌↔◌, ◌⊎◌, inl, inr, ℕ, Bool, true, false, List, [], ◌∷◌, ◌++◌, refl, ap, sym, subst, ◌∙◌, length, Result, Ok, Err}
use Rattle.std.proofs.lemmas.Bool.Decides.{Decides-eqb}
use Rattle.std.proofs.lemmas.Bool.{false≢true}
use Rattle.fpc_base.specs.declared.refusal.Code.{Code}
use Rattle.fpc_base.specs.declared.refusal.Code.TheVariants.{Unexpected}
use Rattle.fpc_base.specs.Lexeme.{Lexeme}
use Rattle.fpc_base.specs.Reading.{IsTaken, IsRefused, unexpected, limited as limit}
use Rattle.fpc_terms.specs.Spot.{done_at}
use Rattle.fpc_terms.specs.Machine as term
use Rattle.polarised_formulas.specs.declared.logic.Logic.{Logic}
use Rattle.polarised_formulas.specs.Written.{IsFormula}
use Rattle.polarised_formulas.specs.Place.{Place, nesting, FormulaLimits, too_deep, many_arguments, LeadsTo, LeadsInto}
use Rattle.polarised_formulas.specs.Machine.{FormulaState, wants, in_atom, stuck, step, is_deep, is_full, within, limited}
use Rattle.polarised_formulas.proofs.States.{IsLive}
use Rattle.polarised_formulas.proofs.Sound.{live-run}
use Rattle.fpc_base.proofs.ReadingLaws.{taken-refused, refused-once}
use Rattle.polarised_formulas.proofs.FormulaLaws.{formula-once, state_behind, BeginsFormula, state_behind-step, step-begins, begins-step, state-leads_to, leads_to-state, state-leads_into, leads_into-state}

module _ (logic : Logic) (parameters : List (List ℕ)) where
  deep-leads : (tokens : List Lexeme) (s : FormulaState) → state_behind logic parameters tokens ≡ s → is_deep s ≡ true → LeadsTo logic parameters 10001 tokens
  deep-leads tokens (wants p) r e = state-leads_to logic parameters 10001 tokens p r ((Decides-eqb (nesting p) 10001).0 e)
  deep-leads tokens _ r e = cc

  leads-deep : (tokens : List Lexeme) → LeadsTo logic parameters 10001 tokens → is_deep (state_behind logic parameters tokens) ≡ true
  leads-deep tokens l = ap is_deep (leads_to-state logic parameters 10001 tokens l) ∙ (Decides-eqb (nesting l.place) 10001).1 l.deep

  full-term : (tokens : List Lexeme) (positive : Bool) (x : List ℕ) (t : term.TermState) (p : Place)
      → state_behind logic parameters tokens ≡ in_atom positive x t p → term.is_full t ≡ true → LeadsInto logic parameters 255 tokens
  full-term tokens positive x (term.wants s) p r e = state-leads_into logic parameters 255 tokens positive x s p r ((Decides-eqb (length (done_at s)) 255).0 e)
  full-term tokens positive x _ p r e = cc

  full-leads : (tokens : List Lexeme) (s : FormulaState) → state_behind logic parameters tokens ≡ s → is_full s ≡ true → LeadsInto logic parameters 255 tokens
  full-leads tokens (in_atom positive x t p) r e = full-term tokens positive x t p r e
  full-leads tokens _ r e = cc

  leads-full : (tokens : List Lexeme) → LeadsInto logic parameters 255 tokens → is_full (state_behind logic parameters tokens) ≡ true
  leads-full tokens l = ap is_full (leads_into-state logic parameters 255 tokens l) ∙ (Decides-eqb (length (done_at l.spot)) 255).1 l.behind

  -- what the answer about a token says, where its step leads to a state
  abbrev pub IsJudged : List Lexeme → Lexeme → FormulaState → Result FormulaState Code → Type 0
  IsJudged before c t (Ok u) = IsTaken (IsFormula logic parameters) (FormulaLimits logic parameters) before c × (t ≡ u)
  IsJudged before c t (Err code) = IsRefused (IsFormula logic parameters) (FormulaLimits logic parameters) before c code

  free : (before : List Lexeme) (c : Lexeme) → is_deep (state_behind logic parameters before) ≡ false
      → is_full (state_behind logic parameters (before ++ c ∷ [])) ≡ false → (code : Code) → FormulaLimits logic parameters before c code → ⊥
  free before c d f _ (too_deep l) = false≢true (sym d ∙ leads-deep before l)
  free before c d f _ (many_arguments n l) = false≢true (sym f ∙ leads-full (before ++ c ∷ []) l)

  judged : (before : List Lexeme) (c : Lexeme) (deep full : Bool) (t : FormulaState) → is_deep (state_behind logic parameters before) ≡ deep → is_full t ≡ full
      → step logic parameters (state_behind logic parameters before) c ≡ t → IsJudged before c t (within deep full t)
  judged before c deep full stuck d f e = unexpected (λ b. subst IsLive e (begins-step logic parameters before c b))
  judged before c true full t d f e =
      limit (step-begins logic parameters before c (rw e tt)) (too_deep (deep-leads before (state_behind logic parameters before) refl d))
  judged before c false true t d f e =
      limit (step-begins logic parameters before c (rw e tt))
      (many_arguments (λ l. false≢true (sym d ∙ leads-deep before l))
      (full-leads (before ++ c ∷ []) t (state_behind-step logic parameters before c ∙ e) f))
  judged before c false false t d f e = (
    record {
      begins = step-begins logic parameters before c (rw e tt);
      free = free before c d (ap is_full (state_behind-step logic parameters before c ∙ e) ∙ f);
    },
    refl,
  )

  -- the limits judge each token
  pub limited-judged : (before : List Lexeme) (c : Lexeme)
      → IsJudged before c (step logic parameters (state_behind logic parameters before) c) (limited logic parameters (state_behind logic parameters before) c)
  limited-judged before c =
      judged before c (is_deep (state_behind logic parameters before)) (is_full (step logic parameters (state_behind logic parameters before) c))
      (step logic parameters (state_behind logic parameters before) c) refl refl refl

-- one limit forbids a token
pub limits-once : (logic : Logic) (parameters : List (List ℕ)) (before : List Lexeme) (c : Lexeme) (a b : Code) → FormulaLimits logic parameters before c a
    → FormulaLimits logic parameters before c b → a ≡ b
limits-once logic parameters before c _ _ (too_deep l) (too_deep m) = refl
limits-once logic parameters before c _ _ (too_deep l) (many_arguments n m) = absurd (n l)
limits-once logic parameters before c _ _ (many_arguments n l) (too_deep m) = absurd (n m)
limits-once logic parameters before c _ _ (many_arguments n l) (many_arguments o m) = refl

module _ (logic : Logic) (parameters : List (List ℕ)) where
  -- the answer about a token behind others
  abbrev pub answer : List Lexeme → Lexeme → Result FormulaState Code
  answer before c = limited logic parameters (state_behind logic parameters before) c

  answer-refused : (before : List Lexeme) (c : Lexeme) (t : FormulaState) (r : Result FormulaState Code) (code : Code)
      → IsJudged logic parameters before c t r → IsRefused (IsFormula logic parameters) (FormulaLimits logic parameters) before c code → r ≡ Err code
  answer-refused before c t (Ok u) code j h = absurd (taken-refused (IsFormula logic parameters) (FormulaLimits logic parameters) j.0 h)
  answer-refused before c t (Err d) code j h =
      ap Err (refused-once (IsFormula logic parameters) (FormulaLimits logic parameters) (formula-once logic parameters) (limits-once logic parameters) j h)

  answer-taken : (before : List Lexeme) (c : Lexeme) (t : FormulaState) (r : Result FormulaState Code) → IsJudged logic parameters before c t r
      → IsTaken (IsFormula logic parameters) (FormulaLimits logic parameters) before c → r ≡ Ok t
  answer-taken before c t (Ok u) j h = ap Ok (sym j.1)
  answer-taken before c t (Err d) j h = absurd (taken-refused (IsFormula logic parameters) (FormulaLimits logic parameters) h j)

  -- a token is refused with a code exactly where the answer is this code
  pub refused-told : (before : List Lexeme) (c : Lexeme) (code : Code)
      → answer before c ≡ Err code ↔ IsRefused (IsFormula logic parameters) (FormulaLimits logic parameters) before c code
  refused-told before c code = (
    λ e. subst (IsJudged logic parameters before c (step logic parameters (state_behind logic parameters before) c)) e (limited-judged logic parameters before c),
    answer-refused before c (step logic parameters (state_behind logic parameters before) c) (answer before c) code (limited-judged logic parameters before c),
  )

  -- a token is taken exactly where the answer is the next state
  pub taken-told : (before : List Lexeme) (c : Lexeme) (t : FormulaState)
      → answer before c ≡ Ok t
      ↔ (IsTaken (IsFormula logic parameters) (FormulaLimits logic parameters) before c × (step logic parameters (state_behind logic parameters before) c ≡ t))
  taken-told before c t = (
    λ e. subst (IsJudged logic parameters before c (step logic parameters (state_behind logic parameters before) c)) e (limited-judged logic parameters before c),
    λ h. answer-taken before c (step logic parameters (state_behind logic parameters before) c) (answer before c) (limited-judged logic parameters before c) h.0 ∙ ap Ok h.1,
  )

  -- no limit forbids a token with `Unexpected`
  pub limits-expected : (before : List Lexeme) (c : Lexeme) (code : Code) → FormulaLimits logic parameters before c code → code ≡ Unexpected → ⊥
  limits-expected before c _ (too_deep l) e = cc
  limits-expected before c _ (many_arguments n l) e = cc

  -- where a limit forbids a token, a formula begins with the tokens before it
  pub limits-live : (cs : List Lexeme) (c : Lexeme) (code : Code) → FormulaLimits logic parameters cs c code → IsLive (state_behind logic parameters cs)
  limits-live cs c _ (too_deep l) = subst IsLive (sym (leads_to-state logic parameters 10001 cs l)) tt
  limits-live cs c _ (many_arguments n l) =
      live-run logic parameters (c ∷ []) (state_behind logic parameters cs)
      (subst IsLive (sym (leads_into-state logic parameters 255 (cs ++ c ∷ []) l) ∙ state_behind-step logic parameters cs c) tt)

  refused-parts : (before : List Lexeme) (c : Lexeme) (code : Code) → IsRefused (IsFormula logic parameters) (FormulaLimits logic parameters) before c code
      → ((code ≡ Unexpected) × (BeginsFormula logic parameters (before ++ c ∷ []) → ⊥))
      ⊎ (BeginsFormula logic parameters (before ++ c ∷ []) × FormulaLimits logic parameters before c code)
  refused-parts before c _ (unexpected n) = inl (refl, n)
  refused-parts before c _ (limit b l) = inr (b, l)

  -- the answer is `Unexpected` exactly where no formula begins so
  pub unexpected-told : (before : List Lexeme) (c : Lexeme) → answer before c ≡ Err Unexpected ↔ (BeginsFormula logic parameters (before ++ c ∷ []) → ⊥)
  unexpected-told before c = (
    λ e. from (refused-parts before c Unexpected ((refused-told before c Unexpected).0 e)),
    λ n. (refused-told before c Unexpected).1 (unexpected n),
  ) where
    from : ((Unexpected ≡ Unexpected) × (BeginsFormula logic parameters (before ++ c ∷ []) → ⊥))
        ⊎ (BeginsFormula logic parameters (before ++ c ∷ []) × FormulaLimits logic parameters before c Unexpected)
        → BeginsFormula logic parameters (before ++ c ∷ []) → ⊥
    from (inl n) b = n.1 b
    from (inr l) b = limits-expected before c Unexpected l.1 refl

  -- it is another code exactly where a formula begins so, and the limit forbids the token
  pub limit-told : (before : List Lexeme) (c : Lexeme) (code : Code) → (code ≡ Unexpected → ⊥)
      → answer before c ≡ Err code ↔ (BeginsFormula logic parameters (before ++ c ∷ []) × FormulaLimits logic parameters before c code)
  limit-told before c code other = (
    λ e. from (refused-parts before c code ((refused-told before c code).0 e)),
    λ l. (refused-told before c code).1 (limit l.0 l.1),
  ) where
    from : ((code ≡ Unexpected) × (BeginsFormula logic parameters (before ++ c ∷ []) → ⊥))
        ⊎ (BeginsFormula logic parameters (before ++ c ∷ []) × FormulaLimits logic parameters before c code)
        → BeginsFormula logic parameters (before ++ c ∷ []) × FormulaLimits logic parameters before c code
    from (inl n) = absurd (other n.0)
    from (inr l) = l
