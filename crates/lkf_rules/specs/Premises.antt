-- The instance of a rule that a step names at a sequent with its level.
use Rattle.std.specs.Prelude.{ℕ, ◌+◌, true, false, ◌&&◌, nat_eq, if◌then◌else◌, List, [], ◌∷◌, ◌++◌, Option, Some, None, slice_get}
use Rattle.fpc_terms.specs.Term.{eigen, same_args}
use Rattle.polarised_formulas.specs.declared.logic.Logic.TheVariants.{Lkf}
use Rattle.polarised_formulas.specs.declared.logic.Polarity.{Polarity}
use Rattle.polarised_formulas.specs.declared.logic.Polarity.TheVariants.{Positive, Negative}
use Rattle.polarised_formulas.specs.declared.logic.Side.TheVariants.{Left, Right}
use Rattle.polarised_formulas.specs.declared.step.Step.{Step}
use Rattle.polarised_formulas.specs.declared.step.Step.TheVariants.{TrueN, FalseN, OrN, AndN, Every, Store, Decide, TrueP, AndP, OrP, Exists, Release, Init, Cut}
use Rattle.polarised_formulas.specs.Formula.{Formula, truth, falsity, atom, conj, disj, for_all, exists, polarity_of, dual_of, open_at}
use Rattle.polarised_formulas.specs.Scope.{is_scoped, may_be_cut}
use Rattle.lkf_rules.specs.Sequent.{Sequent, up, down, Levelled}
use Rattle.lkf_rules.specs.Rule.{is_storable}

-- the premises where a formula is positive
abbrev pub where_positive : Polarity → List Levelled → Option (List Levelled)
where_positive Positive ps = Some ps
where_positive Negative ps = None

-- the premises where a formula is negative
abbrev pub where_negative : Polarity → List Levelled → Option (List Levelled)
where_negative Positive ps = None
where_negative Negative ps = Some ps

-- the premises of a decision on a stored formula, if there is one at the place
abbrev pub decided : ℕ → List Formula → Option Formula → Option (List Levelled)
decided n s None = None
decided n s (Some f) = where_positive (polarity_of f) ((n, down s f) ∷ [])

-- a positive literal closes with its dual
abbrev pub closed_with : Formula → Option Formula → Option (List Levelled)
closed_with (atom true name ts) (Some (atom false name' ts')) = if nat_eq name name' && same_args ts ts' then Some [] else None
closed_with _ _ = None

-- a step of the negative phase on the first worked formula
abbrev pub worked : Step → ℕ → List Formula → Formula → List Formula → Option (List Levelled)
worked TrueN n s (truth Negative) g = Some []
worked FalseN n s (falsity Negative) g = Some ((n, up s g) ∷ [])
worked OrN n s (disj Negative a b) g = Some ((n, up s (a ∷ b ∷ g)) ∷ [])
worked AndN n s (conj Negative a b) g = Some ((n, up s (a ∷ g)) ∷ (n, up s (b ∷ g)) ∷ [])
worked Every n s (for_all a) g = Some ((n + 1, up s (open_at 0 (eigen n) a ∷ g)) ∷ [])
worked Store n s f g = if is_storable f then Some ((n, up (s ++ f ∷ []) g) ∷ []) else None
worked _ n s f g = None

-- a step at a sequent with nothing to work on
abbrev pub chosen : Step → ℕ → List Formula → Option (List Levelled)
chosen (Decide k) n s = decided n s (slice_get s k)
chosen (Cut b) n s = if may_be_cut Lkf n 0 b then Some ((n, up s (b ∷ [])) ∷ (n, up s (dual_of b ∷ [])) ∷ []) else None
chosen _ n s = None

-- a step on the formula under focus
abbrev pub focused : Step → ℕ → List Formula → Formula → Option (List Levelled)
focused TrueP n s (truth Positive) = Some []
focused AndP n s (conj Positive a b) = Some ((n, down s a) ∷ (n, down s b) ∷ [])
focused (OrP Left) n s (disj Positive a b) = Some ((n, down s a) ∷ [])
focused (OrP Right) n s (disj Positive a b) = Some ((n, down s b) ∷ [])
focused (Exists t) n s (exists a) = if is_scoped n 0 t then Some ((n, down s (open_at 0 t a)) ∷ []) else None
focused Release n s f = where_negative (polarity_of f) ((n, up s (f ∷ [])) ∷ [])
focused (Init k) n s f = closed_with f (slice_get s k)
focused _ n s f = None

-- The premises of the instance that a step names, with their levels; none where it names none. A place counts the stored formulas from 0;
-- the eigenvariable of `all` is the conclusion's level; a term or cut formula is in scope at that level, and the cut formula is of LKF.
abbrev pub premises_of : Step → ℕ → Sequent → Option (List Levelled)
premises_of step n (up s (f ∷ g)) = worked step n s f g
premises_of step n (up s []) = chosen step n s
premises_of step n (down s f) = focused step n s f
