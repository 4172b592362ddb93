-- How a step with a level spells an instance of a rule: it names the rule, and what the rule leaves open.
use Rattle.std.specs.Prelude.{◌≡◌, ℕ, ◌+◌, ◌<◌, false, List, map, Some, slice_get}
use Rattle.fpc_terms.specs.Term.{InScope}
use Rattle.polarised_formulas.specs.declared.logic.Side.TheVariants.{Left, Right}
use Rattle.polarised_formulas.specs.declared.step.Step.{Step}
use Rattle.polarised_formulas.specs.declared.step.Step.TheVariants.{TrueN, FalseN, OrN, AndN, Every, Store, Decide, TrueP, AndP, OrP, Exists, Release, Init, Cut}
use Rattle.polarised_formulas.specs.Formula.{atom, IsProper}
use Rattle.lkf_rules.specs.Sequent.{Sequent, Levelled}
use Rattle.lkf_rules.specs.Rule.{Rule, true_negative, false_negative, or_negative, and_negative, every, store, decide, cut, true_positive, and_positive, or_left, or_right, some, release, initial}

-- The step spells the instance at a level: places count the stored formulas from 0, the eigenvariable of `all` is the level,
-- and a term or cut formula is in scope there.
abbrev pub SpellsRule : {c : Sequent} → {cs : List Sequent} → Step → ℕ → Rule c cs → Type 0
SpellsRule step n (true_negative s g) = step ≡ TrueN
SpellsRule step n (false_negative s g) = step ≡ FalseN
SpellsRule step n (or_negative s g a b) = step ≡ OrN
SpellsRule step n (and_negative s g a b) = step ≡ AndN
SpellsRule step n (every s g a j fresh) = (step ≡ Every) × (j ≡ n)
SpellsRule step n (store s g f storable) = step ≡ Store
SpellsRule step n (decide s f stands positive) = (k : ℕ) × (step ≡ Decide k) × (slice_get s k ≡ Some f)
SpellsRule step n (cut s b proper lkf) = (step ≡ Cut b) × IsProper (λ m. m < n) b
SpellsRule step n (true_positive s) = step ≡ TrueP
SpellsRule step n (and_positive s a b) = step ≡ AndP
SpellsRule step n (or_left s a b) = step ≡ OrP Left
SpellsRule step n (or_right s a b) = step ≡ OrP Right
SpellsRule step n (some s a t proper) = (step ≡ Exists t) × InScope n t
SpellsRule step n (release s f negative) = step ≡ Release
SpellsRule step n (initial s name ts stands) = (k : ℕ) × (step ≡ Init k) × (slice_get s k ≡ Some (atom false name ts))

-- the level of an instance's premises: `all` raises it by one
abbrev pub level_above : {c : Sequent} → {cs : List Sequent} → ℕ → Rule c cs → ℕ
level_above n (every s g a j fresh) = n + 1
level_above n _ = n

-- these sequents with their levels are the premises of an instance of a rule that the step spells at the conclusion and its level
abbrev pub IsInstance : Step → ℕ → Sequent → List Levelled → Type 0
IsInstance step n c ps = (cs : List Sequent) × (r : Rule c cs) × SpellsRule step n r × (ps ≡ map (λ d. (level_above n r, d)) cs)
