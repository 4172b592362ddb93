-- The cut formulas of a guided derivation are nested no deeper than declared formulas.
use Rattle.std.proofs.Common.{◌≡◌, ℕ, ◌≤◌, List, [], ◌∷◌, ◌++◌, sym, subst}
use Rattle.std.specs.List.{All}
use Rattle.std.proofs.lemmas.List.Elements.{All-nil, All-cons, All-append, All-contains}
use Rattle.fpc_terms.specs.Term.{Term}
use Rattle.polarised_formulas.specs.declared.step.Step.{Step}
use Rattle.polarised_formulas.specs.declared.step.Step.TheVariants.{TrueN, FalseN, OrN, AndN, Every, Store, Decide, TrueP, AndP, OrP, Exists, Release, Init, Cut}
use Rattle.polarised_formulas.specs.OpenFormula.{put_formula}
use Rattle.polarised_formulas.specs.Size.{IsShallowStep}
use Rattle.polarised_formulas.proofs.OpenedPutFacts.{depth-put}
use Rattle.clause_language.specs.Program.{IsDeclarationOf}
use Rattle.clause_language.specs.declared.program.Program.{Program}
use Rattle.lkf_kernel.specs.Guided.{Guided, true_negative, false_negative, or_negative, and_negative, every, store, decide, cut_by, true_positive, and_positive, or_positive, some, release, initial}
use Rattle.lkf_kernel.specs.declared.sequent.Sequent.{Sequent}

module _ (p : Program) (declared : All (IsDeclarationOf p.logic) p.declared) where
  alone : (e : Step) → IsShallowStep e → All IsShallowStep (e ∷ [])
  alone e h = All-cons IsShallowStep e [] h (All-nil IsShallowStep)

  pub guided_is_shallow : {x : Term} {n : ℕ} {q : Sequent} {us : List Step} → Guided p x n q us → All IsShallowStep us
  guided_is_shallow true_negative = alone TrueN tt
  guided_is_shallow (false_negative {us = us} s d) = All-cons IsShallowStep FalseN us tt (guided_is_shallow d)
  guided_is_shallow (or_negative {us = us} s d) = All-cons IsShallowStep OrN us tt (guided_is_shallow d)
  guided_is_shallow (and_negative {us = us} {vs = vs} s d e) =
      All-cons IsShallowStep AndN (us ++ vs) tt (All-append IsShallowStep us vs (guided_is_shallow d) (guided_is_shallow e))
  guided_is_shallow (every {us = us} s fresh d) = All-cons IsShallowStep Every us tt (guided_is_shallow d)
  guided_is_shallow (store {us = us} s storable d) = All-cons IsShallowStep Store us tt (guided_is_shallow d)
  guided_is_shallow (decide {k = k} {us = us} s at positive d) = All-cons IsShallowStep (Decide k) us tt (guided_is_shallow d)
  guided_is_shallow (cut_by {us = us} {vs = vs} o ts s one scope d e) =
      let deep = (All-contains (IsDeclarationOf p.logic) p.declared o declared one).deep in
      All-cons IsShallowStep (Cut (put_formula ts o.formula)) (us ++ vs) (subst (λ k. k ≤ 10000) (sym (depth-put ts o.formula)) deep)
      (All-append IsShallowStep us vs (guided_is_shallow d) (guided_is_shallow e))
  guided_is_shallow (true_positive s) = alone TrueP tt
  guided_is_shallow (and_positive {us = us} {vs = vs} s d e) =
      All-cons IsShallowStep AndP (us ++ vs) tt (All-append IsShallowStep us vs (guided_is_shallow d) (guided_is_shallow e))
  guided_is_shallow (or_positive {us = us} side s d) = All-cons IsShallowStep (OrP side) us tt (guided_is_shallow d)
  guided_is_shallow (some {t = t} {us = us} s scope d) = All-cons IsShallowStep (Exists t) us tt (guided_is_shallow d)
  guided_is_shallow (release {us = us} s negative d) = All-cons IsShallowStep Release us tt (guided_is_shallow d)
  guided_is_shallow (initial {k = k} s at) = alone (Init k) tt
