-- What the steps of a proof bring in.
use Rattle.fpc_terms.specs.Term.{IsProperTerm, Always}
use Rattle.polarised_formulas.specs.declared.step.Step.{Step}
use Rattle.polarised_formulas.specs.declared.step.Step.TheVariants.{TrueN, FalseN, OrN, AndN, Every, Store, Decide, TrueP, AndP, OrP, Exists, Release, Init, Cut, FocLEvery, FocRExists}
use Rattle.polarised_formulas.specs.declared.logic.Logic.{Logic}
use Rattle.polarised_formulas.specs.declared.logic.Logic.TheVariants.{Lkf, Ljf}
use Rattle.polarised_formulas.specs.Formula.{IsProper, IsOfLogic}

-- the term or cut formula that a step of the logic names has no variable and no free bound index; the formula is of the logic
abbrev pub IsProperStep : Logic → Step → Type 0
IsProperStep logic (Exists t) = IsProperTerm Always t
IsProperStep logic (Cut b) = IsProper Always b × IsOfLogic logic b
IsProperStep logic (FocLEvery t) = IsProperTerm Always t
IsProperStep logic (FocRExists t) = IsProperTerm Always t
IsProperStep logic _ = Unit {0}

-- the step is one of LKF
abbrev pub IsLkfStep : Step → Type 0
IsLkfStep TrueN = Unit {0}
IsLkfStep FalseN = Unit {0}
IsLkfStep OrN = Unit {0}
IsLkfStep AndN = Unit {0}
IsLkfStep Every = Unit {0}
IsLkfStep Store = Unit {0}
IsLkfStep (Decide k) = Unit {0}
IsLkfStep TrueP = Unit {0}
IsLkfStep AndP = Unit {0}
IsLkfStep (OrP side) = Unit {0}
IsLkfStep (Exists t) = Unit {0}
IsLkfStep Release = Unit {0}
IsLkfStep (Init k) = Unit {0}
IsLkfStep (Cut f) = Unit {0}
IsLkfStep _ = ⊥

-- the step is one of LJF
abbrev pub IsLjfStep : Step → Type 0
IsLjfStep TrueN = ⊥
IsLjfStep FalseN = ⊥
IsLjfStep OrN = ⊥
IsLjfStep AndN = ⊥
IsLjfStep Every = ⊥
IsLjfStep Store = ⊥
IsLjfStep (Decide k) = ⊥
IsLjfStep TrueP = ⊥
IsLjfStep AndP = ⊥
IsLjfStep (OrP side) = ⊥
IsLjfStep (Exists t) = ⊥
IsLjfStep Release = ⊥
IsLjfStep (Init k) = ⊥
IsLjfStep _ = Unit {0}

-- the step is one of the logic
abbrev pub IsStepOf : Logic → Step → Type 0
IsStepOf Lkf s = IsLkfStep s
IsStepOf Ljf s = IsLjfStep s
