-- What `verify` answers, by the bytes that it took: what the check in any calculus answers, at LKF.
use Rattle.std.specs.Prelude.{◌≡◌, ℕ, List, Option, Result}
use Rattle.fpc_base.specs.Outside.{Rose, TakesFront}
use Rattle.fpc_terms.specs.Adding.{AddsOnly}
use Rattle.polarised_formulas.specs.Adding.{IsPartOf}
use Rattle.polarised_formulas.specs.Formula.{Formula}
use Rattle.lkf_rules.specs.Lkf.{lkf}
use Rattle.explicit_kernel.specs.VerdictIn.{IsJudged as IsJudgedIn, HasFitted as HasFittedIn, IsRight as IsRightIn}
pub use Rattle.explicit_kernel.specs.VerdictIn.{most_ahead, IsShown}
use Rattle.explicit_kernel.specs.declared.verify.Verdict.{Verdict}
use Rattle.explicit_kernel.specs.declared.verify.VerifyRefusal.{VerifyRefusal}
use Rattle.explicit_kernel.specs.declared.verify.VerifyRefusal.TheVariants.{Refused, ReadFault, OutOfMemory}

-- a front of the bytes of a certificate for the goal shows nothing, and so many steps have fitted
-- in it
abbrev pub HasFitted : (List ℕ → ℕ) → Formula → List ℕ → ℕ → Type 0
HasFitted number goal bytes n = HasFittedIn lkf number goal bytes n

-- Some bytes were taken from the front of a source, and they show the answer of a certificate for
-- the goal.
abbrev pub IsJudged : List (List ℕ) → Formula → Option (List ℕ) → Option (List ℕ) → ℕ → ℕ
    → Result Verdict VerifyRefusal → Type 0
IsJudged names goal old new before now answer = IsJudgedIn lkf names goal old new before now answer

-- a goal that is accepted in so many steps has a spelling of them, and is derivable
abbrev pub IsRight : Formula → Verdict → Type 0
IsRight goal verdict = IsRightIn lkf goal verdict

-- some bytes were taken from the front of a source, and each name that came into the table is a
-- part of them
pub record AddsRead (old new : Option (List ℕ)) (names more : List (List ℕ)) : Type 0 where
  pub bytes : List ℕ
  pub taken : TakesFront old bytes new
  pub only : AddsOnly (IsPartOf bytes) names more

-- why there is no verdict, by the counts of faults before and now
abbrev pub HasReason : ℕ → ℕ → VerifyRefusal → Type 0
HasReason before now (Refused r) = now ≡ before
HasReason before now ReadFault = Rose before now
HasReason before now OutOfMemory = now ≡ before
