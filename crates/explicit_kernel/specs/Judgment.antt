-- The judgment of an explicit certificate of LKF: that of any calculus, at the rules of LKF.
use Rattle.std.specs.Prelude.{ℕ, List}
use Rattle.polarised_formulas.specs.Formula.{Formula}
use Rattle.lkf_rules.specs.Sequent.{Sequent}
use Rattle.lkf_rules.specs.Lkf.{lkf}
use Rattle.explicit_kernel.specs.JudgmentIn.{Judgment as TheJudgment, Course as CourseIn, course_of as course_in, judgment as judgment_in}
pub use Rattle.explicit_kernel.specs.JudgmentIn.{Judgment, accepted, rejected, refused, going, judged, at_end}

-- how far the judgment has come
abbrev pub Course : Type 0
Course = CourseIn Sequent

-- what the bytes of a certificate for the goal have shown
abbrev pub course_of : (List ℕ → ℕ) → Formula → List ℕ → Course
course_of number goal bytes = course_in lkf number goal bytes

-- the judgment of a whole certificate for the goal
abbrev pub judgment : (List ℕ → ℕ) → Formula → List ℕ → TheJudgment
judgment number goal bytes = judgment_in lkf number goal bytes
