-- What a reader of a term or a formula does with many bytes.
use Rattle.std.specs.Prelude.{◌≡◌, ℕ, ◌<◌, List, [], ◌∷◌, length, take, None, Result, Ok, Err, slice_index}
use Rattle.fpc_base.specs.declared.refusal.TokenRefusal.{TokenRefusal}
use Rattle.polarised_formulas.specs.declared.logic.Logic.{Logic}
use Rattle.polarised_formulas.specs.declared.plain.reader.Progress as progress
use Rattle.polarised_formulas.specs.declared.plain.reader.PlainReader.{PlainReader}
use Rattle.polarised_formulas.specs.PlainReading.{Reading, on, next}
use Rattle.polarised_formulas.specs.PlainLimits.{nesting, limit_of}
use Rattle.polarised_formulas.specs.PlainStanding.{Stands, IsNext}

-- the bytes lead from a reading to another, and nothing is told of any of them
abbrev pub Reaches : (List ℕ → ℕ) → Logic → Reading → List ℕ → Reading → Type 0
Reaches number logic q [] s = q ≡ s
Reaches number logic q (b ∷ bs) s = (r : Reading) × (next number logic q b ≡ on r) × (limit_of q r ≡ None) × Reaches number logic r bs s

-- So many of the bytes behind a reading were passed, and this is the answer to the one behind them.
pub record IsStop (number : List ℕ → ℕ) (logic : Logic) (q : Reading) (bytes : List ℕ) (n : ℕ) (result : Result progress.Progress TokenRefusal) (r : PlainReader) : Type 0 where
  pub reading : Reading
  pub reached : Reaches number logic q (take n bytes) reading
  pub within : n < length bytes
  pub answer : IsNext logic (nesting reading) result r (next number logic reading (slice_index bytes n))

-- all bytes were passed, and the reader stands behind them
pub record IsPassed (number : List ℕ → ℕ) (logic : Logic) (q : Reading) (bytes : List ℕ) (n : ℕ) (r : PlainReader) : Type 0 where
  pub reading : Reading
  pub reached : Reaches number logic q bytes reading
  pub stands : Stands logic reading r
  pub all : n ≡ length bytes

-- the bytes were passed, or this is the answer to the one behind so many of them
abbrev pub IsRun : (List ℕ → ℕ) → Logic → Reading → List ℕ → ℕ → Result progress.Progress TokenRefusal → PlainReader → Type 0
IsRun number logic q bytes n (Ok progress.TheVariants.Going) r = IsPassed number logic q bytes n r
IsRun number logic q bytes n (Ok (progress.TheVariants.Term t)) r = IsStop number logic q bytes n (Ok (progress.TheVariants.Term t)) r
IsRun number logic q bytes n (Ok (progress.TheVariants.Formula f)) r = IsStop number logic q bytes n (Ok (progress.TheVariants.Formula f)) r
IsRun number logic q bytes n (Err e) r = IsStop number logic q bytes n (Err e) r
