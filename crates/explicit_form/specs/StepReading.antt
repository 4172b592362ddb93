-- How a certificate is read byte by byte. The steps are kept as they come; no limit is in it.
use Rattle.std.specs.Prelude.{ℕ, ◌-◌, if◌then◌else◌, ◌||◌, nat_eq, List, [], ◌∷◌, ◌++◌, Option, Some, None}
use Rattle.std.specs.List.{starts_with}
use Rattle.std.specs.Str.{bytes_eq}
use Rattle.fpc_base.specs.Tokens.{is_digit}
use Rattle.fpc_terms.specs.Term.{Term}
use Rattle.polarised_formulas.specs.declared.logic.Logic.{Logic}
use Rattle.polarised_formulas.specs.declared.logic.Logic.TheVariants.{Lkf, Ljf}
use Rattle.polarised_formulas.specs.declared.step.Step.{Step}
use Rattle.polarised_formulas.specs.declared.step.Step.TheVariants as step
use Rattle.polarised_formulas.specs.Formula.{Formula}
use Rattle.polarised_formulas.specs.PlainReading as plain
use Rattle.explicit_form.specs.declared.word.Bare.{Bare}
use Rattle.explicit_form.specs.declared.word.Bare.TheVariants as bare
use Rattle.explicit_form.specs.declared.word.Placed.{Placed}
use Rattle.explicit_form.specs.declared.word.Placed.TheVariants as placed
use Rattle.explicit_form.specs.declared.word.Written.{Written}
use Rattle.explicit_form.specs.declared.word.Written.TheVariants as written
use Rattle.explicit_form.specs.declared.word.Word.{Word}
use Rattle.explicit_form.specs.declared.word.Word.TheVariants as word
use Rattle.explicit_form.specs.StepText.{word_text, words, header_word, header_text}

-- the step without an argument
abbrev pub bare_step : Bare → Step
bare_step bare.TrueN = step.TrueN
bare_step bare.FalseN = step.FalseN
bare_step bare.OrN = step.OrN
bare_step bare.AndN = step.AndN
bare_step bare.Every = step.Every
bare_step bare.Store = step.Store
bare_step bare.TrueP = step.TrueP
bare_step bare.AndP = step.AndP
bare_step (bare.OrP side) = step.OrP side
bare_step bare.Release = step.Release
bare_step bare.LTrue = step.LTrue
bare_step bare.LFalse = step.LFalse
bare_step bare.LAnd = step.LAnd
bare_step bare.LOr = step.LOr
bare_step bare.LExists = step.LExists
bare_step bare.LStore = step.LStore
bare_step bare.RTrue = step.RTrue
bare_step bare.RAnd = step.RAnd
bare_step bare.RImp = step.RImp
bare_step bare.REvery = step.REvery
bare_step bare.RStore = step.RStore
bare_step bare.DecideR = step.DecideR
bare_step (bare.FocLAnd side) = step.FocLAnd side
bare_step bare.FocLImp = step.FocLImp
bare_step bare.FocLInit = step.FocLInit
bare_step bare.FocLRelease = step.FocLRelease
bare_step bare.FocRTrue = step.FocRTrue
bare_step bare.FocRAnd = step.FocRAnd
bare_step (bare.FocROr side) = step.FocROr side
bare_step bare.FocRRelease = step.FocRRelease

-- the step with a place
abbrev pub placed_step : Placed → ℕ → Step
placed_step placed.Decide k = step.Decide k
placed_step placed.Init k = step.Init k
placed_step placed.DecideL k = step.DecideL k
placed_step placed.FocRInit k = step.FocRInit k

-- what stands behind the word
abbrev pub use_of : Written → plain.Use
use_of written.Exists = plain.of_term
use_of written.FocLEvery = plain.of_term
use_of written.FocRExists = plain.of_term
use_of written.Cut = plain.of_formula

-- where a line stands
pub data Line : Type 0 where
  -- a word comes, or was begun
  in_word : (begun : List ℕ) → Line
  at_place : Placed → Line
  in_place : Placed → (place : ℕ) → Line
  -- in a term or a formula
  in_plain : Written → plain.Reading → Line

-- what a byte does: the line goes on, a step is whole with its line, the last line is whole, or the byte is none that may come
pub data Next : Type 0 where
  on : Line → Next
  whole : Step → Next
  last : Next
  wrong : Next

-- the step with a term
abbrev pub with_term : Written → Term → Next
with_term written.Exists t = whole (step.Exists t)
with_term written.FocLEvery t = whole (step.FocLEvery t)
with_term written.FocRExists t = whole (step.FocRExists t)
with_term written.Cut t = wrong

-- the step with a formula
abbrev pub with_formula : Written → Formula → Next
with_formula written.Exists f = wrong
with_formula written.FocLEvery f = wrong
with_formula written.FocRExists f = wrong
with_formula written.Cut f = whole (step.Cut f)

-- what a byte of a term or a formula does
abbrev pub in_line : Written → plain.Next → Next
in_line w (plain.on q) = on (in_plain w q)
in_line w (plain.whole_term t) = with_term w t
in_line w (plain.whole_formula f) = with_formula w f
in_line w plain.wrong = wrong

-- what is read with the last byte of a word
abbrev pub behind_word : Word → Next
behind_word (word.Bare b) = whole (bare_step b)
behind_word (word.Placed p) = on (at_place p)
behind_word (word.Written w) = in_line w (plain.start (use_of w))
behind_word word.End = last

-- a word with its last byte, where it is this word, if any
abbrev pub next_word : Logic → List ℕ → Option Word → Next
next_word logic w (Some x) = behind_word x
next_word logic w None = if plain.begins_some word_text w (words logic) then on (in_word w) else wrong

-- what a byte does in a line
abbrev pub next : (List ℕ → ℕ) → Logic → Line → ℕ → Next
next number logic (in_word w) b = next_word logic (w ++ b ∷ []) (plain.first_with word_text (w ++ b ∷ []) (words logic))
next number logic (at_place p) b = if is_digit b then on (in_place p (b - 48)) else wrong
next number logic (in_place p k) b =
    if plain.can_grow k b then on (in_place p (plain.grown k b)) else if nat_eq b 10 then whole (placed_step p k) else wrong
next number logic (in_plain w q) b = in_line w (plain.next number logic q b)

-- what has been read
pub data State : Type 0 where
  -- in the first line
  heading : (begun : List ℕ) → State
  -- the steps whose lines are whole, the last one first, and the line that was begun
  reading : (done : List Step) → Line → State
  -- all the steps, the last one first
  ended : (done : List Step) → State
  -- the first line is that of the other calculus
  mistaken : State
  stuck : State

-- nothing is read
abbrev pub start : State
start = heading []

abbrev pub other : Logic → Logic
other Lkf = Ljf
other Ljf = Lkf

-- a first line begun
abbrev pub next_heading : Logic → List ℕ → State
next_heading logic w =
    if bytes_eq w (header_text logic) then reading [] (in_word [])
    else if bytes_eq w (header_word (other logic)) then mistaken
    else if starts_with nat_eq (header_text logic) w || starts_with nat_eq (header_word (other logic)) w then heading w else stuck

-- a line behind those that are whole
abbrev pub settle : List Step → Next → State
settle done (on l) = reading done l
settle done (whole s) = reading (s ∷ done) (in_word [])
settle done last = ended done
settle done wrong = stuck

-- a byte behind what was read
abbrev pub go : (List ℕ → ℕ) → Logic → State → ℕ → State
go number logic (heading w) b = next_heading logic (w ++ b ∷ [])
go number logic (reading done l) b = settle done (next number logic l b)
go number logic (ended done) b = stuck
go number logic mistaken b = mistaken
go number logic stuck b = stuck

-- bytes behind what was read
abbrev pub run : (List ℕ → ℕ) → Logic → State → List ℕ → State
run number logic st [] = st
run number logic st (b ∷ bs) = run number logic (go number logic st b) bs

-- the steps in order, in front of others
abbrev pub steps_onto : List Step → List Step → List Step
steps_onto [] ss = ss
steps_onto (s ∷ done) ss = steps_onto done (s ∷ ss)

-- the steps whose lines are whole, in order
abbrev pub steps_of : State → List Step
steps_of (heading w) = []
steps_of (reading done l) = steps_onto done []
steps_of (ended done) = steps_onto done []
steps_of mistaken = []
steps_of stuck = []
