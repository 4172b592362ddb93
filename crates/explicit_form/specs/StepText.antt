-- The text of an explicit certificate: a header, a line for each step in preorder, and the line `end`.
use Rattle.std.specs.Prelude.{◌≡◌, ℕ, ◌<◌, ◌⊎◌, List, [], ◌∷◌, ◌++◌, codes}
use Rattle.std.specs.Fmt.{decimal}
use Rattle.polarised_formulas.specs.declared.logic.Logic.{Logic}
use Rattle.polarised_formulas.specs.declared.logic.Logic.TheVariants.{Lkf, Ljf}
use Rattle.polarised_formulas.specs.declared.logic.Side.TheVariants.{Left, Right}
use Rattle.polarised_formulas.specs.declared.step.Step.{Step}
use Rattle.polarised_formulas.specs.declared.step.Step.TheVariants as step
use Rattle.polarised_formulas.specs.Text.{logic_text}
use Rattle.polarised_formulas.specs.PlainForm.{IsPlainTerm, IsPlainFormula, plain_term, plain_formula}
use Rattle.explicit_form.specs.declared.word.Bare.{Bare}
use Rattle.explicit_form.specs.declared.word.Bare.TheVariants as bare
use Rattle.explicit_form.specs.declared.word.Placed.{Placed}
use Rattle.explicit_form.specs.declared.word.Placed.TheVariants as placed
use Rattle.explicit_form.specs.declared.word.Written.{Written}
use Rattle.explicit_form.specs.declared.word.Written.TheVariants as written
use Rattle.explicit_form.specs.declared.word.Word.{Word}
use Rattle.explicit_form.specs.declared.word.Word.TheVariants as word

-- the line of a step without an argument, but for its end
abbrev pub bare_text : Bare → List ℕ
bare_text bare.TrueN = codes "tt-"
bare_text bare.FalseN = codes "ff-"
bare_text bare.OrN = codes "or-"
bare_text bare.AndN = codes "and-"
bare_text bare.Every = codes "all"
bare_text bare.Store = codes "store"
bare_text bare.TrueP = codes "tt+"
bare_text bare.AndP = codes "and+"
bare_text (bare.OrP Left) = codes "or+ left"
bare_text (bare.OrP Right) = codes "or+ right"
bare_text bare.Release = codes "release"
bare_text bare.LTrue = codes "l-tt"
bare_text bare.LFalse = codes "l-ff"
bare_text bare.LAnd = codes "l-and"
bare_text bare.LOr = codes "l-or"
bare_text bare.LExists = codes "l-some"
bare_text bare.LStore = codes "l-store"
bare_text bare.RTrue = codes "r-tt"
bare_text bare.RAnd = codes "r-and"
bare_text bare.RImp = codes "r-imp"
bare_text bare.REvery = codes "r-all"
bare_text bare.RStore = codes "r-store"
bare_text bare.DecideR = codes "decide-r"
bare_text (bare.FocLAnd Left) = codes "lf-and left"
bare_text (bare.FocLAnd Right) = codes "lf-and right"
bare_text bare.FocLImp = codes "lf-imp"
bare_text bare.FocLInit = codes "lf-init"
bare_text bare.FocLRelease = codes "lf-release"
bare_text bare.FocRTrue = codes "rf-tt"
bare_text bare.FocRAnd = codes "rf-and"
bare_text (bare.FocROr Left) = codes "rf-or left"
bare_text (bare.FocROr Right) = codes "rf-or right"
bare_text bare.FocRRelease = codes "rf-release"

-- the word of a step with a place, and the blank behind it
abbrev pub placed_text : Placed → List ℕ
placed_text placed.Decide = codes "decide "
placed_text placed.Init = codes "init "
placed_text placed.DecideL = codes "decide-l "
placed_text placed.FocRInit = codes "rf-init "

-- the word of a step with a term or a formula, and the blank behind it
abbrev pub written_text : Written → List ℕ
written_text written.Exists = codes "some "
written_text written.FocLEvery = codes "lf-all "
written_text written.FocRExists = codes "rf-some "
written_text written.Cut = codes "cut "

-- the last line
abbrev pub end_text : List ℕ
end_text = codes "end" ++ 10 ∷ []

-- a word with the byte behind it: the end of its line, or a blank
abbrev pub word_text : Word → List ℕ
word_text (word.Bare b) = bare_text b ++ 10 ∷ []
word_text (word.Placed p) = placed_text p
word_text (word.Written w) = written_text w
word_text word.End = end_text

-- the words of a logic's lines
abbrev pub words : Logic → List Word
words Lkf =
    word.Bare bare.TrueN ∷ word.Bare bare.FalseN ∷ word.Bare bare.OrN ∷ word.Bare bare.AndN ∷ word.Bare bare.Every ∷ word.Bare bare.Store
    ∷ word.Placed placed.Decide ∷ word.Bare bare.TrueP ∷ word.Bare bare.AndP ∷ word.Bare (bare.OrP Left) ∷ word.Bare (bare.OrP Right)
    ∷ word.Written written.Exists ∷ word.Bare bare.Release ∷ word.Placed placed.Init ∷ word.Written written.Cut ∷ word.End ∷ []
words Ljf =
    word.Bare bare.LTrue ∷ word.Bare bare.LFalse ∷ word.Bare bare.LAnd ∷ word.Bare bare.LOr ∷ word.Bare bare.LExists ∷ word.Bare bare.LStore
    ∷ word.Bare bare.RTrue ∷ word.Bare bare.RAnd ∷ word.Bare bare.RImp ∷ word.Bare bare.REvery ∷ word.Bare bare.RStore
    ∷ word.Placed placed.DecideL ∷ word.Bare bare.DecideR
    ∷ word.Bare (bare.FocLAnd Left) ∷ word.Bare (bare.FocLAnd Right) ∷ word.Bare bare.FocLImp ∷ word.Written written.FocLEvery ∷ word.Bare bare.FocLInit ∷ word.Bare bare.FocLRelease
    ∷ word.Bare bare.FocRTrue ∷ word.Bare bare.FocRAnd ∷ word.Bare (bare.FocROr Left) ∷ word.Bare (bare.FocROr Right) ∷ word.Written written.FocRExists
    ∷ word.Placed placed.FocRInit ∷ word.Bare bare.FocRRelease ∷ word.Written written.Cut ∷ word.End ∷ []

-- the word that the line of a step begins with
abbrev pub step_word : Step → Word
step_word step.TrueN = word.Bare bare.TrueN
step_word step.FalseN = word.Bare bare.FalseN
step_word step.OrN = word.Bare bare.OrN
step_word step.AndN = word.Bare bare.AndN
step_word step.Every = word.Bare bare.Every
step_word step.Store = word.Bare bare.Store
step_word (step.Decide k) = word.Placed placed.Decide
step_word step.TrueP = word.Bare bare.TrueP
step_word step.AndP = word.Bare bare.AndP
step_word (step.OrP side) = word.Bare (bare.OrP side)
step_word (step.Exists t) = word.Written written.Exists
step_word step.Release = word.Bare bare.Release
step_word (step.Init k) = word.Placed placed.Init
step_word (step.Cut f) = word.Written written.Cut
step_word step.LTrue = word.Bare bare.LTrue
step_word step.LFalse = word.Bare bare.LFalse
step_word step.LAnd = word.Bare bare.LAnd
step_word step.LOr = word.Bare bare.LOr
step_word step.LExists = word.Bare bare.LExists
step_word step.LStore = word.Bare bare.LStore
step_word step.RTrue = word.Bare bare.RTrue
step_word step.RAnd = word.Bare bare.RAnd
step_word step.RImp = word.Bare bare.RImp
step_word step.REvery = word.Bare bare.REvery
step_word step.RStore = word.Bare bare.RStore
step_word (step.DecideL k) = word.Placed placed.DecideL
step_word step.DecideR = word.Bare bare.DecideR
step_word (step.FocLAnd side) = word.Bare (bare.FocLAnd side)
step_word step.FocLImp = word.Bare bare.FocLImp
step_word (step.FocLEvery t) = word.Written written.FocLEvery
step_word step.FocLInit = word.Bare bare.FocLInit
step_word step.FocLRelease = word.Bare bare.FocLRelease
step_word step.FocRTrue = word.Bare bare.FocRTrue
step_word step.FocRAnd = word.Bare bare.FocRAnd
step_word (step.FocROr side) = word.Bare (bare.FocROr side)
step_word (step.FocRExists t) = word.Written written.FocRExists
step_word (step.FocRInit k) = word.Placed placed.FocRInit
step_word step.FocRRelease = word.Bare bare.FocRRelease

-- what stands behind the word, with the end of the line, before other bytes
abbrev pub argument_before : (ℕ → List ℕ) → Logic → Step → List ℕ → List ℕ
argument_before text logic (step.Decide k) rest = decimal k ++ 10 ∷ rest
argument_before text logic (step.Init k) rest = decimal k ++ 10 ∷ rest
argument_before text logic (step.DecideL k) rest = decimal k ++ 10 ∷ rest
argument_before text logic (step.FocRInit k) rest = decimal k ++ 10 ∷ rest
argument_before text logic (step.Exists t) rest = plain_term text t (10 ∷ rest)
argument_before text logic (step.FocLEvery t) rest = plain_term text t (10 ∷ rest)
argument_before text logic (step.FocRExists t) rest = plain_term text t (10 ∷ rest)
argument_before text logic (step.Cut f) rest = plain_formula text logic 0 f (10 ∷ rest)
argument_before text logic _ rest = rest

-- the line of a step, before other bytes
abbrev pub line_before : (ℕ → List ℕ) → Logic → Step → List ℕ → List ℕ
line_before text logic s rest = word_text (step_word s) ++ argument_before text logic s rest

-- the lines of steps, before other bytes
abbrev pub lines_before : (ℕ → List ℕ) → Logic → List Step → List ℕ → List ℕ
lines_before text logic [] rest = rest
lines_before text logic (s ∷ ss) rest = line_before text logic s (lines_before text logic ss rest)

-- the first line of a certificate for a calculus, but for its end
abbrev pub header_word : Logic → List ℕ
header_word logic = codes "fpc 1 " ++ logic_text logic

-- the first line
abbrev pub header_text : Logic → List ℕ
header_text logic = header_word logic ++ 10 ∷ []

-- the text of a certificate
abbrev pub certificate_text : (ℕ → List ℕ) → Logic → List Step → List ℕ
certificate_text text logic steps = header_text logic ++ lines_before text logic steps end_text

-- the word is one of those
abbrev pub IsOneOf : Word → List Word → Type 0
IsOneOf x [] = ⊥
IsOneOf x (y ∷ ys) = (x ≡ y) ⊎ IsOneOf x ys

-- The argument of the step has a plain form: a number at most nine digits, a term no variable, a formula is one of the logic.
abbrev pub IsPlainArgument : (ℕ → List ℕ) → (List ℕ → ℕ) → Logic → Step → Type 0
IsPlainArgument text number logic (step.Decide k) = k < 1000000000
IsPlainArgument text number logic (step.Init k) = k < 1000000000
IsPlainArgument text number logic (step.DecideL k) = k < 1000000000
IsPlainArgument text number logic (step.FocRInit k) = k < 1000000000
IsPlainArgument text number logic (step.Exists t) = IsPlainTerm text number 0 t
IsPlainArgument text number logic (step.FocLEvery t) = IsPlainTerm text number 0 t
IsPlainArgument text number logic (step.FocRExists t) = IsPlainTerm text number 0 t
IsPlainArgument text number logic (step.Cut f) = IsPlainFormula text number logic 0 f
IsPlainArgument text number logic _ = Unit {0}

-- the step is one of the logic, and has a text
abbrev pub IsPlainStep : (ℕ → List ℕ) → (List ℕ → ℕ) → Logic → Step → Type 0
IsPlainStep text number logic s = IsOneOf (step_word s) (words logic) × IsPlainArgument text number logic s

-- so are all of the steps
abbrev pub ArePlainSteps : (ℕ → List ℕ) → (List ℕ → ℕ) → Logic → List Step → Type 0
ArePlainSteps text number logic [] = Unit {0}
ArePlainSteps text number logic (s ∷ ss) = IsPlainStep text number logic s × ArePlainSteps text number logic ss

-- the bytes begin the text of a certificate of the calculus, or are one
pub record BeginsCertificate (text : ℕ → List ℕ) (number : List ℕ → ℕ) (logic : Logic) (bytes : List ℕ) : Type 0 where
  pub steps : List Step
  pub more : List ℕ
  pub plain : ArePlainSteps text number logic steps
  pub whole : certificate_text text logic steps ≡ bytes ++ more

-- the bytes are the text of these steps
abbrev pub IsCertificate : (ℕ → List ℕ) → (List ℕ → ℕ) → Logic → List Step → List ℕ → Type 0
IsCertificate text number logic steps bytes = ArePlainSteps text number logic steps × (certificate_text text logic steps ≡ bytes)
