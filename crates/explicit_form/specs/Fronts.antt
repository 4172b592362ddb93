-- What a reader sees of a line at once.
use Rattle.std.specs.Prelude.{◌≡◌, ℕ, suc, slice_index_or, ◌≤◌, Bool, true, false, ◌&&◌, List, [], ◌∷◌, ◌++◌, length, take, Option, Some, None}
use Rattle.fpc_base.specs.declared.refusal.Code.{Code}
use Rattle.polarised_formulas.specs.declared.logic.Logic.{Logic}
use Rattle.polarised_formulas.specs.declared.logic.Logic.TheVariants.{Lkf, Ljf}
use Rattle.polarised_formulas.specs.declared.step.Step.{Step}
use Rattle.explicit_form.specs.declared.word.Bare.TheVariants as bare
use Rattle.explicit_form.specs.declared.word.Placed.{Placed}
use Rattle.explicit_form.specs.declared.word.Placed.TheVariants as placed
use Rattle.explicit_form.specs.declared.word.Written.TheVariants as written
use Rattle.explicit_form.specs.declared.word.Word.{Word}
use Rattle.explicit_form.specs.declared.word.Word.TheVariants as word
use Rattle.explicit_form.specs.declared.line.Mode as mode
use Rattle.explicit_form.specs.declared.line.LineReader.{LineReader}
use Rattle.explicit_form.specs.declared.step_reader.Phase as phase
use Rattle.explicit_form.specs.declared.step_reader.StepReader.{StepReader}
use Rattle.explicit_form.specs.StepText.{word_text, words, IsOneOf}
use Rattle.explicit_form.specs.StepReading.{in_word, at_place, placed_step, State, heading, reading, ended, mistaken, stuck, go, run}
use Rattle.explicit_form.specs.StepLimits.{state_limit}
use Rattle.explicit_form.specs.Feeding.{line_length}

-- the word is one of the logic's
abbrev pub is_word : Logic → Word → Bool
is_word Lkf (word.Bare bare.TrueN) = true
is_word Lkf (word.Bare bare.FalseN) = true
is_word Lkf (word.Bare bare.OrN) = true
is_word Lkf (word.Bare bare.AndN) = true
is_word Lkf (word.Bare bare.Every) = true
is_word Lkf (word.Bare bare.Store) = true
is_word Lkf (word.Bare bare.TrueP) = true
is_word Lkf (word.Bare bare.AndP) = true
is_word Lkf (word.Bare (bare.OrP side)) = true
is_word Lkf (word.Bare bare.Release) = true
is_word Lkf (word.Bare _) = false
is_word Lkf (word.Placed placed.Decide) = true
is_word Lkf (word.Placed placed.Init) = true
is_word Lkf (word.Placed _) = false
is_word Lkf (word.Written written.Exists) = true
is_word Lkf (word.Written written.Cut) = true
is_word Lkf (word.Written _) = false
is_word Lkf word.End = true
is_word Ljf (word.Bare bare.TrueN) = false
is_word Ljf (word.Bare bare.FalseN) = false
is_word Ljf (word.Bare bare.OrN) = false
is_word Ljf (word.Bare bare.AndN) = false
is_word Ljf (word.Bare bare.Every) = false
is_word Ljf (word.Bare bare.Store) = false
is_word Ljf (word.Bare bare.TrueP) = false
is_word Ljf (word.Bare bare.AndP) = false
is_word Ljf (word.Bare (bare.OrP side)) = false
is_word Ljf (word.Bare bare.Release) = false
is_word Ljf (word.Bare _) = true
is_word Ljf (word.Placed placed.Decide) = false
is_word Ljf (word.Placed placed.Init) = false
is_word Ljf (word.Placed _) = true
is_word Ljf (word.Written written.Exists) = false
is_word Ljf (word.Written _) = true
is_word Ljf word.End = true

-- the text stands in the bytes at a place
abbrev pub IsTextAt : List ℕ → ℕ → List ℕ → Type 0
IsTextAt bytes n [] = n ≤ length bytes
IsTextAt bytes n (c ∷ cs) = (slice_index_or bytes n 0 ≡ c) × IsTextAt bytes (suc n) cs

-- the bytes begin with the word, which is one of the logic's and has so many bytes
abbrev pub IsFound : Logic → List ℕ → Word → ℕ → Type 0
IsFound logic bytes w n = (is_word logic w ≡ true) × (n ≡ length (word_text w)) × IsTextAt bytes 0 (word_text w)

-- the bytes begin with the text of the word, which is one of the logic's
abbrev pub IsWordAt : Logic → List ℕ → Word → Type 0
IsWordAt logic bytes w = ((more : List ℕ) × (bytes ≡ word_text w ++ more)) × IsOneOf w (words logic)

-- nothing is there
abbrev pub is_nothing : Option Code → Bool
is_nothing None = true
is_nothing (Some code) = false

-- nothing is told of a byte that leads from a state to another, but for its place
abbrev pub is_untold : State → State → Bool
is_untold st (heading w) = is_nothing (state_limit st (heading w))
is_untold st (reading done l) = is_nothing (state_limit st (reading done l))
is_untold st (ended done) = is_nothing (state_limit st (ended done))
is_untold st mistaken = false
is_untold st stuck = false

-- so of none of the bytes behind a state
abbrev pub are_untold : (List ℕ → ℕ) → Logic → State → List ℕ → Bool
are_untold number logic st [] = true
are_untold number logic st (b ∷ bs) = is_untold st (go number logic st b) && are_untold number logic (go number logic st b) bs

-- the bytes lead from a state to another, and nothing is told of any of them, but for their places
abbrev pub Leads : (List ℕ → ℕ) → Logic → State → List ℕ → State → Type 0
Leads number logic st bytes next = (run number logic st bytes ≡ next) × (are_untold number logic st bytes ≡ true)

-- the bytes up to the first end of a line, which are so many, are a place and that end
abbrev pub IsPlaceAt : List ℕ → ℕ → ℕ → Type 0
IsPlaceAt bytes k n =
    ((number : List ℕ → ℕ) (logic : Logic) (done : List Step) (p : Placed) → Leads number logic (reading done (at_place p)) (take n bytes) (reading (placed_step p k ∷ done) (in_word [])))
    × (n ≡ line_length bytes)
    × (n ≤ length bytes)

-- the reader of a line has taken none of its bytes
pub record IsLineBegin (r : LineReader) : Type 0 where
  pub mode : r.mode ≡ mode.TheVariants.InWord
  pub word : r.word.items ≡ []

-- the reader has taken none of the bytes of a line, behind the first one
pub record IsBegin (r : StepReader) : Type 0 where
  pub phase : r.phase ≡ phase.TheVariants.Lines
  pub line : IsLineBegin r.line
