-- The word in the term or formula of a line is the end of the bytes that were read.
use Rattle.std.proofs.Common.{ℕ, Bool, true, false, if◌then◌else◌, ◌||◌, List, [], ◌∷◌, ◌++◌, Option, Some, None, sym, ◌∙◌, subst, nat_eq, append_assoc, append-nil}
use Rattle.std.specs.List.{starts_with}
use Rattle.std.specs.Str.{bytes_eq}
use Rattle.fpc_base.specs.Tokens.{is_digit}
use Rattle.fpc_terms.specs.Term.{Term}
use Rattle.polarised_formulas.specs.declared.logic.Logic.{Logic}
use Rattle.polarised_formulas.specs.declared.step.Step.{Step}
use Rattle.polarised_formulas.specs.Formula.{Formula}
use Rattle.polarised_formulas.specs.Adding.{EndsWith}
use Rattle.polarised_formulas.specs.PlainReading as plain
use Rattle.polarised_formulas.specs.PlainStanding as plain_standing
use Rattle.polarised_formulas.proofs.Following.{Follows, ends-empty, follows-next}
use Rattle.explicit_form.specs.declared.word.Written.{Written}
use Rattle.explicit_form.specs.declared.word.Written.TheVariants as written
use Rattle.explicit_form.specs.declared.word.Word.{Word}
use Rattle.explicit_form.specs.declared.word.Word.TheVariants as word
use Rattle.explicit_form.specs.declared.step_reader.StepReader.{StepReader}
use Rattle.explicit_form.specs.StepText.{word_text, words, header_word, header_text}
use Rattle.explicit_form.specs.StepReading.{Line, in_word, at_place, in_place, in_plain, Next, on, whole, last, wrong, next, in_line, with_term, with_formula, behind_word, next_word, placed_step, State, heading, reading, ended, mistaken, stuck, start, other, next_heading, settle, go, run}
use Rattle.explicit_form.specs.Feeding.{IsAt, IsLineWord}

-- the word in the term or formula of a line
abbrev pub plain_word : Line → List ℕ
plain_word (in_plain w q) = plain_standing.word_at q
plain_word (in_word w) = []
plain_word (at_place p) = []
plain_word (in_place p k) = []

-- that word of what comes next is the end of the bytes
abbrev pub FollowsLine : List ℕ → Next → Type 0
FollowsLine bytes (on l) = EndsWith bytes (plain_word l)
FollowsLine bytes _ = Unit {0}

-- so in a state
abbrev pub FollowsState : List ℕ → State → Type 0
FollowsState bytes (reading done l) = EndsWith bytes (plain_word l)
FollowsState bytes _ = Unit {0}

module _ (bytes : List ℕ) where
  line-if : (c : Bool) (x y : Next) → FollowsLine bytes x → FollowsLine bytes y → FollowsLine bytes (if c then x else y)
  line-if true x y h k = h
  line-if false x y h k = k

  state-if : (c : Bool) (x y : State) → FollowsState bytes x → FollowsState bytes y → FollowsState bytes (if c then x else y)
  state-if true x y h k = h
  state-if false x y h k = k

  line-term : (w : Written) (t : Term) → FollowsLine bytes (with_term w t)
  line-term written.Exists t = tt
  line-term written.FocLEvery t = tt
  line-term written.FocRExists t = tt
  line-term written.Cut t = tt

  line-formula : (w : Written) (f : Formula) → FollowsLine bytes (with_formula w f)
  line-formula written.Exists f = tt
  line-formula written.FocLEvery f = tt
  line-formula written.FocRExists f = tt
  line-formula written.Cut f = tt

  line-in_line : (w : Written) (n : plain.Next) → Follows bytes n → FollowsLine bytes (in_line w n)
  line-in_line w (plain.on q) h = h
  line-in_line w (plain.whole_term t) h = line-term w t
  line-in_line w (plain.whole_formula f) h = line-formula w f
  line-in_line w plain.wrong h = tt

  line-begun : (w : Written) → FollowsLine bytes (behind_word (word.Written w))
  line-begun written.Exists = ends-empty bytes
  line-begun written.FocLEvery = ends-empty bytes
  line-begun written.FocRExists = ends-empty bytes
  line-begun written.Cut = ends-empty bytes

  line-behind_word : (x : Word) → FollowsLine bytes (behind_word x)
  line-behind_word (word.Bare b) = tt
  line-behind_word (word.Placed p) = ends-empty bytes
  line-behind_word (word.Written w) = line-begun w
  line-behind_word word.End = tt

  line-next_word : (logic : Logic) (w : List ℕ) (o : Option Word) → FollowsLine bytes (next_word logic w o)
  line-next_word logic w (Some x) = line-behind_word x
  line-next_word logic w None = line-if (plain.begins_some word_text w (words logic)) _ _ (ends-empty bytes) tt

  state-settle : (done : List Step) (n : Next) → FollowsLine bytes n → FollowsState bytes (settle done n)
  state-settle done (on l) h = h
  state-settle done (whole s) h = ends-empty bytes
  state-settle done last h = tt
  state-settle done wrong h = tt

  state-heading : (logic : Logic) (w : List ℕ) → FollowsState bytes (next_heading logic w)
  state-heading logic w =
      state-if (bytes_eq w (header_text logic)) _ _ (ends-empty bytes)
      (state-if (bytes_eq w (header_word (other logic))) mistaken _ tt
      (state-if (starts_with nat_eq (header_text logic) w || starts_with nat_eq (header_word (other logic)) w) (heading w) stuck tt tt))

line-next : (number : List ℕ → ℕ) (logic : Logic) (bytes : List ℕ) (b : ℕ) (l : Line) → EndsWith bytes (plain_word l) → FollowsLine (bytes ++ b ∷ []) (next number logic l b)
line-next number logic bytes b (in_word w) h = line-next_word (bytes ++ b ∷ []) logic (w ++ b ∷ []) (plain.first_with word_text (w ++ b ∷ []) (words logic))
line-next number logic bytes b (at_place p) h = line-if (bytes ++ b ∷ []) (is_digit b) _ _ (ends-empty (bytes ++ b ∷ [])) tt
line-next number logic bytes b (in_place p k) h = line-if (bytes ++ b ∷ []) (plain.can_grow k b) _ _ (ends-empty (bytes ++ b ∷ [])) (line-if (bytes ++ b ∷ []) (nat_eq b 10) (whole (placed_step p k)) wrong tt tt)
line-next number logic bytes b (in_plain w q) h = line-in_line (bytes ++ b ∷ []) w (plain.next number logic q b) (follows-next number bytes b logic q h)

state-go : (number : List ℕ → ℕ) (logic : Logic) (bytes : List ℕ) (b : ℕ) (st : State) → FollowsState bytes st → FollowsState (bytes ++ b ∷ []) (go number logic st b)
state-go number logic bytes b (heading w) h = state-heading (bytes ++ b ∷ []) logic (w ++ b ∷ [])
state-go number logic bytes b (reading done l) h = state-settle (bytes ++ b ∷ []) done (next number logic l b) (line-next number logic bytes b l h)
state-go number logic bytes b (ended done) h = tt
state-go number logic bytes b mistaken h = tt
state-go number logic bytes b stuck h = tt

state-run : (number : List ℕ → ℕ) (logic : Logic) (bytes more : List ℕ) (st : State) → FollowsState bytes st → FollowsState (bytes ++ more) (run number logic st more)
state-run number logic bytes [] st h = subst (λ xs. FollowsState xs st) (sym (append-nil bytes)) h
state-run number logic bytes (b ∷ more) st h =
    subst (λ xs. FollowsState xs (run number logic (go number logic st b) more)) (append_assoc bytes (b ∷ []) more)
    (state-run number logic (bytes ++ b ∷ []) more (go number logic st b) (state-go number logic bytes b st h))

-- so behind all bytes
pub state-begun : (number : List ℕ → ℕ) (logic : Logic) (bytes : List ℕ) → FollowsState bytes (run number logic start bytes)
state-begun number logic bytes = state-run number logic [] bytes start tt

-- the word that a reader has in progress
pub word-ends : (logic : Logic) (bytes text : List ℕ) (st : State) (r : StepReader) → FollowsState bytes st → IsAt logic st r → IsLineWord r text → EndsWith bytes text
word-ends logic bytes text (heading w) r f h k = let a = h.0 in let b = k.0 in let no : ⊥ = cc in absurd no
word-ends logic bytes text (reading done (in_plain w q)) r f h k = subst (EndsWith bytes) (sym (k.1.1 ∙ h.1.plain.word)) f
word-ends logic bytes text (reading done (in_word w)) r f h k = let a = h.1.mode in let b = k.1.0.1 in let no : ⊥ = cc in absurd no
word-ends logic bytes text (reading done (at_place p)) r f h k = let a = h.1.mode in let b = k.1.0.1 in let no : ⊥ = cc in absurd no
word-ends logic bytes text (reading done (in_place p n)) r f h k = let a = h.1.mode in let b = k.1.0.1 in let no : ⊥ = cc in absurd no
word-ends logic bytes text (ended done) r f h k = let b = k.0 in let no : ⊥ = cc in absurd no
word-ends logic bytes text mistaken r f h k = absurd h
word-ends logic bytes text stuck r f h k = absurd h
