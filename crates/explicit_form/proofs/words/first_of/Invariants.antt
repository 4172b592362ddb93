use Rattle.std.proofs.Common.{◌≡◌, drop}
use Rattle.polarised_formulas.specs.PlainReading.{first_with}
use Rattle.explicit_form.specs.StepText.{word_text}
use Rattle.explicit_form.proofs.words.first_of.Given as goal

abbrev pub invariant-loop-word : goal.invariant-loop-word
invariant-loop-word l = first_with word_text l.text (drop l.word-index l.words) ≡ first_with word_text l.text l.words
