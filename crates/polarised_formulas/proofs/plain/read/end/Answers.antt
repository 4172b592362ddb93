use Rattle.polarised_formulas.specs.PlainLimits.{nesting}
use Rattle.polarised_formulas.proofs.Taking.{no-term}
use Rattle.polarised_formulas.proofs.plain.read.end.Goals as goal

pub returns-in-Ok-Term-clause-ended : goal.returns-in-Ok-Term-clause-ended
returns-in-Ok-Term-clause-ended c = λ number logic q a h w. absurd (no-term number logic q 10 (nesting q) c.in-Ok-Term.field-0-0 c.byte.new.self w (rw c.in-Ok-Term.field-0-is at (c.in-Ok-Term.ensures.next number logic q a h)))
