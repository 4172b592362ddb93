use Rattle.std.proofs.Common.{◌∙◌, ◌&&◌, ap, sym}
use Rattle.clause_language.proofs.ClauseReading.{stands_behind-told}
use Rattle.clause_language.proofs.clause_reader.ClauseReader.stands_behind.Goals as goal

pub returns-then-is_separator : goal.returns-then-is_separator
returns-then-is_separator c = λ names s d h m.
    ap (λ b. b && c.is_whole.result) (sym c.if-is_separator.true ∙ c.is_separator.ensures)
    ∙ stands_behind-told names s _ c.args.self.now c.is_whole.result d c.distinct.ensures h m c.is_whole.ensures
