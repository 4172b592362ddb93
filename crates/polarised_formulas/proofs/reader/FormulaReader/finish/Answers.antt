-- A formula is whole exactly where the state has a whole one.
use Rattle.std.proofs.Common.{◌≡◌, false, true}
use Rattle.polarised_formulas.proofs.reader.FormulaReader.finish.Goals as goal

pub returns-then-is_whole-clause-none : goal.returns-then-is_whole-clause-none
returns-then-is_whole-clause-none c = λ number logic parameters s h e.
    let none : c.is_whole.result ≡ false = rw e at (c.is_whole.ensures number logic parameters s h) in
    let wrong : true ≡ false = cc in
    cc

pub returns-clause-whole : goal.returns-clause-whole
returns-clause-whole c = λ number logic parameters s w h e.
    let some : c.is_whole.result ≡ true = rw e at (c.is_whole.ensures number logic parameters s h) in
    let wrong : true ≡ false = cc in
    cc
