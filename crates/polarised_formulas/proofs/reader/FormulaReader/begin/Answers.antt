use Rattle.std.proofs.Common.{refl, Ok}
use Rattle.polarised_formulas.specs.Formula.{truth, falsity}
use Rattle.polarised_formulas.specs.Unfinished.{placed, opened}
use Rattle.polarised_formulas.specs.declared.reader.Beginning.TheVariants as begin
use Rattle.polarised_formulas.specs.declared.reader.Mode.TheVariants as mode
use Rattle.polarised_formulas.proofs.ReaderFacts.{refuses-deep, takes-begun}
use Rattle.polarised_formulas.proofs.reader.FormulaReader.begin.Goals as goal

pub returns-then-is_deep : goal.returns-then-is_deep
returns-then-is_deep c = λ number logic parameters s h m. refuses-deep number logic parameters c.args.beginning s c.args.self.now h m (c.is_deep.ensures.0 c.if-is_deep.true)

pub returns-in-Truth : goal.returns-in-Truth
returns-in-Truth c = λ number logic parameters s h m.
    rw c.in-Truth.is (takes-begun number logic parameters (begin.Truth c.in-Truth.polarity) s c.add_truth.result c.args.self.now (record c.args.self.now { mode = mode.Has; builder = placed (truth c.in-Truth.polarity) c.args.self.now.builder }) c.add_truth.new.self h m (λ e. let d = c.is_deep.ensures.1 e in let n = c.if-is_deep.false in cc) c.add_truth.ensures.ok c.add_truth.ensures.err
    (λ p g. record { in_logic = g.in_logic; mode = refl; builder = rw g.builder refl; bound = g.bound; arguments = tt; live = tt }))

pub returns-in-Falsity : goal.returns-in-Falsity
returns-in-Falsity c = λ number logic parameters s h m.
    rw c.in-Falsity.is (takes-begun number logic parameters (begin.Falsity c.in-Falsity.polarity) s c.add_falsity.result c.args.self.now (record c.args.self.now { mode = mode.Has; builder = placed (falsity c.in-Falsity.polarity) c.args.self.now.builder }) c.add_falsity.new.self h m (λ e. let d = c.is_deep.ensures.1 e in let n = c.if-is_deep.false in cc) c.add_falsity.ensures.ok c.add_falsity.ensures.err
    (λ p g. record { in_logic = g.in_logic; mode = refl; builder = rw g.builder refl; bound = g.bound; arguments = tt; live = tt }))

pub returns-in-Mark : goal.returns-in-Mark
returns-in-Mark c = λ number logic parameters s h m.
    rw c.in-Mark.is (takes-begun number logic parameters (begin.Mark c.in-Mark.positive) s (Ok tt) c.args.self.now (record c.args.self.now { mode = mode.Marked c.in-Mark.positive }) (record c.args.self.now { mode = mode.Marked c.in-Mark.positive }) h m (λ e. let d = c.is_deep.ensures.1 e in let n = c.if-is_deep.false in cc) refl tt
    (λ p g. record { in_logic = g.in_logic; mode = refl; builder = g.builder; bound = g.bound; arguments = tt; live = tt }))

pub returns-in-Pair : goal.returns-in-Pair
returns-in-Pair c = λ number logic parameters s h m.
    rw c.in-Pair.is (takes-begun number logic parameters begin.Pair s c.open_pair.result c.args.self.now (record c.args.self.now { mode = mode.Wants; builder = opened c.args.self.now.builder }) c.open_pair.new.self h m (λ e. let d = c.is_deep.ensures.1 e in let n = c.if-is_deep.false in cc) c.open_pair.ensures.ok c.open_pair.ensures.err
    (λ p g. record { in_logic = g.in_logic; mode = refl; builder = rw g.builder refl; bound = g.bound; arguments = tt; live = tt }))

pub returns-in-Quantifier : goal.returns-in-Quantifier
returns-in-Quantifier c = λ number logic parameters s h m.
    rw c.in-Quantifier.is (takes-begun number logic parameters (begin.Quantifier c.in-Quantifier.binder) s (Ok tt) c.args.self.now (record c.args.self.now { mode = mode.Binding c.in-Quantifier.binder }) (record c.args.self.now { mode = mode.Binding c.in-Quantifier.binder }) h m (λ e. let d = c.is_deep.ensures.1 e in let n = c.if-is_deep.false in cc) refl tt
    (λ p g. record { in_logic = g.in_logic; mode = refl; builder = g.builder; bound = g.bound; arguments = tt; live = tt }))
