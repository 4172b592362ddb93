use Rattle.std.proofs.Common.{◌≡◌, ◌+◌, drop, arith}
use Rattle.polarised_formulas.specs.Nodes.{front_length}
use Rattle.polarised_formulas.proofs.AtFacts.{end_within, end_value}
use Rattle.polarised_formulas.proofs.tree.end_of_part.Goals as goal

pub overflow_add-result : goal.overflow_add-result
overflow_add-result c =
    let v : c.args.place + c.size_or.result ≡ c.args.place + front_length 1 (drop c.args.place c.args.nodes.now) =
    rw (c.size_or.ensures, c.requires.sizes) (end_value c.args.nodes.now c.args.place c.requires.within) in
    omega (arith, end_within c.args.nodes.now c.args.place c.requires.within)

pub returns : goal.returns
returns c =
    let v : c.args.place + c.size_or.result ≡ c.args.place + front_length 1 (drop c.args.place c.args.nodes.now) =
    rw (c.size_or.ensures, c.requires.sizes) (end_value c.args.nodes.now c.args.place c.requires.within) in
    record { value = v; within = rw v (end_within c.args.nodes.now c.args.place c.requires.within) }
