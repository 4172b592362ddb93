use Rattle.std.proofs.Common.{◌≡◌, ◌∙◌, IfOk, ap, subst}
use Rattle.std.specs.List.{flat_map}
use Rattle.fpc_terms.specs.Open.{constant}
use Rattle.polarised_formulas.specs.Formula.{formula_of}
use Rattle.polarised_formulas.specs.NodePut.{node_put}
use Rattle.polarised_formulas.proofs.NodePutFacts.{one-formula, formula_of-put}
use Rattle.polarised_formulas.proofs.substitution.formula_with_constant.Goals as goal

pub from_nodes-requires : goal.from_nodes-requires
from_nodes-requires c =
    rw (c.as_slice.ensures.value, c.in_ok-nodes.ensures, c.nodes.ensures) (one-formula (constant c.args.name) c.args.formula.now)

pub returns : goal.returns
returns c =
    subst (λ x. IfOk c.from_nodes.result (λ f. f ≡ x))
    (ap formula_of (c.as_slice.ensures.value ∙ c.in_ok-nodes.ensures
    ∙ ap (flat_map (node_put (constant c.args.name))) c.nodes.ensures)
    ∙ formula_of-put (constant c.args.name) c.args.formula.now)
    c.from_nodes.ensures
