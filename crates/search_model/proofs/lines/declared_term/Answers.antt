use Rattle.std.proofs.Common.{rules, ◌≡◌, ◌+◌, ◌-◌, ◌<◌, ◌≤◌, ◌∷◌, ◌++◌, [], IfOk, sym, ap, ◌∙◌, subst, arith, append_assoc}
use Rattle.fpc_terms.specs.declared.cell.Cell.TheVariants.{App, Var}
use Rattle.fpc_terms.specs.Term.{term_of}
use Rattle.search_model.proofs.LineTerms.{cells_left, next-cell, cells-end, one_declared, term_of-declared}
use Rattle.search_model.proofs.lines.declared_term.Goals as goal

pub loop-k-init : goal.loop-k-init
loop-k-init c =
    ap (λ xs. xs ++ cells_left c.args.fresh 0 (c.args.parameters - 0))
    (c.in_ok-push.ensures.items ∙ ap (λ xs. xs ++ App c.args.name c.args.parameters ∷ []) c.new-cells.ensures.items)
    ∙ ap (λ m. App c.args.name c.args.parameters ∷ cells_left c.args.fresh 0 m) (omega arith)

pub loop-k-preserved : goal.loop-k-preserved
loop-k-preserved c =
    let low : c.loop-k.k < c.args.parameters = search rules in
    ap (λ xs. xs ++ cells_left c.args.fresh (c.loop-k.k + 1) (c.args.parameters - (c.loop-k.k + 1))) c.in_ok-push-2.ensures.items
    ∙ append_assoc c.loop-k.cells.items (Var (c.args.fresh + c.loop-k.k) ∷ []) (cells_left c.args.fresh (c.loop-k.k + 1) (c.args.parameters - (c.loop-k.k + 1)))
    ∙ ap (λ xs. c.loop-k.cells.items ++ xs) (sym (next-cell c.args.fresh c.loop-k.k c.args.parameters low)) ∙ c.loop-k.invariant

pub from_cells-requires : goal.from_cells-requires
from_cells-requires c =
    let end : c.args.parameters ≤ c.loop-k.k = search rules in
    rw c.as_slice.ensures.value
    (one_declared c.loop-k.cells.items c.args.name c.args.fresh c.args.parameters
    (cells-end c.loop-k.cells.items c.args.fresh c.loop-k.k c.args.parameters _ end c.loop-k.invariant))

pub returns : goal.returns
returns c =
    let end : c.args.parameters ≤ c.loop-k.k = search rules in
    subst (λ x. IfOk c.from_cells.result (λ t. t ≡ x))
    (ap term_of c.as_slice.ensures.value
    ∙ term_of-declared c.loop-k.cells.items c.args.name c.args.fresh c.args.parameters
    (cells-end c.loop-k.cells.items c.args.fresh c.loop-k.k c.args.parameters _ end c.loop-k.invariant))
    c.from_cells.ensures
