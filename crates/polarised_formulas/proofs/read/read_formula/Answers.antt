use Rattle.fpc_terms.proofs.ReadFacts.{Agrees-index_in}
use Rattle.polarised_formulas.proofs.FormulaNames.{told-names}
use Rattle.polarised_formulas.proofs.read.read_formula.Goals as goal

pub returns-in-Ok-Some-clause-ok : goal.returns-in-Ok-Some-clause-ok
returns-in-Ok-Some-clause-ok c =
    let l = c.in-Ok.ensures.ok in
    record {
      written = l.written;
      reads = l.reads;
      meant = λ number a.
          (let e = rw c.in-Ok-Some.field-0-is at (c.in-Ok-Some.ensures.whole number c.args.logic c.args.parameters.now l.state l.written (l.holds number a) l.whole) in cc);
    }

pub returns-in-Ok-Some-clause-named : goal.returns-in-Ok-Some-clause-named
returns-in-Ok-Some-clause-named c =
    let l = c.in-Ok.ensures.ok in
    told-names c.read_whole.new.names c.args.parameters.now c.distinct.ensures c.in-Ok-Some.formula l.written (Agrees-index_in _ c.distinct.ensures)
    (λ number a. (let e = rw c.in-Ok-Some.field-0-is at (c.in-Ok-Some.ensures.whole number c.args.logic c.args.parameters.now l.state l.written (l.holds number a) l.whole) in cc))
