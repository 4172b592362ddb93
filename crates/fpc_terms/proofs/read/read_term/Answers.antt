use Rattle.fpc_terms.specs.Name.{index_in}
use Rattle.fpc_terms.specs.ReadTerm.{numbered}
use Rattle.fpc_terms.proofs.ReadFacts.{Agrees-index_in}
use Rattle.fpc_terms.proofs.NamesBelow.{told-below}
use Rattle.fpc_terms.proofs.read.read_term.Goals as goal

pub returns-in-Ok-Some-clause-ok : goal.returns-in-Ok-Some-clause-ok
returns-in-Ok-Some-clause-ok c =
    let l = c.in_ok-reader.ensures.ok in
    record {
      written = l.written;
      reads = l.reads;
      variables = l.variables;
      meant = λ number a.
          (let e = rw c.in-Ok-Some.field-0-is at
          (c.in-Ok-Some.ensures.whole number (numbered (index_in c.read_whole.new.vars)) l.state l.written (l.holds number (index_in c.read_whole.new.vars) a (Agrees-index_in _ c.distinct-2.ensures)) l.whole) in cc);
    }

pub returns-in-Ok-Some-clause-named : goal.returns-in-Ok-Some-clause-named
returns-in-Ok-Some-clause-named c =
    let l = c.in_ok-reader.ensures.ok in
    told-below c.read_whole.new.names c.distinct.ensures (numbered (index_in c.read_whole.new.vars)) (λ x. tt) c.in-Ok-Some.term l.written (Agrees-index_in _ c.distinct.ensures)
    (λ number a.
    (let e = rw c.in-Ok-Some.field-0-is at
    (c.in-Ok-Some.ensures.whole number (numbered (index_in c.read_whole.new.vars)) l.state l.written (l.holds number (index_in c.read_whole.new.vars) a (Agrees-index_in _ c.distinct-2.ensures)) l.whole) in cc))
