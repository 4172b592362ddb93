use Rattle.clause_language.proofs.PrintFacts.{certificate-pieces}
use Rattle.clause_language.proofs.print.print_certificate.Goals as goal

pub returns : goal.returns
returns c =
    rw (c.in_ok-extend_from_slice-2.ensures.items, c.in_ok-print_term.ensures.ok, c.in_ok-extend_from_slice.ensures.items, c.in_ok-out.ensures, c.items-declared.ensures, c.items-clauses.ensures)
    (certificate-pieces c.args.names.now c.args.certificate.now.logic c.args.certificate.now.declared c.args.certificate.now.clauses c.args.certificate.now.term)
