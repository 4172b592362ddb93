-- Laws of certificates that the search finds; those that say `↔` are answered by name.
use Rattle.explicit_form.proofs.Certificates.{certificate_is_one}
use Rattle.explicit_form.proofs.LineEnds.{line_ends, lines_are_read}
use Rattle.explicit_form.proofs.Naming.{plain_is_named}
use Rattle.explicit_form.proofs.Proper.{plain_step_is_proper}

pub ruleset laws = (plain_step_is_proper, plain_is_named, certificate_is_one, line_ends, lines_are_read)
