use Rattle.explicit_form.proofs.Certificates.{certificate_begins, certificate_is_whole, other_calculus}
use Rattle.explicit_form.proofs.laws_of_certificates.Goals as goal

pub returns-clause-begins : goal.returns-clause-begins
returns-clause-begins c = certificate_begins

pub returns-clause-whole : goal.returns-clause-whole
returns-clause-whole c = certificate_is_whole

pub returns-clause-other : goal.returns-clause-other
returns-clause-other c = other_calculus
