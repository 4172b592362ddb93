use Rattle.clause_language.proofs.ReadAs.{definition-read_as, certificate-read_as}
use Rattle.clause_language.proofs.RoundTrip.{definition-text_read, definition-printable, definition-read_back, certificate-text_read, certificate-printable, certificate-read_back}
use Rattle.clause_language.proofs.laws.files_are_read_back.Goals as goal

pub returns-clause-definition_printed : goal.returns-clause-definition_printed
returns-clause-definition_printed c = definition-text_read

pub returns-clause-definition_printable : goal.returns-clause-definition_printable
returns-clause-definition_printable c = definition-printable

pub returns-clause-definition_back : goal.returns-clause-definition_back
returns-clause-definition_back c = definition-read_back

pub returns-clause-certificate_printed : goal.returns-clause-certificate_printed
returns-clause-certificate_printed c = certificate-text_read

pub returns-clause-certificate_printable : goal.returns-clause-certificate_printable
returns-clause-certificate_printable c = certificate-printable

pub returns-clause-certificate_back : goal.returns-clause-certificate_back
returns-clause-certificate_back c = certificate-read_back

pub returns-clause-definition_read : goal.returns-clause-definition_read
returns-clause-definition_read c = definition-read_as

pub returns-clause-certificate_read : goal.returns-clause-certificate_read
returns-clause-certificate_read c = certificate-read_as
