use Rattle.polarised_formulas.proofs.RoundTrip.{text-scanned, text-read, read-printable, read-back}
use Rattle.polarised_formulas.proofs.laws.problems_are_read_back.Goals as goal

pub returns-clause-scanned : goal.returns-clause-scanned
returns-clause-scanned c = text-scanned

pub returns-clause-printed : goal.returns-clause-printed
returns-clause-printed c = text-read

pub returns-clause-printable : goal.returns-clause-printable
returns-clause-printable c = read-printable

pub returns-clause-back : goal.returns-clause-back
returns-clause-back c = read-back
