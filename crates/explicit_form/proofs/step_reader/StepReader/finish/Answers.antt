use Rattle.explicit_form.proofs.ReaderFeeding.{not-whole, whole, not-faulty}
use Rattle.explicit_form.proofs.step_reader.StepReader.finish.Goals as goal

pub returns-in-Heading-clause-whole : goal.returns-in-Heading-clause-whole
returns-in-Heading-clause-whole c = λ logic names bytes number h agrees. not-whole logic names bytes number c.args.self.now h agrees c.in-Heading.is

pub returns-in-Ended-clause-whole : goal.returns-in-Ended-clause-whole
returns-in-Ended-clause-whole c = λ logic names bytes number h agrees. whole logic names bytes number c.args.self.now h agrees c.in-Ended.is

pub returns-in-Faulty-clause-whole : goal.returns-in-Faulty-clause-whole
returns-in-Faulty-clause-whole c = λ logic names bytes number h agrees. absurd (not-faulty logic names bytes number c.args.self.now h agrees c.in-Faulty.fault c.in-Faulty.is)
