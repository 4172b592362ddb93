use Rattle.explicit_kernel.proofs.SameCourses.{numbers_dont_matter}
use Rattle.explicit_kernel.proofs.laws.numbers.Goals as goal

pub returns : goal.returns
returns c = numbers_dont_matter
