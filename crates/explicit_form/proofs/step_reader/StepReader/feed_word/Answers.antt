use Rattle.std.proofs.Common.{refl}
use Rattle.explicit_form.proofs.FrontFeeding.{bare-taken}
use Rattle.explicit_form.proofs.step_reader.StepReader.feed_word.Goals as goal

pub returns-in-Bare-clause-line : goal.returns-in-Bare-clause-line
returns-in-Bare-clause-line c = λ number logic st agrees here.
    bare-taken number logic st c.args.bytes.now c.args.self.now c.requires.begin here c.requires.room c.args.word c.in-Bare.bare _ _ c.in-Bare.is c.requires.word c.requires.length refl refl cc
