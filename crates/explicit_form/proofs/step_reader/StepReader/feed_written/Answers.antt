use Rattle.std.proofs.Common.{◌+◌, None, refl}
use Rattle.explicit_form.proofs.FrontFeeding.{both-taken, told-behind, adds-behind}
use Rattle.explicit_form.proofs.step_reader.StepReader.feed_written.Goals as goal

pub returns-in-Ok-clause-only : goal.returns-in-Ok-clause-only
returns-in-Ok-clause-only c = λ logic before stands.
    let old = c.args.self.now in
    let middle = record old { line = c.begin_plain.new.self; step = None; at = old.at + c.args.n } in
    adds-behind old middle c.args.written c.args.n c.args.bytes.now c.split_at.result.1.now c.requires.begin c.requires.word c.requires.length c.requires.room (cc) (c.begin_plain.ensures c.requires.begin.line.word) refl refl refl
    logic before c.args.names.now c.feed_plain.new.names stands (λ front h. c.in-Ok.ensures.only logic front h)

pub returns-in-Ok-clause-line : goal.returns-in-Ok-clause-line
returns-in-Ok-clause-line c = λ number logic st agrees here.
    let old = c.args.self.now in
    let middle = record old { line = c.begin_plain.new.self; step = None; at = old.at + c.args.n } in
    both-taken old middle c.args.written c.args.n c.args.bytes.now c.split_at.result.1.now c.requires.begin c.requires.word c.requires.length c.requires.room (cc) (c.begin_plain.ensures c.requires.begin.line.word) refl refl refl
    number logic st here c.in-Ok.more c.feed_plain.new.self (λ s at. c.in-Ok.ensures.line number logic s agrees at)

pub returns-in-Err-clause-only : goal.returns-in-Err-clause-only
returns-in-Err-clause-only c = λ logic before stands.
    let old = c.args.self.now in
    let middle = record old { line = c.begin_plain.new.self; step = None; at = old.at + c.args.n } in
    adds-behind old middle c.args.written c.args.n c.args.bytes.now c.split_at.result.1.now c.requires.begin c.requires.word c.requires.length c.requires.room (cc) (c.begin_plain.ensures c.requires.begin.line.word) refl refl refl
    logic before c.args.names.now c.feed_plain.new.names stands (λ front h. c.in-Err.ensures.only logic front h)

pub returns-in-Err-clause-line : goal.returns-in-Err-clause-line
returns-in-Err-clause-line c = λ number logic st agrees here.
    let old = c.args.self.now in
    let middle = record old { line = c.begin_plain.new.self; step = None; at = old.at + c.args.n } in
    told-behind old middle c.args.written c.args.n c.args.bytes.now c.split_at.result.1.now c.requires.begin c.requires.word c.requires.length c.requires.room (cc) (c.begin_plain.ensures c.requires.begin.line.word) refl refl refl
    number logic st here c.in-Err.fault c.feed_plain.new.self (λ s at. c.in-Err.ensures.line number logic s agrees at)
