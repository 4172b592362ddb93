use Rattle.explicit_form.proofs.ReaderFeeding.{fed, stands-behind, is-within, moves-on}
use Rattle.explicit_form.proofs.step_reader.StepReader.feed.Goals as goal

pub returns-then-is_at_begin-clause-only : goal.returns-then-is_at_begin-clause-only
returns-then-is_at_begin-clause-only c = λ logic known before h grown. c.feed_line.ensures.only logic before (stands-behind logic known c.args.names.now before c.args.bytes.now c.args.self.now c.feed_line.new.self h grown)

pub returns-then-is_at_begin-clause-fed : goal.returns-then-is_at_begin-clause-fed
returns-then-is_at_begin-clause-fed c = λ logic known before h grown.
    fed logic known c.feed_line.new.names before c.args.bytes.now c.args.self.now c.feed_line.new.self h (λ k text e. c.feed_line.ensures.grows k text (grown k text e)) c.feed_line.result c.feed_line.ensures.line c.feed_line.ensures.count c.feed_line.ensures.place

pub returns-then-is_at_begin-clause-within : goal.returns-then-is_at_begin-clause-within
returns-then-is_at_begin-clause-within c = is-within c.args.bytes.now c.feed_line.result c.feed_line.ensures.count

pub returns-then-is_at_begin-clause-moves : goal.returns-then-is_at_begin-clause-moves
returns-then-is_at_begin-clause-moves c = moves-on c.args.bytes.now c.feed_line.result c.feed_line.ensures.count

pub returns-else-is_at_begin-clause-only : goal.returns-else-is_at_begin-clause-only
returns-else-is_at_begin-clause-only c = λ logic known before h grown. c.feed_anywhere.ensures.only logic before (stands-behind logic known c.args.names.now before c.args.bytes.now c.args.self.now c.feed_anywhere.new.self h grown)

pub returns-else-is_at_begin-clause-fed : goal.returns-else-is_at_begin-clause-fed
returns-else-is_at_begin-clause-fed c = λ logic known before h grown.
    fed logic known c.feed_anywhere.new.names before c.args.bytes.now c.args.self.now c.feed_anywhere.new.self h (λ k text e. c.feed_anywhere.ensures.grows k text (grown k text e)) c.feed_anywhere.result c.feed_anywhere.ensures.line c.feed_anywhere.ensures.count c.feed_anywhere.ensures.place

pub returns-else-is_at_begin-clause-within : goal.returns-else-is_at_begin-clause-within
returns-else-is_at_begin-clause-within c = is-within c.args.bytes.now c.feed_anywhere.result c.feed_anywhere.ensures.count

pub returns-else-is_at_begin-clause-moves : goal.returns-else-is_at_begin-clause-moves
returns-else-is_at_begin-clause-moves c = moves-on c.args.bytes.now c.feed_anywhere.result c.feed_anywhere.ensures.count
