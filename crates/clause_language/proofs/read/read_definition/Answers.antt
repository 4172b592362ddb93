use Rattle.std.proofs.Common.{[], ap, List, ℕ, length}
use Rattle.fpc_base.specs.Lexeme.{items_of}
use Rattle.fpc_base.specs.Tokens.{is_one_of}
use Rattle.clause_language.specs.declared.file.FileKind.TheVariants.{Definition}
use Rattle.clause_language.proofs.ReadFacts.{definition-end, definition-refused, definition-named}
use Rattle.clause_language.proofs.read.read_definition.Goals as goal

pub returns-in-Ok-clause-read : goal.returns-in-Ok-clause-read
returns-in-Ok-clause-read c =
    (definition-end c.args.expected (items_of c.args.bytes.now) (length c.args.bytes.now) c.read_tokens.new.names c.in-Ok.reader c.finish_definition.result
    (c.in-Ok.ensures.ok [] (λ x. ap (λ (t : List (List ℕ)). is_one_of t x) c.new-none.ensures))
    (λ s h. c.finish_definition.ensures c.read_tokens.new.names Definition c.args.expected [] s h)).0

pub returns-in-Ok-clause-named : goal.returns-in-Ok-clause-named
returns-in-Ok-clause-named c =
    definition-named c.args.expected (items_of c.args.bytes.now) (length c.args.bytes.now) c.read_tokens.new.names c.finish_definition.result c.distinct.ensures
    (definition-end c.args.expected (items_of c.args.bytes.now) (length c.args.bytes.now) c.read_tokens.new.names c.in-Ok.reader c.finish_definition.result
    (c.in-Ok.ensures.ok [] (λ x. ap (λ (t : List (List ℕ)). is_one_of t x) c.new-none.ensures))
    (λ s h. c.finish_definition.ensures c.read_tokens.new.names Definition c.args.expected [] s h)).0

pub returns-in-Ok-clause-refused : goal.returns-in-Ok-clause-refused
returns-in-Ok-clause-refused c = λ small.
    (definition-end c.args.expected (items_of c.args.bytes.now) (length c.args.bytes.now) c.read_tokens.new.names c.in-Ok.reader c.finish_definition.result
    (c.in-Ok.ensures.ok [] (λ x. ap (λ (t : List (List ℕ)). is_one_of t x) c.new-none.ensures))
    (λ s h. c.finish_definition.ensures c.read_tokens.new.names Definition c.args.expected [] s h)).1

pub returns-in-Err-clause-refused : goal.returns-in-Err-clause-refused
returns-in-Err-clause-refused c = λ small.
    definition-refused c.args.expected (items_of c.args.bytes.now) (length c.args.bytes.now) c.read_tokens.new.names c.in-Err.error (c.in-Err.ensures.err [] (λ x. ap (λ (t : List (List ℕ)). is_one_of t x) c.new-none.ensures))
