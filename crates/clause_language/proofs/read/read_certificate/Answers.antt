use Rattle.std.proofs.Common.{length}
use Rattle.fpc_base.specs.Lexeme.{items_of}
use Rattle.clause_language.specs.ReadFile.{names_of}
use Rattle.clause_language.specs.declared.file.FileKind.TheVariants.{Certificate}
use Rattle.clause_language.proofs.ReadFacts.{certificate-end, certificate-refused, certificate-named}
use Rattle.clause_language.proofs.read.read_certificate.Goals as goal

pub returns-in-Ok-read_tokens-clause-read : goal.returns-in-Ok-read_tokens-clause-read
returns-in-Ok-read_tokens-clause-read c =
    let earlier = names_of c.args.names.now c.args.earlier.now in
    (certificate-end c.args.expected earlier (items_of c.args.bytes.now) (length c.args.bytes.now) c.read_tokens.new.names c.in-Ok-read_tokens.reader c.finish_certificate.result
    (c.in-Ok-read_tokens.ensures.ok earlier (rw c.items.ensures at c.in-Ok.ensures))
    (λ s h. c.finish_certificate.ensures c.read_tokens.new.names Certificate c.args.expected earlier s h)).0

pub returns-in-Ok-read_tokens-clause-named : goal.returns-in-Ok-read_tokens-clause-named
returns-in-Ok-read_tokens-clause-named c =
    let earlier = names_of c.args.names.now c.args.earlier.now in
    certificate-named c.args.expected earlier (items_of c.args.bytes.now) (length c.args.bytes.now) c.read_tokens.new.names c.finish_certificate.result c.distinct.ensures
    (certificate-end c.args.expected earlier (items_of c.args.bytes.now) (length c.args.bytes.now) c.read_tokens.new.names c.in-Ok-read_tokens.reader c.finish_certificate.result
    (c.in-Ok-read_tokens.ensures.ok earlier (rw c.items.ensures at c.in-Ok.ensures))
    (λ s h. c.finish_certificate.ensures c.read_tokens.new.names Certificate c.args.expected earlier s h)).0

pub returns-in-Ok-read_tokens-clause-refused : goal.returns-in-Ok-read_tokens-clause-refused
returns-in-Ok-read_tokens-clause-refused c = λ small.
    let earlier = names_of c.args.names.now c.args.earlier.now in
    (certificate-end c.args.expected earlier (items_of c.args.bytes.now) (length c.args.bytes.now) c.read_tokens.new.names c.in-Ok-read_tokens.reader c.finish_certificate.result
    (c.in-Ok-read_tokens.ensures.ok earlier (rw c.items.ensures at c.in-Ok.ensures))
    (λ s h. c.finish_certificate.ensures c.read_tokens.new.names Certificate c.args.expected earlier s h)).1

pub returns-in-Err-read_tokens-clause-refused : goal.returns-in-Err-read_tokens-clause-refused
returns-in-Err-read_tokens-clause-refused c = λ small.
    let earlier = names_of c.args.names.now c.args.earlier.now in
    certificate-refused c.args.expected earlier (items_of c.args.bytes.now) (length c.args.bytes.now) c.read_tokens.new.names c.in-Err-read_tokens.error (c.in-Err-read_tokens.ensures.err earlier (rw c.items.ensures at c.in-Ok.ensures))
