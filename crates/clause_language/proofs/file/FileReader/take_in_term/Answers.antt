use Rattle.std.proofs.Common.{◌≡◌, true}
use Rattle.clause_language.proofs.FileTokens.{in_term-item}
use Rattle.clause_language.proofs.file.FileReader.take_in_term.Goals as goal

pub returns-clause-taken : goal.returns-clause-taken
returns-clause-taken c = λ kind expected earlier s h m.
    let t = c.take_token.ensures in
    in_term-item c.args.names.now kind expected earlier s c.args.self.now h m c.take_token.result c.take_token.new.names c.take_token.new.vars c.take_token.new.reader _
    (λ e. (let r : c.is.result ≡ true = c.is.ensures.1 e in let f = c.if-is.false in cc)) t.names t.counted t.taken
