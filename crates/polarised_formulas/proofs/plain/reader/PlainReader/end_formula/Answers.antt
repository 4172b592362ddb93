use Rattle.polarised_formulas.proofs.Answering.{ends-line, ends-none}
use Rattle.polarised_formulas.proofs.plain.reader.PlainReader.end_formula.Goals as goal

pub returns-in-Some : goal.returns-in-Some
returns-in-Some c = λ logic hs f h. ends-line logic hs f c.args.self.now h c.in-Some.formula c.args.self.now (let e = c.in-Some.is in let v = c.take.ensures in cc)

pub returns-in-None : goal.returns-in-None
returns-in-None c = λ logic hs f h. ends-none logic hs f c.args.self.now h c.args.self.now (let e = c.in-None.is in let v = c.take.ensures in cc)
