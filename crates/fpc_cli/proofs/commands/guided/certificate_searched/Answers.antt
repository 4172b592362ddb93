use Rattle.polarised_formulas.proofs.TableGrowth.{formula-grown}
use Rattle.std.proofs.Common.{refl, inl, inr}
use Rattle.fpc_cli.proofs.commands.GuidedFacts.{certificate-comes, certificate-decides, read-together}
use Rattle.fpc_cli.proofs.commands.guided.certificate_searched.Goals as goal

pub guided_answer-requires-clause-read : goal.guided_answer-requires-clause-read
guided_answer-requires-clause-read g c =
    let r = c.in-Ok.ensures.read in
    read-together c.args.names.now c.certificate_in.new.names c.certificate_in.ensures.names c.args.definition c.in-Ok.certificate c.requires.read c.requires.named r.0 r.1.1

pub guided_answer-requires-clause-named : goal.guided_answer-requires-clause-named
guided_answer-requires-clause-named g c = formula-grown c.args.names.now c.certificate_in.new.names c.certificate_in.ensures.names c.args.problem.now.goal c.requires.goal

pub returns-in-Ok-guided_answer-clause-comes : goal.returns-in-Ok-guided_answer-clause-comes
returns-in-Ok-guided_answer-clause-comes g c = λ first second goal_read d_read.
    let before = c.args.files.now in
    let after = c.certificate_in.new.files in
    certificate-comes (g.F.Source.outside before).content c.args.wanted c.args.budget c.args.certificate.now
    (g.F.Source.outside before)
    (g.F.Source.outside after)
    c.args.names.now c.certificate_in.new.names c.certificate_in.ensures.names c.distinct.ensures c.args.problem.now.goal c.args.definition first second goal_read d_read
    c.in-Ok.certificate c.in-Ok-guided_answer.answer c.in-Ok.ensures.read c.requires.named
    (inr (λ third p d s. c.in-Ok-guided_answer.ensures first second third p d s))

pub returns-in-Err-guided_answer-clause-comes : goal.returns-in-Err-guided_answer-clause-comes
returns-in-Err-guided_answer-clause-comes g c = λ first second goal_read d_read.
    let before = c.args.files.now in
    let after = c.certificate_in.new.files in
    certificate-comes (g.F.Source.outside before).content c.args.wanted c.args.budget c.args.certificate.now
    (g.F.Source.outside before)
    (g.F.Source.outside after)
    c.args.names.now c.certificate_in.new.names c.certificate_in.ensures.names c.distinct.ensures c.args.problem.now.goal c.args.definition first second goal_read d_read
    c.in-Ok.certificate _ c.in-Ok.ensures.read c.requires.named (inl refl)

pub returns-in-Err-clause-comes : goal.returns-in-Err-clause-comes
returns-in-Err-clause-comes g c = λ first second goal_read d_read.
    let before = c.args.files.now in
    let after = c.certificate_in.new.files in
    certificate-decides (g.F.Source.outside before).content c.args.wanted c.args.budget c.args.certificate.now
    (g.F.Source.outside before)
    (g.F.Source.outside after)
    c.args.names.now c.certificate_in.new.names c.certificate_in.ensures.names c.distinct.ensures c.args.problem.now.goal c.args.definition first second goal_read d_read
    c.in-Err.answer c.in-Err.ensures.decides
