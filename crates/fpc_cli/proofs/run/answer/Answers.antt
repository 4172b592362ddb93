use Rattle.std.proofs.Common.{subst}
use Rattle.fpc_cli.specs.Run.{IsCaused}
use Rattle.fpc_cli.proofs.run.answer.Goals as goal

pub returns-in-Verify-clause-caused : goal.returns-in-Verify-clause-caused
returns-in-Verify-clause-caused g c =
    let before = c.args.files.now in
    let after = c.verified.new.files in
    subst
    (λ asked. IsCaused asked (g.F.Source.outside before).content
    (g.F.Source.outside before)
    (g.F.Source.outside after)
    c.verified.result)
    c.in-Verify.ensures c.verified.ensures.caused

pub returns-in-Check-clause-caused : goal.returns-in-Check-clause-caused
returns-in-Check-clause-caused g c =
    let before = c.args.files.now in
    let after = c.searched.new.files in
    subst
    (λ asked. IsCaused asked (g.F.Source.outside before).content
    (g.F.Source.outside before)
    (g.F.Source.outside after)
    c.searched.result)
    c.in-Check.ensures c.searched.ensures.caused

pub returns-in-Elaborate-clause-caused : goal.returns-in-Elaborate-clause-caused
returns-in-Elaborate-clause-caused g c =
    let before = c.args.files.now in
    let after = c.searched-in-Elaborate.new.files in
    subst
    (λ asked. IsCaused asked (g.F.Source.outside before).content
    (g.F.Source.outside before)
    (g.F.Source.outside after)
    c.searched-in-Elaborate.result)
    c.in-Elaborate.ensures c.searched-in-Elaborate.ensures.caused

pub returns-in-Format-clause-caused : goal.returns-in-Format-clause-caused
returns-in-Format-clause-caused g c =
    let before = c.args.files.now in
    let after = c.formatted.new.files in
    subst
    (λ asked. IsCaused asked (g.F.Source.outside before).content
    (g.F.Source.outside before)
    (g.F.Source.outside after)
    c.formatted.result)
    c.in-Format.ensures c.formatted.ensures.caused

pub returns-in-Solve-clause-caused : goal.returns-in-Solve-clause-caused
returns-in-Solve-clause-caused g c =
    let before = c.args.files.now in
    let after = c.solved.new.files in
    subst
    (λ asked. IsCaused asked (g.F.Source.outside before).content
    (g.F.Source.outside before)
    (g.F.Source.outside after)
    c.solved.result)
    c.in-Solve.ensures c.solved.ensures.caused
