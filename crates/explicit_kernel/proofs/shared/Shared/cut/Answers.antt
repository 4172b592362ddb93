use Rattle.std.proofs.Common.{◌≡◌, sym, ◌∙◌}
use Rattle.std.specs.Prelude.{true}
use Rattle.polarised_formulas.specs.declared.logic.Logic.TheVariants.{Lkf}
use Rattle.polarised_formulas.specs.Held.{given}
use Rattle.polarised_formulas.specs.Scope.{may_be_cut}
use Rattle.polarised_formulas.proofs.HeldFacts.{may_be_held}
use Rattle.lkf_rules.proofs.StepFacts.{is_proper}
use Rattle.explicit_kernel.proofs.NamingFacts.{cut-played}
use Rattle.explicit_kernel.proofs.shared.Shared.cut.Goals as goal

pub of_formula-requires : goal.of_formula-requires
of_formula-requires c = may_be_held c.args.formula (is_proper c.args.level c.args.formula (sym c.in_ok-may_be_cut.ensures ∙ c.in_ok-fits.ensures.ok))

pub returns-in-Ok-clause-played : goal.returns-in-Ok-clause-played
returns-in-Ok-clause-played c =
    let x = c.args.self.now in
    let passes : may_be_cut Lkf c.args.level 0 c.args.formula ≡ true = sym c.in_ok-may_be_cut.ensures ∙ c.in_ok-fits.ensures.ok in
    cut-played x c.args.level c.args.formula c.in_ok-formula.formula c.in_ok-dual.dual _ passes (is_proper c.args.level c.args.formula passes) c.in_ok-formula.ensures (c.in_ok-dual.ensures.stands (given x.terms.items)) c.in-Ok.ensures.pending
