use Rattle.std.proofs.Common.{◌≡◌, List, ℕ, subst}
use Rattle.fpc_terms.specs.Adding.{AddsOnly, IsText}
use Rattle.polarised_formulas.proofs.Following.{popped}
use Rattle.polarised_formulas.proofs.plain.reader.PlainReader.in_lkf_word.Goals as goal

pub returns-in-None-clause-only : goal.returns-in-None-clause-only
returns-in-None-clause-only c =
    let e : c.pop.new.self.items ≡ c.args.self.now.word.items = popped _ c.push.new.word.items _ _ _ c.pop.ensures.rest c.in_ok-push.ensures (cc) in
    subst (λ (w : List ℕ). AddsOnly (IsText w) c.args.names.now c.end_name.new.names) e c.end_name.ensures.only
