use Rattle.lkf_rules.proofs.Exchange.{AreAlike-permutation, IsRebuilt-alike}
use Rattle.lkf_rules.specs.Laws.{stored_of}
use Rattle.lkf_rules.specs.Derivation.{root_sequent}
use Rattle.lkf_rules.proofs.laws.exchange.Goals as goal

pub returns : goal.returns
returns c = λ t fs h p.
    let u = IsRebuilt-alike t fs h (AreAlike-permutation (stored_of (root_sequent t)) fs p) in (u.of, u.root, u.is_derivation, u.count)
