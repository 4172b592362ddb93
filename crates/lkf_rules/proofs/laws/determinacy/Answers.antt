use Rattle.polarised_formulas.proofs.Calculus.Play.{PlaysOne-same}
use Rattle.polarised_formulas.proofs.Calculus.Preorder.{Spells-one}
use Rattle.polarised_formulas.proofs.Calculus.Spelling.{IsSpelling-one}
use Rattle.lkf_rules.specs.Lkf.{lkf}
use Rattle.lkf_rules.proofs.laws.determinacy.Goals as goal

pub returns-clause-one_list : goal.returns-clause-one_list
returns-clause-one_list c = PlaysOne-same lkf

pub returns-clause-one_tree : goal.returns-clause-one_tree
returns-clause-one_tree c = Spells-one lkf

pub returns-clause-one_spelling : goal.returns-clause-one_spelling
returns-clause-one_spelling c = IsSpelling-one lkf
