use Rattle.polarised_formulas.specs.declared.logic.Logic.TheVariants.{Lkf, Ljf}
use Rattle.explicit_form.proofs.Fronts.{found-word}
use Rattle.explicit_form.proofs.front.word_at.Goals as goal

pub returns-in-Lkf : goal.returns-in-Lkf
returns-in-Lkf c = found-word c.args.logic Lkf c.args.bytes.now c.lkf_word.result c.in-Lkf.is c.lkf_word.ensures

pub returns-in-Ljf : goal.returns-in-Ljf
returns-in-Ljf c = found-word c.args.logic Ljf c.args.bytes.now c.ljf_word.result c.in-Ljf.is c.ljf_word.ensures
