use Rattle.fpc_base.proofs.Places.{items_left-within, front-within}
use Rattle.fpc_base.proofs.ReadingLaws.{front-once, front-refused_once, front-not_both}
use Rattle.fpc_terms.specs.ReadTerm.{any_variable}
use Rattle.fpc_terms.specs.Spot.{TermLimits}
use Rattle.fpc_terms.specs.Written.{IsTerm}
use Rattle.fpc_terms.proofs.OneAnswer.{term-once, limits-once}
use Rattle.fpc_terms.proofs.laws.one_answer.Goals as goal

pub returns-clause-read : goal.returns-clause-read
returns-clause-read c = λ most earlier items left more v w h k.
    front-once (IsTerm any_variable) (TermLimits any_variable most earlier) (term-once any_variable) (limits-once any_variable most earlier) h k

pub returns-clause-refused : goal.returns-clause-refused
returns-clause-refused c = λ most earlier n items r s h k.
    front-refused_once (IsTerm any_variable) (TermLimits any_variable most earlier) (term-once any_variable) (limits-once any_variable most earlier) h k

pub returns-clause-both : goal.returns-clause-both
returns-clause-both c = λ most earlier n items left w r h k.
    front-not_both (IsTerm any_variable) (TermLimits any_variable most earlier) h k

pub returns-clause-within : goal.returns-clause-within
returns-clause-within c = λ most earlier tokens r h.
    front-within (IsTerm any_variable) (TermLimits any_variable most earlier) h (items_left-within tokens)
