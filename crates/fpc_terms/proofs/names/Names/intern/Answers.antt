use Rattle.fpc_terms.proofs.Places.{is_one_of-got, got-with_text, IsInterned-with_text, Grows-with_text, AreNames-with_text}
use Rattle.fpc_terms.proofs.names.Names.intern.Goals as goal

pub returns-in_err-number-clause-known : goal.returns-in_err-number-clause-known
returns-in_err-number-clause-known c = λ has. cc (c.in_err-number.ensures.known (rw c.self.view_is (is_one_of-got _ has.0 _ has.1)))

pub invariant_of-self : goal.invariant_of-self
invariant_of-self c = rw c.in_err-number.ensures.err c.self.invariant

pub invariant_of-self-2 : goal.invariant_of-self-2
invariant_of-self-2 c = rw c.in_ok-number.ensures.texts (AreNames-with_text _ _ c.requires c.self.invariant)

pub returns-clause-id : goal.returns-clause-id
returns-clause-id c = rw (c.new.ensures, c.in_ok-number.ensures.number, c.in_ok-number.ensures.texts) (got-with_text _ _)

pub returns-clause-names : goal.returns-clause-names
returns-clause-names c = rw (← c.self.view_is, c.in_ok-number.ensures.texts) (IsInterned-with_text _ _)

pub returns-clause-grows : goal.returns-clause-grows
returns-clause-grows c = rw (← c.self.view_is, c.in_ok-number.ensures.texts) (Grows-with_text _ _)
