use Rattle.search_model.specs.Search.{rejected}
use Rattle.search_model.proofs.NamesKept.{accepted-named}
use Rattle.search_model.proofs.SolveAnswer.{accepted-is, accepted-right, accepted-within, rejected-right, units-within}
use Rattle.search_model.proofs.solve.plain_solve.Goals as goal

pub returns-in-Rejected-clause-units : goal.returns-in-Rejected-clause-units
returns-in-Rejected-clause-units c = units-within c.args.program.now c.args.atom.now c.args.variables c.args.budget c.in-Rejected.units rejected (rw (c.in-Rejected.is) at c.in_ok-units.ensures)

pub returns-in-Rejected-clause-right : goal.returns-in-Rejected-clause-right
returns-in-Rejected-clause-right c = rejected-right c.args.program.now c.args.atom.now c.args.variables c.args.budget c.requires.program.is_open.clauses_open c.requires.is_open c.in-Rejected.units (rw (c.in-Rejected.is) at c.in_ok-units.ensures)

pub atom_room-requires : goal.atom_room-requires
atom_room-requires c =
    accepted-named c.args.names.now c.args.program.now c.args.atom.now c.in_ok-found-in-Accepted.found c.args.variables c.args.budget c.in-Accepted.units c.requires.program.words c.requires.program.clauses_named c.requires.named
    (accepted-is c.args.program.now c.args.atom.now c.args.variables c.args.budget c.in-Accepted.asked c.in-Accepted.units c.in_ok-found-in-Accepted.found (rw (c.in-Accepted.is) at c.in_ok-units.ensures) c.in_ok-found-in-Accepted.ensures)

pub returns-in-Some-clause-units : goal.returns-in-Some-clause-units
returns-in-Some-clause-units c =
    accepted-within c.args.program.now c.args.atom.now c.args.variables c.args.budget c.in_ok-found-in-Accepted.found c.in-Accepted.units
    (accepted-is c.args.program.now c.args.atom.now c.args.variables c.args.budget c.in-Accepted.asked c.in-Accepted.units c.in_ok-found-in-Accepted.found (rw (c.in-Accepted.is) at c.in_ok-units.ensures) c.in_ok-found-in-Accepted.ensures)

pub returns-in-Some-clause-right : goal.returns-in-Some-clause-right
returns-in-Some-clause-right c =
    accepted-right c.args.program.now c.args.atom.now c.args.variables c.args.budget c.requires.program.is_open.clauses_open c.requires.is_open c.in_ok-found-in-Accepted.found c.in-Accepted.units
    (accepted-is c.args.program.now c.args.atom.now c.args.variables c.args.budget c.in-Accepted.asked c.in-Accepted.units c.in_ok-found-in-Accepted.found (rw (c.in-Accepted.is) at c.in_ok-units.ensures) c.in_ok-found-in-Accepted.ensures)

pub returns-clause-right : goal.returns-clause-right
returns-clause-right c = (
  c.in_ok-found-in-Accepted.found,
  accepted-right c.args.program.now c.args.atom.now c.args.variables c.args.budget c.requires.program.is_open.clauses_open c.requires.is_open c.in_ok-found-in-Accepted.found c.in-Accepted.units
      (accepted-is c.args.program.now c.args.atom.now c.args.variables c.args.budget c.in-Accepted.asked c.in-Accepted.units c.in_ok-found-in-Accepted.found (rw (c.in-Accepted.is) at c.in_ok-units.ensures) c.in_ok-found-in-Accepted.ensures),
)
