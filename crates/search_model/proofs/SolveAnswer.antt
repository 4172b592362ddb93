-- The answer of the plain search is right.
use Rattle.std.specs.Prelude.{◌≡◌, ℕ, ◌<◌, ◌≤◌, ◌-◌, Bool, true, false, nat_le, if◌then◌else◌, List, map, Some, None}
use Rattle.std.proofs.Common.{ap, ◌∙◌, sym, subst, arith, refl}
use Rattle.std.proofs.lemmas.Bool.Decides.{nat_tests}
use Rattle.fpc_terms.specs.Open.{AreOpen, constant}
use Rattle.fpc_terms.specs.Term.{Term, put}
use Rattle.fpc_terms.specs.Text.{room_left}
use Rattle.clause_language.specs.declared.atom.Atom.{Atom}
use Rattle.clause_language.specs.declared.clause.Clause.{Clause}
use Rattle.clause_language.specs.declared.program.Program.{Program}
use Rattle.clause_language.specs.LeastModel.{AreOpenClauses, fits}
use Rattle.search_model.specs.Run.{ended}
use Rattle.search_model.specs.Search.{Alternative, Answer, State, accepted, answer, call, rejected, start, step}
use Rattle.search_model.specs.Solve.{IsAccepted, IsRight, IsSound, Nothing, no_calculus, solving}
use Rattle.search_model.specs.declared.solve.Solved.TheVariants as solved
use Rattle.fpc_terms.proofs.RunFacts.{IsSettled, settled}
use Rattle.search_model.proofs.SolveComplete.{rejected_holds_not}
use Rattle.search_model.proofs.SolveFacts.{solved_holds, solved_instance}

-- an outcome of the search for an atom is settled
pub solving-settled : (clauses : List Clause) (a : Atom) (variables budget units : ℕ) (r : Answer Nothing Nothing) → solving clauses budget a variables ≡ ended r units
    → IsSettled (State Nothing Nothing) (Answer Nothing Nothing) answer (step no_calculus fits clauses) budget (start (call a) a.arguments variables) r units
solving-settled clauses a variables budget units r e =
    settled (State Nothing Nothing) (Answer Nothing Nothing) answer (step no_calculus fits clauses) budget (start (call a) a.arguments variables) r units e

-- there is room where some is left
pub room-some : (room n m : ℕ) → Some m ≡ room_left room n → n ≤ room
room-some room n m e = go (nat_le n room) refl e
  where
    go : (b : Bool) → nat_le n room ≡ b → Some m ≡ (if b then Some (room - n) else None) → n ≤ room
    go true is e = grind (arith, nat_tests, is)
    go false is e = absurd (cc)

-- there is none where none is left
pub room-none : (room n : ℕ) → None ≡ room_left room n → room < n
room-none room n e = go (nat_le n room) refl e
  where
    go : (b : Bool) → nat_le n room ≡ b → None ≡ (if b then Some (room - n) else None) → room < n
    go true is e = absurd (cc)
    go false is e = grind (arith, nat_tests, is)

module _ (p : Program) (asked : Atom) (variables budget : ℕ) where
  -- the accepted atom, from the arguments that were found
  pub accepted-is : (arguments : List Term) (units : ℕ) (a : Atom)
      → (b : Alternative Nothing Nothing) × (solving p.clauses budget asked variables ≡ ended (accepted b) units) × (b.asked ≡ arguments)
      → a ≡ record { name = asked.name; arguments = map (put (constant p.ids.any)) arguments } → IsAccepted p asked variables budget a units
  accepted-is arguments units a f is =
      record { found = f.0; ends = f.1; atom = is ∙ ap (λ ts. record { name = asked.name; arguments = map (put (constant p.ids.any)) ts }) (sym f.2) }

  module _ (opens : AreOpenClauses p.clauses) (is_open : AreOpen variables asked.arguments) where
    -- it is sound
    pub accepted-right : (a : Atom) (units : ℕ) → IsAccepted p asked variables budget a units → IsSound p.clauses asked a
    accepted-right a units r =
        subst (IsSound p.clauses asked) (sym r.atom)
        (let i = solved_instance p.clauses asked opens variables is_open p.ids.any budget units r.found r.ends in
        record { holds = solved_holds p.clauses asked opens variables is_open p.ids.any budget units r.found r.ends; terms = i.0; ground = i.1; is_instance = i.2 })

    -- no instance of a rejected atom holds
    pub rejected-right : (units : ℕ) → solving p.clauses budget asked variables ≡ ended rejected units → IsRight p.clauses asked (solved.Rejected units)
    rejected-right units e = rejected_holds_not p.clauses opens asked variables is_open budget units e

  -- the units of an outcome are within the budget
  pub units-within : (units : ℕ) (r : Answer Nothing Nothing) → solving p.clauses budget asked variables ≡ ended r units → units ≤ budget
  units-within units r e = (solving-settled p.clauses asked variables budget units r e).within

  pub accepted-within : (a : Atom) (units : ℕ) → IsAccepted p asked variables budget a units → units ≤ budget
  accepted-within a units r = units-within units (accepted r.found) r.ends
