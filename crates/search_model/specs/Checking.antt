-- The search for the root of a goal in the calculus of a table, and what its outcome means.
use Rattle.std.specs.Prelude.{◌≡◌, ℕ, ◌<◌, ◌≤◌, List, [], map}
use Rattle.fpc_terms.specs.Open.{IsGround, constant}
use Rattle.fpc_terms.specs.Term.{Term, put}
use Rattle.polarised_formulas.specs.Formula.{Formula}
use Rattle.polarised_formulas.specs.declared.step.Step.{Step}
use Rattle.clause_language.specs.LeastModel.{fits}
use Rattle.clause_language.specs.declared.program.Program.{Program}
use Rattle.polarised_formulas.specs.OpenFormula.{put_step}
use Rattle.search_model.specs.Run.{Ending, ended, spent}
use Rattle.search_model.specs.Search.{item, Alternative, Answer, accepted, rejected, search}
use Rattle.search_model.specs.Table.{ItemOn, derive, Table, calculus_of}
use Rattle.search_model.specs.declared.plain.Outcome.{Outcome}
use Rattle.search_model.specs.declared.plain.Outcome.TheVariants.{Accepted, Rejected, Spent}

-- the emitted steps, with `any` for each variable that is left
abbrev pub trace_of : {I : Type 0} → Program → Alternative I Step → List Step
trace_of p found = map (put_step (constant p.ids.any)) found.emitted

module _ (T : Table) (p : Program) (goal : Formula) where
  -- the search for the root of the goal by the program's certificate, at level 0; the
  -- certificate's variables have no level
  abbrev pub checking : ℕ → Ending (Answer (ItemOn T.SequentOf) Step)
  checking budget =
      search (calculus_of T) fits p.clauses budget (item (derive p.term 0 (T.root_of goal))) []
      p.variables

  -- the search is accepted with these steps, in so many units
  pub record IsTraced (budget : ℕ) (trace : List Step) (units : ℕ) : Type 0 where
    pub found : Alternative (ItemOn T.SequentOf) Step
    pub ends : checking budget ≡ ended (accepted found) units
    pub is_trace : trace ≡ trace_of p found

  -- the outcome is the one of the search within the budget
  abbrev pub IsOutcome : ℕ → Outcome → Type 0
  IsOutcome budget (Accepted trace units) = IsTraced budget trace units
  IsOutcome budget (Rejected units) = checking budget ≡ ended rejected units
  IsOutcome budget Spent = checking budget ≡ spent

  -- the steps complete the root of the goal, under some closing of the certificate
  pub record IsCompletedBy (steps : List Step) : Type 0 where
    pub closing : ℕ → Term
    pub ground : (n : ℕ) → IsGround (closing n)
    pub completed : T.Completed (derive (put closing p.term) 0 (T.root_of goal)) steps

  -- what is accepted completes the goal, by its steps; where the search is rejected nothing does
  abbrev pub IsOutcomeRight : Outcome → Type 0
  IsOutcomeRight (Accepted trace units) = IsCompletedBy trace
  IsOutcomeRight (Rejected units) = (steps : List Step) → ¬ (IsCompletedBy steps)
  IsOutcomeRight Spent = Unit {0}

-- An outcome of the search for a goal with so many units is the same within each budget that has
-- them, and each smaller budget is spent.
abbrev pub OutcomeOfCheckIsSettled : (Program → Table) → Type 0
OutcomeOfCheckIsSettled table =
    (p : Program) (goal : Formula) (budget units : ℕ)
    (answer : Answer (ItemOn (table p).SequentOf) Step)
    → checking (table p) p goal budget ≡ ended answer units
    → ((more : ℕ) → units ≤ more → checking (table p) p goal more ≡ ended answer units)
    × ((fewer : ℕ) → fewer < units → checking (table p) p goal fewer ≡ spent)

-- the units are within the budget
abbrev pub IsOutcomeWithin : ℕ → Outcome → Type 0
IsOutcomeWithin budget (Accepted trace units) = units ≤ budget
IsOutcomeWithin budget (Rejected units) = units ≤ budget
IsOutcomeWithin budget Spent = Unit {0}
