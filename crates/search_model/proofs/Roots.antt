-- What a search for the root of a goal says, for any table.
use Rattle.std.specs.Prelude.{◌≡◌, ℕ, ◌≤◌, None, List, [], map, replicate}
use Rattle.std.proofs.Common.{sym, subst, ap, ◌∙◌, arith, refl}
use Rattle.std.proofs.lemmas.List.{length-replicate}
use Rattle.fpc_terms.specs.Open.{Level, constant}
use Rattle.fpc_terms.specs.Term.{Term, put}
use Rattle.fpc_terms.proofs.RunFacts.{IsSettled, settled}
use Rattle.polarised_formulas.specs.Formula.{Formula, IsClosed}
use Rattle.polarised_formulas.specs.declared.step.Step.{Step}
use Rattle.clause_language.specs.declared.program.Program.{Program}
use Rattle.clause_language.specs.LeastModel.{fits}
use Rattle.clause_language.specs.Program.{IsOpenProgram}
use Rattle.search_model.specs.Checking.{checking, trace_of, IsTraced, IsCompletedBy, IsOutcomeRight}
use Rattle.search_model.specs.Lawful.{IsGoal, IsComplete, IsLawful}
use Rattle.polarised_formulas.specs.OpenFormula.{put_step}
use Rattle.search_model.specs.Run.{ended}
use Rattle.search_model.specs.Search.{Alternative, Answer, State, accepted, answer, item, rejected, search, start, step}
use Rattle.search_model.specs.Table.{ItemOn, derive, Table, calculus_of, AreSequents, IsTable}
use Rattle.search_model.specs.TableLaws.{AreSoundLines}
use Rattle.search_model.specs.declared.plain.Outcome.TheVariants as outcome
use Rattle.search_model.proofs.ChoiceFacts.{fits_is_choice}
use Rattle.search_model.proofs.Complete.{rejected_item}
use Rattle.search_model.proofs.Sound.{accepted_completed}
use Rattle.search_model.proofs.TableFacts.{sequent_closed, table_lawful}

module _ (T : Table) (p : Program) (goal : Formula) where
  -- the root of the goal
  abbrev Root : ItemOn T.SequentOf
  Root = derive p.term 0 (T.root_of goal)

  -- the search for it, by equal parts
  pub root-search : (x : Term) (q : T.SequentOf) (asked : List Term) → x ≡ p.term
      → q ≡ T.root_of goal → asked ≡ [] → (budget : ℕ)
      → search (calculus_of T) fits p.clauses budget (item (derive x 0 q)) asked p.variables
      ≡ checking T p goal budget
  root-search x q asked same_term same_root none budget = rw (same_term, same_root, none) refl

  -- the units of an outcome are settled
  pub check_settled : (budget units : ℕ) (r : Answer (ItemOn T.SequentOf) Step)
      → checking T p goal budget ≡ ended r units
      → IsSettled (State (ItemOn T.SequentOf) Step) (Answer (ItemOn T.SequentOf) Step) answer
      (step (calculus_of T) fits p.clauses) budget (start (item Root) [] p.variables) r units
  check_settled budget units r e =
      settled (State (ItemOn T.SequentOf) Step) (Answer (ItemOn T.SequentOf) Step) answer
      (step (calculus_of T) fits p.clauses) budget (start (item Root) [] p.variables) r units e

  -- the steps that were found are those of the search
  pub traced : (budget units : ℕ) (emitted trace : List Step)
      → (a : Alternative (ItemOn T.SequentOf) Step)
      × (checking T p goal budget ≡ ended (accepted a) units) × (a.emitted ≡ emitted)
      → trace ≡ map (put_step (constant p.ids.any)) emitted → IsTraced T p goal budget trace units
  traced budget units emitted trace found is = record {
    found = found.0;
    ends = found.1;
    is_trace = is ∙ ap (map (put_step (constant p.ids.any))) (sym found.2);
  }

  -- the units of an outcome are within the budget
  pub root-within : (budget units : ℕ) (r : Answer (ItemOn T.SequentOf) Step)
      → checking T p goal budget ≡ ended r units → units ≤ budget
  root-within budget units r e = (check_settled budget units r e).within

  pub traced-within : (budget units : ℕ) (trace : List Step) → IsTraced T p goal budget trace units
      → units ≤ budget
  traced-within budget units trace is = root-within budget units (accepted is.found) is.ends

  module _ (sequents : AreSequents T) (table : IsTable T) (is_open : IsOpenProgram p)
      (closed : IsClosed goal) where
    root_open : (calculus_of T).IsOpenItem p.variables Root
    root_open = (
      is_open.term_open,
      sequents.open_more 0 p.variables (omega arith) (T.root_of goal) (table.root_open goal closed),
    )

    root_scoped : (calculus_of T).IsScopedItem (replicate p.variables None) Root
    root_scoped = (
      tt,
      sequents.scoped_more [] (replicate p.variables None) 0 (T.root_of goal)
          (table.root_scoped goal closed),
    )

    -- the root is a goal
    pub root_is_goal : IsGoal (calculus_of T) (replicate p.variables None) (item Root)
    root_is_goal = (
      subst (λ k. (calculus_of T).IsOpenItem k Root)
          (sym (length-replicate {A = Level} p.variables None)) root_open,
      root_scoped,
    )

    module _ (lines : AreSoundLines T p.clauses) where
      lawful : IsLawful (calculus_of T) p.clauses
      lawful = table_lawful T sequents p.clauses lines

      -- what is accepted completes the root, by its steps
      pub accepted_root : (budget units : ℕ) (trace : List Step)
          → IsTraced T p goal budget trace units → IsCompletedBy T p goal trace
      accepted_root budget units trace is =
          let done = accepted_completed (calculus_of T) fits fits_is_choice p.clauses lawful
          is_open.clauses_open budget Root p.variables root_open root_scoped is.found units is.ends p.ids.any in
          record {
            closing = done.0;
            ground = done.1;
            completed =
                subst (T.Completed (derive (put done.0 p.term) 0 (T.root_of goal))) (sym is.is_trace)
                (subst (λ q. T.Completed (derive (put done.0 p.term) 0 q) (trace_of p is.found))
                (sequent_closed T sequents done.0 (T.root_of goal) (table.root_open goal closed)) done.2);
          }

      -- where it is rejected nothing completes the root
      pub rejected_root : IsComplete (calculus_of T) p.clauses → (budget units : ℕ)
          → checking T p goal budget ≡ ended rejected units
          → IsOutcomeRight T p goal (outcome.Rejected units)
      rejected_root complete budget units e = λ steps is.
          rejected_item (calculus_of T) fits fits_is_choice p.clauses lawful complete
          is_open.clauses_open budget Root p.variables root_open root_scoped units e is.closing
          is.ground steps
          (subst (λ q. T.Completed (derive (put is.closing p.term) 0 q) steps)
          (sym (sequent_closed T sequents is.closing (T.root_of goal) (table.root_open goal closed)))
          is.completed)
