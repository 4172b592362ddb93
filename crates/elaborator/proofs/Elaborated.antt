-- The steps of an accepted search have a text of their own, which is accepted.
use Rattle.std.proofs.Common.{ℕ, ◌<◌, ◌≤◌, List, length, Result, Ok, Err, IfOk, refl, sym, ◌∙◌, subst}
use Rattle.std.specs.List.{All}
use Rattle.fpc_base.specs.declared.outside.OutOfMemory.{OutOfMemory}
use Rattle.fpc_terms.specs.Name.{AreDifferent, AreNames}
use Rattle.polarised_formulas.specs.Formula.{Formula, IsClosed}
use Rattle.polarised_formulas.specs.Printing.{AllNamesBelow}
use Rattle.polarised_formulas.specs.Size.{HasFewInStep}
use Rattle.polarised_formulas.specs.declared.step.Step.{Step}
use Rattle.polarised_formulas.proofs.Calculus.Spelling.{length-spelling}
use Rattle.polarised_formulas.proofs.SameTexts.{formula_itself}
use Rattle.clause_language.specs.Program.{IsProgram}
use Rattle.clause_language.specs.declared.program.Program.{Program}
use Rattle.search_model.specs.Checking.{IsOutcome, IsOutcomeWithin}
use Rattle.search_model.specs.Same.{IsOneToOne, AreOneName, SameProgram}
use Rattle.search_model.specs.declared.plain.Outcome.{Outcome}
use Rattle.search_model.specs.declared.plain.Outcome.TheVariants as outcome
use Rattle.search_model.proofs.NamesKept.{program_itself}
use Rattle.search_model.proofs.SameChecks.{outcome-same}
use Rattle.search_model.proofs.SameNames.{one_to_one, words-same}
use Rattle.lkf_rules.specs.Lkf.{lkf}
use Rattle.lkf_kernel.specs.Guided.{lkf_table}
use Rattle.lkf_kernel.proofs.ByNames.{SameSequent, lkf_tables_same}
use Rattle.lkf_kernel.proofs.Shallow.{guided_is_shallow}
use Rattle.explicit_form.specs.Sizes.{StepsNamedBelow}
use Rattle.explicit_form.specs.StepLimits.{most_bytes}
use Rattle.explicit_form.proofs.SameTexts.{steps_named}
use Rattle.explicit_kernel.specs.OwnText.{IsOwnText, OwnTextIsAccepted, OwnTextIsVerified}
use Rattle.elaborator.specs.Check.{IsJustified, IsRight}
use Rattle.elaborator.specs.Elaborate.{IsElaborated, HasNodes, IsElaboration, IsVerified, IsTextVerified}
use Rattle.elaborator.specs.declared.elaborate.Elaborated.{Elaborated}
use Rattle.elaborator.specs.declared.elaborate.Elaborated.TheVariants.{Text, Rejected, Spent, TooLong}

module _ (names : List (List ℕ)) (different : AreDifferent names) (p : Program) (is_program : IsProgram names p) (goal : Formula) (goal_named : AllNamesBelow (length names) goal) where
  -- one name, in the table
  abbrev IsOne : ℕ → ℕ → Type 0
  IsOne = AreOneName names names

  itself : (f : ℕ) → f < length names → IsOne f f
  itself f l = (l, l, refl)

  below : (f g : ℕ) → IsOne f g → f < length names
  below f g h = h.0

  -- the names of the steps stand in the table: the outcome is the same as itself
  pub trace_named : (budget : ℕ) (trace : List Step) (units : ℕ) → IsOutcome (lkf_table p) p goal budget (outcome.Accepted trace units) → StepsNamedBelow (length names) trace
  trace_named budget trace units h =
      let one : IsOneToOne IsOne = one_to_one names names different different in
      let programs : SameProgram IsOne p p =
      program_itself IsOne (length names) itself p (words-same names names p.ids p.ids is_program.words is_program.words) is_program.declared_named is_program.clauses_named is_program.term_named in
      let same = outcome-same one (lkf_table p) (lkf_table p) (SameSequent IsOne) (lkf_tables_same one p p programs) p p programs
      goal goal (formula_itself IsOne (length names) itself goal goal_named) budget (outcome.Accepted trace units) (outcome.Accepted trace units) h h in
      steps_named IsOne (length names) below same.2

  module _ (proper : AreNames names) (closed : IsClosed goal) (accepts : OwnTextIsAccepted lkf) (verifies : OwnTextIsVerified lkf) where
    verified_own : (trace : List Step) (bytes : List ℕ) → IsOwnText lkf names goal trace bytes → IsVerified names goal bytes (length trace)
    verified_own trace bytes own = record {
      judged = λ number is. accepts names goal trace bytes own number is;
      verified = λ new differ grows left before now answer judged. verifies names goal trace bytes own new differ grows left before now answer judged;
    }

    -- the text of justified steps is accepted
    text_verified : (trace : List Step) → IsJustified p goal trace → StepsNamedBelow (length names) trace → All HasFewInStep trace
        → (units : ℕ) (e : Elaborated) → IsElaborated names (outcome.Accepted trace units) e → IsTextVerified names goal e
    text_verified trace j named few units (Text bytes steps taken) h =
        let own : IsOwnText lkf names goal trace bytes.items = record {
          different = different;
          proper = proper;
          closed = closed;
          spelling = j.spelling;
          named = named;
          few = few;
          shallow = guided_is_shallow p is_program.is_open.formulas j.guided.guided;
          text = h.0;
          short = subst (λ bs. length bs ≤ most_bytes) (sym h.0) h.1;
        } in
        subst (λ n. IsVerified names goal bytes.items n) (sym h.2) (verified_own trace bytes.items own)
    text_verified trace j named few units (Rejected taken) h = tt
    text_verified trace j named few units Spent h = tt
    text_verified trace j named few units TooLong h = tt

    -- so of what was found for an accepted search
    pub found_verified : (budget : ℕ) (trace : List Step) (units : ℕ) → IsOutcome (lkf_table p) p goal budget (outcome.Accepted trace units) → IsJustified p goal trace → All HasFewInStep trace
        → (r : Result Elaborated OutOfMemory) → IfOk r (IsElaborated names (outcome.Accepted trace units)) → IfOk r (IsTextVerified names goal)
    found_verified budget trace units is j few (Ok e) h = text_verified trace j (trace_named budget trace units is) few units e h
    found_verified budget trace units is j few (Err x) h = tt

-- an outcome that was elaborated, with the number of nodes
has-nodes : (names : List (List ℕ)) (p : Program) (goal : Formula) (o : Outcome) (right : IsRight p goal o) (e : Elaborated) → IsElaborated names o e → HasNodes p goal o right e
has-nodes names p goal (outcome.Accepted t u) right (Text bytes steps taken) h = sym (length-spelling lkf goal t right.spelling) ∙ sym h.2
has-nodes names p goal (outcome.Accepted t u) right TooLong h = tt
has-nodes names p goal (outcome.Rejected u) right (Rejected taken) h = tt
has-nodes names p goal outcome.Spent right Spent h = tt
has-nodes names p goal _ right _ h = absurd h

pub elaboration : (names : List (List ℕ)) (p : Program) (goal : Formula) (budget : ℕ) (o : Outcome) → IsOutcome (lkf_table p) p goal budget o → IsOutcomeWithin budget o → IsRight p goal o
    → (r : Result Elaborated OutOfMemory) → IfOk r (IsElaborated names o) → IfOk r (IsElaboration names p goal budget)
elaboration names p goal budget o is within right (Ok e) h = record {
  outcome = o;
  is_outcome = is;
  within = within;
  right = right;
  is_elaborated = h;
  nodes = has-nodes names p goal o right e h;
}
elaboration names p goal budget o is within right (Err x) h = tt
