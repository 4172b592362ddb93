-- The answer that an elaborated outcome is.
use Rattle.std.proofs.Common.{◌≡◌, ℕ, ◌<◌, ◌≤◌, nat_le, if◌then◌else◌, Bool, true, false, List, length, refl, sym, ap, ◌∙◌, subst, arith}
use Rattle.std.proofs.lemmas.Bool.Decides.{nat_tests}
use Rattle.polarised_formulas.specs.Formula.{Formula}
use Rattle.polarised_formulas.specs.PlainLimits.{IsNumbering}
use Rattle.clause_language.specs.declared.program.Program.{Program}
use Rattle.search_model.specs.Checking.{IsOutcome, IsOutcomeWithin}
use Rattle.search_model.specs.declared.plain.Outcome.{Outcome}
use Rattle.search_model.specs.declared.plain.Outcome.TheVariants as search
use Rattle.lkf_kernel.specs.Guided.{lkf_table}
use Rattle.explicit_form.specs.StepLimits.{most_bytes}
use Rattle.explicit_kernel.specs.Judgment.{accepted, judgment}
use Rattle.elaborator.specs.Check.{IsRight}
use Rattle.elaborator.specs.Elaborate.{explicit_text, IsElaborated, IsElaboration, IsTextVerified}
use Rattle.elaborator.specs.declared.elaborate.Elaborated.{Elaborated}
use Rattle.elaborator.specs.declared.elaborate.Elaborated.TheVariants.{Text, Rejected, Spent, TooLong}
use Rattle.fpc_cli.specs.declared.answer.Answer.{Answer}
use Rattle.fpc_cli.specs.declared.answer.Answer.TheVariants as answer
use Rattle.fpc_cli.specs.declared.command.Wanted.TheVariants.{Verdict, Explicit}
use Rattle.fpc_cli.specs.commands.Guided.{as_text, answer_of, IsAcceptedText, IsSearched}

-- a text that isn't too long is the answer, and of one that is the answer says so
abbrev pub by_length : List ℕ → Bool → Answer
by_length text b = if b then answer.Formatted text else answer.TooLong

pub short_text : (text : List ℕ) → length text ≤ most_bytes → as_text text ≡ answer.Formatted text
short_text text short = by (nat_le (length text) most_bytes) refl
  where
    by : (b : Bool) → nat_le (length text) most_bytes ≡ b → as_text text ≡ answer.Formatted text
    by true e = ap (by_length text) e
    by false e = absurd (grind (arith, nat_tests))

pub long_text : (text : List ℕ) → most_bytes < length text → as_text text ≡ answer.TooLong
long_text text long = by (nat_le (length text) most_bytes) refl
  where
    by : (b : Bool) → nat_le (length text) most_bytes ≡ b → as_text text ≡ answer.TooLong
    by true e = absurd (grind (arith, nat_tests))
    by false e = ap (by_length text) e

-- the answer to an elaborated outcome
abbrev pub elaborated_answer : Elaborated → Answer
elaborated_answer (Text bytes steps units) = answer.Formatted bytes.items
elaborated_answer (Rejected units) = answer.NotProved
elaborated_answer Spent = answer.BudgetSpent
elaborated_answer TooLong = answer.TooLong

pub elaborated-told : (e : Elaborated) (names : List (List ℕ)) (o : Outcome) → IsElaborated names o e → elaborated_answer e ≡ answer_of Explicit names o
elaborated-told (Text bytes steps taken) names (search.Accepted t u) h = ap answer.Formatted h.0 ∙ sym (short_text (explicit_text names t) h.1)
elaborated-told TooLong names (search.Accepted t u) h = sym (long_text (explicit_text names t) h)
elaborated-told (Rejected taken) names (search.Rejected u) h = refl
elaborated-told Spent names search.Spent h = refl
elaborated-told _ names _ h = absurd h

-- the explicit certificate is judged accepted
accepted-text : (names : List (List ℕ)) (goal : Formula) (o : Outcome) (e : Elaborated) → IsElaborated names o e → IsTextVerified names goal e → (a : Answer) → a ≡ answer_of Explicit names o
    → IsAcceptedText names goal o a
accepted-text names goal (search.Accepted t u) (Text bytes steps taken) h v a told =
    let judged : (number : List ℕ → ℕ) → IsNumbering names number → judgment number goal (explicit_text names t) ≡ accepted (length t) =
    λ number is. ap (judgment number goal) (sym h.0) ∙ v.judged number is ∙ ap accepted h.2 in
    subst (IsAcceptedText names goal (search.Accepted t u)) (sym (told ∙ short_text (explicit_text names t) h.1)) judged
accepted-text names goal (search.Accepted t u) TooLong h v a told = subst (IsAcceptedText names goal (search.Accepted t u)) (sym (told ∙ long_text (explicit_text names t) h)) tt
accepted-text names goal (search.Rejected u) (Rejected taken) h v a told = tt
accepted-text names goal search.Spent Spent h v a told = tt
accepted-text names goal _ _ h v a told = absurd h

-- so an elaboration is a search
pub elaboration-searched : (names : List (List ℕ)) (p : Program) (goal : Formula) (budget : ℕ) (e : Elaborated) → IsElaboration names p goal budget e → IsTextVerified names goal e
    → (a : Answer) → ((names : List (List ℕ)) (o : Outcome) → IsElaborated names o e → a ≡ answer_of Explicit names o) → IsSearched Explicit names p goal budget a
elaboration-searched names p goal budget e h v a told =
    let same = told names h.outcome h.is_elaborated in
    record {
      outcome = h.outcome;
      is_outcome = h.is_outcome;
      within = h.within;
      right = h.right;
      told = same;
      verified = accepted-text names goal h.outcome e h.is_elaborated v a same;
    }

-- a verdict is no text
verdict-text : (names : List (List ℕ)) (goal : Formula) (o : Outcome) (a : Answer) → a ≡ answer_of Verdict names o → IsAcceptedText names goal o a
verdict-text names goal (search.Accepted t u) a told = subst (IsAcceptedText names goal (search.Accepted t u)) (sym told) tt
verdict-text names goal (search.Rejected u) a told = tt
verdict-text names goal search.Spent a told = tt

-- a check is a search
pub check-searched : (p : Program) (goal : Formula) (budget : ℕ) (o : Outcome) → IsOutcome (lkf_table p) p goal budget o → IsOutcomeWithin budget o → IsRight p goal o
    → (a : Answer) → ((names : List (List ℕ)) → a ≡ answer_of Verdict names o) → (names : List (List ℕ)) → IsSearched Verdict names p goal budget a
check-searched p goal budget o is within right a told names = record {
  outcome = o;
  is_outcome = is;
  within = within;
  right = right;
  told = told names;
  verified = verdict-text names goal o a (told names);
}
