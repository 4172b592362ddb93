-- The headline, part by part, for LKF:
--
-- Whatever the problem, definition and certificate files hold, the program accepts only a goal that
-- has a derivation in plain LKF following the files' clauses; the explicit certificate that it
-- writes is accepted by its determinate kernel, which accepts exactly the spellings of derivations
-- of the goal, in one rule step per node; every verdict under a definition is the stated search's
-- within the stated budget.
use Rattle.std.specs.Prelude.{◌≡◌, ◌≢◌, ◌⊎◌, ℕ, ◌+◌, List, [], length, Option, Some, Ok}
use Rattle.fpc_base.specs.Lexeme.{items_of}
use Rattle.fpc_base.specs.Outside.{Outside, Output, Content, holds, Rose, Adds}
use Rattle.fpc_terms.specs.Name.{Agrees}
use Rattle.polarised_formulas.specs.Formula.{Formula, IsClosed}
use Rattle.polarised_formulas.specs.PlainForm.{GivesBack}
use Rattle.polarised_formulas.specs.Written.{WrittenFormula, formula_meant}
use Rattle.polarised_formulas.specs.declared.logic.Logic.TheVariants.{Lkf}
use Rattle.polarised_formulas.specs.declared.step.Step.{Step}
use Rattle.search_model.specs.Checking.{IsOutcomeWithin}
use Rattle.search_model.specs.declared.plain.Outcome.{Outcome}
use Rattle.search_model.specs.declared.plain.Outcome.TheVariants as search
use Rattle.lkf_rules.specs.Derivation.{IsDerivable, node_count}
use Rattle.lkf_rules.specs.Lkf.{lkf}
use Rattle.explicit_kernel.specs.JudgmentLaws.{IsAccepted as IsTextOfSpelling}
use Rattle.explicit_kernel.specs.Verdict.{IsJudged}
use Rattle.explicit_kernel.specs.declared.verify.Verdict.TheVariants.{Accepted as AcceptedBy}
use Rattle.elaborator.specs.Check.{IsJustified}
use Rattle.elaborator.specs.Elaborate.{explicit_text}
use Rattle.elaborator.specs.OneOutcome.{IsChecked}
use Rattle.fpc_cli.specs.declared.answer.Answer.TheVariants.{Accepted}
use Rattle.fpc_cli.specs.declared.command.Wanted.{Wanted}
use Rattle.fpc_cli.specs.Answer.{answer_text, status_of}
use Rattle.fpc_cli.specs.BuiltIn.{built_in_text}
use Rattle.fpc_cli.specs.Command.{Asked, verify, elaborate, Chosen, in_file, built_in, guided}
use Rattle.fpc_cli.specs.Grammars as grammar
use Rattle.fpc_cli.specs.Inputs.{IsAccepted}
use Rattle.fpc_cli.specs.Run.{IsAnswered}
use Rattle.fpc_cli.specs.commands.Guided.{answer_of, success_of}

-- What is seen of a run: what its words ask for, what is told of the files, the status, and what had
-- come of the files and of the sink before the run, and has now.
pub record Seen : Type 0 where
  pub asked : Asked
  pub content : List ℕ → Content
  pub status : ℕ
  pub files_before : Outside
  pub files_now : Outside
  pub sink_before : Output
  pub sink_now : Output

-- what `run` says of every run holds: an answer has its cause, and was told and written
abbrev pub IsRun : Seen → Type 0
IsRun r =
    IsAnswered r.asked r.content r.files_before r.files_now r.status
    r.sink_before.faults r.sink_now.faults r.sink_before.taken r.sink_now.taken

-- the sink took just this text, where it tells what it takes
abbrev pub Writes : Seen → List ℕ → Type 0
Writes r text = Adds r.sink_before.taken text r.sink_now.taken

-- no count of faults rose or stands at its last value: so no call failed, but the opening of a file
-- that is missing
pub record IsCalm (r : Seen) : Type 0 where
  pub files : Rose r.files_before.faults r.files_now.faults → ⊥
  pub sink : Rose r.sink_before.faults r.sink_now.faults → ⊥

-- the status isn't that of want of memory; of a calm run: memory sufficed
abbrev pub HasMemory : Seen → Type 0
HasMemory r = r.status ≢ 8

-- a definition's bytes: those that its file holds, or those that are built in
abbrev pub IsDefinitionHeld : (List ℕ → Content) → Chosen → List ℕ → Type 0
IsDefinitionHeld content (in_file name) bytes = content name ≡ holds bytes
IsDefinitionHeld content (built_in definition) bytes = bytes ≡ built_in_text definition

-- a problem's file, a definition and a certificate's file hold these bytes
pub record AreHeld (content : List ℕ → Content) (problem : List ℕ) (chosen : Chosen)
    (certificate : List ℕ) (first second third : List ℕ) : Type 0 where
  pub problem_held : content problem ≡ holds first
  pub definition_held : IsDefinitionHeld content chosen second
  pub certificate_held : content certificate ≡ holds third

-- a problem of LKF, a definition of LKF and a certificate of LKF after it, within the limits
pub record AreWellFormed (first second third : List ℕ) : Type 0 where
  pub problem_formed : IsAccepted grammar.lkf_problem first
  pub definition_formed : IsAccepted (grammar.definition (Some Lkf)) second
  pub certificate_formed : IsAccepted (grammar.certificate_after second) third

-- 'a goal that has a derivation in plain LKF following the files' clauses'
--
-- By the numbers of names in a table, the problem's bytes have a goal, which is closed, and the
-- clauses and formulas of the definition, with the certificate's behind them, are a program, with
-- the certificate's term. The search for the goal is accepted with these steps. The goal is
-- derivable; the steps spell a derivation, and this is a guided derivation of the program under some
-- closing of its term, without levels, certificates and indexes.
pub record Follows (budget : ℕ) (first second third : List ℕ) (names : List (List ℕ))
    (steps : List Step) : Type 0 where
  pub units : ℕ
  pub checked : IsChecked (items_of first) (items_of second) (items_of third) budget names
      (search.Accepted steps units)
  pub closed : IsClosed checked.goal
  pub derivable : IsDerivable checked.goal
  pub justified : IsJustified checked.program checked.goal steps

-- 'the program accepts only' such a goal: where `check` or `elaborate` ends with status 0, it has
-- written what is due for the steps, which is their number under `check`
abbrev pub AcceptsOnlyDerivable : Seen → Type 0
AcceptsOnlyDerivable r =
    (wanted : Wanted) (budget : ℕ) (problem : List ℕ) (chosen : Chosen) (certificate : List ℕ)
    → r.asked ≡ guided wanted budget problem chosen certificate
    → (first second third : List ℕ)
    → AreHeld r.content problem chosen certificate first second third
    → r.status ≡ 0
    → (names : List (List ℕ)) × ((steps : List Step)
    × (Follows budget first second third names steps
    × Writes r (answer_text (success_of wanted names steps))))

-- each run of `verify` on files that hold the problem and these bytes, in which no call fails and
-- memory suffices, ends with status 0 and tells so many steps
abbrev pub IsVerifiedWith : (first bytes : List ℕ) → ℕ → Type 0
IsVerifiedWith first bytes n =
    (s : Seen) → IsRun s → (problem explicit : List ℕ) → s.asked ≡ verify problem explicit
    → s.content problem ≡ holds first → s.content explicit ≡ holds bytes
    → IsCalm s → HasMemory s → (s.status ≡ 0) × Writes s (answer_text (Accepted n))

-- 'the explicit certificate that it writes': what the sink takes under `elaborate` with status 0 is
-- the text of the steps of the accepted search; 'is accepted by its determinate kernel'
pub record WritesAccepted (r : Seen) (budget : ℕ) (first second third : List ℕ) : Type 0 where
  pub names : List (List ℕ)
  pub steps : List Step
  pub follows : Follows budget first second third names steps
  pub written : Writes r (explicit_text names steps)
  pub verified : IsVerifiedWith first (explicit_text names steps) (length steps)

-- so, where `elaborate` ends with status 0
abbrev pub WritesOnlyAccepted : Seen → Type 0
WritesOnlyAccepted r =
    (budget : ℕ) (problem : List ℕ) (chosen : Chosen) (certificate : List ℕ)
    → r.asked ≡ elaborate budget problem chosen certificate
    → (first second third : List ℕ)
    → AreHeld r.content problem chosen certificate first second third
    → r.status ≡ 0
    → WritesAccepted r budget first second third

-- The bytes are the text, within the limits, of so many steps that spell a derivation of the goal;
-- 'in one rule step per node': the derivation has as many nodes, and so many steps are told.
pub record IsToldSpelling (r : Seen) (text : ℕ → List ℕ) (number : List ℕ → ℕ) (goal : Formula)
    (bytes : List ℕ) (n : ℕ) : Type 0 where
  pub certificate : IsTextOfSpelling lkf text number goal bytes n
  pub nodes : node_count certificate.spelling.derivation.of ≡ n
  pub told : Writes r (answer_text (Accepted n))

-- 'which accepts' only 'the spellings of derivations of the goal': where `verify` ends with status 0
-- the problem's file is a problem of LKF, and the other file is such a text for its goal, by each
-- numbering of names
abbrev pub AcceptsOnlySpellings : Seen → Type 0
AcceptsOnlySpellings r =
    (problem explicit : List ℕ) → r.asked ≡ verify problem explicit
    → (first bytes : List ℕ) → r.content problem ≡ holds first → r.content explicit ≡ holds bytes
    → r.status ≡ 0
    → IsAccepted grammar.lkf_problem first
    × ((w : WrittenFormula) → grammar.IsProblemOf first w
    → (text : ℕ → List ℕ) (number : List ℕ → ℕ) → GivesBack text number
    → (n : ℕ) × IsToldSpelling r text number (formula_meant number [] [] w) bytes n)

-- and it accepts each of them: of a problem of LKF and such a text, by any numbering of names, where
-- no call fails and memory suffices
abbrev pub AcceptsEachSpelling : Seen → Type 0
AcceptsEachSpelling r =
    (problem explicit : List ℕ) → r.asked ≡ verify problem explicit
    → (first bytes : List ℕ) → r.content problem ≡ holds first → r.content explicit ≡ holds bytes
    → IsAccepted grammar.lkf_problem first
    → (w : WrittenFormula) → grammar.IsProblemOf first w
    → (text : ℕ → List ℕ) (number : List ℕ → ℕ) → GivesBack text number
    → (n : ℕ) → IsTextOfSpelling lkf text number (formula_meant number [] [] w) bytes n
    → IsCalm r → HasMemory r
    → (r.status ≡ 0) × IsToldSpelling r text number (formula_meant number [] [] w) bytes n

-- 'in one rule step per node', of the call `verify`: where what its contract says of an answer holds
-- (`IsJudged`) and it is accepted with n steps, there are n ticks, and the bytes that were judged are
-- the text of n steps that spell a derivation of the goal with n nodes, by each numbering that
-- agrees with the table
abbrev pub TicksAreNodes : Type 0
TicksAreNodes =
    (names : List (List ℕ)) (goal : Formula) → IsClosed goal
    → (old left : Option (List ℕ)) (before now n : ℕ)
    → (j : IsJudged names goal old left before now (Ok (AcceptedBy n)))
    → (text : ℕ → List ℕ) (number : List ℕ → ℕ) → GivesBack text number → Agrees number names
    → (now ≡ before + n)
    × ((c : IsTextOfSpelling lkf text number goal j.bytes n)
    × (node_count c.spelling.derivation.of ≡ n))

-- The search for the problem's goal, by the program of the definition and the certificate, has an
-- outcome within the budget, and the status and the text are those of this outcome; by each other
-- table of names the answer is the same.
pub record IsTheSearchs (r : Seen) (wanted : Wanted) (budget : ℕ) (first second third : List ℕ)
    : Type 0 where
  pub names : List (List ℕ)
  pub outcome : Outcome
  pub checked : IsChecked (items_of first) (items_of second) (items_of third) budget names outcome
  pub within : IsOutcomeWithin budget outcome
  pub status : r.status ≡ status_of (answer_of wanted names outcome)
  pub written : Writes r (answer_text (answer_of wanted names outcome))
  pub only : (others : List (List ℕ)) (other : Outcome)
      → IsChecked (items_of first) (items_of second) (items_of third) budget others other
      → answer_of wanted others other ≡ answer_of wanted names outcome

-- the status is that of a verdict: accepted, rejected, budget spent or too long
abbrev pub IsVerdict : ℕ → Type 0
IsVerdict status = (status ≡ 0) ⊎ ((status ≡ 1) ⊎ ((status ≡ 2) ⊎ (status ≡ 7)))

-- 'every verdict under a definition is the stated search's within the stated budget': where `check`
-- or `elaborate` ends with a verdict, the files are well-formed, and it is that of the search
abbrev pub VerdictsAreTheSearchs : Seen → Type 0
VerdictsAreTheSearchs r =
    (wanted : Wanted) (budget : ℕ) (problem : List ℕ) (chosen : Chosen) (certificate : List ℕ)
    → r.asked ≡ guided wanted budget problem chosen certificate
    → (first second third : List ℕ)
    → AreHeld r.content problem chosen certificate first second third
    → IsVerdict r.status
    → AreWellFormed first second third × IsTheSearchs r wanted budget first second third

-- and of well-formed files the verdict comes, where no call fails and memory suffices
abbrev pub VerdictsCome : Seen → Type 0
VerdictsCome r =
    (wanted : Wanted) (budget : ℕ) (problem : List ℕ) (chosen : Chosen) (certificate : List ℕ)
    → r.asked ≡ guided wanted budget problem chosen certificate
    → (first second third : List ℕ)
    → AreHeld r.content problem chosen certificate first second third
    → AreWellFormed first second third
    → IsCalm r → HasMemory r
    → IsTheSearchs r wanted budget first second third

-- The headline, of a run.
pub record Headline (r : Seen) : Type 0 where
  pub accepts : AcceptsOnlyDerivable r
  pub writes : WritesOnlyAccepted r
  pub only_spellings : AcceptsOnlySpellings r
  pub each_spelling : AcceptsEachSpelling r
  pub ticks : TicksAreNodes
  pub verdicts : VerdictsAreTheSearchs r
  pub verdicts_come : VerdictsCome r
