-- The answer to `check` and to `elaborate` is one, and the one that the three files call for.
use Rattle.std.proofs.Common.{◌≡◌, ℕ, List, [], ◌∷◌, length, refl, sym, ap, ◌∙◌, subst, inl, inr, Some}
use Rattle.fpc_base.specs.Outside.{Outside, Content}
use Rattle.polarised_formulas.specs.declared.logic.Logic.TheVariants.{Lkf}
use Rattle.fpc_terms.specs.Same.{SameList}
use Rattle.fpc_terms.specs.Text.{name_in}
use Rattle.polarised_formulas.specs.Same.{SameStep}
use Rattle.polarised_formulas.specs.declared.step.Step.{Step}
use Rattle.search_model.specs.Same.{AreOneName, SameOutcome}
use Rattle.explicit_form.proofs.SameTexts.{certificate_text-same}
use Rattle.fpc_cli.specs.declared.command.Wanted.{Wanted}
use Rattle.fpc_cli.specs.declared.command.Wanted.TheVariants.{Verdict, Explicit}
use Rattle.search_model.specs.declared.plain.Outcome.{Outcome}
use Rattle.search_model.specs.declared.plain.Outcome.TheVariants as search
use Rattle.elaborator.specs.OneOutcome.{CheckedOnce}
use Rattle.fpc_base.specs.Lexeme.{items_of}
use Rattle.fpc_cli.specs.declared.answer.Answer.{Answer}
use Rattle.fpc_cli.specs.declared.answer.Answer.TheVariants.{Accepted}
use Rattle.fpc_cli.specs.Command.{Chosen}
use Rattle.fpc_cli.specs.Grammars as grammar
use Rattle.fpc_cli.specs.Laws.{IsFound}
use Rattle.fpc_cli.specs.commands.Guided.{GuidedEnds, EndsGuided, IsGuidedAnswer, IsItsAnswer, GuidedIsDue, answer_of, success_of, as_text, certificate_input, guided_task, definition_in}
use Rattle.fpc_cli.proofs.GrammarLaws.{lkf_problem-lawful, definition-lawful, certificate_after-lawful}
use Rattle.fpc_cli.proofs.InputLaws.{IsLawfulTask}
use Rattle.fpc_cli.proofs.OriginFacts.{lawful-input}

-- steps that are the same but for the numbers of names have one explicit certificate, and one number
success-of-same : (wanted : Wanted) (names others : List (List ℕ)) (t m : List Step) → length t ≡ length m → SameList (SameStep (AreOneName names others)) t m → success_of wanted names t ≡ success_of wanted others m
success-of-same Verdict names others t m e h = ap Accepted e
success-of-same Explicit names others t m e h = ap as_text (certificate_text-same (name_in names) (name_in others) (λ f g s. s.2) Lkf h)

-- outcomes that are the same but for the numbers of names are one answer
answer-of-same : (wanted : Wanted) (names others : List (List ℕ)) (r s : Outcome) → SameOutcome (AreOneName names others) r s → answer_of wanted names r ≡ answer_of wanted others s
answer-of-same wanted names others (search.Accepted t u) (search.Accepted m v) h = success-of-same wanted names others t m h.0 h.2
answer-of-same wanted names others (search.Rejected u) (search.Rejected v) h = refl
answer-of-same wanted names others search.Spent search.Spent h = refl
answer-of-same wanted names others (search.Accepted t u) (search.Rejected v) h = absurd h
answer-of-same wanted names others (search.Accepted t u) search.Spent h = absurd h
answer-of-same wanted names others (search.Rejected u) (search.Accepted m v) h = absurd h
answer-of-same wanted names others (search.Rejected u) search.Spent h = absurd h
answer-of-same wanted names others search.Spent (search.Accepted m v) h = absurd h
answer-of-same wanted names others search.Spent (search.Rejected v) h = absurd h

-- the answer of the search is that of each search by the same bytes
pub its-answer : CheckedOnce → (wanted : Wanted) (budget : ℕ) (problem definition certificate : List ℕ) (a : Answer) → IsGuidedAnswer wanted budget problem definition certificate a
    → IsItsAnswer wanted budget problem definition certificate a
its-answer law wanted budget problem definition certificate a h = record {
  answered = h;
  only = λ names outcome k.
      h.told ∙ answer-of-same wanted h.names names h.outcome outcome (law (items_of problem) (items_of definition) (items_of certificate) budget h.names names h.outcome outcome h.checked k);
}

guided-due : CheckedOnce → (wanted : Wanted) (budget : ℕ) (problem definition certificate : List ℕ) (old new : Outside) (a : Answer) → IsFound a
    → GuidedEnds wanted budget problem definition certificate old new a → IsItsAnswer wanted budget problem definition certificate a
guided-due law wanted budget problem definition certificate old new a found h =
    elim h.searched [
      | inl e ↦ absurd (subst IsFound e found)
      | inr s ↦ its-answer law wanted budget problem definition certificate a s
    ]

due-ends : CheckedOnce → (wanted : Wanted) (budget : ℕ) (inputs : List (List ℕ)) (old new : Outside) (a : Answer) → IsFound a → EndsGuided wanted budget inputs old new a → GuidedIsDue wanted budget inputs a
due-ends law wanted budget (problem ∷ definition ∷ certificate ∷ []) old new a found h = guided-due law wanted budget problem definition certificate old new a found h
due-ends law wanted budget [] old new a found h = absurd h
due-ends law wanted budget (problem ∷ []) old new a found h = absurd h
due-ends law wanted budget (problem ∷ definition ∷ []) old new a found h = absurd h
due-ends law wanted budget (problem ∷ definition ∷ certificate ∷ other ∷ more) old new a found h = absurd h

one-due : (wanted : Wanted) (budget : ℕ) (inputs : List (List ℕ)) (a b : Answer) → GuidedIsDue wanted budget inputs a → GuidedIsDue wanted budget inputs b → a ≡ b
one-due wanted budget (problem ∷ definition ∷ certificate ∷ []) a b h k = h.answered.told ∙ sym (k.only h.answered.names h.answered.outcome h.answered.checked)
one-due wanted budget [] a b h k = absurd h
one-due wanted budget (problem ∷ []) a b h k = absurd h
one-due wanted budget (problem ∷ definition ∷ []) a b h k = absurd h
one-due wanted budget (problem ∷ definition ∷ certificate ∷ other ∷ more) a b h k = absurd h

pub guided-lawful : CheckedOnce → (content : List ℕ → Content) (wanted : Wanted) (budget : ℕ) (problem : List ℕ) (chosen : Chosen) (certificate : List ℕ)
    → IsLawfulTask content (guided_task wanted budget problem chosen certificate)
guided-lawful law content wanted budget problem chosen certificate = record {
  lawful = (
    λ earlier. lkf_problem-lawful,
    lawful-input chosen (grammar.definition (Some Lkf)) (certificate_input certificate ∷ []) (definition-lawful (Some Lkf))
        (λ earlier. certificate_after-lawful (definition_in earlier), tt),
  );
  due = λ inputs old new calm a found h. due-ends law wanted budget inputs old new a found h;
  fits = λ known inputs old new calm a b found h due. one-due wanted budget inputs a b (due-ends law wanted budget inputs old new a found h) due;
}
