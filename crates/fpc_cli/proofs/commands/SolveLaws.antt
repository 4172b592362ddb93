-- The answer to `solve` is one, and the one that the definition and the word call for.
use Rattle.std.proofs.Common.{◌≡◌, ℕ, List, [], ◌∷◌, subst, inl, inr, None}
use Rattle.fpc_base.specs.Outside.{Outside, Content}
use Rattle.search_model.specs.Renaming.{AnsweredOnce}
use Rattle.fpc_cli.specs.declared.answer.Answer.{Answer}
use Rattle.fpc_cli.specs.declared.answer.Role.TheVariants.{Atom}
use Rattle.fpc_cli.specs.Command.{Chosen}
use Rattle.fpc_cli.specs.Grammars as grammar
use Rattle.fpc_cli.specs.Inputs.{at_hand}
use Rattle.fpc_cli.specs.Laws.{IsFound}
use Rattle.fpc_cli.specs.commands.Solve.{SolveEnds, EndsSolve, IsItsSearch, SolveIsDue, solve_task}
use Rattle.fpc_cli.proofs.GrammarLaws.{definition-lawful, atom-lawful}
use Rattle.fpc_cli.proofs.InputLaws.{IsLawfulTask}
use Rattle.fpc_cli.proofs.OriginFacts.{lawful-input}
use Rattle.fpc_cli.proofs.SearchOnce.{searched-once}

-- the answer of a search is the one of the bytes and the word
search-due : AnsweredOnce → (budget : ℕ) (bytes word : List ℕ) (old new : Outside) (a : Answer) → IsFound a → SolveEnds budget bytes word old new a → IsItsSearch budget bytes word a
search-due law budget bytes word old new a found h =
    elim h.searched [
      | inl e ↦ absurd (subst IsFound e found)
      | inr s ↦ record { answered = s; only = λ other k. searched-once law budget bytes word other a k s }
    ]

due-ends : AnsweredOnce → (budget : ℕ) (inputs : List (List ℕ)) (old new : Outside) (a : Answer) → IsFound a → EndsSolve budget inputs old new a → SolveIsDue budget inputs a
due-ends law budget (bytes ∷ word ∷ []) old new a found h = search-due law budget bytes word old new a found h
due-ends law budget [] old new a found h = absurd h
due-ends law budget (bytes ∷ []) old new a found h = absurd h
due-ends law budget (bytes ∷ word ∷ other ∷ more) old new a found h = absurd h

one-due : (budget : ℕ) (inputs : List (List ℕ)) (a b : Answer) → SolveIsDue budget inputs a → SolveIsDue budget inputs b → a ≡ b
one-due budget (bytes ∷ word ∷ []) a b h k = k.only a h.answered
one-due budget [] a b h k = absurd h
one-due budget (bytes ∷ []) a b h k = absurd h
one-due budget (bytes ∷ word ∷ other ∷ more) a b h k = absurd h

pub solve-lawful : AnsweredOnce → (content : List ℕ → Content) (budget : ℕ) (chosen : Chosen) (atom : List ℕ) → IsLawfulTask content (solve_task budget chosen atom)
solve-lawful law content budget chosen atom = record {
  lawful = lawful-input chosen (grammar.definition None) (at_hand Atom atom (λ earlier. grammar.atom) ∷ []) (definition-lawful None) (λ earlier. atom-lawful, tt);
  due = λ inputs old new calm a found h. due-ends law budget inputs old new a found h;
  fits = λ known inputs old new calm a b found h due. one-due budget inputs a b (due-ends law budget inputs old new a found h) due;
}
