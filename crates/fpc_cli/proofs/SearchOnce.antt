-- The answer of a search is one.
use Rattle.std.proofs.Common.{◌≡◌, ℕ, List, [], ◌++◌, refl, ap, sym, ◌∙◌, append-nil}
use Rattle.fpc_base.specs.Lexeme.{items_of}
use Rattle.std.specs.Prelude.{None}
use Rattle.search_model.specs.Renaming.{AnsweredOnce, IsAnswered, SameSolved}
use Rattle.search_model.specs.declared.solve.Solved.{Solved}
use Rattle.search_model.specs.declared.solve.Solved.TheVariants.{Accepted, Rejected, Spent, TooLong}
use Rattle.clause_language.specs.declared.certificate.Certificate.{Certificate}
use Rattle.clause_language.specs.declared.definition.Definition.{Definition}
use Rattle.clause_language.specs.declared.program.Program.{Program}
use Rattle.clause_language.specs.Program.{IsJoined}
use Rattle.fpc_cli.specs.declared.answer.Answer.{Answer}
use Rattle.fpc_cli.specs.declared.answer.Answer.TheVariants.{Holds}
use Rattle.fpc_cli.specs.commands.Solve.{IsSearchAnswer, answer_of}

-- answers to an atom that are the same are one answer of the program
answer-of-same : (names others : List (List ℕ)) (r s : Solved) → SameSolved names others r s → answer_of names r ≡ answer_of others s
answer-of-same names others (Accepted a u) (Accepted b v) h = ap Holds h.0
answer-of-same names others (Accepted a u) (Rejected v) h = absurd h
answer-of-same names others (Accepted a u) Spent h = absurd h
answer-of-same names others (Accepted a u) TooLong h = absurd h
answer-of-same names others (Rejected u) (Accepted b v) h = absurd h
answer-of-same names others (Rejected u) (Rejected v) h = refl
answer-of-same names others (Rejected u) Spent h = absurd h
answer-of-same names others (Rejected u) TooLong h = absurd h
answer-of-same names others Spent (Accepted b v) h = absurd h
answer-of-same names others Spent (Rejected v) h = absurd h
answer-of-same names others Spent Spent h = refl
answer-of-same names others Spent TooLong h = absurd h
answer-of-same names others TooLong (Accepted b v) h = absurd h
answer-of-same names others TooLong (Rejected v) h = absurd h
answer-of-same names others TooLong Spent h = absurd h
answer-of-same names others TooLong TooLong h = refl

-- what is joined with a certificate without clauses keeps its own
alone-joined : (d : Definition) (c : Certificate) (p : Program) → IsJoined d c p → c.clauses ≡ [] → p.clauses ≡ d.clauses
alone-joined d c p j e = j.clauses ∙ ap (λ cs. d.clauses ++ cs) e ∙ append-nil d.clauses

-- a definition and an atom were read, and the search was answered
is-answered : (budget : ℕ) (bytes word : List ℕ) (a : Answer) (h : IsSearchAnswer budget bytes word a) → IsAnswered None (items_of bytes) (items_of word) budget h.names h.end
is-answered budget bytes word a h = record {
  different = h.different;
  meaning = h.meaning;
  read = h.read;
  program = h.is_search.program;
  alone = alone-joined h.meaning h.is_search.is_program.certificate h.is_search.program h.is_search.is_program.joined h.is_search.is_program.bare.clauses;
  words = h.is_search.is_program.words;
  asked = h.asked;
  variables = h.variables;
  atom_read = h.atom_read;
  is_solved = h.is_search.is_solved;
}

-- the bytes and the word have one answer within a budget
pub searched-once : AnsweredOnce → (budget : ℕ) (bytes word : List ℕ) (a b : Answer) → IsSearchAnswer budget bytes word a → IsSearchAnswer budget bytes word b → a ≡ b
searched-once law budget bytes word a b h k =
    h.told
    ∙ answer-of-same h.names k.names h.end k.end
    (law None (items_of bytes) (items_of word) budget h.names k.names h.end k.end (is-answered budget bytes word a h) (is-answered budget bytes word b k))
    ∙ sym k.told
