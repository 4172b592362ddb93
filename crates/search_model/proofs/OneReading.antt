-- The answer to an atom over a definition hangs on what is read alone.
use Rattle.std.proofs.Common.{◌≡◌, [], ◌++◌, ap, ◌∙◌, subst, append-nil}
use Rattle.clause_language.specs.declared.certificate.Certificate.{Certificate}
use Rattle.clause_language.specs.declared.definition.Definition.{Definition}
use Rattle.clause_language.specs.declared.program.Program.{Program}
use Rattle.clause_language.specs.Program.{IsJoined}
use Rattle.fpc_terms.specs.Same.{SameList}
use Rattle.search_model.specs.Renaming.{AnsweredOnce}
use Rattle.search_model.specs.Same.{AreOneName, SameClause}
use Rattle.search_model.specs.Solve.{IsSolved}
use Rattle.search_model.proofs.OneSolution.{solved-by_names}
use Rattle.search_model.proofs.SameReadings.{definition-same, atom-same, atom-as_many}

-- a certificate without clauses adds none to a definition
pub alone-joined : (d : Definition) (c : Certificate) (p : Program) → IsJoined d c p → c.clauses ≡ [] → p.clauses ≡ d.clauses
alone-joined d c p j e = j.clauses ∙ ap (λ cs. d.clauses ++ cs) e ∙ append-nil d.clauses

-- the answer is one
pub answered_once : AnsweredOnce
answered_once expected items question budget names others r s h k =
    let same_clauses : SameList (SameClause (AreOneName names others)) h.program.clauses k.program.clauses =
    rw (h.alone, k.alone) (definition-same names others h.different k.different expected items h.meaning k.meaning h.read k.read) in
    let as_many = atom-as_many names others h.different k.different question h.asked k.asked h.variables k.variables h.atom_read k.atom_read in
    solved-by_names names others h.program k.program h.asked k.asked k.variables budget r s h.different k.different h.words k.words same_clauses
    (atom-same names others h.different k.different question h.asked k.asked h.variables k.variables h.atom_read k.atom_read)
    (subst (λ n. IsSolved names h.program h.asked n budget r) as_many h.is_solved) k.is_solved
