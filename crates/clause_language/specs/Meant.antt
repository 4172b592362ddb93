-- What written definitions and certificates stand for, by a numbering of names.
use Rattle.std.specs.Prelude.{ℕ, List, [], ◌∷◌, length, map}
use Rattle.fpc_terms.specs.Name.{index_in}
use Rattle.fpc_terms.specs.Term.{terms_in}
use Rattle.fpc_terms.specs.Written.{WrittenTerm, term_tokens, term_meant, args_meant, variables_in}
use Rattle.fpc_terms.specs.ReadTerm.{numbered}
use Rattle.polarised_formulas.specs.Written.{WrittenFormula, formula_meant}
use Rattle.clause_language.specs.declared.atom.Atom.{Atom}
use Rattle.clause_language.specs.declared.clause.Clause.{Clause}
use Rattle.clause_language.specs.declared.declaration.DeclaredFormula.{DeclaredFormula}
use Rattle.clause_language.specs.declared.definition.Definition.{Definition}
use Rattle.clause_language.specs.declared.certificate.Certificate.{Certificate}
use Rattle.clause_language.specs.Written.{WrittenAtom, WrittenClause, WrittenItem, declaration, a_clause, WrittenDefinition, WrittenCertificate, clause_tokens}

-- the different variables of a clause, by their first occurrence in its head and body
abbrev pub clause_variables : WrittenClause → List (List ℕ)
clause_variables c = variables_in (clause_tokens c []) []

-- the different variables of a term, by their first occurrence
abbrev pub term_variables : WrittenTerm → List (List ℕ)
term_variables t = variables_in (term_tokens t []) []

-- an atom, its names and variables by their numbers
abbrev pub atom_meant : (number numbers : List ℕ → ℕ) → WrittenAtom → Atom
atom_meant number numbers a = record { name = number a.text; arguments = terms_in (args_meant number (numbered numbers) a.args) }

-- a clause, its variables by their places among its own
abbrev pub clause_meant : (List ℕ → ℕ) → WrittenClause → Clause
clause_meant number c = record {
  head = atom_meant number (index_in (clause_variables c)) c.head;
  body = map (atom_meant number (index_in (clause_variables c))) c.body;
  variables = length (clause_variables c);
}

-- the clauses among items, in order
abbrev pub clauses_meant : (List ℕ → ℕ) → List WrittenItem → List Clause
clauses_meant number [] = []
clauses_meant number (declaration x parameters f ∷ is) = clauses_meant number is
clauses_meant number (a_clause c ∷ is) = clause_meant number c ∷ clauses_meant number is

-- a formula declared by a name, with its parameters as variables by their places
abbrev pub declaration_meant : (List ℕ → ℕ) → List ℕ → List (List ℕ) → WrittenFormula → DeclaredFormula
declaration_meant number x parameters f = record { name = number x; parameters = length parameters; formula = formula_meant number parameters [] f }

-- the declared formulas among items, in order
abbrev pub declared_meant : (List ℕ → ℕ) → List WrittenItem → List DeclaredFormula
declared_meant number [] = []
declared_meant number (declaration x parameters f ∷ is) = declaration_meant number x parameters f ∷ declared_meant number is
declared_meant number (a_clause c ∷ is) = declared_meant number is

-- the definition that a written one stands for
abbrev pub definition_meant : (List ℕ → ℕ) → WrittenDefinition → Definition
definition_meant number w = record { logic = w.logic; declared = declared_meant number w.items; clauses = clauses_meant number w.items }

-- the certificate that a written one stands for
abbrev pub certificate_meant : (List ℕ → ℕ) → WrittenCertificate → Certificate
certificate_meant number w = record {
  logic = w.logic;
  declared = declared_meant number w.items;
  clauses = clauses_meant number w.items;
  term = term_meant number (numbered (index_in (term_variables w.term))) w.term;
  variables = length (term_variables w.term);
}
