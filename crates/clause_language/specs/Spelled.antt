-- The written definition and the written certificate that a printed file spells.
use Rattle.std.specs.Prelude.{ℕ, zero, suc, List, [], ◌∷◌, map}
use Rattle.std.specs.Fmt.{decimal}
use Rattle.fpc_terms.specs.Term.{Term, Args, eigen, bound, variable, app, no_args, arg}
use Rattle.fpc_terms.specs.Text.{name_in}
use Rattle.fpc_terms.specs.Written.{WrittenTerm, WrittenArgs, variable_word, application, no_words, words}
use Rattle.polarised_formulas.specs.WrittenOf.{written_of}
use Rattle.clause_language.specs.declared.atom.Atom.{Atom}
use Rattle.clause_language.specs.declared.clause.Clause.{Clause}
use Rattle.clause_language.specs.declared.declaration.DeclaredFormula.{DeclaredFormula}
use Rattle.clause_language.specs.declared.definition.Definition.{Definition}
use Rattle.clause_language.specs.declared.certificate.Certificate.{Certificate}
use Rattle.clause_language.specs.Written.{WrittenAtom, WrittenClause, WrittenItem, declaration, a_clause, WrittenDefinition, WrittenCertificate}
use Rattle.clause_language.specs.Text.{args_of, parameter_text}

-- variable k of a clause, or of a certificate's term
abbrev pub variable_text : ℕ → List ℕ
variable_text k = 86 ∷ decimal k

abbrev mutual
  -- a term of a clause or of a certificate, with the names of a table
  pub spelled_term : List (List ℕ) → Term → WrittenTerm
  spelled_term names (eigen n) = application (36 ∷ decimal n) no_words
  spelled_term names (bound k) = variable_word (35 ∷ decimal k)
  spelled_term names (variable v) = variable_word (variable_text v)
  spelled_term names (app f ts) = application (name_in names f) (spelled_args names ts)

  pub spelled_args : List (List ℕ) → Args → WrittenArgs
  spelled_args names no_args = no_words
  spelled_args names (arg t ts) = words (spelled_term names t) (spelled_args names ts)

-- an atom
abbrev pub spelled_atom : List (List ℕ) → Atom → WrittenAtom
spelled_atom names a = record { text = name_in names a.name; args = spelled_args names (args_of a.arguments) }

-- a clause
abbrev pub spelled_clause : List (List ℕ) → Clause → WrittenClause
spelled_clause names c = record { head = spelled_atom names c.head; body = map (spelled_atom names) c.body }

-- n parameters from the k-th on
abbrev pub parameters_from : ℕ → ℕ → List (List ℕ)
parameters_from k zero = []
parameters_from k (suc n) = parameter_text k ∷ parameters_from (suc k) n

-- a declared formula
abbrev pub spelled_declaration : List (List ℕ) → DeclaredFormula → WrittenItem
spelled_declaration names d = declaration (name_in names d.name) (parameters_from 0 d.parameters) (written_of names 0 d.formula)

-- clauses as items
abbrev pub spelled_clauses : List (List ℕ) → List Clause → List WrittenItem
spelled_clauses names [] = []
spelled_clauses names (c ∷ cs) = a_clause (spelled_clause names c) ∷ spelled_clauses names cs

-- declared formulas as items, before other items
abbrev pub spelled_declared : List (List ℕ) → List DeclaredFormula → List WrittenItem → List WrittenItem
spelled_declared names [] rest = rest
spelled_declared names (d ∷ ds) rest = spelled_declaration names d ∷ spelled_declared names ds rest

-- the items of a file: its declared formulas, and then its clauses
abbrev pub spelled_items : List (List ℕ) → List DeclaredFormula → List Clause → List WrittenItem
spelled_items names declared clauses = spelled_declared names declared (spelled_clauses names clauses)

-- a definition
abbrev pub spelled_definition : List (List ℕ) → Definition → WrittenDefinition
spelled_definition names d = record { logic = d.logic; items = spelled_items names d.declared d.clauses }

-- a certificate
abbrev pub spelled_certificate : List (List ℕ) → Certificate → WrittenCertificate
spelled_certificate names c = record { logic = c.logic; items = spelled_items names c.declared c.clauses; term = spelled_term names c.term }
