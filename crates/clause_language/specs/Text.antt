-- The texts of definitions and certificates.
use Rattle.std.specs.Prelude.{ℕ, zero, suc, List, [], ◌∷◌, ◌++◌, codes}
use Rattle.std.specs.Fmt.{decimal}
use Rattle.fpc_terms.specs.Term.{Term, Args, no_args, arg, app}
use Rattle.fpc_terms.specs.Text.{name_in, plain_leaves, term_before}
use Rattle.polarised_formulas.specs.declared.logic.Logic.{Logic}
use Rattle.polarised_formulas.specs.Text.{named_style, formula_before, logic_text}
use Rattle.clause_language.specs.declared.atom.Atom.{Atom}
use Rattle.clause_language.specs.declared.clause.Clause.{Clause}
use Rattle.clause_language.specs.declared.declaration.DeclaredFormula.{DeclaredFormula}
use Rattle.clause_language.specs.declared.definition.Definition.{Definition}
use Rattle.clause_language.specs.declared.certificate.Certificate.{Certificate}

-- a list of terms as arguments
abbrev pub args_of : List Term → Args
args_of [] = no_args
args_of (t ∷ ts) = arg t (args_of ts)

-- the text of an atom, which is that of a term, before other bytes
abbrev pub atom_before : List (List ℕ) → Atom → List ℕ → List ℕ
atom_before names a rest = term_before (plain_leaves (name_in names)) (app a.name (args_of a.arguments)) rest

-- the atoms behind one
abbrev pub more_atoms_before : List (List ℕ) → List Atom → List ℕ → List ℕ
more_atoms_before names [] rest = rest
more_atoms_before names (a ∷ more) rest = codes ", " ++ atom_before names a (more_atoms_before names more rest)

-- the body of a clause, where it has one
abbrev pub body_before : List (List ℕ) → List Atom → List ℕ → List ℕ
body_before names [] rest = rest
body_before names (a ∷ more) rest = codes " :- " ++ atom_before names a (more_atoms_before names more rest)

-- the line of a clause: `head :- a, b.`, or `head.` without a body
abbrev pub clause_before : List (List ℕ) → Clause → List ℕ → List ℕ
clause_before names c rest = atom_before names c.head (body_before names c.body (codes ".\n" ++ rest))

-- parameter k of a declared formula
abbrev pub parameter_text : ℕ → List ℕ
parameter_text k = 80 ∷ decimal k

-- n parameters from the k-th on, behind others
abbrev pub more_parameters_before : ℕ → ℕ → List ℕ → List ℕ
more_parameters_before k zero rest = 41 ∷ rest
more_parameters_before k (suc n) rest = 44 ∷ (parameter_text k ++ more_parameters_before (suc k) n rest)

-- n parameters in parentheses, where there are any
abbrev pub parameters_before : ℕ → List ℕ → List ℕ
parameters_before zero rest = rest
parameters_before (suc n) rest = 40 ∷ (parameter_text 0 ++ more_parameters_before 1 n rest)

-- the line of a declared formula: `formula name(P0,P1) := F.`
abbrev pub declaration_before : List (List ℕ) → Logic → DeclaredFormula → List ℕ → List ℕ
declaration_before names logic d rest =
    codes "formula " ++ (name_in names d.name ++ parameters_before d.parameters (codes " := " ++ formula_before (named_style (name_in names)) logic 0 d.formula (codes ".\n" ++ rest)))

-- the lines of declared formulas
abbrev pub declared_before : List (List ℕ) → Logic → List DeclaredFormula → List ℕ → List ℕ
declared_before names logic [] rest = rest
declared_before names logic (d ∷ ds) rest = declaration_before names logic d (declared_before names logic ds rest)

-- the lines of clauses
abbrev pub clauses_before : List (List ℕ) → List Clause → List ℕ → List ℕ
clauses_before names [] rest = rest
clauses_before names (c ∷ cs) rest = clause_before names c (clauses_before names cs rest)

-- the line of the logic, the lines of declared formulas and those of clauses
abbrev pub file_before : List (List ℕ) → Logic → List DeclaredFormula → List Clause → List ℕ → List ℕ
file_before names logic declared clauses rest = logic_text logic ++ 10 ∷ declared_before names logic declared (clauses_before names clauses rest)

-- the printed form of a definition
abbrev pub definition_text : List (List ℕ) → Definition → List ℕ
definition_text names d = file_before names d.logic d.declared d.clauses []

-- the last line of a certificate file: `certificate T.`
abbrev pub term_line : List (List ℕ) → Term → List ℕ
term_line names t = codes "certificate " ++ term_before (plain_leaves (name_in names)) t (codes ".\n")

-- the printed form of a certificate
abbrev pub certificate_text : List (List ℕ) → Certificate → List ℕ
certificate_text names c = file_before names c.logic c.declared c.clauses (term_line names c.term)
