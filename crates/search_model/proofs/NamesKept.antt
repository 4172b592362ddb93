-- The names of what a search finds stand in the table that holds those of the clauses and of the question.
use Rattle.std.proofs.Common.{◌≡◌, ℕ, ◌<◌, nat_eq, List, [], ◌∷◌, length, codes, get_or, refl, ap, ap₂}
use Rattle.fpc_terms.specs.Term.{Term}
use Rattle.fpc_terms.specs.Text.{name_in}
use Rattle.fpc_terms.specs.Printing.{HasNamesBelow}
use Rattle.fpc_terms.specs.Same.{SameTerm, SameList, same_nil, same_cons}
use Rattle.fpc_terms.proofs.SameTexts.{term_itself, term_named}
use Rattle.polarised_formulas.proofs.SameTexts.{formula_itself}
use Rattle.clause_language.specs.declared.atom.Atom.{Atom}
use Rattle.clause_language.specs.declared.clause.Clause.{Clause}
use Rattle.clause_language.specs.declared.declaration.DeclaredFormula.{DeclaredFormula}
use Rattle.clause_language.specs.declared.program.Program.{Program}
use Rattle.clause_language.specs.declared.word_ids.WordIds.{WordIds}
use Rattle.clause_language.specs.Program.{HaveWords, ids_of}
use Rattle.clause_language.specs.Naming.{AreTermsNamedBelow, IsAtomNamedBelow, AreAtomsNamedBelow, AreClausesNamedBelow, AreDeclaredNamedBelow}
use Rattle.search_model.specs.Run.{ended}
use Rattle.search_model.specs.Search.{Alternative, accepted}
use Rattle.search_model.specs.Solve.{Nothing, solving, solved_atom, IsAccepted}
use Rattle.search_model.specs.Same.{SameAtom, SameClause, SameDeclared, SameProgram}
use Rattle.search_model.proofs.Renaming.{solved-same, endings_tell}
use Rattle.search_model.proofs.SameNames.{below_where_named}

-- one number, below n
abbrev IsOneBelow : ℕ → ℕ → ℕ → Type 0
IsOneBelow n f g = (f ≡ g) × (f < n)

one_itself : (n f : ℕ) → f < n → IsOneBelow n f f
one_itself n f l = (refl, l)

one_below : (n f g h k : ℕ) → IsOneBelow n f h → IsOneBelow n g k → nat_eq f g ≡ nat_eq h k
one_below n f g h k (e, i) (d, j) = ap₂ (λ x y. nat_eq x y) e d

module _ (S : ℕ → ℕ → Type 0) (n : ℕ) where
  -- where each number below n is related to itself
  module _ (self : (f : ℕ) → f < n → S f f) where
    terms_itself : (ts : List Term) → AreTermsNamedBelow n ts → SameList (SameTerm S) ts ts
    terms_itself [] h = same_nil
    terms_itself (t ∷ ts) h = same_cons (term_itself S n self t h.0) (terms_itself ts h.1)

    atom_itself : (a : Atom) → IsAtomNamedBelow n a → SameAtom S a a
    atom_itself a h = record { names = self a.name h.0; terms = terms_itself a.arguments h.1 }

    atoms_itself : (body : List Atom) → AreAtomsNamedBelow n body → SameList (SameAtom S) body body
    atoms_itself [] h = same_nil
    atoms_itself (a ∷ body) h = same_cons (atom_itself a h.0) (atoms_itself body h.1)

    clauses_itself : (clauses : List Clause) → AreClausesNamedBelow n clauses → SameList (SameClause S) clauses clauses
    clauses_itself [] h = same_nil
    clauses_itself (c ∷ cs) h = same_cons (record { heads = atom_itself c.head h.0.0; bodies = atoms_itself c.body h.0.1; as_many = refl }) (clauses_itself cs h.1)

    declared_itself : (declared : List DeclaredFormula) → AreDeclaredNamedBelow n declared → SameList (SameDeclared S) declared declared
    declared_itself [] h = same_nil
    declared_itself (d ∷ ds) h = same_cons (record { names = self d.name h.0.0; as_many = refl; formulas = formula_itself S n self d.formula h.0.1 }) (declared_itself ds h.1)

    -- a program with such names is the same as itself
    pub program_itself : (p : Program) → SameList S (ids_of p.ids) (ids_of p.ids) → AreDeclaredNamedBelow n p.declared → AreClausesNamedBelow n p.clauses → HasNamesBelow n p.term → SameProgram S p p
    program_itself p ids declared clauses term = record {
      in_logic = refl;
      declared = declared_itself p.declared declared;
      clauses = clauses_itself p.clauses clauses;
      terms = term_itself S n self p.term term;
      as_many = refl;
      words = ids;
    }

  -- where what is related to any number is below n
  module _ (below : (f g : ℕ) → S f g → f < n) where
    terms_named : {ts us : List Term} → SameList (SameTerm S) ts us → AreTermsNamedBelow n ts
    terms_named same_nil = tt
    terms_named (same_cons h hs) = (term_named S n below h, terms_named hs)

    atom_named : {a b : Atom} → SameAtom S a b → IsAtomNamedBelow n a
    atom_named {a = a} {b = b} h = (below a.name b.name h.names, terms_named h.terms)

-- the atom that was found has names below n, where the clauses, the question and the constant for variables that are left have
pub solved_named : (n : ℕ) (clauses : List Clause) (budget : ℕ) (a : Atom) (variables any units : ℕ) (found : Alternative Nothing Nothing) → AreClausesNamedBelow n clauses → IsAtomNamedBelow n a → any < n
    → solving clauses budget a variables ≡ ended (accepted found) units → IsAtomNamedBelow n (solved_atom any a found)
solved_named n clauses budget a variables any units found h k s e =
    let asked : SameAtom (IsOneBelow n) a a = atom_itself (IsOneBelow n) n (one_itself n) a k in
    atom_named (IsOneBelow n) n (λ f g h. h.1)
    (solved-same any any (refl, s) asked (endings_tell (one_below n) budget variables (clauses_itself (IsOneBelow n) n (one_itself n) clauses h) asked e e).0)

-- the name of the constant for variables that are left
pub any_is : (names : List (List ℕ)) (i : WordIds) → HaveWords names i → name_in names i.any ≡ codes "any"
any_is names i h = ap (λ w. get_or w 37 []) h

-- it stands in the table
pub any_below : (names : List (List ℕ)) (i : WordIds) → HaveWords names i → i.any < length names
any_below names i h = below_where_named names i.any 97 (110 ∷ 121 ∷ []) (any_is names i h)

-- and so has an accepted atom, by the table that holds the names of the program and of the question
pub accepted-named : (names : List (List ℕ)) (p : Program) (a x : Atom) (variables budget units : ℕ) → HaveWords names p.ids → AreClausesNamedBelow (length names) p.clauses
    → IsAtomNamedBelow (length names) a → IsAccepted p a variables budget x units → IsAtomNamedBelow (length names) x
accepted-named names p a x variables budget units words h k r =
    rw r.atom (solved_named (length names) p.clauses budget a variables p.ids.any units r.found h k (any_below names p.ids words) r.ends)
