-- The texts of definitions and certificates piece by piece.
use Rattle.std.proofs.Common.{◌≡◌, ℕ, List, [], ◌∷◌, ◌++◌, refl, ap, ◌∙◌, append_assoc, arith, ◌<◌, ◌+◌, ◌-◌}
use Rattle.std.specs.Prelude.{zero, suc, codes}
use Rattle.fpc_terms.specs.Term.{Term, app}
use Rattle.fpc_terms.specs.Text.{name_in, plain_leaves, term_text, args_before, more_before}
use Rattle.fpc_terms.proofs.PrintFacts.{StartsWith-same, StartsWith-more, StartsWith-written}
use Rattle.polarised_formulas.specs.declared.logic.Logic.{Logic}
use Rattle.polarised_formulas.specs.Text.{named_style, formula_before, logic_text}
use Rattle.polarised_formulas.proofs.PrintFacts.{term_before-append, formula_before-append}
use Rattle.clause_language.specs.declared.atom.Atom.{Atom}
use Rattle.clause_language.specs.declared.clause.Clause.{Clause}
use Rattle.clause_language.specs.declared.declaration.DeclaredFormula.{DeclaredFormula}
use Rattle.clause_language.specs.Text.{args_of, atom_before, more_atoms_before, body_before, clause_before, parameter_text, more_parameters_before, parameters_before, declaration_before, declared_before, clauses_before, file_before, term_line}

-- bytes that stay at the front
pub ruleset kept_fronts = (StartsWith-same, StartsWith-more, StartsWith-written)

-- a text with other bytes behind it is the text before these bytes

module _ (names : List (List ℕ)) where
  pub atom-append : (a : Atom) (xs ys : List ℕ) → atom_before names a xs ++ ys ≡ atom_before names a (xs ++ ys)
  atom-append a xs ys = term_before-append (plain_leaves (name_in names)) (app a.name (args_of a.arguments)) xs ys

  pub more_atoms-append : (more : List Atom) (xs ys : List ℕ) → more_atoms_before names more xs ++ ys ≡ more_atoms_before names more (xs ++ ys)
  more_atoms-append [] xs ys = refl
  more_atoms-append (a ∷ more) xs ys =
      ap (λ bytes. codes ", " ++ bytes) (atom-append a (more_atoms_before names more xs) ys ∙ ap (atom_before names a) (more_atoms-append more xs ys))

  pub body-append : (more : List Atom) (xs ys : List ℕ) → body_before names more xs ++ ys ≡ body_before names more (xs ++ ys)
  body-append [] xs ys = refl
  body-append (a ∷ more) xs ys =
      ap (λ bytes. codes " :- " ++ bytes) (atom-append a (more_atoms_before names more xs) ys ∙ ap (atom_before names a) (more_atoms-append more xs ys))

  pub clause-append : (c : Clause) (xs ys : List ℕ) → clause_before names c xs ++ ys ≡ clause_before names c (xs ++ ys)
  clause-append c xs ys = atom-append c.head (body_before names c.body (codes ".\n" ++ xs)) ys ∙ ap (atom_before names c.head) (body-append c.body (codes ".\n" ++ xs) ys)

  pub clauses-append : (cs : List Clause) (xs ys : List ℕ) → clauses_before names cs xs ++ ys ≡ clauses_before names cs (xs ++ ys)
  clauses-append [] xs ys = refl
  clauses-append (c ∷ cs) xs ys = clause-append c (clauses_before names cs xs) ys ∙ ap (clause_before names c) (clauses-append cs xs ys)

pub more_parameters-append : (k n : ℕ) (xs ys : List ℕ) → more_parameters_before k n xs ++ ys ≡ more_parameters_before k n (xs ++ ys)
more_parameters-append k zero xs ys = refl
more_parameters-append k (suc n) xs ys =
    ap (λ bytes. 44 ∷ bytes) (append_assoc (parameter_text k) (more_parameters_before (suc k) n xs) ys ∙ ap (λ bytes. parameter_text k ++ bytes) (more_parameters-append (suc k) n xs ys))

pub parameters-append : (n : ℕ) (xs ys : List ℕ) → parameters_before n xs ++ ys ≡ parameters_before n (xs ++ ys)
parameters-append zero xs ys = refl
parameters-append (suc n) xs ys =
    ap (λ bytes. 40 ∷ bytes) (append_assoc (parameter_text 0) (more_parameters_before 1 n xs) ys ∙ ap (λ bytes. parameter_text 0 ++ bytes) (more_parameters-append 1 n xs ys))

module _ (names : List (List ℕ)) (logic : Logic) where
  pub declaration-append : (d : DeclaredFormula) (xs ys : List ℕ) → declaration_before names logic d xs ++ ys ≡ declaration_before names logic d (xs ++ ys)
  declaration-append d xs ys =
      rw (append_assoc (name_in names d.name), parameters-append d.parameters, formula_before-append (named_style (name_in names)) logic d.formula 0) refl

  pub declared-append : (ds : List DeclaredFormula) (xs ys : List ℕ) → declared_before names logic ds xs ++ ys ≡ declared_before names logic ds (xs ++ ys)
  declared-append [] xs ys = refl
  declared-append (d ∷ ds) xs ys = declaration-append d (declared_before names logic ds xs) ys ∙ ap (declaration_before names logic d) (declared-append ds xs ys)

-- one piece is written behind another
pub behind : (old xs ys : List ℕ) {mid new : List ℕ} → mid ≡ old ++ xs → new ≡ mid ++ ys → new ≡ old ++ (xs ++ ys)
behind old xs ys e f = f ∙ ap (λ bytes. bytes ++ ys) e ∙ append_assoc old xs ys

-- one of several pieces is written
pub one-written : (old rest : List ℕ) (text : List ℕ → List ℕ) → ((xs ys : List ℕ) → text xs ++ ys ≡ text (xs ++ ys))
    → {new whole : List ℕ} → new ≡ old ++ text [] → old ++ text rest ≡ whole → new ++ rest ≡ whole
one-written old rest text appends e f = ap (λ bytes. bytes ++ rest) e ∙ append_assoc old (text []) rest ∙ ap (λ bytes. old ++ bytes) (appends [] rest) ∙ f

-- one of several parameters
pub one-parameter : (k n : ℕ) → k < n → more_parameters_before k (n - k) [] ≡ 44 ∷ (parameter_text k ++ more_parameters_before (k + 1) (n - (k + 1)) [])
one-parameter k n h =
    let left : n - k ≡ suc (n - (k + 1)) = omega arith in
    let next : k + 1 ≡ suc k = omega arith in
    rw (left, next) refl

-- three pieces are written one after another
pub pieces : (old a b c : List ℕ) → ((old ++ a) ++ b) ++ c ≡ old ++ (a ++ (b ++ c))
pieces old a b c = append_assoc (old ++ a) b c ∙ append_assoc old a (b ++ c)

-- The pieces of a text in the order in which they are written.

module _ (names : List (List ℕ)) where
  pub arguments-pieces : (old : List ℕ) (t : Term) (ts : List Term) →
      ((old ++ 40 ∷ []) ++ term_text names t) ++ more_before (plain_leaves (name_in names)) (args_of ts) [] ≡ old ++ args_before (plain_leaves (name_in names)) (args_of (t ∷ ts)) []
  arguments-pieces old t ts =
      pieces old (40 ∷ []) (term_text names t) (more_before (plain_leaves (name_in names)) (args_of ts) [])
      ∙ ap (λ bytes. old ++ 40 ∷ bytes) (term_before-append (plain_leaves (name_in names)) t [] (more_before (plain_leaves (name_in names)) (args_of ts) []))

  pub arguments-written : (old : List ℕ) (t : Term) (ts all : List Term) {mid front new : List ℕ} → all ≡ t ∷ ts
      → mid ≡ old ++ 40 ∷ [] → front ≡ mid ++ term_text names t → new ≡ front ++ more_before (plain_leaves (name_in names)) (args_of ts) []
      → new ≡ old ++ args_before (plain_leaves (name_in names)) (args_of all) []
  arguments-written old t ts all e m f g = rw (g, f, m, e) (arguments-pieces old t ts)

  pub body-pieces : (old : List ℕ) (a : Atom) (more : List Atom) →
      ((old ++ codes " :- ") ++ atom_before names a []) ++ more_atoms_before names more [] ≡ old ++ body_before names (a ∷ more) []
  body-pieces old a more =
      pieces old (codes " :- ") (atom_before names a []) (more_atoms_before names more [])
      ∙ ap (λ bytes. old ++ (codes " :- " ++ bytes)) (atom-append names a [] (more_atoms_before names more []))

  pub body-written : (old : List ℕ) (a : Atom) (more all : List Atom) {mid front new : List ℕ} → all ≡ a ∷ more
      → mid ≡ old ++ codes " :- " → front ≡ mid ++ atom_before names a [] → new ≡ front ++ more_atoms_before names more [] → new ≡ old ++ body_before names all []
  body-written old a more all e m f g = rw (g, f, m, e) (body-pieces old a more)

  pub clause-pieces : (old : List ℕ) (c : Clause) →
      ((old ++ atom_before names c.head []) ++ body_before names c.body []) ++ codes ".\n" ≡ old ++ clause_before names c []
  clause-pieces old c =
      pieces old (atom_before names c.head []) (body_before names c.body []) (codes ".\n")
      ∙ ap (λ bytes. old ++ bytes) (atom-append names c.head [] (body_before names c.body [] ++ codes ".\n") ∙ ap (atom_before names c.head) (body-append names c.body [] (codes ".\n")))

module _ (names : List (List ℕ)) (logic : Logic) where
  pub declaration-pieces : (old : List ℕ) (d : DeclaredFormula) →
      (((((old ++ codes "formula ") ++ name_in names d.name) ++ parameters_before d.parameters []) ++ codes " := ") ++ formula_before (named_style (name_in names)) logic 0 d.formula []) ++ codes ".\n"
      ≡ old ++ declaration_before names logic d []
  declaration-pieces old d =
      let formula : List ℕ = formula_before (named_style (name_in names)) logic 0 d.formula [] in
      let rest : List ℕ = codes " := " ++ (formula ++ codes ".\n") in
      pieces (((old ++ codes "formula ") ++ name_in names d.name) ++ parameters_before d.parameters []) (codes " := ") formula (codes ".\n")
      ∙ append_assoc ((old ++ codes "formula ") ++ name_in names d.name) (parameters_before d.parameters []) rest
      ∙ pieces old (codes "formula ") (name_in names d.name) (parameters_before d.parameters [] ++ rest)
      ∙ ap (λ bytes. old ++ (codes "formula " ++ (name_in names d.name ++ bytes)))
      (parameters-append d.parameters [] rest
      ∙ ap (λ bytes. parameters_before d.parameters (codes " := " ++ bytes)) (formula_before-append (named_style (name_in names)) logic d.formula 0 [] (codes ".\n")))

  pub file-append : (ds : List DeclaredFormula) (cs : List Clause) (xs ys : List ℕ) → file_before names logic ds cs xs ++ ys ≡ file_before names logic ds cs (xs ++ ys)
  file-append ds cs xs ys =
      append_assoc (logic_text logic) (10 ∷ declared_before names logic ds (clauses_before names cs xs)) ys
      ∙ ap (λ bytes. logic_text logic ++ 10 ∷ bytes) (declared-append names logic ds (clauses_before names cs xs) ys ∙ ap (declared_before names logic ds) (clauses-append names cs xs ys))

  pub file-pieces : (ds : List DeclaredFormula) (cs : List Clause) →
      ((logic_text logic ++ 10 ∷ []) ++ declared_before names logic ds []) ++ clauses_before names cs [] ≡ file_before names logic ds cs []
  file-pieces ds cs =
      append_assoc (logic_text logic ++ 10 ∷ []) (declared_before names logic ds []) (clauses_before names cs [])
      ∙ ap (λ bytes. (logic_text logic ++ 10 ∷ []) ++ bytes) (declared-append names logic ds [] (clauses_before names cs []))
      ∙ append_assoc (logic_text logic) (10 ∷ []) (declared_before names logic ds (clauses_before names cs []))

  pub certificate-pieces : (ds : List DeclaredFormula) (cs : List Clause) (t : Term) →
      ((file_before names logic ds cs [] ++ codes "certificate ") ++ term_text names t) ++ codes ".\n" ≡ file_before names logic ds cs (term_line names t)
  certificate-pieces ds cs t =
      pieces (file_before names logic ds cs []) (codes "certificate ") (term_text names t) (codes ".\n")
      ∙ ap (λ bytes. file_before names logic ds cs [] ++ (codes "certificate " ++ bytes)) (term_before-append (plain_leaves (name_in names)) t [] (codes ".\n"))
      ∙ file-append ds cs [] (term_line names t)
