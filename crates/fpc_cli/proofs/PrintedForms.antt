-- The printed form of what a written file means is the same by any table that has its names.
use Rattle.std.proofs.Common.{◌≡◌, ℕ, suc, ◌<◌, Bool, true, false, if◌then◌else◌, List, [], ◌∷◌, ◌++◌, length, refl, ap, ap₂, sym, ◌∙◌, subst, arith}
use Rattle.std.specs.Prelude.{codes, map}
use Rattle.std.specs.Str.{bytes_eq}
use Rattle.std.proofs.lemmas.Slice.Eq.{bytes_eq-Decides}
use Rattle.fpc_base.specs.Tokens.{is_one_of}
use Rattle.fpc_terms.specs.Name.{Agrees, AreDifferent, index_in}
use Rattle.fpc_terms.specs.Term.{Term, Args, no_args, arg, bound, variable, terms_in}
use Rattle.fpc_terms.specs.Text.{Leaves, term_before, args_before, more_before, name_in, plain_leaves}
use Rattle.fpc_terms.specs.Printing.{HasNamesBelow, HaveNamesBelow}
use Rattle.fpc_terms.specs.ReadTerm.{numbered}
use Rattle.fpc_terms.specs.Written.{WrittenTerm, WrittenArgs, variable_word, application, no_words, words, term_meant, args_meant}
use Rattle.fpc_terms.proofs.Places.{index_in-different}
use Rattle.polarised_formulas.specs.declared.logic.Logic.{Logic}
use Rattle.polarised_formulas.specs.declared.connective.Joiner.TheVariants.{And, Or, Implies}
use Rattle.polarised_formulas.specs.declared.connective.Binder.TheVariants.{ForAll, Exists}
use Rattle.polarised_formulas.specs.Printing.{AllNamesBelow}
use Rattle.polarised_formulas.specs.Text.{mark_text, truth_text, falsity_text, conj_text, disj_text, operator_before, formula_before, named_leaves, named_style, logic_text, problem_text}
use Rattle.polarised_formulas.specs.Written.{WrittenFormula, true_unit, false_unit, literal, pair, bind, variable_meant, formula_meant}
use Rattle.clause_language.specs.declared.atom.Atom.{Atom}
use Rattle.clause_language.specs.Meant.{clause_variables, clause_meant, clauses_meant, declared_meant, definition_meant, term_variables, certificate_meant}
use Rattle.clause_language.specs.Naming.{AreTermsNamedBelow, IsAtomNamedBelow, AreAtomsNamedBelow, IsClauseNamedBelow, AreClausesNamedBelow, AreDeclaredNamedBelow, IsDefinitionNamedBelow, IsCertificateNamedBelow}
use Rattle.clause_language.specs.Text.{args_of, atom_before, more_atoms_before, body_before, clause_before, parameters_before, declared_before, clauses_before, definition_text, certificate_text}
use Rattle.clause_language.specs.Written.{WrittenAtom, WrittenClause, WrittenItem, declaration, a_clause, WrittenDefinition, WrittenCertificate}

-- a text whose place lies in the table stands there
index-back : (names : List (List ℕ)) (x : List ℕ) → index_in names x < length names → name_in names (index_in names x) ≡ x
index-back [] x h = absurd (omega (arith, h))
index-back (y ∷ ys) x h = by (bytes_eq x y) refl (index-back ys x) h
  where
    by : (c : Bool) → bytes_eq x y ≡ c → (index_in ys x < length ys → name_in ys (index_in ys x) ≡ x) → (if bytes_eq x y then 0 else suc (index_in ys x)) < suc (length ys)
        → name_in (y ∷ ys) (if bytes_eq x y then 0 else suc (index_in ys x)) ≡ x
    by true e rest k = rw e (sym ((bytes_eq-Decides x y).0 e))
    by false e rest k =
        let l : suc (index_in ys x) < suc (length ys) = subst (λ (c : Bool). (if c then 0 else suc (index_in ys x)) < suc (length ys)) e k in
        rw e (rest (omega (arith, l)))

-- the place in a table of different names is a numbering that agrees with it
pub index-agrees : (names : List (List ℕ)) → AreDifferent names → Agrees (index_in names) names
index-agrees names differ k text got = index_in-different names k text differ got

-- the arguments of a list of terms that was made of arguments
args_of-terms_in : (ts : Args) → args_of (terms_in ts) ≡ ts
args_of-terms_in no_args = refl
args_of-terms_in (arg t ts) = ap (arg t) (args_of-terms_in ts)

below-terms_in : (n : ℕ) (ts : Args) → AreTermsNamedBelow n (terms_in ts) → HaveNamesBelow n ts
below-terms_in n no_args h = tt
below-terms_in n (arg t ts) h = (h.0, below-terms_in n ts h.1)

-- leaves that write names by a table
abbrev leaves_of : (bound variable : ℕ → List ℕ) → List (List ℕ) → Leaves
leaves_of b v names = record { name = name_in names; bound = b; variable = v }

module _ (names names' : List (List ℕ)) where
  -- what the leaf of a variable stands for is written the same by both tables
  abbrev LeafSame : (bound variable : ℕ → List ℕ) → (List ℕ → Term) → Type 0
  LeafSame b v leaf = (x rest rest' : List ℕ) → rest ≡ rest' → term_before (leaves_of b v names) (leaf x) rest ≡ term_before (leaves_of b v names') (leaf x) rest'

  name-same : (x : List ℕ) → index_in names x < length names → index_in names' x < length names' → name_in names (index_in names x) ≡ name_in names' (index_in names' x)
  name-same x h k = index-back names x h ∙ sym (index-back names' x k)

  module _ (b v : ℕ → List ℕ) (leaf : List ℕ → Term) (leaf-same : LeafSame b v leaf) where
    mutual
      term-same : (t : WrittenTerm) → HasNamesBelow (length names) (term_meant (index_in names) leaf t)
          → HasNamesBelow (length names') (term_meant (index_in names') leaf t) → (rest rest' : List ℕ) → rest ≡ rest'
          → term_before (leaves_of b v names) (term_meant (index_in names) leaf t) rest ≡ term_before (leaves_of b v names') (term_meant (index_in names') leaf t) rest'
      term-same (variable_word x) h k rest rest' e = leaf-same x rest rest' e
      term-same (application x ts) h k rest rest' e = ap₂ (λ (front back : List ℕ). front ++ back) (name-same x h.0 k.0) (args-same ts h.1 k.1 rest rest' e)

      args-same : (ts : WrittenArgs) → HaveNamesBelow (length names) (args_meant (index_in names) leaf ts)
          → HaveNamesBelow (length names') (args_meant (index_in names') leaf ts) → (rest rest' : List ℕ) → rest ≡ rest'
          → args_before (leaves_of b v names) (args_meant (index_in names) leaf ts) rest ≡ args_before (leaves_of b v names') (args_meant (index_in names') leaf ts) rest'
      args-same no_words h k rest rest' e = e
      args-same (words t ts) h k rest rest' e = ap (λ (text : List ℕ). 40 ∷ text) (term-same t h.0 k.0 _ _ (more-same ts h.1 k.1 rest rest' e))

      more-same : (ts : WrittenArgs) → HaveNamesBelow (length names) (args_meant (index_in names) leaf ts)
          → HaveNamesBelow (length names') (args_meant (index_in names') leaf ts) → (rest rest' : List ℕ) → rest ≡ rest'
          → more_before (leaves_of b v names) (args_meant (index_in names) leaf ts) rest ≡ more_before (leaves_of b v names') (args_meant (index_in names') leaf ts) rest'
      more-same no_words h k rest rest' e = ap (λ (text : List ℕ). 41 ∷ text) e
      more-same (words t ts) h k rest rest' e = ap (λ (text : List ℕ). 44 ∷ text) (term-same t h.0 k.0 _ _ (more-same ts h.1 k.1 rest rest' e))

  -- the leaves of formulas
  if-same : (b v : ℕ → List ℕ) (c : Bool) (i j : ℕ) (rest rest' : List ℕ) → rest ≡ rest'
      → term_before (leaves_of b v names) (if c then bound i else variable j) rest ≡ term_before (leaves_of b v names') (if c then bound i else variable j) rest'
  if-same b v true i j rest rest' e = ap (λ (text : List ℕ). b i ++ text) e
  if-same b v false i j rest rest' e = ap (λ (text : List ℕ). v j ++ text) e

  module _ (logic : Logic) (parameters : List (List ℕ)) where
    formula-same : (d : ℕ) (scope : List (List ℕ)) (w : WrittenFormula)
        → AllNamesBelow (length names) (formula_meant (index_in names) parameters scope w) → AllNamesBelow (length names') (formula_meant (index_in names') parameters scope w)
        → (rest rest' : List ℕ) → rest ≡ rest'
        → formula_before (named_style (name_in names)) logic d (formula_meant (index_in names) parameters scope w) rest ≡ formula_before (named_style (name_in names')) logic d (formula_meant (index_in names') parameters scope w) rest'
    formula-same d scope (true_unit p) h k rest rest' e = ap (λ (text : List ℕ). truth_text p ++ text) e
    formula-same d scope (false_unit p) h k rest rest' e = ap (λ (text : List ℕ). falsity_text logic p ++ text) e
    formula-same d scope (literal positive x ts) h k rest rest' e =
        ap (λ (text : List ℕ). mark_text logic positive ++ text)
        (ap₂ (λ (front back : List ℕ). front ++ back) (name-same x h.0 k.0)
        (args-same (named_leaves (name_in names) d).bound (named_leaves (name_in names) d).variable (variable_meant parameters scope)
        (λ y r s q. if-same _ _ (is_one_of scope y) (index_in scope y) (index_in parameters y) r s q) ts h.1 k.1 rest rest' e))
    formula-same d scope (pair (And p) a b) h k rest rest' e =
        ap (λ (text : List ℕ). 40 ∷ text) (formula-same d scope a h.0 k.0 _ _ (ap (operator_before (conj_text p)) (formula-same d scope b h.1 k.1 _ _ (ap (λ (text : List ℕ). 41 ∷ text) e))))
    formula-same d scope (pair (Or p) a b) h k rest rest' e =
        ap (λ (text : List ℕ). 40 ∷ text) (formula-same d scope a h.0 k.0 _ _ (ap (operator_before (disj_text logic p)) (formula-same d scope b h.1 k.1 _ _ (ap (λ (text : List ℕ). 41 ∷ text) e))))
    formula-same d scope (pair Implies a b) h k rest rest' e =
        ap (λ (text : List ℕ). 40 ∷ text) (formula-same d scope a h.0 k.0 _ _ (ap (operator_before (codes "=>")) (formula-same d scope b h.1 k.1 _ _ (ap (λ (text : List ℕ). 41 ∷ text) e))))
    formula-same d scope (bind ForAll x a) h k rest rest' e =
        ap (λ (text : List ℕ). codes "all " ++ ((named_style (name_in names)).binder d ++ text)) (formula-same (suc d) (x ∷ scope) a h k rest rest' e)
    formula-same d scope (bind Exists x a) h k rest rest' e =
        ap (λ (text : List ℕ). codes "some " ++ ((named_style (name_in names)).binder d ++ text)) (formula-same (suc d) (x ∷ scope) a h k rest rest' e)

  -- an atom that a table gives for a written one
  abbrev atom_by : List (List ℕ) → (List ℕ → ℕ) → WrittenAtom → Atom
  atom_by table variables a = record { name = index_in table a.text; arguments = terms_in (args_meant (index_in table) (numbered variables) a.args) }

  atom-same : (variables : List ℕ → ℕ) (a : WrittenAtom) → IsAtomNamedBelow (length names) (atom_by names variables a)
      → IsAtomNamedBelow (length names') (atom_by names' variables a) → (rest rest' : List ℕ) → rest ≡ rest'
      → atom_before names (atom_by names variables a) rest ≡ atom_before names' (atom_by names' variables a) rest'
  atom-same variables a h k rest rest' e =
      ap₂ (λ (front back : List ℕ). front ++ back) (name-same a.text h.0 k.0)
      (ap (λ (ts : Args). args_before (plain_leaves (name_in names)) ts rest) (args_of-terms_in (args_meant (index_in names) (numbered variables) a.args))
      ∙ args-same (plain_leaves (name_in names)).bound (plain_leaves (name_in names)).variable (numbered variables) (λ y r s q. ap (λ (text : List ℕ). (plain_leaves (name_in names)).variable (variables y) ++ text) q) a.args
      (below-terms_in (length names) _ h.1) (below-terms_in (length names') _ k.1) rest rest' e
      ∙ ap (λ (ts : Args). args_before (plain_leaves (name_in names')) ts rest') (sym (args_of-terms_in (args_meant (index_in names') (numbered variables) a.args))))

  more_atoms-same : (variables : List ℕ → ℕ) (more : List WrittenAtom) → AreAtomsNamedBelow (length names) (map (atom_by names variables) more)
      → AreAtomsNamedBelow (length names') (map (atom_by names' variables) more)
      → (rest rest' : List ℕ) → rest ≡ rest' → more_atoms_before names (map (atom_by names variables) more) rest ≡ more_atoms_before names' (map (atom_by names' variables) more) rest'
  more_atoms-same variables [] h k rest rest' e = e
  more_atoms-same variables (a ∷ more) h k rest rest' e =
      ap (λ (text : List ℕ). codes ", " ++ text) (atom-same variables a h.0 k.0 _ _ (more_atoms-same variables more h.1 k.1 rest rest' e))

  body-same : (variables : List ℕ → ℕ) (body : List WrittenAtom) → AreAtomsNamedBelow (length names) (map (atom_by names variables) body)
      → AreAtomsNamedBelow (length names') (map (atom_by names' variables) body)
      → (rest rest' : List ℕ) → rest ≡ rest' → body_before names (map (atom_by names variables) body) rest ≡ body_before names' (map (atom_by names' variables) body) rest'
  body-same variables [] h k rest rest' e = e
  body-same variables (a ∷ more) h k rest rest' e =
      ap (λ (text : List ℕ). codes " :- " ++ text) (atom-same variables a h.0 k.0 _ _ (more_atoms-same variables more h.1 k.1 rest rest' e))

  clause-same : (c : WrittenClause) → IsClauseNamedBelow (length names) (clause_meant (index_in names) c)
      → IsClauseNamedBelow (length names') (clause_meant (index_in names') c) → (rest rest' : List ℕ) → rest ≡ rest'
      → clause_before names (clause_meant (index_in names) c) rest ≡ clause_before names' (clause_meant (index_in names') c) rest'
  clause-same c h k rest rest' e =
      let variables = index_in (clause_variables c) in
      atom-same variables c.head h.0 k.0 _ _ (body-same variables c.body h.1 k.1 _ _ (ap (λ (text : List ℕ). codes ".\n" ++ text) e))

  clauses-same : (is : List WrittenItem) → AreClausesNamedBelow (length names) (clauses_meant (index_in names) is)
      → AreClausesNamedBelow (length names') (clauses_meant (index_in names') is) → (rest rest' : List ℕ) → rest ≡ rest'
      → clauses_before names (clauses_meant (index_in names) is) rest ≡ clauses_before names' (clauses_meant (index_in names') is) rest'
  clauses-same [] h k rest rest' e = e
  clauses-same (declaration x parameters f ∷ is) h k rest rest' e = clauses-same is h k rest rest' e
  clauses-same (a_clause c ∷ is) h k rest rest' e = clause-same c h.0 k.0 _ _ (clauses-same is h.1 k.1 rest rest' e)

  declared-same : (logic : Logic) (is : List WrittenItem) → AreDeclaredNamedBelow (length names) (declared_meant (index_in names) is)
      → AreDeclaredNamedBelow (length names') (declared_meant (index_in names') is)
      → (rest rest' : List ℕ) → rest ≡ rest' → declared_before names logic (declared_meant (index_in names) is) rest ≡ declared_before names' logic (declared_meant (index_in names') is) rest'
  declared-same logic [] h k rest rest' e = e
  declared-same logic (declaration x parameters f ∷ is) h k rest rest' e =
      ap (λ (text : List ℕ). codes "formula " ++ text)
      (ap₂ (λ (front back : List ℕ). front ++ back) (name-same x h.0.0 k.0.0)
      (ap (λ (text : List ℕ). parameters_before (length parameters) (codes " := " ++ text))
      (formula-same logic parameters 0 [] f h.0.1 k.0.1 _ _ (ap (λ (text : List ℕ). codes ".\n" ++ text) (declared-same logic is h.1 k.1 rest rest' e)))))
  declared-same logic (a_clause c ∷ is) h k rest rest' e = declared-same logic is h k rest rest' e

  pub problem-text-same : (logic : Logic) (w : WrittenFormula) → AllNamesBelow (length names) (formula_meant (index_in names) [] [] w)
      → AllNamesBelow (length names') (formula_meant (index_in names') [] [] w)
      → problem_text names logic (formula_meant (index_in names) [] [] w) ≡ problem_text names' logic (formula_meant (index_in names') [] [] w)
  problem-text-same logic w h k = ap (λ (text : List ℕ). logic_text logic ++ 32 ∷ text) (formula-same logic [] 0 [] w h k _ _ refl)

  pub definition-text-same : (w : WrittenDefinition) → IsDefinitionNamedBelow (length names) (definition_meant (index_in names) w)
      → IsDefinitionNamedBelow (length names') (definition_meant (index_in names') w)
      → definition_text names (definition_meant (index_in names) w) ≡ definition_text names' (definition_meant (index_in names') w)
  definition-text-same w h k = ap (λ (text : List ℕ). logic_text w.logic ++ 10 ∷ text) (declared-same w.logic w.items h.0 k.0 _ _ (clauses-same w.items h.1 k.1 _ _ refl))

  pub certificate-text-same : (w : WrittenCertificate) → IsCertificateNamedBelow (length names) (certificate_meant (index_in names) w)
      → IsCertificateNamedBelow (length names') (certificate_meant (index_in names') w)
      → certificate_text names (certificate_meant (index_in names) w) ≡ certificate_text names' (certificate_meant (index_in names') w)
  certificate-text-same w h k =
      let variables = index_in (term_variables w.term) in
      ap (λ (text : List ℕ). logic_text w.logic ++ 10 ∷ text)
      (declared-same w.logic w.items h.0 k.0 _ _
      (clauses-same w.items h.1 k.1 _ _
      (ap (λ (text : List ℕ). codes "certificate " ++ text)
      (term-same (plain_leaves (name_in names)).bound (plain_leaves (name_in names)).variable (numbered variables) (λ y r s q. ap (λ (text : List ℕ). (plain_leaves (name_in names)).variable (variables y) ++ text) q) w.term h.2 k.2 _ _ refl))))
