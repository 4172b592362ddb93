-- What is read of a file has its names in the table.
use Rattle.std.proofs.Common.{◌≡◌, ℕ, ◌<◌, false, List, [], ◌∷◌, map, length, refl, ap, sym, subst, inl, inr, arith, suc, Option}
use Rattle.std.specs.Str.{bytes_eq}
use Rattle.std.proofs.lemmas.Bool.{cases_Bool}
use Rattle.fpc_base.specs.Lexeme.{Item}
use Rattle.fpc_base.specs.Tokens.{is_one_of}
use Rattle.fpc_terms.specs.Name.{AreDifferent, HasName, index_in}
use Rattle.fpc_terms.specs.Term.{Term, Args, no_args, arg, terms_in}
use Rattle.fpc_terms.specs.Printing.{HasNamesBelow, HaveNamesBelow}
use Rattle.fpc_terms.specs.ReadTerm.{numbered}
use Rattle.fpc_terms.specs.Written.{WrittenTerm, WrittenArgs, variable_word, application, no_words, words, term_meant, args_meant}
use Rattle.fpc_terms.proofs.Places.{got-index_in}
use Rattle.fpc_terms.proofs.ReadFacts.{Agrees-index_in}
use Rattle.polarised_formulas.specs.declared.connective.Joiner.{Joiner}
use Rattle.polarised_formulas.specs.declared.connective.Joiner.TheVariants.{And, Or, Implies}
use Rattle.polarised_formulas.specs.declared.connective.Binder.TheVariants.{ForAll, Exists}
use Rattle.polarised_formulas.specs.declared.logic.Logic.{Logic}
use Rattle.polarised_formulas.specs.EachName.{EachName, EachNameOf, EachNameIn}
use Rattle.polarised_formulas.specs.Formula.{Formula}
use Rattle.polarised_formulas.specs.Printing.{AllNamesBelow}
use Rattle.polarised_formulas.specs.Written.{WrittenFormula, true_unit, false_unit, literal, pair, bind, formula_meant, variable_meant, joined_by}
use Rattle.clause_language.specs.declared.certificate.Certificate.{Certificate}
use Rattle.clause_language.specs.declared.definition.Definition.{Definition}
use Rattle.clause_language.specs.EachName.{EachNameOfAtom, EachNameOfAtoms, EachNameOfItems}
use Rattle.clause_language.specs.Meant.{atom_meant, clause_variables, clauses_meant, declared_meant, definition_meant, certificate_meant, term_variables}
use Rattle.clause_language.specs.Naming.{AreTermsNamedBelow, IsAtomNamedBelow, AreAtomsNamedBelow, AreClausesNamedBelow, AreDeclaredNamedBelow, IsDefinitionNamedBelow, IsCertificateNamedBelow}
use Rattle.clause_language.specs.ReadFile.{DefinitionIsRead, CertificateIsRead}
use Rattle.clause_language.specs.Written.{WrittenAtom, WrittenItem, declaration, a_clause}
use Rattle.clause_language.proofs.FileNames.{definition-below, certificate-below}
use Rattle.clause_language.specs.ReadAs.{ReadDefinitionIsAs, ReadCertificateIsAs}

-- a text that is not there has no place below the end
index_in-absent : (texts : List (List ℕ)) (x : List ℕ) → is_one_of texts x ≡ false → index_in texts x ≡ length texts
index_in-absent [] x h = refl
index_in-absent (y ∷ ys) x h =
    elim (cases_Bool (bytes_eq x y)) [
      | inl e ↦ grind arith
      | inr e ↦ let later : is_one_of ys x ≡ false = grind arith in rw e (ap suc (index_in-absent ys x later))
    ]

-- a text with a place below the end is one of the names
has-below : (names : List (List ℕ)) (x : List ℕ) → index_in names x < length names → HasName names x
has-below names x lt =
    elim (cases_Bool (is_one_of names x)) [
      | inl e ↦ (index_in names x, got-index_in names x e)
      | inr e ↦ absurd (let n : index_in names x ≡ length names = index_in-absent names x e in omega (arith, lt, n))
    ]

args-of_terms : (n : ℕ) (ts : Args) → AreTermsNamedBelow n (terms_in ts) → HaveNamesBelow n ts
args-of_terms n no_args h = tt
args-of_terms n (arg t ts) h = (h.0, args-of_terms n ts h.1)

joined-parts : (n : ℕ) (j : Joiner) (a b : Formula) → AllNamesBelow n (joined_by j a b) → AllNamesBelow n a × AllNamesBelow n b
joined-parts n (And p) a b h = (h.0, h.1)
joined-parts n (Or p) a b h = (h.0, h.1)
joined-parts n Implies a b h = (h.0, h.1)

module _ (names : List (List ℕ)) where
  mutual
    term-in_table : (leaf : List ℕ → Term) (w : WrittenTerm) → HasNamesBelow (length names) (term_meant (index_in names) leaf w) → EachName (HasName names) w
    term-in_table leaf (variable_word x) h = tt
    term-in_table leaf (application x ts) h = (has-below names x h.0, args-in_table leaf ts h.1)

    args-in_table : (leaf : List ℕ → Term) (ts : WrittenArgs) → HaveNamesBelow (length names) (args_meant (index_in names) leaf ts) → EachNameOf (HasName names) ts
    args-in_table leaf no_words h = tt
    args-in_table leaf (words t ts) h = (term-in_table leaf t h.0, args-in_table leaf ts h.1)

  formula-in_table : (parameters scope : List (List ℕ)) (w : WrittenFormula) → AllNamesBelow (length names) (formula_meant (index_in names) parameters scope w)
      → EachNameIn (HasName names) w
  formula-in_table parameters scope (true_unit p) h = tt
  formula-in_table parameters scope (false_unit p) h = tt
  formula-in_table parameters scope (literal positive x ts) h = (has-below names x h.0, args-in_table (variable_meant parameters scope) ts h.1)
  formula-in_table parameters scope (pair j a b) h =
      let parts = joined-parts (length names) j (formula_meant (index_in names) parameters scope a) (formula_meant (index_in names) parameters scope b) h in
      (formula-in_table parameters scope a parts.0, formula-in_table parameters scope b parts.1)
  formula-in_table parameters scope (bind ForAll x a) h = formula-in_table parameters (x ∷ scope) a h
  formula-in_table parameters scope (bind Exists x a) h = formula-in_table parameters (x ∷ scope) a h

  atom-in_table : (numbers : List ℕ → ℕ) (w : WrittenAtom) → IsAtomNamedBelow (length names) (atom_meant (index_in names) numbers w) → EachNameOfAtom (HasName names) w
  atom-in_table numbers w h = (
    has-below names w.text h.0,
    args-in_table (numbered numbers) w.args (args-of_terms (length names) (args_meant (index_in names) (numbered numbers) w.args) h.1),
  )

  atoms-in_table : (numbers : List ℕ → ℕ) (ws : List WrittenAtom) → AreAtomsNamedBelow (length names) (map (atom_meant (index_in names) numbers) ws)
      → EachNameOfAtoms (HasName names) ws
  atoms-in_table numbers [] h = tt
  atoms-in_table numbers (w ∷ ws) h = (atom-in_table numbers w h.0, atoms-in_table numbers ws h.1)

  items-in_table : (items : List WrittenItem) → AreDeclaredNamedBelow (length names) (declared_meant (index_in names) items)
      → AreClausesNamedBelow (length names) (clauses_meant (index_in names) items) → EachNameOfItems (HasName names) items
  items-in_table [] h k = tt
  items-in_table (declaration x ps f ∷ items) h k = ((has-below names x h.0.0, formula-in_table ps [] f h.0.1), items-in_table items h.1 k)
  items-in_table (a_clause w ∷ items) h k = (
    (atom-in_table (index_in (clause_variables w)) w.head k.0.0, atoms-in_table (index_in (clause_variables w)) w.body k.0.1),
    items-in_table items h k.1,
  )

definition-named : (expected : Option Logic) (names : List (List ℕ)) (items : List Item) (d : Definition) → AreDifferent names → (r : DefinitionIsRead expected items names d)
    → IsDefinitionNamedBelow (length names) (definition_meant (index_in names) r.written)
definition-named expected names items d different r =
    subst (λ e. IsDefinitionNamedBelow (length names) e) (r.meant (index_in names) (Agrees-index_in names different)) (definition-below names different r.written d r.meant)

certificate-named : (expected : Option Logic) (earlier names : List (List ℕ)) (items : List Item) (c : Certificate) → AreDifferent names
    → (r : CertificateIsRead expected earlier items names c) → IsCertificateNamedBelow (length names) (certificate_meant (index_in names) r.written)
certificate-named expected earlier names items c different r =
    subst (λ e. IsCertificateNamedBelow (length names) e) (r.meant (index_in names) (Agrees-index_in names different)) (certificate-below names different r.written c r.meant)

-- what is read of a definition is read by each numbering that agrees with the table
pub definition-read_as : ReadDefinitionIsAs
definition-read_as expected names number items d different agrees r =
    let named = definition-named expected names items d different r in
    record {
      written = r.written;
      read = r.reads;
      in_table = items-in_table names r.written.items named.0 named.1;
      meant = sym (r.meant number agrees);
    }

-- what is read of a certificate is read by each numbering that agrees with the table
pub certificate-read_as : ReadCertificateIsAs
certificate-read_as expected earlier names number items c different agrees r =
    let named = certificate-named expected earlier names items c different r in
    record {
      written = r.written;
      read = r.reads;
      in_table = items-in_table names r.written.items named.0 named.1;
      term_in_table = term-in_table names (numbered (index_in (term_variables r.written.term))) r.written.term named.2;
      meant = sym (r.meant number agrees);
    }
