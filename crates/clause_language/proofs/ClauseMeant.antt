-- What a clause that was read means is printable, and a printable clause is spelled so that it means the same.
use Rattle.std.proofs.Common.{◌≡◌, ℕ, suc, ◌^◌, ◌≤◌, List, [], ◌∷◌, length, map, refl, ap, sym, subst, ◌∙◌, arith}
use Rattle.fpc_base.specs.declared.tokens.TokenKind.TheVariants.{Name}
use Rattle.fpc_base.specs.Tokens.{HasForm}
use Rattle.fpc_base.specs.Lexeme.{Lexeme}
use Rattle.fpc_terms.specs.Term.{Term, Args, eigen, bound, variable, app, no_args, arg, count, terms_in, EachArg, Never}
use Rattle.fpc_terms.specs.Name.{Agrees, HasName, index_in}
use Rattle.fpc_terms.specs.Written.{words, args_meant, variables_in}
use Rattle.fpc_terms.specs.ReadTerm.{numbered}
use Rattle.polarised_formulas.specs.WrittenOf.{IsNamed, AreNamed}
use Rattle.polarised_formulas.specs.EachName.{EachName, EachNameOf}
use Rattle.polarised_formulas.specs.Size.{HasFew, AllHaveFew}
use Rattle.polarised_formulas.proofs.Small.{words_count, IsSmall, AreSmall}
use Rattle.polarised_formulas.proofs.Meant.{name_in-stands, number-of}
use Rattle.clause_language.specs.declared.atom.Atom.{Atom}
use Rattle.clause_language.specs.declared.clause.Clause.{Clause}
use Rattle.clause_language.specs.Written.{WrittenAtom, WrittenClause, more_atom_tokens, body_tokens}
use Rattle.clause_language.specs.Meant.{clause_variables, atom_meant, clause_meant}
use Rattle.clause_language.specs.Text.{args_of}
use Rattle.clause_language.specs.Spelled.{spelled_term, spelled_args, spelled_atom, spelled_clause}
use Rattle.clause_language.specs.Order.{variables_to, variables_to_all, IsOrdered, AreOrdered, term_of_atom, atoms_as_args, atoms_of}
use Rattle.clause_language.specs.EachName.{EachNameOfAtoms}
use Rattle.clause_language.specs.Printable.{Below, IsClausePrintable}
use Rattle.clause_language.proofs.VariableOrder.{texts_to_all, variables_in-args, ordered-whole_args, numbered_texts, length-numbered_texts, below-args, texts_to_all-spelled, args_meant-spelled}
use Rattle.clause_language.proofs.MeantFacts.{named-args_meant, few-args_meant}
use Rattle.clause_language.proofs.Sizes.{atoms_as_words, written_atoms, texts_of_clause}

-- arguments as a list and back
pub args_of-terms_in : (ts : Args) → args_of (terms_in ts) ≡ ts
args_of-terms_in no_args = refl
args_of-terms_in (arg t ts) = ap (arg t) (args_of-terms_in ts)

pub terms_in-args_of : (ts : List Term) → terms_in (args_of ts) ≡ ts
terms_in-args_of [] = refl
terms_in-args_of (t ∷ ts) = ap (λ l. t ∷ l) (terms_in-args_of ts)

-- the variables of a clause are those of its atoms
variables_in-more_atoms : (more : List WrittenAtom) (rest : List Lexeme) (vs : List (List ℕ))
    → variables_in (more_atom_tokens more rest) vs ≡ variables_in rest (texts_to_all (atoms_as_words more) vs)
variables_in-more_atoms [] rest vs = refl
variables_in-more_atoms (a ∷ more) rest vs = variables_in-args a.args (more_atom_tokens more rest) vs ∙ variables_in-more_atoms more rest (texts_to_all a.args vs)

variables_in-body : (body : List WrittenAtom) (rest : List Lexeme) (vs : List (List ℕ))
    → variables_in (body_tokens body rest) vs ≡ variables_in rest (texts_to_all (atoms_as_words body) vs)
variables_in-body [] rest vs = refl
variables_in-body (a ∷ more) rest vs = variables_in-args a.args (more_atom_tokens more rest) vs ∙ variables_in-more_atoms more rest (texts_to_all a.args vs)

pub clause_variables-texts : (c : WrittenClause) → clause_variables c ≡ texts_of_clause c
clause_variables-texts c = variables_in-args c.head.args (body_tokens c.body []) [] ∙ variables_in-body c.body [] (texts_to_all c.head.args [])

-- the names of atoms
atom_names : (P : List ℕ → Type 0) (atoms : List WrittenAtom) → EachNameOfAtoms P atoms → EachNameOf P (atoms_as_words atoms)
atom_names P [] h = tt
atom_names P (a ∷ more) h = (h.0, atom_names P more h.1)

-- an atom by its variables
abbrev meant_atom : (List ℕ → ℕ) → List (List ℕ) → WrittenAtom → Atom
meant_atom number variables a = atom_meant number (index_in variables) a

-- READ: what a clause means, by any numbers of its variables
module _ (number : List ℕ → ℕ) (variables : List (List ℕ)) where
  atoms-meant : (atoms : List WrittenAtom) → atoms_as_args (map (meant_atom number variables) atoms) ≡ args_meant number (numbered (index_in variables)) (atoms_as_words atoms)
  atoms-meant [] = refl
  atoms-meant (a ∷ more) = rw (args_of-terms_in (args_meant number (numbered (index_in variables)) a.args), atoms-meant more) refl

pub clause-meant : (number : List ℕ → ℕ) (c : WrittenClause) → atoms_of (clause_meant number c) ≡ args_meant number (numbered (index_in (texts_of_clause c))) (written_atoms c)
clause-meant number c =
    atoms-meant number (clause_variables c) (c.head ∷ c.body) ∙ ap (λ vs. args_meant number (numbered (index_in vs)) (written_atoms c)) (clause_variables-texts c)

-- what a clause within the limits means is printable
pub printable-clause : (names : List (List ℕ)) (number : List ℕ → ℕ) → Agrees number names → (c : WrittenClause) → AreSmall (written_atoms c) → length (texts_of_clause c) ≤ 255
    → EachNameOfAtoms (HasName names) (c.head ∷ c.body) → EachNameOfAtoms (HasForm Name) (c.head ∷ c.body) → IsClausePrintable names (clause_meant number c)
printable-clause names number agrees c small le known formed =
    let leaf : List ℕ → Term = numbered (index_in (texts_of_clause c)) in
    let e : atoms_of (clause_meant number c) ≡ args_meant number leaf (written_atoms c) = clause-meant number c in
    let o = ordered-whole_args number (written_atoms c) in
    let size : length (clause_variables c) ≡ length (texts_of_clause c) = ap length (clause_variables-texts c) in
    record {
      named = subst (AreNamed names) (sym e)
          (named-args_meant names number agrees leaf (λ x. tt) (written_atoms c) (atom_names (HasName names) (c.head ∷ c.body) known) (atom_names (HasForm Name) (c.head ∷ c.body) formed));
      few = subst AllHaveFew (sym e) (few-args_meant number leaf (λ x. tt) (written_atoms c) small);
      ordered = subst (λ ts. AreOrdered ts 0) (sym e) o.0;
      counted = ap (λ ts. variables_to_all ts 0) e ∙ o.1 ∙ sym size;
      at_most = omega (arith, size, le);
    }

-- PRINTED: terms and atoms
module _ (names : List (List ℕ)) where
  spelled_atoms : (atoms : List Atom) → atoms_as_words (map (spelled_atom names) atoms) ≡ spelled_args names (atoms_as_args atoms)
  spelled_atoms [] = refl
  spelled_atoms (a ∷ more) = ap (words (spelled_term names (term_of_atom a))) (spelled_atoms more)

  pub written_atoms-spelled : (c : Clause) → written_atoms (spelled_clause names c) ≡ spelled_args names (atoms_of c)
  written_atoms-spelled c = spelled_atoms (c.head ∷ c.body)

  words_count-spelled : (ts : Args) → words_count (spelled_args names ts) ≡ count ts
  words_count-spelled no_args = refl
  words_count-spelled (arg t ts) = ap suc (words_count-spelled ts)

  mutual
    pub small-spelled_term : (t : Term) → HasFew t → IsSmall (spelled_term names t)
    small-spelled_term (eigen k) h = (omega arith, tt)
    small-spelled_term (bound k) h = tt
    small-spelled_term (variable v) h = tt
    small-spelled_term (app f ts) h = (rw (words_count-spelled ts) h.0, small-spelled_args ts h.1)

    pub small-spelled_args : (ts : Args) → AllHaveFew ts → AreSmall (spelled_args names ts)
    small-spelled_args no_args h = tt
    small-spelled_args (arg t ts) h = (small-spelled_term t h.0, small-spelled_args ts h.1)

  mutual
    pub in_table-spelled_term : (t : Term) (n : ℕ) → IsOrdered t n → IsNamed names t → EachName (HasName names) (spelled_term names t)
    in_table-spelled_term (eigen k) n o h = absurd o
    in_table-spelled_term (bound k) n o h = absurd o
    in_table-spelled_term (variable v) n o h = tt
    in_table-spelled_term (app f ts) n o h = ((f, name_in-stands names f h.0), in_table-spelled_args ts n o h.1)

    pub in_table-spelled_args : (ts : Args) (n : ℕ) → AreOrdered ts n → AreNamed names ts → EachNameOf (HasName names) (spelled_args names ts)
    in_table-spelled_args no_args n o h = tt
    in_table-spelled_args (arg t ts) n o h = (in_table-spelled_term t n o.0 h.0, in_table-spelled_args ts (variables_to t n) o.1 h.1)

  names_of_atoms : (P : List ℕ → Type 0) (atoms : List WrittenAtom) → EachNameOf P (atoms_as_words atoms) → EachNameOfAtoms P atoms
  names_of_atoms P [] h = tt
  names_of_atoms P (a ∷ more) h = (h.0, names_of_atoms P more h.1)

  -- the limits of a spelled clause
  pub small-spelled_clause : (c : Clause) → IsClausePrintable names c → AreSmall (written_atoms (spelled_clause names c))
  small-spelled_clause c h = subst AreSmall (sym (written_atoms-spelled c)) (small-spelled_args (atoms_of c) h.few)

  pub texts-spelled_clause : (c : Clause) → IsClausePrintable names c → texts_of_clause (spelled_clause names c) ≡ numbered_texts c.variables
  texts-spelled_clause c h =
      let counted = h.counted in
      let at_most = h.at_most in
      ap (λ ts. texts_to_all ts []) (written_atoms-spelled c) ∙ texts_to_all-spelled names (atoms_of c) 0 h.ordered (omega (arith, counted, at_most)) ∙ ap numbered_texts counted

  pub in_table-spelled_clause : (c : Clause) → IsClausePrintable names c → EachNameOfAtoms (HasName names) ((spelled_clause names c).head ∷ (spelled_clause names c).body)
  in_table-spelled_clause c h =
      names_of_atoms (HasName names) ((spelled_clause names c).head ∷ (spelled_clause names c).body)
      (subst (EachNameOf (HasName names)) (sym (written_atoms-spelled c)) (in_table-spelled_args (atoms_of c) 0 h.ordered h.named))

  -- a spelled clause means the clause
  module _ (number : List ℕ → ℕ) (agrees : Agrees number names) (m : ℕ) (le : m ≤ 2 ^ 64) where
    atom_meant-spelled : (a : Atom) → EachArg Never Never (Below m) (args_of a.arguments) → IsNamed names (term_of_atom a)
        → meant_atom number (numbered_texts m) (spelled_atom names a) ≡ a
    atom_meant-spelled a b named =
        rw (number-of names number agrees a.name named.0, args_meant-spelled names number agrees m (args_of a.arguments) le b named.1) (rw (terms_in-args_of a.arguments) refl)

    atoms_meant-spelled : (atoms : List Atom) → EachArg Never Never (Below m) (atoms_as_args atoms) → AreNamed names (atoms_as_args atoms)
        → map (meant_atom number (numbered_texts m)) (map (spelled_atom names) atoms) ≡ atoms
    atoms_meant-spelled [] b named = refl
    atoms_meant-spelled (a ∷ more) b named = rw (atom_meant-spelled a b.0 named.0, atoms_meant-spelled more b.1 named.1) refl

  pub clause_meant-spelled : (number : List ℕ → ℕ) → Agrees number names → (c : Clause) → IsClausePrintable names c → clause_meant number (spelled_clause names c) ≡ c
  clause_meant-spelled number agrees c h =
      let counted = h.counted in
      let at_most = h.at_most in
      let le : c.variables ≤ 2 ^ 64 = omega (arith, at_most) in
      let vs : clause_variables (spelled_clause names c) ≡ numbered_texts c.variables = clause_variables-texts (spelled_clause names c) ∙ texts-spelled_clause c h in
      let below : EachArg Never Never (Below c.variables) (atoms_of c) = below-args c.variables (atoms_of c) 0 h.ordered (omega (arith, counted)) in
      let named = h.named in
      let head : meant_atom number (numbered_texts c.variables) (spelled_atom names c.head) ≡ c.head = atom_meant-spelled number agrees c.variables le c.head below.0 named.0 in
      let body : map (meant_atom number (numbered_texts c.variables)) (map (spelled_atom names) c.body) ≡ c.body = atoms_meant-spelled number agrees c.variables le c.body below.1 named.1 in
      rw vs (rw (head, body, length-numbered_texts c.variables) refl)
