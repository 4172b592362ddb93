-- Files that were read are a program.
use Rattle.std.proofs.Common.{◌≡◌, ℕ, ◌<◌, ◌≤◌, false, List, [], ◌∷◌, ◌++◌, length, refl, ap, sym, subst, ◌∙◌, arith, append-nil, append_assoc, Option, Some}
use Rattle.std.specs.List.{All}
use Rattle.std.proofs.lemmas.List.Elements.{All-nil, All-cons, All-append}
use Rattle.std.proofs.lemmas.Option.{get_or_from_slice_get, slice_get-get_or}
use Rattle.fpc_base.specs.Lexeme.{Item}
use Rattle.fpc_terms.specs.Name.{Agrees, AreDifferent, Grows, index_in}
use Rattle.fpc_terms.specs.Open.{IsOpen, AreOpen}
use Rattle.fpc_terms.specs.ReadTerm.{numbered}
use Rattle.fpc_terms.specs.Term.{Term, count, Each, EachArg, Never}
use Rattle.fpc_terms.specs.Text.{name_in}
use Rattle.fpc_terms.specs.Written.{WrittenTerm, term_meant}
use Rattle.fpc_terms.proofs.ReadFacts.{Agrees-index_in}
use Rattle.fpc_terms.proofs.ScopeFacts.{Each-weaker}
use Rattle.polarised_formulas.specs.declared.logic.Logic.{Logic}
use Rattle.polarised_formulas.specs.declared.logic.Logic.TheVariants.{Lkf, Ljf}
use Rattle.polarised_formulas.specs.Size.{AllHaveFew}
use Rattle.polarised_formulas.proofs.Small.{AreSmall, depth_of-formula_meant}
use Rattle.clause_language.specs.declared.atom.Atom.{Atom}
use Rattle.clause_language.specs.declared.certificate.Certificate.{Certificate}
use Rattle.clause_language.specs.declared.clause.Clause.{Clause}
use Rattle.clause_language.specs.declared.declaration.DeclaredFormula.{DeclaredFormula}
use Rattle.clause_language.specs.declared.definition.Definition.{Definition}
use Rattle.clause_language.specs.declared.program.Program.{Program}
use Rattle.clause_language.specs.FileMachine.{is_other}
use Rattle.clause_language.specs.Joined.{JoinedIsProgram, DefinitionIsProgram}
use Rattle.clause_language.specs.LeastModel.{AreOpenAtoms, IsOpenClause}
use Rattle.clause_language.specs.Limits.{declared_names}
use Rattle.clause_language.specs.Meant.{clause_meant, declaration_meant, clauses_meant, declared_meant, term_variables}
use Rattle.clause_language.specs.Naming.{AreClausesNamedBelow, AreDeclaredNamedBelow, IsDefinitionNamedBelow, IsCertificateNamedBelow}
use Rattle.clause_language.specs.Order.{variables_to_all, AreOrdered, atoms_as_args, atoms_of}
use Rattle.clause_language.specs.Printable.{AreNew, Below, declared_texts}
use Rattle.clause_language.specs.Program.{HasFewArguments, HaveWords, IsDeclarationOf, IsJoined, IsOfFewArguments, IsProgram}
use Rattle.clause_language.specs.ReadFile.{DefinitionIsRead, CertificateIsRead, names_of}
use Rattle.clause_language.specs.Text.{args_of}
use Rattle.clause_language.specs.Written.{AreItemsOf, WrittenClause, WrittenItem, declaration, a_clause}
use Rattle.clause_language.proofs.FileNames.{definition-below, certificate-below}
use Rattle.clause_language.proofs.ClauseMeant.{clause-meant, clause_variables-texts}
use Rattle.clause_language.proofs.ItemsMeant.{texts-declared}
use Rattle.clause_language.proofs.MeantFacts.{few-args_meant, logic-formula_meant, scoped-formula_meant}
use Rattle.clause_language.proofs.Parameters.{AreDifferent-none, AreDifferent-push}
use Rattle.clause_language.proofs.ReadAs.{definition-read_as, certificate-read_as}
use Rattle.clause_language.proofs.RoundTrip.{definition-passed, within-definition, certificate-passed, within-certificate, term_variables-texts}
use Rattle.clause_language.proofs.Sizes.{AreItemsSmall, texts_of_clause, written_atoms}
use Rattle.clause_language.proofs.VariableOrder.{below-args, below-term, ordered-whole_args, ordered-whole_term}

-- OPEN: terms without eigenvariables and bound indexes, whose variables are below a number
open-term : (k : ℕ) (t : Term) → Each Never Never (Below k) t → IsOpen k t
open-term k t h = Each-weaker (λ n f. tt) (λ n f. f) (λ n f. f) t h

open-terms : (k : ℕ) (ts : List Term) → EachArg Never Never (Below k) (args_of ts) → AreOpen k ts
open-terms k [] h = All-nil (IsOpen k)
open-terms k (t ∷ ts) h = All-cons (IsOpen k) t ts (open-term k t h.0) (open-terms k ts h.1)

abbrev HasOpenArguments : ℕ → Atom → Type 0
HasOpenArguments k a = AreOpen k a.arguments

open-atoms : (k : ℕ) (atoms : List Atom) → EachArg Never Never (Below k) (atoms_as_args atoms) → AreOpenAtoms k atoms
open-atoms k [] h = All-nil (HasOpenArguments k)
open-atoms k (a ∷ more) h = All-cons (HasOpenArguments k) a more (open-terms k a.arguments h.0) (open-atoms k more h.1)

-- FEW ARGUMENTS
count-args_of : (ts : List Term) → count (args_of ts) ≡ length ts
count-args_of [] = refl
count-args_of (t ∷ ts) = let e = count-args_of ts in omega (arith, e)

few-atom : (a : Atom) → count (args_of a.arguments) ≤ 255 → HasFewArguments a
few-atom a h = let e = count-args_of a.arguments in omega (arith, e, h)

few-atoms : (atoms : List Atom) → AllHaveFew (atoms_as_args atoms) → All HasFewArguments atoms
few-atoms [] h = All-nil HasFewArguments
few-atoms (a ∷ more) h = All-cons HasFewArguments a more (few-atom a h.0.0) (few-atoms more h.1)

-- CLAUSES that were read
ordered-clause : (number : List ℕ → ℕ) (w : WrittenClause)
    → AreOrdered (atoms_of (clause_meant number w)) 0 × (variables_to_all (atoms_of (clause_meant number w)) 0 ≡ (clause_meant number w).variables)
ordered-clause number w =
    let e = clause-meant number w in
    let o = ordered-whole_args number (written_atoms w) in
    let size : (clause_meant number w).variables ≡ length (texts_of_clause w) = ap length (clause_variables-texts w) in
    (subst (λ ts. AreOrdered ts 0) (sym e) o.0, ap (λ ts. variables_to_all ts 0) e ∙ o.1 ∙ sym size)

open-clause : (number : List ℕ → ℕ) (w : WrittenClause) → IsOpenClause (clause_meant number w)
open-clause number w =
    let c : Clause = clause_meant number w in
    let o = ordered-clause number w in
    let counted : variables_to_all (atoms_of c) 0 ≤ c.variables = omega (arith, o.1) in
    let below : EachArg Never Never (Below c.variables) (atoms_of c) = below-args c.variables (atoms_of c) 0 o.0 counted in
    record { head = open-terms c.variables c.head.arguments below.0; body = open-atoms c.variables c.body below.1 }

few-clause : (number : List ℕ → ℕ) (w : WrittenClause) → AreSmall (written_atoms w) → IsOfFewArguments (clause_meant number w)
few-clause number w small =
    let c : Clause = clause_meant number w in
    let leaf : List ℕ → Term = numbered (index_in (texts_of_clause w)) in
    let few : AllHaveFew (atoms_of c) = subst AllHaveFew (sym (clause-meant number w)) (few-args_meant number leaf (λ x. tt) (written_atoms w) small) in
    (few-atom c.head few.0.0, few-atoms c.body few.1)

-- PARTS of a program: the declared formulas and clauses of one file
record IsPart (logic : Logic) (declared : List DeclaredFormula) (clauses : List Clause) : Type 0 where
  formulas : All (IsDeclarationOf logic) declared
  are_open : All IsOpenClause clauses
  few : All IsOfFewArguments clauses

part-declared : (number : List ℕ → ℕ) (logic : Logic) (items : List WrittenItem) → AreItemsOf logic items → AreItemsSmall items
    → All (IsDeclarationOf logic) (declared_meant number items)
part-declared number logic [] of_logic small = All-nil (IsDeclarationOf logic)
part-declared number logic (declaration x ps w ∷ items) of_logic small =
    let is : IsDeclarationOf logic (declaration_meant number x ps w) = record {
      in_logic = logic-formula_meant number ps logic [] w of_logic.0.2;
      deep = rw (depth_of-formula_meant number ps [] w) small.0.1;
      is_scoped = scoped-formula_meant number ps [] w of_logic.0.1;
    } in
    All-cons (IsDeclarationOf logic) (declaration_meant number x ps w) (declared_meant number items) is (part-declared number logic items of_logic.1 small.1)
part-declared number logic (a_clause c ∷ items) of_logic small = part-declared number logic items of_logic.1 small.1

part-open : (number : List ℕ → ℕ) (items : List WrittenItem) → All IsOpenClause (clauses_meant number items)
part-open number [] = All-nil IsOpenClause
part-open number (declaration x ps w ∷ items) = part-open number items
part-open number (a_clause c ∷ items) = All-cons IsOpenClause (clause_meant number c) (clauses_meant number items) (open-clause number c) (part-open number items)

part-few : (number : List ℕ → ℕ) (items : List WrittenItem) → AreItemsSmall items → All IsOfFewArguments (clauses_meant number items)
part-few number [] small = All-nil IsOfFewArguments
part-few number (declaration x ps w ∷ items) small = part-few number items small.1
part-few number (a_clause c ∷ items) small =
    All-cons IsOfFewArguments (clause_meant number c) (clauses_meant number items) (few-clause number c small.0.0) (part-few number items small.1)

part-read : (number : List ℕ → ℕ) (logic : Logic) (items : List WrittenItem) → AreItemsOf logic items → AreItemsSmall items
    → IsPart logic (declared_meant number items) (clauses_meant number items)
part-read number logic items of_logic small = record {
  formulas = part-declared number logic items of_logic small;
  are_open = part-open number items;
  few = part-few number items small;
}

-- NAMES of declared formulas
different-new : (earlier xs : List (List ℕ)) → AreDifferent earlier → AreNew earlier xs → AreDifferent (earlier ++ xs)
different-new earlier [] different h = subst AreDifferent (sym (append-nil earlier)) different
different-new earlier (x ∷ xs) different h =
    subst AreDifferent (append_assoc earlier (x ∷ []) xs) (different-new (earlier ++ x ∷ []) xs (AreDifferent-push earlier x different h.0) h.1)

names_of-texts : (names : List (List ℕ)) (ds : List DeclaredFormula) → names_of names ds ≡ declared_texts names ds
names_of-texts names [] = refl
names_of-texts names (d ∷ ds) = ap (λ l. name_in names d.name ∷ l) (names_of-texts names ds)

names_of-append : (names : List (List ℕ)) (ds es : List DeclaredFormula) → names_of names (ds ++ es) ≡ names_of names ds ++ names_of names es
names_of-append names [] es = refl
names_of-append names (d ∷ ds) es = ap (λ l. name_in names d.name ∷ l) (names_of-append names ds es)

-- names below a number, of lists one behind the other
declared-named : (n : ℕ) (ds es : List DeclaredFormula) → AreDeclaredNamedBelow n ds → AreDeclaredNamedBelow n es → AreDeclaredNamedBelow n (ds ++ es)
declared-named n [] es h k = k
declared-named n (d ∷ ds) es h k = (h.0, declared-named n ds es h.1 k)

clauses-named : (n : ℕ) (cs ds : List Clause) → AreClausesNamedBelow n cs → AreClausesNamedBelow n ds → AreClausesNamedBelow n (cs ++ ds)
clauses-named n [] ds h k = k
clauses-named n (c ∷ cs) ds h k = (h.0, clauses-named n cs ds h.1 k)

-- JOINED: two parts of one logic, and a term
joined : (names : List (List ℕ)) (d : Definition) (c : Certificate) (p : Program) → IsPart d.logic d.declared d.clauses → IsPart d.logic c.declared c.clauses
    → AreDifferent (names_of names d.declared ++ names_of names c.declared) → IsOpen c.variables c.term
    → IsDefinitionNamedBelow (length names) d → IsCertificateNamedBelow (length names) c → IsJoined d c p → HaveWords names p.ids → IsProgram names p
joined names d c p first second different term_open d_named c_named j words = record {
  is_open = record {
    formulas = rw (j.logic, j.declared)
        (All-append (IsDeclarationOf d.logic) d.declared c.declared first.formulas second.formulas);
    clauses_open = rw j.clauses
        (All-append IsOpenClause d.clauses c.clauses first.are_open second.are_open);
    few = rw j.clauses (All-append IsOfFewArguments d.clauses c.clauses first.few second.few);
    term_open = rw (j.variables, j.term) term_open;
  };
  different = rw j.declared
      (subst AreDifferent (sym (names_of-append names d.declared c.declared)) different);
  declared_named = rw j.declared
      (declared-named (length names) d.declared c.declared d_named.0 c_named.0);
  clauses_named = rw j.clauses (clauses-named (length names) d.clauses c.clauses d_named.1 c_named.1);
  term_named = rw j.term c_named.2;
  words = words;
}

-- what a definition that was read gives
record IsFirst (names : List (List ℕ)) (d : Definition) : Type 0 where
  part : IsPart d.logic d.declared d.clauses
  different : AreDifferent (names_of names d.declared)

-- what a certificate that was read behind formulas of earlier names gives
record IsSecond (logic : Logic) (earlier names : List (List ℕ)) (c : Certificate) : Type 0 where
  of_logic : c.logic ≡ logic
  part : IsPart c.logic c.declared c.clauses
  new : AreNew earlier (names_of names c.declared)
  term_open : IsOpen c.variables c.term

definition-first : (expected : Option Logic) (names : List (List ℕ)) (items : List Item) (d : Definition) → AreDifferent names → DefinitionIsRead expected items names d
    → IsFirst names d
definition-first expected names items d different r =
    let number : List ℕ → ℕ = index_in names in
    let agrees : Agrees number names = Agrees-index_in names different in
    let told = definition-read_as expected names number items d different agrees r in
    let w = told.written in
    let p = definition-passed expected items w told.read in
    let within = within-definition expected items w p in
    let texts : names_of names (declared_meant number w.items) ≡ declared_names w.items =
    names_of-texts names (declared_meant number w.items) ∙ texts-declared names number agrees w.items told.in_table in
    subst (IsFirst names) told.meant (record {
      part = part-read number w.logic w.items p.is_whole.of_logic within.small;
      different = subst AreDifferent (sym texts) (different-new [] (declared_names w.items) AreDifferent-none within.new);
    })

same-logic : (expected logic : Logic) → is_other (Some expected) logic ≡ false → logic ≡ expected
same-logic Lkf Lkf h = refl
same-logic Lkf Ljf h = cc
same-logic Ljf Lkf h = cc
same-logic Ljf Ljf h = refl

open-term_meant : (number : List ℕ → ℕ) (t : WrittenTerm) → IsOpen (length (term_variables t)) (term_meant number (numbered (index_in (term_variables t))) t)
open-term_meant number t =
    subst (λ us. IsOpen (length us) (term_meant number (numbered (index_in us)) t)) (sym (term_variables-texts t)) (
    let o = ordered-whole_term number t in
    open-term _ _ (below-term _ _ 0 o.0 (omega (arith, o.1)))
    )

certificate-second : (logic : Logic) (earlier names : List (List ℕ)) (items : List Item) (c : Certificate) → AreDifferent names
    → CertificateIsRead (Some logic) earlier items names c → IsSecond logic earlier names c
certificate-second logic earlier names items c different r =
    let number : List ℕ → ℕ = index_in names in
    let agrees : Agrees number names = Agrees-index_in names different in
    let told = certificate-read_as (Some logic) earlier names number items c different agrees r in
    let w = told.written in
    let p = certificate-passed (Some logic) earlier items w told.read in
    let within = within-certificate (Some logic) earlier items w p in
    let texts : names_of names (declared_meant number w.items) ≡ declared_names w.items =
    names_of-texts names (declared_meant number w.items) ∙ texts-declared names number agrees w.items told.in_table in
    subst (IsSecond logic earlier names) told.meant (record {
      of_logic = same-logic logic w.logic within.items.is_expected;
      part = part-read number w.logic w.items p.is_whole.of_logic within.items.small;
      new = subst (AreNew earlier) (sym texts) within.items.new;
      term_open = open-term_meant number w.term;
    })

-- the certificate is of the logic that was expected
pub certificate-logic : (logic : Logic) (earlier names : List (List ℕ)) (items : List Item) (c : Certificate) → AreDifferent names
    → CertificateIsRead (Some logic) earlier items names c → c.logic ≡ logic
certificate-logic logic earlier names items c different r = (certificate-second logic earlier names items c different r).of_logic

pub joined-program : JoinedIsProgram
joined-program expected names items others d c p different d_read c_read d_named c_named j words =
    let first = definition-first expected names items d different d_read in
    let second = certificate-second d.logic (names_of names d.declared) names others c different c_read in
    joined names d c p first.part (subst (λ l. IsPart l c.declared c.clauses) second.of_logic second.part)
    (different-new (names_of names d.declared) (names_of names c.declared) first.different second.new) second.term_open d_named c_named j words

pub definition-program : DefinitionIsProgram
definition-program expected names items d any c p different d_read d_named lt bare j words =
    let first = definition-first expected names items d different d_read in
    let second : IsPart d.logic c.declared c.clauses = rw (bare.declared, bare.clauses)
    (record { formulas = All-nil (IsDeclarationOf d.logic); are_open = All-nil IsOpenClause; few = All-nil IsOfFewArguments }) in
    let names_new : AreNew (names_of names d.declared) (names_of names c.declared) = rw bare.declared tt in
    let term_open : IsOpen c.variables c.term = rw bare.term tt in
    let c_named : IsCertificateNamedBelow (length names) c = rw (bare.declared, bare.clauses, bare.term) (tt, tt, (lt, tt)) in
    joined names d c p first.part second (different-new (names_of names d.declared) (names_of names c.declared) first.different names_new) term_open d_named c_named j words

-- LATER: what was read stands, as the table grows
pub definition-grown : (expected : Option Logic) (items : List Item) (old new : List (List ℕ)) (d : Definition) → Grows old new → DefinitionIsRead expected items old d
    → DefinitionIsRead expected items new d
definition-grown expected items old new d grows r = record {
  written = r.written;
  reads = r.reads;
  meant = λ number agrees. r.meant number (λ k text e. agrees k text (grows k text e));
}

pub certificate-grown : (expected : Option Logic) (earlier : List (List ℕ)) (items : List Item) (old new : List (List ℕ)) (c : Certificate) → Grows old new
    → CertificateIsRead expected earlier items old c → CertificateIsRead expected earlier items new c
certificate-grown expected earlier items old new c grows r = record {
  written = r.written;
  reads = r.reads;
  meant = λ number agrees. r.meant number (λ k text e. agrees k text (grows k text e));
}

name_in-grown : (old new : List (List ℕ)) (k : ℕ) → Grows old new → k < length old → name_in new k ≡ name_in old k
name_in-grown old new k grows lt = get_or_from_slice_get new k (name_in old k) [] (grows k (name_in old k) (slice_get-get_or old k [] lt))

pub names_of-grown : (old new : List (List ℕ)) (ds : List DeclaredFormula) → Grows old new → AreDeclaredNamedBelow (length old) ds → names_of new ds ≡ names_of old ds
names_of-grown old new [] grows h = refl
names_of-grown old new (d ∷ ds) grows h = rw (name_in-grown old new d.name grows h.0.0, names_of-grown old new ds grows h.1) refl

-- files that were read one after the other, by the table after all
pub joined-later : (expected : Option Logic) (first second names : List (List ℕ)) (items others : List Item) (d : Definition) (c : Certificate) (p : Program) → AreDifferent names
    → DefinitionIsRead expected items first d → IsDefinitionNamedBelow (length first) d → Grows first second
    → CertificateIsRead (Some d.logic) (names_of first d.declared) others second c → Grows second names → IsJoined d c p → HaveWords names p.ids → IsProgram names p
joined-later expected first second names items others d c p different d_read named grows c_read more j words =
    let all : Grows first names = λ k text e. more k text (grows k text e) in
    let d_later = definition-grown expected items first names d all d_read in
    let earlier : names_of first d.declared ≡ names_of names d.declared = sym (names_of-grown first names d.declared all named.0) in
    let c_later = subst (λ taken. CertificateIsRead (Some d.logic) taken others names c) earlier
    (certificate-grown (Some d.logic) (names_of first d.declared) others second names c more c_read) in
    joined-program expected names items others d c p different d_later c_later
    (definition-below names different d_later.written d d_later.meant) (certificate-below names different c_later.written c c_later.meant) j words
