-- What items that were read mean is printable, and printable items are spelled so that they mean the same.
use Rattle.std.proofs.Common.{◌≡◌, ℕ, List, [], ◌∷◌, length, refl, ap, ◌∙◌, arith}
use Rattle.fpc_base.specs.declared.tokens.TokenKind.TheVariants.{Name}
use Rattle.fpc_base.specs.Tokens.{HasForm}
use Rattle.fpc_terms.specs.Text.{name_in}
use Rattle.fpc_terms.specs.Name.{Agrees, HasName}
use Rattle.polarised_formulas.specs.declared.logic.Logic.{Logic}
use Rattle.polarised_formulas.specs.Written.{WrittenFormula, formula_meant}
use Rattle.polarised_formulas.specs.WrittenOf.{written_of}
use Rattle.polarised_formulas.proofs.Small.{written_depth-written_of, HasSmall-written_of, depth_of-formula_meant, HasFewArguments-formula_meant}
use Rattle.polarised_formulas.proofs.Meant.{name_in-stands, IsWrittenIn-written_of}
use Rattle.clause_language.specs.declared.clause.Clause.{Clause}
use Rattle.clause_language.specs.declared.declaration.DeclaredFormula.{DeclaredFormula}
use Rattle.clause_language.specs.Written.{WrittenItem, declaration, a_clause, IsItemOf, AreItemsOf}
use Rattle.clause_language.specs.Meant.{declaration_meant, declared_meant, clauses_meant}
use Rattle.clause_language.specs.Limits.{declared_names}
use Rattle.clause_language.specs.Spelled.{parameters_from, spelled_clause, spelled_declaration, spelled_clauses, spelled_items}
use Rattle.clause_language.specs.EachName.{EachNameOfItem, EachNameOfItems}
use Rattle.clause_language.specs.Printable.{IsDeclarationPrintable, AreDeclaredPrintable, IsClausePrintable, AreClausesPrintable, declared_texts}
use Rattle.clause_language.proofs.VariableOrder.{length-numbered_texts}
use Rattle.clause_language.proofs.ParametersMeant.{length-parameters_from, AreDifferent-parameters_from, bound-written_of, in_table-written_of, meant-written_of}
use Rattle.clause_language.proofs.MeantFacts.{name_in-number, formed-number, scoped-formula_meant, logic-formula_meant, named-formula_meant}
use Rattle.clause_language.proofs.ClauseMeant.{printable-clause, small-spelled_clause, texts-spelled_clause, in_table-spelled_clause, clause_meant-spelled}
use Rattle.clause_language.proofs.Sizes.{IsItemSmall, AreItemsSmall, texts_of_clause}

-- READ
module _ (names : List (List ℕ)) (number : List ℕ → ℕ) (agrees : Agrees number names) where
  printable-declaration : (logic : Logic) (x : List ℕ) (ps : List (List ℕ)) (w : WrittenFormula) → IsItemOf logic (declaration x ps w) → IsItemSmall (declaration x ps w)
      → EachNameOfItem (HasName names) (declaration x ps w) → EachNameOfItem (HasForm Name) (declaration x ps w) → IsDeclarationPrintable names logic (declaration_meant number x ps w)
  printable-declaration logic x ps w of_logic small known formed = record {
    named = formed-number names number agrees x known.0 formed.0;
    at_most = small.0;
    is_scoped = scoped-formula_meant number ps [] w of_logic.1;
    in_logic = logic-formula_meant number ps logic [] w of_logic.2;
    has_names = named-formula_meant names number agrees ps [] w known.1 formed.1;
    deep = rw (depth_of-formula_meant number ps [] w) small.1;
    few = HasFewArguments-formula_meant number ps [] w small.2;
  }

  pub printable-declared : (logic : Logic) (items : List WrittenItem) → AreItemsOf logic items → AreItemsSmall items → EachNameOfItems (HasName names) items
      → EachNameOfItems (HasForm Name) items → AreDeclaredPrintable names logic (declared_meant number items)
  printable-declared logic [] of_logic small known formed = tt
  printable-declared logic (declaration x ps w ∷ items) of_logic small known formed =
      (printable-declaration logic x ps w of_logic.0 small.0 known.0 formed.0, printable-declared logic items of_logic.1 small.1 known.1 formed.1)
  printable-declared logic (a_clause c ∷ items) of_logic small known formed = printable-declared logic items of_logic.1 small.1 known.1 formed.1

  pub printable-clauses : (items : List WrittenItem) → AreItemsSmall items → EachNameOfItems (HasName names) items → EachNameOfItems (HasForm Name) items
      → AreClausesPrintable names (clauses_meant number items)
  printable-clauses [] small known formed = tt
  printable-clauses (declaration x ps w ∷ items) small known formed = printable-clauses items small.1 known.1 formed.1
  printable-clauses (a_clause c ∷ items) small known formed =
      (printable-clause names number agrees c small.0.0 small.0.1 known.0 formed.0, printable-clauses items small.1 known.1 formed.1)

  pub texts-declared : (items : List WrittenItem) → EachNameOfItems (HasName names) items → declared_texts names (declared_meant number items) ≡ declared_names items
  texts-declared [] known = refl
  texts-declared (declaration x ps w ∷ items) known = rw (name_in-number names number agrees x known.0.0, texts-declared items known.1) refl
  texts-declared (a_clause c ∷ items) known = texts-declared items known.1

-- PRINTED
module _ (names : List (List ℕ)) where
  of_logic-declaration : (logic : Logic) (d : DeclaredFormula) → IsDeclarationPrintable names logic d → IsItemOf logic (spelled_declaration names d)
  of_logic-declaration logic d p =
      let at_most = p.at_most in
      let deep = p.deep in (
        AreDifferent-parameters_from d.parameters (omega (arith, at_most)),
        bound-written_of names d.parameters 0 d.formula (omega (arith, deep)) p.is_scoped,
        IsWrittenIn-written_of names logic 0 d.formula p.in_logic,
      )

  small-declaration : (logic : Logic) (d : DeclaredFormula) → IsDeclarationPrintable names logic d → IsItemSmall (spelled_declaration names d)
  small-declaration logic d p =
      let at_most = p.at_most in (
        omega (arith, at_most, length-parameters_from 0 d.parameters),
        rw (written_depth-written_of names 0 d.formula) p.deep,
        HasSmall-written_of names 0 d.formula p.few,
      )

  known-declaration : (logic : Logic) (d : DeclaredFormula) → IsDeclarationPrintable names logic d → EachNameOfItem (HasName names) (spelled_declaration names d)
  known-declaration logic d p = ((d.name, name_in-stands names d.name p.named), in_table-written_of names d.parameters 0 d.formula p.is_scoped p.has_names)

  small-clause : (c : Clause) → IsClausePrintable names c → IsItemSmall (a_clause (spelled_clause names c))
  small-clause c p =
      let at_most = p.at_most in
      let size : length (texts_of_clause (spelled_clause names c)) ≡ c.variables = ap length (texts-spelled_clause names c p) ∙ length-numbered_texts c.variables in
      (small-spelled_clause names c p, omega (arith, size, at_most))

  of_logic-clauses : (logic : Logic) (cs : List Clause) → AreItemsOf logic (spelled_clauses names cs)
  of_logic-clauses logic [] = tt
  of_logic-clauses logic (c ∷ cs) = (tt, of_logic-clauses logic cs)

  small-clauses : (cs : List Clause) → AreClausesPrintable names cs → AreItemsSmall (spelled_clauses names cs)
  small-clauses [] p = tt
  small-clauses (c ∷ cs) p = (small-clause c p.0, small-clauses cs p.1)

  known-clauses : (cs : List Clause) → AreClausesPrintable names cs → EachNameOfItems (HasName names) (spelled_clauses names cs)
  known-clauses [] p = tt
  known-clauses (c ∷ cs) p = (in_table-spelled_clause names c p.0, known-clauses cs p.1)

  names-clauses : (cs : List Clause) → declared_names (spelled_clauses names cs) ≡ []
  names-clauses [] = refl
  names-clauses (c ∷ cs) = names-clauses cs

  pub of_logic-spelled : (logic : Logic) (ds : List DeclaredFormula) (cs : List Clause) → AreDeclaredPrintable names logic ds → AreItemsOf logic (spelled_items names ds cs)
  of_logic-spelled logic [] cs p = of_logic-clauses logic cs
  of_logic-spelled logic (d ∷ ds) cs p = (of_logic-declaration logic d p.0, of_logic-spelled logic ds cs p.1)

  pub small-spelled : (logic : Logic) (ds : List DeclaredFormula) (cs : List Clause) → AreDeclaredPrintable names logic ds → AreClausesPrintable names cs
      → AreItemsSmall (spelled_items names ds cs)
  small-spelled logic [] cs p q = small-clauses cs q
  small-spelled logic (d ∷ ds) cs p q = (small-declaration logic d p.0, small-spelled logic ds cs p.1 q)

  pub known-spelled : (logic : Logic) (ds : List DeclaredFormula) (cs : List Clause) → AreDeclaredPrintable names logic ds → AreClausesPrintable names cs
      → EachNameOfItems (HasName names) (spelled_items names ds cs)
  known-spelled logic [] cs p q = known-clauses cs q
  known-spelled logic (d ∷ ds) cs p q = (known-declaration logic d p.0, known-spelled logic ds cs p.1 q)

  pub names-spelled : (ds : List DeclaredFormula) (cs : List Clause) → declared_names (spelled_items names ds cs) ≡ declared_texts names ds
  names-spelled [] cs = names-clauses cs
  names-spelled (d ∷ ds) cs = ap (λ l. name_in names d.name ∷ l) (names-spelled ds cs)

  module _ (number : List ℕ → ℕ) (agrees : Agrees number names) where
    meant-declaration : (logic : Logic) (d : DeclaredFormula) → IsDeclarationPrintable names logic d
        → declaration_meant number (name_in names d.name) (parameters_from 0 d.parameters) (written_of names 0 d.formula) ≡ d
    meant-declaration logic d p =
        let at_most = p.at_most in
        let deep = p.deep in
        let name : number (name_in names d.name) ≡ d.name = agrees d.name (name_in names d.name) (name_in-stands names d.name p.named) in
        let meant : formula_meant number (parameters_from 0 d.parameters) [] (written_of names 0 d.formula) ≡ d.formula =
        meant-written_of names d.parameters number agrees (omega (arith, at_most)) d.formula (omega (arith, deep)) p.is_scoped p.has_names in
        rw (name, length-parameters_from 0 d.parameters, meant) refl

    clauses-clauses : (cs : List Clause) → AreClausesPrintable names cs → clauses_meant number (spelled_clauses names cs) ≡ cs
    clauses-clauses [] p = refl
    clauses-clauses (c ∷ cs) p = rw (clause_meant-spelled names number agrees c p.0, clauses-clauses cs p.1) refl

    declared-clauses : (cs : List Clause) → declared_meant number (spelled_clauses names cs) ≡ []
    declared-clauses [] = refl
    declared-clauses (c ∷ cs) = declared-clauses cs

    pub declared_meant-spelled : (logic : Logic) (ds : List DeclaredFormula) (cs : List Clause) → AreDeclaredPrintable names logic ds
        → declared_meant number (spelled_items names ds cs) ≡ ds
    declared_meant-spelled logic [] cs p = declared-clauses cs
    declared_meant-spelled logic (d ∷ ds) cs p = rw (meant-declaration logic d p.0, declared_meant-spelled logic ds cs p.1) refl

    pub clauses_meant-spelled : (ds : List DeclaredFormula) (cs : List Clause) → AreClausesPrintable names cs → clauses_meant number (spelled_items names ds cs) ≡ cs
    clauses_meant-spelled [] cs p = clauses-clauses cs p
    clauses_meant-spelled (d ∷ ds) cs p = clauses_meant-spelled ds cs p
