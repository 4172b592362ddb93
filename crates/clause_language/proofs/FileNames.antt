-- A definition or certificate that is read has its names in the table.
use Rattle.std.proofs.Common.{◌≡◌, ℕ, List, [], ◌∷◌, map, length, refl, ap, sym, ◌∙◌}
use Rattle.fpc_terms.specs.Name.{Agrees, AreDifferent, index_in}
use Rattle.fpc_terms.specs.Term.{Args, no_args, arg, terms_in}
use Rattle.fpc_terms.specs.Printing.{HaveNamesBelow}
use Rattle.fpc_terms.specs.ReadTerm.{numbered}
use Rattle.fpc_terms.specs.Written.{args_meant}
use Rattle.fpc_terms.proofs.NamesBelow.{number-below, args-below, term-below}
use Rattle.fpc_terms.proofs.ReadFacts.{Agrees-index_in}
use Rattle.polarised_formulas.specs.Written.{formula_meant}
use Rattle.polarised_formulas.proofs.FormulaNames.{told-names}
use Rattle.clause_language.specs.declared.atom.Atom.{Atom}
use Rattle.clause_language.specs.declared.certificate.Certificate.{Certificate}
use Rattle.clause_language.specs.declared.clause.Clause.{Clause}
use Rattle.clause_language.specs.declared.declaration.DeclaredFormula.{DeclaredFormula}
use Rattle.clause_language.specs.declared.definition.Definition.{Definition}
use Rattle.clause_language.specs.Written.{WrittenAtom, WrittenClause, WrittenItem, declaration, a_clause, WrittenDefinition, WrittenCertificate}
use Rattle.clause_language.specs.Meant.{atom_meant, clause_variables, clause_meant, clauses_meant, declaration_meant, declared_meant, definition_meant, certificate_meant, term_variables}
use Rattle.clause_language.specs.Naming.{AreTermsNamedBelow, IsAtomNamedBelow, AreAtomsNamedBelow, IsClauseNamedBelow, AreClausesNamedBelow, AreDeclaredNamedBelow, IsDefinitionNamedBelow, IsCertificateNamedBelow}

first-same : {A : Type 0} (x y : A) (xs ys : List A) → x ∷ xs ≡ y ∷ ys → x ≡ y
first-same x y xs ys e = cc

rest-same : {A : Type 0} (x y : A) (xs ys : List A) → x ∷ xs ≡ y ∷ ys → xs ≡ ys
rest-same x y xs ys e = cc

terms_in-once : (ts us : Args) → terms_in ts ≡ terms_in us → ts ≡ us
terms_in-once no_args no_args e = refl
terms_in-once (arg t ts) (arg u us) e =
    let f : t ≡ u = first-same t u (terms_in ts) (terms_in us) e in
    let g : ts ≡ us = terms_in-once ts us (rest-same t u (terms_in ts) (terms_in us) e) in
    ap (λ x. arg x ts) f ∙ ap (arg u) g
terms_in-once no_args (arg u us) e = cc
terms_in-once (arg t ts) no_args e = cc

terms-below : (n : ℕ) (ts : Args) → HaveNamesBelow n ts → AreTermsNamedBelow n (terms_in ts)
terms-below n no_args h = tt
terms-below n (arg t ts) h = (h.0, terms-below n ts h.1)

module _ (names : List (List ℕ)) (d : AreDifferent names) where
  -- what is meant is the same by each numbering that agrees with the table
  abbrev IsTold : {A : Type 0} → ((List ℕ → ℕ) → A) → Type 0
  IsTold meant = (number : List ℕ → ℕ) → Agrees number names → meant number ≡ meant (index_in names)

  module _ (numbers : List ℕ → ℕ) where
    pub atom-below : (w : WrittenAtom) → IsTold (λ number. atom_meant number numbers w) → IsAtomNamedBelow (length names) (atom_meant (index_in names) numbers w)
    atom-below w h = (
      number-below names w.text d (λ number a. ap (λ (x : Atom). x.name) (h number a)),
      terms-below (length names) (args_meant (index_in names) (numbered numbers) w.args)
          (args-below names d (numbered numbers) (λ x. tt) w.args
          (λ number a. terms_in-once (args_meant number (numbered numbers) w.args) (args_meant (index_in names) (numbered numbers) w.args) (ap (λ (x : Atom). x.arguments) (h number a)))),
    )

    atoms-below : (ws : List WrittenAtom) → IsTold (λ number. map (atom_meant number numbers) ws) → AreAtomsNamedBelow (length names) (map (atom_meant (index_in names) numbers) ws)
    atoms-below [] h = tt
    atoms-below (w ∷ ws) h = (
      atom-below w (λ number a. first-same (atom_meant number numbers w) (atom_meant (index_in names) numbers w) (map (atom_meant number numbers) ws) (map (atom_meant (index_in names) numbers) ws) (h number a)),
      atoms-below ws (λ number a. rest-same (atom_meant number numbers w) (atom_meant (index_in names) numbers w) (map (atom_meant number numbers) ws) (map (atom_meant (index_in names) numbers) ws) (h number a)),
    )

  clause-below : (w : WrittenClause) → IsTold (λ number. clause_meant number w) → IsClauseNamedBelow (length names) (clause_meant (index_in names) w)
  clause-below w h = (
    atom-below (index_in (clause_variables w)) w.head (λ number a. ap (λ (x : Clause). x.head) (h number a)),
    atoms-below (index_in (clause_variables w)) w.body (λ number a. ap (λ (x : Clause). x.body) (h number a)),
  )

  clauses-below : (items : List WrittenItem) → IsTold (λ number. clauses_meant number items) → AreClausesNamedBelow (length names) (clauses_meant (index_in names) items)
  clauses-below [] h = tt
  clauses-below (declaration x ps f ∷ items) h = clauses-below items h
  clauses-below (a_clause w ∷ items) h = (
    clause-below w (λ number a. first-same (clause_meant number w) (clause_meant (index_in names) w) (clauses_meant number items) (clauses_meant (index_in names) items) (h number a)),
    clauses-below items (λ number a. rest-same (clause_meant number w) (clause_meant (index_in names) w) (clauses_meant number items) (clauses_meant (index_in names) items) (h number a)),
  )

  declared-below : (items : List WrittenItem) → IsTold (λ number. declared_meant number items) → AreDeclaredNamedBelow (length names) (declared_meant (index_in names) items)
  declared-below [] h = tt
  declared-below (a_clause w ∷ items) h = declared-below items h
  declared-below (declaration x ps f ∷ items) h =
      let one : IsTold (λ number. declaration_meant number x ps f) =
      (λ number a. first-same (declaration_meant number x ps f) (declaration_meant (index_in names) x ps f) (declared_meant number items) (declared_meant (index_in names) items) (h number a)) in (
        (
          number-below names x d (λ number a. ap (λ (y : DeclaredFormula). y.name) (one number a)),
          told-names names ps d (formula_meant (index_in names) ps [] f) f (Agrees-index_in names d) (λ number a. sym (ap (λ (y : DeclaredFormula). y.formula) (one number a))),
        ),
        declared-below items (λ number a. rest-same (declaration_meant number x ps f) (declaration_meant (index_in names) x ps f) (declared_meant number items) (declared_meant (index_in names) items) (h number a)),
      )

  pub definition-below : (w : WrittenDefinition) (f : Definition) → ((number : List ℕ → ℕ) → Agrees number names → f ≡ definition_meant number w) → IsDefinitionNamedBelow (length names) f
  definition-below w f h =
      let own = Agrees-index_in names d in
      let told : IsTold (λ number. definition_meant number w) = (λ number a. sym (h number a) ∙ h (index_in names) own) in
      rw (h (index_in names) own) (
        declared-below w.items (λ number a. ap (λ (x : Definition). x.declared) (told number a)),
        clauses-below w.items (λ number a. ap (λ (x : Definition). x.clauses) (told number a)),
      )

  pub certificate-below : (w : WrittenCertificate) (f : Certificate) → ((number : List ℕ → ℕ) → Agrees number names → f ≡ certificate_meant number w) → IsCertificateNamedBelow (length names) f
  certificate-below w f h =
      let own = Agrees-index_in names d in
      let told : IsTold (λ number. certificate_meant number w) = (λ number a. sym (h number a) ∙ h (index_in names) own) in
      rw (h (index_in names) own) (
        declared-below w.items (λ number a. ap (λ (x : Certificate). x.declared) (told number a)),
        clauses-below w.items (λ number a. ap (λ (x : Certificate). x.clauses) (told number a)),
        term-below names d (numbered (index_in (term_variables w.term))) (λ x. tt) w.term (λ number a. ap (λ (x : Certificate). x.term) (told number a)),
      )
