-- A definition or a certificate that was read and is printed is read back.
use Rattle.std.proofs.Common.{◌≡◌, ℕ, ◌<◌, ◌^◌, List, [], ◌∷◌, ◌++◌, length, refl, ap, sym, subst, ◌∙◌, arith, append-nil, Option, false}
use Rattle.fpc_base.specs.declared.tokens.TokenKind.TheVariants.{Name}
use Rattle.fpc_base.specs.declared.tokens.lexeme.Sign.TheVariants as sign
use Rattle.fpc_base.specs.Lexeme.{Lexeme, a_sign, Item, items_of}
use Rattle.fpc_base.specs.Reading.{ReadsAll}
use Rattle.fpc_base.specs.Tokens.{HasForm}
use Rattle.fpc_terms.specs.Term.{Term, Each, Never}
use Rattle.fpc_terms.specs.Name.{Agrees, HasName, index_in}
use Rattle.fpc_terms.specs.ReadTerm.{numbered}
use Rattle.fpc_terms.specs.Written.{WrittenTerm, term_tokens, term_meant}
use Rattle.polarised_formulas.specs.declared.logic.Logic.{Logic}
use Rattle.polarised_formulas.specs.Written.{logic_word}
use Rattle.polarised_formulas.specs.Spoken.{Says}
use Rattle.polarised_formulas.specs.EachName.{EachName}
use Rattle.polarised_formulas.proofs.Small.{IsSmall}
use Rattle.clause_language.specs.declared.clause.Clause.{Clause}
use Rattle.clause_language.specs.declared.declaration.DeclaredFormula.{DeclaredFormula}
use Rattle.clause_language.specs.declared.file.FileKind.TheVariants as kind
use Rattle.clause_language.specs.Written.{WrittenItem, WrittenDefinition, WrittenCertificate, items_tokens, AreItemsOf, IsDefinition, IsCertificate}
use Rattle.clause_language.specs.Meant.{term_variables, declared_meant, clauses_meant, definition_meant, certificate_meant}
use Rattle.clause_language.specs.Limits.{declared_names, DefinitionLimits, CertificateLimits}
use Rattle.clause_language.specs.Text.{definition_text, certificate_text}
use Rattle.clause_language.specs.FileMachine.{FileState, start, at_item, finished, is_other, step}
use Rattle.clause_language.specs.Spelled.{spelled_term, spelled_items, spelled_definition, spelled_certificate}
use Rattle.clause_language.specs.Order.{variables_to, IsOrdered}
use Rattle.clause_language.specs.EachName.{EachNameOfItems}
use Rattle.clause_language.specs.Printable.{Below, AreNew, declared_texts, AreItemsPrintable, IsDefinitionPrintable, IsCertificatePrintable}
use Rattle.clause_language.specs.RoundTrip.{DefinitionTextIsRead, ReadDefinitionIsPrintable, DefinitionIsReadBack, CertificateTextIsRead, ReadCertificateIsPrintable, CertificateIsReadBack}
use Rattle.clause_language.proofs.FileLaws.{file_behind}
use Rattle.clause_language.proofs.FileLimits.{definition_taken-told, certificate_taken-told}
use Rattle.clause_language.proofs.FileReading.{definition-reads, certificate-reads}
use Rattle.clause_language.proofs.VariableOrder.{texts_to, variables_in-term, ordered-whole_term, numbered_texts, length-numbered_texts, below-term, texts_to-spelled, term_meant-spelled}
use Rattle.clause_language.proofs.Sizes.{AreItemsSmall}
use Rattle.clause_language.proofs.ClausePassing.{Passes}
use Rattle.clause_language.proofs.FilePassing.{pass-items, passed-items, pass-word, passed-word, pass-certificate_term, passed-certificate_term, read-passes, IsPassed, passes-read}
use Rattle.clause_language.proofs.MeantFacts.{named-term_meant, few-term_meant}
use Rattle.clause_language.proofs.ClauseMeant.{small-spelled_term, in_table-spelled_term}
use Rattle.clause_language.proofs.ItemsMeant.{printable-declared, printable-clauses, texts-declared, of_logic-spelled, small-spelled, known-spelled, names-spelled, declared_meant-spelled, clauses_meant-spelled}
use Rattle.clause_language.proofs.FileScan.{Says-definition_text, Says-certificate_text}
use Rattle.clause_language.proofs.NamesSaid.{EachNameOfItems-said, EachName-said_term}

-- what passed of the items of a file
pub record AreWithin (expected : Option Logic) (earlier : List (List ℕ)) (logic : Logic) (items : List WrittenItem) : Type 0 where
  pub is_expected : is_other expected logic ≡ false
  pub small : AreItemsSmall items
  pub new : AreNew earlier (declared_names items)

-- items within the limits that were read mean items within the limits
printable-items : (expected : Option Logic) (earlier names : List (List ℕ)) (number : List ℕ → ℕ) → Agrees number names → (logic : Logic) (items : List WrittenItem)
    → AreItemsOf logic items → AreWithin expected earlier logic items → EachNameOfItems (HasName names) items → EachNameOfItems (HasForm Name) items
    → AreItemsPrintable expected earlier names logic (declared_meant number items) (clauses_meant number items)
printable-items expected earlier names number agrees logic items of_logic within known formed = record {
  is_expected = within.is_expected;
  formulas = printable-declared names number agrees logic items of_logic within.small known formed;
  new = subst (AreNew earlier) (sym (texts-declared names number agrees items known)) within.new;
  rules = printable-clauses names number agrees items within.small known formed;
}

new-spelled : (names earlier : List (List ℕ)) (ds : List DeclaredFormula) (cs : List Clause) → AreNew earlier (declared_texts names ds)
    → AreNew (earlier ++ declared_names []) (declared_names (spelled_items names ds cs))
new-spelled names earlier ds cs h =
    subst (λ l. AreNew l (declared_names (spelled_items names ds cs))) (sym (append-nil earlier)) (subst (AreNew earlier) (sym (names-spelled names ds cs)) h)

-- DEFINITIONS
pub definition-text_read : DefinitionTextIsRead
definition-text_read expected names number d agrees p =
    let formulas = p.formulas in
    let rules = p.rules in
    let items : List WrittenItem = spelled_items names d.declared d.clauses in
    let goal : FileState = at_item d.logic items in
    let passes : Passes kind.Definition expected [] start (logic_word d.logic ∷ items_tokens d.logic items []) goal =
    pass-word kind.Definition expected [] goal d.logic (items_tokens d.logic items []) p.is_expected
    (pass-items kind.Definition expected [] goal d.logic items [] [] (of_logic-spelled names d.logic d.declared d.clauses formulas)
    (small-spelled names d.logic d.declared d.clauses formulas rules) (new-spelled names [] d.declared d.clauses p.new) refl) in
    record {
      written = spelled_definition names d;
      read = definition-reads expected (items_of (definition_text names d)) goal (spelled_definition names d)
          (read-passes kind.Definition expected [] (logic_word d.logic ∷ items_tokens d.logic items []) (items_of (definition_text names d)) start goal
          (Says-definition_text names d formulas rules) passes) refl;
      in_table = known-spelled names d.logic d.declared d.clauses formulas rules;
      meant = rw (declared_meant-spelled names number agrees d.logic d.declared d.clauses formulas, clauses_meant-spelled names number agrees d.declared d.clauses rules) refl;
    }

pub definition-passed : (expected : Option Logic) (items : List Item) (w : WrittenDefinition) → ReadsAll IsDefinition (DefinitionLimits expected) [] items w
    → IsPassed kind.Definition expected [] IsDefinition [] items w
definition-passed expected items w read =
    passes-read kind.Definition expected [] IsDefinition (DefinitionLimits expected)
    (λ before c k. (definition_taken-told expected before c (step kind.Definition (file_behind kind.Definition before) c)).1 (k, refl)) [] items w read

pub within-definition : (expected : Option Logic) (items : List Item) (w : WrittenDefinition) → IsPassed kind.Definition expected [] IsDefinition [] items w
    → AreWithin expected [] w.logic w.items
within-definition expected items w p =
    let word = passed-word kind.Definition expected [] p.state w.logic (items_tokens w.logic w.items [])
    (subst (λ l. Passes kind.Definition expected [] start l p.state) p.is_whole.spelled p.passes) in
    let passed = passed-items kind.Definition expected [] p.state w.logic w.items [] [] p.is_whole.of_logic word.1 in
    record { is_expected = word.0; small = passed.0; new = passed.1 }

printable-definition : (expected : Option Logic) (names : List (List ℕ)) (number : List ℕ → ℕ) (bytes : List ℕ) (w : WrittenDefinition) → Agrees number names
    → ReadsAll IsDefinition (DefinitionLimits expected) [] (items_of bytes) w → EachNameOfItems (HasName names) w.items → IsDefinitionPrintable expected names (definition_meant number w)
printable-definition expected names number bytes w agrees read known =
    let p = definition-passed expected (items_of bytes) w read in
    let said : Says (logic_word w.logic ∷ items_tokens w.logic w.items []) (items_of bytes) = subst (λ l. Says l (items_of bytes)) p.is_whole.spelled p.said in
    printable-items expected [] names number agrees w.logic w.items p.is_whole.of_logic (within-definition expected (items_of bytes) w p)
    known (EachNameOfItems-said bytes w.logic w.items [] said)

pub definition-printable : ReadDefinitionIsPrintable
definition-printable expected names number bytes d agrees r =
    subst (λ e. IsDefinitionPrintable expected names e) r.meant (printable-definition expected names number bytes r.written agrees r.read r.in_table)

-- a definition that was read is printed and read back
pub definition-read_back : DefinitionIsReadBack
definition-read_back expected names number bytes d agrees r =
    definition-text_read expected names number d agrees (definition-printable expected names number bytes d agrees r)

-- CERTIFICATES
pub term_variables-texts : (t : WrittenTerm) → term_variables t ≡ texts_to t []
term_variables-texts t = variables_in-term t [] []

term_variables-spelled : (names : List (List ℕ)) (t : Term) (n : ℕ) → IsOrdered t 0 → variables_to t 0 ≡ n → n < 2 ^ 64 → term_variables (spelled_term names t) ≡ numbered_texts n
term_variables-spelled names t n ordered counted lt =
    term_variables-texts (spelled_term names t) ∙ texts_to-spelled names t 0 ordered (omega (arith, counted, lt)) ∙ ap numbered_texts counted

pub certificate-text_read : CertificateTextIsRead
certificate-text_read expected earlier names number c agrees lt p =
    let formulas = p.items.formulas in
    let rules = p.items.rules in
    let counted = p.counted in
    let items : List WrittenItem = spelled_items names c.declared c.clauses in
    let t : WrittenTerm = spelled_term names c.term in
    let goal : FileState = finished c.logic items t in
    let last : List Lexeme = a_sign sign.Certificate ∷ term_tokens t (a_sign sign.Dot ∷ []) in
    let below : Each Never Never (Below c.variables) c.term = below-term c.variables c.term 0 p.ordered (omega (arith, counted)) in
    let passes : Passes kind.Certificate expected earlier start (logic_word c.logic ∷ items_tokens c.logic items last) goal =
    pass-word kind.Certificate expected earlier goal c.logic (items_tokens c.logic items last) p.items.is_expected
    (pass-items kind.Certificate expected earlier goal c.logic items [] last (of_logic-spelled names c.logic c.declared c.clauses formulas)
    (small-spelled names c.logic c.declared c.clauses formulas rules) (new-spelled names earlier c.declared c.clauses p.items.new)
    (pass-certificate_term expected earlier c.logic items t (small-spelled_term names c.term p.few))) in
    let vs : term_variables t ≡ numbered_texts c.variables = term_variables-spelled names c.term c.variables p.ordered counted lt in
    let the_term : term_meant number (numbered (index_in (numbered_texts c.variables))) t ≡ c.term =
    term_meant-spelled names number agrees c.variables c.term (omega (arith, lt)) below p.named in
    record {
      written = spelled_certificate names c;
      read = certificate-reads expected earlier (items_of (certificate_text names c)) goal (spelled_certificate names c)
          (read-passes kind.Certificate expected earlier (logic_word c.logic ∷ items_tokens c.logic items last) (items_of (certificate_text names c)) start goal
          (Says-certificate_text names c formulas rules (omega (arith, lt)) below p.named) passes) refl;
      in_table = known-spelled names c.logic c.declared c.clauses formulas rules;
      term_in_table = in_table-spelled_term names c.term 0 p.ordered p.named;
      meant = rw (declared_meant-spelled names number agrees c.logic c.declared c.clauses formulas, clauses_meant-spelled names number agrees c.declared c.clauses rules)
          (rw vs (rw (the_term, length-numbered_texts c.variables) refl));
    }

-- what passed of a certificate
pub record IsWithin (expected : Option Logic) (earlier : List (List ℕ)) (w : WrittenCertificate) : Type 0 where
  pub items : AreWithin expected earlier w.logic w.items
  pub small : IsSmall w.term

pub certificate-passed : (expected : Option Logic) (earlier : List (List ℕ)) (items : List Item) (w : WrittenCertificate)
    → ReadsAll IsCertificate (CertificateLimits expected earlier) [] items w → IsPassed kind.Certificate expected earlier IsCertificate [] items w
certificate-passed expected earlier items w read =
    passes-read kind.Certificate expected earlier IsCertificate (CertificateLimits expected earlier)
    (λ before c k. (certificate_taken-told expected earlier before c (step kind.Certificate (file_behind kind.Certificate before) c)).1 (k, refl)) [] items w read

pub within-certificate : (expected : Option Logic) (earlier : List (List ℕ)) (items : List Item) (w : WrittenCertificate)
    → IsPassed kind.Certificate expected earlier IsCertificate [] items w → IsWithin expected earlier w
within-certificate expected earlier items w p =
    let last : List Lexeme = a_sign sign.Certificate ∷ term_tokens w.term (a_sign sign.Dot ∷ []) in
    let word = passed-word kind.Certificate expected earlier p.state w.logic (items_tokens w.logic w.items last)
    (subst (λ l. Passes kind.Certificate expected earlier start l p.state) p.is_whole.spelled p.passes) in
    let passed = passed-items kind.Certificate expected earlier p.state w.logic w.items [] last p.is_whole.of_logic word.1 in
    record {
      items = record { is_expected = word.0; small = passed.0; new = subst (λ l. AreNew l (declared_names w.items)) (append-nil earlier) passed.1 };
      small = passed-certificate_term expected earlier p.state w.logic w.items w.term passed.2;
    }

printable-certificate : (expected : Option Logic) (earlier names : List (List ℕ)) (number : List ℕ → ℕ) (bytes : List ℕ) (w : WrittenCertificate) → Agrees number names
    → ReadsAll IsCertificate (CertificateLimits expected earlier) [] (items_of bytes) w → EachNameOfItems (HasName names) w.items → EachName (HasName names) w.term
    → IsCertificatePrintable expected earlier names (certificate_meant number w)
printable-certificate expected earlier names number bytes w agrees read known term_known =
    let last : List Lexeme = a_sign sign.Certificate ∷ term_tokens w.term (a_sign sign.Dot ∷ []) in
    let p = certificate-passed expected earlier (items_of bytes) w read in
    let said : Says (logic_word w.logic ∷ items_tokens w.logic w.items last) (items_of bytes) = subst (λ l. Says l (items_of bytes)) p.is_whole.spelled p.said in
    let within = within-certificate expected earlier (items_of bytes) w p in
    let leaf : List ℕ → Term = numbered (index_in (term_variables w.term)) in
    let vs : term_variables w.term ≡ texts_to w.term [] = term_variables-texts w.term in
    let ordered : IsOrdered (term_meant number leaf w.term) 0 × (variables_to (term_meant number leaf w.term) 0 ≡ length (term_variables w.term)) =
    subst (λ us. IsOrdered (term_meant number (numbered (index_in us)) w.term) 0 × (variables_to (term_meant number (numbered (index_in us)) w.term) 0 ≡ length us)) (sym vs)
    (ordered-whole_term number w.term) in
    record {
      items = printable-items expected earlier names number agrees w.logic w.items p.is_whole.of_logic within.items known (EachNameOfItems-said bytes w.logic w.items last said);
      named = named-term_meant names number agrees leaf (λ x. tt) w.term term_known (EachName-said_term bytes w.logic w.items w.term (a_sign sign.Dot ∷ []) said);
      few = few-term_meant number leaf (λ x. tt) w.term within.small;
      ordered = ordered.0;
      counted = ordered.1;
    }

pub certificate-printable : ReadCertificateIsPrintable
certificate-printable expected earlier names number bytes c agrees r =
    subst (λ e. IsCertificatePrintable expected earlier names e) r.meant
    (printable-certificate expected earlier names number bytes r.written agrees r.read r.in_table r.term_in_table)

-- a certificate that was read is printed and read back
pub certificate-read_back : CertificateIsReadBack
certificate-read_back expected earlier names number bytes c agrees lt r =
    certificate-text_read expected earlier names number c agrees lt (certificate-printable expected earlier names number bytes c agrees r)
