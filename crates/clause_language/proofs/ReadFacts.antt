-- How a file is read to its end.
use Rattle.std.proofs.Common.{◌≡◌, ℕ, Bool, true, false, ◌||◌, if◌then◌else◌, List, [], ◌∷◌, ◌++◌, refl, ap, sym, subst, ◌∙◌, Option, Result, Ok, Err, IfOk, IfErr, length}
use Rattle.std.specs.Str.{bytes_eq}
use Rattle.std.specs.Cmp.Lexicographic.{bytes_decides}
use Rattle.fpc_base.specs.Tokens.{is_one_of}
use Rattle.fpc_base.specs.declared.refusal.Refusal.{Refusal}
use Rattle.fpc_base.specs.declared.refusal.ParseRefusal.{ParseRefusal}
use Rattle.fpc_base.specs.declared.refusal.ParseRefusal.TheVariants as parse
use Rattle.fpc_base.specs.declared.refusal.TokenRefusal.{TokenRefusal}
use Rattle.fpc_base.specs.declared.refusal.TokenRefusal.TheVariants.{Refused, OutOfMemory}
use Rattle.fpc_base.specs.Refusal.{placed}
use Rattle.fpc_base.specs.Lexeme.{Lexeme, Item, says, fault}
use Rattle.fpc_terms.specs.Name.{AreDifferent, with_text}
use Rattle.polarised_formulas.specs.declared.logic.Logic.{Logic}
use Rattle.clause_language.specs.declared.certificate.Certificate.{Certificate}
use Rattle.clause_language.specs.declared.definition.Definition.{Definition}
use Rattle.clause_language.specs.declared.file.FileKind.{FileKind}
use Rattle.clause_language.specs.declared.file.FileKind.TheVariants as kind_of
use Rattle.clause_language.specs.declared.file.FileReader.{FileReader}
use Rattle.clause_language.specs.Naming.{IsDefinitionNamedBelow, IsCertificateNamedBelow}
use Rattle.clause_language.specs.FileMachine.{FileState, start, limited}
use Rattle.clause_language.specs.HoldingFile.{AreTaken, HoldsFile, TakesFile, IsDefinitionEnd, IsCertificateEnd}
use Rattle.clause_language.specs.ReadFile.{DefinitionIsRead, IsDefinitionRefusal, CertificateIsRead, IsCertificateRefusal, answered, read_items, FileIsRead, IsFileRefusal}
use Rattle.clause_language.proofs.FileReading.{definition-reads, definition-refuses, definition-unfinished, certificate-reads, certificate-refuses, certificate-unfinished}
use Rattle.clause_language.proofs.FileNames.{definition-below, certificate-below}

-- The reader holds the state behind which the items stand that are left.
pub record IsOn (kind : FileKind) (expected : Option Logic) (earlier : List (List ℕ)) (items rest : List Item) (names : List (List ℕ)) (r : FileReader) : Type 0 where
  pub state : FileState
  pub reached : read_items kind expected earlier start items ≡ read_items kind expected earlier state rest
  pub holds : HoldsFile names kind expected earlier state r

module _ (kind : FileKind) (expected : Option Logic) (earlier : List (List ℕ)) (items : List Item) where
  pub IsOn-start : (rest : List Item) (names : List (List ℕ)) (r : FileReader) → rest ≡ items → HoldsFile names kind expected earlier start r → IsOn kind expected earlier items rest names r
  IsOn-start rest names r e h = record { state = start; reached = ap (read_items kind expected earlier start) (sym e); holds = h }

  module _ (all : List Item) (names : List (List ℕ)) (r : FileReader) (on : IsOn kind expected earlier items all names r) where
    next-is : (c : Lexeme) (at : ℕ) (rest : List Item) → all ≡ says c at ∷ rest
        → read_items kind expected earlier start items ≡ answered at (limited kind expected earlier on.state c) (λ t. read_items kind expected earlier t rest)
    next-is c at rest e = on.reached ∙ ap (read_items kind expected earlier on.state) e

    pub IsOn-taken : (rest : List Item) (c : Lexeme) (at : ℕ) (more : List (List ℕ)) (new : FileReader) → all ≡ says c at ∷ rest
        → ((s : FileState) → HoldsFile names kind expected earlier s r → TakesFile (Ok tt) more kind expected earlier (limited kind expected earlier s c) new) → IsOn kind expected earlier items rest more new
    IsOn-taken rest c at more new e t =
        let g = t on.state on.holds in
        record {
          state = g.0;
          reached = next-is c at rest e ∙ ap (λ a. answered at a (λ u. read_items kind expected earlier u rest)) g.1.0;
          holds = g.1.1;
        }

    pub IsOn-refused : (rest : List Item) (c : Lexeme) (at : ℕ) (more : List (List ℕ)) (new : FileReader) (refusal : TokenRefusal) → all ≡ says c at ∷ rest
        → ((s : FileState) → HoldsFile names kind expected earlier s r → TakesFile (Err refusal) more kind expected earlier (limited kind expected earlier s c) new)
        → IsFileRefusal kind expected earlier items (placed refusal at)
    IsOn-refused rest c at more new (Refused code) e t =
        next-is c at rest e ∙ ap (λ a. answered at a (λ u. read_items kind expected earlier u rest)) (t on.state on.holds)
    IsOn-refused rest c at more new OutOfMemory e t = tt

    pub IsOn-fault : (rest : List Item) (refusal : Refusal) → all ≡ fault refusal ∷ rest → IsFileRefusal kind expected earlier items (parse.Refused refusal)
    IsOn-fault rest refusal e = on.reached ∙ ap (read_items kind expected earlier on.state) e

    pub IsOn-done : all ≡ [] → FileIsRead kind expected earlier items names r
    IsOn-done e = record { state = on.state; reached = on.reached ∙ ap (read_items kind expected earlier on.state) e; holds = on.holds }

-- a definition
module _ (expected : Option Logic) (items : List Item) (n : ℕ) (names : List (List ℕ)) where
  definition-ended : (s : FileState) (result : Result Definition ParseRefusal) → read_items kind_of.Definition expected [] start items ≡ Ok s → IsDefinitionEnd names n s result
      → IfOk result (DefinitionIsRead expected items names) × IfErr result (IsDefinitionRefusal expected items n)
  definition-ended s (Ok d) e h = (record { written = h.written; reads = definition-reads expected items s h.written e h.whole; meant = h.meant }, tt)
  definition-ended s (Err (parse.Refused r)) e h =
      (tt, subst (λ (q : Refusal). IsDefinitionRefusal expected items n (parse.Refused q)) (sym h.0) (definition-unfinished expected n items s e h.1))
  definition-ended s (Err parse.OutOfMemory) e h = (tt, tt)

  pub definition-end : (r : FileReader) (result : Result Definition ParseRefusal) → FileIsRead kind_of.Definition expected [] items names r
      → ((s : FileState) → HoldsFile names kind_of.Definition expected [] s r → IsDefinitionEnd names n s result)
      → IfOk result (DefinitionIsRead expected items names) × IfErr result (IsDefinitionRefusal expected items n)
  definition-end r result f h = definition-ended f.state result f.reached (h f.state f.holds)

  pub definition-refused : (refusal : ParseRefusal) → IsFileRefusal kind_of.Definition expected [] items refusal → IsDefinitionRefusal expected items n refusal
  definition-refused (parse.Refused r) h = definition-refuses expected n items r h
  definition-refused parse.OutOfMemory h = tt

  pub definition-named : (result : Result Definition ParseRefusal) → AreDifferent names → IfOk result (DefinitionIsRead expected items names) → IfOk result (IsDefinitionNamedBelow (length names))
  definition-named (Ok d) different h = definition-below names different h.written d h.meant
  definition-named (Err r) different h = tt

-- a certificate
module _ (expected : Option Logic) (earlier : List (List ℕ)) (items : List Item) (n : ℕ) (names : List (List ℕ)) where
  certificate-ended : (s : FileState) (result : Result Certificate ParseRefusal) → read_items kind_of.Certificate expected earlier start items ≡ Ok s → IsCertificateEnd names n s result
      → IfOk result (CertificateIsRead expected earlier items names) × IfErr result (IsCertificateRefusal expected earlier items n)
  certificate-ended s (Ok c) e h = (record { written = h.written; reads = certificate-reads expected earlier items s h.written e h.whole; meant = h.meant }, tt)
  certificate-ended s (Err (parse.Refused r)) e h =
      (tt, subst (λ (q : Refusal). IsCertificateRefusal expected earlier items n (parse.Refused q)) (sym h.0) (certificate-unfinished expected earlier n items s e h.1))
  certificate-ended s (Err parse.OutOfMemory) e h = (tt, tt)

  pub certificate-end : (r : FileReader) (result : Result Certificate ParseRefusal) → FileIsRead kind_of.Certificate expected earlier items names r
      → ((s : FileState) → HoldsFile names kind_of.Certificate expected earlier s r → IsCertificateEnd names n s result)
      → IfOk result (CertificateIsRead expected earlier items names) × IfErr result (IsCertificateRefusal expected earlier items n)
  certificate-end r result f h = certificate-ended f.state result f.reached (h f.state f.holds)

  pub certificate-refused : (refusal : ParseRefusal) → IsFileRefusal kind_of.Certificate expected earlier items refusal → IsCertificateRefusal expected earlier items n refusal
  certificate-refused (parse.Refused r) h = certificate-refuses expected earlier n items r h
  certificate-refused parse.OutOfMemory h = tt

  pub certificate-named : (result : Result Certificate ParseRefusal) → AreDifferent names → IfOk result (CertificateIsRead expected earlier items names) → IfOk result (IsCertificateNamedBelow (length names))
  certificate-named (Ok c) different h = certificate-below names different h.written c h.meant
  certificate-named (Err r) different h = tt

-- the names of earlier formulas, one after another
or-none : (b : Bool) → b || false ≡ b
or-none true = refl
or-none false = refl

or-regrouped : (a b c : Bool) → (a || b) || c ≡ a || (b || c)
or-regrouped true b c = refl
or-regrouped false b c = refl

one_of-snoc : (texts : List (List ℕ)) (x y : List ℕ) → is_one_of (texts ++ x ∷ []) y ≡ is_one_of texts y || bytes_eq y x
one_of-snoc [] x y = or-none (bytes_eq y x)
one_of-snoc (t ∷ ts) x y = ap (λ b. bytes_eq y t || b) (one_of-snoc ts x y) ∙ sym (or-regrouped (bytes_eq y t) (is_one_of ts y) (bytes_eq y x))

one_of-with : (table : List (List ℕ)) (x y : List ℕ) → is_one_of (with_text table x) y ≡ is_one_of table y || bytes_eq y x
one_of-with table x y = from (is_one_of table x) (bytes_eq y x) refl refl where
  from : (known same : Bool) → is_one_of table x ≡ known → bytes_eq y x ≡ same → is_one_of (if is_one_of table x then table else table ++ x ∷ []) y ≡ is_one_of table y || bytes_eq y x
  from false same e f = ap (λ b. is_one_of (if b then table else table ++ x ∷ []) y) e ∙ one_of-snoc table x y
  from true false e f = ap (λ b. is_one_of (if b then table else table ++ x ∷ []) y) e ∙ sym (or-none (is_one_of table y)) ∙ ap (λ b. is_one_of table y || b) (sym f)
  from true true e f =
      let same : y ≡ x = (bytes_decides y x).0 f in
      let there : is_one_of table y ≡ true = ap (is_one_of table) same ∙ e in
      ap (λ b. is_one_of (if b then table else table ++ x ∷ []) y) e ∙ there ∙ ap (λ b. b || bytes_eq y x) (sym there)

-- the table and the names still to come are all names
abbrev pub AreComing : List (List ℕ) → List (List ℕ) → List (List ℕ) → Type 0
AreComing all table coming = (x : List ℕ) → is_one_of table x || is_one_of coming x ≡ is_one_of all x

pub AreComing-next : (all table coming : List (List ℕ)) (text : List ℕ) → AreComing all table (text ∷ coming) → AreComing all (with_text table text) coming
AreComing-next all table coming text h x =
    ap (λ b. b || is_one_of coming x) (one_of-with table text x) ∙ or-regrouped (is_one_of table x) (bytes_eq x text) (is_one_of coming x) ∙ h x

pub AreComing-all : (all table : List (List ℕ)) → AreComing all table [] → AreTaken all table
AreComing-all all table h x = sym (or-none (is_one_of table x)) ∙ h x
