-- What the machine along items tells of reading and refusing a definition or certificate file.
use Rattle.std.proofs.Common.{◌≡◌, ◌↔◌, ℕ, List, [], ◌∷◌, ◌++◌, refl, ap, sym, subst, ◌∙◌, Option, Some, None, Result, Ok, Err}
use Rattle.fpc_base.specs.declared.refusal.Code.{Code}
use Rattle.fpc_base.specs.declared.refusal.Code.TheVariants.{Unexpected}
use Rattle.fpc_base.specs.declared.refusal.Refusal.{Refusal}
use Rattle.fpc_base.specs.Lexeme.{Lexeme, Item, says, fault}
use Rattle.fpc_base.specs.Reading.{IsTaken, IsRefused, ReadsAll, RefusesAll}
use Rattle.fpc_base.specs.Reading as reading
use Rattle.polarised_formulas.specs.declared.logic.Logic.{Logic}
use Rattle.fpc_base.proofs.ReadingLaws.{all-not_both, all-once, all-refused_once}
use Rattle.clause_language.specs.declared.file.FileKind.{FileKind}
use Rattle.clause_language.specs.declared.file.FileKind.TheVariants.{Definition, Certificate}
use Rattle.clause_language.specs.Written.{WrittenDefinition, WrittenCertificate, IsDefinition, IsCertificate}
use Rattle.clause_language.specs.Limits.{DefinitionLimits, CertificateLimits}
use Rattle.clause_language.specs.FileMachine.{FileState, start, step, limited, definition_of, certificate_of}
use Rattle.clause_language.specs.ReadFile.{answered, read_items}
use Rattle.clause_language.proofs.FileLaws.{file_behind, file_behind-step, definition-told, certificate-told, definition-once, certificate-once}
use Rattle.clause_language.proofs.FileLimits.{definition_limits-once, certificate_limits-once, definition_refused-told, definition_taken-told, certificate_refused-told, certificate_taken-told}

-- a refusal at a place
abbrev pub refusal : Code → ℕ → Refusal
refusal code at = record { code = code; at = at }

-- what follows from the answer about a token at a place
abbrev pub read_on : FileKind → Option Logic → List (List ℕ) → (at : ℕ) → Result FileState Code → List Item → Result FileState Refusal
read_on kind expected earlier at a items = answered at a (λ t. read_items kind expected earlier t items)

-- what the machine answers about items that are refused in a source of n bytes: that refusal, or a state in which the file isn't whole
abbrev pub IsRefusedBy : {W : Type 0} → (FileState → Option W) → ℕ → Result FileState Refusal → Refusal → Type 0
IsRefusedBy whole_of n (Ok s) r = (whole_of s ≡ None) × (r ≡ refusal Unexpected n)
IsRefusedBy whole_of n (Err f) r = f ≡ r

-- for a kind whose tokens are refused and taken as the machine says, and whose whole files the state tells
module _ {W : Type 0} (kind : FileKind) (expected : Option Logic) (earlier : List (List ℕ)) (IsWhole : List Lexeme → W → Type 0) (Limits : List Lexeme → Lexeme → Code → Type 0)
    (whole_of : FileState → Option W)
    (whole-told : (tokens : List Lexeme) (w : W) → whole_of (file_behind kind tokens) ≡ Some w ↔ IsWhole tokens w)
    (refused-told : (before : List Lexeme) (c : Lexeme) (code : Code) → limited kind expected earlier (file_behind kind before) c ≡ Err code ↔ IsRefused IsWhole Limits before c code)
    (taken-told : (before : List Lexeme) (c : Lexeme) (t : FileState) → limited kind expected earlier (file_behind kind before) c ≡ Ok t
    ↔ (IsTaken IsWhole Limits before c × (step kind (file_behind kind before) c ≡ t))) where
  -- behind the tokens before
  reads-answer : (items : List Item) (before : List Lexeme) (c : Lexeme) (at : ℕ) (a : Result FileState Code) (t : FileState) (w : W)
      → ((u : FileState) → file_behind kind (before ++ c ∷ []) ≡ u → read_items kind expected earlier u items ≡ Ok t → ReadsAll IsWhole Limits (before ++ c ∷ []) items w)
      → limited kind expected earlier (file_behind kind before) c ≡ a → read_on kind expected earlier at a items ≡ Ok t
      → ReadsAll IsWhole Limits before (says c at ∷ items) w
  reads-answer items before c at (Ok u) t w next r e =
      let k = (taken-told before c u).0 r in reading.ReadsAll.later k.0 (next u (file_behind-step kind before c ∙ k.1) e)
  reads-answer items before c at (Err code) t w next r e = cc

  reads-behind : (items : List Item) (before : List Lexeme) (s t : FileState) (w : W) → file_behind kind before ≡ s → read_items kind expected earlier s items ≡ Ok t
      → whole_of t ≡ Some w → ReadsAll IsWhole Limits before items w
  reads-behind [] before s t w r e h = let same : s ≡ t = cc in reading.ReadsAll.at_end ((whole-told before w).0 (ap whole_of (r ∙ same) ∙ h))
  reads-behind (says c at ∷ items) before s t w r e h =
      reads-answer items before c at (limited kind expected earlier s c) t w (λ u q f. reads-behind items (before ++ c ∷ []) u t w q f h)
      (ap (λ u. limited kind expected earlier u c) r) e
  reads-behind (fault f ∷ items) before s t w r e h = cc

  refuses-answer : (n : ℕ) (items : List Item) (before : List Lexeme) (c : Lexeme) (at : ℕ) (a : Result FileState Code) (f : Refusal)
      → ((u : FileState) → file_behind kind (before ++ c ∷ []) ≡ u → read_items kind expected earlier u items ≡ Err f → RefusesAll IsWhole Limits n (before ++ c ∷ []) items f)
      → limited kind expected earlier (file_behind kind before) c ≡ a → read_on kind expected earlier at a items ≡ Err f
      → RefusesAll IsWhole Limits n before (says c at ∷ items) f
  refuses-answer n items before c at (Ok u) f next r e =
      let k = (taken-told before c u).0 r in reading.RefusesAll.later k.0 (next u (file_behind-step kind before c ∙ k.1) e)
  refuses-answer n items before c at (Err code) f next r e =
      let same : refusal code at ≡ f = cc in
      subst (RefusesAll IsWhole Limits n before (says c at ∷ items)) same (reading.RefusesAll.here ((refused-told before c code).0 r))

  refuses-behind : (n : ℕ) (items : List Item) (before : List Lexeme) (s : FileState) (f : Refusal) → file_behind kind before ≡ s
      → read_items kind expected earlier s items ≡ Err f → RefusesAll IsWhole Limits n before items f
  refuses-behind n [] before s f r e = cc
  refuses-behind n (says c at ∷ items) before s f r e =
      refuses-answer n items before c at (limited kind expected earlier s c) f (λ u q g. refuses-behind n items (before ++ c ∷ []) u f q g)
      (ap (λ u. limited kind expected earlier u c) r) e
  refuses-behind n (fault g ∷ items) before s f r e =
      let same : g ≡ f = cc in subst (RefusesAll IsWhole Limits n before (fault g ∷ items)) same reading.RefusesAll.bad

  unfinished-answer : (n : ℕ) (items : List Item) (before : List Lexeme) (c : Lexeme) (at : ℕ) (a : Result FileState Code) (t : FileState)
      → ((u : FileState) → file_behind kind (before ++ c ∷ []) ≡ u → read_items kind expected earlier u items ≡ Ok t
      → RefusesAll IsWhole Limits n (before ++ c ∷ []) items (refusal Unexpected n))
      → limited kind expected earlier (file_behind kind before) c ≡ a → read_on kind expected earlier at a items ≡ Ok t
      → RefusesAll IsWhole Limits n before (says c at ∷ items) (refusal Unexpected n)
  unfinished-answer n items before c at (Ok u) t next r e =
      let k = (taken-told before c u).0 r in reading.RefusesAll.later k.0 (next u (file_behind-step kind before c ∙ k.1) e)
  unfinished-answer n items before c at (Err code) t next r e = cc

  unfinished-here : (before : List Lexeme) (t : FileState) → file_behind kind before ≡ t → whole_of t ≡ None → (w : W) → IsWhole before w → ⊥
  unfinished-here before t r h w i = let k : None ≡ Some w = sym (ap whole_of r ∙ h) ∙ (whole-told before w).1 i in cc

  unfinished-behind : (n : ℕ) (items : List Item) (before : List Lexeme) (s t : FileState) → file_behind kind before ≡ s
      → read_items kind expected earlier s items ≡ Ok t → whole_of t ≡ None → RefusesAll IsWhole Limits n before items (refusal Unexpected n)
  unfinished-behind n [] before s t r e h = let same : s ≡ t = cc in reading.RefusesAll.at_end (unfinished-here before t (r ∙ same) h)
  unfinished-behind n (says c at ∷ items) before s t r e h =
      unfinished-answer n items before c at (limited kind expected earlier s c) t (λ u q f. unfinished-behind n items (before ++ c ∷ []) u t q f h)
      (ap (λ u. limited kind expected earlier u c) r) e
  unfinished-behind n (fault g ∷ items) before s t r e h = cc

  -- and back
  reads-back : {before : List Lexeme} {items : List Item} {w : W} → ReadsAll IsWhole Limits before items w
      → (t : FileState) × ((read_items kind expected earlier (file_behind kind before) items ≡ Ok t) × (whole_of t ≡ Some w))
  reads-back {before = before} (reading.ReadsAll.at_end {w = w} h) = (file_behind kind before, (refl, (whole-told before w).1 h))
  reads-back {before = before} (reading.ReadsAll.later {c = c} {at = at} {items = items} k h) =
      let b = reads-back h in (
        b.0,
        (
          ap (λ a. read_on kind expected earlier at a items) ((taken-told before c (step kind (file_behind kind before) c)).1 (k, refl))
              ∙ ap (λ s. read_items kind expected earlier s items) (sym (file_behind-step kind before c)) ∙ b.1.0,
          b.1.1,
        ),
      )

  none-whole : (before : List Lexeme) (o : Option W) → whole_of (file_behind kind before) ≡ o → ((w : W) → IsWhole before w → ⊥) → o ≡ None
  none-whole before None e h = refl
  none-whole before (Some w) e h = absurd (h w ((whole-told before w).0 e))

  refuses-back : {n : ℕ} {before : List Lexeme} {items : List Item} {r : Refusal} → RefusesAll IsWhole Limits n before items r
      → IsRefusedBy whole_of n (read_items kind expected earlier (file_behind kind before) items) r
  refuses-back {n = n} (reading.RefusesAll.here {before = before} {c = c} {at = at} {items = items} {code = code} k) =
      subst (λ a. IsRefusedBy whole_of n a (refusal code at)) (sym (ap (λ a. read_on kind expected earlier at a items) ((refused-told before c code).1 k))) refl
  refuses-back reading.RefusesAll.bad = refl
  refuses-back (reading.RefusesAll.at_end {before = before} h) = (none-whole before (whole_of (file_behind kind before)) refl h, refl)
  refuses-back {n = n} (reading.RefusesAll.later {before = before} {c = c} {at = at} {items = items} {r = r} k h) =
      subst (λ a. IsRefusedBy whole_of n a r)
      (ap (λ s. read_items kind expected earlier s items) (file_behind-step kind before c)
      ∙ sym (ap (λ a. read_on kind expected earlier at a items) ((taken-told before c (step kind (file_behind kind before) c)).1 (k, refl))))
      (refuses-back h)

-- a definition is read where the machine comes to the end of the items with a definition whole
pub definition-reads : (expected : Option Logic) (items : List Item) (s : FileState) (w : WrittenDefinition)
    → read_items Definition expected [] start items ≡ Ok s → definition_of s ≡ Some w → ReadsAll IsDefinition (DefinitionLimits expected) [] items w
definition-reads expected items s w e h =
    reads-behind Definition expected [] IsDefinition (DefinitionLimits expected) definition_of definition-told (definition_refused-told expected)
    (definition_taken-told expected) items [] start s w refl e h

-- it is refused where the machine refuses an item, and where it comes to the end with no definition whole
pub definition-refuses : (expected : Option Logic) (n : ℕ) (items : List Item) (r : Refusal)
    → read_items Definition expected [] start items ≡ Err r → RefusesAll IsDefinition (DefinitionLimits expected) n [] items r
definition-refuses expected n items r e =
    refuses-behind Definition expected [] IsDefinition (DefinitionLimits expected) definition_of definition-told (definition_refused-told expected)
    (definition_taken-told expected) n items [] start r refl e

pub definition-unfinished : (expected : Option Logic) (n : ℕ) (items : List Item) (s : FileState)
    → read_items Definition expected [] start items ≡ Ok s → definition_of s ≡ None
    → RefusesAll IsDefinition (DefinitionLimits expected) n [] items (record { code = Unexpected; at = n })
definition-unfinished expected n items s e h =
    unfinished-behind Definition expected [] IsDefinition (DefinitionLimits expected) definition_of definition-told (definition_refused-told expected)
    (definition_taken-told expected) n items [] start s refl e h

-- and back
pub definition-reads-back : (expected : Option Logic) (items : List Item) (w : WrittenDefinition) → ReadsAll IsDefinition (DefinitionLimits expected) [] items w
    → (s : FileState) × ((read_items Definition expected [] start items ≡ Ok s) × (definition_of s ≡ Some w))
definition-reads-back expected items w h =
    reads-back Definition expected [] IsDefinition (DefinitionLimits expected) definition_of definition-told (definition_refused-told expected)
    (definition_taken-told expected) h

pub definition-refuses-back : (expected : Option Logic) (n : ℕ) (items : List Item) (r : Refusal)
    → RefusesAll IsDefinition (DefinitionLimits expected) n [] items r → IsRefusedBy definition_of n (read_items Definition expected [] start items) r
definition-refuses-back expected n items r h =
    refuses-back Definition expected [] IsDefinition (DefinitionLimits expected) definition_of definition-told (definition_refused-told expected)
    (definition_taken-told expected) h

-- a file of a definition is read as one definition, or refused for one reason at one place, and not both
pub definition-read_once : (expected : Option Logic) (items : List Item) (v w : WrittenDefinition)
    → ReadsAll IsDefinition (DefinitionLimits expected) [] items v → ReadsAll IsDefinition (DefinitionLimits expected) [] items w → v ≡ w
definition-read_once expected items v w h k = all-once IsDefinition (DefinitionLimits expected) definition-once (definition_limits-once expected) h k

pub definition-refused_once : (expected : Option Logic) (n : ℕ) (items : List Item) (r s : Refusal)
    → RefusesAll IsDefinition (DefinitionLimits expected) n [] items r → RefusesAll IsDefinition (DefinitionLimits expected) n [] items s → r ≡ s
definition-refused_once expected n items r s h k =
    all-refused_once IsDefinition (DefinitionLimits expected) definition-once (definition_limits-once expected) h k

pub definition-not_both : (expected : Option Logic) (n : ℕ) (items : List Item) (w : WrittenDefinition) (r : Refusal)
    → ReadsAll IsDefinition (DefinitionLimits expected) [] items w → RefusesAll IsDefinition (DefinitionLimits expected) n [] items r → ⊥
definition-not_both expected n items w r h k = all-not_both IsDefinition (DefinitionLimits expected) h k

-- a certificate is read where the machine comes to the end of the items with a certificate whole
pub certificate-reads : (expected : Option Logic) (earlier : List (List ℕ)) (items : List Item) (s : FileState) (w : WrittenCertificate)
    → read_items Certificate expected earlier start items ≡ Ok s → certificate_of s ≡ Some w → ReadsAll IsCertificate (CertificateLimits expected earlier) [] items w
certificate-reads expected earlier items s w e h =
    reads-behind Certificate expected earlier IsCertificate (CertificateLimits expected earlier) certificate_of certificate-told (certificate_refused-told expected earlier)
    (certificate_taken-told expected earlier) items [] start s w refl e h

-- it is refused where the machine refuses an item, and where it comes to the end with no certificate whole
pub certificate-refuses : (expected : Option Logic) (earlier : List (List ℕ)) (n : ℕ) (items : List Item) (r : Refusal)
    → read_items Certificate expected earlier start items ≡ Err r → RefusesAll IsCertificate (CertificateLimits expected earlier) n [] items r
certificate-refuses expected earlier n items r e =
    refuses-behind Certificate expected earlier IsCertificate (CertificateLimits expected earlier) certificate_of certificate-told (certificate_refused-told expected earlier)
    (certificate_taken-told expected earlier) n items [] start r refl e

pub certificate-unfinished : (expected : Option Logic) (earlier : List (List ℕ)) (n : ℕ) (items : List Item) (s : FileState)
    → read_items Certificate expected earlier start items ≡ Ok s → certificate_of s ≡ None
    → RefusesAll IsCertificate (CertificateLimits expected earlier) n [] items (record { code = Unexpected; at = n })
certificate-unfinished expected earlier n items s e h =
    unfinished-behind Certificate expected earlier IsCertificate (CertificateLimits expected earlier) certificate_of certificate-told (certificate_refused-told expected earlier)
    (certificate_taken-told expected earlier) n items [] start s refl e h

-- and back
pub certificate-reads-back : (expected : Option Logic) (earlier : List (List ℕ)) (items : List Item) (w : WrittenCertificate)
    → ReadsAll IsCertificate (CertificateLimits expected earlier) [] items w
    → (s : FileState) × ((read_items Certificate expected earlier start items ≡ Ok s) × (certificate_of s ≡ Some w))
certificate-reads-back expected earlier items w h =
    reads-back Certificate expected earlier IsCertificate (CertificateLimits expected earlier) certificate_of certificate-told (certificate_refused-told expected earlier)
    (certificate_taken-told expected earlier) h

pub certificate-refuses-back : (expected : Option Logic) (earlier : List (List ℕ)) (n : ℕ) (items : List Item) (r : Refusal)
    → RefusesAll IsCertificate (CertificateLimits expected earlier) n [] items r → IsRefusedBy certificate_of n (read_items Certificate expected earlier start items) r
certificate-refuses-back expected earlier n items r h =
    refuses-back Certificate expected earlier IsCertificate (CertificateLimits expected earlier) certificate_of certificate-told (certificate_refused-told expected earlier)
    (certificate_taken-told expected earlier) h

-- a file of a certificate is read as one certificate, or refused for one reason at one place, and not both
pub certificate-read_once : (expected : Option Logic) (earlier : List (List ℕ)) (items : List Item) (v w : WrittenCertificate)
    → ReadsAll IsCertificate (CertificateLimits expected earlier) [] items v → ReadsAll IsCertificate (CertificateLimits expected earlier) [] items w → v ≡ w
certificate-read_once expected earlier items v w h k = all-once IsCertificate (CertificateLimits expected earlier) certificate-once (certificate_limits-once expected earlier) h k

pub certificate-refused_once : (expected : Option Logic) (earlier : List (List ℕ)) (n : ℕ) (items : List Item) (r s : Refusal)
    → RefusesAll IsCertificate (CertificateLimits expected earlier) n [] items r → RefusesAll IsCertificate (CertificateLimits expected earlier) n [] items s → r ≡ s
certificate-refused_once expected earlier n items r s h k =
    all-refused_once IsCertificate (CertificateLimits expected earlier) certificate-once (certificate_limits-once expected earlier) h k

pub certificate-not_both : (expected : Option Logic) (earlier : List (List ℕ)) (n : ℕ) (items : List Item) (w : WrittenCertificate) (r : Refusal)
    → ReadsAll IsCertificate (CertificateLimits expected earlier) [] items w → RefusesAll IsCertificate (CertificateLimits expected earlier) n [] items r → ⊥
certificate-not_both expected earlier n items w r h k = all-not_both IsCertificate (CertificateLimits expected earlier) h k
