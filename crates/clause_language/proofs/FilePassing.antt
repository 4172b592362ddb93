-- The limits let the machine of files pass the tokens of a file exactly where its items are small and its declared names are new.
use Rattle.std.proofs.Common.{◌≡◌, ℕ, Bool, true, false, if◌then◌else◌, List, [], ◌∷◌, ◌++◌, refl, ap, sym, subst, ◌∙◌, append_assoc, append-nil, Option, Ok, Err}
use Rattle.fpc_base.specs.declared.refusal.Code.TheVariants.{WrongCalculus}
use Rattle.fpc_base.specs.declared.tokens.lexeme.Sign.TheVariants as sign
use Rattle.fpc_base.specs.declared.refusal.Code.{Code}
use Rattle.fpc_base.specs.Lexeme.{Lexeme, a_sign, Item, says}
use Rattle.fpc_base.specs.Reading.{IsTaken, ReadsAll}
use Rattle.fpc_base.specs.Reading as reading
use Rattle.fpc_terms.specs.Written.{WrittenTerm, term_tokens}
use Rattle.polarised_formulas.specs.declared.logic.Logic.{Logic}
use Rattle.polarised_formulas.specs.declared.logic.Logic.TheVariants.{Lkf, Ljf}
use Rattle.polarised_formulas.specs.Written.{logic_word}
use Rattle.polarised_formulas.specs.Spoken.{Says}
use Rattle.polarised_formulas.proofs.Small.{IsSmall}
use Rattle.clause_language.specs.declared.file.FileKind.{FileKind}
use Rattle.clause_language.specs.declared.file.FileKind.TheVariants.{Certificate}
use Rattle.clause_language.specs.Written.{WrittenItem, declaration, a_clause, items_tokens, AreItemsOf}
use Rattle.clause_language.specs.Limits.{declared_names}
use Rattle.clause_language.specs.FileMachine.{FileState, start, at_item, finished, is_other, step, limited}
use Rattle.clause_language.specs.ReadFile.{answered, read_items}
use Rattle.clause_language.specs.Printable.{AreNew}
use Rattle.clause_language.proofs.FileLaws.{declared_names-append, file_behind, file_behind-step}
use Rattle.clause_language.proofs.Sizes.{AreItemsSmall}
use Rattle.clause_language.proofs.ClausePassing.{Passes, pass-clause, passed-clause, pass-last_term, passed-last_term}
use Rattle.clause_language.proofs.DeclarationPassing.{pass-declaration, passed-declaration}

-- the names of earlier and declared formulas, and of one item more
names-behind : (earlier : List (List ℕ)) (done : List WrittenItem) (i : WrittenItem)
    → earlier ++ declared_names (done ++ i ∷ []) ≡ (earlier ++ declared_names done) ++ declared_names (i ∷ [])
names-behind earlier done i = ap (λ l. earlier ++ l) (declared_names-append done (i ∷ [])) ∙ sym (append_assoc earlier (declared_names done) (declared_names (i ∷ [])))

module _ (kind : FileKind) (expected : Option Logic) (earlier : List (List ℕ)) (goal : FileState) (logic : Logic) where
  abbrev To : FileState → List Lexeme → Type 0
  To s cs = Passes kind expected earlier s cs goal

  -- items within the limits pass
  pub pass-items : (items done : List WrittenItem) (rest : List Lexeme) → AreItemsOf logic items → AreItemsSmall items
      → AreNew (earlier ++ declared_names done) (declared_names items) → To (at_item logic (done ++ items)) rest → To (at_item logic done) (items_tokens logic items rest)
  pass-items [] done rest of_logic small new h = subst (λ l. To (at_item logic l) rest) (append-nil done) h
  pass-items (declaration x ps w ∷ items) done rest of_logic small new h =
      let i : WrittenItem = declaration x ps w in
      pass-declaration kind expected earlier goal logic done x ps w (items_tokens logic items rest) of_logic.0 small.0 new.0
      (pass-items items (done ++ i ∷ []) rest of_logic.1 small.1 (subst (λ l. AreNew l (declared_names items)) (sym (names-behind earlier done i)) new.1)
      (subst (λ l. To (at_item logic l) rest) (sym (append_assoc done (i ∷ []) items)) h))
  pass-items (a_clause c ∷ items) done rest of_logic small new h =
      let i : WrittenItem = a_clause c in
      pass-clause kind expected earlier goal logic done c (items_tokens logic items rest) small.0.0 small.0.1
      (pass-items items (done ++ i ∷ []) rest of_logic.1 small.1
      (subst (λ l. AreNew l (declared_names items)) (sym (names-behind earlier done i ∙ append-nil (earlier ++ declared_names done))) new)
      (subst (λ l. To (at_item logic l) rest) (sym (append_assoc done (i ∷ []) items)) h))

  -- items that pass are within the limits
  pub passed-items : (items done : List WrittenItem) (rest : List Lexeme) → AreItemsOf logic items → To (at_item logic done) (items_tokens logic items rest)
      → AreItemsSmall items × AreNew (earlier ++ declared_names done) (declared_names items) × To (at_item logic (done ++ items)) rest
  passed-items [] done rest of_logic h = (tt, tt, subst (λ l. To (at_item logic l) rest) (sym (append-nil done)) h)
  passed-items (declaration x ps w ∷ items) done rest of_logic h =
      let i : WrittenItem = declaration x ps w in
      let first = passed-declaration kind expected earlier goal logic done x ps w (items_tokens logic items rest) of_logic.0 h in
      let later = passed-items items (done ++ i ∷ []) rest of_logic.1 first.2 in (
        (first.0, later.0),
        (first.1, subst (λ l. AreNew l (declared_names items)) (names-behind earlier done i) later.1),
        subst (λ l. To (at_item logic l) rest) (append_assoc done (i ∷ []) items) later.2,
      )
  passed-items (a_clause c ∷ items) done rest of_logic h =
      let i : WrittenItem = a_clause c in
      let first = passed-clause kind expected earlier goal logic done c (items_tokens logic items rest) h in
      let later = passed-items items (done ++ i ∷ []) rest of_logic.1 first.2 in (
        ((first.0, first.1), later.0),
        subst (λ l. AreNew l (declared_names items)) (names-behind earlier done i ∙ append-nil (earlier ++ declared_names done)) later.1,
        subst (λ l. To (at_item logic l) rest) (append_assoc done (i ∷ []) items) later.2,
      )

-- the word of the logic
module _ (kind : FileKind) (expected : Option Logic) (earlier : List (List ℕ)) (goal : FileState) where
  word-tested : (other : Bool) (logic : Logic) (u : FileState) → (if other then Err WrongCalculus else Ok (at_item logic [])) ≡ Ok u → other ≡ false
  word-tested true logic u h = cc
  word-tested false logic u h = refl

  pub pass-word : (logic : Logic) (rest : List Lexeme) → is_other expected logic ≡ false → Passes kind expected earlier (at_item logic []) rest goal
      → Passes kind expected earlier start (logic_word logic ∷ rest) goal
  pass-word Lkf rest other h = (rw other refl, h)
  pass-word Ljf rest other h = (rw other refl, h)

  pub passed-word : (logic : Logic) (rest : List Lexeme) → Passes kind expected earlier start (logic_word logic ∷ rest) goal
      → (is_other expected logic ≡ false) × Passes kind expected earlier (at_item logic []) rest goal
  passed-word Lkf rest h = (word-tested (is_other expected Lkf) Lkf (at_item Lkf []) h.0, h.1)
  passed-word Ljf rest h = (word-tested (is_other expected Ljf) Ljf (at_item Ljf []) h.0, h.1)

-- the word `certificate` and the term
pub pass-certificate_term : (expected : Option Logic) (earlier : List (List ℕ)) (logic : Logic) (items : List WrittenItem) (t : WrittenTerm) → IsSmall t
    → Passes Certificate expected earlier (at_item logic items) (a_sign sign.Certificate ∷ term_tokens t (a_sign sign.Dot ∷ [])) (finished logic items t)
pass-certificate_term expected earlier logic items t small =
    (refl, pass-last_term Certificate expected earlier (finished logic items t) logic items t small refl)

pub passed-certificate_term : (expected : Option Logic) (earlier : List (List ℕ)) (goal : FileState) (logic : Logic) (items : List WrittenItem) (t : WrittenTerm)
    → Passes Certificate expected earlier (at_item logic items) (a_sign sign.Certificate ∷ term_tokens t (a_sign sign.Dot ∷ [])) goal → IsSmall t
passed-certificate_term expected earlier goal logic items t h = (passed-last_term Certificate expected earlier goal logic items t h.1).0

-- along items that say the tokens
pub read-passes : (kind : FileKind) (expected : Option Logic) (earlier : List (List ℕ)) (tokens : List Lexeme) (items : List Item) (s t : FileState)
    → Says tokens items → Passes kind expected earlier s tokens t → read_items kind expected earlier s items ≡ Ok t
read-passes kind expected earlier [] [] s t said h = ap Ok h
read-passes kind expected earlier (c ∷ cs) (says d at ∷ items) s t said h =
    let one : limited kind expected earlier s d ≡ Ok (step kind s c) = subst (λ e. limited kind expected earlier s e ≡ Ok (step kind s c)) said.0 h.0 in
    ap (λ r. answered at r (λ u. read_items kind expected earlier u items)) one ∙ read-passes kind expected earlier cs items (step kind s c) t said.1 h.1
read-passes kind expected earlier _ _ s t said h = absurd said

-- what was read behind other tokens: tokens that its items say, that are whole with the others, and that pass
pub record IsPassed {W : Type 0} (kind : FileKind) (expected : Option Logic) (earlier : List (List ℕ)) (IsWhole : List Lexeme → W → Type 0)
    (before : List Lexeme) (items : List Item) (w : W) : Type 0 where
  pub tokens : List Lexeme
  pub state : FileState
  pub said : Says tokens items
  pub is_whole : IsWhole (before ++ tokens) w
  pub passes : Passes kind expected earlier (file_behind kind before) tokens state

-- for a kind whose machine takes what the grammar takes
module _ {W : Type 0} (kind : FileKind) (expected : Option Logic) (earlier : List (List ℕ)) (IsWhole : List Lexeme → W → Type 0) (Limits : List Lexeme → Lexeme → Code → Type 0)
    (taken : (before : List Lexeme) (c : Lexeme) → IsTaken IsWhole Limits before c
    → limited kind expected earlier (file_behind kind before) c ≡ Ok (step kind (file_behind kind before) c)) where
  pub passes-read : (before : List Lexeme) (items : List Item) (w : W) → ReadsAll IsWhole Limits before items w → IsPassed kind expected earlier IsWhole before items w
  passes-read before _ w (reading.ReadsAll.at_end h) = record {
    tokens = [];
    state = file_behind kind before;
    said = tt;
    is_whole = subst (λ l. IsWhole l w) (sym (append-nil before)) h;
    passes = refl;
  }
  passes-read before _ w (reading.ReadsAll.later {c = c} {items = items} k h) =
      let r = passes-read (before ++ c ∷ []) items w h in
      record {
        tokens = c ∷ r.tokens;
        state = r.state;
        said = (refl, r.said);
        is_whole = subst (λ l. IsWhole l w) (append_assoc before (c ∷ []) r.tokens) r.is_whole;
        passes = (taken before c k, subst (λ s. Passes kind expected earlier s r.tokens r.state) (file_behind-step kind before c) r.passes);
      }
