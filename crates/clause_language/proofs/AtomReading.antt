-- How an atom by itself is read: behind its name as a term is.
use Rattle.std.proofs.Common.{◌≡◌, inl, inr, ℕ, Bool, true, false, List, [], ◌∷◌, ◌++◌, length, refl, ap, sym, subst, ◌∙◌, Option, Some, None, Result, Ok, Err, IfOk, IfErr, OnOk, is_some, Bor}
use Rattle.fpc_base.specs.declared.refusal.Code.{Code}
use Rattle.fpc_base.specs.declared.refusal.Code.TheVariants.{Unexpected}
use Rattle.fpc_base.specs.declared.refusal.ParseRefusal.{ParseRefusal}
use Rattle.fpc_base.specs.declared.refusal.ParseRefusal.TheVariants as parse
use Rattle.fpc_base.specs.declared.refusal.Refusal.{Refusal}
use Rattle.fpc_base.specs.declared.refusal.TokenRefusal.{TokenRefusal}
use Rattle.fpc_base.specs.declared.refusal.TokenRefusal.TheVariants.{Refused, OutOfMemory}
use Rattle.fpc_base.specs.declared.tokens.lexeme.Lexeme as code
use Rattle.fpc_base.specs.Lexeme.{Lexeme, lexeme_as, a_name, a_variable, Item, says, fault}
use Rattle.fpc_base.specs.Reading.{Begins, IsTaken, IsRefused, ReadsAll, RefusesAll}
use Rattle.fpc_base.specs.Reading as reading
use Rattle.fpc_base.specs.Refusal.{placed}
use Rattle.fpc_terms.specs.Holding.{Holds}
use Rattle.fpc_terms.specs.Machine.{TermState, wants, run, IsLive, whole_of, limited}
use Rattle.fpc_terms.specs.Name.{AreDifferent, index_in}
use Rattle.fpc_terms.specs.ReadTerm.{any_variable, numbered, HoldsFor, TakesFor}
use Rattle.fpc_terms.specs.Spot.{alone}
use Rattle.fpc_terms.specs.Term.{Term}
use Rattle.fpc_terms.specs.Written.{WrittenTerm, variable_word, application, no_words, IsTerm, args_tokens, variables_in}
use Rattle.fpc_terms.proofs.AnyTerm.{any-args, IsTermJudged, term-judged}
use Rattle.fpc_terms.proofs.ReadFacts.{Agrees-index_in, own}
use Rattle.fpc_terms.proofs.TermReading.{whole-is, is-whole, live-begins, begins-live, run-one, variables_in-append}
use Rattle.clause_language.specs.declared.atom.Atom.{Atom}
use Rattle.clause_language.specs.declared.single_atom.AtomReader.{AtomReader}
use Rattle.clause_language.specs.HoldingAtom.{IsFront, HoldsAtom, TakesAtom, AtomOf, IsAtomEnd, AtomIsTaken}
use Rattle.clause_language.specs.HoldingClause.{IsAtomOf}
use Rattle.clause_language.specs.Meant.{atom_meant}
use Rattle.clause_language.specs.ReadAtom.{IsAtom, AtomLimits, atom_variables, AtomIsRead, IsAtomRefusal}
use Rattle.clause_language.specs.Written.{WrittenAtom}
use Rattle.clause_language.specs.ClauseMachine.{whole_atom, whole_in}

-- the state of the machine of terms behind the tokens
abbrev pub term_behind : List Lexeme → TermState
term_behind tokens = run any_variable (wants alone) tokens

-- ATOMS AND TERMS
-- the tokens of an atom are those of a term
atom-term : (tokens : List Lexeme) (a : WrittenAtom) → IsAtom tokens a → IsTerm any_variable tokens (application a.text a.args)
atom-term tokens a e = record { spelled = e; known_all = any-args a.args }

-- the tokens of a term that begin with a name are those of an atom
record AtomOfTerm (tokens : List Lexeme) (w : WrittenTerm) : Type 0 where
  atom : WrittenAtom
  is_atom : IsAtom tokens atom
  is : w ≡ application atom.text atom.args

term-atom : (x : List ℕ) (tokens : List Lexeme) (w : WrittenTerm) → IsTerm any_variable (a_name x ∷ tokens) w → AtomOfTerm (a_name x ∷ tokens) w
term-atom x tokens (application y args) i = record { atom = record { text = y; args = args }; is_atom = i.spelled; is = refl }
term-atom x tokens (variable_word y) i = let e : a_name x ∷ tokens ≡ a_variable y ∷ [] = i.spelled in cc

begins-term : (tokens : List Lexeme) → Begins IsAtom AtomLimits tokens → Begins (IsTerm any_variable) AtomLimits tokens
begins-term tokens b = (b.0, (application b.1.0.text b.1.0.args, atom-term (tokens ++ b.0) b.1.0 b.1.1))

begins-atom : (x : List ℕ) (tokens : List Lexeme) → Begins (IsTerm any_variable) AtomLimits (a_name x ∷ tokens) → Begins IsAtom AtomLimits (a_name x ∷ tokens)
begins-atom x tokens b =
    let t = term-atom x (tokens ++ b.0) b.1.0 b.1.1 in
    (b.0, (t.atom, t.is_atom))

-- an atom begins with the tokens just where the machine of terms goes on, behind a name
live-atom : (x : List ℕ) (tokens : List Lexeme) → IsLive (term_behind (a_name x ∷ tokens)) → Begins IsAtom AtomLimits (a_name x ∷ tokens)
live-atom x tokens live = begins-atom x tokens (live-begins any_variable None [] (a_name x ∷ tokens) live)

pub atom-live : (tokens : List Lexeme) → Begins IsAtom AtomLimits tokens → IsLive (term_behind tokens)
atom-live tokens b = begins-live any_variable None [] tokens (begins-term tokens b)

-- what an answer about a token behind others says
abbrev IsAnswer : List Lexeme → Lexeme → Result TermState Code → Type 0
IsAnswer before c (Ok t) = IsTaken IsAtom AtomLimits before c × (term_behind (before ++ c ∷ []) ≡ t)
IsAnswer before c (Err code) = IsRefused IsAtom AtomLimits before c code

answer-judged : (x : List ℕ) (tokens : List Lexeme) (c : Lexeme) (answer : Result TermState Code)
    → IsTermJudged (a_name x ∷ tokens) c (term_behind (a_name x ∷ tokens ++ c ∷ [])) answer → IsAnswer (a_name x ∷ tokens) c answer
answer-judged x tokens c (Ok t) j = (record { begins = live-atom x (tokens ++ c ∷ []) j.1; free = j.2 }, j.0)
answer-judged x tokens c (Err code) (inl u) =
    subst (IsRefused IsAtom AtomLimits (a_name x ∷ tokens) c) (sym u.1)
    (reading.IsRefused.unexpected (λ b. subst IsLive u.0 (atom-live (a_name x ∷ tokens ++ c ∷ []) b)))
answer-judged x tokens c (Err code) (inr l) = reading.IsRefused.limited (live-atom x (tokens ++ c ∷ []) l.0) l.1

-- behind a name each token is taken or refused as in a term
answer-behind : (x : List ℕ) (tokens : List Lexeme) (c : Lexeme) (variables : List (List ℕ))
    → IsAnswer (a_name x ∷ tokens) c (limited any_variable None variables (term_behind (a_name x ∷ tokens)) c)
answer-behind x tokens c variables =
    let before : List Lexeme = a_name x ∷ tokens in
    answer-judged x tokens c (limited any_variable None variables (term_behind before) c)
    (subst (λ t. IsTermJudged before c t (limited any_variable None variables (term_behind before) c)) (sym (run-one any_variable before c (term_behind before) refl))
    (term-judged before c (term_behind before) refl))

-- the first token is a name
taken-name : (x : List ℕ) → IsTaken IsAtom AtomLimits [] (a_name x)
taken-name x = record { begins = ([], (record { text = x; args = no_words }, refl)); free = (term-judged [] (a_name x) (wants alone) refl).2 }

abbrev IsNoName : Lexeme → Type 0
IsNoName (a_name x) = ⊥
IsNoName _ = Unit {0}

refused-first : (c : Lexeme) → IsNoName c → IsRefused IsAtom AtomLimits [] c Unexpected
refused-first c n = reading.IsRefused.unexpected (λ b. begins-no c n b.0 b.1.0 b.1.1) where
  begins-no : (c : Lexeme) → IsNoName c → (more : List Lexeme) (a : WrittenAtom) → IsAtom (c ∷ more) a → ⊥
  begins-no (a_name x) n more a e = n
  begins-no c n more a e = cc

-- TAKING A TOKEN
module _ (names : List (List ℕ)) (before : List Lexeme) (c : Lexeme) (old : AtomReader) (h : HoldsAtom names before old) where
  holds-next : (more : List (List ℕ)) (new : AtomReader) (t : TermState) → IsFront new.is_begun (before ++ c ∷ []) → new.variables ≡ variables_in (c ∷ []) old.variables
      → HoldsFor more new.variables t new.terms → term_behind (before ++ c ∷ []) ≡ t → HoldsAtom more (before ++ c ∷ []) new
  holds-next more new t front variables holds e = record {
    front = front;
    variables = variables ∙ ap (variables_in (c ∷ [])) h.variables ∙ sym (variables_in-append before (c ∷ []) []);
    holds = subst (λ s. HoldsFor more new.variables s new.terms) (sym e) holds;
  }

  -- from the answer of the machine of terms
  takes-answer : (result : Result (Unit {0}) TokenRefusal) (more : List (List ℕ)) (new : AtomReader) (answer : Result TermState Code) → IsAnswer before c answer
      → IsFront new.is_begun (before ++ c ∷ []) → OnOk result (new.variables ≡ variables_in (c ∷ []) old.variables) → TakesFor result more new.variables answer new.terms
      → TakesAtom result more before c new
  takes-answer (Ok u) more new answer a front variables t =
      let k : IsAnswer before c (Ok t.0) = subst (IsAnswer before c) t.1.0 a in
      (k.0, holds-next more new t.0 front variables t.1.1 k.1)
  takes-answer (Err (Refused code)) more new answer a front variables t = subst (IsAnswer before c) t a
  takes-answer (Err OutOfMemory) more new answer a front variables t = tt

pub takes-behind : (result : Result (Unit {0}) TokenRefusal) (names more : List (List ℕ)) (before : List Lexeme) (c : Lexeme) (old new : AtomReader) → HoldsAtom names before old
    → old.is_begun ≡ true → new.is_begun ≡ true → OnOk result (new.variables ≡ variables_in (c ∷ []) old.variables)
    → ((s : TermState) → HoldsFor names old.variables s old.terms → TakesFor result more new.variables (limited any_variable None old.variables s c) new.terms)
    → TakesAtom result more before c new
takes-behind result names more (a_name x ∷ tokens) c old new h b n variables t =
    takes-answer names (a_name x ∷ tokens) c old h result more new (limited any_variable None old.variables (term_behind (a_name x ∷ tokens)) c)
    (answer-behind x tokens c old.variables) (subst (λ begun. IsFront begun (a_name x ∷ tokens ++ c ∷ [])) (sym n) tt) variables
    (t (term_behind (a_name x ∷ tokens)) h.holds)
takes-behind result names more before c old new h b n variables t = absurd (subst (λ begun. IsFront begun before) b h.front)

pub takes-first : (result : Result (Unit {0}) TokenRefusal) (names more : List (List ℕ)) (before : List Lexeme) (x : List ℕ) (old new : AtomReader) → HoldsAtom names before old
    → old.is_begun ≡ false → new.is_begun ≡ true → OnOk result (new.variables ≡ old.variables)
    → ((s : TermState) → HoldsFor names old.variables s old.terms → TakesFor result more new.variables (limited any_variable None old.variables s (a_name x)) new.terms)
    → TakesAtom result more before (a_name x) new
takes-first result names more [] x old new h b n variables t =
    takes-answer names [] (a_name x) old h result more new (limited any_variable None old.variables (wants alone) (a_name x))
    (taken-name x, refl) (subst (λ begun. IsFront begun (a_name x ∷ [])) (sym n) tt) variables
    (t (wants alone) h.holds)
takes-first result names more (c ∷ cs) x old new h b n variables t = absurd (subst (λ begun. IsFront begun (c ∷ cs)) b h.front)

-- the code's token is no name
no-name : (c : code.Lexeme) → ((x : Bor (List ℕ)) → c ≡ code.TheVariants.Name x → ⊥) → IsNoName (lexeme_as c)
no-name (code.TheVariants.Name x) n = n x refl
no-name (code.TheVariants.Variable x) n = tt
no-name (code.TheVariants.Number x) n = tt
no-name (code.TheVariants.Sign s) n = tt
no-name code.TheVariants.Unused n = tt

pub refuses-first : (names : List (List ℕ)) (before : List Lexeme) (c : code.Lexeme) (old : AtomReader) → HoldsAtom names before old → old.is_begun ≡ false
    → ((x : Bor (List ℕ)) → c ≡ code.TheVariants.Name x → ⊥) → IsRefused IsAtom AtomLimits before (lexeme_as c) Unexpected
refuses-first names [] c old h b n = refused-first (lexeme_as c) (no-name c n)
refuses-first names (d ∷ ds) c old h b n = absurd (subst (λ begun. IsFront begun (d ∷ ds)) b h.front)

-- ALONG THE ITEMS
module _ (n : ℕ) (items rest : List Item) (names : List (List ℕ)) (r : AtomReader) where
  pub taken-start : rest ≡ items → HoldsAtom names [] r → AtomIsTaken n items rest names r
  taken-start e h = record {
    before = [];
    holds = h;
    read = λ w k. subst (λ l. ReadsAll IsAtom AtomLimits [] l w) e k;
    refused = λ f k. subst (λ l. RefusesAll IsAtom AtomLimits n [] l f) e k;
  }

  module _ (on : AtomIsTaken n items rest names r) where
    pub taken-next : (more : List Item) (c : Lexeme) (at : ℕ) (table : List (List ℕ)) (new : AtomReader) → rest ≡ says c at ∷ more
        → ((before : List Lexeme) → HoldsAtom names before r → TakesAtom (Ok tt) table before c new) → AtomIsTaken n items more table new
    taken-next more c at table new e t =
        let k = t on.before on.holds in
        record {
          before = on.before ++ c ∷ [];
          holds = k.1;
          read = λ w h. on.read w (rw e (reading.ReadsAll.later k.0 h));
          refused = λ f h. on.refused f (rw e (reading.RefusesAll.later k.0 h));
        }

    pub taken-refused : (more : List Item) (c : Lexeme) (at : ℕ) (table : List (List ℕ)) (new : AtomReader) (refusal : TokenRefusal) → rest ≡ says c at ∷ more
        → ((before : List Lexeme) → HoldsAtom names before r → TakesAtom (Err refusal) table before c new) → IsAtomRefusal items n (placed refusal at)
    taken-refused more c at table new (Refused code) e t =
        on.refused (record { code = code; at = at }) (rw e (reading.RefusesAll.here (t on.before on.holds)))
    taken-refused more c at table new OutOfMemory e t = tt

    pub taken-fault : (more : List Item) (refusal : Refusal) → rest ≡ fault refusal ∷ more → IsAtomRefusal items n (parse.Refused refusal)
    taken-fault more refusal e = on.refused refusal (rw e reading.RefusesAll.bad)

-- THE END
none-of : {A : Type 0} (o : Option A) → is_some o ≡ false → o ≡ None
none-of None e = refl
none-of (Some a) e = cc

some-of : {A : Type 0} (o : Option A) → is_some o ≡ true → (a : A) × (o ≡ Some a)
some-of None e = cc
some-of (Some a) e = (a, refl)

module _ (names : List (List ℕ)) (before : List Lexeme) (r : AtomReader) (d : AreDifferent names) (dv : AreDifferent r.variables) (h : HoldsAtom names before r) where
  held : Holds (index_in names) (numbered (index_in r.variables)) (term_behind before) r.terms
  held = own names r.variables (term_behind before) r.terms d dv h.holds

  -- what the reader says of a whole term
  is_whole-told : (b : Bool) → ((number : List ℕ → ℕ) (leaf : List ℕ → Term) (s : TermState) → Holds number leaf s r.terms → b ≡ is_some (whole_of s))
      → b ≡ is_some (whole_of (term_behind before))
  is_whole-told b f = f (index_in names) (numbered (index_in r.variables)) (term_behind before) held

  pub no-atom : (b : Bool) → b ≡ false → ((number : List ℕ → ℕ) (leaf : List ℕ → Term) (s : TermState) → Holds number leaf s r.terms → b ≡ is_some (whole_of s))
      → (a : WrittenAtom) → IsAtom before a → ⊥
  no-atom b g f a e =
      let none : whole_of (term_behind before) ≡ None = none-of (whole_of (term_behind before)) (sym (is_whole-told b f) ∙ g) in
      let some : whole_of (term_behind before) ≡ Some (application a.text a.args) = is-whole any_variable before (application a.text a.args) (atom-term before a e) in
      cc

  whole-front : (tokens : List Lexeme) (begun : Bool) (w : WrittenTerm) → IsFront begun tokens → IsTerm any_variable tokens w → AtomOfTerm tokens w
  whole-front (a_name x ∷ tokens) begun w front i = term-atom x tokens w i
  whole-front [] begun (variable_word x) front i = let e : [] ≡ a_variable x ∷ [] = i.spelled in cc
  whole-front [] begun (application x args) front i = let e : [] ≡ a_name x ∷ args_tokens args [] = i.spelled in cc
  whole-front (c ∷ cs) true w front i = absurd front
  whole-front (c ∷ cs) false w front i = absurd front

  atom-whole : (w : WrittenTerm) (t : AtomOfTerm before w) → whole_of (term_behind before) ≡ Some w → whole_atom (term_behind before) ≡ Some t.atom
  atom-whole w t e = ap whole_in (e ∙ ap Some t.is)

  pub atom-of : (a : Atom) (count : ℕ) (b : Bool) → b ≡ true → ((number : List ℕ → ℕ) (leaf : List ℕ → Term) (s : TermState) → Holds number leaf s r.terms → b ≡ is_some (whole_of s))
      → IsAtomOf r.terms a → count ≡ length r.variables → AtomOf names before (a, count)
  atom-of a count b g f is counted =
      let some = some-of (whole_of (term_behind before)) (sym (is_whole-told b f) ∙ g) in
      let t = whole-front before r.is_begun some.0 h.front (whole-is any_variable before some.0 some.1) in
      let vs : r.variables ≡ atom_variables t.atom = h.variables ∙ ap (λ tokens. variables_in tokens []) t.is_atom in
      record {
        written = t.atom;
        whole = t.is_atom;
        meant = λ number agrees. subst (λ us. a ≡ atom_meant number (index_in us) t.atom) vs
            (is number (index_in r.variables) (term_behind before) t.atom (h.holds number (index_in r.variables) agrees (Agrees-index_in r.variables dv)) (atom-whole some.0 t some.1));
        counted = counted ∙ ap length vs;
      }

-- what was read at the end of the items
module _ (n : ℕ) (items : List Item) (names : List (List ℕ)) where
  pub end-read : (r : AtomReader) (result : Result (Atom × ℕ) ParseRefusal) → AreDifferent names → AtomIsTaken n items [] names r
      → ((before : List Lexeme) → AreDifferent names → HoldsAtom names before r → IsAtomEnd names n before result) → IfOk result (AtomIsRead items names)
  end-read r (Ok read) d on e =
      let k = e on.before d on.holds in
      record { written = k.written; reads = on.read k.written (reading.ReadsAll.at_end k.whole); meant = k.meant; counted = k.counted }
  end-read r (Err f) d on e = tt

  pub end-refused : (r : AtomReader) (result : Result (Atom × ℕ) ParseRefusal) → AreDifferent names → AtomIsTaken n items [] names r
      → ((before : List Lexeme) → AreDifferent names → HoldsAtom names before r → IsAtomEnd names n before result) → IfErr result (IsAtomRefusal items n)
  end-refused r (Ok read) d on e = tt
  end-refused r (Err (parse.Refused f)) d on e =
      let k = e on.before d on.holds in
      subst (λ (q : Refusal). IsAtomRefusal items n (parse.Refused q)) (sym k.0) (on.refused (record { code = Unexpected; at = n }) (reading.RefusesAll.at_end k.1))
  end-refused r (Err parse.OutOfMemory) d on e = tt
