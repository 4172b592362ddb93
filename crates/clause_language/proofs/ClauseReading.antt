-- How a clause is read token by token.
use Rattle.std.proofs.Common.{◌≡◌, ℕ, Bool, true, false, ◌&&◌, List, [], ◌∷◌, ◌++◌, map, refl, ap, ap₂, sym, subst, ◌∙◌, Option, Some, None, is_some, Result, Ok, Err, OnOk, IfOk, IfErr, length}
use Rattle.fpc_base.specs.declared.refusal.Code.{Code}
use Rattle.fpc_base.specs.declared.refusal.Code.TheVariants.{NotBuilt, BadByte, Unexpected, TooDeep, LongName, ManyArguments, DuplicateFormula, TooLarge, WrongCalculus, ManyVariables}
use Rattle.fpc_base.specs.declared.outside.OutOfMemory.{OutOfMemory as OutOfMemoryError}
use Rattle.fpc_base.specs.declared.refusal.TokenRefusal.{TokenRefusal}
use Rattle.fpc_base.specs.declared.refusal.TokenRefusal.TheVariants.{Refused, OutOfMemory}
use Rattle.fpc_base.specs.declared.tokens.lexeme.Sign.TheVariants as sign
use Rattle.fpc_base.specs.Lexeme.{Lexeme, a_name, a_sign}
use Rattle.fpc_terms.specs.Name.{Agrees, AreDifferent, Grows, index_in}
use Rattle.fpc_terms.specs.Term.{Term, Args, app, terms_in}
use Rattle.fpc_terms.specs.Written.{WrittenTerm, application, variable_word, no_words, variables_in, term_meant, args_meant}
use Rattle.fpc_terms.specs.Spot.{alone}
use Rattle.fpc_terms.specs.Machine as term
use Rattle.fpc_terms.specs.Holding.{Holds}
use Rattle.fpc_terms.specs.ReadTerm.{any_variable, numbered, HoldsFor, TakesFor}
use Rattle.fpc_terms.specs.declared.reader.TermReader.{TermReader}
use Rattle.fpc_terms.proofs.ReadFacts.{Agrees-index_in}
use Rattle.clause_language.specs.declared.atom.Atom.{Atom}
use Rattle.clause_language.specs.declared.clause.Clause.{Clause}
use Rattle.clause_language.specs.declared.clause_reader.Mode.{Mode}
use Rattle.clause_language.specs.declared.clause_reader.Mode.TheVariants as mode
use Rattle.clause_language.specs.declared.clause_reader.ClauseReader.{ClauseReader}
use Rattle.clause_language.specs.Written.{WrittenAtom, WrittenClause}
use Rattle.clause_language.specs.Limits.{AtomPlace, at_head, in_body}
use Rattle.clause_language.specs.Meant.{atom_meant, clause_meant, clause_variables}
use Rattle.clause_language.specs.ClauseMachine.{ClauseState, at_atom, in_atom, ended, stuck, whole_in, whole_atom, clause_of, behind_atom, behind, gone_on, step, within, gone_on_within, limited}
use Rattle.clause_language.specs.HoldingClause.{IsAtomOf, is_separator, stands_behind, head_at, body_at, HoldsPlace, HoldsParts, IsReached, HoldsClause, TakesClause}
use Rattle.clause_language.proofs.ClauseStates.{IsAtomState}
use Rattle.clause_language.proofs.ClauseLaws.{clause_behind-step, clause_led, in_atom-variables, ended-variables, variables_in-append}

-- what a term's answer says of its step
pub data Judged (t : term.TermState) : Result term.TermState Code → Type 0 where
  nowhere : t ≡ term.stuck → Judged t (Err Unexpected)
  arguments : Judged t (Err ManyArguments)
  variables : Judged t (Err ManyVariables)
  taken : term.IsLive t → Judged t (Ok t)

pub judged : (full many : Bool) (t : term.TermState) → Judged t (term.within full many t)
judged full many term.stuck = nowhere refl
judged true many (term.wants s) = arguments
judged false true (term.wants s) = variables
judged false false (term.wants s) = taken tt
judged true many (term.named x s) = arguments
judged false true (term.named x s) = variables
judged false false (term.named x s) = taken tt
judged true many (term.has u s) = arguments
judged false true (term.has u s) = variables
judged false false (term.has u s) = taken tt
judged true many (term.ended args) = arguments
judged false true (term.ended args) = variables
judged false false (term.ended args) = taken tt

within-ok : (s t : ClauseState) → within s ≡ Ok t → s ≡ t
within-ok stuck t e = cc
within-ok (at_atom p vs) t e = cc
within-ok (in_atom p vs u) t e = cc
within-ok (ended w) t e = cc

gone_on-live : (p : AtomPlace) (vs : List (List ℕ)) (w : Option WrittenAtom) (c : Lexeme) (t : term.TermState) → term.IsLive t
    → gone_on p vs w c t ≡ in_atom p (variables_in (c ∷ []) vs) t
gone_on-live p vs w c term.stuck live = absurd live
gone_on-live p vs w c (term.wants s) live = refl
gone_on-live p vs w c (term.named x s) live = refl
gone_on-live p vs w c (term.has u s) live = refl
gone_on-live p vs w c (term.ended args) live = refl

-- the limits don't change where a token leads
module _ (p : AtomPlace) (vs : List (List ℕ)) (w : Option WrittenAtom) (c : Lexeme) (u : ClauseState) where
  gone_on-ok : (t : term.TermState) (r : Result term.TermState Code) → Judged t r → gone_on_within p vs w c r ≡ Ok u → gone_on p vs w c t ≡ u
  gone_on-ok t _ (nowhere n) e = rw n (within-ok (behind p vs w c) u e)
  gone_on-ok t _ arguments e = cc
  gone_on-ok t _ variables e = cc
  gone_on-ok t _ (taken live) e = let f : in_atom p (variables_in (c ∷ []) vs) t ≡ u = cc in gone_on-live p vs w c t live ∙ f

pub clause_step-of : (s : ClauseState) (c : Lexeme) (t : ClauseState) → limited s c ≡ Ok t → step s c ≡ t
clause_step-of (at_atom p vs) c t e = within-ok (step (at_atom p vs) c) t e
clause_step-of (in_atom p vs u) c t e =
    gone_on-ok p vs (whole_atom u) c t (term.step any_variable u c) (term.limited any_variable (Some 255) vs u c)
    (judged (term.is_full (term.step any_variable u c)) (term.is_too_many (Some 255) vs c) (term.step any_variable u c)) e
clause_step-of (ended w) c t e = within-ok (step (ended w) c) t e
clause_step-of stuck c t e = within-ok (step stuck c) t e

abbrev pub IsReached-next : (s t : ClauseState) (c : Lexeme) → IsReached s → limited s c ≡ Ok t → IsReached t
IsReached-next s t c r e = (r.0 ++ c ∷ [], clause_behind-step r.0 c ∙ ap (λ q. step q c) r.1 ∙ clause_step-of s c t e)

-- the atoms before a place are held as the tables grow
module _ (names more vs ws : List (List ℕ)) (m n : Mode) (p : AtomPlace) (old new : ClauseReader) where
  place-moved : HoldsPlace names m vs p old → Grows names more → Grows vs ws → new.mode ≡ n → new.variables ≡ ws → new.head ≡ old.head → new.body ≡ old.body
      → HoldsPlace more n ws p new
  place-moved h g k e f i j = record {
    mode = e;
    variables = f;
    head = λ number numbers a b. i ∙ h.head number numbers (λ at text o. a at text (g at text o)) (λ at text o. b at text (k at text o));
    body = λ number numbers a b. j ∙ h.body number numbers (λ at text o. a at text (g at text o)) (λ at text o. b at text (k at text o));
  }

same-grows : (vs : List (List ℕ)) → Grows vs vs
same-grows vs k text e = e

grows-to : (vs ws : List (List ℕ)) → vs ≡ ws → Grows vs ws
grows-to vs ws e = subst (Grows vs) e (same-grows vs)

-- a term that is whole goes on with no separator
whole-stops : (t : term.TermState) (w : WrittenTerm) (c : Lexeme) → term.whole_of t ≡ Some w → is_separator c ≡ true → term.step any_variable t c ≡ term.stuck
whole-stops (term.has u alone) w c e h = refl
whole-stops (term.named x alone) w (a_sign sign.If) e h = refl
whole-stops (term.named x alone) w (a_sign sign.Comma) e h = refl
whole-stops (term.named x alone) w (a_sign sign.Dot) e h = refl
whole-stops (term.named x alone) w _ e h = cc
whole-stops _ w c e h = cc

limited-behind : (p : AtomPlace) (vs : List (List ℕ)) (t : term.TermState) (w : WrittenTerm) (c : Lexeme) → term.whole_of t ≡ Some w → is_separator c ≡ true
    → limited (in_atom p vs t) c ≡ within (behind p vs (whole_atom t) c)
limited-behind p vs t w c e h =
    ap (λ u. gone_on_within p vs (whole_atom t) c (term.within (term.is_full u) (term.is_too_many (Some 255) vs c) u)) (whole-stops t w c e h)

-- the atom of a term that is whole
pub record WholeAtom (t : term.TermState) : Type 0 where
  pub atom : WrittenAtom
  pub term : term.whole_of t ≡ Some (application atom.text atom.args)
  pub whole : whole_atom t ≡ Some atom

atom-whole : (t : term.TermState) → IsAtomState t → is_some (term.whole_of t) ≡ true → WholeAtom t
atom-whole (term.has (application x args) alone) h e = record { atom = record { text = x; args = args }; term = refl; whole = refl }
atom-whole (term.has (variable_word x) alone) h e = absurd h
atom-whole (term.named x alone) h e = record { atom = record { text = x; args = no_words }; term = refl; whole = refl }
atom-whole _ h e = cc

-- a whole atom is that of its term
pub whole_atom-term : (t : term.TermState) (a : WrittenAtom) → whole_atom t ≡ Some a → term.whole_of t ≡ Some (application a.text a.args)
whole_atom-term (term.has (application x args) alone) a e =
    let f : (let b : WrittenAtom = record { text = x; args = args } in b) ≡ a = cc in ap (λ (b : WrittenAtom). Some (application b.text b.args)) f
whole_atom-term (term.has (variable_word x) alone) a e = cc
whole_atom-term (term.named x alone) a e =
    let f : (let b : WrittenAtom = record { text = x; args = no_words } in b) ≡ a = cc in ap (λ (b : WrittenAtom). Some (application b.text b.args)) f
whole_atom-term _ a e = cc

both : (a b : Bool) → a && b ≡ true → (a ≡ true) × (b ≡ true)
both true true e = (refl, refl)
both true false e = cc
both false b e = cc

-- where a separator stands behind an atom
pub record StandsBehind (s : ClauseState) (c : Lexeme) : Type 0 where
  pub place : AtomPlace
  pub variables : List (List ℕ)
  pub state : term.TermState
  pub is : s ≡ in_atom place variables state
  pub separator : is_separator c ≡ true
  pub whole : WholeAtom state

stands-told : (s : ClauseState) (c : Lexeme) → IsReached s → stands_behind s c ≡ true → StandsBehind s c
stands-told (in_atom p vs t) c r e =
    let b = both (is_separator c) (is_some (term.whole_of t)) e in
    record { place = p; variables = vs; state = t; is = refl; separator = b.0; whole = atom-whole t (clause_led r.0 (in_atom p vs t) r.1 tt).1 b.1 }
stands-told _ c r e = cc

-- where it does, the answer is that behind the atom
behind-told : (s : ClauseState) (c : Lexeme) (b : StandsBehind s c) → limited s c ≡ within (behind_atom b.place b.variables b.whole.atom c)
behind-told s c b =
    ap (λ q. limited q c) b.is
    ∙ limited-behind b.place b.variables b.state (application b.whole.atom.text b.whole.atom.args) c b.whole.term b.separator
    ∙ ap (λ o. within (behind b.place b.variables o c)) b.whole.whole

-- where none does, nothing stands behind
behind_atom-none : (p : AtomPlace) (vs : List (List ℕ)) (a : WrittenAtom) (c : Lexeme) → is_separator c ≡ false → behind_atom p vs a c ≡ stuck
behind_atom-none at_head vs a (a_sign sign.If) e = cc
behind_atom-none at_head vs a (a_sign sign.Dot) e = cc
behind_atom-none at_head vs a _ e = refl
behind_atom-none (in_body h ds) vs a (a_sign sign.Comma) e = cc
behind_atom-none (in_body h ds) vs a (a_sign sign.Dot) e = cc
behind_atom-none (in_body h ds) vs a _ e = refl

behind-none : (p : AtomPlace) (vs : List (List ℕ)) (c : Lexeme) (o : Option WrittenTerm) → is_separator c && is_some o ≡ false → behind p vs (whole_in o) c ≡ stuck
behind-none p vs c None e = refl
behind-none p vs c (Some (variable_word x)) e = refl
behind-none p vs c (Some (application x args)) e = behind_atom-none p vs (record { text = x; args = args }) c (first (is_separator c) e) where
  first : (b : Bool) → b && true ≡ false → b ≡ false
  first true e = cc
  first false e = refl

code-stays : (p : AtomPlace) (vs : List (List ℕ)) (t : term.TermState) (c : Lexeme) (code : Code) → is_separator c && is_some (term.whole_of t) ≡ false
    → gone_on_within p vs (whole_atom t) c (Err code) ≡ Err code
code-stays p vs t c Unexpected e = ap within (behind-none p vs c (term.whole_of t) e)
code-stays p vs t c NotBuilt e = refl
code-stays p vs t c BadByte e = refl
code-stays p vs t c TooDeep e = refl
code-stays p vs t c LongName e = refl
code-stays p vs t c ManyArguments e = refl
code-stays p vs t c DuplicateFormula e = refl
code-stays p vs t c TooLarge e = refl
code-stays p vs t c WrongCalculus e = refl
code-stays p vs t c ManyVariables e = refl

-- a token of an atom
module _ (names more vs ws : List (List ℕ)) (p : AtomPlace) (t : term.TermState) (c : Lexeme) (old new : ClauseReader) where
  in-takes : (result : Result (Unit {0}) TokenRefusal) → IsReached (in_atom p vs t) → HoldsPlace names mode.InAtom vs p old → is_separator c && is_some (term.whole_of t) ≡ false
      → Grows names more → Grows vs ws → OnOk result (ws ≡ variables_in (c ∷ []) vs) → TakesFor result more ws (term.limited any_variable (Some 255) vs t c) new.terms
      → new.mode ≡ mode.InAtom → new.variables ≡ ws → new.head ≡ old.head → new.body ≡ old.body → TakesClause result more (limited (in_atom p vs t) c) new
  in-takes (Ok u) r h n g k d f e i j l =
      let q : limited (in_atom p vs t) c ≡ Ok (in_atom p (variables_in (c ∷ []) vs) f.0) = ap (gone_on_within p vs (whole_atom t) c) f.1.0 in (
        in_atom p (variables_in (c ∷ []) vs) f.0,
        (
          q,
          record {
            reached = IsReached-next (in_atom p vs t) (in_atom p (variables_in (c ∷ []) vs) f.0) c r q;
            parts = subst (λ v. HoldsPlace more mode.InAtom v p new × HoldsFor more v f.0 new.terms) d
                (place-moved names more vs ws mode.InAtom mode.InAtom p old new h g k e i j l, f.1.1);
          },
        ),
      )
  in-takes (Err (Refused code)) r h n g k d f e i j l = ap (gone_on_within p vs (whole_atom t) c) f ∙ code-stays p vs t c code n
  in-takes (Err OutOfMemory) r h n g k d f e i j l = tt

module _ (result : Result (Unit {0}) TokenRefusal) (names more ws : List (List ℕ)) (c : Lexeme) (old new : ClauseReader) where
  pub takes-in_atom : (s : ClauseState) → HoldsClause names s old → old.mode ≡ mode.InAtom → stands_behind s c ≡ false → Grows names more → Grows old.variables ws
      → OnOk result (ws ≡ variables_in (c ∷ []) old.variables)
      → ((t : term.TermState) → HoldsFor names old.variables t old.terms → TakesFor result more ws (term.limited any_variable (Some 255) old.variables t c) new.terms)
      → new.mode ≡ mode.InAtom → new.variables ≡ ws → new.head ≡ old.head → new.body ≡ old.body → TakesClause result more (limited s c) new
  takes-in_atom (in_atom p vs t) h m n g k d f e i j l =
      let v : old.variables ≡ vs = h.parts.0.variables in
      let held : HoldsFor names old.variables t old.terms = subst (λ (us : List (List ℕ)). HoldsFor names us t old.terms) (sym v) h.parts.1 in
      in-takes names more vs ws p t c old new result h.reached h.parts.0 n g
      (subst (λ (us : List (List ℕ)). Grows us ws) v k)
      (subst (λ (us : List (List ℕ)). OnOk result (ws ≡ variables_in (c ∷ []) us)) v d)
      (subst (λ (us : List (List ℕ)). TakesFor result more ws (term.limited any_variable (Some 255) us t c) new.terms) v (f t held))
      e i j l
  takes-in_atom (at_atom p vs) h m n g k d f e i j l = let q : mode.InAtom ≡ mode.AtAtom = sym m ∙ h.parts.mode in cc
  takes-in_atom (ended w) h m n g k d f e i j l = let q : mode.InAtom ≡ mode.Ended = sym m ∙ h.parts.mode in cc
  takes-in_atom stuck h m n g k d f e i j l = absurd h.parts

-- the name of an atom
module _ (names more vs ws : List (List ℕ)) (p : AtomPlace) (x : List ℕ) (old new : ClauseReader) where
  named-takes : (result : Result (Unit {0}) TokenRefusal) → IsReached (at_atom p vs) → HoldsPlace names mode.AtAtom vs p old → Grows names more → Grows vs ws
      → OnOk result (ws ≡ vs) → TakesFor result more ws (Ok (term.named x alone)) new.terms → new.mode ≡ mode.InAtom → new.variables ≡ ws → new.head ≡ old.head → new.body ≡ old.body
      → TakesClause result more (Ok (in_atom p vs (term.named x alone))) new
  named-takes (Ok u) r h g k d f e i j l =
      let t : term.named x alone ≡ f.0 = cc in (
        in_atom p vs (term.named x alone),
        (
          refl,
          record {
            reached = IsReached-next (at_atom p vs) (in_atom p vs (term.named x alone)) (a_name x) r refl;
            parts = subst (λ v. HoldsPlace more mode.InAtom v p new × HoldsFor more v (term.named x alone) new.terms) d
                (place-moved names more vs ws mode.AtAtom mode.InAtom p old new h g k e i j l, subst (λ y. HoldsFor more ws y new.terms) (sym t) f.1.1);
          },
        ),
      )
  named-takes (Err (Refused code)) r h g k d f e i j l = cc
  named-takes (Err OutOfMemory) r h g k d f e i j l = tt

module _ (result : Result (Unit {0}) TokenRefusal) (names more ws : List (List ℕ)) (x : List ℕ) (old new : ClauseReader) (fresh : TermReader) where
  pub takes-name : (s : ClauseState) → HoldsClause names s old → old.mode ≡ mode.AtAtom → Grows names more → Grows old.variables ws → OnOk result (ws ≡ old.variables)
      → ((number : List ℕ → ℕ) (leaf : List ℕ → Term) → Holds number leaf (term.wants alone) fresh)
      → ((t : term.TermState) → HoldsFor names old.variables t fresh → TakesFor result more ws (term.limited any_variable (Some 255) old.variables t (a_name x)) new.terms)
      → new.mode ≡ mode.InAtom → new.variables ≡ ws → new.head ≡ old.head → new.body ≡ old.body → TakesClause result more (limited s (a_name x)) new
  takes-name (at_atom p vs) h m g k d b f e i j l =
      let v : old.variables ≡ vs = h.parts.variables in
      let taken = f (term.wants alone) (λ number numbers a o. b number (numbered numbers)) in
      named-takes names more vs ws p x old new result h.reached h.parts g
      (subst (λ (us : List (List ℕ)). Grows us ws) v k)
      (subst (λ (us : List (List ℕ)). OnOk result (ws ≡ us)) v d)
      taken e i j l
  takes-name (in_atom p vs t) h m g k d b f e i j l = let q : mode.AtAtom ≡ mode.InAtom = sym m ∙ h.parts.0.mode in cc
  takes-name (ended w) h m g k d b f e i j l = let q : mode.AtAtom ≡ mode.Ended = sym m ∙ h.parts.mode in cc
  takes-name stuck h m g k d b f e i j l = absurd h.parts

-- what the reader says of a separator
pub stands_behind-told : (names : List (List ℕ)) (s : ClauseState) (c : Lexeme) (r : ClauseReader) (b : Bool) → AreDifferent names → AreDifferent r.variables → HoldsClause names s r
    → r.mode ≡ mode.InAtom → ((number : List ℕ → ℕ) (leaf : List ℕ → Term) (t : term.TermState) → Holds number leaf t r.terms → b ≡ is_some (term.whole_of t))
    → is_separator c && b ≡ stands_behind s c
stands_behind-told names (in_atom p vs t) c r b d dv h m f =
    let held = h.parts.1 (index_in names) (index_in vs) (Agrees-index_in names d) (subst (λ (us : List (List ℕ)). Agrees (index_in us) us) h.parts.0.variables (Agrees-index_in r.variables dv)) in
    ap (λ o. is_separator c && o) (f (index_in names) (numbered (index_in vs)) t held)
stands_behind-told names (at_atom p vs) c r b d dv h m f = let q : mode.InAtom ≡ mode.AtAtom = sym m ∙ h.parts.mode in cc
stands_behind-told names (ended w) c r b d dv h m f = let q : mode.InAtom ≡ mode.Ended = sym m ∙ h.parts.mode in cc
stands_behind-told names stuck c r b d dv h m f = absurd h.parts

-- the atom that was read is the one that is meant
pub term-atom : (o : Option Term) (t : Term) (number numbers : List ℕ → ℕ) (terms : TermReader) (a : Atom)
    → ((number : List ℕ → ℕ) (leaf : List ℕ → Term) (s : term.TermState) (w : WrittenTerm) → Holds number leaf s terms → term.whole_of s ≡ Some w → o ≡ Some (term_meant number leaf w))
    → o ≡ Some t → ((name : ℕ) (ts : Args) → t ≡ app name ts → (a.name ≡ name) × (a.arguments ≡ terms_in ts)) → (s : term.TermState) (w : WrittenAtom)
    → Holds number (numbered numbers) s terms → whole_atom s ≡ Some w → a ≡ atom_meant number numbers w
term-atom o t number numbers terms a f e g s w h k =
    let i = f number (numbered numbers) s (application w.text w.args) h (whole_atom-term s w k) in
    let j : t ≡ app (number w.text) (args_meant number (numbered numbers) w.args) = cc in
    let p = g (number w.text) (args_meant number (numbered numbers) w.args) j in
    ap₂ (λ n ts. (let b : Atom = record { name = n; arguments = ts } in b)) p.0 p.1

pub atom-read : (result : Result Atom OutOfMemoryError) (o : Option Term) (t : Term) (terms : TermReader)
    → ((number : List ℕ → ℕ) (leaf : List ℕ → Term) (s : term.TermState) (w : WrittenTerm) → Holds number leaf s terms → term.whole_of s ≡ Some w → o ≡ Some (term_meant number leaf w))
    → o ≡ Some t → ((name : ℕ) (ts : Args) → t ≡ app name ts → IfOk result (λ a. (a.name ≡ name) × (a.arguments ≡ terms_in ts))) → IfOk result (IsAtomOf terms)
atom-read (Ok a) o t terms f e g = λ number numbers s w h k. term-atom o t number numbers terms a f e g s w h k
atom-read (Err r) o t terms f e g = tt

numbers-of : (vs ws : List (List ℕ)) → AreDifferent vs → vs ≡ ws → Agrees (index_in ws) ws
numbers-of vs ws d e = subst (λ (us : List (List ℕ)). Agrees (index_in us) us) e (Agrees-index_in vs d)

map-snoc : {A B : Type 0} (f : A → B) (xs : List A) (x : A) → map f (xs ++ x ∷ []) ≡ map f xs ++ f x ∷ []
map-snoc f [] x = refl
map-snoc f (y ∷ ys) x = ap (λ l. f y ∷ l) (map-snoc f ys x)

-- a separator behind an atom
module _ (names : List (List ℕ)) (s : ClauseState) (c : Lexeme) (old : ClauseReader) (d : AreDifferent names) (dv : AreDifferent old.variables) (h : HoldsClause names s old) (b : StandsBehind s c) where
  held-parts : HoldsParts names (in_atom b.place b.variables b.state) old
  held-parts = subst (λ q. HoldsParts names q old) b.is h.parts

  -- the head stands just where the place lies in the body
  no-head : is_some old.head ≡ false → b.place ≡ at_head
  no-head e = from b.place (held-parts.0.head (index_in names) (index_in b.variables) (Agrees-index_in names d) (numbers-of old.variables b.variables dv held-parts.0.variables)) where
    from : (p : AtomPlace) → old.head ≡ head_at (index_in names) (index_in b.variables) p → p ≡ at_head
    from at_head f = refl
    from (in_body head done) f = let n : is_some old.head ≡ true = ap is_some f in cc

  a-head : is_some old.head ≡ true → (head : WrittenAtom) × ((done : List WrittenAtom) × (b.place ≡ in_body head done))
  a-head e = from b.place (held-parts.0.head (index_in names) (index_in b.variables) (Agrees-index_in names d) (numbers-of old.variables b.variables dv held-parts.0.variables)) where
    from : (p : AtomPlace) → old.head ≡ head_at (index_in names) (index_in b.variables) p → (head : WrittenAtom) × ((done : List WrittenAtom) × (p ≡ in_body head done))
    from at_head f = let n : is_some old.head ≡ false = ap is_some f in cc
    from (in_body head done) f = (head, (done, refl))

  at-place : (p : AtomPlace) → b.place ≡ p → limited s c ≡ within (behind_atom p b.variables b.whole.atom c)
  at-place p e = behind-told s c b ∙ ap (λ q. within (behind_atom q b.variables b.whole.atom c)) e

  atom-is : (a : Atom) → IsAtomOf old.terms a → (number numbers : List ℕ → ℕ) → Agrees number names → Agrees numbers b.variables → a ≡ atom_meant number numbers b.whole.atom
  atom-is a f number numbers g k = f number numbers b.state b.whole.atom (held-parts.1 number numbers g k) b.whole.whole

  -- the atom is the head
  head-put : (m : Mode) (new : ClauseReader) (a : Atom) → is_some old.head ≡ false → IsAtomOf old.terms a
      → new ≡ record old { mode = m; head = Some a; terms = new.terms } → HoldsPlace names m b.variables (in_body b.whole.atom []) new
  head-put m new a e f g =
      let k = held-parts in
      rw g record {
        mode = refl;
        variables = k.0.variables;
        head = λ number numbers i j. ap Some (atom-is a f number numbers i j);
        body = λ number numbers i j. k.0.body number numbers i j ∙ ap (body_at number numbers) (no-head e);
      }

  -- the atom is the last one of the body
  body-put : (m : Mode) (new : ClauseReader) (a : Atom) (head : WrittenAtom) (done : List WrittenAtom) → b.place ≡ in_body head done → IsAtomOf old.terms a
      → new ≡ record old { mode = m; body = old.body ++ a ∷ []; terms = new.terms } → HoldsPlace names m b.variables (in_body head (done ++ b.whole.atom ∷ [])) new
  body-put m new a head done e f g =
      let k = subst (λ (p : AtomPlace). HoldsPlace names mode.InAtom b.variables p old) e held-parts.0 in
      rw g record {
        mode = refl;
        variables = k.variables;
        head = λ number numbers i j. k.head number numbers i j;
        body = λ number numbers i j. ap₂ (λ xs x. xs ++ x ∷ []) (k.body number numbers i j) (atom-is a f number numbers i j)
            ∙ sym (map-snoc (atom_meant number numbers) done b.whole.atom);
      }

module _ (names : List (List ℕ)) (s : ClauseState) (old : ClauseReader) (d : AreDifferent names) (dv : AreDifferent old.variables) (h : HoldsClause names s old) where
  -- `:-` behind a head
  pub refuses-if : stands_behind s (a_sign sign.If) ≡ true → is_some old.head ≡ true → limited s (a_sign sign.If) ≡ Err Unexpected
  refuses-if e f =
      let b = stands-told s (a_sign sign.If) h.reached e in
      let k = a-head names s (a_sign sign.If) old d dv h b f in
      at-place names s (a_sign sign.If) old d dv h b (in_body k.0 k.1.0) k.1.1

  pub takes-if : (result : Result (Unit {0}) TokenRefusal) (new : ClauseReader) → stands_behind s (a_sign sign.If) ≡ true → is_some old.head ≡ false
      → OnOk result ((a : Atom) × (IsAtomOf old.terms a × (new ≡ record old { mode = mode.AtAtom; head = Some a; terms = new.terms })))
      → IfErr result (λ r. r ≡ OutOfMemory) → TakesClause result names (limited s (a_sign sign.If)) new
  takes-if (Ok u) new e f g i =
      let b = stands-told s (a_sign sign.If) h.reached e in
      let q = at-place names s (a_sign sign.If) old d dv h b at_head (no-head names s (a_sign sign.If) old d dv h b f) in
      let t = at_atom (in_body b.whole.atom []) b.variables in
      (t, (q, record { reached = IsReached-next s t (a_sign sign.If) h.reached q; parts = head-put names s (a_sign sign.If) old d dv h b mode.AtAtom new g.0 f g.1.0 g.1.1 }))
  takes-if (Err (Refused code)) new e f g i = cc
  takes-if (Err OutOfMemory) new e f g i = tt

  -- a comma behind an atom of the body
  pub refuses-comma : stands_behind s (a_sign sign.Comma) ≡ true → is_some old.head ≡ false → limited s (a_sign sign.Comma) ≡ Err Unexpected
  refuses-comma e f =
      let b = stands-told s (a_sign sign.Comma) h.reached e in
      at-place names s (a_sign sign.Comma) old d dv h b at_head (no-head names s (a_sign sign.Comma) old d dv h b f)

  pub takes-comma : (result : Result (Unit {0}) TokenRefusal) (new : ClauseReader) → stands_behind s (a_sign sign.Comma) ≡ true → is_some old.head ≡ true
      → OnOk result ((a : Atom) × (IsAtomOf old.terms a × (new ≡ record old { mode = mode.AtAtom; body = old.body ++ a ∷ []; terms = new.terms })))
      → IfErr result (λ r. r ≡ OutOfMemory) → TakesClause result names (limited s (a_sign sign.Comma)) new
  takes-comma (Ok u) new e f g i =
      let b = stands-told s (a_sign sign.Comma) h.reached e in
      let k = a-head names s (a_sign sign.Comma) old d dv h b f in
      let q = at-place names s (a_sign sign.Comma) old d dv h b (in_body k.0 k.1.0) k.1.1 in
      let t = at_atom (in_body k.0 (k.1.0 ++ b.whole.atom ∷ [])) b.variables in
      (t, (q, record { reached = IsReached-next s t (a_sign sign.Comma) h.reached q; parts = body-put names s (a_sign sign.Comma) old d dv h b mode.AtAtom new g.0 k.0 k.1.0 k.1.1 g.1.0 g.1.1 }))
  takes-comma (Err (Refused code)) new e f g i = cc
  takes-comma (Err OutOfMemory) new e f g i = tt

  -- the variables of the clause that the dot ends
  end-variables : (b : StandsBehind s (a_sign sign.Dot)) (w : WrittenClause) → limited s (a_sign sign.Dot) ≡ Ok (ended w) → b.variables ≡ clause_variables w
  end-variables b w q =
      let tokens = h.reached.0 in
      let v : b.variables ≡ variables_in tokens [] = in_atom-variables tokens b.place b.variables b.state (h.reached.1 ∙ b.is) in
      let r = IsReached-next s (ended w) (a_sign sign.Dot) h.reached q in
      v ∙ sym (variables_in-append tokens (a_sign sign.Dot ∷ []) []) ∙ sym (ended-variables r.0 w r.1)

  -- the dot behind the last atom
  pub takes-fact : (result : Result (Unit {0}) TokenRefusal) (new : ClauseReader) → stands_behind s (a_sign sign.Dot) ≡ true → is_some old.head ≡ false
      → OnOk result ((a : Atom) × (IsAtomOf old.terms a × (new ≡ record old { mode = mode.Ended; head = Some a; terms = new.terms })))
      → IfErr result (λ r. r ≡ OutOfMemory) → TakesClause result names (limited s (a_sign sign.Dot)) new
  takes-fact (Ok u) new e f g i =
      let b = stands-told s (a_sign sign.Dot) h.reached e in
      let q = at-place names s (a_sign sign.Dot) old d dv h b at_head (no-head names s (a_sign sign.Dot) old d dv h b f) in
      let w = clause_of b.whole.atom [] in (
        ended w,
        (
          q,
          record {
            reached = IsReached-next s (ended w) (a_sign sign.Dot) h.reached q;
            parts = subst (λ vs. HoldsPlace names mode.Ended vs (in_body b.whole.atom []) new) (end-variables b w q)
                (head-put names s (a_sign sign.Dot) old d dv h b mode.Ended new g.0 f g.1.0 g.1.1);
          },
        ),
      )
  takes-fact (Err (Refused code)) new e f g i = cc
  takes-fact (Err OutOfMemory) new e f g i = tt

  pub takes-rule : (result : Result (Unit {0}) TokenRefusal) (new : ClauseReader) → stands_behind s (a_sign sign.Dot) ≡ true → is_some old.head ≡ true
      → OnOk result ((a : Atom) × (IsAtomOf old.terms a × (new ≡ record old { mode = mode.Ended; body = old.body ++ a ∷ []; terms = new.terms })))
      → IfErr result (λ r. r ≡ OutOfMemory) → TakesClause result names (limited s (a_sign sign.Dot)) new
  takes-rule (Ok u) new e f g i =
      let b = stands-told s (a_sign sign.Dot) h.reached e in
      let k = a-head names s (a_sign sign.Dot) old d dv h b f in
      let q = at-place names s (a_sign sign.Dot) old d dv h b (in_body k.0 k.1.0) k.1.1 in
      let w = clause_of k.0 (k.1.0 ++ b.whole.atom ∷ []) in (
        ended w,
        (
          q,
          record {
            reached = IsReached-next s (ended w) (a_sign sign.Dot) h.reached q;
            parts = subst (λ vs. HoldsPlace names mode.Ended vs (in_body k.0 (k.1.0 ++ b.whole.atom ∷ [])) new) (end-variables b w q)
                (body-put names s (a_sign sign.Dot) old d dv h b mode.Ended new g.0 k.0 k.1.0 k.1.1 g.1.0 g.1.1);
          },
        ),
      )
  takes-rule (Err (Refused code)) new e f g i = cc
  takes-rule (Err OutOfMemory) new e f g i = tt

-- the clause that ended
pub clause-held : (names : List (List ℕ)) (w : WrittenClause) (r : ClauseReader) (head : Atom) (number : List ℕ → ℕ) → HoldsClause names (ended w) r → AreDifferent r.variables → Agrees number names
    → r.head ≡ Some head → (let c : Clause = record { head = head; body = r.body; variables = length r.variables } in c) ≡ clause_meant number w
clause-held names w r head number h dv a e =
    let v = h.parts.variables in
    let b = numbers-of r.variables (clause_variables w) dv v in
    let f : Some head ≡ Some (atom_meant number (index_in (clause_variables w)) w.head) = sym e ∙ h.parts.head number (index_in (clause_variables w)) a b in
    let g : head ≡ atom_meant number (index_in (clause_variables w)) w.head = cc in
    ap (λ x. (let c : Clause = record { head = x; body = r.body; variables = length r.variables } in c)) g
    ∙ ap (λ xs. (let c : Clause = record { head = atom_meant number (index_in (clause_variables w)) w.head; body = xs; variables = length r.variables } in c))
    (h.parts.body number (index_in (clause_variables w)) a b)
    ∙ ap (λ vs. (let c : Clause = record { head = atom_meant number (index_in (clause_variables w)) w.head; body = map (atom_meant number (index_in (clause_variables w))) w.body; variables = length vs } in c)) v

pub clause-headed : (names : List (List ℕ)) (w : WrittenClause) (r : ClauseReader) (number : List ℕ → ℕ) → HoldsClause names (ended w) r → AreDifferent r.variables → Agrees number names → r.head ≡ None → ⊥
clause-headed names w r number h dv a e =
    let f = sym e ∙ h.parts.head number (index_in (clause_variables w)) a (numbers-of r.variables (clause_variables w) dv h.parts.variables) in cc
