-- How a reader that holds a state of the machine takes a token.
use Rattle.std.specs.Prelude.{◌≡◌, ℕ, suc, ◌<◌, Bool, true, false, List, [], ◌∷◌, map, length, None, Result, Ok, Err, nat_eq, refl, if◌then◌else◌}
use Rattle.std.proofs.Common.{ap, sym, ◌∙◌, arith, subst}
use Rattle.std.proofs.lemmas.Bool.Decides.{nat_tests}
use Rattle.fpc_base.specs.declared.refusal.Code.TheVariants.{ManyArguments}
use Rattle.fpc_base.specs.declared.refusal.TokenRefusal.{TokenRefusal}
use Rattle.fpc_base.specs.declared.tokens.lexeme.Sign.TheVariants.{OpenParenthesis, CloseParenthesis, Comma}
use Rattle.fpc_base.specs.Lexeme.{Lexeme, a_name, a_variable, a_sign}
use Rattle.fpc_terms.specs.Term.{Term, Args, app, no_args, arg}
use Rattle.fpc_terms.specs.Partial.{with_term, opened, closed, innermost, turned, args_onto, arguments_of}
use Rattle.fpc_terms.specs.Written.{WrittenTerm, WrittenArgs, variable_word, application, no_words, words, term_meant, args_meant}
use Rattle.fpc_terms.specs.Spot.{Spot, alone, in_arguments, in_term}
use Rattle.fpc_terms.specs.Machine.{TermState, wants, named, has, ended, stuck, step, limited, within, behind, args_with, is_full}
use Rattle.fpc_terms.specs.declared.reader.Mode.TheVariants as mode
use Rattle.fpc_terms.specs.declared.reader.TermReader.{TermReader}
use Rattle.fpc_terms.specs.Holding.{base_at, frames_at, HasRoomAt, Holds, Takes}

length-map : {A B : Type 0} (f : A → B) (xs : List A) → length (map f xs) ≡ length xs
length-map f [] = refl
length-map f (x ∷ xs) = ap suc (length-map f xs)

args_meant-args_with : (number : List ℕ → ℕ) (leaf : List ℕ → Term) (ds : List WrittenTerm) (ts : WrittenArgs)
    → args_meant number leaf (args_with ds ts) ≡ args_onto (map (term_meant number leaf) ds) (args_meant number leaf ts)
args_meant-args_with number leaf [] ts = refl
args_meant-args_with number leaf (d ∷ ds) ts = args_meant-args_with number leaf ds (words d ts)

turned-args_onto : (ts : List Term) (us : Args) → turned (args_onto ts us) [] ≡ turned us ts
turned-args_onto [] us = refl
turned-args_onto (t ∷ ts) us = turned-args_onto ts (arg t us)

pub built-arguments : (us : Args) (ts : List Term) → arguments_of (turned us ts) ≡ args_onto ts us
built-arguments no_args ts = refl
built-arguments (arg u us) ts = built-arguments us (u ∷ ts)

module _ (number : List ℕ → ℕ) (leaf : List ℕ → Term) where
  -- one more argument has room at a spot
  innermost-at : (s : Spot) → HasRoomAt s → innermost (base_at number leaf s) (frames_at number leaf s) < 255
  innermost-at alone h = omega arith
  innermost-at (in_arguments ds) h = rw (length-map (term_meant number leaf) ds) h
  innermost-at (in_term x ds s) h = rw (length-map (term_meant number leaf) ds) h.0

  module _ (known : List ℕ → Bool) where
    -- a variable
    pub takes-variable : (s : TermState) (text : List ℕ) (old new : TermReader) (t : Term) → Holds number leaf s old → old.mode ≡ mode.Wants → known text ≡ true → leaf text ≡ t
        → new ≡ record old { mode = mode.Has; terms = with_term t old.terms.base old.terms.frames } → Takes (Ok tt) number leaf (limited known None [] s (a_variable text)) new
    takes-variable (wants spot) text old new t h m k l e = (
      has (variable_word text) spot,
      (
        ap (λ (b : Bool). within (is_full (if b then has (variable_word text) spot else stuck)) false (if b then has (variable_word text) spot else stuck)) k,
        rw e (record { mode = refl; is_alone = h.is_alone; terms = rw (h.terms, l) refl; room = h.room }),
      ),
    )
    takes-variable (named x spot) text old new t h m k l e = let n : ⊥ = cc in absurd n
    takes-variable (has u spot) text old new t h m k l e = let n : ⊥ = cc in absurd n
    takes-variable (ended args) text old new t h m k l e = let n : ⊥ = cc in absurd n
    takes-variable stuck text old new t h m k l e = absurd h.room

    -- no room for an argument that comes behind fewer than 255
    pub takes-full : (s : TermState) (text : List ℕ) (old : TermReader) → Holds number leaf s old → old.mode ≡ mode.Wants → (innermost old.terms.base old.terms.frames < 255 → ⊥) → ⊥
    takes-full (wants spot) text old h m f = f (rw h.terms (innermost-at spot h.room))
    takes-full (named x spot) text old h m f = cc
    takes-full (has u spot) text old h m f = cc
    takes-full (ended args) text old h m f = cc
    takes-full stuck text old h m f = h.room

    pub takes-name : (s : TermState) (text : List ℕ) (old new : TermReader) (id : ℕ) → Holds number leaf s old → old.mode ≡ mode.Wants → number text ≡ id
        → new ≡ record old { mode = mode.Named id } → Takes (Ok tt) number leaf (limited known None [] s (a_name text)) new
    takes-name (wants spot) text old new id h m k e =
        (named text spot, (refl, rw e (record { mode = ap mode.Named (sym k); is_alone = h.is_alone; terms = h.terms; room = h.room })))
    takes-name (named x spot) text old new id h m k e = let n : ⊥ = cc in absurd n
    takes-name (has u spot) text old new id h m k e = let n : ⊥ = cc in absurd n
    takes-name (ended args) text old new id h m k e = let n : ⊥ = cc in absurd n
    takes-name stuck text old new id h m k e = absurd h.room

    -- an application has room where its name stood
    pub named-room : (s : TermState) (name : ℕ) (old : TermReader) → Holds number leaf s old → old.mode ≡ mode.Named name → (innermost old.terms.base old.terms.frames < 255 → ⊥) → ⊥
    named-room (named x spot) name old h m f = f (rw h.terms (innermost-at spot h.room))
    named-room (wants spot) name old h m f = cc
    named-room (has u spot) name old h m f = cc
    named-room (ended args) name old h m f = cc
    named-room stuck name old h m f = h.room

    pub takes-open : (s : TermState) (old new : TermReader) (name : ℕ) → Holds number leaf s old → old.mode ≡ mode.Named name
        → new ≡ record old { mode = mode.Wants; terms = opened name old.terms.base old.terms.frames } → Takes (Ok tt) number leaf (limited known None [] s (a_sign OpenParenthesis)) new
    takes-open (named x spot) old new name h m e =
        let k : number x ≡ name = cc in
        (wants (in_term x [] spot), (refl, rw e (record { mode = refl; is_alone = h.is_alone; terms = rw (h.terms, k) refl; room = (omega arith, h.room) })))
    takes-open (wants spot) old new name h m e = let n : ⊥ = cc in absurd n
    takes-open (has u spot) old new name h m e = let n : ⊥ = cc in absurd n
    takes-open (ended args) old new name h m e = let n : ⊥ = cc in absurd n
    takes-open stuck old new name h m e = absurd h.room

    named-behind : (x : List ℕ) (spot : Spot) (c : Lexeme) → (c ≡ a_sign OpenParenthesis → ⊥) → step known (named x spot) c ≡ behind (application x no_words) spot c
    named-behind x spot (a_sign OpenParenthesis) h = absurd (h refl)
    named-behind x spot c h = refl

    -- a name without arguments is a term, and the token stands behind it
    pub takes-constant : (s : TermState) (c : Lexeme) (old middle new : TermReader) (name : ℕ) (r : Result (Unit {0}) TokenRefusal) → Holds number leaf s old → old.mode ≡ mode.Named name
        → (c ≡ a_sign OpenParenthesis → ⊥) → middle ≡ record old { mode = mode.Has; terms = with_term (app name no_args) old.terms.base old.terms.frames }
        → ((t : TermState) → Holds number leaf t middle → Takes r number leaf (limited known None [] t c) new) → Takes r number leaf (limited known None [] s c) new
    takes-constant (named x spot) c old middle new name r h m o e go_on =
        let k : number x ≡ name = cc in
        let g : Holds number leaf (has (application x no_words) spot) middle = rw e (record { mode = refl; is_alone = h.is_alone; terms = rw (h.terms, k) refl; room = h.room }) in
        subst (λ (t : TermState). Takes r number leaf (within (is_full t) false t) new) (sym (named-behind x spot c o)) (go_on (has (application x no_words) spot) g)
    takes-constant (wants spot) c old middle new name r h m o e go_on = let n : ⊥ = cc in absurd n
    takes-constant (has u spot) c old middle new name r h m o e go_on = let n : ⊥ = cc in absurd n
    takes-constant (ended args) c old middle new name r h m o e go_on = let n : ⊥ = cc in absurd n
    takes-constant stuck c old middle new name r h m o e go_on = absurd h.room

    comma-next : (next : TermState) (n : ℕ) → is_full next ≡ nat_eq n 255 → n < 255 → within (is_full next) false next ≡ within false false next
    comma-next next n e l = let d : nat_eq n 255 ≡ false = grind (arith, nat_tests) in ap (λ (b : Bool). within b false next) (e ∙ d)

    -- a comma, where there is room behind the term
    pub takes-comma : (s : TermState) (old new : TermReader) → Holds number leaf s old → old.mode ≡ mode.Has → (old.is_alone ≡ true → old.terms.frames ≡ [] → ⊥)
        → innermost old.terms.base old.terms.frames < 255 → new ≡ record old { mode = mode.Wants } → Takes (Ok tt) number leaf (limited known None [] s (a_sign Comma)) new
    takes-comma (has u alone) old new h m a l e = absurd (a h.is_alone (rw h.terms refl))
    takes-comma (has u (in_arguments ds)) old new h m a l e =
        let f : suc (length (map (term_meant number leaf) ds)) < 255 = rw h.terms at l in
        let g : suc (length ds) < 255 = rw (length-map (term_meant number leaf) ds) at f in (
          wants (in_arguments (u ∷ ds)),
          (
            comma-next (wants (in_arguments (u ∷ ds))) (suc (length ds)) refl g,
            rw e (record { mode = refl; is_alone = h.is_alone; terms = h.terms; room = g }),
          ),
        )
    takes-comma (has u (in_term x ds spot)) old new h m a l e =
        let f : suc (length (map (term_meant number leaf) ds)) < 255 = rw h.terms at l in
        let g : suc (length ds) < 255 = rw (length-map (term_meant number leaf) ds) at f in (
          wants (in_term x (u ∷ ds) spot),
          (
            comma-next (wants (in_term x (u ∷ ds) spot)) (suc (length ds)) refl g,
            rw e (record { mode = refl; is_alone = h.is_alone; terms = h.terms; room = (g, h.room.1) }),
          ),
        )
    takes-comma (wants spot) old new h m a l e = let n : ⊥ = cc in absurd n
    takes-comma (named x spot) old new h m a l e = let n : ⊥ = cc in absurd n
    takes-comma (ended args) old new h m a l e = let n : ⊥ = cc in absurd n
    takes-comma stuck old new h m a l e = absurd h.room

    comma-full : (next : TermState) (n : ℕ) → is_full next ≡ nat_eq (suc n) 255 → n < 255 → (suc n < 255 → ⊥) → (b : Bool) → within (is_full next) b next ≡ within true b next
    comma-full next n e l f b = let d : nat_eq (suc n) 255 ≡ true = grind (arith, nat_tests) in ap (λ (t : Bool). within t b next) (e ∙ d)

    -- a comma, where there is no room behind the term
    pub refuses-comma : (s : TermState) (old : TermReader) → Holds number leaf s old → old.mode ≡ mode.Has → (old.is_alone ≡ true → old.terms.frames ≡ [] → ⊥)
        → (innermost old.terms.base old.terms.frames < 255 → ⊥) → limited known None [] s (a_sign Comma) ≡ Err ManyArguments
    refuses-comma (has u alone) old h m a l = absurd (a h.is_alone (rw h.terms refl))
    refuses-comma (has u (in_arguments ds)) old h m a l =
        comma-full (wants (in_arguments (u ∷ ds))) (length ds) refl h.room
        (λ g. l (rw h.terms (let k : suc (length (map (term_meant number leaf) ds)) < 255 = rw (length-map (term_meant number leaf) ds) g in k))) false
    refuses-comma (has u (in_term x ds spot)) old h m a l =
        comma-full (wants (in_term x (u ∷ ds) spot)) (length ds) refl h.room.0
        (λ g. l (rw h.terms (let k : suc (length (map (term_meant number leaf) ds)) < 255 = rw (length-map (term_meant number leaf) ds) g in k))) false
    refuses-comma (wants spot) old h m a l = let n : ⊥ = cc in absurd n
    refuses-comma (named x spot) old h m a l = let n : ⊥ = cc in absurd n
    refuses-comma (ended args) old h m a l = let n : ⊥ = cc in absurd n
    refuses-comma stuck old h m a l = absurd h.room

    -- the arguments of a term are whole
    pub takes-close : (s : TermState) (old new : TermReader) → Holds number leaf s old → old.mode ≡ mode.Has → (old.terms.frames ≡ [] → ⊥)
        → new ≡ record old { terms = closed old.terms.base old.terms.frames } → Takes (Ok tt) number leaf (limited known None [] s (a_sign CloseParenthesis)) new
    takes-close (has u alone) old new h m o e = absurd (o (rw h.terms refl))
    takes-close (has u (in_arguments ds)) old new h m o e = absurd (o (rw h.terms refl))
    takes-close (has u (in_term x ds spot)) old new h m o e = (
      has (application x (args_with ds (words u no_words))) spot,
      (
        refl,
        rw e (record { mode = h.mode; is_alone = h.is_alone; terms = rw h.terms (rw (args_meant-args_with number leaf ds (words u no_words)) refl); room = h.room.1 }),
      ),
    )
    takes-close (wants spot) old new h m o e = let n : ⊥ = cc in absurd n
    takes-close (named x spot) old new h m o e = let n : ⊥ = cc in absurd n
    takes-close (ended args) old new h m o e = let n : ⊥ = cc in absurd n
    takes-close stuck old new h m o e = absurd h.room

    not-open : {A : Type 0} (x : A) (xs : List A) → x ∷ xs ≡ [] → ⊥
    not-open x xs e = cc

    -- the arguments of the atom are whole
    pub takes-end : (s : TermState) (old new : TermReader) → Holds number leaf s old → old.mode ≡ mode.Has → old.terms.frames ≡ [] → (old.is_alone ≡ true → ⊥)
        → new ≡ record old { mode = mode.Ended } → Takes (Ok tt) number leaf (limited known None [] s (a_sign CloseParenthesis)) new
    takes-end (has u alone) old new h m o a e = absurd (a h.is_alone)
    takes-end (has u (in_arguments ds)) old new h m o a e = (
      ended (args_with ds (words u no_words)),
      (
        refl,
        rw e (record { mode = refl; is_alone = h.is_alone; terms = rw h.terms (rw (args_meant-args_with number leaf ds (words u no_words), turned-args_onto) refl); room = tt }),
      ),
    )
    takes-end (has u (in_term x ds spot)) old new h m o a e = let n : ⊥ = not-open _ _ (rw h.terms at o) in absurd n
    takes-end (wants spot) old new h m o a e = let n : ⊥ = cc in absurd n
    takes-end (named x spot) old new h m o a e = let n : ⊥ = cc in absurd n
    takes-end (ended args) old new h m o a e = let n : ⊥ = cc in absurd n
    takes-end stuck old new h m o a e = absurd h.room
