-- How a token is taken with tables of names and variables that grow.
use Rattle.std.specs.Prelude.{◌≡◌, ℕ, Bool, true, false, List, [], ◌∷◌, Option, Some, None, Result, Ok, Err, refl, slice_get, is_some, not, ◌&&◌}
use Rattle.std.proofs.Common.{ap, sym, subst, ◌⊎◌, inl, inr}
use Rattle.fpc_base.specs.declared.refusal.Code.{Code}
use Rattle.fpc_base.specs.declared.refusal.Code.TheVariants.{Unexpected, ManyVariables}
use Rattle.fpc_base.specs.declared.refusal.Refusal.{Refusal}
use Rattle.fpc_base.specs.declared.refusal.ParseRefusal.TheVariants as parse
use Rattle.fpc_base.specs.declared.tokens.lexeme.Sign.TheVariants.{OpenParenthesis}
use Rattle.fpc_base.specs.declared.refusal.TokenRefusal.{TokenRefusal}
use Rattle.fpc_base.specs.declared.refusal.TokenRefusal.TheVariants.{Refused, OutOfMemory}
use Rattle.fpc_base.specs.declared.tokens.lexeme.Lexeme as code
use Rattle.fpc_base.specs.Lexeme.{Lexeme, a_variable, a_sign, lexeme_as, Item, says, fault}
use Rattle.fpc_base.specs.Reading.{ReadsFront}
use Rattle.fpc_base.specs.Refusal.{placed}
use Rattle.std.proofs.lemmas.Bool.{and_parts}
use Rattle.fpc_terms.specs.Name.{Agrees, Grows, AreDifferent, index_in}
use Rattle.fpc_terms.specs.Term.{Term, variable}
use Rattle.fpc_terms.specs.Written.{WrittenTerm, IsTerm, variable_word, application, no_words, variables_in}
use Rattle.fpc_terms.specs.Spot.{Spot, alone, in_arguments, in_term, TermLimits}
use Rattle.fpc_terms.specs.Machine.{TermState, wants, named, has, ended, stuck, step, limited, within, is_full, is_too_many, behind, whole_of, is_final, is_open, ends_before, IsLive}
use Rattle.fpc_terms.specs.declared.reader.Mode.TheVariants as mode
use Rattle.fpc_terms.specs.declared.reader.TermReader.{TermReader}
use Rattle.fpc_terms.specs.Holding.{Holds, Takes, is_variable}
use Rattle.fpc_terms.specs.ReadTerm.{any_variable, numbered, HoldsFor, TakesFor, IsTermRefusal, Leads}
use Rattle.fpc_terms.proofs.Places.{index_in-different}
use Rattle.fpc_terms.proofs.TermReading.{IsAt, IsAt-start, IsAt-taken, IsAt-refused, IsAt-bad, IsAt-unfinished, IsAt-final, IsAt-end, IsAt-ends, IsAt-variables}

pub Agrees-index_in : (texts : List (List ℕ)) → AreDifferent texts → Agrees (index_in texts) texts
Agrees-index_in texts d k text e = index_in-different texts k text d e

-- the tables' own numberings
pub own : (names vars : List (List ℕ)) (s : TermState) (r : TermReader) → AreDifferent names → AreDifferent vars → HoldsFor names vars s r → Holds (index_in names) (numbered (index_in vars)) s r
own names vars s r dn dv h = h (index_in names) (index_in vars) (Agrees-index_in names dn) (Agrees-index_in vars dv)

pub HoldsFor-grown : (names more vars further : List (List ℕ)) (s : TermState) (r : TermReader) → Grows names more → Grows vars further → HoldsFor names vars s r → HoldsFor more further s r
HoldsFor-grown names more vars further s r gn gv h = λ number numbers an av. h number numbers (λ k text e. an k text (gn k text e)) (λ k text e. av k text (gv k text e))

same-state : (known : List ℕ → Bool) (next : Result TermState Code) (t u : TermState) → next ≡ Ok t → next ≡ Ok u → u ≡ t
same-state known next t u e f = cc

-- what each numbering tells, told once
pub told-for : (result : Result (Unit {0}) TokenRefusal) (names vars : List (List ℕ)) (next : Result TermState Code) (r : TermReader) → AreDifferent names → AreDifferent vars
    → ((number numbers : List ℕ → ℕ) → Agrees number names → Agrees numbers vars → Takes result number (numbered numbers) next r) → TakesFor result names vars next r
told-for (Ok u) names vars next r dn dv h =
    let first : (t : TermState) × ((next ≡ Ok t) × Holds (index_in names) (numbered (index_in vars)) t r) = h (index_in names) (index_in vars) (Agrees-index_in names dn) (Agrees-index_in vars dv) in (
      first.0,
      (
        first.1.0,
        λ number numbers an av.
            (let other : (t : TermState) × ((next ≡ Ok t) × Holds number (numbered numbers) t r) = h number numbers an av in
            let e : other.0 ≡ first.0 = same-state any_variable next first.0 other.0 first.1.0 other.1.0 in
            subst (λ (t : TermState). Holds number (numbered numbers) t r) e other.1.1),
      ),
    )
told-for (Err (Refused code)) names vars next r dn dv h = h (index_in names) (index_in vars) (Agrees-index_in names dn) (Agrees-index_in vars dv)
told-for (Err OutOfMemory) names vars next r dn dv h = tt

few-same : (most : Option ℕ) (vars : List (List ℕ)) (s : TermState) (c : Lexeme) → is_too_many most vars c ≡ false → limited any_variable None [] s c ≡ limited any_variable most vars s c
few-same most vars s c e = ap (λ (b : Bool). within (is_full (step any_variable s c)) b (step any_variable s c)) (sym e)

not-too_many : (most : Option ℕ) (vars : List (List ℕ)) (c : code.Lexeme) → is_variable c ≡ false → is_too_many most vars (lexeme_as c) ≡ false
not-too_many None vars c e = refl
not-too_many (Some n) vars (code.TheVariants.Name x) e = refl
not-too_many (Some n) vars (code.TheVariants.Variable x) e = cc
not-too_many (Some n) vars (code.TheVariants.Number x) e = refl
not-too_many (Some n) vars (code.TheVariants.Sign x) e = refl
not-too_many (Some n) vars code.TheVariants.Unused e = refl

-- a token that is no variable
pub taken-other : (result : Result (Unit {0}) TokenRefusal) (most : Option ℕ) (names more vars : List (List ℕ)) (s : TermState) (c : code.Lexeme) (old new : TermReader)
    → AreDifferent more → AreDifferent vars → Grows names more → is_variable c ≡ false
    → ((number : List ℕ → ℕ) (leaf : List ℕ → Term) (known : List ℕ → Bool) (s : TermState) → Agrees number more → Holds number leaf s old → is_variable c ≡ false → Takes result number leaf (limited known None [] s (lexeme_as c)) new)
    → HoldsFor names vars s old → TakesFor result more vars (limited any_variable most vars s (lexeme_as c)) new
taken-other result most names more vars s c old new dn dv g v h holds =
    told-for result more vars (limited any_variable most vars s (lexeme_as c)) new dn dv
    (λ number numbers an av. subst (λ (o : Result TermState Code). Takes result number (numbered numbers) o new) (few-same most vars s (lexeme_as c) (not-too_many most vars c v))
    (h number (numbered numbers) any_variable s an (holds number numbers (λ k text e. an k text (g k text e)) av) v))

-- a variable that gets its number
pub taken-variable : (result : Result (Unit {0}) TokenRefusal) (most : Option ℕ) (names vars further : List (List ℕ)) (s : TermState) (x : List ℕ) (old new : TermReader) (k : ℕ)
    → AreDifferent names → AreDifferent further → Grows vars further → is_too_many most vars (a_variable x) ≡ false → slice_get further k ≡ Some x
    → ((number : List ℕ → ℕ) (leaf : List ℕ → Term) (known : List ℕ → Bool) (s : TermState) (text : List ℕ) → Holds number leaf s old → known text ≡ true → leaf text ≡ variable k
    → Takes result number leaf (limited known None [] s (a_variable text)) new)
    → HoldsFor names vars s old → TakesFor result names further (limited any_variable most vars s (a_variable x)) new
taken-variable result most names vars further s x old new k dn dv g m at h holds =
    told-for result names further (limited any_variable most vars s (a_variable x)) new dn dv
    (λ number numbers an av. subst (λ (o : Result TermState Code). Takes result number (numbered numbers) o new) (few-same most vars s (a_variable x) m)
    (h number (numbered numbers) any_variable s x (holds number numbers an (λ j text e. av j text (g j text e))) refl (ap variable (av k x at))))

behind-variable : (u : WrittenTerm) (s : Spot) (x : List ℕ) → behind u s (a_variable x) ≡ stuck
behind-variable u alone x = refl
behind-variable u (in_arguments ds) x = refl
behind-variable u (in_term y ds s) x = refl

stuck-refused : (next : TermState) (many : Bool) → next ≡ stuck → within (is_full next) many next ≡ Err Unexpected
stuck-refused next many e = ap (λ (t : TermState). within (is_full t) many t) e

-- a variable where no term comes
pub refused-variable : (number : List ℕ → ℕ) (leaf : List ℕ → Term) (most : Option ℕ) (vars : List (List ℕ)) (s : TermState) (x : List ℕ) (r : TermReader) → Holds number leaf s r → (r.mode ≡ mode.Wants → ⊥)
    → limited any_variable most vars s (a_variable x) ≡ Err Unexpected
refused-variable number leaf most vars (wants spot) x r h m = absurd (m h.mode)
refused-variable number leaf most vars (named y spot) x r h m = stuck-refused (behind (application y no_words) spot (a_variable x)) (is_too_many most vars (a_variable x)) (behind-variable _ spot x)
refused-variable number leaf most vars (has u spot) x r h m = stuck-refused (behind u spot (a_variable x)) (is_too_many most vars (a_variable x)) (behind-variable u spot x)
refused-variable number leaf most vars (ended args) x r h m = refl
refused-variable number leaf most vars stuck x r h m = refl

-- a variable that is one too many
pub many-variable : (number : List ℕ → ℕ) (leaf : List ℕ → Term) (most : Option ℕ) (vars : List (List ℕ)) (s : TermState) (x : List ℕ) (r : TermReader) → Holds number leaf s r → r.mode ≡ mode.Wants
    → is_too_many most vars (a_variable x) ≡ true → limited any_variable most vars s (a_variable x) ≡ Err ManyVariables
many-variable number leaf most vars (wants spot) x r h m e = ap (λ (b : Bool). within false b (has (variable_word x) spot)) e
many-variable number leaf most vars (named y spot) x r h m e = let n : ⊥ = cc in absurd n
many-variable number leaf most vars (has u spot) x r h m e = let n : ⊥ = cc in absurd n
many-variable number leaf most vars (ended args) x r h m e = let n : ⊥ = cc in absurd n
many-variable number leaf most vars stuck x r h m e = absurd h.room

is-none : {A : Type 0} (o : Option A) → is_some o ≡ false → o ≡ None
is-none None e = refl
is-none (Some a) e = let n : ⊥ = cc in absurd n

some-of : {A : Type 0} (o : Option A) → is_some o ≡ true → (a : A) × (o ≡ Some a)
some-of None e = let n : ⊥ = cc in absurd n
some-of (Some a) e = (a, refl)

open-live : (s : TermState) → is_some (whole_of s) ≡ true → is_final s ≡ false → IsLive (step any_variable s (a_sign OpenParenthesis))
open-live (wants spot) w f = let n : ⊥ = cc in absurd n
open-live (named x alone) w f = tt
open-live (named x (in_arguments ds)) w f = let n : ⊥ = cc in absurd n
open-live (named x (in_term y ds spot)) w f = let n : ⊥ = cc in absurd n
open-live (has u alone) w f = let n : ⊥ = cc in absurd n
open-live (has u (in_arguments ds)) w f = let n : ⊥ = cc in absurd n
open-live (has u (in_term y ds spot)) w f = let n : ⊥ = cc in absurd n
open-live (ended args) w f = let n : ⊥ = cc in absurd n
open-live stuck w f = let n : ⊥ = cc in absurd n

not-true : (b : Bool) → not b ≡ true → b ≡ false
not-true true e = let n : ⊥ = cc in absurd n
not-true false e = refl

open-is : (c : Lexeme) → is_open c ≡ true → c ≡ a_sign OpenParenthesis
open-is (a_sign OpenParenthesis) e = refl
open-is _ e = let n : ⊥ = cc in absurd n

open-behind : (b o : Bool) → b ≡ true → (b && not o) ≡ false → o ≡ true
open-behind true true e f = refl
open-behind true false e f = let n : ⊥ = cc in absurd n
open-behind false o e f = let n : ⊥ = cc in absurd n

-- a refused token either comes behind no whole term, or goes on behind it
unwhole-or-live : (s : TermState) (c : Lexeme) → is_final s ≡ false → ends_before s c ≡ false → (b : Bool) → is_some (whole_of s) ≡ b
    → (whole_of s ≡ None) ⊎ (IsLive (step any_variable s c))
unwhole-or-live s c f o true e = inr (rw (open-is c (open-behind (is_some (whole_of s)) (is_open c) e o)) (open-live s e f))
unwhole-or-live s c f o false e = inl (is-none (whole_of s) e)

final-whole : (s : TermState) → is_final s ≡ true → (w : WrittenTerm) × (whole_of s ≡ Some w)
final-whole (has u alone) f = (u, refl)
final-whole _ f = let n : ⊥ = cc in absurd n

-- The reader holds the state behind which the items stand that are left.
pub record IsOn (most : Option ℕ) (n : ℕ) (items rest : List Item) (names vars_old vars : List (List ℕ)) (r : TermReader) : Type 0 where
  pub state : TermState
  pub at : IsAt any_variable most vars_old n items rest state vars
  pub holds : HoldsFor names vars state r

pub IsOn-start : (most : Option ℕ) (n : ℕ) (items : List Item) (names vars : List (List ℕ)) (r : TermReader)
    → ((number : List ℕ → ℕ) (leaf : List ℕ → Term) → Holds number leaf (wants alone) r) → IsOn most n items items names vars vars r
IsOn-start most n items names vars r h =
    record { state = wants alone; at = IsAt-start any_variable most vars n items; holds = λ number numbers an av. h number (numbered numbers) }

module _ (most : Option ℕ) (n : ℕ) (items all : List Item) (names vars_old vars : List (List ℕ)) (r : TermReader) (on : IsOn most n items all names vars_old vars r) where
  pub IsOn-taken : (rest : List Item) (c : Lexeme) (at : ℕ) (more further : List (List ℕ)) (new : TermReader) → all ≡ says c at ∷ rest
      → ((s : TermState) → HoldsFor names vars s r → TakesFor (Ok tt) more further (limited any_variable most vars s c) new)
      → further ≡ variables_in (c ∷ []) vars → IsOn most n items rest more vars_old further new
  IsOn-taken rest c at more further new e t v =
      let g : TakesFor (Ok tt) more further (limited any_variable most vars on.state c) new = t on.state on.holds in
      let i : IsAt any_variable most vars_old n items (says c at ∷ rest) on.state vars = rw e at on.at in
      record { state = g.0; at = rw v (IsAt-taken any_variable most vars_old n items rest on.state g.0 vars c at i g.1.0); holds = g.1.1 }

  -- what the reader tells of its state, by the tables' own numberings
  pub tells : AreDifferent names → AreDifferent vars → Holds (index_in names) (numbered (index_in vars)) on.state r
  tells dn dv = own names vars on.state r dn dv on.holds

  pub IsOn-refused : (rest : List Item) (c : Lexeme) (at : ℕ) (more further : List (List ℕ)) (new : TermReader) (refusal : TokenRefusal) → all ≡ says c at ∷ rest
      → ((s : TermState) → HoldsFor names vars s r → TakesFor (Err refusal) more further (limited any_variable most vars s c) new)
      → is_final on.state ≡ false → ends_before on.state c ≡ false
      → IsTermRefusal most items vars_old n (placed refusal at)
  IsOn-refused rest c at more further new (Refused code) e t f o =
      let i : IsAt any_variable most vars_old n items (says c at ∷ rest) on.state vars = rw e at on.at in
      IsAt-refused any_variable most vars_old n items rest on.state vars c at code i (unwhole-or-live on.state c f o (is_some (whole_of on.state)) refl) (t on.state on.holds)
  IsOn-refused rest c at more further new OutOfMemory e t f o = tt

  pub IsOn-fault : (rest : List Item) (refusal : Refusal) → all ≡ fault refusal ∷ rest → is_final on.state ≡ false → IsTermRefusal most items vars_old n (parse.Refused refusal)
  IsOn-fault rest refusal e f = IsAt-bad any_variable most vars_old n items rest on.state vars refusal (rw e at on.at) f

  pub IsOn-unfinished : all ≡ [] → is_some (whole_of on.state) ≡ false → IsTermRefusal most items vars_old n (parse.Refused (record { code = Unexpected; at = n }))
  IsOn-unfinished e w = IsAt-unfinished any_variable most vars_old n items on.state vars (rw e at on.at) (is-none (whole_of on.state) w)

  leads : (w : WrittenTerm) → whole_of on.state ≡ Some w → ReadsFront (IsTerm any_variable) (TermLimits any_variable most vars_old) [] items w all → Leads most items all names vars_old vars r
  leads w e reads = record { written = w; state = on.state; whole = e; reads = reads; variables = IsAt-variables any_variable most vars_old n items all on.state vars w on.at e; holds = on.holds }

  pub IsOn-whole : all ≡ [] → is_some (whole_of on.state) ≡ true → Leads most items all names vars_old vars r
  IsOn-whole e w =
      let s : (v : WrittenTerm) × (whole_of on.state ≡ Some v) = some-of (whole_of on.state) w in
      leads s.0 s.1 (rw e (IsAt-end any_variable most vars_old n items on.state vars s.0 (rw e at on.at) s.1))

  pub IsOn-ends : (rest : List Item) (c : Lexeme) (at : ℕ) → all ≡ says c at ∷ rest → ends_before on.state c ≡ true → Leads most items all names vars_old vars r
  IsOn-ends rest c at e o =
      let p : (is_some (whole_of on.state) ≡ true) × (not (is_open c) ≡ true) = and_parts (is_some (whole_of on.state)) (not (is_open c)) o in
      let s : (v : WrittenTerm) × (whole_of on.state ≡ Some v) = some-of (whole_of on.state) p.0 in
      leads s.0 s.1 (rw e (IsAt-ends any_variable most vars_old n items rest on.state vars s.0 c at (rw e at on.at) s.1 (not-true (is_open c) p.1)))

  pub IsOn-final : is_final on.state ≡ true → Leads most items all names vars_old vars r
  IsOn-final f =
      let s : (v : WrittenTerm) × (whole_of on.state ≡ Some v) = final-whole on.state f in
      leads s.0 s.1 (IsAt-final any_variable most vars_old n items all on.state vars s.0 on.at s.1 f)
