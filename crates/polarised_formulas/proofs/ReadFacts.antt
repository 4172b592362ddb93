-- How a token is taken with a table of names that grows, and how a formula is read.
use Rattle.std.specs.Prelude.{◌≡◌, ℕ, Bool, not, true, false, List, [], ◌∷◌, Option, Some, None, Result, Ok, Err, refl, is_some}
use Rattle.std.proofs.Common.{ap, subst}
use Rattle.fpc_base.specs.declared.refusal.Code.{Code}
use Rattle.fpc_base.specs.declared.refusal.Code.TheVariants.{Unexpected}
use Rattle.fpc_base.specs.declared.refusal.Refusal.{Refusal}
use Rattle.fpc_base.specs.declared.refusal.ParseRefusal.TheVariants as parse
use Rattle.fpc_base.specs.declared.tokens.lexeme.Sign.TheVariants.{OpenParenthesis}
use Rattle.std.proofs.lemmas.Bool.{and_parts}
use Rattle.fpc_base.specs.Refusal.{placed}
use Rattle.fpc_terms.specs.Machine.{is_open}
use Rattle.fpc_base.specs.declared.refusal.TokenRefusal.{TokenRefusal}
use Rattle.fpc_base.specs.declared.refusal.TokenRefusal.TheVariants.{Refused, OutOfMemory}
use Rattle.fpc_base.specs.Lexeme.{Lexeme, a_sign, Item, says, fault}
use Rattle.fpc_terms.specs.Name.{Agrees, Grows, AreDifferent, index_in}
use Rattle.fpc_terms.specs.Written.{no_words}
use Rattle.fpc_terms.proofs.Places.{index_in-different}
use Rattle.polarised_formulas.specs.declared.logic.Logic.{Logic}
use Rattle.polarised_formulas.specs.declared.reader.FormulaReader.{FormulaReader}
use Rattle.polarised_formulas.specs.Written.{WrittenFormula, literal}
use Rattle.polarised_formulas.specs.Place.{Place, whole}
use Rattle.polarised_formulas.specs.Machine.{FormulaState, wants, named, has, limited, within, is_full, whole_of, is_ended, ended_at}
use Rattle.polarised_formulas.specs.Holding.{Holds, Takes}
use Rattle.polarised_formulas.specs.ReadFormula.{HoldsFor, TakesFor, IsFormulaRefusal, Leads, ends_before}
use Rattle.polarised_formulas.proofs.FormulaLaws.{after-whole}
use Rattle.polarised_formulas.proofs.FormulaReading.{ReadsFormula, IsAt, IsAt-start, IsAt-taken, IsAt-refused, IsAt-fault, IsAt-whole, IsAt-unfinished, IsAt-ends, IsAt-final}

pub Agrees-index_in : (texts : List (List ℕ)) → AreDifferent texts → Agrees (index_in texts) texts
Agrees-index_in texts d k text e = index_in-different texts k text d e

pub is-none : {A : Type 0} (o : Option A) → is_some o ≡ false → o ≡ None
is-none None e = refl
is-none (Some a) e = let n : ⊥ = cc in absurd n

pub some-of : {A : Type 0} (o : Option A) → is_some o ≡ true → (a : A) × (o ≡ Some a)
some-of None e = let n : ⊥ = cc in absurd n
some-of (Some a) e = (a, refl)

same-state : (next : Result FormulaState Code) (t u : FormulaState) → next ≡ Ok t → next ≡ Ok u → u ≡ t
same-state next t u e f = cc

open-taken : (logic : Logic) (parameters : List (List ℕ)) (s : FormulaState) (w : WrittenFormula) (code : Code) → whole_of s ≡ Some w → is_ended s ≡ false
    → limited logic parameters s (a_sign OpenParenthesis) ≡ Err code → ⊥
open-taken logic parameters (named positive x p) w code e f l = cc
open-taken logic parameters (has u p) w code e f l =
    let d : is_some (ended_at u p) ≡ true = ap is_some e in cc
open-taken logic parameters _ w code e f l = cc

unwhole : (logic : Logic) (parameters : List (List ℕ)) (s : FormulaState) (c : Lexeme) (code : Code) → is_ended s ≡ false → (is_some (whole_of s) ≡ true → c ≡ a_sign OpenParenthesis)
    → limited logic parameters s c ≡ Err code → (b : Bool) → is_some (whole_of s) ≡ b → whole_of s ≡ None
unwhole logic parameters s c code f o l true e =
    let w : (v : WrittenFormula) × (whole_of s ≡ Some v) = some-of (whole_of s) e in
    absurd (open-taken logic parameters s w.0 code w.1 f (rw (o e) at l))
unwhole logic parameters s c code f o l false e = is-none (whole_of s) e

named-ends : (logic : Logic) (parameters : List (List ℕ)) (positive : Bool) (x : List ℕ) (p : Place) (w : WrittenFormula) (c : Lexeme) → ended_at (literal positive x no_words) p ≡ Some w
    → (c ≡ a_sign OpenParenthesis → ⊥) → limited logic parameters (named positive x p) c ≡ Err Unexpected
named-ends logic parameters positive x p w (a_sign OpenParenthesis) e n = absurd (n refl)
named-ends logic parameters positive x p w c e n = ap (λ (u : FormulaState). within false (is_full u) u) (after-whole logic (literal positive x no_words) p w c e)

-- a token that isn't an open parenthesis ends a whole formula
pub ends-told : (logic : Logic) (parameters : List (List ℕ)) (s : FormulaState) (w : WrittenFormula) (c : Lexeme) → whole_of s ≡ Some w → (c ≡ a_sign OpenParenthesis → ⊥)
    → limited logic parameters s c ≡ Err Unexpected
ends-told logic parameters (named positive x p) w c e n = named-ends logic parameters positive x p w c e n
ends-told logic parameters (has u p) w c e n = ap (λ (v : FormulaState). within false (is_full v) v) (after-whole logic u p w c e)
ends-told logic parameters _ w c e n = let z : ⊥ = cc in absurd z

goes-on : (s : FormulaState) (c : Lexeme) → ends_before s c ≡ false → is_some (whole_of s) ≡ true → c ≡ a_sign OpenParenthesis
goes-on s (a_sign OpenParenthesis) o w = refl
goes-on s _ o w = let n : ⊥ = cc in absurd n

not-open : (c : Lexeme) → not (is_open c) ≡ true → c ≡ a_sign OpenParenthesis → ⊥
not-open (a_sign OpenParenthesis) e o = let n : ⊥ = cc in absurd n
not-open _ e o = cc

ended-whole : (s : FormulaState) → is_ended s ≡ true → (w : WrittenFormula) × (whole_of s ≡ Some w)
ended-whole (has u p) f = some-of (ended_at u p) f
ended-whole _ f = let n : ⊥ = cc in absurd n

module _ (logic : Logic) (parameters : List (List ℕ)) where
  pub HoldsFor-grown : (names more : List (List ℕ)) (s : FormulaState) (r : FormulaReader) → Grows names more → HoldsFor names logic parameters s r → HoldsFor more logic parameters s r
  HoldsFor-grown names more s r g h = λ number a. h number (λ k text e. a k text (g k text e))

  -- what each numbering tells, told once
  pub told-for : (result : Result (Unit {0}) TokenRefusal) (names : List (List ℕ)) (next : Result FormulaState Code) (r : FormulaReader) → AreDifferent names
      → ((number : List ℕ → ℕ) → Agrees number names → Takes result number logic parameters next r) → TakesFor result names logic parameters next r
  told-for (Ok u) names next r d h =
      let first : (t : FormulaState) × ((next ≡ Ok t) × Holds (index_in names) logic parameters t r) = h (index_in names) (Agrees-index_in names d) in (
        first.0,
        (
          first.1.0,
          λ number a.
              (let other : (t : FormulaState) × ((next ≡ Ok t) × Holds number logic parameters t r) = h number a in
              let e : other.0 ≡ first.0 = same-state next first.0 other.0 first.1.0 other.1.0 in
              subst (λ (t : FormulaState). Holds number logic parameters t r) e other.1.1),
        ),
      )
  told-for (Err (Refused code)) names next r d h = h (index_in names) (Agrees-index_in names d)
  told-for (Err OutOfMemory) names next r d h = tt

  -- a token
  pub taken-for : (result : Result (Unit {0}) TokenRefusal) (names more : List (List ℕ)) (s : FormulaState) (c : Lexeme) (old new : FormulaReader) → AreDifferent more → Grows names more
      → ((number : List ℕ → ℕ) (logic : Logic) (s : FormulaState) → Agrees number more → Holds number logic parameters s old → Takes result number logic parameters (limited logic parameters s c) new)
      → HoldsFor names logic parameters s old → TakesFor result more logic parameters (limited logic parameters s c) new
  taken-for result names more s c old new d g h holds =
      told-for result more (limited logic parameters s c) new d (λ number a. h number logic s a (holds number (λ k text e. a k text (g k text e))))

  -- The reader holds the state behind which the items stand that are left.
  pub record IsOn (n : ℕ) (items rest : List Item) (names : List (List ℕ)) (r : FormulaReader) : Type 0 where
    pub state : FormulaState
    pub at : IsAt logic parameters n items rest state
    pub holds : HoldsFor names logic parameters state r

  pub IsOn-start : (n : ℕ) (items : List Item) (names : List (List ℕ)) (r : FormulaReader)
      → ((number : List ℕ → ℕ) (parameters : List (List ℕ)) → Holds number logic parameters (wants whole) r) → IsOn n items items names r
  IsOn-start n items names r h = record { state = wants whole; at = IsAt-start logic parameters n items; holds = λ number a. h number parameters }

  module _ (n : ℕ) (items all : List Item) (names : List (List ℕ)) (r : FormulaReader) (on : IsOn n items all names r) where
    pub IsOn-taken : (rest : List Item) (c : Lexeme) (at : ℕ) (more : List (List ℕ)) (new : FormulaReader) → all ≡ says c at ∷ rest
        → ((s : FormulaState) → HoldsFor names logic parameters s r → TakesFor (Ok tt) more logic parameters (limited logic parameters s c) new) → IsOn n items rest more new
    IsOn-taken rest c at more new e t =
        let g : TakesFor (Ok tt) more logic parameters (limited logic parameters on.state c) new = t on.state on.holds in
        let i : IsAt logic parameters n items (says c at ∷ rest) on.state = rw e at on.at in
        record { state = g.0; at = IsAt-taken logic parameters n items rest on.state g.0 c at i g.1.0; holds = g.1.1 }

    -- what the reader tells of its state, by the table's own numbering
    pub tells : AreDifferent names → Holds (index_in names) logic parameters on.state r
    tells d = on.holds (index_in names) (Agrees-index_in names d)

    pub IsOn-refused : (rest : List Item) (c : Lexeme) (at : ℕ) (more : List (List ℕ)) (new : FormulaReader) (refusal : TokenRefusal) → all ≡ says c at ∷ rest
        → ((s : FormulaState) → HoldsFor names logic parameters s r → TakesFor (Err refusal) more logic parameters (limited logic parameters s c) new)
        → is_ended on.state ≡ false → ends_before on.state c ≡ false
        → IsFormulaRefusal logic parameters items n (placed refusal at)
    IsOn-refused rest c at more new (Refused code) e t f o =
        let i : IsAt logic parameters n items (says c at ∷ rest) on.state = rw e at on.at in
        let l : limited logic parameters on.state c ≡ Err code = t on.state on.holds in
        IsAt-refused logic parameters n items rest on.state c at code i l (λ u. unwhole logic parameters on.state c code f (goes-on on.state c o) l (is_some (whole_of on.state)) refl)
    IsOn-refused rest c at more new OutOfMemory e t f o = tt

    pub IsOn-fault : (rest : List Item) (refusal : Refusal) → all ≡ fault refusal ∷ rest → is_ended on.state ≡ false → IsFormulaRefusal logic parameters items n (parse.Refused refusal)
    IsOn-fault rest refusal e f = IsAt-fault logic parameters n items rest on.state refusal (rw e at on.at) f

    pub IsOn-unfinished : all ≡ [] → is_some (whole_of on.state) ≡ false → IsFormulaRefusal logic parameters items n (parse.Refused (record { code = Unexpected; at = n }))
    IsOn-unfinished e w = IsAt-unfinished logic parameters n items on.state (rw e at on.at) (is-none (whole_of on.state) w)

    leads : (w : WrittenFormula) → whole_of on.state ≡ Some w → ReadsFormula logic parameters items w all → Leads logic parameters items all names r
    leads w e reads = record { written = w; state = on.state; whole = e; reads = reads; holds = on.holds }

    pub IsOn-whole : all ≡ [] → is_some (whole_of on.state) ≡ true → Leads logic parameters items all names r
    IsOn-whole e w =
        let s : (v : WrittenFormula) × (whole_of on.state ≡ Some v) = some-of (whole_of on.state) w in
        leads s.0 s.1 (rw e (IsAt-whole logic parameters n items on.state s.0 (rw e at on.at) s.1))

    pub IsOn-ends : (rest : List Item) (c : Lexeme) (at : ℕ) → all ≡ says c at ∷ rest → ends_before on.state c ≡ true → Leads logic parameters items all names r
    IsOn-ends rest c at e w =
        let s : (v : WrittenFormula) × (whole_of on.state ≡ Some v) = some-of (whole_of on.state) (and_parts (is_some (whole_of on.state)) (not (is_open c)) w).0 in
        let o = not-open c (and_parts (is_some (whole_of on.state)) (not (is_open c)) w).1 in
        leads s.0 s.1 (rw e (IsAt-ends logic parameters n items rest on.state s.0 c at (rw e at on.at) s.1 (ends-told logic parameters on.state s.0 c s.1 o)))

    pub IsOn-final : is_ended on.state ≡ true → Leads logic parameters items all names r
    IsOn-final f =
        let s : (v : WrittenFormula) × (whole_of on.state ≡ Some v) = ended-whole on.state f in
        leads s.0 s.1 (IsAt-final logic parameters n items all on.state s.0 on.at s.1 f)
