-- What is read of the tokens of a file, and how it is refused, for any grammar.
use Rattle.std.specs.Prelude.{ℕ, List, [], ◌∷◌, ◌++◌}
use Rattle.fpc_base.specs.declared.refusal.Code.{Code}
use Rattle.fpc_base.specs.declared.refusal.Code.TheVariants.{Unexpected}
use Rattle.fpc_base.specs.declared.refusal.Refusal.{Refusal}
use Rattle.fpc_base.specs.Lexeme.{Lexeme, Item, says, fault}

-- A grammar tells which tokens are whole and what they are, and which limit forbids a token behind others.
module _ {W : Type 0} (IsWhole : List Lexeme → W → Type 0) (Limits : List Lexeme → Lexeme → Code → Type 0) where
  -- something whole begins with the tokens
  abbrev pub Begins : List Lexeme → Type 0
  Begins tokens = (more : List Lexeme) × ((w : W) × IsWhole (tokens ++ more) w)

  -- a token goes on behind others, within the limits
  pub record IsTaken (before : List Lexeme) (c : Lexeme) : Type 0 where
    pub begins : Begins (before ++ c ∷ [])
    pub free : (code : Code) → Limits before c code → ⊥

  -- why a token is refused behind others: nothing goes on with it, or a limit forbids it
  pub data IsRefused (before : List Lexeme) (c : Lexeme) : Code → Type 0 where
    unexpected : (Begins (before ++ c ∷ []) → ⊥) → IsRefused before c Unexpected
    limited : {code : Code} → Begins (before ++ c ∷ []) → Limits before c code → IsRefused before c code

  -- Behind the tokens before, the items are tokens to the end, none of them refused, and all together they are this.
  pub data ReadsAll : (before : List Lexeme) → List Item → W → Type 0 where
    at_end : {before : List Lexeme} {w : W} → IsWhole before w → ReadsAll before [] w
    later : {before : List Lexeme} {c : Lexeme} {at : ℕ} {items : List Item} {w : W}
        → IsTaken before c → ReadsAll (before ++ c ∷ []) items w → ReadsAll before (says c at ∷ items) w

  -- Behind the tokens before, this is the first refusal among the items of a file with n bytes that has to be whole.
  pub data RefusesAll (n : ℕ) : (before : List Lexeme) → List Item → Refusal → Type 0 where
    here : {before : List Lexeme} {c : Lexeme} {at : ℕ} {items : List Item} {code : Code}
        → IsRefused before c code → RefusesAll n before (says c at ∷ items) (record { code = code; at = at })
    bad : {before : List Lexeme} {items : List Item} {r : Refusal} → RefusesAll n before (fault r ∷ items) r
    at_end : {before : List Lexeme} → ((w : W) → IsWhole before w → ⊥) → RefusesAll n before [] (record { code = Unexpected; at = n })
    later : {before : List Lexeme} {c : Lexeme} {at : ℕ} {items : List Item} {r : Refusal}
        → IsTaken before c → RefusesAll n (before ++ c ∷ []) items r → RefusesAll n before (says c at ∷ items) r

  -- no token goes on behind these
  abbrev pub IsFinal : List Lexeme → Type 0
  IsFinal before = (c : Lexeme) → Begins (before ++ c ∷ []) → ⊥

  -- Behind the tokens before, the items begin with tokens that together are this, and the rest of the items is left. What is whole
  -- may still go on with a token: then the next item tells, and it isn't a fault.
  pub data ReadsFront : (before : List Lexeme) → List Item → W → List Item → Type 0 where
    final : {before : List Lexeme} {items : List Item} {w : W} → IsWhole before w → IsFinal before → ReadsFront before items w items
    ends : {before : List Lexeme} {c : Lexeme} {at : ℕ} {items : List Item} {w : W}
        → IsWhole before w → (Begins (before ++ c ∷ []) → ⊥) → ReadsFront before (says c at ∷ items) w (says c at ∷ items)
    at_end : {before : List Lexeme} {w : W} → IsWhole before w → ReadsFront before [] w []
    later : {before : List Lexeme} {c : Lexeme} {at : ℕ} {items rest : List Item} {w : W}
        → IsTaken before c → ReadsFront (before ++ c ∷ []) items w rest → ReadsFront before (says c at ∷ items) w rest

  -- Behind the tokens before, this is the first refusal among the items of a file with n bytes of which the front has to be whole.
  pub data RefusesFront (n : ℕ) : (before : List Lexeme) → List Item → Refusal → Type 0 where
    unexpected : {before : List Lexeme} {c : Lexeme} {at : ℕ} {items : List Item}
        → ((w : W) → IsWhole before w → ⊥) → (Begins (before ++ c ∷ []) → ⊥) → RefusesFront n before (says c at ∷ items) (record { code = Unexpected; at = at })
    limited : {before : List Lexeme} {c : Lexeme} {at : ℕ} {items : List Item} {code : Code}
        → Begins (before ++ c ∷ []) → Limits before c code → RefusesFront n before (says c at ∷ items) (record { code = code; at = at })
    bad : {before : List Lexeme} {items : List Item} {r : Refusal}
        → ((w : W) → IsWhole before w → IsFinal before → ⊥) → RefusesFront n before (fault r ∷ items) r
    at_end : {before : List Lexeme} → ((w : W) → IsWhole before w → ⊥) → RefusesFront n before [] (record { code = Unexpected; at = n })
    later : {before : List Lexeme} {c : Lexeme} {at : ℕ} {items : List Item} {r : Refusal}
        → IsTaken before c → RefusesFront n (before ++ c ∷ []) items r → RefusesFront n before (says c at ∷ items) r
