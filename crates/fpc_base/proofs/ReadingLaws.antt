-- Laws of what is read of the tokens of a file, and of how it is refused, for any grammar.
use Rattle.std.proofs.Common.{◌≡◌, ℕ, List, [], ◌∷◌, ◌++◌, refl, ap}
use Rattle.fpc_base.specs.declared.refusal.Code.{Code}
use Rattle.fpc_base.specs.declared.refusal.Code.TheVariants.{Unexpected}
use Rattle.fpc_base.specs.declared.refusal.Refusal.{Refusal}
use Rattle.fpc_base.specs.Lexeme.{Lexeme, Item, says}
use Rattle.fpc_base.specs.Reading.{Begins, IsTaken, IsRefused, ReadsAll, RefusesAll, IsFinal, ReadsFront, RefusesFront}
use Rattle.fpc_base.specs.Reading as reading

module _ {W : Type 0} (IsWhole : List Lexeme → W → Type 0) (Limits : List Lexeme → Lexeme → Code → Type 0) where
  -- Tokens stand before the rest of the items: what is read or refused behind them is read or refused in all.
  pub record LeadsAll (n : ℕ) (items : List Item) (before : List Lexeme) (rest : List Item) : Type 0 where
    pub refused : (r : Refusal) → RefusesAll IsWhole Limits n before rest r → RefusesAll IsWhole Limits n [] items r
    pub read : (w : W) → ReadsAll IsWhole Limits before rest w → ReadsAll IsWhole Limits [] items w

  -- the same where the front of the items is read
  pub record LeadsFront (n : ℕ) (items : List Item) (before : List Lexeme) (rest : List Item) : Type 0 where
    pub refused : (r : Refusal) → RefusesFront IsWhole Limits n before rest r → RefusesFront IsWhole Limits n [] items r
    pub read : (w : W) (left : List Item) → ReadsFront IsWhole Limits before rest w left → ReadsFront IsWhole Limits [] items w left

  pub LeadsAll-start : (n : ℕ) (items : List Item) → LeadsAll n items [] items
  LeadsAll-start n items = record { refused = λ r h. h; read = λ w h. h }

  pub LeadsFront-start : (n : ℕ) (items : List Item) → LeadsFront n items [] items
  LeadsFront-start n items = record { refused = λ r h. h; read = λ w left h. h }

  pub LeadsAll-taken : (n : ℕ) (items rest : List Item) (before : List Lexeme) (c : Lexeme) (at : ℕ) → LeadsAll n items before (says c at ∷ rest)
      → IsTaken IsWhole Limits before c → LeadsAll n items (before ++ c ∷ []) rest
  LeadsAll-taken n items rest before c at l t =
      record { refused = λ r h. l.refused r (reading.RefusesAll.later t h); read = λ w h. l.read w (reading.ReadsAll.later t h) }

  pub LeadsFront-taken : (n : ℕ) (items rest : List Item) (before : List Lexeme) (c : Lexeme) (at : ℕ) → LeadsFront n items before (says c at ∷ rest)
      → IsTaken IsWhole Limits before c → LeadsFront n items (before ++ c ∷ []) rest
  LeadsFront-taken n items rest before c at l t =
      record { refused = λ r h. l.refused r (reading.RefusesFront.later t h); read = λ w left h. l.read w left (reading.ReadsFront.later t h) }

  -- a token that is refused, where nothing whole ends before it
  pub RefusesFront-refused : {n : ℕ} {rest : List Item} {before : List Lexeme} {c : Lexeme} {at : ℕ} {code : Code}
      → IsRefused IsWhole Limits before c code → (code ≡ Unexpected → (w : W) → IsWhole before w → ⊥)
      → RefusesFront IsWhole Limits n before (says c at ∷ rest) (record { code = code; at = at })
  RefusesFront-refused (reading.IsRefused.unexpected b) h = reading.RefusesFront.unexpected (h refl) b
  RefusesFront-refused (reading.IsRefused.limited b l) h = reading.RefusesFront.limited b l

  pub taken-refused : {before : List Lexeme} {c : Lexeme} {code : Code} → IsTaken IsWhole Limits before c → IsRefused IsWhole Limits before c code → ⊥
  taken-refused t (reading.IsRefused.unexpected b) = b t.begins
  taken-refused t (reading.IsRefused.limited {code = code} b l) = t.free code l

  -- what is read isn't refused
  pub all-not_both : {n : ℕ} {before : List Lexeme} {items : List Item} {w : W} {r : Refusal} → ReadsAll IsWhole Limits before items w
      → RefusesAll IsWhole Limits n before items r → ⊥
  all-not_both (reading.ReadsAll.at_end {w = w} h) (reading.RefusesAll.at_end k) = k w h
  all-not_both (reading.ReadsAll.later t h) (reading.RefusesAll.here k) = taken-refused t k
  all-not_both (reading.ReadsAll.later t h) (reading.RefusesAll.later u k) = all-not_both h k

  pub front-not_both : {n : ℕ} {before : List Lexeme} {items left : List Item} {w : W} {r : Refusal} → ReadsFront IsWhole Limits before items w left
      → RefusesFront IsWhole Limits n before items r → ⊥
  front-not_both (reading.ReadsFront.final {w = w} h f) (reading.RefusesFront.unexpected k b) = k w h
  front-not_both (reading.ReadsFront.final h f) (reading.RefusesFront.limited {c = c} b l) = f c b
  front-not_both (reading.ReadsFront.final {w = w} h f) (reading.RefusesFront.bad k) = k w h f
  front-not_both (reading.ReadsFront.final {w = w} h f) (reading.RefusesFront.at_end k) = k w h
  front-not_both (reading.ReadsFront.final h f) (reading.RefusesFront.later {c = c} u k) = f c u.begins
  front-not_both (reading.ReadsFront.ends {w = w} h b) (reading.RefusesFront.unexpected k d) = k w h
  front-not_both (reading.ReadsFront.ends h b) (reading.RefusesFront.limited d l) = b d
  front-not_both (reading.ReadsFront.ends h b) (reading.RefusesFront.later u k) = b u.begins
  front-not_both (reading.ReadsFront.at_end {w = w} h) (reading.RefusesFront.at_end k) = k w h
  front-not_both (reading.ReadsFront.later t h) (reading.RefusesFront.unexpected k d) = d t.begins
  front-not_both (reading.ReadsFront.later t h) (reading.RefusesFront.limited {code = code} d l) = t.free code l
  front-not_both (reading.ReadsFront.later t h) (reading.RefusesFront.later u k) = front-not_both h k

-- where the same tokens are whole in one way, and one limit forbids a token
module _ {W : Type 0} (IsWhole : List Lexeme → W → Type 0) (Limits : List Lexeme → Lexeme → Code → Type 0)
    (one : (tokens : List Lexeme) (v w : W) → IsWhole tokens v → IsWhole tokens w → v ≡ w)
    (one_code : (before : List Lexeme) (c : Lexeme) (a b : Code) → Limits before c a → Limits before c b → a ≡ b) where
  -- a token is refused for one reason
  pub refused-once : {before : List Lexeme} {c : Lexeme} {a b : Code} → IsRefused IsWhole Limits before c a → IsRefused IsWhole Limits before c b → a ≡ b
  refused-once (reading.IsRefused.unexpected h) (reading.IsRefused.unexpected k) = refl
  refused-once (reading.IsRefused.unexpected h) (reading.IsRefused.limited b l) = absurd (h b)
  refused-once (reading.IsRefused.limited b l) (reading.IsRefused.unexpected k) = absurd (k b)
  refused-once {before = before} {c = c} (reading.IsRefused.limited {code = a} d l) (reading.IsRefused.limited {code = b} e m) = one_code before c a b l m

  -- a file is read as one thing
  pub all-once : {before : List Lexeme} {items : List Item} {v w : W} → ReadsAll IsWhole Limits before items v → ReadsAll IsWhole Limits before items w → v ≡ w
  all-once {before = before} (reading.ReadsAll.at_end {w = v} h) (reading.ReadsAll.at_end {w = w} k) = one before v w h k
  all-once (reading.ReadsAll.later t h) (reading.ReadsAll.later u k) = all-once h k

  -- a file is refused for one reason at one place
  pub all-refused_once : {n : ℕ} {before : List Lexeme} {items : List Item} {r s : Refusal} → RefusesAll IsWhole Limits n before items r
      → RefusesAll IsWhole Limits n before items s → r ≡ s
  all-refused_once (reading.RefusesAll.here {at = at} h) (reading.RefusesAll.here k) = ap (λ (code : Code). let r : Refusal = record { code = code; at = at } in r) (refused-once h k)
  all-refused_once (reading.RefusesAll.here h) (reading.RefusesAll.later u k) = absurd (taken-refused IsWhole Limits u h)
  all-refused_once (reading.RefusesAll.bad) (reading.RefusesAll.bad) = refl
  all-refused_once (reading.RefusesAll.at_end h) (reading.RefusesAll.at_end k) = refl
  all-refused_once (reading.RefusesAll.later t h) (reading.RefusesAll.here k) = absurd (taken-refused IsWhole Limits t k)
  all-refused_once (reading.RefusesAll.later t h) (reading.RefusesAll.later u k) = all-refused_once h k

  -- a front is read as one thing, and the same is left
  pub front-once : {before : List Lexeme} {items l m : List Item} {v w : W} → ReadsFront IsWhole Limits before items v l
      → ReadsFront IsWhole Limits before items w m → (v ≡ w) × (l ≡ m)
  front-once {before = before} (reading.ReadsFront.final {w = v} h f) (reading.ReadsFront.final {w = w} k g) = (one before v w h k, refl)
  front-once {before = before} (reading.ReadsFront.final {w = v} h f) (reading.ReadsFront.ends {w = w} k g) = (one before v w h k, refl)
  front-once {before = before} (reading.ReadsFront.final {w = v} h f) (reading.ReadsFront.at_end {w = w} k) = (one before v w h k, refl)
  front-once (reading.ReadsFront.final h f) (reading.ReadsFront.later {c = c} u k) = absurd (f c u.begins)
  front-once {before = before} (reading.ReadsFront.ends {w = v} h b) (reading.ReadsFront.final {w = w} k g) = (one before v w h k, refl)
  front-once {before = before} (reading.ReadsFront.ends {w = v} h b) (reading.ReadsFront.ends {w = w} k g) = (one before v w h k, refl)
  front-once (reading.ReadsFront.ends h b) (reading.ReadsFront.later u k) = absurd (b u.begins)
  front-once {before = before} (reading.ReadsFront.at_end {w = v} h) (reading.ReadsFront.final {w = w} k g) = (one before v w h k, refl)
  front-once {before = before} (reading.ReadsFront.at_end {w = v} h) (reading.ReadsFront.at_end {w = w} k) = (one before v w h k, refl)
  front-once (reading.ReadsFront.later {c = c} t h) (reading.ReadsFront.final k g) = absurd (g c t.begins)
  front-once (reading.ReadsFront.later t h) (reading.ReadsFront.ends k b) = absurd (b t.begins)
  front-once (reading.ReadsFront.later t h) (reading.ReadsFront.later u k) = front-once h k

  -- a front is refused for one reason at one place
  pub front-refused_once : {n : ℕ} {before : List Lexeme} {items : List Item} {r s : Refusal} → RefusesFront IsWhole Limits n before items r
      → RefusesFront IsWhole Limits n before items s → r ≡ s
  front-refused_once (reading.RefusesFront.unexpected h b) (reading.RefusesFront.unexpected k d) = refl
  front-refused_once (reading.RefusesFront.unexpected h b) (reading.RefusesFront.limited d l) = absurd (b d)
  front-refused_once (reading.RefusesFront.unexpected h b) (reading.RefusesFront.later u k) = absurd (b u.begins)
  front-refused_once (reading.RefusesFront.limited b l) (reading.RefusesFront.unexpected k d) = absurd (d b)
  front-refused_once {before = before} (reading.RefusesFront.limited {c = c} {at = at} {code = a} e l) (reading.RefusesFront.limited {code = b} d m) =
      ap (λ (code : Code). let r : Refusal = record { code = code; at = at } in r) (one_code before c a b l m)
  front-refused_once (reading.RefusesFront.limited {code = a} b l) (reading.RefusesFront.later u k) = absurd (u.free a l)
  front-refused_once (reading.RefusesFront.bad h) (reading.RefusesFront.bad k) = refl
  front-refused_once (reading.RefusesFront.at_end h) (reading.RefusesFront.at_end k) = refl
  front-refused_once (reading.RefusesFront.later t h) (reading.RefusesFront.unexpected k d) = absurd (d t.begins)
  front-refused_once (reading.RefusesFront.later t h) (reading.RefusesFront.limited {code = a} d l) = absurd (t.free a l)
  front-refused_once (reading.RefusesFront.later t h) (reading.RefusesFront.later u k) = front-refused_once h k
