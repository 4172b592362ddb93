-- Play: steps in a row, one result, and what the sequents keep.
use Rattle.std.proofs.Common.{◌≡◌, ℕ, ◌+◌, ◌≤◌, List, [], ◌∷◌, ◌++◌, Some, None, refl, arith}
use Rattle.polarised_formulas.specs.declared.step.Step.{Step}
use Rattle.polarised_formulas.specs.Calculus.Rules.{RuleCalculus, LevelledIn}
use Rattle.polarised_formulas.specs.Calculus.Lawful.{AreScoped, AreOfItsLogic, AreLow, IsLawful}
use Rattle.polarised_formulas.specs.Calculus.Play.{PlaysOne, plays, Plays, plays_none, plays_more}
use Rattle.polarised_formulas.proofs.Elements.{AllByRecursion-append, AllByRecursion-weaker}

module _ (C : RuleCalculus) where
  -- steps that play on from where others end
  pub Plays-append : (q r t : List (LevelledIn C)) (xs ys : List Step) → Plays C q xs r → Plays C r ys t → Plays C q (xs ++ ys) t
  Plays-append q r t _ ys plays_none k = k
  Plays-append q r t _ ys (plays_more {r = r'} {steps = xs} one more) k = plays_more one (Plays-append r' r t xs ys more k)

  -- one step by itself
  pub Plays-one : (q r : List (LevelledIn C)) (step : Step) → PlaysOne C q step r → Plays C q (step ∷ []) r
  Plays-one q r step one = plays_more one plays_none

  -- one step more at the end
  pub Plays-last : (q r t : List (LevelledIn C)) (steps : List Step) (step : Step) → Plays C q steps r → PlaysOne C r step t → Plays C q (steps ++ step ∷ []) t
  Plays-last q r t steps step h one = Plays-append q r t steps (step ∷ []) h (Plays-one r t step one)

  -- steps in a row stop between
  pub Plays-between : (q t : List (LevelledIn C)) (xs ys : List Step) → Plays C q (xs ++ ys) t → (r : List (LevelledIn C)) × Plays C q xs r × Plays C r ys t
  Plays-between q t [] ys h = (q, plays_none, h)
  Plays-between q t (x ∷ xs) ys (plays_more {r = r'} one more) =
      let rest = Plays-between r' t xs ys more in (rest.0, plays_more one rest.1, rest.2)

  -- the first step, and the others
  pub Plays-first : (q t : List (LevelledIn C)) (step : Step) (steps : List Step) → Plays C q (step ∷ steps) t → (r : List (LevelledIn C)) × PlaysOne C q step r × Plays C r steps t
  Plays-first q t step steps (plays_more {r = r} one more) = (r, one, more)

  -- no steps lead from a list to itself alone
  pub Plays-nothing : (q t : List (LevelledIn C)) → Plays C q [] t → q ≡ t
  Plays-nothing q t plays_none = refl

  -- no step plays the empty list
  pub PlaysOne-empty : (step : Step) (r : List (LevelledIn C)) → PlaysOne C [] step r → ⊥
  PlaysOne-empty step r one = elim one [ ]

  -- a step plays the premises that it names
  pub PlaysOne-premises : (n : ℕ) (c : C.SequentOf) (step : Step) (ps q : List (LevelledIn C)) → C.premises_of step n c ≡ Some ps → PlaysOne C ((n, c) ∷ q) step (ps ++ q)
  PlaysOne-premises n c step ps q fits = plays fits

  -- a step that names premises plays to these alone
  pub PlaysOne-same_premises : (n : ℕ) (c : C.SequentOf) (step : Step) (ps q r : List (LevelledIn C)) → C.premises_of step n c ≡ Some ps → PlaysOne C ((n, c) ∷ q) step r → r ≡ ps ++ q
  PlaysOne-same_premises n c step ps q _ fits (plays {ps = ps'} fits') = let same : ps' ≡ ps = cc in rw same

  -- a step that names no premises does not fit
  pub PlaysOne-stuck : (n : ℕ) (c : C.SequentOf) (step : Step) (q r : List (LevelledIn C)) → C.premises_of step n c ≡ None → PlaysOne C ((n, c) ∷ q) step r → ⊥
  PlaysOne-stuck n c step q _ stuck (plays fits) = cc

  -- a step plays a list to at most one
  pub PlaysOne-same : (q r r' : List (LevelledIn C)) (step : Step) → PlaysOne C q step r → PlaysOne C q step r' → r ≡ r'
  PlaysOne-same _ _ r' step (plays {n} {c} {ps = ps} {q = q} fits) other = let e = PlaysOne-same_premises n c step ps q r' fits other in cc

  -- steps play a list to at most one
  pub Plays-same : (q r r' : List (LevelledIn C)) (steps : List Step) → Plays C q steps r → Plays C q steps r' → r ≡ r'
  Plays-same q r r' _ plays_none other = Plays-nothing q r' other
  Plays-same q r r' _ (plays_more {r = a} {step = step} {steps = steps} one more) (plays_more {r = b} one' more') =
      let e : a ≡ b = PlaysOne-same q a b step one one' in
      let again : Plays C a steps r' = rw e more' in Plays-same a r r' steps more again

  -- steps played already leave the others to play
  pub Plays-after : (q r t : List (LevelledIn C)) (xs ys : List Step) → Plays C q xs r → Plays C q (xs ++ ys) t → Plays C r ys t
  Plays-after q r t xs ys h both =
      let there = Plays-between q t xs ys both in
      let e : r ≡ there.0 = Plays-same q r there.0 xs h there.1 in rw e there.2

  -- a sequent is not played away by no steps
  pub Plays-open : (p : (LevelledIn C)) (q : List (LevelledIn C)) → Plays C (p ∷ q) [] [] → ⊥
  Plays-open p q h = let e = Plays-nothing (p ∷ q) [] h in cc

  -- nothing is played from the empty list
  pub Plays-over : (r : List (LevelledIn C)) (step : Step) (rest : List Step) → Plays C [] (step ∷ rest) r → ⊥
  Plays-over r step rest h = let first = Plays-first [] r step rest h in PlaysOne-empty step first.0 first.1

  -- nothing is played where the first step names no premises
  pub Plays-stuck : (n : ℕ) (c : C.SequentOf) (q r : List (LevelledIn C)) (step : Step) (rest : List Step) → C.premises_of step n c ≡ None → Plays C ((n, c) ∷ q) (step ∷ rest) r → ⊥
  Plays-stuck n c q r step rest stuck h = let first = Plays-first ((n, c) ∷ q) r step rest h in PlaysOne-stuck n c step q first.0 stuck first.1

module _ (C : RuleCalculus) (L : IsLawful C) where
  -- scope is kept
  pub AreScoped-plays : (q r : List (LevelledIn C)) (step : Step) → AreScoped C q → PlaysOne C q step r → AreScoped C r
  AreScoped-plays _ _ step h (plays {n} {c} {ps = ps} {q = q} fits) =
      AllByRecursion-append C.IsScoped ps q ((L.keeps step n c ps fits).scope h.0) h.1

  -- the logic is kept
  pub AreOfItsLogic-plays : (q r : List (LevelledIn C)) (step : Step) → AreOfItsLogic C q → PlaysOne C q step r → AreOfItsLogic C r
  AreOfItsLogic-plays _ _ step h (plays {n} {c} {ps = ps} {q = q} fits) =
      AllByRecursion-append (λ p. C.IsOfItsLogic p.1) ps q ((L.keeps step n c ps fits).logic h.0) h.1

  -- a step raises levels by at most one
  pub AreLow-plays : (m : ℕ) (q r : List (LevelledIn C)) (step : Step) → AreLow C m q → PlaysOne C q step r → AreLow C (m + 1) r
  AreLow-plays m _ _ step h (plays {n} {c} {ps = ps} {q = q} fits) =
      AllByRecursion-append (λ p. p.0 ≤ m + 1) ps q
      (AllByRecursion-weaker (λ p. p.0 ≤ n + 1) (λ p. p.0 ≤ m + 1) (λ p le. let first : n ≤ m = h.0 in omega arith) ps (L.keeps step n c ps fits).levels)
      (AllByRecursion-weaker (λ p. p.0 ≤ m) (λ p. p.0 ≤ m + 1) (λ p le. omega arith) q h.1)
