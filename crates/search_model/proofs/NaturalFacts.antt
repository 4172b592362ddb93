-- A natural calculus is complete where it is on items without variables.
use Rattle.std.specs.Prelude.{◌≡◌, ℕ, zero, suc, ◌+◌, ◌-◌, ◌<◌, Bool, true, false, nat_lt, if◌then◌else◌}
use Rattle.std.specs.Prelude.{List, [], ◌∷◌, ◌++◌, map, length, Contains}
use Rattle.std.proofs.Common.{refl, ap, sym, subst, ◌∙◌, arith}
use Rattle.std.proofs.lemmas.List.Elements.{Contains-append_right}
use mathlib.Core.Path.{fun_ext}
use Rattle.fpc_terms.specs.Term.{Term, variable, put, Never, Always}
use Rattle.fpc_terms.specs.Open.{IsGround, IsOpen, Level, IsClosing, later}
use Rattle.fpc_terms.proofs.PutFacts.{put_agrees, each_more}
use Rattle.clause_language.specs.declared.clause.Clause.{Clause}
use Rattle.search_model.specs.Search.{SearchCalculus, GoalList, put_goal}
use Rattle.search_model.specs.Lawful.{Spelled, IsLawful, IsComplete, IsNatural, both, put_list}
use Rattle.search_model.proofs.ClosingFacts.{closing_both}
use Rattle.polarised_formulas.proofs.OpenFormulaFacts.{put_same}
use Rattle.search_model.proofs.SpelledFacts.{spelled_put}

-- what is in the image of a list is the image of one of it
mapped_from : {X Y : Type 0} (f : X → Y) (xs : List X) (y : Y) → Contains (map f xs) y
    → (x : X) × Contains xs x × (y ≡ f x)
mapped_from f [] y (k, lt, is) = absurd (omega (arith, lt))
mapped_from f (x ∷ xs) y (zero, lt, is) = (x, (0, omega arith, refl), sym is)
mapped_from f (x ∷ xs) y (suc k, lt, is) =
    let r = mapped_from f xs y (k, omega (arith, lt), is) in
    (r.0, Contains-append_right (x ∷ []) xs r.0 r.1, r.2)

ground_is_open : (k : ℕ) (t : Term) → IsGround t → IsOpen k t
ground_is_open k t h =
    each_more Always Never Never Always Never (λ n. n < k) (λ m q. q) (λ m q. q) (λ m q. absurd q) t h

-- a ground term stays as it is
ground_same : (r : ℕ → Term) (t : Term) → IsGround t → put r t ≡ t
ground_same r t h = put_agrees Always Never Never r variable (λ n q. absurd q) t h ∙ put_same t

module _ (C : SearchCalculus) (clauses : List Clause) where
  -- one of the goal lists, and terms for its variables under which it spells the steps
  pub record IsGiven (es : List (GoalList C.ItemOf C.StepOf)) (steps : List C.StepOf) : Type 0 where
    pub one_of : GoalList C.ItemOf C.StepOf
    pub is_one : Contains es one_of
    pub terms : ℕ → Term
    pub closing : IsClosing one_of.new terms
    pub met : Spelled C clauses terms one_of.goals steps

  -- ground terms, and then others for the new variables
  both_closed : (k : ℕ) (s r : ℕ → Term) → ((n : ℕ) → IsGround (s n))
      → (λ n. put r (both k s (later 0) n)) ≡ both k s r
  both_closed k s r ground_at = fun_ext (λ n. by_case n (nat_lt n k))
    where
      by_case : (n : ℕ) (b : Bool) → put r (if b then s n else later 0 (n - k)) ≡ (if b then s n else r (n - k))
      by_case n true = ground_same r (s n) (ground_at n)
      by_case n false = let at : 0 + (n - k) ≡ n - k = omega arith in ap r at

  module _ (lawful : IsLawful C clauses) (natural : IsNatural C)
      (gives : (x : C.ItemOf) → C.IsOpenItem 0 x → (steps : List C.StepOf) → C.Completed x steps
      → IsGiven (C.expand x 0) steps) where
    given : (levels : List Level) (x : C.ItemOf) → C.IsOpenItem (length levels) x
        → C.IsScopedItem levels x → (s : ℕ → Term) → IsClosing levels s
        → (steps : List C.StepOf) → C.Completed (C.put_item s x) steps
        → (e : GoalList C.ItemOf C.StepOf) × Contains (C.expand x (length levels)) e × (r : ℕ → Term)
        × IsClosing (levels ++ e.new) (both (length levels) s r)
        × Spelled C clauses (both (length levels) s r) e.goals steps
    given levels x x_open scoped s closing steps completed =
        let k = length levels in
        let first : ℕ → Term = both k s (later 0) in
        let closed : (n : ℕ) → n < k → IsOpen 0 (s n) = (λ n l. ground_is_open 0 (s n) (closing.ground n)) in
        let g : IsGiven (C.expand (C.put_item s x) 0) steps =
        gives (C.put_item s x) (lawful.open_put k 0 s closed x x_open) steps completed in
        let from = mapped_from (put_list C first) (C.expand x k) g.one_of
        (subst (λ es. Contains es g.one_of) (natural k 0 s closed x x_open) g.is_one) in
        let new : g.one_of.new ≡ from.0.new = ap (λ (e : GoalList C.ItemOf C.StepOf). e.new) from.2 in
        let others : IsClosing from.0.new g.terms = subst (λ ls. IsClosing ls g.terms) new g.closing in
        let met : Spelled C clauses g.terms (map (put_goal C first) from.0.goals) steps =
        subst (λ (e : GoalList C.ItemOf C.StepOf). Spelled C clauses g.terms e.goals steps) from.2 g.met in (
          from.0,
          from.1,
          g.terms,
          closing_both levels from.0.new s g.terms closing others,
          subst (λ f. Spelled C clauses f from.0.goals steps) (both_closed k s g.terms closing.ground)
              (spelled_put C clauses lawful g.terms first from.0.goals steps met),
        )

    -- the complete law follows from its part on items without variables
    pub natural_complete : IsComplete C clauses
    natural_complete = record { given = given }
