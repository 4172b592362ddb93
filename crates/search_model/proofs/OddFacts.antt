-- The odd calculus is lawful and complete, and not natural.
use Rattle.std.specs.Prelude.{◌≡◌, ℕ, zero, suc, List, [], ◌∷◌, ◌++◌, length, Contains}
use Rattle.std.proofs.Common.{refl, ap, sym, subst, arith}
use Rattle.std.proofs.lemmas.List.Elements.{All-nil}
use Rattle.fpc_terms.specs.Term.{app, no_args}
use Rattle.clause_language.specs.declared.clause.Clause.{Clause}
use Rattle.search_model.specs.Search.{GoalList}
use Rattle.search_model.specs.Lawful.{Spelled, IsGoal, AreGoals, IsLawful, IsComplete, IsNatural}
use Rattle.search_model.specs.Odd.{One, one, NoStep, empty_list, lists_from, odd, NaturalIsApart}
use Rattle.search_model.proofs.ClosingFacts.{closing_both, closing_free}

is_empty_list : (k : ℕ) (e : GoalList One NoStep) → Contains (lists_from k) e → e ≡ empty_list
is_empty_list zero e (zero, l, is) = sym is
is_empty_list zero e (suc j, l, is) = absurd (omega (arith, l))
is_empty_list (suc k) e (zero, l, is) = sym is
is_empty_list (suc k) e (suc zero, l, is) = sym is
is_empty_list (suc k) e (suc (suc j), l, is) = absurd (omega (arith, l))

odd_lawful : (clauses : List Clause) → IsLawful odd clauses
odd_lawful clauses = record {
  item-put = λ s r x. refl;
  step-put = λ s r e. refl;
  item_same = λ x. refl;
  step_same = λ e. refl;
  item_agrees = λ k s r same x o. refl;
  step_agrees = λ k s r same e o. refl;
  open_put = λ j k r h x o. tt;
  step_open_put = λ j k r h e o. tt;
  open_more = λ j k l x o. tt;
  step_open_more = λ j k l e o. tt;
  scoped_put = λ levels after r h x o scoped. tt;
  scoped_more = λ levels more x o scoped. tt;
  expands = λ levels x o scoped e is.
      subst (λ d. AreGoals odd (levels ++ d.new) d.goals) (sym (is_empty_list (length levels) e is))
      (All-nil (IsGoal odd (levels ++ [])));
  sound = λ levels x o scoped e is s closing steps h.
      subst (λ (d : GoalList One NoStep). Spelled odd clauses s d.goals steps → steps ≡ [])
      (sym (is_empty_list (length levels) e is)) (λ q. q) h;
}

first_is : (k : ℕ) → Contains (lists_from k) empty_list
first_is zero = (0, omega arith, refl)
first_is (suc k) = (0, omega arith, refl)

two_lists : empty_list ∷ empty_list ∷ [] ≡ empty_list ∷ [] → ⊥
two_lists e = let f : suc (suc zero) ≡ suc zero = ap (λ xs. length xs) e in cc

odd_not_natural : IsNatural odd → ⊥
odd_not_natural h = two_lists (sym (h 1 0 (λ n. app 0 no_args) (λ n l. tt) one tt))

odd_complete : (clauses : List Clause) → IsComplete odd clauses
odd_complete clauses = record {
  given = λ levels x o scoped s closing steps done. (
    empty_list,
    first_is (length levels),
    (λ n. app 0 no_args),
    closing_both levels [] s (λ n. app 0 no_args) closing
        (closing_free 0 (λ n. app 0 no_args) (λ n. tt)),
    done,
  );
}

pub natural_apart : NaturalIsApart
natural_apart =
    record { lawful = odd_lawful; complete = odd_complete; not_natural = odd_not_natural }
