-- The names of a term have as many arguments as its cells say.
use Rattle.std.proofs.Common.{◌≡◌, ℕ, ◌+◌, ◌<◌, ◌≤◌, Bool, true, false, nat_lt, List, [], length, get_or, slice_index_or, refl, sym, ap, ◌∙◌, subst, arith}
use Rattle.std.proofs.lemmas.Bool.Decides.{nat_tests}
use Rattle.std.proofs.lemmas.Option.{slice_get_read, get_or_from_slice_get}
use Rattle.std.specs.List.{All}
use Rattle.std.proofs.lemmas.List.Elements.{All-head, All-tail}
use Rattle.fpc_terms.specs.declared.cell.Cell.{Cell}
use Rattle.fpc_terms.specs.declared.cell.Cell.TheVariants.{Eigen, Bound, Var, App}
use Rattle.fpc_terms.specs.Term.{Term, Args, eigen, bound, variable, app, no_args, arg, count, cells_before, all_before, cells_of}
use Rattle.fpc_terms.specs.Arity.{HasFew, AllHaveFew, IsFewCell}

mutual
  few_before : (t : Term) (cs : List Cell) → All IsFewCell (cells_before t cs) → HasFew t × All IsFewCell cs
  few_before (eigen n) cs h = (tt, All-tail IsFewCell (Eigen n) cs h)
  few_before (bound k) cs h = (tt, All-tail IsFewCell (Bound k) cs h)
  few_before (variable v) cs h = (tt, All-tail IsFewCell (Var v) cs h)
  few_before (app f ts) cs h =
      let first : count ts ≤ 255 = All-head IsFewCell (App f (count ts)) (all_before ts cs) h in
      let rest = few_all_before ts cs (All-tail IsFewCell (App f (count ts)) (all_before ts cs) h) in
      ((first, rest.0), rest.1)

  pub few_all_before : (ts : Args) (cs : List Cell) → All IsFewCell (all_before ts cs) → AllHaveFew ts × All IsFewCell cs
  few_all_before no_args cs h = (tt, h)
  few_all_before (arg t ts) cs h =
      let first = few_before t (all_before ts cs) h in
      let rest = few_all_before ts cs first.1 in
      ((first.0, rest.0), rest.1)

-- few cells make a term whose names have few arguments
pub few_of : (t : Term) (cs : List Cell) → cs ≡ cells_of t → All IsFewCell cs → HasFew t
few_of t cs e h = (few_before t [] (subst (All IsFewCell) e h)).0

-- one cell more
pub few_more : (cells : List Cell) (i : ℕ) (x : Cell) → i < length cells → x ≡ get_or cells i x → IsFewCell x
    → ((k : ℕ) (d : Cell) → k < i → IsFewCell (slice_index_or cells k d)) → (k : ℕ) (d : Cell) → k < i + 1 → IsFewCell (slice_index_or cells k d)
few_more cells i x within is few before k d l = by (nat_lt k i) refl
  where
    by : (b : Bool) → nat_lt k i ≡ b → IsFewCell (slice_index_or cells k d)
    by true e = before k d (grind (arith, nat_tests))
    by false e =
        let same : i ≡ k = grind (arith, nat_tests) in
        let at : get_or cells i d ≡ x = get_or_from_slice_get cells i x d (slice_get_read cells (length cells) i x refl within is) in
        subst IsFewCell (sym (ap (λ j. get_or cells j d) (sym same) ∙ at)) few
