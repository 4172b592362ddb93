-- The names of a formula have as many arguments as its nodes say.
use Rattle.std.proofs.Common.{◌≡◌, ℕ, ◌+◌, ◌<◌, ◌≤◌, Bool, true, false, nat_lt, List, [], ◌∷◌, length, get_or, slice_index_or, refl, sym, ap, ◌∙◌, subst, arith}
use Rattle.std.specs.List.{All}
use Rattle.std.proofs.lemmas.Bool.Decides.{nat_tests}
use Rattle.std.proofs.lemmas.Option.{slice_get_read, get_or_from_slice_get}
use Rattle.std.proofs.lemmas.List.Elements.{All-head, All-tail, All-nil, All-cons}
use Rattle.fpc_terms.specs.declared.cell.Cell.{Cell}
use Rattle.fpc_terms.specs.Term.{count, all_before}
use Rattle.fpc_terms.proofs.ArityFacts.{few_all_before}
use Rattle.polarised_formulas.specs.declared.node.Node.{Node}
use Rattle.polarised_formulas.specs.declared.node.Node.TheVariants.{True, False, Atom, And, Or, Implies, ForAll, Exists, Inside}
use Rattle.polarised_formulas.specs.Formula.{Formula, truth, falsity, atom, conj, disj, implies, for_all, exists, inside_before, nodes_before, nodes_of}
use Rattle.polarised_formulas.specs.Size.{HasFewArguments, IsFewCell, IsFewNode}

-- the cells of a literal, and the nodes behind them
few_inside : (cs : List Cell) (ns : List Node) → All IsFewNode (inside_before cs ns) → All IsFewCell cs × All IsFewNode ns
few_inside [] ns h = (All-nil IsFewCell, h)
few_inside (c ∷ cs) ns h =
    let first : IsFewCell c = All-head IsFewNode (Inside c) (inside_before cs ns) h in
    let rest = few_inside cs ns (All-tail IsFewNode (Inside c) (inside_before cs ns) h) in
    (All-cons IsFewCell c cs first rest.0, rest.1)

few_before : (f : Formula) (ns : List Node) → All IsFewNode (nodes_before f ns) → HasFewArguments f × All IsFewNode ns
few_before (truth p) ns h = (tt, All-tail IsFewNode (True p) ns h)
few_before (falsity p) ns h = (tt, All-tail IsFewNode (False p) ns h)
few_before (atom positive f ts) ns h =
    let first : count ts ≤ 255 = All-head IsFewNode (Atom positive f (count ts)) (inside_before (all_before ts []) ns) h in
    let rest = few_inside (all_before ts []) ns (All-tail IsFewNode (Atom positive f (count ts)) (inside_before (all_before ts []) ns) h) in
    ((first, (few_all_before ts [] rest.0).0), rest.1)
few_before (conj p a b) ns h =
    let x = few_before a (nodes_before b ns) (All-tail IsFewNode (And p) (nodes_before a (nodes_before b ns)) h) in
    let y = few_before b ns x.1 in
    ((x.0, y.0), y.1)
few_before (disj p a b) ns h =
    let x = few_before a (nodes_before b ns) (All-tail IsFewNode (Or p) (nodes_before a (nodes_before b ns)) h) in
    let y = few_before b ns x.1 in
    ((x.0, y.0), y.1)
few_before (implies a b) ns h =
    let x = few_before a (nodes_before b ns) (All-tail IsFewNode Implies (nodes_before a (nodes_before b ns)) h) in
    let y = few_before b ns x.1 in
    ((x.0, y.0), y.1)
few_before (for_all a) ns h = few_before a ns (All-tail IsFewNode ForAll (nodes_before a ns) h)
few_before (exists a) ns h = few_before a ns (All-tail IsFewNode Exists (nodes_before a ns) h)

-- nodes with few arguments make a formula whose names have few
pub few_of : (f : Formula) (ns : List Node) → ns ≡ nodes_of f → All IsFewNode ns → HasFewArguments f
few_of f ns e h = (few_before f [] (subst (All IsFewNode) e h)).0

-- what holds of one more element
pub one_more : {X : Type 0} (P : X → Type 0) (xs : List X) (i : ℕ) (x : X) → i < length xs → x ≡ get_or xs i x → P x
    → ((k : ℕ) (d : X) → k < i → P (slice_index_or xs k d)) → (k : ℕ) (d : X) → k < i + 1 → P (slice_index_or xs k d)
one_more {X} P xs i x within is here before k d l = by (nat_lt k i) refl
  where
    by : (b : Bool) → nat_lt k i ≡ b → P (slice_index_or xs k d)
    by true e = before k d (grind (arith, nat_tests))
    by false e =
        let same : i ≡ k = grind (arith, nat_tests) in
        let at : get_or xs i d ≡ x = get_or_from_slice_get xs i x d (slice_get_read xs (length xs) i x refl within is) in
        subst P (sym (ap (λ j. get_or xs j d) (sym same) ∙ at)) here
