-- Node by node the text of a formula comes about.
use Rattle.std.proofs.Common.{◌≡◌, ℕ, ◌<◌, ◌≤◌, ◌+◌, ◌-◌, List, [], ◌∷◌, ◌++◌, length, refl, ap, arith, append_assoc, ◌∙◌}
use Rattle.std.specs.Prelude.{zero, suc, codes}
use Rattle.fpc_terms.specs.declared.cell.Cell.{Cell}
use Rattle.fpc_terms.specs.Term.{Term, Args, eigen, bound, variable, app, no_args, arg, count, cells_before, all_before}
use Rattle.fpc_terms.specs.Text.{Leaves, name_in, term_before, args_before, more_before}
use Rattle.fpc_terms.specs.Printing.{AreNamedBelow}
use Rattle.fpc_terms.proofs.PrintFacts.{AreNamedBelow-all_before, front_facts}
use Rattle.polarised_formulas.specs.declared.logic.Logic.{Logic}
use Rattle.polarised_formulas.specs.declared.node.Node.{Node}
use Rattle.polarised_formulas.specs.declared.print.waiting.Operator.TheVariants.{Conjunction, Disjunction, Implication}
use Rattle.polarised_formulas.specs.declared.print.waiting.Waiting.{Waiting}
use Rattle.polarised_formulas.specs.declared.print.waiting.Waiting.TheVariants.{Arguments, Second, Close}
use Rattle.polarised_formulas.specs.Formula.{Formula, truth, falsity, atom, conj, disj, implies, for_all, exists, nodes_before, nodes_of, inside_before}
use Rattle.polarised_formulas.specs.Text.{Style, conj_text, disj_text, operator_before, formula_before, named_style, logic_text, problem_text}
use Rattle.polarised_formulas.specs.Printing.{AllNamesBelow, AreNodesNamedBelow, end_text, end_waiting, end_depth, name_end_text, name_end_waiting, name_end_depth, nodes_text}
use Rattle.polarised_formulas.proofs.PartFacts.{node_count, length-nodes_before}
use Rattle.polarised_formulas.proofs.OpenedFacts.{last_depth, deeper-low}

operator_before-append : (operator xs ys : List ℕ) → operator_before operator xs ++ ys ≡ operator_before operator (xs ++ ys)
operator_before-append operator xs ys = ap (λ bytes. 32 ∷ bytes) (append_assoc operator (32 ∷ xs) ys)

module _ (style : Style) (logic : Logic) where
  mutual
    nodes_text-cells_before : (t : Term) (d : ℕ) (s : List Waiting) (cs : List Cell) (ns : List Node) →
        nodes_text style logic d s (inside_before (cells_before t cs) ns) ≡ term_before (style.leaves d) t (end_text logic s ++ nodes_text style logic (end_depth d s) (end_waiting s) (inside_before cs ns))
    nodes_text-cells_before (eigen n) d s cs ns = refl
    nodes_text-cells_before (bound k) d s cs ns = refl
    nodes_text-cells_before (variable v) d s cs ns = refl
    nodes_text-cells_before (app f no_args) d s cs ns = refl
    nodes_text-cells_before (app f (arg t ts)) d s cs ns = rw (nodes_text-cells_before t d (Arguments (count ts) ∷ s) (all_before ts cs) ns, nodes_text-all_before ts d s cs ns)

    -- the arguments behind one
    nodes_text-all_before : (ts : Args) (d : ℕ) (s : List Waiting) (cs : List Cell) (ns : List Node) →
        end_text logic (Arguments (count ts) ∷ s) ++ nodes_text style logic (end_depth d (Arguments (count ts) ∷ s)) (end_waiting (Arguments (count ts) ∷ s)) (inside_before (all_before ts cs) ns)
        ≡ more_before (style.leaves d) ts (end_text logic s ++ nodes_text style logic (end_depth d s) (end_waiting s) (inside_before cs ns))
    nodes_text-all_before no_args d s cs ns = refl
    nodes_text-all_before (arg t ts) d s cs ns = rw (nodes_text-cells_before t d (Arguments (count ts) ∷ s) (all_before ts cs) ns, nodes_text-all_before ts d s cs ns)

  nodes_text-nodes_before : (f : Formula) (d : ℕ) (s : List Waiting) (ns : List Node) → d + node_count f ≤ 18446744073709551615 →
      nodes_text style logic d s (nodes_before f ns) ≡ formula_before style logic d f (end_text logic s ++ nodes_text style logic (end_depth (last_depth d f) s) (end_waiting s) ns)
  nodes_text-nodes_before (truth p) d s ns h = refl
  nodes_text-nodes_before (falsity p) d s ns h = refl
  nodes_text-nodes_before (atom positive f no_args) d s ns h = rw append_assoc
  nodes_text-nodes_before (atom positive f (arg t ts)) d s ns h = rw (nodes_text-cells_before t d (Arguments (count ts) ∷ s) (all_before ts []) ns, nodes_text-all_before ts d s [] ns, append_assoc)
  nodes_text-nodes_before (conj p a b) d s ns h =
      rw (nodes_text-nodes_before a d (Second (Conjunction p) d ∷ s) (nodes_before b ns) (omega arith), operator_before-append (conj_text p) [], nodes_text-nodes_before b d (Close ∷ s) ns (omega arith))
  nodes_text-nodes_before (disj p a b) d s ns h =
      rw (nodes_text-nodes_before a d (Second (Disjunction p) d ∷ s) (nodes_before b ns) (omega arith), operator_before-append (disj_text logic p) [], nodes_text-nodes_before b d (Close ∷ s) ns (omega arith))
  nodes_text-nodes_before (implies a b) d s ns h =
      rw (nodes_text-nodes_before a d (Second Implication d ∷ s) (nodes_before b ns) (omega arith), nodes_text-nodes_before b d (Close ∷ s) ns (omega arith))
  nodes_text-nodes_before (for_all a) d s ns h = rw (deeper-low d (omega arith), nodes_text-nodes_before a (suc d) s ns (omega arith))
  nodes_text-nodes_before (exists a) d s ns h = rw (deeper-low d (omega arith), nodes_text-nodes_before a (suc d) s ns (omega arith))

  -- all nodes together are the text of the formula
  pub nodes_text-nodes_of : (f : Formula) → length (nodes_of f) ≤ 18446744073709551615 → nodes_text style logic 0 [] (nodes_of f) ≡ formula_before style logic 0 f []
  nodes_text-nodes_of f h = nodes_text-nodes_before f 0 [] [] (omega (arith, length-nodes_before f []))

module _ (leaves : Leaves) where
  mutual
    pub term_before-append : (t : Term) (xs ys : List ℕ) → term_before leaves t xs ++ ys ≡ term_before leaves t (xs ++ ys)
    term_before-append (eigen n) xs ys = rw append_assoc
    term_before-append (bound k) xs ys = rw append_assoc
    term_before-append (variable v) xs ys = rw append_assoc
    term_before-append (app f ts) xs ys = rw (append_assoc, args_before-append ts xs ys)

    args_before-append : (ts : Args) (xs ys : List ℕ) → args_before leaves ts xs ++ ys ≡ args_before leaves ts (xs ++ ys)
    args_before-append no_args xs ys = refl
    args_before-append (arg t ts) xs ys = rw (term_before-append t (more_before leaves ts xs) ys, more_before-append ts xs ys)

    more_before-append : (ts : Args) (xs ys : List ℕ) → more_before leaves ts xs ++ ys ≡ more_before leaves ts (xs ++ ys)
    more_before-append no_args xs ys = refl
    more_before-append (arg t ts) xs ys = rw (term_before-append t (more_before leaves ts xs) ys, more_before-append ts xs ys)

pub formula_before-append : (style : Style) (logic : Logic) (f : Formula) (d : ℕ) (xs ys : List ℕ) → formula_before style logic d f xs ++ ys ≡ formula_before style logic d f (xs ++ ys)
formula_before-append style logic (truth p) d xs ys = rw append_assoc
formula_before-append style logic (falsity p) d xs ys = rw append_assoc
formula_before-append style logic (atom positive f ts) d xs ys = rw (append_assoc, append_assoc, args_before-append (style.leaves d) ts xs ys)
formula_before-append style logic (conj p a b) d xs ys =
    rw (formula_before-append style logic a d (operator_before (conj_text p) (formula_before style logic d b (41 ∷ xs))) ys, operator_before-append (conj_text p), formula_before-append style logic b d (41 ∷ xs) ys)
formula_before-append style logic (disj p a b) d xs ys =
    rw (formula_before-append style logic a d (operator_before (disj_text logic p) (formula_before style logic d b (41 ∷ xs))) ys, operator_before-append (disj_text logic p), formula_before-append style logic b d (41 ∷ xs) ys)
formula_before-append style logic (implies a b) d xs ys =
    rw (formula_before-append style logic a d (operator_before (codes "=>") (formula_before style logic d b (41 ∷ xs))) ys, formula_before-append style logic b d (41 ∷ xs) ys)
formula_before-append style logic (for_all a) d xs ys = rw (append_assoc (style.binder d) (formula_before style logic (suc d) a xs) ys, formula_before-append style logic a (suc d) xs ys)
formula_before-append style logic (exists a) d xs ys = rw (append_assoc (style.binder d) (formula_before style logic (suc d) a xs) ys, formula_before-append style logic a (suc d) xs ys)

-- the parts of a problem's text in the order in which they are written
pub problem_text-written : (names : List (List ℕ)) (logic : Logic) (f : Formula) →
    ((logic_text logic ++ 32 ∷ []) ++ formula_before (named_style (name_in names)) logic 0 f []) ++ 46 ∷ 10 ∷ [] ≡ problem_text names logic f
problem_text-written names logic f =
    append_assoc (logic_text logic ++ 32 ∷ []) (formula_before (named_style (name_in names)) logic 0 f []) (46 ∷ 10 ∷ [])
    ∙ ap (λ bytes. (logic_text logic ++ 32 ∷ []) ++ bytes) (formula_before-append (named_style (name_in names)) logic f 0 [] (46 ∷ 10 ∷ []))
    ∙ append_assoc (logic_text logic) (32 ∷ []) (formula_before (named_style (name_in names)) logic 0 f (46 ∷ 10 ∷ []))

AreNodesNamedBelow-inside_before : (n : ℕ) (cs : List Cell) (ns : List Node) → AreNamedBelow n cs → AreNodesNamedBelow n ns → AreNodesNamedBelow n (inside_before cs ns)
AreNodesNamedBelow-inside_before n [] ns h hs = hs
AreNodesNamedBelow-inside_before n (c ∷ cs) ns h hs = (h.0, AreNodesNamedBelow-inside_before n cs ns h.1 hs)

AreNodesNamedBelow-nodes_before : (n : ℕ) (f : Formula) (ns : List Node) → AllNamesBelow n f → AreNodesNamedBelow n ns → AreNodesNamedBelow n (nodes_before f ns)
AreNodesNamedBelow-nodes_before n (truth p) ns h hs = (tt, hs)
AreNodesNamedBelow-nodes_before n (falsity p) ns h hs = (tt, hs)
AreNodesNamedBelow-nodes_before n (atom positive f ts) ns h hs = (h.0, AreNodesNamedBelow-inside_before n (all_before ts []) ns (AreNamedBelow-all_before n ts [] h.1 tt) hs)
AreNodesNamedBelow-nodes_before n (conj p a b) ns h hs = (tt, AreNodesNamedBelow-nodes_before n a (nodes_before b ns) h.0 (AreNodesNamedBelow-nodes_before n b ns h.1 hs))
AreNodesNamedBelow-nodes_before n (disj p a b) ns h hs = (tt, AreNodesNamedBelow-nodes_before n a (nodes_before b ns) h.0 (AreNodesNamedBelow-nodes_before n b ns h.1 hs))
AreNodesNamedBelow-nodes_before n (implies a b) ns h hs = (tt, AreNodesNamedBelow-nodes_before n a (nodes_before b ns) h.0 (AreNodesNamedBelow-nodes_before n b ns h.1 hs))
AreNodesNamedBelow-nodes_before n (for_all a) ns h hs = (tt, AreNodesNamedBelow-nodes_before n a ns h hs)
AreNodesNamedBelow-nodes_before n (exists a) ns h hs = (tt, AreNodesNamedBelow-nodes_before n a ns h hs)

pub AreNodesNamedBelow-nodes_of : (n : ℕ) (f : Formula) → AllNamesBelow n f → AreNodesNamedBelow n (nodes_of f)
AreNodesNamedBelow-nodes_of n f h = AreNodesNamedBelow-nodes_before n f [] h tt

-- behind a name with arguments
pub name_end_text-some : (logic : Logic) (n : ℕ) (s : List Waiting) → 0 < n → name_end_text logic n s ≡ 40 ∷ []
name_end_text-some logic zero s h = let no : ⊥ = omega arith in absurd no
name_end_text-some logic (suc n) s h = refl

pub name_end_waiting-some : (n : ℕ) (s : List Waiting) → 0 < n → name_end_waiting n s ≡ Arguments (n - 1) ∷ s
name_end_waiting-some zero s h = let no : ⊥ = omega arith in absurd no
name_end_waiting-some (suc n) s h = ap (λ k. Arguments k ∷ s) (omega arith)

pub name_end_depth-some : (n d : ℕ) (s : List Waiting) → 0 < n → name_end_depth n d s ≡ d
name_end_depth-some zero d s h = let no : ⊥ = omega arith in absurd no
name_end_depth-some (suc n) d s h = refl

pub ruleset print_facts = (front_facts, nodes_text-nodes_of, AreNodesNamedBelow-nodes_of, name_end_text-some, name_end_waiting-some, name_end_depth-some)
