-- The sizes of terms and formulas by their cells and nodes.
use Rattle.std.proofs.Common.{◌≡◌, ℕ, suc, ◌+◌, ◌<◌, ◌≤◌, ◌/◌, ◌^◌, List, [], ◌∷◌, ◌++◌, length, decimal, refl, ap, ◌∙◌, arith}
use Rattle.std.specs.Prelude.{min}
use Rattle.std.proofs.lemmas.List.{length-append}
use Rattle.std.proofs.lemmas.Fmt.{decimal_digit, decimal_step, length-decimal-le}
use Rattle.fpc_terms.specs.declared.cell.Cell.{Cell}
use Rattle.fpc_terms.specs.Term.{Term, Args, eigen, bound, variable, app, no_args, arg, count, cells_before, all_before}
use Rattle.fpc_terms.specs.Text.{args_before, more_before, plain_leaves}
use Rattle.fpc_terms.proofs.PrintFacts.{AreNamedBelow-cells_of}
use Rattle.polarised_formulas.specs.declared.logic.Logic.{Logic}
use Rattle.polarised_formulas.specs.declared.logic.Logic.TheVariants.{Lkf, Ljf}
use Rattle.polarised_formulas.specs.declared.node.Node.{Node}
use Rattle.polarised_formulas.specs.declared.step.Step.{Step}
use Rattle.polarised_formulas.specs.declared.step.Step.TheVariants as step
use Rattle.polarised_formulas.specs.Formula.{Formula, truth, falsity, atom, conj, disj, implies, for_all, exists, inside_before, nodes_before}
use Rattle.polarised_formulas.specs.Text.{mark_text, truth_text, falsity_text, conj_text, disj_text, operator_before}
use Rattle.polarised_formulas.proofs.PrintFacts.{AreNodesNamedBelow-nodes_of}
use Rattle.polarised_formulas.specs.PlainForm.{plain_term, plain_formula}
use Rattle.explicit_form.specs.StepText.{word_text, step_word, end_text, header_text, argument_before, lines_before, certificate_text}
use Rattle.explicit_form.specs.Sizes.{counted, around_arguments, cells_size, nodes_size, argument_size, steps_size}

module _ (text : ℕ → List ℕ) where
  mutual
    length-term : (t : Term) (rest : List ℕ) (cs : List Cell) → length (plain_term text t rest) + cells_size text cs ≡ cells_size text (cells_before t cs) + length rest
    length-term (eigen k) rest cs = let l = length-append (decimal k) rest in omega arith
    length-term (bound k) rest cs = let l = length-append (decimal k) rest in omega arith
    length-term (variable k) rest cs = let l = length-append (decimal k) rest in omega arith
    length-term (app f ts) rest cs = let l = length-append (text f) (args_before (plain_leaves text) ts rest) in let a = length-args ts rest cs in omega arith

    length-args : (ts : Args) (rest : List ℕ) (cs : List Cell) → length (args_before (plain_leaves text) ts rest) + cells_size text cs ≡ around_arguments (count ts) + (cells_size text (all_before ts cs) + length rest)
    length-args no_args rest cs = omega arith
    length-args (arg t ts) rest cs = let a = length-term t (more_before (plain_leaves text) ts rest) (all_before ts cs) in let b = length-more ts rest cs in omega arith

    length-more : (ts : Args) (rest : List ℕ) (cs : List Cell) → length (more_before (plain_leaves text) ts rest) + cells_size text cs ≡ suc (count ts) + (cells_size text (all_before ts cs) + length rest)
    length-more no_args rest cs = omega arith
    length-more (arg t ts) rest cs = let a = length-term t (more_before (plain_leaves text) ts rest) (all_before ts cs) in let b = length-more ts rest cs in omega arith

  module _ (logic : Logic) where
    length-inside : (cs : List Cell) (ns : List Node) → nodes_size text logic (inside_before cs ns) ≡ cells_size text cs + nodes_size text logic ns
    length-inside [] ns = omega arith
    length-inside (c ∷ cs) ns = let e = length-inside cs ns in omega arith

    length-binary : (operator : List ℕ) (d : ℕ) (a b : Formula) (rest : List ℕ) (ns : List Node)
        → ((xs : List ℕ) (ms : List Node) → length (plain_formula text logic d a xs) + nodes_size text logic ms ≡ nodes_size text logic (nodes_before a ms) + length xs)
        → ((xs : List ℕ) (ms : List Node) → length (plain_formula text logic d b xs) + nodes_size text logic ms ≡ nodes_size text logic (nodes_before b ms) + length xs)
        → suc (length (plain_formula text logic d a (operator_before operator (plain_formula text logic d b (41 ∷ rest))))) + nodes_size text logic ns ≡ 4 + length operator + (nodes_size text logic (nodes_before a (nodes_before b ns)) + length rest)
    length-binary operator d a b rest ns first second =
        let x = first (operator_before operator (plain_formula text logic d b (41 ∷ rest))) (nodes_before b ns) in
        let y = second (41 ∷ rest) ns in
        let z = length-append operator (32 ∷ plain_formula text logic d b (41 ∷ rest)) in
        omega arith

    length-formula : (f : Formula) (d : ℕ) (rest : List ℕ) (ns : List Node) → length (plain_formula text logic d f rest) + nodes_size text logic ns ≡ nodes_size text logic (nodes_before f ns) + length rest
    length-formula (truth p) d rest ns = let l = length-append (truth_text p) rest in omega arith
    length-formula (falsity p) d rest ns = let l = length-append (falsity_text logic p) rest in omega arith
    length-formula (atom positive f ts) d rest ns =
        let l = length-append (mark_text logic positive) (text f ++ args_before (plain_leaves text) ts rest) in
        let m = length-append (text f) (args_before (plain_leaves text) ts rest) in
        let a = length-args ts rest [] in
        let i = length-inside (all_before ts []) ns in
        omega arith
    length-formula (conj p a b) d rest ns = let e = length-binary (conj_text p) d a b rest ns (length-formula a d) (length-formula b d) in omega arith
    length-formula (disj p a b) d rest ns = let e = length-binary (disj_text logic p) d a b rest ns (length-formula a d) (length-formula b d) in omega arith
    length-formula (implies a b) d rest ns = let e = length-binary (61 ∷ 62 ∷ []) d a b rest ns (length-formula a d) (length-formula b d) in omega arith
    length-formula (for_all a) d rest ns = let e = length-formula a (suc d) rest ns in omega arith
    length-formula (exists a) d rest ns = let e = length-formula a (suc d) rest ns in omega arith

    length-argument : (s : Step) (rest : List ℕ) → length (argument_before text logic s rest) ≡ argument_size text logic s + length rest
    length-argument (step.Decide k) rest = let l = length-append (decimal k) (10 ∷ rest) in omega arith
    length-argument (step.Init k) rest = let l = length-append (decimal k) (10 ∷ rest) in omega arith
    length-argument (step.DecideL k) rest = let l = length-append (decimal k) (10 ∷ rest) in omega arith
    length-argument (step.FocRInit k) rest = let l = length-append (decimal k) (10 ∷ rest) in omega arith
    length-argument (step.Exists t) rest = let l = length-term t (10 ∷ rest) [] in omega arith
    length-argument (step.FocLEvery t) rest = let l = length-term t (10 ∷ rest) [] in omega arith
    length-argument (step.FocRExists t) rest = let l = length-term t (10 ∷ rest) [] in omega arith
    length-argument (step.Cut f) rest = let l = length-formula f 0 (10 ∷ rest) [] in omega arith
    length-argument _ rest = omega arith

    length-lines : (ss : List Step) (rest : List ℕ) → length (lines_before text logic ss rest) ≡ steps_size text logic ss + length rest
    length-lines [] rest = omega arith
    length-lines (s ∷ ss) rest =
        let a = length-append (word_text (step_word s)) (argument_before text logic s (lines_before text logic ss rest)) in
        let b = length-argument s (lines_before text logic ss rest) in
        let c = length-lines ss rest in
        omega arith

    length-header : (l : Logic) → length (header_text l) ≡ 10
    length-header Lkf = refl
    length-header Ljf = refl

    pub length-certificate : (ss : List Step) → length (certificate_text text logic ss) ≡ 14 + steps_size text logic ss
    length-certificate ss =
        let a = length-append (header_text logic) (lines_before text logic ss end_text) in
        let b = length-header logic in
        let c = length-lines ss end_text in
        omega arith

-- the sum of counts is the count of the sum
pub counted-sum : (a b m n : ℕ) → m ≡ counted a → n ≡ counted b → min (m + n) 18446744073709551615 ≡ counted (a + b)
counted-sum a b m n e f = omega arith

-- a number that fits is counted
pub counted-low : (n : ℕ) → n ≤ 18446744073709551615 → counted n ≡ n
counted-low n l = omega arith

-- one item more is counted
pub counted-step : (size one a rest : ℕ) → one ≡ counted a → counted (min (size + one) 18446744073709551615 + rest) ≡ counted (size + (a + rest))
counted-step size one a rest e = omega arith

pub counted-start : (total : ℕ) → counted (0 + total) ≡ counted total
counted-start total = omega arith

pub counted-end : (size total : ℕ) → size ≤ 18446744073709551615 → counted (size + 0) ≡ counted total → size ≡ counted total
counted-end size total l e = omega arith

-- one digit more is counted
pub digits-step : (number rest number_of : ℕ) → number < 2 ^ 64 → rest < 2 ^ 64 → 10 ≤ rest → number_of + length (decimal rest) ≡ 1 + length (decimal number) → min (number_of + 1) 18446744073709551615 + length (decimal (rest / 10)) ≡ 1 + length (decimal number)
digits-step number rest number_of l m ge e =
    let a : length (decimal rest) ≡ length (decimal (rest / 10)) + 1 = ap length (decimal_step rest ge m) ∙ length-append (decimal (rest / 10)) _ in
    let b : length (decimal number) ≤ 20 = length-decimal-le 20 number (omega arith) (omega arith) l in
    omega arith

pub digits-end : (number rest number_of : ℕ) → rest < 10 → number_of + length (decimal rest) ≡ 1 + length (decimal number) → number_of ≡ length (decimal number)
digits-end number rest number_of l e =
    let a : length (decimal rest) ≡ 1 = ap length (decimal_digit rest l) in
    omega arith

-- what was added up so stays in a `u64`
pub saturated-low : (a n : ℕ) → n ≡ min a 18446744073709551615 → n ≤ 18446744073709551615
saturated-low a n e = omega arith

pub ruleset size_facts = (saturated-low, length-certificate, counted-sum, counted-low, counted-step, counted-start, counted-end, digits-step, digits-end, AreNamedBelow-cells_of, AreNodesNamedBelow-nodes_of)
