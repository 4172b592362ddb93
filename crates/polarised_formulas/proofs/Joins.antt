-- Bytes behind a text stay behind it.
use Rattle.std.proofs.Common.{◌≡◌, ℕ, suc, List, ◌∷◌, ◌++◌, codes, decimal, refl, sym, ap, ◌∙◌, append_assoc}
use Rattle.fpc_terms.specs.Term.{Term, Args, eigen, bound, variable, app, no_args, arg}
use Rattle.fpc_terms.specs.Text.{args_before, more_before, plain_leaves}
use Rattle.polarised_formulas.specs.declared.logic.Logic.{Logic}
use Rattle.polarised_formulas.specs.Formula.{Formula, truth, falsity, atom, conj, disj, implies, for_all, exists}
use Rattle.polarised_formulas.specs.Text.{mark_text, truth_text, falsity_text, operator_before}
use Rattle.polarised_formulas.specs.PlainReading.{Operator, conjunction, disjunction, implication, operator_text}
use Rattle.polarised_formulas.specs.PlainForm.{plain_term, plain_formula}

-- in front of more bytes
behind : (front xs ys zs : List ℕ) → xs ≡ zs ++ ys → front ++ xs ≡ (front ++ zs) ++ ys
behind front xs ys zs e = ap (λ v. front ++ v) e ∙ sym (append_assoc front zs ys)

module _ (text : ℕ → List ℕ) (ys : List ℕ) where
  mutual
    pub plain_term-append : (t : Term) (xs : List ℕ) → plain_term text t (xs ++ ys) ≡ plain_term text t xs ++ ys
    plain_term-append (eigen k) xs = ap (λ v. 36 ∷ v) (behind (decimal k) (xs ++ ys) ys xs refl)
    plain_term-append (bound k) xs = ap (λ v. 35 ∷ v) (behind (decimal k) (xs ++ ys) ys xs refl)
    plain_term-append (variable k) xs = ap (λ v. 86 ∷ v) (behind (decimal k) (xs ++ ys) ys xs refl)
    plain_term-append (app f ts) xs = behind (text f) _ ys (args_before (plain_leaves text) ts xs) (args_before-append ts xs)

    args_before-append : (ts : Args) (xs : List ℕ) → args_before (plain_leaves text) ts (xs ++ ys) ≡ args_before (plain_leaves text) ts xs ++ ys
    args_before-append no_args xs = refl
    args_before-append (arg t ts) xs =
        ap (λ v. 40 ∷ v) (ap (plain_term text t) (more_before-append ts xs) ∙ plain_term-append t (more_before (plain_leaves text) ts xs))

    more_before-append : (ts : Args) (xs : List ℕ) → more_before (plain_leaves text) ts (xs ++ ys) ≡ more_before (plain_leaves text) ts xs ++ ys
    more_before-append no_args xs = refl
    more_before-append (arg t ts) xs =
        ap (λ v. 44 ∷ v) (ap (plain_term text t) (more_before-append ts xs) ∙ plain_term-append t (more_before (plain_leaves text) ts xs))

  module _ (logic : Logic) where
    binary-append : (d : ℕ) (o : Operator) (a b : Formula) → ((xs : List ℕ) → plain_formula text logic d a (xs ++ ys) ≡ plain_formula text logic d a xs ++ ys) → ((xs : List ℕ) → plain_formula text logic d b (xs ++ ys) ≡ plain_formula text logic d b xs ++ ys) → (xs : List ℕ)
        → 40 ∷ plain_formula text logic d a (operator_before (operator_text logic o) (plain_formula text logic d b (41 ∷ (xs ++ ys)))) ≡ (40 ∷ plain_formula text logic d a (operator_before (operator_text logic o) (plain_formula text logic d b (41 ∷ xs)))) ++ ys
    binary-append d o a b first second xs =
        ap (λ v. 40 ∷ v)
        (ap (plain_formula text logic d a) (ap (λ v. 32 ∷ v) (behind (operator_text logic o) _ ys (32 ∷ plain_formula text logic d b (41 ∷ xs)) (ap (λ v. 32 ∷ v) (second (41 ∷ xs)))))
        ∙ first (operator_before (operator_text logic o) (plain_formula text logic d b (41 ∷ xs))))

    pub plain_formula-append : (d : ℕ) (f : Formula) (xs : List ℕ) → plain_formula text logic d f (xs ++ ys) ≡ plain_formula text logic d f xs ++ ys
    plain_formula-append d (truth p) xs = behind (truth_text p) (xs ++ ys) ys xs refl
    plain_formula-append d (falsity p) xs = behind (falsity_text logic p) (xs ++ ys) ys xs refl
    plain_formula-append d (atom positive f ts) xs = behind (mark_text logic positive) _ ys (text f ++ args_before (plain_leaves text) ts xs) (behind (text f) _ ys (args_before (plain_leaves text) ts xs) (args_before-append ts xs))
    plain_formula-append d (conj p a b) xs = binary-append d (conjunction p) a b (plain_formula-append d a) (plain_formula-append d b) xs
    plain_formula-append d (disj p a b) xs = binary-append d (disjunction p) a b (plain_formula-append d a) (plain_formula-append d b) xs
    plain_formula-append d (implies a b) xs = binary-append d implication a b (plain_formula-append d a) (plain_formula-append d b) xs
    plain_formula-append d (for_all a) xs = ap (λ v. codes "all " ++ v) (plain_formula-append (suc d) a xs)
    plain_formula-append d (exists a) xs = ap (λ v. codes "some " ++ v) (plain_formula-append (suc d) a xs)
