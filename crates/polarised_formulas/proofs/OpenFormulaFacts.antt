-- Terms for the variables of formulas and steps: one substitution after another, substitutions that
-- agree, and what stays open and in scope.
use Rattle.std.proofs.Common.{◌≡◌, ℕ, suc, ◌<◌, ◌≤◌, ◌++◌, List, length, None, Some, refl, ap, ap₂, sym, subst, ⊎_elim, arith}
use Rattle.std.proofs.lemmas.Bool.{cases_lt}
use Rattle.std.proofs.lemmas.List.{get_or_append_left, get_or_past}
use Rattle.fpc_terms.specs.Term.{Term, Args, eigen, bound, variable, app, no_args, arg, put, put_all, Each, Never, Always}
use Rattle.fpc_terms.specs.Open.{IsOpen, Level, level_of, IsAtMost}
use Rattle.fpc_terms.proofs.LevelFacts.{at_most_trans}
use Rattle.fpc_terms.proofs.PutFacts.{put-put, put_all-put_all, put_agrees, put_all_agrees, each_more, each_arg_more, each_arg_put, open_put, open_more}
use Rattle.polarised_formulas.specs.Formula.{Formula, truth, falsity, atom, conj, disj, implies, for_all, exists, EachInside, Tied}
use Rattle.polarised_formulas.specs.declared.step.Step.{Step}
use Rattle.polarised_formulas.specs.declared.step.Step.TheVariants.{Exists, Cut, FocLEvery, FocRExists}
use Rattle.fpc_terms.specs.Open.{IsOpenAt}
use Rattle.polarised_formulas.specs.OpenFormula.{put_formula, put_step, AnyBound, IsOpenFormula, IsScopedFormula, IsOpenStep}

-- a variable for itself changes nothing
mutual
  pub put_same : (t : Term) → put variable t ≡ t
  put_same (eigen n) = refl
  put_same (bound k) = refl
  put_same (variable n) = refl
  put_same (app f ts) = ap (app f) (put_all_same ts)

  pub put_all_same : (ts : Args) → put_all variable ts ≡ ts
  put_all_same no_args = refl
  put_all_same (arg t ts) = ap₂ arg (put_same t) (put_all_same ts)

pub formula_same : (f : Formula) → put_formula variable f ≡ f
formula_same (truth p) = refl
formula_same (falsity p) = refl
formula_same (atom b f ts) = ap (atom b f) (put_all_same ts)
formula_same (conj p x y) = ap₂ (conj p) (formula_same x) (formula_same y)
formula_same (disj p x y) = ap₂ (disj p) (formula_same x) (formula_same y)
formula_same (implies x y) = ap₂ implies (formula_same x) (formula_same y)
formula_same (for_all x) = ap for_all (formula_same x)
formula_same (exists x) = ap exists (formula_same x)

pub step_same : (e : Step) → put_step variable e ≡ e
step_same (Exists t) = ap Exists (put_same t)
step_same (Cut f) = ap Cut (formula_same f)
step_same (FocLEvery t) = ap FocLEvery (put_same t)
step_same (FocRExists t) = ap FocRExists (put_same t)
step_same _ = refl

-- one substitution after another is one substitution
module _ (s r : ℕ → Term) where
  pub formula-put : (f : Formula) → put_formula s (put_formula r f) ≡ put_formula (λ n. put s (r n)) f
  formula-put (truth p) = refl
  formula-put (falsity p) = refl
  formula-put (atom b f ts) = ap (atom b f) (put_all-put_all s r ts)
  formula-put (conj p x y) = ap₂ (conj p) (formula-put x) (formula-put y)
  formula-put (disj p x y) = ap₂ (disj p) (formula-put x) (formula-put y)
  formula-put (implies x y) = ap₂ implies (formula-put x) (formula-put y)
  formula-put (for_all x) = ap for_all (formula-put x)
  formula-put (exists x) = ap exists (formula-put x)

  pub step-put : (e : Step) → put_step s (put_step r e) ≡ put_step (λ n. put s (r n)) e
  step-put (Exists t) = ap Exists (put-put s r t)
  step-put (Cut f) = ap Cut (formula-put f)
  step-put (FocLEvery t) = ap FocLEvery (put-put s r t)
  step-put (FocRExists t) = ap FocRExists (put-put s r t)
  step-put _ = refl

-- substitutions that agree at the variables of a formula agree at the formula
module _ (e : ℕ → Type 0) (b : ℕ → ℕ → Type 0) (v : ℕ → Type 0) (s r : ℕ → Term)
    (agree : (n : ℕ) → v n → s n ≡ r n) where
  pub formula_agrees : (d : ℕ) (f : Formula) → EachInside e b v d f → put_formula s f ≡ put_formula r f
  formula_agrees d (truth p) h = refl
  formula_agrees d (falsity p) h = refl
  formula_agrees d (atom q f ts) h = ap (atom q f) (put_all_agrees e (b d) v s r agree ts h)
  formula_agrees d (conj p x y) h = ap₂ (conj p) (formula_agrees d x h.0) (formula_agrees d y h.1)
  formula_agrees d (disj p x y) h = ap₂ (disj p) (formula_agrees d x h.0) (formula_agrees d y h.1)
  formula_agrees d (implies x y) h = ap₂ implies (formula_agrees d x h.0) (formula_agrees d y h.1)
  formula_agrees d (for_all x) h = ap for_all (formula_agrees (suc d) x h)
  formula_agrees d (exists x) h = ap exists (formula_agrees (suc d) x h)

pub step_agrees : (k : ℕ) (s r : ℕ → Term) → ((n : ℕ) → n < k → s n ≡ r n)
    → (e : Step) → IsOpenStep k e → put_step s e ≡ put_step r e
step_agrees k s r same (Exists t) h = ap Exists (put_agrees Always Never (λ n. n < k) s r same t h)
step_agrees k s r same (Cut f) h =
    ap Cut (formula_agrees Always AnyBound (λ n. n < k) s r same 0 f h)
step_agrees k s r same (FocLEvery t) h =
    ap FocLEvery (put_agrees Always Never (λ n. n < k) s r same t h)
step_agrees k s r same (FocRExists t) h =
    ap FocRExists (put_agrees Always Never (λ n. n < k) s r same t h)
step_agrees k s r same _ h = refl

module _ (e : ℕ → Type 0) (b : ℕ → ℕ → Type 0) (v : ℕ → Type 0)
    (e' : ℕ → Type 0) (b' : ℕ → ℕ → Type 0) (v' : ℕ → Type 0)
    (he : (n : ℕ) → e n → e' n) (hb : (d n : ℕ) → b d n → b' d n) where
  -- what is weaker holds of each leaf of a formula too
  module _ (hv : (n : ℕ) → v n → v' n) where
    pub inside_more : (d : ℕ) (f : Formula) → EachInside e b v d f → EachInside e' b' v' d f
    inside_more d (truth p) h = tt
    inside_more d (falsity p) h = tt
    inside_more d (atom q f ts) h = each_arg_more e (b d) v e' (b' d) v' he (hb d) hv ts h
    inside_more d (conj p x y) h = (inside_more d x h.0, inside_more d y h.1)
    inside_more d (disj p x y) h = (inside_more d x h.0, inside_more d y h.1)
    inside_more d (implies x y) h = (inside_more d x h.0, inside_more d y h.1)
    inside_more d (for_all x) h = inside_more (suc d) x h
    inside_more d (exists x) h = inside_more (suc d) x h

  -- what holds of the leaves of the terms that are substituted holds of each leaf of the result
  module _ (s : ℕ → Term) (hv : (d n : ℕ) → v n → Each e' (b' d) v' (s n)) where
    pub inside_put : (d : ℕ) (f : Formula) → EachInside e b v d f → EachInside e' b' v' d (put_formula s f)
    inside_put d (truth p) h = tt
    inside_put d (falsity p) h = tt
    inside_put d (atom q f ts) h = each_arg_put e (b d) v e' (b' d) v' he (hb d) s (hv d) ts h
    inside_put d (conj p x y) h = (inside_put d x h.0, inside_put d y h.1)
    inside_put d (disj p x y) h = (inside_put d x h.0, inside_put d y h.1)
    inside_put d (implies x y) h = (inside_put d x h.0, inside_put d y h.1)
    inside_put d (for_all x) h = inside_put (suc d) x h
    inside_put d (exists x) h = inside_put (suc d) x h

-- open formulas and steps
module _ (j k : ℕ) where
  module _ (r : ℕ → Term) (are_open : (n : ℕ) → n < j → IsOpen k (r n)) where
    open_below : (d n : ℕ) → n < j → Each Always (AnyBound d) (λ m. m < k) (r n)
    open_below d n l =
        each_more Always Never (λ m. m < k) Always (AnyBound d) (λ m. m < k) (λ m a. a) (λ m a. tt)
        (λ m a. a) (r n) (are_open n l)

    pub formula_open_put : (f : Formula) → IsOpenFormula j f → IsOpenFormula k (put_formula r f)
    formula_open_put f h =
        inside_put Always AnyBound (λ n. n < j) Always AnyBound (λ n. n < k) (λ n a. a) (λ d n a. tt) r
        open_below 0 f h

    pub step_open_put : (e : Step) → IsOpenStep j e → IsOpenStep k (put_step r e)
    step_open_put (Exists t) h = open_put j k r are_open t h
    step_open_put (Cut f) h = formula_open_put f h
    step_open_put (FocLEvery t) h = open_put j k r are_open t h
    step_open_put (FocRExists t) h = open_put j k r are_open t h
    step_open_put _ h = h

  module _ (le : j ≤ k) where
    pub formula_open_more : (f : Formula) → IsOpenFormula j f → IsOpenFormula k f
    formula_open_more f h =
        inside_more Always AnyBound (λ n. n < j) Always AnyBound (λ n. n < k) (λ n a. a) (λ d n a. a)
        (λ n l. omega (arith, l, le)) 0 f h

    pub step_open_more : (e : Step) → IsOpenStep j e → IsOpenStep k e
    step_open_more (Exists t) h = open_more j k le t h
    step_open_more (Cut f) h = formula_open_more f h
    step_open_more (FocLEvery t) h = open_more j k le t h
    step_open_more (FocRExists t) h = open_more j k le t h
    step_open_more _ h = h

-- formulas in scope
pub has_level : (levels : List Level) (n v : ℕ) → IsAtMost (level_of levels v) (Some n) → v < length levels
has_level levels n v h =
    ⊎_elim (λ l. l) (λ l. absurd (subst (λ k. IsAtMost k (Some n)) (get_or_past levels v None l) h))
    (cases_lt v (length levels))

at_most_more : (levels more : List Level) (n v : ℕ) → IsAtMost (level_of levels v) (Some n)
    → IsAtMost (level_of (levels ++ more) v) (Some n)
at_most_more levels more n v h =
    subst (λ k. IsAtMost k (Some n))
    (sym (get_or_append_left levels more None v (has_level levels n v h))) h

open_at_level : (after : List Level) (n d : ℕ) (l : Level) (t : Term) → IsAtMost l (Some n)
    → IsOpenAt after l t → Each (λ m. m < n) (Tied d) (λ v. IsAtMost (level_of after v) (Some n)) t
open_at_level after n d None t le h = absurd le
open_at_level after n d (Some a) t le h =
    each_more (λ m. m < a) Never (λ v. IsAtMost (level_of after v) (Some a)) (λ m. m < n) (Tied d)
    (λ v. IsAtMost (level_of after v) (Some n)) (λ m l. omega (arith, l, le)) (λ m q. absurd q)
    (λ v q. at_most_trans (level_of after v) (Some a) (Some n) q le) t h

pub formula_scoped_put : (levels after : List Level) (r : ℕ → Term)
    → ((n : ℕ) → n < length levels → IsOpenAt after (level_of levels n) (r n))
    → (n : ℕ) (f : Formula) → IsScopedFormula levels n f → IsScopedFormula after n (put_formula r f)
formula_scoped_put levels after r at_levels n f h =
    inside_put (λ m. m < n) Tied (λ v. IsAtMost (level_of levels v) (Some n)) (λ m. m < n) Tied
    (λ v. IsAtMost (level_of after v) (Some n)) (λ m a. a) (λ d m a. a) r
    (λ d v q. open_at_level after n d (level_of levels v) (r v) q (at_levels v (has_level levels n v q)))
    0 f h

pub formula_scoped_more : (levels more : List Level) (n : ℕ) (f : Formula) → IsScopedFormula levels n f
    → IsScopedFormula (levels ++ more) n f
formula_scoped_more levels more n f h =
    inside_more (λ m. m < n) Tied (λ v. IsAtMost (level_of levels v) (Some n)) (λ m. m < n) Tied
    (λ v. IsAtMost (level_of (levels ++ more) v) (Some n)) (λ m a. a) (λ d m a. a)
    (λ v q. at_most_more levels more n v q) 0 f h
