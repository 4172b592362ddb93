-- A term or formula with other numbers for its names.
use Rattle.std.proofs.Common.{◌≡◌, ℕ, suc, ◌+◌, ◌<◌, ◌≤◌, List, [], ◌∷◌, ◌++◌, codes, refl, ap, ap₂, ◌∙◌, arith}
use Rattle.fpc_terms.specs.Term.{Term, Args, eigen, bound, variable, app, no_args, arg}
use Rattle.fpc_terms.specs.Text.{args_before, more_before, plain_leaves}
use Rattle.polarised_formulas.specs.declared.logic.Logic.{Logic}
use Rattle.polarised_formulas.specs.Formula.{Formula, truth, falsity, atom, conj, disj, implies, for_all, exists}
use Rattle.polarised_formulas.specs.Text.{mark_text, operator_before}
use Rattle.polarised_formulas.specs.PlainReading.{Operator, conjunction, disjunction, implication, operator_text, is_keyword, Use, of_term, of_formula}
use Rattle.polarised_formulas.specs.PlainForm.{begins_name, IsPlainName, IsPlainTerm, ArePlainTerms, IsPlainFormula, plain_term, plain_formula, GivesBack, IsLine}

abbrev mutual
  pub rename_term : (ℕ → ℕ) → Term → Term
  rename_term r (eigen k) = eigen k
  rename_term r (bound k) = bound k
  rename_term r (variable v) = variable v
  rename_term r (app f ts) = app (r f) (rename_args r ts)

  pub rename_args : (ℕ → ℕ) → Args → Args
  rename_args r no_args = no_args
  rename_args r (arg t ts) = arg (rename_term r t) (rename_args r ts)

abbrev pub rename : (ℕ → ℕ) → Formula → Formula
rename r (truth p) = truth p
rename r (falsity p) = falsity p
rename r (atom positive f ts) = atom positive (r f) (rename_args r ts)
rename r (conj p a b) = conj p (rename r a) (rename r b)
rename r (disj p a b) = disj p (rename r a) (rename r b)
rename r (implies a b) = implies (rename r a) (rename r b)
rename r (for_all a) = for_all (rename r a)
rename r (exists a) = exists (rename r a)

abbrev mutual
  -- a number above each name
  pub term_bound : Term → ℕ
  term_bound (eigen k) = 0
  term_bound (bound k) = 0
  term_bound (variable v) = 0
  term_bound (app f ts) = suc (f + args_bound ts)

  pub args_bound : Args → ℕ
  args_bound no_args = 0
  args_bound (arg t ts) = term_bound t + args_bound ts

abbrev pub name_bound : Formula → ℕ
name_bound (truth p) = 0
name_bound (falsity p) = 0
name_bound (atom positive f ts) = suc (f + args_bound ts)
name_bound (conj p a b) = name_bound a + name_bound b
name_bound (disj p a b) = name_bound a + name_bound b
name_bound (implies a b) = name_bound a + name_bound b
name_bound (for_all a) = name_bound a
name_bound (exists a) = name_bound a

mutual
  pub rename_term-same : (t : Term) → rename_term (λ g. g) t ≡ t
  rename_term-same (eigen k) = refl
  rename_term-same (bound k) = refl
  rename_term-same (variable v) = refl
  rename_term-same (app f ts) = ap (app f) (rename_args-same ts)

  pub rename_args-same : (ts : Args) → rename_args (λ g. g) ts ≡ ts
  rename_args-same no_args = refl
  rename_args-same (arg t ts) = ap₂ arg (rename_term-same t) (rename_args-same ts)

pub rename-same : (f : Formula) → rename (λ g. g) f ≡ f
rename-same (truth p) = refl
rename-same (falsity p) = refl
rename-same (atom positive f ts) = ap (atom positive f) (rename_args-same ts)
rename-same (conj p a b) = ap₂ (conj p) (rename-same a) (rename-same b)
rename-same (disj p a b) = ap₂ (disj p) (rename-same a) (rename-same b)
rename-same (implies a b) = ap₂ implies (rename-same a) (rename-same b)
rename-same (for_all a) = ap for_all (rename-same a)
rename-same (exists a) = ap exists (rename-same a)

-- what is plain by one naming is plain by another, with the same text, where each name below the limit is so
module _ (text text' : ℕ → List ℕ) (number number' : List ℕ → ℕ) (r : ℕ → ℕ) (limit : ℕ) (each : (g : ℕ) → g < limit → IsPlainName text number g → IsPlainName text' number' (r g) × (text' (r g) ≡ text g)) where
  abbrev MovedTerm : ℕ → Term → Type 0
  MovedTerm d t = IsPlainTerm text' number' d (rename_term r t) × ((rest : List ℕ) → plain_term text' (rename_term r t) rest ≡ plain_term text t rest)

  abbrev MovedArgs : ℕ → Args → Type 0
  MovedArgs d ts = ArePlainTerms text' number' d (rename_args r ts) × ((rest : List ℕ) → more_before (plain_leaves text') (rename_args r ts) rest ≡ more_before (plain_leaves text) ts rest)
      × ((rest : List ℕ) → args_before (plain_leaves text') (rename_args r ts) rest ≡ args_before (plain_leaves text) ts rest)

  mutual
    pub move_term : (t : Term) (d : ℕ) → term_bound t ≤ limit → IsPlainTerm text number d t → MovedTerm d t
    move_term (eigen k) d l p = (p, λ rest. refl)
    move_term (bound k) d l p = (p, λ rest. refl)
    move_term (variable v) d l p = absurd p
    move_term (app f ts) d l p =
        let low : f < limit = omega arith in
        let n = each f low p.0 in
        let m = move_args ts d (omega arith) p.1 in
        ((n.0, m.0), λ rest. ap₂ (λ v w. v ++ w) n.1 (m.2 rest))

    pub move_args : (ts : Args) (d : ℕ) → args_bound ts ≤ limit → ArePlainTerms text number d ts → MovedArgs d ts
    move_args no_args d l p = (tt, λ rest. refl, λ rest. refl)
    move_args (arg t ts) d l p =
        let a = move_term t d (omega arith) p.0 in
        let m = move_args ts d (omega arith) p.1 in
        let both : (rest : List ℕ) → plain_term text' (rename_term r t) (more_before (plain_leaves text') (rename_args r ts) rest) ≡ plain_term text t (more_before (plain_leaves text) ts rest) = λ rest. a.1 (more_before (plain_leaves text') (rename_args r ts) rest) ∙ ap (plain_term text t) (m.1 rest) in
        ((a.0, m.0), λ rest. ap (λ v. 44 ∷ v) (both rest), λ rest. ap (λ v. 40 ∷ v) (both rest))

  module _ (logic : Logic) where
    abbrev Moved : ℕ → Formula → Type 0
    Moved d f = IsPlainFormula text' number' logic d (rename r f) × ((rest : List ℕ) → plain_formula text' logic d (rename r f) rest ≡ plain_formula text logic d f rest)

    move_binary : (d : ℕ) (o : Operator) (a b : Formula) → Moved d a → Moved d b → (rest : List ℕ)
        → 40 ∷ plain_formula text' logic d (rename r a) (operator_before (operator_text logic o) (plain_formula text' logic d (rename r b) (41 ∷ rest))) ≡ 40 ∷ plain_formula text logic d a (operator_before (operator_text logic o) (plain_formula text logic d b (41 ∷ rest)))
    move_binary d o a b x y rest = ap (λ v. 40 ∷ v) (x.1 (operator_before (operator_text logic o) (plain_formula text' logic d (rename r b) (41 ∷ rest))) ∙ ap (λ v. plain_formula text logic d a (operator_before (operator_text logic o) v)) (y.1 (41 ∷ rest)))

    pub move_formula : (f : Formula) (d : ℕ) → name_bound f ≤ limit → IsPlainFormula text number logic d f → Moved d f
    move_formula (truth p) d l h = (tt, λ rest. refl)
    move_formula (falsity p) d l h = (h, λ rest. refl)
    move_formula (atom positive f ts) d l h =
        let low : f < limit = omega arith in
        let n = each f low h.0 in
        let m = move_args ts d (omega arith) h.1 in
        ((n.0, m.0), λ rest. ap (λ v. mark_text logic positive ++ v) (ap₂ (λ v w. v ++ w) n.1 (m.2 rest)))
    move_formula (conj p a b) d l h =
        let x = move_formula a d (omega arith) h.1 in let y = move_formula b d (omega arith) h.2 in ((h.0, x.0, y.0), move_binary d (conjunction p) a b x y)
    move_formula (disj p a b) d l h =
        let x = move_formula a d (omega arith) h.1 in let y = move_formula b d (omega arith) h.2 in ((h.0, x.0, y.0), move_binary d (disjunction p) a b x y)
    move_formula (implies a b) d l h =
        let x = move_formula a d (omega arith) h.1 in let y = move_formula b d (omega arith) h.2 in ((h.0, x.0, y.0), move_binary d implication a b x y)
    move_formula (for_all a) d l h = let x = move_formula a (suc d) l h in (x.0, λ rest. ap (λ v. codes "all " ++ v) (x.1 rest))
    move_formula (exists a) d l h = let x = move_formula a (suc d) l h in (x.0, λ rest. ap (λ v. codes "some " ++ v) (x.1 rest))

-- a line by one naming is a line by each naming that gives all names back
pub line_by_other : (text text' : ℕ → List ℕ) (number number' : List ℕ → ℕ) → GivesBack text' number' → (logic : Logic) (wanted : Use) (bytes : List ℕ) → IsLine text number logic wanted bytes → IsLine text' number' logic wanted bytes
line_by_other text text' number number' back logic wanted bytes = by wanted
  where
    each : (limit g : ℕ) → g < limit → IsPlainName text number g → IsPlainName text' number' (number' (text g)) × (text' (number' (text g)) ≡ text g)
    each limit g low p = let e = back (text g) p.0 in ((ap begins_name e ∙ p.0, ap is_keyword e ∙ p.1, ap number' e), e)

    by : (wanted : Use) → IsLine text number logic wanted bytes → IsLine text' number' logic wanted bytes
    by of_term h = let m = move_term text text' number number' (λ g. number' (text g)) (term_bound h.0) (each (term_bound h.0)) h.0 0 (omega arith) h.1 in (rename_term (λ g. number' (text g)) h.0, m.0, m.1 (10 ∷ []) ∙ h.2)
    by of_formula h = let m = move_formula text text' number number' (λ g. number' (text g)) (name_bound h.0) (each (name_bound h.0)) logic h.0 0 (omega arith) h.1 in (rename (λ g. number' (text g)) h.0, m.0, m.1 (10 ∷ []) ∙ h.2)
