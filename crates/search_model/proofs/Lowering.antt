-- A closing stays one where the levels of a term's variables are lowered to a level at which the closed term is in scope.
use Rattle.std.specs.Prelude.{◌≡◌, ℕ, ◌<◌, ◌≤◌, min, Some, None, List, length, set}
use Rattle.std.proofs.Common.{sym, subst, ⊎_elim, arith, get_or-set_same, get_or-set_other}
use Rattle.std.proofs.lemmas.Bool.{cases_lt, cases_eq}
use Rattle.std.proofs.lemmas.List.{set_past}
use Rattle.fpc_terms.specs.Term.{Term, Args, eigen, bound, variable, app, no_args, arg, put, put_all, EachArg, Never, InScope}
use Rattle.fpc_terms.specs.Open.{Level, level_of, lower, lower_in, lower_in_args, IsScopedAt}

-- each argument is in scope at a level
abbrev AreScopedAt : Level → Args → Type 0
AreScopedAt None ts = Unit {0}
AreScopedAt (Some l) ts = EachArg (λ m. m < l) Never Never ts

arguments_scoped : (l : Level) (f : ℕ) (ts : Args) → IsScopedAt l (app f ts) → AreScopedAt l ts
arguments_scoped None f ts h = tt
arguments_scoped (Some l) f ts h = h

first_scoped : (l : Level) (t : Term) (ts : Args) → AreScopedAt l (arg t ts) → IsScopedAt l t
first_scoped None t ts h = tt
first_scoped (Some l) t ts h = h.0

rest_scoped : (l : Level) (t : Term) (ts : Args) → AreScopedAt l (arg t ts) → AreScopedAt l ts
rest_scoped None t ts h = tt
rest_scoped (Some l) t ts h = h.1

-- in scope at two levels, in scope at the lower one
lower_scoped : (a b : Level) (t : Term) → IsScopedAt a t → IsScopedAt b t → IsScopedAt (lower a b) t
lower_scoped None b t h k = k
lower_scoped (Some m) None t h k = h
lower_scoped (Some m) (Some n) t h k = ⊎_elim
    (λ l. let e : m ≡ min m n = omega arith in subst (λ j. InScope j t) e h)
    (λ l. let e : n ≡ min m n = omega arith in subst (λ j. InScope j t) e k)
    (cases_lt m n)

-- each variable's term is in scope at the variable's level
abbrev AreInScope : List Level → (ℕ → Term) → Type 0
AreInScope levels s = (n : ℕ) → IsScopedAt (level_of levels n) (s n)

-- one variable gets another level at which its term is in scope
variable_set : (s : ℕ → Term) (l : Level) (m : ℕ) (levels : List Level) → AreInScope levels s → IsScopedAt l (s m) → AreInScope (set levels m l) s
variable_set s l m levels h k n = ⊎_elim there elsewhere (cases_eq n m)
  where
    within : m < length levels → IsScopedAt (level_of (set levels m l) m) (s m)
    within i = subst (λ j. IsScopedAt j (s m)) (sym (get_or-set_same levels m l None i)) k

    past : length levels ≤ m → IsScopedAt (level_of (set levels m l) m) (s m)
    past i = subst (λ ls. IsScopedAt (level_of ls m) (s m)) (sym (set_past levels m l i)) (h m)

    there : n ≡ m → IsScopedAt (level_of (set levels m l) n) (s n)
    there e = subst (λ j. IsScopedAt (level_of (set levels m l) j) (s j)) (sym e) (⊎_elim within past (cases_lt m (length levels)))

    elsewhere : (n ≡ m → ⊥) → IsScopedAt (level_of (set levels m l) n) (s n)
    elsewhere e = subst (λ j. IsScopedAt j (s n)) (sym (get_or-set_other levels m n l None e)) (h n)

module _ (l : Level) (s : ℕ → Term) where
  mutual
    -- the levels of a term's variables are lowered
    pub term_lowered : (t : Term) (levels : List Level) → AreInScope levels s → IsScopedAt l (put s t) → AreInScope (lower_in l t levels) s
    term_lowered (eigen m) levels h k = h
    term_lowered (bound m) levels h k = h
    term_lowered (variable m) levels h k = variable_set s (lower l (level_of levels m)) m levels h (lower_scoped l (level_of levels m) (s m) k (h m))
    term_lowered (app f ts) levels h k = arguments_lowered ts levels h (arguments_scoped l f (put_all s ts) k)

    arguments_lowered : (ts : Args) (levels : List Level) → AreInScope levels s → AreScopedAt l (put_all s ts) → AreInScope (lower_in_args l ts levels) s
    arguments_lowered no_args levels h k = h
    arguments_lowered (arg t ts) levels h k =
        let first : AreInScope (lower_in l t levels) s = term_lowered t levels h (first_scoped l (put s t) (put_all s ts) k) in
        arguments_lowered ts (lower_in l t levels) first (rest_scoped l (put s t) (put_all s ts) k)
