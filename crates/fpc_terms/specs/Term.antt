-- Terms as trees, their cells in prefix order, and what holds of their leaves.
use Rattle.std.specs.Prelude.{◌≡◌, ℕ, zero, suc, ◌<◌, Bool, true, false, ◌||◌, ◌&&◌, nat_eq, nat_le, if◌then◌else◌, List, [], ◌∷◌, Option, Some, None, refl}
use Rattle.std.specs.Coded.{Coded, code_by, coded_list}
use Rattle.std.proofs.Common.{ap, sym, ◌∙◌}
use Rattle.fpc_terms.specs.declared.cell.Cell.{Cell}
use Rattle.fpc_terms.specs.declared.cell.Cell.TheVariants.{Eigen, Bound, Var, App}
use Rattle.fpc_terms.specs.contracts.cell.Cell as cell

mutual
  -- an eigenvariable, a bound index, a variable, or a name with its arguments
  pub data Term : Type 0 where
    eigen : (number : ℕ) → Term
    bound : (index : ℕ) → Term
    variable : (number : ℕ) → Term
    app : (name : ℕ) → (args : Args) → Term

  -- the arguments of a name, in order
  pub data Args : Type 0 where
    no_args : Args
    arg : (first : Term) → (rest : Args) → Args

-- how many arguments there are
abbrev pub count : Args → ℕ
count no_args = 0
count (arg t ts) = suc (count ts)

abbrev mutual
  -- the cells of a term in prefix order, before other cells
  pub cells_before : Term → List Cell → List Cell
  cells_before (eigen n) cs = Eigen n ∷ cs
  cells_before (bound k) cs = Bound k ∷ cs
  cells_before (variable n) cs = Var n ∷ cs
  cells_before (app f ts) cs = App f (count ts) ∷ all_before ts cs

  pub all_before : Args → List Cell → List Cell
  all_before no_args cs = cs
  all_before (arg t ts) cs = cells_before t (all_before ts cs)

-- the cells of a term
abbrev pub cells_of : Term → List Cell
cells_of t = cells_before t []

-- arguments as a list of terms
abbrev pub terms_in : Args → List Term
terms_in no_args = []
terms_in (arg t ts) = t ∷ terms_in ts

-- the arguments of an application, in order; none of another term
abbrev pub arguments_in : Term → List Term
arguments_in (app f ts) = terms_in ts
arguments_in _ = []

-- the name of an application
abbrev pub head_of : Term → Option ℕ
head_of (app f ts) = Some f
head_of _ = None

-- the first n of the arguments
abbrev pub first_args : ℕ → Args → Args
first_args zero ts = no_args
first_args (suc n) no_args = no_args
first_args (suc n) (arg t ts) = arg t (first_args n ts)

-- the arguments behind the first n
abbrev pub later_args : ℕ → Args → Args
later_args zero ts = ts
later_args (suc n) no_args = no_args
later_args (suc n) (arg t ts) = later_args n ts

-- a cell before terms: it takes as many of them as it has arguments
abbrev pub cell_on : Cell → Args → Args
cell_on (Eigen n) ts = arg (eigen n) ts
cell_on (Bound k) ts = arg (bound k) ts
cell_on (Var n) ts = arg (variable n) ts
cell_on (App f n) ts = arg (app f (first_args n ts)) (later_args n ts)

-- the terms that cells spell, one after another, before other terms
abbrev pub terms_from : List Cell → Args → Args
terms_from [] us = us
terms_from (c ∷ cs) us = cell_on c (terms_from cs us)

-- the first of the arguments; some term where there is none
abbrev pub first_term : Args → Term
first_term no_args = bound 0
first_term (arg t ts) = t

-- the term that cells spell
abbrev pub term_of : List Cell → Term
term_of cs = first_term (terms_from cs no_args)

-- the cells of exactly one term
abbrev pub IsOneTerm : List Cell → Type 0
IsOneTerm cs = cells_of (term_of cs) ≡ cs

-- arguments before others
abbrev pub joined : Args → Args → Args
joined no_args us = us
joined (arg t ts) us = arg t (joined ts us)

-- of joined arguments the first are the first list
pub first_args-joined : (ts us : Args) → first_args (count ts) (joined ts us) ≡ ts
first_args-joined no_args us = refl
first_args-joined (arg t ts) us = ap (arg t) (first_args-joined ts us)

-- and the later ones the second
pub later_args-joined : (ts us : Args) → later_args (count ts) (joined ts us) ≡ us
later_args-joined no_args us = refl
later_args-joined (arg t ts) us = later_args-joined ts us

mutual
  -- the cells of a term spell it, before the terms that follow
  pub terms_from-cells_before : (t : Term) (cs : List Cell) (us : Args) → terms_from (cells_before t cs) us ≡ arg t (terms_from cs us)
  terms_from-cells_before (eigen n) cs us = refl
  terms_from-cells_before (bound n) cs us = refl
  terms_from-cells_before (variable n) cs us = refl
  terms_from-cells_before (app f ts) cs us = rw (terms_from-all_before ts cs us, first_args-joined, later_args-joined)

  pub terms_from-all_before : (ts : Args) (cs : List Cell) (us : Args) → terms_from (all_before ts cs) us ≡ joined ts (terms_from cs us)
  terms_from-all_before no_args cs us = refl
  terms_from-all_before (arg t ts) cs us = rw (terms_from-cells_before t (all_before ts cs) us, terms_from-all_before ts cs us)

-- a term is spelled by its cells
pub term_of-cells_of : (t : Term) → term_of (cells_of t) ≡ t
term_of-cells_of t = rw (terms_from-cells_before t [] no_args)

-- a term is stored as its cells
abbrev pub term_code : Coded Term
term_code = code_by (List Cell) (coded_list cell.the_row.coded) cells_of term_of term_of-cells_of

-- different terms have different cells
pub cells_of-injective : (s t : Term) → cells_of s ≡ cells_of t → s ≡ t
cells_of-injective s t e = sym (term_of-cells_of s) ∙ ap term_of e ∙ term_of-cells_of t

abbrev mutual
  -- some eigenvariable of the term has a number of at least n
  pub has_eigen_from : ℕ → Term → Bool
  has_eigen_from n (eigen m) = nat_le n m
  has_eigen_from n (bound k) = false
  has_eigen_from n (variable v) = false
  has_eigen_from n (app f ts) = any_has_eigen_from n ts

  pub any_has_eigen_from : ℕ → Args → Bool
  any_has_eigen_from n no_args = false
  any_has_eigen_from n (arg t ts) = has_eigen_from n t || any_has_eigen_from n ts

abbrev mutual
  -- a term for each variable
  pub put : (ℕ → Term) → Term → Term
  put s (eigen n) = eigen n
  put s (bound k) = bound k
  put s (variable n) = s n
  put s (app f ts) = app f (put_all s ts)

  pub put_all : (ℕ → Term) → Args → Args
  put_all s no_args = no_args
  put_all s (arg t ts) = arg (put s t) (put_all s ts)

abbrev mutual
  -- the term s, which has no bound index, in the place of the index k
  pub open_term : ℕ → Term → Term → Term
  open_term k s (eigen n) = eigen n
  open_term k s (bound j) = if nat_eq j k then s else bound j
  open_term k s (variable n) = variable n
  open_term k s (app f ts) = app f (open_args k s ts)

  pub open_args : ℕ → Term → Args → Args
  open_args k s no_args = no_args
  open_args k s (arg t ts) = arg (open_term k s t) (open_args k s ts)

abbrev mutual
  -- equality of terms, as a test
  pub same_term : Term → Term → Bool
  same_term (eigen n) (eigen m) = nat_eq n m
  same_term (bound n) (bound m) = nat_eq n m
  same_term (variable n) (variable m) = nat_eq n m
  same_term (app f ts) (app g us) = nat_eq f g && same_args ts us
  same_term _ _ = false

  pub same_args : Args → Args → Bool
  same_args no_args no_args = true
  same_args (arg t ts) (arg u us) = same_term t u && same_args ts us
  same_args _ _ = false

abbrev mutual
  -- what holds of each leaf: e of eigenvariables, b of bound indexes, v of variables
  pub Each : (ℕ → Type 0) → (ℕ → Type 0) → (ℕ → Type 0) → Term → Type 0
  Each e b v (eigen n) = e n
  Each e b v (bound k) = b k
  Each e b v (variable n) = v n
  Each e b v (app f ts) = EachArg e b v ts

  pub EachArg : (ℕ → Type 0) → (ℕ → Type 0) → (ℕ → Type 0) → Args → Type 0
  EachArg e b v no_args = Unit {0}
  EachArg e b v (arg t ts) = Each e b v t × EachArg e b v ts

-- no number
abbrev pub Never : ℕ → Type 0
Never n = ⊥

-- every number
abbrev pub Always : ℕ → Type 0
Always n = Unit {0}

-- a term without bound indexes and variables, whose eigenvariables are as e says
abbrev pub IsProperTerm : (ℕ → Type 0) → Term → Type 0
IsProperTerm e t = Each e Never Never t

-- in scope at a level: the eigenvariables are below it
abbrev pub InScope : ℕ → Term → Type 0
InScope n t = IsProperTerm (λ m. m < n) t
