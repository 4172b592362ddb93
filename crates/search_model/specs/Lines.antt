-- The goal lists of which the tables of both logics are made. In each, f is the word of the clerk
-- or expert that is asked, x the certificate of the conclusion, e the step, n the level, k the
-- number of the first new variable, and q and r are premises.
use Rattle.std.specs.Prelude.{ℕ, zero, suc, ◌+◌, ◌&&◌, nat_eq, Bool, true, false}
use Rattle.std.specs.Prelude.{List, [], ◌∷◌, replicate, None, Some}
use Rattle.fpc_terms.specs.Open.{later}
use Rattle.fpc_terms.specs.Term.{Term, Args, eigen, variable, app, no_args, arg, count}
use Rattle.polarised_formulas.specs.Formula.{Formula, atom}
use Rattle.polarised_formulas.specs.declared.step.Step.{Step}
use Rattle.polarised_formulas.specs.declared.step.Step.TheVariants.{Cut}
use Rattle.clause_language.specs.declared.atom.Atom.{Atom}
use Rattle.clause_language.specs.declared.declaration.DeclaredFormula.{DeclaredFormula}
use Rattle.polarised_formulas.specs.OpenFormula.{put_formula}
use Rattle.search_model.specs.Search.{call, equate, emit, item, GoalList}
use Rattle.search_model.specs.Table.{ItemOn, derive, pick, init_pick, cut}
use Rattle.search_model.specs.declared.stored.Stored.{Stored}

-- a goal list over the items of sequents S
abbrev pub Line : Type 0 → Type 0
Line S = GoalList (ItemOn S) Step

-- an atom
abbrev pub atom_of : ℕ → List Term → Atom
atom_of f ts = record { name = f; arguments = ts }

-- so many terms as arguments, from the one with number i on
abbrev pub arguments_from : (ℕ → Term) → ℕ → ℕ → Args
arguments_from s i zero = no_args
arguments_from s i (suc m) = arg (s i) (arguments_from s (suc i) m)

module _ {S : Type 0} where
  -- no premise, and nothing is asked
  abbrev pub bare : Step → Line S
  bare e = record { goals = emit e ∷ []; new = [] }

  -- no premise
  abbrev pub closed_by : ℕ → Term → Step → Line S
  closed_by f x e = record { goals = call (atom_of f (x ∷ [])) ∷ emit e ∷ []; new = [] }

  -- one premise
  abbrev pub one : (f : ℕ) (x : Term) (e : Step) (n k : ℕ) (q : S) → Line S
  one f x e n k q = record {
    goals =
        call (atom_of f (x ∷ variable k ∷ []))
        ∷ emit e
        ∷ item (derive (variable k) n q)
        ∷ [];
    new = None ∷ [];
  }

  -- one premise, a level higher; the eigenvariable of the level is asked as well
  abbrev pub raised : (f : ℕ) (x : Term) (e : Step) (n k : ℕ) (q : S) → Line S
  raised f x e n k q = record {
    goals =
        call (atom_of f (x ∷ eigen n ∷ variable k ∷ []))
        ∷ emit e
        ∷ item (derive (variable k) (suc n) q)
        ∷ [];
    new = None ∷ [];
  }

  -- two premises
  abbrev pub two : (f : ℕ) (x : Term) (e : Step) (n k : ℕ) (q r : S) → Line S
  two f x e n k q r = record {
    goals =
        call (atom_of f (x ∷ variable k ∷ variable (k + 1) ∷ []))
        ∷ emit e
        ∷ item (derive (variable k) n q)
        ∷ item (derive (variable (k + 1)) n r)
        ∷ [];
    new = None ∷ None ∷ [];
  }

  -- one premise, with an index that is asked as well
  abbrev pub indexed : (f : ℕ) (x : Term) (e : Step) (n k : ℕ) (q : Term → S) → Line S
  indexed f x e n k q = record {
    goals =
        call (atom_of f (x ∷ variable k ∷ variable (k + 1) ∷ []))
        ∷ emit e
        ∷ item (derive (variable k) n (q (variable (k + 1))))
        ∷ [];
    new = None ∷ None ∷ [];
  }

  -- one premise, with a term that is asked as well, in scope at the level; the step names it
  abbrev pub witnessed : (f : ℕ) (x : Term) (e : Term → Step) (n k : ℕ) (q : Term → S) → Line S
  witnessed f x e n k q = record {
    goals =
        call (atom_of f (x ∷ variable k ∷ variable (k + 1) ∷ []))
        ∷ emit (e (variable (k + 1)))
        ∷ item (derive (variable k) n (q (variable (k + 1))))
        ∷ [];
    new = None ∷ Some n ∷ [];
  }

  -- one premise, where the constant that is asked as well is this word for a side
  abbrev pub sided : (f : ℕ) (x : Term) (side : ℕ) (e : Step) (n k : ℕ) (q : S) → Line S
  sided f x side e n k q = record {
    goals =
        call (atom_of f (x ∷ variable k ∷ variable (k + 1) ∷ []))
        ∷ equate (variable (k + 1)) (app side no_args)
        ∷ emit e
        ∷ item (derive (variable k) n q)
        ∷ [];
    new = None ∷ None ∷ [];
  }

  -- a place is chosen by the index that is asked, to decide on its formula
  abbrev pub picked : (f : ℕ) (x : Term) (n k : ℕ) (q : S) → Line S
  picked f x n k q = record {
    goals =
        call (atom_of f (x ∷ variable k ∷ variable (k + 1) ∷ []))
        ∷ item (pick (variable k) n (variable (k + 1)) q)
        ∷ [];
    new = None ∷ None ∷ [];
  }

  -- a place is chosen by the index that is asked, to close with its formula
  abbrev pub init_picked : (f : ℕ) (x : Term) (n k : ℕ) (q : S) → Line S
  init_picked f x n k q = record {
    goals =
        call (atom_of f (x ∷ variable k ∷ []))
        ∷ item (init_pick n (variable k) q)
        ∷ [];
    new = None ∷ [];
  }

  -- a declared formula is cut, whose name with terms is asked
  abbrev pub cutting : (f : ℕ) (x : Term) (n k : ℕ) (q : S) → Line S
  cutting f x n k q = record {
    goals =
        call (atom_of f (x ∷ variable k ∷ variable (k + 1) ∷ variable (k + 2) ∷ []))
        ∷ item (cut (variable k) (variable (k + 1)) n (variable (k + 2)) q)
        ∷ [];
    new = None ∷ None ∷ None ∷ [];
  }

  -- no premise, where the terms a and b are equal
  abbrev pub matched : (f : ℕ) (x : Term) (e : Step) (a b : Term) → Line S
  matched f x e a b = record {
    goals = call (atom_of f (x ∷ [])) ∷ equate a b ∷ emit e ∷ [];
    new = [];
  }

  -- the place whose index is t, where the index l is wanted: one premise, by the certificate x
  abbrev pub at_place : (x l t : Term) (e : Step) (n : ℕ) (q : S) → Line S
  at_place x l t e n q = record {
    goals = equate l t ∷ emit e ∷ item (derive x n q) ∷ [];
    new = [];
  }

  -- the place whose index is t, where the index l is wanted: no premise, where the terms a and b
  -- are equal
  abbrev pub closing_at : (l t a b : Term) (e : Step) → Line S
  closing_at l t a b e = record {
    goals = equate l t ∷ equate a b ∷ emit e ∷ [];
    new = [];
  }

  -- the declared formula d is cut, with new variables of the level for its parameters, where b is
  -- its name with these: two premises, by the certificates x and y
  abbrev pub cut_of : (x y b : Term) (n k : ℕ) (q r : Formula → S) → DeclaredFormula → Line S
  cut_of x y b n k q r d = record {
    goals =
        equate b (app d.name (arguments_from (later k) 0 d.parameters))
        ∷ emit (Cut (put_formula (later k) d.formula))
        ∷ item (derive x n (q (put_formula (later k) d.formula)))
        ∷ item (derive y n (r (put_formula (later k) d.formula)))
        ∷ [];
    new = replicate d.parameters (Some n);
  }

  -- a goal list under a condition, before others
  abbrev pub where_so : Bool → Line S → List (Line S) → List (Line S)
  where_so true e es = e ∷ es
  where_so false e es = es

  -- a goal list for each stored formula that passes the test, by its place, from the place j on
  abbrev pub at_places
      : (Formula → Bool) → (ℕ → Stored → Line S) → ℕ → List Stored → List (Line S)
  at_places test make j [] = []
  at_places test make j (i ∷ is) =
      where_so (test i.formula) (make j i) (at_places test make (suc j) is)

-- the atom of a literal as a term; some term for another formula
abbrev pub atom_term : Formula → Term
atom_term (atom positive f ts) = app f ts
atom_term _ = app 0 no_args

-- the formula is a literal of this sign, name and number of arguments
abbrev pub is_literal : Bool → ℕ → ℕ → Formula → Bool
is_literal true f c (atom true g us) = nat_eq f g && nat_eq c (count us)
is_literal false f c (atom false g us) = nat_eq f g && nat_eq c (count us)
is_literal positive f c _ = false
