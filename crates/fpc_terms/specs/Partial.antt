-- Terms that are being built, as zippers, and the cells that stand for them.
use Rattle.std.specs.Prelude.{◌≡◌, ℕ, ◌<◌, List, [], ◌∷◌, ◌++◌, length, take, drop, Option, Some, None, refl}
use Rattle.std.specs.Coded.{Coded, code_by, coded_list, coded×, coded_ℕ}
use Rattle.fpc_terms.specs.declared.cell.Cell.{Cell}
use Rattle.fpc_terms.specs.declared.cell.Cell.TheVariants.{Eigen, Bound, Var, App}
use Rattle.fpc_terms.specs.Term.{Term, Args, eigen, bound, variable, app, no_args, arg, cells_before, terms_from, term_code}

-- an application that is open, with its arguments so far, the last one first
pub record Frame : Type 0 where
  pub name : ℕ
  pub args : List Term

abbrev pub frame : ℕ → List Term → Frame
frame name ts = record { name = name; args = ts }

-- an application is stored as the pair of its fields
abbrev pub frame_code : Coded Frame
frame_code =
    code_by (ℕ × List Term) (coded× coded_ℕ (coded_list term_code)) (λ f. (f.name, f.args)) (λ p. frame p.0 p.1) (λ _. refl)

-- whole terms, the last one first, and the applications that are open, the innermost first
pub record Partial : Type 0 where
  pub base : List Term
  pub frames : List Frame

-- a partial term is stored as the pair of its fields
abbrev pub partial_code : Coded Partial
partial_code =
    code_by (List Term × List Frame) (coded× (coded_list term_code) (coded_list frame_code)) (λ z. (z.base, z.frames)) (λ p. record { base = p.0; frames = p.1 }) (λ _. refl)

-- terms, the last one first, before other terms
abbrev pub args_onto : List Term → Args → Args
args_onto [] us = us
args_onto (t ∷ ts) us = args_onto ts (arg t us)

-- terms, the last one first, as arguments
abbrev pub arguments_of : List Term → Args
arguments_of ts = args_onto ts no_args

-- nothing is built yet
abbrev pub nothing : Partial
nothing = record { base = []; frames = [] }

-- one more whole term
abbrev pub with_term : Term → List Term → List Frame → Partial
with_term t base [] = record { base = t ∷ base; frames = [] }
with_term t base (f ∷ fs) = record { base = base; frames = frame f.name (t ∷ f.args) ∷ fs }

-- one more open application
abbrev pub opened : ℕ → List Term → List Frame → Partial
opened name base fs = record { base = base; frames = frame name [] ∷ fs }

-- the innermost application is whole
abbrev pub closed : List Term → List Frame → Partial
closed base [] = record { base = base; frames = [] }
closed base (f ∷ fs) = with_term (app f.name (arguments_of f.args)) base fs

-- how many whole terms stand innermost
abbrev pub innermost : List Term → List Frame → ℕ
innermost base [] = length base
innermost base (f ∷ fs) = length f.args

-- the number is how many whole terms stand innermost
abbrev pub IsCount : ℕ → Partial → Type 0
IsCount n z = n ≡ innermost z.base z.frames

-- the one whole term, where nothing else stands
abbrev pub only_term : List Term → List Frame → Option Term
only_term (t ∷ []) [] = Some t
only_term _ _ = None

-- the cells of terms, the last one first, before others
abbrev pub done_cells : List Term → List Cell → List Cell
done_cells [] cs = cs
done_cells (t ∷ ts) cs = done_cells ts (cells_before t cs)

-- the cells so far, before others: an application has the number of its arguments so far
abbrev pub flat : List Term → List Frame → List Cell → List Cell
flat base [] cs = done_cells base cs
flat base (f ∷ fs) cs = flat base fs (App f.name (length f.args) ∷ done_cells f.args cs)

-- where the open applications stand
abbrev pub positions : List Term → List Frame → List ℕ
positions base [] = []
positions base (f ∷ fs) = length (flat base fs []) ∷ positions base fs

-- terms before others that are turned
abbrev pub turned : Args → List Term → List Term
turned no_args ts = ts
turned (arg t us) ts = turned us (t ∷ ts)

-- the terms that cells spell, the last one first
abbrev pub terms_of : List Cell → List Term
terms_of cs = turned (terms_from cs no_args) []

-- the application that the cells begin with
abbrev pub frame_of : List Cell → Frame
frame_of (App f n ∷ cs) = frame f (terms_of cs)
frame_of _ = frame 0 []

-- the whole terms of cells, among which the open applications stand at these places
abbrev pub base_of : List Cell → List ℕ → List Term
base_of cs [] = terms_of cs
base_of cs (i ∷ is) = base_of (take i cs) is

-- the open applications of cells, which stand at these places
abbrev pub frames_of : List Cell → List ℕ → List Frame
frames_of cs [] = []
frames_of cs (i ∷ is) = frame_of (drop i cs) ∷ frames_of (take i cs) is

-- the partial term of cells, among which the open applications stand at these places
abbrev pub partial_of : List Cell → List ℕ → Partial
partial_of cs is = record { base = base_of cs is; frames = frames_of cs is }

-- each open application is an argument for which there was room
abbrev pub HaveRoom : List Term → List Frame → Type 0
HaveRoom base [] = Unit {0}
HaveRoom base (f ∷ fs) = (innermost base fs < 255) × HaveRoom base fs

-- cells, places and a count are those of this partial term
pub record Is (cs : List Cell) (is : List ℕ) (n : ℕ) (base : List Term) (fs : List Frame) : Type 0 where
  pub cells : cs ≡ flat base fs []
  pub places : is ≡ positions base fs
  pub whole : n ≡ length base
  pub room : HaveRoom base fs

abbrev pub IsPartial : List Cell → List ℕ → ℕ → Partial → Type 0
IsPartial cs is n z = Is cs is n z.base z.frames

-- the same, but that one more term stands at the end, which is not counted yet
pub record IsBefore (t : Term) (cs : List Cell) (is : List ℕ) (n : ℕ) (base : List Term) (fs : List Frame) : Type 0 where
  pub cells : cs ≡ flat base fs (cells_before t [])
  pub places : is ≡ positions base fs
  pub whole : n ≡ length base
  pub few : innermost base fs < 255
  pub room : HaveRoom base fs

-- an application with n arguments stands at a place
abbrev pub StandsAt : List Cell → ℕ → List Cell → ℕ → ℕ → List Cell → Type 0
StandsAt cs i front f n back = (cs ≡ front ++ App f n ∷ back) × (i ≡ length front)

-- the term of a cell that has no arguments
abbrev pub leaf_term : Cell → Term
leaf_term (Eigen n) = eigen n
leaf_term (Bound k) = bound k
leaf_term (Var v) = variable v
leaf_term (App f n) = app f no_args
