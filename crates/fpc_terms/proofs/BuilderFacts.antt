-- What the cells of a partial term are like.
use Rattle.std.proofs.Common.{◌≡◌, ℕ, suc, ◌+◌, ◌<◌, List, [], ◌∷◌, ◌++◌, length, take, drop, refl, sym, ap, ◌∙◌, subst, arith, append-nil}
use Rattle.std.specs.Prelude.{Some, slice_index_or, slice_set}
use Rattle.std.proofs.Math.Seq.{take-append_seam, drop-append_seam, get_or-append_seam, set-append_seam}
use Rattle.fpc_terms.specs.declared.cell.Cell.{Cell}
use Rattle.fpc_terms.specs.declared.cell.Cell.TheVariants.{App}
use Rattle.fpc_terms.specs.Term.{Term, Args, eigen, bound, variable, app, no_args, arg, count, cells_before, all_before, cells_of, terms_from, terms_from-cells_before, term_of, term_of-cells_of, IsOneTerm}
use Rattle.fpc_terms.specs.Partial.{Frame, frame, Partial, args_onto, arguments_of, with_term, opened, closed, innermost, only_term, done_cells, flat, positions, turned, terms_of, frame_of, base_of, frames_of, partial_of, Is, IsPartial, IsCount, IsBefore, StandsAt}

mutual
  pub cells_before-append : (t : Term) (xs ys : List Cell) → cells_before t xs ++ ys ≡ cells_before t (xs ++ ys)
  cells_before-append (eigen n) xs ys = refl
  cells_before-append (bound k) xs ys = refl
  cells_before-append (variable v) xs ys = refl
  cells_before-append (app f ts) xs ys = ap (λ cs. App f (count ts) ∷ cs) (all_before-append ts xs ys)

  pub all_before-append : (ts : Args) (xs ys : List Cell) → all_before ts xs ++ ys ≡ all_before ts (xs ++ ys)
  all_before-append no_args xs ys = refl
  all_before-append (arg t ts) xs ys = cells_before-append t (all_before ts xs) ys ∙ ap (cells_before t) (all_before-append ts xs ys)

pub done_cells-append : (ts : List Term) (xs ys : List Cell) → done_cells ts xs ++ ys ≡ done_cells ts (xs ++ ys)
done_cells-append [] xs ys = refl
done_cells-append (t ∷ ts) xs ys = done_cells-append ts (cells_before t xs) ys ∙ ap (done_cells ts) (cells_before-append t xs ys)

pub flat-append : (base : List Term) (fs : List Frame) (xs ys : List Cell) → flat base fs xs ++ ys ≡ flat base fs (xs ++ ys)
flat-append base [] xs ys = done_cells-append base xs ys
flat-append base (f ∷ fs) xs ys =
    flat-append base fs (App f.name (length f.args) ∷ done_cells f.args xs) ys
    ∙ ap (λ cs. flat base fs (App f.name (length f.args) ∷ cs)) (done_cells-append f.args xs ys)

-- the cells so far, and others behind them
pub flat-split : (base : List Term) (fs : List Frame) (cs : List Cell) → flat base fs cs ≡ flat base fs [] ++ cs
flat-split base fs cs = sym (flat-append base fs [] cs)

pub all_before-args_onto : (ts : List Term) (us : Args) (cs : List Cell) → all_before (args_onto ts us) cs ≡ done_cells ts (all_before us cs)
all_before-args_onto [] us cs = refl
all_before-args_onto (t ∷ ts) us cs = all_before-args_onto ts (arg t us) cs

pub count-args_onto : (ts : List Term) (us : Args) → count (args_onto ts us) ≡ length ts + count us
count-args_onto [] us = omega arith
count-args_onto (t ∷ ts) us = let h = count-args_onto ts (arg t us) in omega (arith, h)

pub count-arguments_of : (ts : List Term) → count (arguments_of ts) ≡ length ts
count-arguments_of ts = let h = count-args_onto ts no_args in omega (arith, h)

pub terms_from-done_cells : (ts : List Term) (cs : List Cell) (us : Args) → terms_from (done_cells ts cs) us ≡ args_onto ts (terms_from cs us)
terms_from-done_cells [] cs us = refl
terms_from-done_cells (t ∷ ts) cs us = terms_from-done_cells ts (cells_before t cs) us ∙ ap (args_onto ts) (terms_from-cells_before t cs us)

pub turned-args_onto : (ts : List Term) (us : Args) (vs : List Term) → turned (args_onto ts us) vs ≡ turned us (ts ++ vs)
turned-args_onto [] us vs = refl
turned-args_onto (t ∷ ts) us vs = turned-args_onto ts (arg t us) vs

pub terms_of-done_cells : (ts : List Term) → terms_of (done_cells ts []) ≡ ts
terms_of-done_cells ts = ap (λ us. turned us []) (terms_from-done_cells ts [] no_args) ∙ turned-args_onto ts no_args [] ∙ append-nil ts

-- the front of the cells, up to the innermost application
pub take-flat : (base : List Term) (f : Frame) (fs : List Frame) (cs : List Cell) → take (length (flat base fs [])) (flat base (f ∷ fs) cs) ≡ flat base fs []
take-flat base f fs cs =
    ap (take (length (flat base fs []))) (flat-split base fs (App f.name (length f.args) ∷ done_cells f.args cs))
    ∙ take-append_seam (flat base fs []) (App f.name (length f.args) ∷ done_cells f.args cs)

pub drop-flat : (base : List Term) (f : Frame) (fs : List Frame) (cs : List Cell) →
    drop (length (flat base fs [])) (flat base (f ∷ fs) cs) ≡ App f.name (length f.args) ∷ done_cells f.args cs
drop-flat base f fs cs =
    ap (drop (length (flat base fs []))) (flat-split base fs (App f.name (length f.args) ∷ done_cells f.args cs))
    ∙ drop-append_seam (flat base fs []) (App f.name (length f.args) ∷ done_cells f.args cs)

pub base_of-flat : (base : List Term) (fs : List Frame) → base_of (flat base fs []) (positions base fs) ≡ base
base_of-flat base [] = terms_of-done_cells base
base_of-flat base (f ∷ fs) = ap (λ cs. base_of cs (positions base fs)) (take-flat base f fs []) ∙ base_of-flat base fs

pub frame_of-flat : (base : List Term) (f : Frame) (fs : List Frame) → frame_of (drop (length (flat base fs [])) (flat base (f ∷ fs) [])) ≡ f
frame_of-flat base f fs =
    ap frame_of (drop-flat base f fs [])
    ∙ ap (frame f.name) (terms_of-done_cells f.args)

pub frames_of-flat : (base : List Term) (fs : List Frame) → frames_of (flat base fs []) (positions base fs) ≡ fs
frames_of-flat base [] = refl
frames_of-flat base (f ∷ fs) =
    let first = frame_of-flat base f fs in
    let others = ap (λ cs. frames_of cs (positions base fs)) (take-flat base f fs []) ∙ frames_of-flat base fs in
    cc

module _ (cs : List Cell) (is : List ℕ) (n : ℕ) (base : List Term) (fs : List Frame) (h : Is cs is n base fs) where
  pub base_of-from_Is : base_of cs is ≡ base
  base_of-from_Is = rw (h.cells, h.places) (base_of-flat base fs)

  pub frames_of-from_Is : frames_of cs is ≡ fs
  frames_of-from_Is = rw (h.cells, h.places) (frames_of-flat base fs)

  -- the value of the fields
  pub partial_of-from_Is : partial_of cs is ≡ record { base = base; frames = fs }
  partial_of-from_Is = let b = base_of-from_Is in let f = frames_of-from_Is in cc

  -- the fields are those of their value
  pub IsPartial-from_Is : IsPartial cs is n (partial_of cs is)
  IsPartial-from_Is = rw (base_of-from_Is, frames_of-from_Is) h

-- the application at a place has one more argument
pub raised : (cs : List Cell) (i : ℕ) (old new : Cell) (front back : List Cell) (f n : ℕ) → old ≡ slice_index_or cs i old → (old ≡ App f n → new ≡ App f (n + 1)) → StandsAt cs i front f n back →
    slice_set cs i new ≡ front ++ App f (n + 1) ∷ back
raised cs i old new front back f n e becomes (items, place) =
    let found : slice_index_or cs i old ≡ App f n = rw (items, place) (get_or-append_seam front (App f n) back old) in
    rw (items, place, becomes (e ∙ found)) (set-append_seam front (App f n) back (App f (n + 1)))

-- the innermost open application stands at the first of the places
pub StandsAt-first : (cs more : List Cell) (i : ℕ) (is rest : List ℕ) (base : List Term) (f : Frame) (fs : List Frame) → cs ≡ flat base (f ∷ fs) more → is ≡ positions base (f ∷ fs) → is ≡ i ∷ rest →
    StandsAt cs i (flat base fs []) f.name (length f.args) (done_cells f.args more)
StandsAt-first cs more i is rest base f fs cells places first =
    (cells ∙ flat-split base fs (App f.name (length f.args) ∷ done_cells f.args more), let e = sym first ∙ places in cc)

-- one more term is counted in the innermost application
pub counted : (t : Term) (cs new : List Cell) (is : List ℕ) (i : ℕ) (rest : List ℕ) (n : ℕ) (base : List Term) (fs : List Frame) → IsBefore t cs is n base fs → is ≡ i ∷ rest →
    ((front back : List Cell) (f m : ℕ) → m < 255 → StandsAt cs i front f m back → new ≡ front ++ App f (m + 1) ∷ back) → IsPartial new is n (with_term t base fs)
counted t cs new is i rest n base [] h e raise = let none : is ≡ [] = h.places in cc
counted t cs new is i rest n base (f ∷ fs) h e raise =
    let at = StandsAt-first cs (cells_before t []) i is rest base f fs h.cells h.places e in
    let one : length f.args + 1 ≡ suc (length f.args) = omega arith in
    let now = raise (flat base fs []) (done_cells f.args (cells_before t [])) f.name (length f.args) h.few at in
    record {
      cells = now ∙ ap (λ m. flat base fs [] ++ App f.name m ∷ done_cells f.args (cells_before t [])) one ∙ sym (flat-split base fs (App f.name (suc (length f.args)) ∷ done_cells f.args (cells_before t [])));
      places = h.places;
      whole = h.whole;
      room = h.room;
    }

-- how many arguments the innermost application has
pub innermost-first : (cs : List Cell) (is : List ℕ) (i : ℕ) (rest : List ℕ) (n r : ℕ) (base : List Term) (fs : List Frame) → Is cs is n base fs → is ≡ i ∷ rest →
    ((front back : List Cell) (f m : ℕ) → StandsAt cs i front f m back → r ≡ m) → r ≡ innermost base fs
innermost-first cs is i rest n r base [] h e found = let none : is ≡ [] = h.places in cc
innermost-first cs is i rest n r base (f ∷ fs) h e found = found (flat base fs []) (done_cells f.args []) f.name (length f.args) (StandsAt-first cs [] i is rest base f fs h.cells h.places e)

-- a leaf stands at the end
pub IsBefore-leaf : (t : Term) (c : Cell) (cs : List Cell) (is : List ℕ) (n : ℕ) (base : List Term) (fs : List Frame) → Is cs is n base fs → innermost base fs < 255 → cells_of t ≡ c ∷ [] →
    IsBefore t (cs ++ c ∷ []) is n base fs
IsBefore-leaf t c cs is n base fs h few one = record {
  cells = ap (λ xs. xs ++ c ∷ []) h.cells ∙ sym (flat-split base fs (c ∷ [])) ∙ sym (ap (flat base fs) one);
  places = h.places;
  whole = h.whole;
  few = few;
  room = h.room;
}

-- the innermost application stands at the end as a whole term
pub IsBefore-closed : (cs : List Cell) (is : List ℕ) (i : ℕ) (rest : List ℕ) (n : ℕ) (base : List Term) (f : Frame) (fs : List Frame) → Is cs is n base (f ∷ fs) → is ≡ i ∷ rest →
    IsBefore (app f.name (arguments_of f.args)) cs rest n base fs
IsBefore-closed cs is i rest n base f fs h e =
    let args : count (arguments_of f.args) ≡ length f.args = count-arguments_of f.args in
    let behind : all_before (arguments_of f.args) [] ≡ done_cells f.args [] = all_before-args_onto f.args no_args [] in
    record {
      cells = h.cells ∙ sym (ap (λ m. flat base fs (App f.name m ∷ done_cells f.args [])) args) ∙ sym (ap (λ xs. flat base fs (App f.name (count (arguments_of f.args)) ∷ xs)) behind);
      places = let same = sym e ∙ h.places in cc;
      whole = h.whole;
      few = h.room.0;
      room = h.room.1;
    }

pub closing : (cs new : List Cell) (is : List ℕ) (i : ℕ) (rest : List ℕ) (n m : ℕ) (base : List Term) (fs : List Frame) → Is cs is n base fs → is ≡ i ∷ rest →
    ((t : Term) (b : List Term) (gs : List Frame) → IsBefore t cs rest n b gs → IsPartial new rest m (with_term t b gs)) → IsPartial new rest m (closed base fs)
closing cs new is i rest n m base [] h e count_term = let none : is ≡ [] = h.places in cc
closing cs new is i rest n m base (f ∷ fs) h e count_term = count_term (app f.name (arguments_of f.args)) base fs (IsBefore-closed cs is i rest n base f fs h e)

-- one more open application
pub Is-opened : (name : ℕ) (cs : List Cell) (is : List ℕ) (n : ℕ) (base : List Term) (fs : List Frame) → Is cs is n base fs → innermost base fs < 255 →
    IsPartial (cs ++ App name 0 ∷ []) (length cs ∷ is) n (opened name base fs)
Is-opened name cs is n base fs h few = record {
  cells = ap (λ xs. xs ++ App name 0 ∷ []) h.cells ∙ sym (flat-split base fs (App name 0 ∷ []));
  places = let where_it_is = ap length h.cells in let others = h.places in cc;
  whole = h.whole;
  room = (few, h.room);
}

-- the cells where nothing is open
pub cells-closed : (cs : List Cell) (is : List ℕ) (n : ℕ) (base : List Term) (fs : List Frame) → Is cs is n base fs → fs ≡ [] → cs ≡ all_before (arguments_of base) []
cells-closed cs is n base [] h e = h.cells ∙ sym (all_before-args_onto base no_args [])
cells-closed cs is n base (f ∷ fs) h e = cc

-- the one whole term
pub IsOneTerm-only : (cs : List Cell) (is : List ℕ) (n : ℕ) (base : List Term) (fs : List Frame) → Is cs is n base fs → n ≡ 1 → fs ≡ [] → IsOneTerm cs × (only_term base fs ≡ Some (term_of cs))
IsOneTerm-only cs is n [] [] h one none = absurd (omega (arith, h.whole))
IsOneTerm-only cs is n (t ∷ []) [] h one none =
    let cells : cs ≡ cells_of t = h.cells in
    let value : term_of cs ≡ t = ap term_of cells ∙ term_of-cells_of t in
    (ap cells_of value ∙ sym cells, ap Some (sym value))
IsOneTerm-only cs is n (t ∷ u ∷ ts) [] h one none = absurd (omega (arith, h.whole))
IsOneTerm-only cs is n base (f ∷ fs) h one none = cc

-- what is known of the fields and of their value
pub IsPartial-at : (cs : List Cell) (is : List ℕ) (n : ℕ) (z : Partial) → IsPartial cs is n (partial_of cs is) → partial_of cs is ≡ z → IsPartial cs is n z
IsPartial-at cs is n z h e = subst (λ (w : Partial). IsPartial cs is n w) e h

pub value-from_IsPartial : (cs : List Cell) (is : List ℕ) (n : ℕ) (z : Partial) → IsPartial cs is n z → partial_of cs is ≡ z
value-from_IsPartial cs is n z h = partial_of-from_Is cs is n z.base z.frames h

pub invariant-from_IsPartial : (cs : List Cell) (is : List ℕ) (n : ℕ) (z : Partial) → IsPartial cs is n z → IsPartial cs is n (partial_of cs is)
invariant-from_IsPartial cs is n z h = IsPartial-from_Is cs is n z.base z.frames h

-- one more whole term stands innermost
pub innermost-with_term : (t : Term) (base : List Term) (fs : List Frame) → innermost (with_term t base fs).base (with_term t base fs).frames ≡ innermost base fs + 1
innermost-with_term t base [] = omega arith
innermost-with_term t base (f ∷ fs) = omega arith

-- what is known of the count of the fields' value
pub IsCount-at : (cs : List Cell) (is : List ℕ) (m : ℕ) (z : Partial) → IsCount m (partial_of cs is) → partial_of cs is ≡ z → IsCount m z
IsCount-at cs is m z h e = subst (λ (w : Partial). IsCount m w) e h

pub IsCount-from : (cs : List Cell) (is : List ℕ) (n m : ℕ) (z : Partial) → IsPartial cs is n z → IsCount m z → IsCount m (partial_of cs is)
IsCount-from cs is n m z h e = subst (λ (w : Partial). IsCount m w) (sym (value-from_IsPartial cs is n z h)) e
