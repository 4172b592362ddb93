-- Sequents still to be derived that share their formulas: what is put on top or cut back leaves those behind as they were.
use Rattle.std.proofs.Common.{◌≡◌, ℕ, suc, ◌≤◌, List, [], ◌∷◌, ◌++◌, length, map, take, drop, refl, sym, ap, subst, ◌∙◌, arith, Result, Ok, Err, OnOk, OnErr}
use Rattle.std.specs.Prelude.{zero}
use Rattle.std.proofs.lemmas.List.{take-append-le, take-take, length-take, length-append, append_assoc, take-append-drop}
use Rattle.fpc_terms.specs.Term.{Term, Each, Always, Never}
use Rattle.polarised_formulas.specs.Held.{AreUnbound}
use Rattle.polarised_formulas.specs.Grows.{stands-grown}
use Rattle.polarised_formulas.proofs.Elements.{AllByRecursion-weaker, AllByRecursion-append}
use Rattle.polarised_formulas.proofs.HeldFacts.{pair_part, quantified_part}
use Rattle.lkf_rules.specs.Sequent.{up}
use Rattle.explicit_kernel.specs.declared.shared.Cell.{Cell}
use Rattle.explicit_kernel.specs.declared.shared.Task.{Task}
use Rattle.explicit_kernel.specs.declared.shared.Task.TheVariants.{Work, Focus}
use Rattle.explicit_kernel.specs.declared.shared.Open.{Open}
use Rattle.explicit_kernel.specs.declared.shared.Shared.{Shared}
use Rattle.explicit_kernel.specs.Stack.{StandsAt, IsLowest, IsBefore}
use Rattle.explicit_kernel.specs.Shared.{Held, meant, IsServed, AreServed, IsServedTask, AreServedAll, IsPlace, IsFirst, chain, GoDown, sequent_of, sequents_of, IsBelow, AreBelow, IsReady, IsSound, Grows, HasTerms, IsTaken, pending_of}

-- a cell on top is not in a list that begins below it
pub chain-under : (c : Cell) (cs : List Cell) (n : ℕ) → n ≤ length cs → chain (c ∷ cs) n ≡ chain cs n
chain-under c cs n h = grind arith

-- the list that begins at the cell on top
pub chain-top : (c : Cell) (cs : List Cell) → chain (c ∷ cs) (suc (length cs)) ≡ c.formula ∷ chain cs c.next
chain-top c cs = grind arith

pub chain-end : (cs : List Cell) → chain cs 0 ≡ []
chain-end [] = refl
chain-end (c ∷ cs) = chain-under c cs 0 (omega arith) ∙ chain-end cs

-- cells above are not in a list that begins below them
pub chain-append : (ds cs : List Cell) (n : ℕ) → n ≤ length cs → chain (ds ++ cs) n ≡ chain cs n
chain-append [] cs n h = refl
chain-append (d ∷ ds) cs n h = chain-under d (ds ++ cs) n (omega (arith, h, length-append ds cs)) ∙ chain-append ds cs n h

pub GoDown-append : (ds cs : List Cell) → GoDown (ds ++ cs) → GoDown cs
GoDown-append [] cs h = h
GoDown-append (d ∷ ds) cs h = GoDown-append ds cs h.1

-- the list that begins at a cell goes on at the next one, which is below
pub chain-at : (ds cs : List Cell) (c : Cell) → GoDown (ds ++ c ∷ cs) → chain (ds ++ c ∷ cs) (suc (length cs)) ≡ c.formula ∷ chain (ds ++ c ∷ cs) c.next
chain-at ds cs c h =
    let down : GoDown (c ∷ cs) = GoDown-append ds (c ∷ cs) h in
    let next : c.next ≤ length cs = down.0 in
    chain-append ds (c ∷ cs) (suc (length cs)) (omega arith) ∙ chain-top c cs
    ∙ ap (λ x. c.formula ∷ x) (sym (chain-append ds (c ∷ cs) c.next (omega (arith, next)) ∙ chain-under c cs c.next next))

-- the cells agree as far as the n-th
abbrev pub Agree : ℕ → List Cell → List Cell → Type 0
Agree n cs ds = (k : ℕ) → k ≤ n → chain cs k ≡ chain ds k

-- the stored formulas agree as far as the n-th
abbrev pub Alike : ℕ → List Held → List Held → Type 0
Alike n s t = (k : ℕ) → k ≤ n → take k s ≡ take k t

module _ (ts : List Term) where
  sequent_of-same : (s t : List Held) (cs ds : List Cell) (n : ℕ) (task : Task) → s ≡ t → IsBelow n task → Agree n cs ds → sequent_of ts s cs task ≡ sequent_of ts t ds task
  sequent_of-same s t cs ds n (Work k) e h agree = rw (e, agree k h) refl
  sequent_of-same s t cs ds n (Focus k) e h agree = rw (e, agree k h) refl

  -- sequents stay as they were where the cells and the stored formulas that they need do
  pub sequents-same : (s t : List Held) (cs ds : List Cell) (n k : ℕ) (os : List Open) → AreBelow n k os → Agree n cs ds → Alike k s t → sequents_of ts s cs os ≡ sequents_of ts t ds os
  sequents-same s t cs ds n k [] h agree alike = refl
  sequents-same s t cs ds n k (o ∷ os) h agree alike =
      let stored : o.stored ≤ k = h.0 in
      let floor : o.floor ≤ n = h.1 in
      let first : sequent_of ts (take o.stored s) cs o.task ≡ sequent_of ts (take o.stored t) ds o.task =
      sequent_of-same (take o.stored s) (take o.stored t) cs ds n o.task (alike o.stored stored) h.2 agree in
      let others : sequents_of ts s cs os ≡ sequents_of ts t ds os =
      sequents-same s t cs ds o.floor o.stored os h.3 (λ i below. agree i (omega (arith, below, floor))) (λ i below. alike i (omega (arith, below, stored))) in
      rw (first, others) refl

-- and so do the terms that serve them
served_task-same : (m : ℕ) (cs ds : List Cell) (n : ℕ) (task : Task) → IsBelow n task → Agree n cs ds → IsServedTask m cs task → IsServedTask m ds task
served_task-same m cs ds n (Work k) h agree z = subst (AreServed m) (agree k h) z
served_task-same m cs ds n (Focus k) below agree (h, is, z) = (h, sym (agree k below) ∙ is, z)

pub served-same : (m : ℕ) (s t : List Held) (cs ds : List Cell) (n k : ℕ) (os : List Open) → AreBelow n k os → Agree n cs ds → Alike k s t → AreServedAll m s cs os → AreServedAll m t ds os
served-same m s t cs ds n k [] h agree alike z = tt
served-same m s t cs ds n k (o ∷ os) h agree alike z =
    let stored : o.stored ≤ k = h.0 in
    let floor : o.floor ≤ n = h.1 in (
      z.0,
      subst (AreServed o.terms) (alike o.stored stored) z.1,
      served_task-same o.terms cs ds n o.task h.2 agree z.2,
      served-same o.terms s t cs ds o.floor o.stored os h.3 (λ i below. agree i (omega (arith, below, floor))) (λ i below. alike i (omega (arith, below, stored))) z.3,
    )

IsBelow-more : (n m : ℕ) (task : Task) → n ≤ m → IsBelow n task → IsBelow m task
IsBelow-more n m (Work k) e h = omega (arith, e, h)
IsBelow-more n m (Focus k) e h = omega (arith, e, h)

pub AreBelow-more : (n m k l : ℕ) (os : List Open) → n ≤ m → k ≤ l → AreBelow n k os → AreBelow m l os
AreBelow-more n m k l [] e f h = tt
AreBelow-more n m k l (o ∷ os) e f h = let stored : o.stored ≤ k = h.0 in let floor : o.floor ≤ n = h.1 in
    (omega (arith, stored, f), omega (arith, floor, e), IsBelow-more n m o.task e h.2, h.3)

-- more terms serve too
pub AreServed-more : (n m : ℕ) (hs : List Held) → n ≤ m → AreServed n hs → AreServed m hs
AreServed-more n m hs e h = AllByRecursion-weaker (IsServed n) (IsServed m) (λ x z. omega (arith, e, z)) hs h

pub served_task-more : (n m : ℕ) (cs : List Cell) (task : Task) → n ≤ m → IsServedTask n cs task → IsServedTask m cs task
served_task-more n m cs (Work k) e h = AreServed-more n m (chain cs k) e h
served_task-more n m cs (Focus k) e (h, is, z) = (h, is, omega (arith, e, z))

pub served_all-more : (n m : ℕ) (s : List Held) (cs : List Cell) (os : List Open) → n ≤ m → AreServedAll n s cs os → AreServedAll m s cs os
served_all-more n m s cs [] e h = tt
served_all-more n m s cs (o ∷ os) e h = let terms : o.terms ≤ n = h.0 in (omega (arith, e, terms), h.1, h.2, h.3)

-- terms behind those that serve change nothing
module _ (ts us : List Term) where
  pub meant-grown : (h : Held) → IsServed (length ts) h → meant (ts ++ us) h ≡ meant ts h
  meant-grown h z = stands-grown ts us h z

  pub all_meant-grown : (hs : List Held) → AreServed (length ts) hs → map (meant (ts ++ us)) hs ≡ map (meant ts) hs
  all_meant-grown [] z = refl
  all_meant-grown (h ∷ hs) z = rw (meant-grown h z.0, all_meant-grown hs z.1)

  pub sequent-grown : (s : List Held) (cs : List Cell) (task : Task) → AreServed (length ts) s → IsServedTask (length ts) cs task → sequent_of (ts ++ us) s cs task ≡ sequent_of ts s cs task
  sequent-grown s cs (Work k) h z = rw (all_meant-grown s h, all_meant-grown (chain cs k) z) refl
  sequent-grown s cs (Focus k) h (f, is, z) = rw (all_meant-grown s h, is, meant-grown f z) refl

  pub sequents-grown : (n : ℕ) (s : List Held) (cs : List Cell) (os : List Open) → n ≤ length ts → AreServedAll n s cs os → sequents_of (ts ++ us) s cs os ≡ sequents_of ts s cs os
  sequents-grown n s cs [] e h = refl
  sequents-grown n s cs (o ∷ os) e h =
      let terms : o.terms ≤ n = h.0 in
      let within : o.terms ≤ length ts = omega (arith, terms, e) in
      rw (
        sequent-grown (take o.stored s) cs o.task (AreServed-more o.terms (length ts) (take o.stored s) within h.1) (served_task-more o.terms (length ts) cs o.task within h.2),
        sequents-grown o.terms s cs os within h.3,
      ) refl

-- nor do those that are cut off
length-cut : (n : ℕ) (ts : List Term) → n ≤ length ts → length (take n ts) ≡ n
length-cut n ts h = omega (arith, h, length-take n ts)

pub sequent-cut : (ts : List Term) (n : ℕ) (s : List Held) (cs : List Cell) (task : Task) → n ≤ length ts → AreServed n s → IsServedTask n cs task → sequent_of (take n ts) s cs task ≡ sequent_of ts s cs task
sequent-cut ts n s cs task e h z =
    let long : length (take n ts) ≡ n = length-cut n ts e in
    sym (sequent-grown (take n ts) (drop n ts) s cs task (subst (λ i. AreServed i s) (sym long) h) (subst (λ i. IsServedTask i cs task) (sym long) z))
    ∙ ap (λ i. sequent_of i s cs task) (take-append-drop n ts)

pub sequents-cut : (ts : List Term) (n : ℕ) (s : List Held) (cs : List Cell) (os : List Open) → n ≤ length ts → AreServedAll n s cs os → sequents_of (take n ts) s cs os ≡ sequents_of ts s cs os
sequents-cut ts n s cs os e h =
    sym (sequents-grown (take n ts) (drop n ts) n s cs os (omega (arith, length-cut n ts e)) h) ∙ ap (λ i. sequents_of i s cs os) (take-append-drop n ts)

AreUnbound-take : (n : ℕ) (ts : List Term) → AreUnbound ts → AreUnbound (take n ts)
AreUnbound-take zero ts h = tt
AreUnbound-take (suc n) [] h = tt
AreUnbound-take (suc n) (t ∷ ts) h = (h.0, AreUnbound-take n ts h.1)

pub chain-stands : (cs : List Cell) (k : ℕ) (c : Cell) → GoDown cs → StandsAt cs k c → chain cs (suc k) ≡ c.formula ∷ chain cs c.next
chain-stands cs k c low (front, back, is, behind) =
    let P : List Cell → Type 0 = λ x. chain x (suc k) ≡ c.formula ∷ chain x c.next in
    let Q : ℕ → Type 0 = λ i. chain (front ++ c ∷ back) (suc i) ≡ c.formula ∷ chain (front ++ c ∷ back) c.next in
    subst P (sym is) (subst Q behind (chain-at front back c (subst GoDown is low)))

pub next-below : (cs : List Cell) (k : ℕ) (c : Cell) → GoDown cs → StandsAt cs k c → c.next ≤ length cs
next-below cs k c low (front, back, is, behind) =
    let here : GoDown (c ∷ back) = GoDown-append front (c ∷ back) (subst GoDown is low) in
    let next : c.next ≤ length back = here.0 in
    omega (arith, next, length-append front (c ∷ back), ap length is)

pub no-place : (x : Shared) → IsPlace x 0
no-place x = (omega arith, subst (AreServed (length x.terms.items)) (sym (chain-end x.cells)) tt)

cell-first : (x : Shared) (k : ℕ) (c : Cell) → GoDown x.cells → IsPlace x (suc k) → StandsAt x.cells k c → IsFirst c (suc k) x x
cell-first x k c low place stands =
    let list : chain x.cells (suc k) ≡ c.formula ∷ chain x.cells c.next = chain-stands x.cells k c low stands in
    let served : AreServed (length x.terms.items) (c.formula ∷ chain x.cells c.next) = subst (AreServed (length x.terms.items)) list place.1 in
    record { list = list; formula = served.0; rest = (next-below x.cells k c low stands, served.1) }

-- the first cell of the list at a place
pub first-cell : (x : Shared) (n k : ℕ) (c : Cell) → n ≡ suc k → GoDown x.cells → IsPlace x n → StandsAt x.cells k c → IsFirst c n x x
first-cell x n k c e low place stands = subst (λ i. IsFirst c i x x) (sym e) (cell-first x k c low (subst (IsPlace x) e place) stands)

-- one more stored formula
Alike-more : (s : List Held) (h : Held) → Alike (length s) s (s ++ h ∷ [])
Alike-more s h k z = sym (take-append-le k s (h ∷ []) z)

pub stored-ready : (n : ℕ) (x : Shared) (t : List Held) (y : Shared) (h : Held) → t ≡ x.stored.items ++ h ∷ [] → IsServed (length x.terms.items) h
    → y.stored.items ≡ t → y.cells ≡ x.cells → y.sequents ≡ x.sequents → y.terms.items ≡ x.terms.items → IsReady n x → IsReady n y
stored-ready n x t y h e z a b c d ready =
    let is : y.stored.items ≡ x.stored.items ++ h ∷ [] = a ∙ e in
    record {
      below = rw (c, is) (AreBelow-more n n (length x.stored.items) (length (x.stored.items ++ h ∷ [])) x.sequents (omega arith) (omega (arith, length-append x.stored.items (h ∷ []))) ready.below);
      floor = rw b ready.floor;
      down = rw b ready.down;
      served = rw (b, c, d, is)
          (served-same (length x.terms.items) x.stored.items (x.stored.items ++ h ∷ []) x.cells x.cells n (length x.stored.items) x.sequents ready.below (λ k below. refl) (Alike-more x.stored.items h) ready.served);
      stored_served = rw (d, is) (AllByRecursion-append (IsServed (length x.terms.items)) x.stored.items (h ∷ []) ready.stored_served (z, tt));
      unbound = rw d ready.unbound;
    }

pub stored-same : (ts : List Term) (n : ℕ) (s t : List Held) (h : Held) (cs : List Cell) (os : List Open) → t ≡ s ++ h ∷ [] → AreBelow n (length s) os → sequents_of ts t cs os ≡ sequents_of ts s cs os
stored-same ts n s t h cs os e z = rw e (sym (sequents-same ts s (s ++ h ∷ []) cs cs n (length s) os z (λ k below. refl) (Alike-more s h)))

-- cut back to a recorded length, the lists of the sequents are as they were
chain-lowest : (cs ds : List Cell) (m n : ℕ) → n ≤ m → IsLowest cs m ds → chain cs n ≡ chain ds n
chain-lowest cs ds m n h (front, is, long) = rw is (chain-append front ds n (omega (arith, h, long)))

pub cut-chain : (cs ds : List Cell) (m n : ℕ) → n ≤ m → IsLowest cs m ds → chain ds n ≡ chain cs n
cut-chain cs ds m n h low = sym (chain-lowest cs ds m n h low)

GoDown-lowest : (cs ds : List Cell) (m : ℕ) → GoDown cs → IsLowest cs m ds → GoDown ds
GoDown-lowest cs ds m h (front, is, long) = GoDown-append front ds (subst GoDown is h)

length-lowest : (cs ds : List Cell) (m : ℕ) → IsLowest cs m ds → length ds ≡ m
length-lowest cs ds m (front, is, long) = long

pub cut-ready : (n m : ℕ) (x : Shared) (cs : List Cell) → n ≤ m → GoDown cs → IsLowest cs m x.cells → AreBelow n (length x.stored.items) x.sequents
    → AreServedAll (length x.terms.items) x.stored.items cs x.sequents → AreServed (length x.terms.items) x.stored.items → AreUnbound x.terms.items → IsReady n x
cut-ready n m x cs low h lowest below served stored unbound = record {
  below = below;
  floor = omega (arith, low, length-lowest cs x.cells m lowest);
  down = GoDown-lowest cs x.cells m h lowest;
  served = served-same (length x.terms.items) x.stored.items x.stored.items cs x.cells n (length x.stored.items) x.sequents below
      (λ i z. chain-lowest cs x.cells m i (omega (arith, z, low)) lowest) (λ i z. refl) served;
  stored_served = stored;
  unbound = unbound;
}

pub cut-same : (ts : List Term) (n k m : ℕ) (s : List Held) (cs ds : List Cell) (os : List Open) → AreBelow n k os → n ≤ m → IsLowest cs m ds → sequents_of ts s ds os ≡ sequents_of ts s cs os
cut-same ts n k m s cs ds os below low lowest =
    sym (sequents-same ts s s cs ds n k os below (λ i h. chain-lowest cs ds m i (omega (arith, h, low)) lowest) (λ i h. refl))

-- no more cells are left than are needed
pub cut-dropped : (floor rest m : ℕ) (cs ds : List Cell) → ((n : ℕ) → floor ≤ n → rest ≤ n → m ≤ n) → IsLowest cs m ds → (n : ℕ) → floor ≤ n → rest ≤ n → length ds ≤ n
cut-dropped floor rest m cs ds one lowest n low below = let long = length-lowest cs ds m lowest in let most = one n low below in omega (arith, long, most)

pub cut-place : (m rest : ℕ) (x : Shared) (cs : List Cell) → rest ≤ m → IsLowest cs m x.cells → AreServed (length x.terms.items) (chain cs rest) → IsPlace x rest
cut-place m rest x cs below lowest served =
    (omega (arith, below, length-lowest cs x.cells m lowest), subst (AreServed (length x.terms.items)) (chain-lowest cs x.cells m rest below lowest) served)

-- a cell that is taken off with what is above it
IsBefore-lowest : (cs ds : List Cell) (n : ℕ) (c : Cell) → IsBefore cs n c ds → IsLowest cs n ds
IsBefore-lowest cs ds n c (front, is, long) = (front ++ c ∷ [], is ∙ sym (append_assoc front (c ∷ []) ds), long)

IsBefore-stands : (cs ds : List Cell) (n : ℕ) (c : Cell) → IsBefore cs n c ds → StandsAt cs n c
IsBefore-stands cs ds n c (front, is, long) = (front, ds, is, long)

IsBefore-next : (cs ds : List Cell) (n : ℕ) (c : Cell) → GoDown cs → IsBefore cs n c ds → c.next ≤ n
IsBefore-next cs ds n c low (front, is, long) =
    let here : GoDown (c ∷ ds) = GoDown-append front (c ∷ ds) (subst GoDown is low) in
    let next : c.next ≤ length ds = here.0 in
    omega (arith, next, long)

pub taken-first : (x y : Shared) (k n : ℕ) (c : Cell) → k ≡ suc n → GoDown x.cells → IsPlace x k → IsBefore x.cells n c y.cells → y.terms ≡ x.terms → IsFirst c k x y
taken-first x y k n c is low place before e =
    let first : IsFirst c k x x = first-cell x k n c is low place (IsBefore-stands x.cells y.cells n c before) in
    let lowest : IsLowest x.cells n y.cells = IsBefore-lowest x.cells y.cells n c before in
    let next : c.next ≤ n = IsBefore-next x.cells y.cells n c low before in
    record {
      list = first.list ∙ ap (λ l. c.formula ∷ l) (chain-lowest x.cells y.cells n c.next next lowest);
      formula = rw e first.formula;
      rest = cut-place n c.next y x.cells next lowest (rw e first.rest.1);
    }

pub taken-ready : (x y : Shared) (floor n : ℕ) (c : Cell) → floor ≤ n → IsReady floor x → IsBefore x.cells n c y.cells → y.stored ≡ x.stored → y.terms ≡ x.terms → y.sequents ≡ x.sequents → IsReady floor y
taken-ready x y floor n c low ready before a b d =
    cut-ready floor n y x.cells low ready.down (IsBefore-lowest x.cells y.cells n c before)
    (rw (a, d) ready.below) (rw (a, b, d) ready.served) (rw (a, b) ready.stored_served) (rw b ready.unbound)

pub taken-pending : (x : Shared) (cs : List Cell) (floor n : ℕ) (c : Cell) → floor ≤ n → IsReady floor x → IsBefore x.cells n c cs → sequents_of x.terms.items x.stored.items cs x.sequents ≡ pending_of x
taken-pending x cs floor n c low ready before =
    cut-same x.terms.items floor (length x.stored.items) n x.stored.items x.cells cs x.sequents ready.below low (IsBefore-lowest x.cells cs n c before)

pub focus-some : (x : Shared) (n : ℕ) → IsServedTask (length x.terms.items) x.cells (Focus n) → suc 0 ≤ n
focus-some x zero (h, is, served) = let none : chain x.cells 0 ≡ [] = chain-end x.cells in let no : ⊥ = cc in absurd no
focus-some x (suc n) served = omega arith

-- a task that works on no list
pub nothing-left : (ts : List Term) (s : List Held) (cs : List Cell) (task : Task) (k : ℕ) → task ≡ Work k → k ≡ 0 → sequent_of ts s cs task ≡ up (map (meant ts) s) []
nothing-left ts s cs task k is z = rw (is, z, chain-end cs) refl

-- the stored formulas and the terms of a sequent that was taken off the others
Alike-take : (k : ℕ) (s : List Held) → Alike k s (take k s)
Alike-take k s i h = sym (take-take i k s h)

pub forget-ready : (o : Open) (x : Shared) (y : Shared) → IsTaken o x → y.stored.items ≡ take o.stored x.stored.items → y.terms.items ≡ take o.terms x.terms.items
    → y.cells ≡ x.cells → y.sequents ≡ x.sequents → IsReady o.floor y
forget-ready o x y h a b c d =
    let long : length y.terms.items ≡ o.terms = ap length b ∙ length-cut o.terms x.terms.items h.terms in
    let short : length y.stored.items ≡ o.stored = ap length a ∙ (let z = h.stored in omega (arith, z, length-take o.stored x.stored.items)) in
    record {
      below = rw (d, short) h.below;
      floor = rw c h.floor;
      down = rw c h.down;
      served = rw (long, a, c, d)
          (served-same o.terms x.stored.items (take o.stored x.stored.items) x.cells x.cells o.floor o.stored x.sequents h.below (λ i z. refl) (Alike-take o.stored x.stored.items) h.served);
      stored_served = rw (long, a) h.own_stored;
      unbound = rw b (AreUnbound-take o.terms x.terms.items h.unbound);
    }

pub forget-task : (o : Open) (x : Shared) (ts : List Term) → IsTaken o x → ts ≡ take o.terms x.terms.items → IsServedTask (length ts) x.cells o.task
forget-task o x ts h e = subst (λ i. IsServedTask i x.cells o.task) (sym (ap length e ∙ length-cut o.terms x.terms.items h.terms)) h.own_task

pub forget-same : (o : Open) (x : Shared) (s : List Held) (ts : List Term) → IsTaken o x → s ≡ take o.stored x.stored.items → ts ≡ take o.terms x.terms.items
    → sequent_of ts s x.cells o.task ≡ sequent_of x.terms.items (take o.stored x.stored.items) x.cells o.task
forget-same o x s ts h a b = rw (a, b) (sequent-cut x.terms.items o.terms (take o.stored x.stored.items) x.cells o.task h.terms h.own_stored h.own_task)

pub forget-pending : (o : Open) (x : Shared) (s : List Held) (ts : List Term) → IsTaken o x → s ≡ take o.stored x.stored.items → ts ≡ take o.terms x.terms.items
    → sequents_of ts s x.cells x.sequents ≡ pending_of x
forget-pending o x s ts h a b = rw (a, b)
    (sym (sequents-same (take o.terms x.terms.items) x.stored.items (take o.stored x.stored.items) x.cells x.cells o.floor o.stored x.sequents h.below (λ i z. refl) (Alike-take o.stored x.stored.items))
    ∙ sequents-cut x.terms.items o.terms x.stored.items x.cells x.sequents h.terms h.served)

-- more terms leave all as it was
pub terms-ready : (n : ℕ) (x y : Shared) → HasTerms x y → IsReady n x → IsReady n y
terms-ready n x y h ready =
    let more : length x.terms.items ≤ length y.terms.items = omega (arith, ap length h.terms, length-append x.terms.items h.more) in
    record {
      below = rw (h.stored, h.sequents) ready.below;
      floor = rw h.cells ready.floor;
      down = rw h.cells ready.down;
      served = rw (h.stored, h.cells, h.sequents) (served_all-more (length x.terms.items) (length y.terms.items) x.stored.items x.cells x.sequents more ready.served);
      stored_served = rw h.stored (AreServed-more (length x.terms.items) (length y.terms.items) x.stored.items more ready.stored_served);
      unbound = rw h.terms (AllByRecursion-append (Each Always Never Always) x.terms.items h.more ready.unbound h.unbound);
    }

pub terms-pending : (x y : Shared) → HasTerms x y → AreServedAll (length x.terms.items) x.stored.items x.cells x.sequents → pending_of y ≡ pending_of x
terms-pending x y h served = rw (h.stored, h.cells, h.sequents, h.terms) (sequents-grown x.terms.items h.more (length x.terms.items) x.stored.items x.cells x.sequents (omega arith) served)

-- where the sequents need no more than a floor, all is sound
pub ready-sound : (n : ℕ) (x : Shared) → IsReady n x → IsSound x
ready-sound n x h = record {
  below = AreBelow-more n (length x.cells) (length x.stored.items) (length x.stored.items) x.sequents h.floor (omega arith) h.below;
  floor = omega arith;
  down = h.down;
  served = h.served;
  stored_served = h.stored_served;
  unbound = h.unbound;
}

take-whole : (s : List Held) → take (length s) s ≡ s
take-whole [] = refl
take-whole (h ∷ hs) = ap (λ x. h ∷ x) (take-whole hs)

-- one more sequent, or the same ones
pub task-sound : {A E : Type 0} (r : Result A E) (n level k m : ℕ) (task : Task) (x y : Shared) → IsReady n x → IsBelow (length x.cells) task → IsServedTask (length x.terms.items) x.cells task
    → k ≡ length x.stored.items → m ≡ length x.terms.items → y.stored ≡ x.stored → y.terms ≡ x.terms → y.cells ≡ x.cells
    → OnOk r (y.sequents ≡ record { level = level; stored = k; terms = m; floor = n; task = task } ∷ x.sequents) → OnErr r (y.sequents ≡ x.sequents) → IsSound y
task-sound (Ok a) n level k m task x y h t served z w e f g ok err = record {
  below = rw (e, g, ok) (omega (arith, z), h.floor, t, subst (λ i. AreBelow n i x.sequents) (sym z) h.below);
  floor = omega arith;
  down = rw g h.down;
  served = rw (e, f, g, ok) (omega (arith, w), rw (w, z, take-whole x.stored.items) h.stored_served, rw w served, rw w h.served);
  stored_served = rw (e, f) h.stored_served;
  unbound = rw f h.unbound;
}
task-sound (Err b) n level k m task x y h t served z w e f g ok err =
    let sound : IsSound x = ready-sound n x h in
    record {
      below = rw (e, g, err) sound.below;
      floor = omega arith;
      down = rw g h.down;
      served = rw (e, f, g, err) h.served;
      stored_served = rw (e, f) h.stored_served;
      unbound = rw f h.unbound;
    }

-- one more cell
Agree-more : (c : Cell) (cs : List Cell) → Agree (length cs) cs (c ∷ cs)
Agree-more c cs k h = sym (chain-under c cs k h)

pub cell-grows : (c : Cell) (x y : Shared) → c.next ≤ length x.cells → y.cells ≡ c ∷ x.cells → y.stored ≡ x.stored → y.terms ≡ x.terms → y.sequents ≡ x.sequents → IsSound x → Grows x y
cell-grows c x y h e a b d sound = record {
  stored = a;
  terms = b;
  pending = rw (a, b, d, e)
      (sym (sequents-same x.terms.items x.stored.items x.stored.items x.cells (c ∷ x.cells) (length x.cells) (length x.stored.items) x.sequents sound.below (Agree-more c x.cells) (λ k below. refl)));
  longer = rw e (omega arith);
  ready = λ n ready. record {
    below = rw (a, d) ready.below;
    floor = let low = ready.floor in rw e (omega (arith, low));
    down = rw e (h, ready.down);
    served = rw (a, b, d, e)
        (served-same (length x.terms.items) x.stored.items x.stored.items x.cells (c ∷ x.cells) (length x.cells) (length x.stored.items) x.sequents sound.below (Agree-more c x.cells) (λ k below. refl) ready.served);
    stored_served = rw (a, b) ready.stored_served;
    unbound = rw b ready.unbound;
  };
  chains = λ n below. rw e (chain-under c x.cells n below);
}

pub ruleset ready_facts = (ready-sound, no-place, pair_part, quantified_part)

pub ruleset body_facts = (ready-sound, terms-ready, quantified_part)
