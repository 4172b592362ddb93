-- What is told of a step at the sequents still to be derived.
use Rattle.std.proofs.Common.{◌≡◌, ℕ, ◌+◌, List, [], ◌∷◌, ◌++◌, length, Option, Some, None, Result, Ok, Err, refl, sym, ap, subst, ◌∙◌}
use Rattle.std.proofs.lemmas.List.{map-append}
use Rattle.std.specs.Option.{IsSome}
use Rattle.std.specs.Prelude.{Bool, true, false, if◌then◌else◌, get_or, slice_get}
use Rattle.std.specs.Option.{option_map}
use Rattle.std.proofs.lemmas.Option.{slice_get-map}
use Rattle.fpc_terms.specs.Term.{Term, eigen, Always}
use Rattle.polarised_formulas.specs.Scope.{is_scoped, may_be_cut}
use Rattle.polarised_formulas.specs.declared.logic.Logic.TheVariants.{Lkf}
use Rattle.polarised_formulas.specs.declared.logic.Side.TheVariants.{Left, Right}
use Rattle.polarised_formulas.specs.declared.node.Node.{Node}
use Rattle.polarised_formulas.specs.declared.node.Node.TheVariants.{Exists as NodeExists}
use Rattle.polarised_formulas.specs.Formula.{Formula, truth, falsity, atom, conj, disj, implies, for_all, exists, root_node, open_at, dual_of, IsProper}
use Rattle.polarised_formulas.specs.Parts.{left_of, right_of, body_of, IsQuantified}
use Rattle.polarised_formulas.specs.Closure.{opened_by, root_closure}
use Rattle.polarised_formulas.specs.Held.{given, AreUnbound}
use Rattle.polarised_formulas.specs.declared.held.Given.TheVariants as given_by
use Rattle.polarised_formulas.proofs.HeldFacts.{none_bound, stands_body, stands_root}
use Rattle.polarised_formulas.specs.declared.step.Step.{Step}
use Rattle.polarised_formulas.specs.declared.step.Step.TheVariants.{Cut, Exists, Decide, Init}
use Rattle.lkf_rules.specs.declared.rules.outcome.StepRefusal.{StepRefusal}
use Rattle.lkf_rules.specs.declared.rules.outcome.StepRefusal.TheVariants.{DoesNotFit, OutOfMemory}
use Rattle.lkf_rules.specs.declared.rules.table.WorkEffect.{WorkEffect}
use Rattle.lkf_rules.specs.declared.rules.table.WorkEffect.TheVariants as work
use Rattle.lkf_rules.specs.declared.rules.table.FocusEffect.{FocusEffect}
use Rattle.lkf_rules.specs.declared.rules.table.FocusEffect.TheVariants as focus
use Rattle.lkf_rules.specs.Sequent.{Sequent, up, down, Levelled}
use Rattle.lkf_rules.specs.Premises.{worked, focused, decided, closed_with, premises_of}
use Rattle.lkf_rules.specs.Table.{worked_by, focused_by}
use Rattle.lkf_rules.specs.Play.{PlaysOne}
use Rattle.explicit_kernel.specs.Progress.{MayRunOutAt}
use Rattle.polarised_formulas.proofs.Calculus.Play.{PlaysOne-empty, PlaysOne-premises, PlaysOne-stuck}
use Rattle.lkf_rules.specs.Lkf.{lkf}
use Rattle.explicit_kernel.specs.declared.shared.Cell.{Cell}
use Rattle.explicit_kernel.specs.declared.shared.Task.TheVariants.{Work}
use Rattle.explicit_kernel.specs.declared.shared.Shared.{Shared}
use Rattle.explicit_kernel.specs.Shared.{Held, meant, first_of, chain, sequent_of, IsServed, IsFirst, IsReady, Grows, HasTerms, pending_of, stored_of, worked_at}
use Rattle.explicit_kernel.specs.Naming.{Replaces, IsPlayed}
use Rattle.explicit_kernel.proofs.Sharing.{chain-end, meant-grown, all_meant-grown, terms-pending, terms-ready}

-- and where a step plays a list
runs_out-plays : (step : Step) (q r : List Levelled) → PlaysOne q step r → MayRunOutAt lkf step q
runs_out-plays (Cut b) q r one = λ e. PlaysOne-empty lkf (Cut b) r (subst (λ p. PlaysOne p (Cut b) r) e one)
runs_out-plays step q r one = (r, one)

module _ (step : Step) (n : ℕ) (c : Sequent) (q : List Levelled) where
  -- the premises that an answer names were put before the other sequents
  pub played-fits : (o : Option (List Levelled)) (r : List Levelled) → premises_of step n c ≡ o → Replaces o q r → PlaysOne ((n, c) ∷ q) step r
  played-fits (Some ps) r h is = subst (PlaysOne ((n, c) ∷ q) step) (sym is) (PlaysOne-premises lkf n c step ps q h)
  played-fits None r h is = absurd is

  -- there was no memory for a step that fits
  pub played-short : (o : Option (List Levelled)) → premises_of step n c ≡ o → IsSome o → MayRunOutAt lkf step ((n, c) ∷ q)
  played-short (Some ps) h some = runs_out-plays step ((n, c) ∷ q) (ps ++ q) (PlaysOne-premises lkf n c step ps q h)
  played-short None h some = let no : ⊥ = cc in absurd no

  -- the step does not fit
  pub played-not : premises_of step n c ≡ None → (r : List Levelled) → PlaysOne ((n, c) ∷ q) step r → ⊥
  played-not h r one = PlaysOne-stuck lkf n c step q r h one

-- there was no memory
pub played-out : (step : Step) (r : Result (Unit {0}) StepRefusal) (q s : List Levelled) → r ≡ Err OutOfMemory → MayRunOutAt lkf step q → IsPlayed step r q s
played-out step r q s e h = rw e h

-- the step fits or not, by a test
pub closed-fits : (b : Bool) (o : Option (List Levelled)) → o ≡ (if b then Some [] else None) → b ≡ true → o ≡ Some []
closed-fits true o h e = h
closed-fits false o h e = let no : ⊥ = cc in absurd no

pub closed-unfit : (b : Bool) (o : Option (List Levelled)) → o ≡ (if b then Some [] else None) → b ≡ false → o ≡ None
closed-unfit false o h e = h
closed-unfit true o h e = let no : ⊥ = cc in absurd no

-- the step was refused
pub played-unfit : (step : Step) (r : Result (Unit {0}) StepRefusal) (q s : List Levelled) → r ≡ Err DoesNotFit → ((p : List Levelled) → PlaysOne q step p → ⊥) → IsPlayed step r q s
played-unfit step r q s e h = rw e h

-- no step fits where no sequent is left
pub played-none : (step : Step) (q r : List Levelled) → q ≡ [] → PlaysOne q step r → ⊥
played-none step q r e one = PlaysOne-empty lkf step r (subst (λ p. PlaysOne p step r) e one)

-- where memory ran out, it may
pub played-runs_out : (step : Step) (r : Result (Unit {0}) StepRefusal) (q s : List Levelled) → IsPlayed step r q s → r ≡ Err OutOfMemory → MayRunOutAt lkf step q
played-runs_out step (Ok u) q s h e = cc
played-runs_out step (Err DoesNotFit) q s h e = cc
played-runs_out step (Err OutOfMemory) q s h e = h

-- each effect names premises
pub worked_some : (e : WorkEffect) (n : ℕ) (s : List Formula) (f : Formula) (g : List Formula) → IsSome (worked_by (Some e) n s f g)
worked_some work.Close n s f g = refl
worked_some work.Pass n s f g = refl
worked_some work.Both n s f g = refl
worked_some work.Split n s f g = refl
worked_some work.Raise n s f g = refl
worked_some work.Store n s f g = refl

pub focused_some : (e : FocusEffect) (n : ℕ) (s : List Formula) (f : Formula) → IsSome (focused_by (Some e) n s f)
focused_some focus.Close n s f = refl
focused_some focus.Split n s f = refl
focused_some (focus.Side Left) n s f = refl
focused_some (focus.Side Right) n s f = refl
focused_some focus.Release n s f = refl

-- the first cell of a list is one
pub one-first : (a c : Cell) (k : ℕ) (x y : Shared) → IsFirst a k x x → IsFirst c k x y → a.formula ≡ c.formula
one-first a c k x y h z = let is : a.formula ∷ chain x.cells a.next ≡ c.formula ∷ chain y.cells c.next = sym h.list ∙ z.list in cc

-- the sequent that works on the list at a place, of which the first cell was taken
module _ (x y : Shared) (k : ℕ) (c : Cell) (first : IsFirst c k x y) (stored : y.stored ≡ x.stored) (terms : y.terms ≡ x.terms) where
  pub work-is : up (stored_of x) (worked_at x k) ≡ up (stored_of y) (meant y.terms.items c.formula ∷ worked_at y c.next)
  work-is = rw (stored, terms, first.list) refl

  pub focus-is : down (stored_of x) (first_of (worked_at x k)) ≡ down (stored_of y) (meant y.terms.items c.formula)
  focus-is = rw (stored, terms, first.list) refl

-- the table is asked with the first formula's node, before its cell is taken
module _ (x : Shared) (k : ℕ) (a : Cell) (peek : IsFirst a k x x) (step : Step) (n : ℕ) where
  pub work-told : (r : Option WorkEffect) → worked step n (stored_of x) (meant x.terms.items a.formula) (worked_at x a.next) ≡ worked_by r n (stored_of x) (meant x.terms.items a.formula) (worked_at x a.next)
      → premises_of step n (up (stored_of x) (worked_at x k)) ≡ worked_by r n (stored_of x) (meant x.terms.items a.formula) (worked_at x a.next)
  work-told r told = rw peek.list told

  pub focus-told : (r : Option (List Levelled)) → focused step n (stored_of x) (meant x.terms.items a.formula) ≡ r → premises_of step n (down (stored_of x) (first_of (worked_at x k))) ≡ r
  focus-told r told = rw peek.list told

module _ (x y : Shared) (k : ℕ) (c : Cell) (first : IsFirst c k x y) (stored : y.stored ≡ x.stored) (terms : y.terms ≡ x.terms) (pending : pending_of y ≡ pending_of x) (step : Step) (n : ℕ) (r : List Levelled) where
  pub work-played : (e : WorkEffect) → worked step n (stored_of y) (meant y.terms.items c.formula) (worked_at y c.next) ≡ worked_by (Some e) n (stored_of y) (meant y.terms.items c.formula) (worked_at y c.next)
      → Replaces (worked_by (Some e) n (stored_of y) (meant y.terms.items c.formula) (worked_at y c.next)) (pending_of y) r
      → PlaysOne ((n, up (stored_of x) (worked_at x k)) ∷ pending_of x) step r
  work-played e told is = rw (work-is x y k c first stored terms, ← pending)
      (played-fits step n (up (stored_of y) (meant y.terms.items c.formula ∷ worked_at y c.next)) (pending_of y) (worked_by (Some e) n (stored_of y) (meant y.terms.items c.formula) (worked_at y c.next)) r told is)

  pub focus-played : (o : Option (List Levelled)) → focused step n (stored_of y) (meant y.terms.items c.formula) ≡ o → Replaces o (pending_of y) r
      → PlaysOne ((n, down (stored_of x) (first_of (worked_at x k))) ∷ pending_of x) step r
  focus-played o told is = rw (focus-is x y k c first stored terms, ← pending) (played-fits step n (down (stored_of y) (meant y.terms.items c.formula)) (pending_of y) o r told is)

-- and what it says holds of the formula that is taken
pub taken-node : (x y : Shared) (k : ℕ) (a c : Cell) (node : Node) → IsFirst a k x x → IsFirst c k x y → y.terms ≡ x.terms → node ≡ root_node (meant x.terms.items a.formula) → node ≡ root_node (meant y.terms.items c.formula)
taken-node x y k a c node peek first terms shape = rw (terms, ← (one-first a c k x y peek first)) shape

-- the premises of the effects that change more than the sequents
module _ (x : Shared) (n next : ℕ) (f : Held) where
  pub both-premise : (e : WorkEffect) (y : Shared) (rest : ℕ) (a b : Held) (r : List Levelled) → e ≡ work.Both → Grows x y
      → meant x.terms.items a ≡ left_of (meant x.terms.items f) → meant x.terms.items b ≡ right_of (meant x.terms.items f) → chain y.cells rest ≡ b ∷ chain x.cells next
      → r ≡ (n, up (stored_of y) (meant y.terms.items a ∷ worked_at y rest)) ∷ pending_of y
      → Replaces (worked_by (Some e) n (stored_of x) (meant x.terms.items f) (worked_at x next)) (pending_of x) r
  both-premise e y rest a b r is grows first second list told = rw (told, is, grows.pending, grows.stored, grows.terms, list, first, second) refl

  pub raised-premise : (e : WorkEffect) (body : Held) (r : List Levelled) → e ≡ work.Raise → AreUnbound x.terms.items → IsQuantified (meant x.terms.items f)
      → body ≡ opened_by (given_by.Eigen n) f (body_of f.part) → r ≡ (n + 1, up (stored_of x) (meant x.terms.items body ∷ worked_at x next)) ∷ pending_of x
      → Replaces (worked_by (Some e) n (stored_of x) (meant x.terms.items f) (worked_at x next)) (pending_of x) r
  raised-premise e body r is unbound quantified opens told =
      rw (told, is, opens, stands_body (given x.terms.items) (given_by.Eigen n) f (none_bound x.terms.items unbound) quantified) refl

  pub stored-premise : (e : WorkEffect) (y : Shared) (r : List Levelled) → e ≡ work.Store → y.stored.items ≡ x.stored.items ++ f ∷ [] → y.terms.items ≡ x.terms.items → y.cells ≡ x.cells → pending_of y ≡ pending_of x
      → r ≡ (n, sequent_of y.terms.items y.stored.items y.cells (Work next)) ∷ pending_of y
      → Replaces (worked_by (Some e) n (stored_of x) (meant x.terms.items f) (worked_at x next)) (pending_of x) r
  stored-premise e y r is a b c d told = rw (told, is, d, b, c, a, map-append (meant x.terms.items) x.stored.items (f ∷ [])) refl

module _ (x : Shared) (n : ℕ) (e : FocusEffect) (f : Held) where
  pub split-premises : (y : Shared) (a b : Held) (r : List Levelled) → e ≡ focus.Split → y.stored ≡ x.stored → y.terms.items ≡ x.terms.items
      → meant x.terms.items a ≡ left_of (meant x.terms.items f) → meant x.terms.items b ≡ right_of (meant x.terms.items f)
      → pending_of y ≡ (n, down (stored_of x) (meant x.terms.items b)) ∷ pending_of x → r ≡ (n, down (stored_of y) (meant y.terms.items a)) ∷ pending_of y
      → Replaces (focused_by (Some e) n (stored_of x) (meant x.terms.items f)) (pending_of x) r
  split-premises y a b r is c d first second other told = rw (told, is, other, c, d, first, second) refl

  pub released-premise : (r : List Levelled) → e ≡ focus.Release → r ≡ (n, up (stored_of x) (meant x.terms.items f ∷ worked_at x 0)) ∷ pending_of x
      → Replaces (focused_by (Some e) n (stored_of x) (meant x.terms.items f)) (pending_of x) r
  released-premise r is told = rw (told, is, chain-end x.cells) refl

-- nothing closes with no formula
closed-none : (f : Formula) → closed_with f None ≡ None
closed-none (atom true name ts) = refl
closed-none _ = refl

get-last : (ts : List Term) (t : Term) → get_or (ts ++ t ∷ []) (length ts) (eigen 0) ≡ t
get-last [] t = refl
get-last (u ∷ ts) t = get-last ts t

-- the last term of a table
pub last-term : (ts us : List Term) (t : Term) (k : ℕ) → us ≡ ts ++ t ∷ [] → k ≡ length ts → get_or us k (eigen 0) ≡ t
last-term ts us t k e z = rw (e, z) (get-last ts t)

-- a stored formula at a place
module _ (x : Shared) (n k : ℕ) (l : List Held) (stored : l ≡ x.stored.items) where
  stored-get : slice_get (stored_of x) k ≡ option_map (meant x.terms.items) (slice_get l k)
  stored-get = rw stored (slice_get-map (meant x.terms.items) x.stored.items k)

  pub decide-told : (h : Held) (o : Option (List Levelled)) → slice_get l k ≡ Some h → decided n (stored_of x) (Some (meant x.terms.items h)) ≡ o → premises_of (Decide k) n (up (stored_of x) []) ≡ o
  decide-told h o is told = rw (stored-get, is) told

  pub decide-none : slice_get l k ≡ None → premises_of (Decide k) n (up (stored_of x) []) ≡ None
  decide-none is = rw (stored-get, is) refl

  pub init-told : (i : ℕ) (a : Cell) (us : List Term) (h : Held) (o : Option (List Levelled)) → IsFirst a i x x → us ≡ x.terms.items → slice_get l k ≡ Some h → closed_with (meant us a.formula) (Some (meant us h)) ≡ o
      → premises_of (Init k) n (down (stored_of x) (first_of (worked_at x i))) ≡ o
  init-told i a us h o peek terms is told = rw (peek.list, stored-get, is, ← terms) told

  pub init-none : (f : Formula) → slice_get l k ≡ None → premises_of (Init k) n (down (stored_of x) f) ≡ None
  init-none f is = rw (stored-get, is) (closed-none f)

-- the premises of `cut`
pub cut-played : (x : Shared) (n : ℕ) (b : Formula) (h d : Held) (r : List Levelled) → may_be_cut Lkf n 0 b ≡ true → IsProper Always b → h ≡ root_closure b [] → meant x.terms.items d ≡ dual_of (meant x.terms.items h)
    → r ≡ (n, up (stored_of x) (meant x.terms.items h ∷ worked_at x 0)) ∷ (n, up (stored_of x) (meant x.terms.items d ∷ worked_at x 0)) ∷ pending_of x
    → PlaysOne ((n, up (stored_of x) []) ∷ pending_of x) (Cut b) r
cut-played x n b h d r passes proper is dual told =
    let stands : meant x.terms.items h ≡ b = rw is (stands_root (given x.terms.items) b proper) in
    played-fits (Cut b) n (up (stored_of x) []) (pending_of x) (Some ((n, up (stored_of x) (b ∷ [])) ∷ (n, up (stored_of x) (dual_of b ∷ [])) ∷ [])) r (rw passes refl)
    (rw (told, dual, stands, chain-end x.cells) refl)

-- the premise of `some`, whose term was put behind the others
pub some-premise : (y z : Shared) (floor n k : ℕ) (t : Term) (f body : Held) (r : List Levelled) → HasTerms y z → z.terms.items ≡ y.terms.items ++ t ∷ [] → k ≡ length y.terms.items → IsReady floor y → IsServed (length y.terms.items) f
    → IsQuantified (meant y.terms.items f) → body ≡ opened_by (given_by.Term k) f (body_of f.part) → r ≡ (n, down (stored_of z) (meant z.terms.items body)) ∷ pending_of z
    → Replaces (Some ((n, down (stored_of y) (open_at 0 t (body_of (meant y.terms.items f)))) ∷ [])) (pending_of y) r
some-premise y z floor n k t f body r grows last place ready served quantified opens told =
    let same : meant z.terms.items f ≡ meant y.terms.items f = rw grows.terms (meant-grown y.terms.items grows.more f served) in
    let stored : stored_of z ≡ stored_of y = rw (grows.stored, grows.terms) (all_meant-grown y.terms.items grows.more y.stored.items ready.stored_served) in
    let pending : pending_of z ≡ pending_of y = terms-pending y z grows ready.served in
    let term : get_or z.terms.items k (eigen 0) ≡ t = last-term y.terms.items z.terms.items t k last place in
    let unbound : AreUnbound z.terms.items = (terms-ready floor y z grows ready).unbound in
    let stands : meant z.terms.items body ≡ open_at 0 (get_or z.terms.items k (eigen 0)) (body_of (meant z.terms.items f)) =
    ap (meant z.terms.items) opens ∙ sym (stands_body (given z.terms.items) (given_by.Term k) f (none_bound z.terms.items unbound) (rw same quantified)) in
    told ∙ rw (stands, term, same, stored, pending) refl

-- the root sequent alone
pub root-pending : (x y : Shared) (h : Held) (f : Formula) → x.stored.items ≡ [] → x.terms.items ≡ [] → x.cells ≡ [] → x.sequents ≡ [] → meant [] h ≡ f
    → pending_of y ≡ (0, up (stored_of x) (meant x.terms.items h ∷ worked_at x 0)) ∷ pending_of x → pending_of y ≡ (0, up [] (f ∷ [])) ∷ []
root-pending x y h f a b c d stands told = rw (told, a, b, c, d, stands) refl

pub some-fits : (t : Term) (n : ℕ) (s : List Formula) (f : Formula) → root_node f ≡ NodeExists → is_scoped n 0 t ≡ true
    → focused (Exists t) n s f ≡ Some ((n, down s (open_at 0 t (body_of f))) ∷ [])
some-fits t n s (exists a) h e = rw e refl
some-fits t n s (truth p) h e = let no : ⊥ = cc in absurd no
some-fits t n s (falsity p) h e = let no : ⊥ = cc in absurd no
some-fits t n s (atom b g ts) h e = let no : ⊥ = cc in absurd no
some-fits t n s (conj p a b) h e = let no : ⊥ = cc in absurd no
some-fits t n s (disj p a b) h e = let no : ⊥ = cc in absurd no
some-fits t n s (implies a b) h e = let no : ⊥ = cc in absurd no
some-fits t n s (for_all a) h e = let no : ⊥ = cc in absurd no

-- a formula that it fits has a body
pub is_quantified : (f : Formula) → root_node f ≡ NodeExists → IsQuantified f
is_quantified (exists a) h = tt
is_quantified (for_all a) h = tt
is_quantified (truth p) h = let no : ⊥ = cc in absurd no
is_quantified (falsity p) h = let no : ⊥ = cc in absurd no
is_quantified (atom b g ts) h = let no : ⊥ = cc in absurd no
is_quantified (conj p a b) h = let no : ⊥ = cc in absurd no
is_quantified (disj p a b) h = let no : ⊥ = cc in absurd no
is_quantified (implies a b) h = let no : ⊥ = cc in absurd no
