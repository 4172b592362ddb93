-- Exchange: derivations under other stored lists in which the same formulas stand.
use Rattle.std.proofs.Common.{◌≡◌, ℕ, zero, suc, ◌⊎◌, inl, inr, ⊎_elim, List, [], ◌∷◌, ◌++◌, Some, slice_get, IsPermutation, Contains, refl, ap, ◌∙◌, arith}
use Rattle.std.specs.List.{AllByRecursion}
use Rattle.std.proofs.lemmas.Option.{slice_get_within, get_or_from_slice_get, slice_get-get_or}
use Rattle.std.proofs.lemmas.List.Sorted.{Contains-permutation, IsPermutation-sym}
use Rattle.polarised_formulas.specs.Formula.{Formula}
use Rattle.lkf_rules.specs.Sequent.{Sequent, up, down, StandsIn}
use Rattle.lkf_rules.specs.Rule.{Rule, true_negative, false_negative, or_negative, and_negative, every, store, decide, cut, true_positive, and_positive, or_left, or_right, some, release, initial}
use Rattle.lkf_rules.specs.Derivation.{Tree, Trees, node, no_trees, tree, root_sequent, roots, IsDerivation, AreDerivations, node_count, all_node_count}
use Rattle.lkf_rules.specs.Laws.{stored_of, with_stored}
use Rattle.polarised_formulas.proofs.Elements.{AllByRecursion-at}

-- the same formulas stand in both lists
pub record AreAlike (s r : List Formula) : Type 0 where
  pub forth : (f : Formula) → StandsIn s f → StandsIn r f
  pub back : (f : Formula) → StandsIn r f → StandsIn s f

-- what stands in a list is an element of it
Contains-stands : (s : List Formula) (f : Formula) → StandsIn s f → Contains s f
Contains-stands s f h = (h.0, slice_get_within s h.0 f h.1, get_or_from_slice_get s h.0 f f h.1)

-- an element of a list stands in it
StandsIn-contains : (s : List Formula) (f : Formula) → Contains s f → StandsIn s f
StandsIn-contains s f h = (h.0, slice_get-get_or s h.0 f h.1 ∙ ap Some h.2)

-- what stands in a list stands in its reordering
StandsIn-permutation : (s r : List Formula) → IsPermutation s r → (f : Formula) → StandsIn s f → StandsIn r f
StandsIn-permutation s r p f h = StandsIn-contains r f (Contains-permutation s r f p (Contains-stands s f h))

-- the same formulas stand in a list and in a reordering of it
pub AreAlike-permutation : (s r : List Formula) → IsPermutation s r → AreAlike s r
AreAlike-permutation s r p = record { forth = StandsIn-permutation s r p; back = StandsIn-permutation r s (IsPermutation-sym s r p) }

-- what stands in a list stands in it with one more at the end
StandsIn-front : (s : List Formula) (g : Formula) (k : ℕ) (f : Formula) → slice_get s k ≡ Some f → slice_get (s ++ g ∷ []) k ≡ Some f
StandsIn-front [] g k f e = cc
StandsIn-front (x ∷ s) g zero f e = e
StandsIn-front (x ∷ s) g (suc k) f e = StandsIn-front s g k f e

-- the one at the end stands there
StandsIn-end : (s : List Formula) (g : Formula) → StandsIn (s ++ g ∷ []) g
StandsIn-end [] g = (0, refl)
StandsIn-end (x ∷ s) g = let later = StandsIn-end s g in (suc later.0, later.1)

-- and nothing else
StandsIn-parts : (s : List Formula) (g : Formula) (k : ℕ) (f : Formula) → slice_get (s ++ g ∷ []) k ≡ Some f → StandsIn s f ⊎ (g ≡ f)
StandsIn-parts [] g zero f e = inr cc
StandsIn-parts [] g (suc k) f e = cc
StandsIn-parts (x ∷ s) g zero f e = inl (0, e)
StandsIn-parts (x ∷ s) g (suc k) f e = ⊎_elim (λ p. inl (suc p.0, p.1)) inr (StandsIn-parts s g k f e)

-- what stands in one list stands in another, also with one more at the end of both
StandsIn-more : (s r : List Formula) (g : Formula) → ((f : Formula) → StandsIn s f → StandsIn r f) → (f : Formula) → StandsIn (s ++ g ∷ []) f → StandsIn (r ++ g ∷ []) f
StandsIn-more s r g w f h =
    ⊎_elim (λ p. let q = w f p in (q.0, StandsIn-front r g q.0 f q.1)) (λ (same : g ≡ f). rw (← same) (StandsIn-end r g)) (StandsIn-parts s g h.0 f h.1)

-- the same formulas stand in both lists with one more at the end
AreAlike-append : (s r : List Formula) (g : Formula) → AreAlike s r → AreAlike (s ++ g ∷ []) (r ++ g ∷ [])
AreAlike-append s r g a = record { forth = StandsIn-more s r g a.forth; back = StandsIn-more r s g a.back }

-- what holds of what stands in a list
AllByRecursion-stands : (P : Formula → Type 0) (r : List Formula) → ((f : Formula) → StandsIn r f → P f) → AllByRecursion P r
AllByRecursion-stands P [] h = tt
AllByRecursion-stands P (x ∷ r) h = (h x (0, refl), AllByRecursion-stands P r (λ f p. h f (suc p.0, p.1)))

-- what holds of each formula of a list holds of those of a list that is alike
AllByRecursion-alike : (P : Formula → Type 0) (s r : List Formula) → AreAlike s r → AllByRecursion P s → AllByRecursion P r
AllByRecursion-alike P s r a h = AllByRecursion-stands P r (λ f p. let q = a.back f p in AllByRecursion-at P s q.0 f h q.1)

-- the sequents differ in their stored lists alone, in which the same formulas stand
abbrev pub IsExchanged : Sequent → Sequent → Type 0
IsExchanged c d = (r : List Formula) × AreAlike (stored_of c) r × (d ≡ with_stored r c)

-- the same of each sequent of two lists
abbrev pub AreExchanged : List Sequent → List Sequent → Type 0
AreExchanged [] [] = Unit {0}
AreExchanged (c ∷ cs) (d ∷ ds) = IsExchanged c d × AreExchanged cs ds
AreExchanged _ _ = ⊥

-- the instance of a rule under another stored list
record HasExchanged (c : Sequent) (cs : List Sequent) (r : List Formula) : Type 0 where
  premises : List Sequent
  rule : Rule (with_stored r c) premises
  alike : AreExchanged cs premises

-- each rule has it
HasExchanged-rule : (c : Sequent) (cs : List Sequent) (r : List Formula) → Rule c cs → AreAlike (stored_of c) r → HasExchanged c cs r
HasExchanged-rule _ _ r (true_negative s g) a = record { premises = []; rule = true_negative r g; alike = tt }
HasExchanged-rule _ _ r (false_negative s g) a = record { premises = up r g ∷ []; rule = false_negative r g; alike = ((r, a, refl), tt) }
HasExchanged-rule _ _ r (or_negative s g x y) a = record { premises = up r (x ∷ y ∷ g) ∷ []; rule = or_negative r g x y; alike = ((r, a, refl), tt) }
HasExchanged-rule _ _ r (and_negative s g x y) a =
    record { premises = up r (x ∷ g) ∷ up r (y ∷ g) ∷ []; rule = and_negative r g x y; alike = ((r, a, refl), ((r, a, refl), tt)) }
HasExchanged-rule _ _ r (every s g x j fresh) a =
    record { premises = _; rule = every r g x j (AllByRecursion-alike _ s r a fresh.0, fresh.1); alike = ((r, a, refl), tt) }
HasExchanged-rule _ _ r (store s g f e) a =
    record { premises = up (r ++ f ∷ []) g ∷ []; rule = store r g f e; alike = ((r ++ f ∷ [], AreAlike-append s r f a, refl), tt) }
HasExchanged-rule _ _ r (decide s f at p) a = record { premises = down r f ∷ []; rule = decide r f (a.forth f at) p; alike = ((r, a, refl), tt) }
HasExchanged-rule _ _ r (cut s b proper lkf) a = record { premises = _; rule = cut r b proper lkf; alike = ((r, a, refl), ((r, a, refl), tt)) }
HasExchanged-rule _ _ r (true_positive s) a = record { premises = []; rule = true_positive r; alike = tt }
HasExchanged-rule _ _ r (and_positive s x y) a =
    record { premises = down r x ∷ down r y ∷ []; rule = and_positive r x y; alike = ((r, a, refl), ((r, a, refl), tt)) }
HasExchanged-rule _ _ r (or_left s x y) a = record { premises = down r x ∷ []; rule = or_left r x y; alike = ((r, a, refl), tt) }
HasExchanged-rule _ _ r (or_right s x y) a = record { premises = down r y ∷ []; rule = or_right r x y; alike = ((r, a, refl), tt) }
HasExchanged-rule _ _ r (some s x t proper) a = record { premises = _; rule = some r x t proper; alike = ((r, a, refl), tt) }
HasExchanged-rule _ _ r (release s f p) a = record { premises = up r (f ∷ []) ∷ []; rule = release r f p; alike = ((r, a, refl), tt) }
HasExchanged-rule _ _ r (initial s name ts at) a = record { premises = []; rule = initial r name ts (a.forth _ at); alike = tt }

-- a derivation of a sequent with as many nodes as a tree has
pub record IsRebuilt (t : Tree) (c : Sequent) : Type 0 where
  pub of : Tree
  pub root : root_sequent of ≡ c
  pub is_derivation : IsDerivation of
  pub count : node_count of ≡ node_count t

-- the same of sequents and trees
pub record AreRebuilt (ts : Trees) (cs : List Sequent) : Type 0 where
  pub of : Trees
  pub root : roots of ≡ cs
  pub are_derivations : AreDerivations of
  pub count : all_node_count of ≡ all_node_count ts

-- a derivation is rebuilt under a stored list that is alike
mutual
  pub IsRebuilt-alike : (t : Tree) (r : List Formula) → IsDerivation t → AreAlike (stored_of (root_sequent t)) r → IsRebuilt t (with_stored r (root_sequent t))
  IsRebuilt-alike (node c ts) r h a =
      let e = HasExchanged-rule c (roots ts) r h.0 a in
      let below = AreRebuilt-alike ts e.premises h.1 e.alike in
      record { of = node (with_stored r c) below.of; root = refl; is_derivation = (rw below.root e.rule, below.are_derivations); count = ap suc below.count }

  pub AreRebuilt-alike : (ts : Trees) (cs : List Sequent) → AreDerivations ts → AreExchanged (roots ts) cs → AreRebuilt ts cs
  AreRebuilt-alike no_trees [] h a = record { of = no_trees; root = refl; are_derivations = tt; count = refl }
  AreRebuilt-alike (tree t ts) (c ∷ cs) h a =
      let first = IsRebuilt-alike t a.0.0 h.0 a.0.1 in
      let later = AreRebuilt-alike ts cs h.1 a.1 in
      record {
        of = tree first.of later.of;
        root = cc (first.root, later.root, a.0.2);
        are_derivations = (first.is_derivation, later.are_derivations);
        count = omega (arith, first.count, later.count);
      }
  AreRebuilt-alike _ _ h a = absurd a
