-- The steps of a guided derivation spell its erasure.
use Rattle.std.proofs.Common.{◌≡◌, ◌≢◌, ℕ, suc, ◌+◌, ◌<◌, ◌++◌, List, [], ◌∷◌, map, Some, slice_get, Contains, refl, ap, sym, subst, ◌∙◌, append-nil, arith}
use Rattle.std.specs.List.{All, AllByRecursion}
use Rattle.std.specs.Option.{option_map}
use Rattle.std.specs.Prelude.{false, true}
use Rattle.std.proofs.lemmas.List.{append_assoc, map-append}
use Rattle.std.proofs.lemmas.List.Elements.{All-contains, All-map, recursion_from_All}
use Rattle.std.proofs.lemmas.Option.{slice_get-map}
use Rattle.fpc_terms.specs.Term.{Term, Args, eigen, Always, Never, InScope, IsProperTerm}
use Rattle.fpc_terms.specs.Term.{put}
use Rattle.fpc_terms.proofs.PutFacts.{each_more}
use Rattle.polarised_formulas.specs.Formula.{Formula, truth, falsity, atom, conj, disj, for_all, exists, open_at, dual_of, Tied, IsProper, IsLkf}
use Rattle.polarised_formulas.specs.declared.logic.Logic.TheVariants.{Lkf}
use Rattle.polarised_formulas.specs.declared.logic.Polarity.TheVariants.{Positive, Negative}
use Rattle.polarised_formulas.specs.declared.logic.Side.TheVariants.{Left, Right}
use Rattle.polarised_formulas.specs.declared.step.Step.{Step}
use Rattle.polarised_formulas.specs.declared.step.Step.TheVariants as step
use Rattle.polarised_formulas.proofs.Leaves.{may_be_cut-each, is_scoped-in_scope}
use Rattle.clause_language.specs.Program.{IsDeclarationOf, IsOpenProgram}
use Rattle.clause_language.specs.declared.declaration.DeclaredFormula.{DeclaredFormula}
use Rattle.clause_language.specs.declared.program.Program.{Program}
use Rattle.lkf_rules.specs.Sequent.{Levelled, up, down, StandsIn}
use Rattle.lkf_rules.specs.Sequent as plain
use Rattle.lkf_rules.specs.Rule.{Rule}
use Rattle.lkf_rules.specs.Rule as rules
use Rattle.lkf_rules.specs.Premises.{premises_of}
use Rattle.lkf_rules.specs.Derivation.{Tree, node, no_trees, tree, root_sequent, IsDerivation}
use Rattle.lkf_rules.specs.Certificate.{Certificate, by, no_certificates, certificate, steps_before, Spells}
use Rattle.lkf_rules.proofs.InitialFacts.{closes-dual}
use Rattle.polarised_formulas.specs.OpenFormula.{put_formula}
use Rattle.search_model.specs.declared.stored.Stored.{Stored}
use Rattle.polarised_formulas.proofs.OpenFormulaFacts.{inside_more}
use Rattle.lkf_kernel.specs.Lkf.{root_of}
use Rattle.lkf_kernel.specs.Guided.{Guided, IsAt, IsFresh, IsWithout, part, true_negative, false_negative, or_negative, and_negative, every, store, decide, cut_by, true_positive, and_positive, or_positive, some, release, initial}
use Rattle.lkf_kernel.specs.Erasure.{formulas_in, plain_sequent, leaf, over_one, over_two, erased, GuidedIsSpelling}
use Rattle.lkf_kernel.specs.declared.sequent.Sequent.{Sequent}
use Rattle.lkf_kernel.specs.declared.sequent.Sequent.TheVariants.{Up, Down}
use Rattle.lkf_kernel.proofs.CutFacts.{lkf_put, declared_scoped, all_lkf}

-- a certificate whose steps in preorder these are, and which spells the tree: a derivation
pub record IsSpelled (n : ℕ) (t : Tree) (steps : List Step) : Type 0 where
  pub certificate_of : Certificate
  pub fine : IsDerivation t
  pub spells : Spells certificate_of t n
  pub preorder : (rest : List Step) → steps_before certificate_of rest ≡ steps ++ rest

no_premise : (e : Step) (n : ℕ) (c : plain.Sequent) → Rule c [] → premises_of e n c ≡ Some []
    → IsSpelled n (node c no_trees) (e ∷ [])
no_premise e n c r named = record {
  certificate_of = by e no_certificates;
  fine = (r, tt);
  spells = ([], named, tt);
  preorder = λ rest. refl;
}

one_premise : (e : Step) (n m : ℕ) (c d : plain.Sequent) (t : Tree) (us : List Step) → Rule c (d ∷ [])
    → premises_of e n c ≡ Some ((m, d) ∷ []) → root_sequent t ≡ d → IsSpelled m t us
    → IsSpelled n (node c (tree t no_trees)) (e ∷ us)
one_premise e n m c d t us r named root s = record {
  certificate_of = by e (certificate s.certificate_of no_certificates);
  fine = (subst (λ q. Rule c (q ∷ [])) (sym root) r, (s.fine, tt));
  spells = ((m, d) ∷ [], named, (root, (s.spells, tt)));
  preorder = λ rest. ap (λ q. e ∷ q) (s.preorder rest);
}

two_premises : (e : Step) (n : ℕ) (c d d' : plain.Sequent) (t t' : Tree) (us vs : List Step)
    → Rule c (d ∷ d' ∷ []) → premises_of e n c ≡ Some ((n, d) ∷ (n, d') ∷ []) → root_sequent t ≡ d
    → root_sequent t' ≡ d' → IsSpelled n t us → IsSpelled n t' vs
    → IsSpelled n (node c (tree t (tree t' no_trees))) (e ∷ us ++ vs)
two_premises e n c d d' t t' us vs r named root root' s s' = record {
  certificate_of = by e (certificate s.certificate_of (certificate s'.certificate_of no_certificates));
  fine = (
    subst (λ q. Rule c (q ∷ root_sequent t' ∷ [])) (sym root) (subst (λ q. Rule c (d ∷ q ∷ [])) (sym root') r),
    (s.fine, (s'.fine, tt)),
  );
  spells = ((n, d) ∷ (n, d') ∷ [], named, (root, (s.spells, (root', (s'.spells, tt)))));
  preorder = λ rest.
      ap (λ q. e ∷ q) (ap (steps_before s.certificate_of) (s'.preorder rest) ∙ s.preorder (vs ++ rest) ∙ sym (append_assoc us vs rest));
}

-- the formula at a place
formula_at : (st : List Stored) (k : ℕ) (l : Term) (f : Formula) → IsAt st k l f → slice_get (formulas_in st) k ≡ Some f
formula_at st k l f e = slice_get-map (λ (i : Stored). i.formula) st k ∙ ap (option_map (λ (i : Stored). i.formula)) e

fresh_stored : (j : ℕ) (st : List Stored) → All (λ (i : Stored). IsWithout j i.formula) st → AllByRecursion (IsWithout j) (formulas_in st)
fresh_stored j st h = recursion_from_All (IsWithout j) (formulas_in st) (All-map (IsWithout j) (λ (i : Stored). i.formula) st h)

in_scope_proper : (n : ℕ) (t : Term) → InScope n t → IsProperTerm Always t
in_scope_proper n t h = each_more (λ m. m < n) Never Never Always Never Never (λ m q. tt) (λ m q. q) (λ m q. q) t h

module _ (p : Program) where
  -- the root of the erasure
  pub erased_root : (x : Term) (n : ℕ) (q : Sequent) (us : List Step) (d : Guided p x n q us) → root_sequent (erased d) ≡ plain_sequent q
  erased_root x n q us true_negative = refl
  erased_root x n q us (false_negative says d) = refl
  erased_root x n q us (or_negative says d) = refl
  erased_root x n q us (and_negative says d e) = refl
  erased_root x n q us (every says fresh d) = refl
  erased_root x n q us (store says storable d) = refl
  erased_root x n q us (decide says at positive d) = refl
  erased_root x n q us (cut_by declared ts says one scoped d e) = refl
  erased_root x n q us (true_positive says) = refl
  erased_root x n q us (and_positive says d e) = refl
  erased_root x n q us (or_positive side says d) = refl
  erased_root x n q us (some says scoped d) = refl
  erased_root x n q us (release says negative d) = refl
  erased_root x n q us (initial says at) = refl

module _ (p : Program) (ok : IsOpenProgram p) (logic : p.logic ≡ Lkf) where
  cut_lkf : (d : DeclaredFormula) (ts : ℕ → Term) → Contains p.declared d → IsLkf (put_formula ts d.formula)
  cut_lkf d ts one = lkf_put ts d.formula (All-contains (λ (o : DeclaredFormula). IsLkf o.formula) p.declared d (all_lkf p ok logic) one)

  cut_scoped : (n : ℕ) (d : DeclaredFormula) (ts : ℕ → Term) → Contains p.declared d → ((i : ℕ) → i < d.parameters → InScope n (ts i)) → IsProper (λ m. m < n) (put_formula ts d.formula)
  cut_scoped n d ts one scoped = declared_scoped p.logic d n ts scoped (All-contains (IsDeclarationOf p.logic) p.declared d ok.formulas one)

  pub spelled : (x : Term) (n : ℕ) (q : Sequent) (us : List Step) (d : Guided p x n q us) → IsSpelled n (erased d) us
  spelled _ _ _ _ (true_negative {x} {n} {st} {g}) =
      no_premise step.TrueN n (plain_sequent (Up st (truth Negative ∷ g))) (rules.true_negative (formulas_in st) g) refl
  spelled _ _ _ _ (false_negative {x} {x1} {n} {st} {g} {us} says d) =
      one_premise step.FalseN n n (plain_sequent (Up st (falsity Negative ∷ g))) (plain_sequent (Up st g)) (erased d) us
      (rules.false_negative (formulas_in st) g) refl (erased_root p x1 n (Up st g) us d) (spelled x1 n (Up st g) us d)
  spelled _ _ _ _ (or_negative {x} {x1} {n} {st} {g} {a} {b} {us} says d) =
      one_premise step.OrN n n (plain_sequent (Up st (disj Negative a b ∷ g))) (plain_sequent (Up st (a ∷ b ∷ g))) (erased d) us
      (rules.or_negative (formulas_in st) g a b) refl (erased_root p x1 n (Up st (a ∷ b ∷ g)) us d) (spelled x1 n (Up st (a ∷ b ∷ g)) us d)
  spelled _ _ _ _ (and_negative {x} {x1} {x2} {n} {st} {g} {a} {b} {us} {vs} says d e) =
      two_premises step.AndN n (plain_sequent (Up st (conj Negative a b ∷ g))) (plain_sequent (Up st (a ∷ g))) (plain_sequent (Up st (b ∷ g)))
      (erased d) (erased e) us vs (rules.and_negative (formulas_in st) g a b) refl
      (erased_root p x1 n (Up st (a ∷ g)) us d) (erased_root p x2 n (Up st (b ∷ g)) vs e)
      (spelled x1 n (Up st (a ∷ g)) us d) (spelled x2 n (Up st (b ∷ g)) vs e)
  spelled _ _ _ _ (every {x} {x1} {n} {st} {g} {a} {us} says fresh d) =
      let above : n + 1 ≡ suc n = omega arith in
      let named : premises_of step.Every n (plain_sequent (Up st (for_all a ∷ g))) ≡ Some ((suc n, plain_sequent (Up st (open_at 0 (eigen n) a ∷ g))) ∷ []) =
      ap (λ m. Some ((m, plain_sequent (Up st (open_at 0 (eigen n) a ∷ g))) ∷ [])) above in
      one_premise step.Every n (suc n) (plain_sequent (Up st (for_all a ∷ g))) (plain_sequent (Up st (open_at 0 (eigen n) a ∷ g))) (erased d) us
      (rules.every (formulas_in st) g a n (fresh_stored n st fresh.0, recursion_from_All (IsWithout n) (for_all a ∷ g) fresh.1)) named
      (erased_root p x1 (suc n) (Up st (open_at 0 (eigen n) a ∷ g)) us d) (spelled x1 (suc n) (Up st (open_at 0 (eigen n) a ∷ g)) us d)
  spelled _ _ _ _ (store {x} {x1} {l} {n} {st} {g} {f} {us} says storable d) =
      let more : List Stored = st ++ record { index = l; formula = f } ∷ [] in
      let named : premises_of step.Store n (plain_sequent (Up st (f ∷ g))) ≡ Some ((n, up (formulas_in st ++ f ∷ []) g) ∷ []) = rw storable refl in
      one_premise step.Store n n (plain_sequent (Up st (f ∷ g))) (up (formulas_in st ++ f ∷ []) g) (erased d) us
      (rules.store (formulas_in st) g f storable) named
      (erased_root p x1 n (Up more g) us d ∙ ap (λ s. up s g) (map-append (λ (i : Stored). i.formula) st (record { index = l; formula = f } ∷ [])))
      (spelled x1 n (Up more g) us d)
  spelled _ _ _ _ (decide {x} {x1} {l} {n} {k} {st} {f} {us} says at positive d) =
      let here = formula_at st k l f at in
      let named : premises_of (step.Decide k) n (plain_sequent (Up st [])) ≡ Some ((n, plain_sequent (Down st f)) ∷ []) = rw (here, positive) refl in
      one_premise (step.Decide k) n n (plain_sequent (Up st [])) (plain_sequent (Down st f)) (erased d) us
      (rules.decide (formulas_in st) f (k, here) positive) named (erased_root p x1 n (Down st f) us d) (spelled x1 n (Down st f) us d)
  spelled _ _ _ _ (cut_by {x} {x1} {x2} {n} {st} {us} {vs} c ts says one scoped d e) =
      let b : Formula = put_formula ts c.formula in
      let proper : IsProper (λ m. m < n) (put_formula ts c.formula) = cut_scoped n c ts one scoped in
      let lkf : IsLkf (put_formula ts c.formula) = cut_lkf c ts one in
      let named : premises_of (step.Cut (put_formula ts c.formula)) n (plain_sequent (Up st []))
      ≡ Some ((n, plain_sequent (Up st (put_formula ts c.formula ∷ []))) ∷ (n, plain_sequent (Up st (dual_of (put_formula ts c.formula) ∷ []))) ∷ []) =
      rw (may_be_cut-each n Lkf 0 (put_formula ts c.formula) proper lkf) refl in
      two_premises (step.Cut b) n (plain_sequent (Up st [])) (plain_sequent (Up st (b ∷ []))) (plain_sequent (Up st (dual_of b ∷ [])))
      (erased d) (erased e) us vs
      (rules.cut (formulas_in st) b (inside_more (λ m. m < n) Tied Never Always Tied Never (λ m q. tt) (λ i m q. q) (λ m q. q) 0 b proper) lkf) named
      (erased_root p x1 n (Up st (b ∷ [])) us d) (erased_root p x2 n (Up st (dual_of b ∷ [])) vs e)
      (spelled x1 n (Up st (b ∷ [])) us d) (spelled x2 n (Up st (dual_of b ∷ [])) vs e)
  spelled _ _ _ _ (true_positive {x} {n} {st} says) =
      no_premise step.TrueP n (plain_sequent (Down st (truth Positive))) (rules.true_positive (formulas_in st)) refl
  spelled _ _ _ _ (and_positive {x} {x1} {x2} {n} {st} {a} {b} {us} {vs} says d e) =
      two_premises step.AndP n (plain_sequent (Down st (conj Positive a b))) (plain_sequent (Down st a)) (plain_sequent (Down st b))
      (erased d) (erased e) us vs (rules.and_positive (formulas_in st) a b) refl
      (erased_root p x1 n (Down st a) us d) (erased_root p x2 n (Down st b) vs e) (spelled x1 n (Down st a) us d) (spelled x2 n (Down st b) vs e)
  spelled _ _ _ _ (or_positive {x} {x1} {n} {st} {a} {b} {us} Left says d) =
      one_premise (step.OrP Left) n n (plain_sequent (Down st (disj Positive a b))) (plain_sequent (Down st a)) (erased d) us
      (rules.or_left (formulas_in st) a b) refl (erased_root p x1 n (Down st a) us d) (spelled x1 n (Down st a) us d)
  spelled _ _ _ _ (or_positive {x} {x1} {n} {st} {a} {b} {us} Right says d) =
      one_premise (step.OrP Right) n n (plain_sequent (Down st (disj Positive a b))) (plain_sequent (Down st b)) (erased d) us
      (rules.or_right (formulas_in st) a b) refl (erased_root p x1 n (Down st b) us d) (spelled x1 n (Down st b) us d)
  spelled _ _ _ _ (some {x} {x1} {t} {n} {st} {a} {us} says scoped d) =
      let named : premises_of (step.Exists t) n (plain_sequent (Down st (exists a))) ≡ Some ((n, plain_sequent (Down st (open_at 0 t a))) ∷ []) = rw (is_scoped-in_scope n t scoped) refl in
      one_premise (step.Exists t) n n (plain_sequent (Down st (exists a))) (plain_sequent (Down st (open_at 0 t a))) (erased d) us
      (rules.some (formulas_in st) a t (in_scope_proper n t scoped)) named
      (erased_root p x1 n (Down st (open_at 0 t a)) us d) (spelled x1 n (Down st (open_at 0 t a)) us d)
  spelled _ _ _ _ (release {x} {x1} {n} {st} {f} {us} says negative d) =
      let named : premises_of step.Release n (plain_sequent (Down st f)) ≡ Some ((n, plain_sequent (Up st (f ∷ []))) ∷ []) = rw negative refl in
      one_premise step.Release n n (plain_sequent (Down st f)) (plain_sequent (Up st (f ∷ []))) (erased d) us
      (rules.release (formulas_in st) f negative) named (erased_root p x1 n (Up st (f ∷ [])) us d) (spelled x1 n (Up st (f ∷ [])) us d)
  spelled _ _ _ _ (initial {x} {l} {n} {k} {f} {st} {ts} says at) =
      let here = formula_at st k l (atom false f ts) at in
      let named : premises_of (step.Init k) n (plain_sequent (Down st (atom true f ts))) ≡ Some [] = rw (here, closes-dual f ts) refl in
      no_premise (step.Init k) n (plain_sequent (Down st (atom true f ts))) (rules.initial (formulas_in st) f ts (k, here)) named

pub guided_is_spelling : GuidedIsSpelling
guided_is_spelling p goal steps h ok logic =
    let s = spelled p ok logic (put h.closing p.term) 0 (root_of goal) steps h.guided in (
      record {
        certificate_of = s.certificate_of;
        derivation = record {
          of = erased h.guided;
          root = erased_root p (put h.closing p.term) 0 (root_of goal) steps h.guided;
          is_derivation = s.fine;
        };
        spells = s.spells;
        preorder = s.preorder [] ∙ append-nil steps;
      },
      refl,
    )
