-- From play to a spelling: certificates and trees for the sequents that steps play away.
use Rattle.std.proofs.Common.{◌≡◌, List, [], ◌∷◌, ◌++◌, map, length, refl, ap, arith}
use Rattle.polarised_formulas.specs.declared.step.Step.{Step}
use Rattle.polarised_formulas.specs.Formula.{Formula, IsClosed}
use Rattle.polarised_formulas.specs.Calculus.Rules.{RuleCalculus, LevelledIn}
use Rattle.polarised_formulas.specs.Calculus.Lawful.{AreScoped, IsLawful}
use Rattle.polarised_formulas.specs.Calculus.Derivation.{Trees, node, no_trees, tree, root_sequent, roots, AreDerivations, node_count}
use Rattle.polarised_formulas.specs.Calculus.Certificate.{Certificates, by, no_certificates, certificate, steps_before, all_steps_before, AllSpell, IsSpelling}
use Rattle.polarised_formulas.specs.Calculus.Play.{plays, Plays, plays_none, plays_more, PlaysOut, start_of}
use Rattle.polarised_formulas.proofs.Calculus.Play.{AreScoped-plays}
use Rattle.polarised_formulas.proofs.Calculus.Preorder.{Plays-steps_before, length-steps_before, IsOneSpelling-steps_before}

-- the steps are the preorder of certificates that spell derivations of the sequents
pub record AreSpelled (C : RuleCalculus) (q : List (LevelledIn C)) (steps : List Step) : Type 0 where
  pub certificates : Certificates
  pub trees : Trees C.SequentOf
  pub spell : AllSpell C certificates trees q
  pub derivations : AreDerivations C trees
  pub preorder : all_steps_before certificates [] ≡ steps

-- certificates and trees for some sequents, and for the others after them
record AreParted (C : RuleCalculus) (ps q : List (LevelledIn C)) (cs : Certificates) : Type 0 where
  first_certificates : Certificates
  later_certificates : Certificates
  first_trees : Trees C.SequentOf
  later_trees : Trees C.SequentOf
  spell_first : AllSpell C first_certificates first_trees ps
  spell_later : AllSpell C later_certificates later_trees q
  first_derivations : AreDerivations C first_trees
  later_derivations : AreDerivations C later_trees
  preorder : (rest : List Step) → all_steps_before cs rest ≡ all_steps_before first_certificates (all_steps_before later_certificates rest)

module _ (C : RuleCalculus) where
  -- what spells sequents in two parts is parted
  AreParted-spell : (ps q : List (LevelledIn C)) (cs : Certificates) (ts : Trees C.SequentOf) → AllSpell C cs ts (ps ++ q) → AreDerivations C ts → AreParted C ps q cs
  AreParted-spell [] q cs ts h d = record {
    first_certificates = no_certificates;
    later_certificates = cs;
    first_trees = no_trees;
    later_trees = ts;
    spell_first = tt;
    spell_later = h;
    first_derivations = tt;
    later_derivations = d;
    preorder = λ rest. refl;
  }
  AreParted-spell (p ∷ ps) q (certificate c cs) (tree t ts) h d =
      let s = AreParted-spell ps q cs ts h.1.1 d.1 in
      record {
        first_certificates = certificate c s.first_certificates;
        later_certificates = s.later_certificates;
        first_trees = tree t s.first_trees;
        later_trees = s.later_trees;
        spell_first = (h.0, (h.1.0, s.spell_first));
        spell_later = s.spell_later;
        first_derivations = (d.0, s.first_derivations);
        later_derivations = s.later_derivations;
        preorder = λ rest. ap (steps_before c) (s.preorder rest);
      }
  AreParted-spell (p ∷ ps) q (certificate c cs) no_trees h d = absurd h
  AreParted-spell (p ∷ ps) q no_certificates no_trees h d = absurd h
  AreParted-spell (p ∷ ps) q no_certificates (tree t ts) h d = absurd h

  -- the trees that are spelled have the sequents as their roots
  roots-spell : (cs : Certificates) (ts : Trees C.SequentOf) (ps : List (LevelledIn C)) → AllSpell C cs ts ps → roots ts ≡ map (λ p. p.1) ps
  roots-spell no_certificates no_trees [] h = refl
  roots-spell (certificate c cs) (tree t ts) (p ∷ ps) h = let later = roots-spell cs ts ps h.1.1 in let first : root_sequent t ≡ p.1 = h.0 in cc
  roots-spell _ _ _ h = absurd h

module _ (C : RuleCalculus) (L : IsLawful C) where
  -- steps that play sequents in scope away spell derivations of them
  pub AreSpelled-plays : (q : List (LevelledIn C)) (steps : List Step) → Plays C q steps [] → AreScoped C q → AreSpelled C q steps
  AreSpelled-plays _ _ plays_none h = record { certificates = no_certificates; trees = no_trees; spell = tt; derivations = tt; preorder = refl }
  AreSpelled-plays _ _ (plays_more {step = step} {steps = steps} (plays {n} {c} {ps = ps} {q = q} fits) more) h =
      let s = AreSpelled-plays (ps ++ q) steps more (AreScoped-plays C L ((n, c) ∷ q) (ps ++ q) step h (plays fits)) in
      let parts = AreParted-spell C ps q s.certificates s.trees s.spell s.derivations in
      let rule : C.RuleOf c (roots parts.first_trees) =
      rw (roots-spell C parts.first_certificates parts.first_trees ps parts.spell_first) ((L.keeps step n c ps fits).rule h.0) in
      let order = parts.preorder [] in
      record {
        certificates = certificate (by step parts.first_certificates) parts.later_certificates;
        trees = tree (node c parts.first_trees) parts.later_trees;
        spell = (refl, ((ps, fits, parts.spell_first), parts.spell_later));
        derivations = ((rule, parts.first_derivations), parts.later_derivations);
        preorder = let e = s.preorder in cc;
      }

  -- what spells the start of a goal alone is one certificate and one tree
  IsSpelling-spelled : (f : Formula) (steps : List Step) (cs : Certificates) (ts : Trees C.SequentOf) → AllSpell C cs ts (start_of C f) → AreDerivations C ts
      → all_steps_before cs [] ≡ steps → IsSpelling C f steps
  IsSpelling-spelled f steps (certificate c no_certificates) (tree t no_trees) h d e =
      record { certificate_of = c; derivation = record { of = t; root = h.0; is_derivation = d.0 }; spells = h.1.0; preorder = e }
  IsSpelling-spelled f steps (certificate c (certificate c' cs)) (tree t no_trees) h d e = absurd h.1.1
  IsSpelling-spelled f steps (certificate c (certificate c' cs)) (tree t (tree t' ts)) h d e = absurd h.1.1
  IsSpelling-spelled f steps (certificate c no_certificates) (tree t (tree t' ts)) h d e = absurd h.1.1
  IsSpelling-spelled f steps (certificate c cs) no_trees h d e = absurd h
  IsSpelling-spelled f steps no_certificates no_trees h d e = absurd h
  IsSpelling-spelled f steps no_certificates (tree t ts) h d e = absurd h

  -- steps that play a closed goal out spell a derivation of it
  pub IsSpelling-plays : (f : Formula) (steps : List Step) → IsClosed f → PlaysOut C f steps → IsSpelling C f steps
  IsSpelling-plays f steps closed out =
      let s = AreSpelled-plays (start_of C f) steps out (L.root_scope f closed, tt) in IsSpelling-spelled f steps s.certificates s.trees s.spell s.derivations s.preorder

  -- steps that spell a derivation of a goal play it out
  pub PlaysOut-spelling : (f : Formula) (steps : List Step) → IsSpelling C f steps → PlaysOut C f steps
  PlaysOut-spelling f steps s =
      let out = Plays-steps_before C s.certificate_of s.derivation.of 0 [] [] [] s.spells plays_none in
      rw (← s.preorder, ← s.derivation.root) out

module _ (C : RuleCalculus) where
  -- a derivation has a node for each step that spells it
  pub length-spelling : (f : Formula) (steps : List Step) (s : IsSpelling C f steps) → length steps ≡ node_count s.derivation.of
  length-spelling f steps s =
      let count = length-steps_before C s.certificate_of s.derivation.of 0 [] s.spells in
      rw (← s.preorder) (omega arith)

  -- steps are the preorder of at most one certificate that spells a derivation of a goal, and they spell one derivation
  pub IsSpelling-one : (f : Formula) (steps : List Step) (s t : IsSpelling C f steps) → (s.certificate_of ≡ t.certificate_of) × (s.derivation.of ≡ t.derivation.of)
  IsSpelling-one f steps s t =
      let root : root_sequent s.derivation.of ≡ root_sequent t.derivation.of = cc (s.derivation.root, t.derivation.root) in
      let order : steps_before s.certificate_of [] ≡ steps_before t.certificate_of [] = cc (s.preorder, t.preorder) in
      let one = IsOneSpelling-steps_before C s.certificate_of t.certificate_of s.derivation.of t.derivation.of 0 [] [] s.spells t.spells root order in
      (one.certificates, one.trees)
