-- Certificates and the trees that they spell: play, nodes and preorder.
use Rattle.std.proofs.Common.{◌≡◌, ℕ, ◌+◌, List, [], ◌∷◌, ◌++◌, length, refl, arith}
use Rattle.polarised_formulas.specs.declared.step.Step.{Step}
use Rattle.polarised_formulas.specs.Calculus.Rules.{RuleCalculus, LevelledIn}
use Rattle.polarised_formulas.specs.Calculus.Derivation.{Tree, Trees, node, no_trees, tree, root_sequent, node_count, all_node_count}
use Rattle.polarised_formulas.specs.Calculus.Certificate.{Certificate, Certificates, by, no_certificates, certificate, steps_before, all_steps_before, Spells, AllSpell}
use Rattle.polarised_formulas.specs.Calculus.Play.{plays, Plays, plays_more}

-- steps that begin with the preorders of two certificates begin with the same certificate, tree and other steps
pub record IsOneSpelling (C : RuleCalculus) (c d : Certificate) (t u : Tree C.SequentOf) (xs ys : List Step) : Type 0 where
  pub certificates : c ≡ d
  pub trees : t ≡ u
  pub others : xs ≡ ys

-- the same of lists of certificates
pub record AreOneSpelling (C : RuleCalculus) (cs ds : Certificates) (ts us : Trees C.SequentOf) (xs ys : List Step) : Type 0 where
  pub certificates : cs ≡ ds
  pub trees : ts ≡ us
  pub others : xs ≡ ys

module _ (C : RuleCalculus) where
  -- a certificate's steps play the sequent of its tree away
  mutual
    pub Plays-steps_before : (c : Certificate) (t : Tree C.SequentOf) (n : ℕ) (q r : List (LevelledIn C)) (rest : List Step) → Spells C c t n → Plays C q rest r
        → Plays C ((n, root_sequent t) ∷ q) (steps_before c rest) r
    Plays-steps_before (by step cs) (node c ts) n q r rest h k = plays_more (plays h.1) (Plays-all_steps_before cs ts h.0 q r rest h.2 k)

    pub Plays-all_steps_before : (cs : Certificates) (ts : Trees C.SequentOf) (ps q r : List (LevelledIn C)) (rest : List Step) → AllSpell C cs ts ps → Plays C q rest r
        → Plays C (ps ++ q) (all_steps_before cs rest) r
    Plays-all_steps_before no_certificates no_trees [] q r rest h k = k
    Plays-all_steps_before (certificate c cs) (tree t ts) (p ∷ ps) q r rest h k =
        rw (← h.0) (Plays-steps_before c t p.0 (ps ++ q) r (all_steps_before cs rest) h.1.0 (Plays-all_steps_before cs ts ps q r rest h.1.1 k))
    Plays-all_steps_before _ _ _ q r rest h k = absurd h

  -- a certificate has as many steps as its tree has nodes
  mutual
    pub length-steps_before : (c : Certificate) (t : Tree C.SequentOf) (n : ℕ) (rest : List Step) → Spells C c t n → length (steps_before c rest) ≡ node_count t + length rest
    length-steps_before (by step cs) (node c ts) n rest h = omega (arith, length-all_steps_before cs ts h.0 rest h.2)

    pub length-all_steps_before : (cs : Certificates) (ts : Trees C.SequentOf) (ps : List (LevelledIn C)) (rest : List Step) → AllSpell C cs ts ps
        → length (all_steps_before cs rest) ≡ all_node_count ts + length rest
    length-all_steps_before no_certificates no_trees [] rest h = omega arith
    length-all_steps_before (certificate c cs) (tree t ts) (p ∷ ps) rest h =
        omega (arith, length-steps_before c t p.0 (all_steps_before cs rest) h.1.0, length-all_steps_before cs ts ps rest h.1.1)
    length-all_steps_before _ _ _ rest h = absurd h

  -- at one sequent and level, steps in preorder tell the certificate and the tree
  mutual
    pub IsOneSpelling-steps_before : (c d : Certificate) (t u : Tree C.SequentOf) (n : ℕ) (xs ys : List Step) → Spells C c t n → Spells C d u n
        → root_sequent t ≡ root_sequent u → steps_before c xs ≡ steps_before d ys → IsOneSpelling C c d t u xs ys
    IsOneSpelling-steps_before (by step cs) (by step' ds) (node c ts) (node c' us) n xs ys h k root e =
        let step_is : step ≡ step' = cc in
        let more : all_steps_before cs xs ≡ all_steps_before ds ys = cc in
        let same : C.premises_of step n c ≡ C.premises_of step' n c' = cc in
        let ps_are : h.0 ≡ k.0 = cc (h.1, k.1) in
        let h' : AllSpell C cs ts k.0 = rw ps_are at h.2 in
        let below = AreOneSpelling-all_steps_before k.0 cs ds ts us xs ys h' k.2 more in
        record { certificates = cc; trees = cc; others = below.others }

    pub AreOneSpelling-all_steps_before : (ps : List (LevelledIn C)) (cs ds : Certificates) (ts us : Trees C.SequentOf) (xs ys : List Step) → AllSpell C cs ts ps → AllSpell C ds us ps
        → all_steps_before cs xs ≡ all_steps_before ds ys → AreOneSpelling C cs ds ts us xs ys
    AreOneSpelling-all_steps_before [] no_certificates no_certificates no_trees no_trees xs ys h k e = record { certificates = refl; trees = refl; others = e }
    AreOneSpelling-all_steps_before [] no_certificates no_certificates no_trees (tree u us) xs ys h k e = absurd k
    AreOneSpelling-all_steps_before [] no_certificates no_certificates (tree t ts) us xs ys h k e = absurd h
    AreOneSpelling-all_steps_before [] no_certificates (certificate d ds) ts no_trees xs ys h k e = absurd k
    AreOneSpelling-all_steps_before [] no_certificates (certificate d ds) ts (tree u us) xs ys h k e = absurd k
    AreOneSpelling-all_steps_before [] (certificate c cs) ds no_trees us xs ys h k e = absurd h
    AreOneSpelling-all_steps_before [] (certificate c cs) ds (tree t ts) us xs ys h k e = absurd h
    AreOneSpelling-all_steps_before (p ∷ ps) (certificate c cs) (certificate d ds) (tree t ts) (tree u us) xs ys h k e =
        let root : root_sequent t ≡ root_sequent u = cc in
        let first = IsOneSpelling-steps_before c d t u p.0 (all_steps_before cs xs) (all_steps_before ds ys) h.1.0 k.1.0 root e in
        let later = AreOneSpelling-all_steps_before ps cs ds ts us xs ys h.1.1 k.1.1 first.others in
        record { certificates = cc; trees = cc; others = later.others }
    AreOneSpelling-all_steps_before (p ∷ ps) (certificate c cs) (certificate d ds) (tree t ts) no_trees xs ys h k e = absurd k
    AreOneSpelling-all_steps_before (p ∷ ps) (certificate c cs) (certificate d ds) no_trees us xs ys h k e = absurd h
    AreOneSpelling-all_steps_before (p ∷ ps) (certificate c cs) no_certificates ts no_trees xs ys h k e = absurd k
    AreOneSpelling-all_steps_before (p ∷ ps) (certificate c cs) no_certificates ts (tree u us) xs ys h k e = absurd k
    AreOneSpelling-all_steps_before (p ∷ ps) no_certificates ds no_trees us xs ys h k e = absurd h
    AreOneSpelling-all_steps_before (p ∷ ps) no_certificates ds (tree t ts) us xs ys h k e = absurd h

  -- a certificate spells at most one tree with a root sequent at a level
  pub Spells-one : (c : Certificate) (n : ℕ) (t u : Tree C.SequentOf) → Spells C c t n → Spells C c u n → root_sequent t ≡ root_sequent u → t ≡ u
  Spells-one c n t u h k root = (IsOneSpelling-steps_before c c t u n [] [] h k root refl).trees
