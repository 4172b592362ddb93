-- The laws of LKF's sequents.
-- (A proof. It stands among the definitions, since what an impl says of a trait's laws may cite no
-- other file of its own crate.)
use Rattle.std.proofs.Common.{◌++◌, ◌<◌, ◌≡◌, ◌≤◌, ℕ, true, false, List, length, Contains, refl, ap}
use Rattle.std.proofs.Common.{ap₂}
use Rattle.std.proofs.lemmas.List.Elements.{All-contains}
use Rattle.fpc_terms.specs.Term.{Term, variable, put, Never}
use Rattle.fpc_terms.specs.Open.{IsOpen, Level, level_of}
use Rattle.polarised_formulas.specs.declared.logic.Polarity.{Polarity}
use Rattle.polarised_formulas.specs.declared.logic.Polarity.TheVariants.{Positive, Negative}
use Rattle.polarised_formulas.specs.Formula.{Formula, truth, falsity, atom, conj, disj, implies}
use Rattle.polarised_formulas.specs.Formula.{for_all, exists, polarity_of, EachInside, Tied}
use Rattle.clause_language.specs.declared.declaration.DeclaredFormula.{DeclaredFormula}
use Rattle.clause_language.specs.declared.program.Program.{Program}
use Rattle.clause_language.specs.Program.{IsOpenProgram, IsDeclarationOf}
use Rattle.lkf_rules.specs.Rule.{is_storable}
use Rattle.polarised_formulas.specs.OpenFormula.{put_formula}
use Rattle.fpc_terms.specs.Open.{IsOpenAt}
use Rattle.search_model.specs.Table.{AreSequents}
use Rattle.lkf_kernel.specs.declared.sequent.Sequent.{Sequent}
use Rattle.lkf_kernel.specs.declared.sequent.Sequent.TheVariants.{Up, Down}
use Rattle.lkf_kernel.specs.Lkf.{put_sequent, IsOpenSequent, IsScopedSequent, is_positive}
use Rattle.lkf_kernel.specs.Guided.{lkf_table}
use Rattle.polarised_formulas.proofs.OpenFormulaFacts.{formula_same, formula-put, formula_open_put}
use Rattle.polarised_formulas.proofs.OpenFormulaFacts.{formula_open_more, formula_scoped_put}
use Rattle.polarised_formulas.proofs.OpenFormulaFacts.{formula_scoped_more}
use Rattle.search_model.proofs.SequentParts.{stores-put, works-put, stores_same, works_same}
use Rattle.search_model.proofs.SequentParts.{work_agrees, works_agree, stores_agree}
use Rattle.search_model.proofs.SequentParts.{stores_open_put, works_open_put, stores_open_more}
use Rattle.search_model.proofs.SequentParts.{works_open_more, stores_scoped_put, works_scoped_put}
use Rattle.search_model.proofs.SequentParts.{stores_scoped_more, works_scoped_more}
use Rattle.polarised_formulas.proofs.OpenedPutFacts.{put-polarity}

pub lkf_sequents : (p : Program) → AreSequents (lkf_table p)
lkf_sequents p = record {
  sequent-put = puts;
  sequent_same = same;
  sequent_agrees = agree;
  open_put = open_put;
  open_more = open_more;
  scoped_put = scoped_put;
  scoped_more = scoped_more;
}
  where
    puts : (s r : ℕ → Term) (q : Sequent) → put_sequent s (put_sequent r q)
        ≡ put_sequent (λ n. put s (r n)) q
    puts s r (Up st g) = ap₂ Up (stores-put s r st) (works-put s r g)
    puts s r (Down st f) = ap₂ Down (stores-put s r st) (formula-put s r f)

    same : (q : Sequent) → put_sequent variable q ≡ q
    same (Up st g) = ap₂ Up (stores_same st) (works_same g)
    same (Down st f) = ap₂ Down (stores_same st) (formula_same f)

    agree : (k : ℕ) (s r : ℕ → Term) → ((n : ℕ) → n < k → s n ≡ r n) → (q : Sequent)
        → IsOpenSequent k q
        → put_sequent s q ≡ put_sequent r q
    agree k s r same_below (Up st g) h =
        ap₂ Up (stores_agree k s r same_below st h.0) (works_agree k s r same_below g h.1)
    agree k s r same_below (Down st f) h =
        ap₂ Down (stores_agree k s r same_below st h.0) (work_agrees k s r same_below f h.1)

    open_put : (j k : ℕ) (r : ℕ → Term) → ((n : ℕ) → n < j → IsOpen k (r n)) → (q : Sequent)
        → IsOpenSequent j q
        → IsOpenSequent k (put_sequent r q)
    open_put j k r are_open (Up st g) h =
        (stores_open_put j k r are_open st h.0, works_open_put j k r are_open g h.1)
    open_put j k r are_open (Down st f) h =
        (stores_open_put j k r are_open st h.0, formula_open_put j k r are_open f h.1)

    open_more : (j k : ℕ) → j ≤ k → (q : Sequent) → IsOpenSequent j q → IsOpenSequent k q
    open_more j k le (Up st g) h = (stores_open_more j k le st h.0, works_open_more j k le g h.1)
    open_more j k le (Down st f) h =
        (stores_open_more j k le st h.0, formula_open_more j k le f h.1)

    scoped_put : (levels after : List Level) (r : ℕ → Term)
        → ((n : ℕ) → n < length levels → IsOpenAt after (level_of levels n) (r n))
        → (n : ℕ) (q : Sequent)
        → IsScopedSequent levels n q → IsScopedSequent after n (put_sequent r q)
    scoped_put levels after r at n (Up st g) h =
        (stores_scoped_put levels after r at n st h.0, works_scoped_put levels after r at n g h.1)
    scoped_put levels after r at n (Down st f) h =
        (stores_scoped_put levels after r at n st h.0, formula_scoped_put levels after r at n f h.1)

    scoped_more : (levels more : List Level) (n : ℕ) (q : Sequent) → IsScopedSequent levels n q
        → IsScopedSequent (levels ++ more) n q
    scoped_more levels more n (Up st g) h =
        (stores_scoped_more levels more n st h.0, works_scoped_more levels more n g h.1)
    scoped_more levels more n (Down st f) h =
        (stores_scoped_more levels more n st h.0, formula_scoped_more levels more n f h.1)

-- terms for variables change neither whether a formula is stored nor whether it is positive
pub put-storable : (s : ℕ → Term) (f : Formula) → is_storable (put_formula s f) ≡ is_storable f
put-storable s (truth Positive) = refl
put-storable s (truth Negative) = refl
put-storable s (falsity Positive) = refl
put-storable s (falsity Negative) = refl
put-storable s (atom q f ts) = refl
put-storable s (conj Positive x y) = refl
put-storable s (conj Negative x y) = refl
put-storable s (disj Positive x y) = refl
put-storable s (disj Negative x y) = refl
put-storable s (implies x y) = refl
put-storable s (for_all x) = refl
put-storable s (exists x) = refl

pub put-positive : (s : ℕ → Term) (f : Formula) → is_positive (put_formula s f) ≡ is_positive f
put-positive s f = ap (λ q. elim q [ Positive ↦ true | Negative ↦ false ]) (put-polarity s f)

pub positive_is : (f : Formula) → is_positive f ≡ true → polarity_of f ≡ Positive
positive_is f = by_polarity (polarity_of f)
  where
    by_polarity : (q : Polarity) → elim q [ Positive ↦ true | Negative ↦ false ] ≡ true → q
        ≡ Positive
    by_polarity Positive e = refl
    by_polarity Negative e = absurd (cc)

pub is_positive_from : (f : Formula) → polarity_of f ≡ Positive → is_positive f ≡ true
is_positive_from f e = ap (λ q. elim q [ Positive ↦ true | Negative ↦ false ]) e

-- declared formulas have no eigenvariable, no free bound index, and no variables but parameters
pub declared_scoped : (p : Program) → IsOpenProgram p → (d : DeclaredFormula)
    → Contains p.declared d
    → EachInside Never Tied (λ v. v < d.parameters) 0 d.formula
declared_scoped p program d i =
    (All-contains (IsDeclarationOf p.logic) p.declared d program.formulas i).is_scoped
