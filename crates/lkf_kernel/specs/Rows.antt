-- Worked searches, with their outcomes.
use Rattle.std.specs.Prelude.{◌≡◌, ℕ, true, false, List, [], ◌∷◌}
use Rattle.fpc_terms.specs.Term.{Term, eigen, bound, variable, app, no_args, arg}
use Rattle.polarised_formulas.specs.Formula.{Formula, truth, falsity, atom, conj, disj, for_all}
use Rattle.polarised_formulas.specs.Formula.{exists}
use Rattle.polarised_formulas.specs.declared.logic.Logic.TheVariants.{Lkf}
use Rattle.polarised_formulas.specs.declared.logic.Polarity.TheVariants.{Positive, Negative}
use Rattle.polarised_formulas.specs.declared.logic.Side.TheVariants.{Left, Right}
use Rattle.polarised_formulas.specs.declared.step.Step.{Step}
use Rattle.polarised_formulas.specs.declared.step.Step.TheVariants.{TrueN, FalseN, OrN, AndN}
use Rattle.polarised_formulas.specs.declared.step.Step.TheVariants.{Every, Store, Decide, TrueP}
use Rattle.polarised_formulas.specs.declared.step.Step.TheVariants.{AndP, OrP, Exists, Release}
use Rattle.polarised_formulas.specs.declared.step.Step.TheVariants.{Init, Cut}
use Rattle.clause_language.specs.declared.clause.Clause.{Clause}
use Rattle.clause_language.specs.declared.declaration.DeclaredFormula.{DeclaredFormula}
use Rattle.clause_language.specs.declared.program.Program.{Program}
use Rattle.clause_language.specs.declared.word_ids.WordIds.{WordIds}
use Rattle.search_model.specs.Checking.{checking, trace_of}
use Rattle.search_model.specs.Run.{Ending, ended, spent}
use Rattle.search_model.specs.Search.{Answer, accepted, rejected}
use Rattle.search_model.specs.Table.{ItemOn}
use Rattle.search_model.specs.declared.plain.Outcome.{Outcome}
use Rattle.search_model.specs.declared.plain.Outcome.TheVariants.{Accepted, Rejected, Spent}
use Rattle.lkf_kernel.specs.Guided.{lkf_table}
use Rattle.lkf_kernel.specs.declared.sequent.Sequent.{Sequent}

-- the words, by numbers of their own
abbrev pub row_ids : WordIds
row_ids = record {
  and_c = 0;
  or_c = 1;
  ff_c = 2;
  all_c = 3;
  store_c = 4;
  decide_e = 5;
  release_e = 6;
  init_e = 7;
  tt_e = 8;
  and_e = 9;
  or_e = 10;
  some_e = 11;
  cut_e = 12;
  and_rc = 13;
  imp_rc = 14;
  all_rc = 15;
  and_lc = 16;
  or_lc = 17;
  some_lc = 18;
  tt_lc = 19;
  store_lc = 20;
  store_rc = 21;
  decide_le = 22;
  decide_re = 23;
  release_le = 24;
  release_re = 25;
  init_le = 26;
  init_re = 27;
  and_le = 28;
  imp_le = 29;
  all_le = 30;
  tt_re = 31;
  and_re = 32;
  or_re = 33;
  some_re = 34;
  left = 35;
  right = 36;
  any = 37;
}

-- a constant
abbrev pub named : ℕ → Term
named f = app f no_args

-- the number of decisions that is left, as s(s(z))
abbrev pub z : Term
z = named 38

abbrev pub s : Term → Term
s t = app 39 (arg t no_args)

-- the one index of stored formulas
abbrev pub i : Term
i = named 40

abbrev X : Term
X = variable 0

abbrev Y : Term
Y = variable 1

-- a clause without body
abbrev pub fact : ℕ → List Term → ℕ → Clause
fact f ts n = record { head = record { name = f; arguments = ts }; body = []; variables = n }

-- each rule may be used at any time; the certificate counts decisions
abbrev pub counting : List Clause
counting =
    fact 0 (X ∷ X ∷ X ∷ []) 1
    ∷ fact 1 (X ∷ X ∷ []) 1
    ∷ fact 2 (X ∷ X ∷ []) 1
    ∷ fact 3 (X ∷ Y ∷ X ∷ []) 2
    ∷ fact 4 (X ∷ X ∷ i ∷ []) 1
    ∷ fact 5 (s X ∷ X ∷ i ∷ []) 1
    ∷ fact 6 (X ∷ X ∷ []) 1
    ∷ fact 7 (X ∷ i ∷ []) 1
    ∷ fact 8 (X ∷ []) 1
    ∷ fact 9 (X ∷ X ∷ X ∷ []) 1
    ∷ fact 10 (X ∷ X ∷ Y ∷ []) 2
    ∷ fact 11 (X ∷ X ∷ Y ∷ []) 2
    ∷ []

-- a program of clauses, with a certificate without variables
abbrev pub guided_by : List Clause → Term → Program
guided_by clauses t = record {
  logic = Lkf;
  declared = [];
  clauses = clauses;
  term = t;
  variables = 0;
  ids = row_ids;
}

-- how a search ends, with `any` for each variable that is left in its steps
abbrev pub outcome_of : Program → Ending (Answer (ItemOn Sequent) Step) → Outcome
outcome_of p (ended (accepted found) units) = Accepted (trace_of p found) units
outcome_of p (ended rejected units) = Rejected units
outcome_of p spent = Spent

-- the search for the goal within the budget has the outcome
abbrev pub EndsWith : Program → Formula → ℕ → Outcome → Type 0
EndsWith p goal budget o = outcome_of p (checking (lkf_table p) p goal budget) ≡ o

-- a literal without arguments
abbrev literal : ℕ → Formula
literal f = atom true f no_args

abbrev negated : ℕ → Formula
negated f = atom false f no_args

-- `tt-` takes two units, and one is too few
abbrev pub UnitRow : Type 0
UnitRow =
    EndsWith (guided_by [] z) (truth Negative) 2 (Accepted (TrueN ∷ []) 2)
    × EndsWith (guided_by [] z) (truth Negative) 1 Spent

-- store_c(c,d,i). decide_e(d,e,i). tt_e(e). for the goal `tt+`
abbrev pub StoredUnitRow : Type 0
StoredUnitRow =
    let p : Program =
    guided_by
    (fact 4 (named 41 ∷ named 42 ∷ i ∷ []) 0
    ∷ fact 5 (named 42 ∷ named 43 ∷ i ∷ []) 0
    ∷ fact 8 (named 43 ∷ []) 0
    ∷ [])
    (named 41) in
    EndsWith p (truth Positive) 22 (Accepted (Store ∷ Decide 0 ∷ TrueP ∷ []) 22)
    × EndsWith p (truth Positive) 21 Spent

-- the definition of conjunctive normal forms
abbrev pub cnf : Program
cnf =
    guided_by
    (fact 0 (named 44 ∷ named 44 ∷ named 44 ∷ []) 0
    ∷ fact 1 (named 44 ∷ named 44 ∷ []) 0
    ∷ fact 2 (named 44 ∷ named 44 ∷ []) 0
    ∷ fact 3 (named 44 ∷ X ∷ named 44 ∷ []) 1
    ∷ fact 4 (named 44 ∷ named 44 ∷ named 46 ∷ []) 0
    ∷ fact 5 (named 44 ∷ named 45 ∷ named 46 ∷ []) 0
    ∷ fact 7 (named 45 ∷ named 46 ∷ []) 0
    ∷ fact 8 (named 45 ∷ []) 0
    ∷ [])
    (named 44)

-- the goal `(p |- ~p)` is accepted with these units, and `(p |- q)` is rejected
abbrev pub CnfRow : Type 0
CnfRow =
    EndsWith cnf (disj Negative (literal 50) (negated 50)) 1000
    (Accepted (OrN ∷ Store ∷ Store ∷ Decide 0 ∷ Init 1 ∷ []) 41)
    × EndsWith cnf (disj Negative (literal 50) (negated 50)) 40 Spent
    × EndsWith cnf (disj Negative (literal 50) (literal 51)) 1000 (Rejected 47)

-- the steps of a search that is accepted
abbrev pub steps_in : Outcome → List Step
steps_in (Accepted trace units) = trace
steps_in (Rejected units) = []
steps_in Spent = []

-- the certificate that counts decisions gives these steps
abbrev pub Gives : Term → Formula → List Step → Type 0
Gives t goal steps =
    let p : Program = guided_by counting t in
    steps_in (outcome_of p (checking (lkf_table p) p goal 10000)) ≡ steps

-- some X : all Y : (~d(X) |- d(Y))
abbrev pub drinker : Formula
drinker =
    exists (for_all (disj Negative (atom false 50 (arg (bound 1) no_args))
    (atom true 50 (arg (bound 0) no_args))))

-- Each rule is used but the cut. A variable of level 0 doesn't become the eigenvariable `$0`: with
-- one decision less the last goal is rejected.
abbrev pub RuleRow : Type 0
RuleRow =
    Gives (s z) (conj Negative (truth Negative) (disj Negative (falsity Negative) (truth Positive)))
    (AndN ∷ TrueN ∷ OrN ∷ FalseN ∷ Store ∷ Decide 0 ∷ TrueP ∷ [])
    × Gives (s z) (conj Positive (truth Positive) (disj Positive (falsity Positive) (truth Positive)))
    (Store ∷ Decide 0 ∷ AndP ∷ TrueP ∷ OrP Right ∷ TrueP ∷ [])
    × Gives (s (s z)) (disj Positive (literal 50) (negated 50))
    (Store ∷ Decide 0 ∷ OrP Right ∷ Release ∷ Store ∷ Decide 0 ∷ OrP Left ∷ Init 1 ∷ [])
    × Gives (s (s (s z))) drinker
    (Store ∷ Decide 0 ∷ Exists (named 37) ∷ Release ∷ Every ∷ OrN ∷ Store ∷ Store ∷ Decide 0
    ∷ Exists (eigen 0) ∷ Release ∷ Every ∷ OrN ∷ Store ∷ Store ∷ Decide 2 ∷ Init 3 ∷ [])
    × EndsWith (guided_by counting (s (s z))) drinker 10000 (Rejected 168)

-- lemma(V) := p(V), and cut_e(c(X,Y,T),X,Y,lemma(T)).
abbrev pub with_cut : Program
with_cut = record {
  logic = Lkf;
  declared =
      record { name = 47; parameters = 1; formula = atom true 50 (arg X no_args) } ∷ [];
  clauses =
      fact 12
      (app 48 (arg X (arg Y (arg (variable 2) no_args))) ∷ X ∷ Y
      ∷ app 47 (arg (variable 2) no_args) ∷ []) 3
      ∷ counting;
  term = app 48 (arg (s z) (arg (s z) (arg (named 49) no_args)));
  variables = 0;
  ids = row_ids;
}

-- p(a) is cut, and its dual is the second premise
abbrev pub CutRow : Type 0
CutRow =
    steps_in (outcome_of with_cut
    (checking (lkf_table with_cut) with_cut (disj Negative (literal 51) (negated 51)) 10000))
    ≡ OrN ∷ Store ∷ Store ∷ Cut (atom true 50 (arg (named 49) no_args)) ∷ Store ∷ Decide 0 ∷ Init 1
    ∷ Store ∷ Decide 0 ∷ Init 1 ∷ []
