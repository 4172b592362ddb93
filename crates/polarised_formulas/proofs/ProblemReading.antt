-- A loop that reads a problem to the end of some items, a token at a time.
use Rattle.std.proofs.Common.{◌≡◌, ◌↔◌, ℕ, List, [], ◌∷◌, ◌++◌, refl, ap, sym, ◌∙◌, Some, None, Ok, Err}
use Rattle.fpc_base.specs.declared.refusal.Code.{Code}
use Rattle.fpc_base.specs.declared.refusal.Code.TheVariants.{Unexpected}
use Rattle.fpc_base.specs.declared.refusal.Refusal.{Refusal}
use Rattle.fpc_base.specs.Lexeme.{Lexeme, Item, says, fault}
use Rattle.fpc_base.specs.Reading.{ReadsAll, RefusesAll}
use Rattle.fpc_base.specs.Reading as reading
use Rattle.polarised_formulas.specs.Written.{WrittenProblem, IsProblem}
use Rattle.polarised_formulas.specs.Place.{ProblemLimits}
use Rattle.polarised_formulas.specs.Machine.{ProblemState, start, finished, problem_of, limited_problem}
use Rattle.fpc_base.proofs.ReadingLaws.{LeadsAll, LeadsAll-start, LeadsAll-taken, all-not_both, all-once, all-refused_once}
use Rattle.polarised_formulas.proofs.ProblemLaws.{problem_behind, problem_behind-step, problem-finished, finished-problem, problem-once}
use Rattle.polarised_formulas.proofs.ProblemLimits.{problem_limits-once, problem_refused-told, problem_taken-told}

abbrev pub ReadsProblem : List Item → WrittenProblem → Type 0
ReadsProblem items w = ReadsAll IsProblem ProblemLimits [] items w

abbrev pub RefusesProblem : ℕ → List Item → Refusal → Type 0
RefusesProblem n items r = RefusesAll IsProblem ProblemLimits n [] items r

finished-of : (s : ProblemState) (w : WrittenProblem) → problem_of s ≡ Some w → s ≡ finished w.logic w.formula
finished-of (finished logic f) w e =
    let p : WrittenProblem = record { logic = logic; formula = f } in
    let same : p ≡ w = cc in
    ap (λ (v : WrittenProblem). finished v.logic v.formula) same
finished-of _ w e = cc

-- the problem is told by the state
pub problem_of-told : (tokens : List Lexeme) (w : WrittenProblem) → problem_of (problem_behind tokens) ≡ Some w ↔ IsProblem tokens w
problem_of-told tokens w = (λ e. finished-problem tokens w (finished-of (problem_behind tokens) w e), λ h. ap problem_of (problem-finished tokens w h))

-- the state is reached behind tokens, and the rest of the items is left
pub record IsAt (n : ℕ) (items rest : List Item) (s : ProblemState) : Type 0 where
  pub before : List Lexeme
  pub ran : problem_behind before ≡ s
  pub leads : LeadsAll IsProblem ProblemLimits n items before rest

pub IsAt-start : (n : ℕ) (items : List Item) → IsAt n items items start
IsAt-start n items = record { before = []; ran = refl; leads = LeadsAll-start IsProblem ProblemLimits n items }

-- at a token that is refused
pub IsAt-refused : (n : ℕ) (items rest : List Item) (s : ProblemState) (c : Lexeme) (at : ℕ) (code : Code) → IsAt n items (says c at ∷ rest) s
    → limited_problem s c ≡ Err code → RefusesProblem n items (record { code = code; at = at })
IsAt-refused n items rest s c at code a e =
    a.leads.refused (record { code = code; at = at })
    (reading.RefusesAll.here ((problem_refused-told a.before c code).0 (ap (λ t. limited_problem t c) a.ran ∙ e)))

-- at a token that is taken
pub IsAt-taken : (n : ℕ) (items rest : List Item) (s t : ProblemState) (c : Lexeme) (at : ℕ) → IsAt n items (says c at ∷ rest) s
    → limited_problem s c ≡ Ok t → IsAt n items rest t
IsAt-taken n items rest s t c at a e =
    let k = (problem_taken-told a.before c t).0 (ap (λ u. limited_problem u c) a.ran ∙ e) in
    record {
      before = a.before ++ c ∷ [];
      ran = problem_behind-step a.before c ∙ k.1;
      leads = LeadsAll-taken IsProblem ProblemLimits n items rest a.before c at a.leads k.0;
    }

-- at a fault
pub IsAt-fault : (n : ℕ) (items rest : List Item) (s : ProblemState) (r : Refusal) → IsAt n items (fault r ∷ rest) s → RefusesProblem n items r
IsAt-fault n items rest s r a = a.leads.refused r reading.RefusesAll.bad

-- at the end of the items
pub IsAt-done : (n : ℕ) (items : List Item) (s : ProblemState) (w : WrittenProblem) → IsAt n items [] s → problem_of s ≡ Some w → ReadsProblem items w
IsAt-done n items s w a e = a.leads.read w (reading.ReadsAll.at_end ((problem_of-told a.before w).0 (ap problem_of a.ran ∙ e)))

pub IsAt-unfinished : (n : ℕ) (items : List Item) (s : ProblemState) → IsAt n items [] s → problem_of s ≡ None
    → RefusesProblem n items (record { code = Unexpected; at = n })
IsAt-unfinished n items s a e = a.leads.refused (record { code = Unexpected; at = n }) (reading.RefusesAll.at_end none) where
  none : (w : WrittenProblem) → IsProblem a.before w → ⊥
  none w h = let i : None ≡ Some w = sym e ∙ sym (ap problem_of a.ran) ∙ (problem_of-told a.before w).1 h in cc

-- a file of a problem is read as one problem, or refused for one reason at one place, and not both
pub problem-read_once : (items : List Item) (v w : WrittenProblem) → ReadsProblem items v → ReadsProblem items w → v ≡ w
problem-read_once items v w h k = all-once IsProblem ProblemLimits problem-once problem_limits-once h k

pub problem-refused_once : (n : ℕ) (items : List Item) (r s : Refusal) → RefusesProblem n items r → RefusesProblem n items s → r ≡ s
problem-refused_once n items r s h k = all-refused_once IsProblem ProblemLimits problem-once problem_limits-once h k

pub problem-not_both : (n : ℕ) (items : List Item) (w : WrittenProblem) (r : Refusal) → ReadsProblem items w → RefusesProblem n items r → ⊥
problem-not_both n items w r h k = all-not_both IsProblem ProblemLimits h k
