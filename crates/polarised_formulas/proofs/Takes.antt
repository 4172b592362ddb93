-- A problem is read where the machine takes each of its tokens.
use Rattle.std.proofs.Common.{◌≡◌, ◌≤◌, false, List, [], ◌∷◌, ◌++◌, refl, ap, sym, subst, ◌∙◌, append-nil, append_assoc, arith, Option, Some, Result, Ok}
use Rattle.fpc_base.specs.declared.refusal.Code.{Code}
use Rattle.fpc_base.specs.declared.tokens.lexeme.Sign.TheVariants as sign
use Rattle.fpc_base.specs.Lexeme.{Lexeme, a_sign, Item, says}
use Rattle.fpc_base.specs.Reading.{ReadsAll}
use Rattle.fpc_base.specs.Reading as reading
use Rattle.polarised_formulas.specs.declared.logic.Logic.{Logic}
use Rattle.polarised_formulas.specs.declared.logic.Logic.TheVariants.{Lkf, Ljf}
use Rattle.polarised_formulas.specs.Written.{WrittenFormula, formula_tokens, WrittenProblem, IsProblem, logic_word, IsBound, IsWrittenIn}
use Rattle.polarised_formulas.specs.Place.{whole, ProblemLimits}
use Rattle.polarised_formulas.specs.Machine.{FormulaState, wants, stuck, step, run, whole_of, is_deep, is_full, within, limited, ProblemState, start, reading as reading_of, problem_of, problem_step, problem_run, limited_problem, read_within, dotted, dotted_within}
use Rattle.polarised_formulas.proofs.States.{IsLive}
use Rattle.polarised_formulas.proofs.Sound.{live-run}
use Rattle.polarised_formulas.proofs.Complete.{run-ends}
use Rattle.polarised_formulas.proofs.FormulaLaws.{whole-live}
use Rattle.polarised_formulas.proofs.ProblemLaws.{formula-append, step-dot, start-word, reading-step, problem_behind, problem_behind-step, problem-finished}
use Rattle.polarised_formulas.proofs.ProblemLimits.{problem_taken-told}
use Rattle.polarised_formulas.proofs.ProblemReading.{IsAt, IsAt-start, IsAt-taken, IsAt-done}
use Rattle.polarised_formulas.specs.Spoken.{Says}
use Rattle.polarised_formulas.proofs.Small.{written_depth, HasSmall}
use Rattle.polarised_formulas.proofs.Fits.{Fits, fits-formula}

-- the machine takes each of the tokens
abbrev pub TakesAll : ProblemState → List Lexeme → Type 0
TakesAll s [] = Unit {0}
TakesAll s (c ∷ cs) = (limited_problem s c ≡ Ok (problem_step s c)) × TakesAll (problem_step s c) cs

-- the word of a logic is taken
takes-word : (logic : Logic) → limited_problem start (logic_word logic) ≡ Ok (problem_step start (logic_word logic))
takes-word Lkf = refl
takes-word Ljf = refl

at-taken : (items : List Item) (cs : List Lexeme) (rest : List Item) (s : ProblemState) → IsAt 0 items rest s → Says cs rest → TakesAll s cs
    → IsAt 0 items [] (problem_run s cs)
at-taken items [] [] s a h t = a
at-taken items (c ∷ cs) (says d at ∷ rest) s a h t =
    let b : IsAt 0 items (says c at ∷ rest) s = subst (λ e. IsAt 0 items (says e at ∷ rest) s) (sym h.0) a in
    at-taken items cs rest (problem_step s c) (IsAt-taken 0 items rest s (problem_step s c) c at b t.0) h.1 t.1
at-taken items _ _ s a h t = absurd h

-- what the machine takes to the end is read
pub ReadsAll-taken : (items : List Item) (tokens : List Lexeme) (w : WrittenProblem) → IsProblem tokens w → Says tokens items → TakesAll start tokens
    → ReadsAll IsProblem ProblemLimits [] items w
ReadsAll-taken items tokens w is_whole said taken =
    IsAt-done 0 items (problem_run start tokens) w (at-taken items tokens items start (IsAt-start 0 items) said taken) (ap problem_of (problem-finished tokens w is_whole))

-- what was read was taken
pub record Taken (before : List Lexeme) (items : List Item) (w : WrittenProblem) : Type 0 where
  pub tokens : List Lexeme
  pub said : Says tokens items
  pub is_whole : IsProblem (before ++ tokens) w
  pub takes : TakesAll (problem_behind before) tokens

pub Taken-read : (before : List Lexeme) (items : List Item) (w : WrittenProblem) → ReadsAll IsProblem ProblemLimits before items w → Taken before items w
Taken-read before _ w (reading.ReadsAll.at_end h) = record {
  tokens = [];
  said = tt;
  is_whole = subst (λ l. IsProblem l w) (sym (append-nil before)) h;
  takes = tt;
}
Taken-read before _ w (reading.ReadsAll.later {c = c} {items = items} t h) =
    let r = Taken-read (before ++ c ∷ []) items w h in
    record {
      tokens = c ∷ r.tokens;
      said = (refl, r.said);
      is_whole = subst (λ l. IsProblem l w) (append_assoc before (c ∷ []) r.tokens) r.is_whole;
      takes = (
        (problem_taken-told before c (problem_step (problem_behind before) c)).1 (t, refl),
        subst (λ s. TakesAll s r.tokens) (problem_behind-step before c) r.takes,
      );
    }

-- one token within the limits
within-live : (t : FormulaState) → IsLive t → within false false t ≡ Ok t
within-live stuck live = absurd live
within-live _ live = refl

module _ (logic : Logic) where
  limited-live : (s : FormulaState) (c : Lexeme) → is_deep s ≡ false → is_full (step logic [] s c) ≡ false → IsLive (step logic [] s c)
      → limited logic [] s c ≡ Ok (step logic [] s c)
  limited-live s c d f live = rw (d, f) (within-live (step logic [] s c) live)

  takes-one : (s : FormulaState) (c : Lexeme) → is_deep s ≡ false → is_full (step logic [] s c) ≡ false → IsLive (step logic [] s c)
      → limited_problem (reading_of logic s) c ≡ Ok (reading_of logic (step logic [] s c))
  takes-one s (a_sign sign.Dot) d f live = absurd (subst IsLive (step-dot logic [] s) live)
  takes-one s c d f live = ap (read_within logic) (limited-live s c d f live)

  takes-dot : (s : FormulaState) (w : WrittenFormula) → whole_of s ≡ Some w
      → limited_problem (reading_of logic s) (a_sign sign.Dot) ≡ Ok (problem_step (reading_of logic s) (a_sign sign.Dot))
  takes-dot s w e = ap (dotted_within logic) e ∙ sym (ap (λ o. ok_dotted o) e) where
    ok_dotted : Option WrittenFormula → Result ProblemState Code
    ok_dotted o = Ok (dotted logic o)

  takes-tokens : (cs : List Lexeme) (s : FormulaState) (w : WrittenFormula) → Fits logic [] s (cs ++ a_sign sign.Dot ∷ []) → whole_of (run logic [] s cs) ≡ Some w
      → TakesAll (reading_of logic s) (cs ++ a_sign sign.Dot ∷ [])
  takes-tokens [] s w h e = (takes-dot s w e, tt)
  takes-tokens (c ∷ cs) s w h e =
      let live : IsLive (step logic [] s c) = live-run logic [] cs (step logic [] s c) (whole-live (run logic [] (step logic [] s c) cs) w e) in
      let next : problem_step (reading_of logic s) c ≡ reading_of logic (step logic [] s c) = reading-step logic s c live in
      let F : ProblemState → Type 0 = λ t. (limited_problem (reading_of logic s) c ≡ Ok t) × TakesAll t (cs ++ a_sign sign.Dot ∷ []) in
      subst F (sym next) (takes-one s c h.0 h.1 live, takes-tokens cs (step logic [] s c) w h.2 e)

  -- the tokens of a problem within the limits
  pub takes-problem : (w : WrittenFormula) → IsBound [] [] w → IsWrittenIn logic w → written_depth w ≤ 10000 → HasSmall w
      → TakesAll start (logic_word logic ∷ formula_tokens logic w (a_sign sign.Dot ∷ []))
  takes-problem w known l le small =
      let fits : Fits logic [] (wants whole) (formula_tokens logic w (a_sign sign.Dot ∷ [])) =
      fits-formula logic [] w whole (a_sign sign.Dot ∷ []) known l tt (omega (arith, le)) small (refl, refl, tt) in
      let append : formula_tokens logic w (a_sign sign.Dot ∷ []) ≡ formula_tokens logic w [] ++ a_sign sign.Dot ∷ [] =
      formula-append logic w [] (a_sign sign.Dot ∷ []) in
      let taken : TakesAll (reading_of logic (wants whole)) (formula_tokens logic w [] ++ a_sign sign.Dot ∷ []) =
      takes-tokens (formula_tokens logic w []) (wants whole) w (subst (Fits logic [] (wants whole)) append fits) (run-ends logic [] w whole known l) in
      (takes-word logic, subst (λ s. TakesAll s (formula_tokens logic w (a_sign sign.Dot ∷ []))) (sym (start-word logic)) (subst (TakesAll (reading_of logic (wants whole))) (sym append) taken))

  pub ReadsAll-written : (w : WrittenFormula) (items : List Item) → IsBound [] [] w → IsWrittenIn logic w → written_depth w ≤ 10000 → HasSmall w
      → Says (logic_word logic ∷ formula_tokens logic w (a_sign sign.Dot ∷ [])) items
      → ReadsAll IsProblem ProblemLimits [] items (record { logic = logic; formula = w })
  ReadsAll-written w items known l le small said =
      ReadsAll-taken items (logic_word logic ∷ formula_tokens logic w (a_sign sign.Dot ∷ [])) (record { logic = logic; formula = w })
      (record { spelled = refl; is_bound = known; in_logic = l }) said (takes-problem w known l le small)
