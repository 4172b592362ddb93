-- A token of a problem is refused or taken as the machine says.
use Rattle.std.proofs.Common.{◌≡◌, ◌↔◌, ℕ, List, [], ◌∷◌, ◌++◌, refl, ap, sym, subst, ◌∙◌, Option, Some, None, Result, Ok, Err}
use Rattle.fpc_base.specs.declared.refusal.Code.{Code}
use Rattle.fpc_base.specs.declared.refusal.Code.TheVariants.{Unexpected}
use Rattle.fpc_base.specs.declared.tokens.lexeme.Sign.TheVariants as sign
use Rattle.fpc_base.specs.Lexeme.{Lexeme, a_name, a_sign}
use Rattle.fpc_base.specs.Reading.{IsTaken, IsRefused}
use Rattle.fpc_base.specs.Reading as read
use Rattle.polarised_formulas.specs.declared.logic.Logic.{Logic}
use Rattle.polarised_formulas.specs.declared.logic.Logic.TheVariants.{Lkf, Ljf}
use Rattle.polarised_formulas.specs.Written.{WrittenFormula, IsProblem, logic_word}
use Rattle.polarised_formulas.specs.Place.{FormulaLimits, too_deep, many_arguments, ProblemLimits, in_formula}
use Rattle.polarised_formulas.specs.Machine.{FormulaState, wants, stuck, step, whole_of, limited, ProblemState, reading, lost, logic_of, begun_in, dotted, read_on, begun_within, dotted_within, read_within, problem_step, limited_problem}
use Rattle.polarised_formulas.proofs.States.{IsLive}
use Rattle.fpc_base.proofs.ReadingLaws.{taken-refused, refused-once}
use Rattle.polarised_formulas.proofs.FormulaLaws.{state_behind, state_behind-step, step-begins, begins-step, leads_to-state, leads_into-state}
use Rattle.polarised_formulas.proofs.Limits.{IsJudged, limited-judged, limits-once}
use Rattle.polarised_formulas.proofs.ProblemLaws.{step-dot, read_on-live, IsLiveProblem, problem_behind, Stands, at_start, within_formula, at_end, nowhere, stands, problem-once, step-begins_problem, begins-step_problem}

-- the limits of a formula behind the word of its logic
record OfFormula (before : List Lexeme) (c : Lexeme) (code : Code) : Type 0 where
  logic : Logic
  cs : List Lexeme
  tokens : before ≡ logic_word logic ∷ cs
  limit : FormulaLimits logic [] cs c code

limits-are : (before : List Lexeme) (c : Lexeme) (code : Code) → ProblemLimits before c code → OfFormula before c code
limits-are _ _ _ (in_formula {logic = logic} {before = before} l) = record { logic = logic; cs = before; tokens = refl; limit = l }

-- the logic of the first word
abbrev first_logic : List Lexeme → Option Logic
first_logic (a_name x ∷ cs) = logic_of x
first_logic _ = None

first_logic-word : (logic : Logic) (cs : List Lexeme) → first_logic (logic_word logic ∷ cs) ≡ Some logic
first_logic-word Lkf cs = refl
first_logic-word Ljf cs = refl

word-once : (k l : Logic) (cs ds : List Lexeme) → logic_word k ∷ cs ≡ logic_word l ∷ ds → k ≡ l
word-once k l cs ds e = let h : Some k ≡ Some l = sym (first_logic-word k cs) ∙ ap first_logic e ∙ first_logic-word l ds in cc

-- the limits of a problem behind the word of its logic are those of its formula
within-limits : (logic : Logic) (cs before : List Lexeme) (c : Lexeme) (code : Code) → before ≡ logic_word logic ∷ cs → ProblemLimits before c code
    → FormulaLimits logic [] cs c code
within-limits logic cs before c code e l =
    let f : OfFormula before c code = limits-are before c code l in
    let g : logic_word f.logic ∷ f.cs ≡ logic_word logic ∷ cs = sym f.tokens ∙ e in
    let same : f.logic ≡ logic = word-once f.logic logic f.cs cs g in
    let d : f.cs ≡ cs = cc in
    subst (λ k. FormulaLimits k [] cs c code) same (subst (λ ds. FormulaLimits f.logic [] ds c code) d f.limit)

limits-within : (logic : Logic) (cs before : List Lexeme) (c : Lexeme) (code : Code) → before ≡ logic_word logic ∷ cs → FormulaLimits logic [] cs c code
    → ProblemLimits before c code
limits-within logic cs before c code e l = subst (λ b. ProblemLimits b c code) (sym e) (in_formula l)

-- no limit forbids a dot behind a whole formula
pub dot-free : (logic : Logic) (parameters : List (List ℕ)) (cs : List Lexeme) (w : WrittenFormula) (code : Code) → whole_of (state_behind logic parameters cs) ≡ Some w
    → FormulaLimits logic parameters cs (a_sign sign.Dot) code → ⊥
dot-free logic parameters cs w _ e (too_deep l) =
    let f : whole_of (wants l.place) ≡ Some w = ap whole_of (sym (leads_to-state logic parameters 10001 cs l)) ∙ e in cc
dot-free logic parameters cs w _ e (many_arguments n l) =
    subst IsLive
    (sym (leads_into-state logic parameters 255 (cs ++ a_sign sign.Dot ∷ []) l)
    ∙ state_behind-step logic parameters cs (a_sign sign.Dot)
    ∙ step-dot logic parameters (state_behind logic parameters cs))
    tt

-- what the answer about a token says, where its step leads to a state
abbrev pub IsProblemJudged : List Lexeme → Lexeme → ProblemState → Result ProblemState Code → Type 0
IsProblemJudged before c t (Ok u) = IsTaken IsProblem ProblemLimits before c × (t ≡ u)
IsProblemJudged before c t (Err code) = IsRefused IsProblem ProblemLimits before c code

-- a token with which nothing begins
no-problem : (before : List Lexeme) (c : Lexeme) → problem_step (problem_behind before) c ≡ lost → IsRefused IsProblem ProblemLimits before c Unexpected
no-problem before c e = read.IsRefused.unexpected (λ b. subst IsLiveProblem e (begins-step_problem before c b))

pub stuck-is : (s : FormulaState) → (IsLive s → ⊥) → s ≡ stuck
stuck-is stuck n = refl
stuck-is _ n = absurd (n tt)

judged-start : (before : List Lexeme) (x : List ℕ) (o : Option Logic) → before ≡ [] → logic_of x ≡ o
    → problem_step (problem_behind before) (a_name x) ≡ begun_in o → IsProblemJudged before (a_name x) (begun_in o) (begun_within o)
judged-start before x (Some logic) e o s = (
  record { begins = step-begins_problem before (a_name x) (rw s tt); free = λ code l. no-limit (limits-are before (a_name x) code l) },
  refl,
) where
  no-limit : {code : Code} → OfFormula before (a_name x) code → ⊥
  no-limit f = let g : [] ≡ logic_word f.logic ∷ f.cs = sym e ∙ f.tokens in cc
judged-start before x None e o s = no-problem before (a_name x) s

judged-dot : (before : List Lexeme) (logic : Logic) (cs : List Lexeme) (o : Option WrittenFormula) → before ≡ logic_word logic ∷ cs
    → whole_of (state_behind logic [] cs) ≡ o → problem_step (problem_behind before) (a_sign sign.Dot) ≡ dotted logic o
    → IsProblemJudged before (a_sign sign.Dot) (dotted logic o) (dotted_within logic o)
judged-dot before logic cs (Some w) e o s = (
  record {
    begins = step-begins_problem before (a_sign sign.Dot) (rw s tt);
    free = λ code l. dot-free logic [] cs w code o (within-limits logic cs before (a_sign sign.Dot) code e l);
  },
  refl,
)
judged-dot before logic cs None e o s = no-problem before (a_sign sign.Dot) s

judged-within : (before : List Lexeme) (logic : Logic) (cs : List Lexeme) (c : Lexeme) (r : Result FormulaState Code) → before ≡ logic_word logic ∷ cs
    → problem_step (problem_behind before) c ≡ read_on logic (step logic [] (state_behind logic [] cs) c)
    → IsJudged logic [] cs c (step logic [] (state_behind logic [] cs) c) r
    → IsProblemJudged before c (read_on logic (step logic [] (state_behind logic [] cs) c)) (read_within logic r)
judged-within before logic cs c (Ok u) e s j =
    let live : IsLive (step logic [] (state_behind logic [] cs) c) = begins-step logic [] cs c j.0.begins in
    let t : read_on logic (step logic [] (state_behind logic [] cs) c) ≡ reading logic (step logic [] (state_behind logic [] cs) c) =
    read_on-live logic (step logic [] (state_behind logic [] cs) c) live in (
      record {
        begins = step-begins_problem before c (rw (s ∙ t) tt);
        free = λ code l. j.0.free code (within-limits logic cs before c code e l);
      },
      t ∙ ap (reading logic) j.1,
    )
judged-within before logic cs c (Err _) e s (read.IsRefused.unexpected n) =
    no-problem before c (s ∙ ap (read_on logic) (stuck-is (step logic [] (state_behind logic [] cs) c) (λ live. n (step-begins logic [] cs c live))))
judged-within before logic cs c (Err _) e s (read.IsRefused.limited {code = code} b l) =
    let live : IsLive (step logic [] (state_behind logic [] cs) c) = begins-step logic [] cs c b in
    read.IsRefused.limited (step-begins_problem before c (rw (s ∙ read_on-live logic (step logic [] (state_behind logic [] cs) c) live) tt))
    (limits-within logic cs before c code e l)

judged-reading : (before : List Lexeme) (logic : Logic) (cs : List Lexeme) (s : FormulaState) (c : Lexeme) → before ≡ logic_word logic ∷ cs
    → state_behind logic [] cs ≡ s → problem_step (problem_behind before) c ≡ problem_step (reading logic s) c
    → IsProblemJudged before c (problem_step (reading logic s) c) (limited_problem (reading logic s) c)
judged-reading before logic cs s (a_sign sign.Dot) e r t =
    judged-dot before logic cs (whole_of s) e (ap whole_of r) t
judged-reading before logic cs s c e r t =
    subst (λ u. problem_step (problem_behind before) c ≡ read_on logic (step logic [] u c)
    → IsProblemJudged before c (read_on logic (step logic [] u c)) (read_within logic (limited logic [] u c))) r
    (λ q. judged-within before logic cs c (limited logic [] (state_behind logic [] cs) c) e q (limited-judged logic [] cs c)) t

judged-stands : (before : List Lexeme) (c : Lexeme) (s : ProblemState) → problem_behind before ≡ s → Stands before s
    → IsProblemJudged before c (problem_step s c) (limited_problem s c)
judged-stands before (a_name x) _ r (at_start e) = judged-start before x (logic_of x) e refl (ap (λ s. problem_step s (a_name x)) r)
judged-stands before c _ r (at_start e) = no-problem before c (ap (λ s. problem_step s c) r)
judged-stands before c _ r (within_formula logic cs s e f live) = judged-reading before logic cs s c e f (ap (λ t. problem_step t c) r)
judged-stands before c _ r (at_end logic cs w e f) = no-problem before c (ap (λ s. problem_step s c) r)
judged-stands before c _ r nowhere = no-problem before c (ap (λ s. problem_step s c) r)

-- the limits judge each token
pub limited_problem-judged : (before : List Lexeme) (c : Lexeme)
    → IsProblemJudged before c (problem_step (problem_behind before) c) (limited_problem (problem_behind before) c)
limited_problem-judged before c = judged-stands before c (problem_behind before) refl (stands before)

-- one limit forbids a token
pub problem_limits-once : (before : List Lexeme) (c : Lexeme) (a b : Code) → ProblemLimits before c a → ProblemLimits before c b → a ≡ b
problem_limits-once before c a b l m =
    let f : OfFormula before c a = limits-are before c a l in limits-once f.logic [] f.cs c a b f.limit (within-limits f.logic f.cs before c b f.tokens m)

answer-refused : (before : List Lexeme) (c : Lexeme) (t : ProblemState) (r : Result ProblemState Code) (code : Code) → IsProblemJudged before c t r
    → IsRefused IsProblem ProblemLimits before c code → r ≡ Err code
answer-refused before c t (Ok u) code j h = absurd (taken-refused IsProblem ProblemLimits j.0 h)
answer-refused before c t (Err d) code j h = ap Err (refused-once IsProblem ProblemLimits problem-once problem_limits-once j h)

answer-taken : (before : List Lexeme) (c : Lexeme) (t : ProblemState) (r : Result ProblemState Code) → IsProblemJudged before c t r
    → IsTaken IsProblem ProblemLimits before c → r ≡ Ok t
answer-taken before c t (Ok u) j h = ap Ok (sym j.1)
answer-taken before c t (Err d) j h = absurd (taken-refused IsProblem ProblemLimits h j)

-- a token is refused with a code exactly where the answer is this code
pub problem_refused-told : (before : List Lexeme) (c : Lexeme) (code : Code)
    → limited_problem (problem_behind before) c ≡ Err code ↔ IsRefused IsProblem ProblemLimits before c code
problem_refused-told before c code = (
  λ e. subst (IsProblemJudged before c (problem_step (problem_behind before) c)) e (limited_problem-judged before c),
  answer-refused before c (problem_step (problem_behind before) c) (limited_problem (problem_behind before) c) code (limited_problem-judged before c),
)

-- a token is taken exactly where the answer is the next state
pub problem_taken-told : (before : List Lexeme) (c : Lexeme) (t : ProblemState)
    → limited_problem (problem_behind before) c ≡ Ok t
    ↔ (IsTaken IsProblem ProblemLimits before c × (problem_step (problem_behind before) c ≡ t))
problem_taken-told before c t = (
  λ e. subst (IsProblemJudged before c (problem_step (problem_behind before) c)) e (limited_problem-judged before c),
  λ h. answer-taken before c (problem_step (problem_behind before) c) (limited_problem (problem_behind before) c) (limited_problem-judged before c) h.0 ∙ ap Ok h.1,
)
