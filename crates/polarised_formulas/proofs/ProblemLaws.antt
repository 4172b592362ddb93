-- What the machine of problems tells of the tokens so far.
use Rattle.std.proofs.Common.{◌≡◌, ◌↔◌, ℕ, Bool, true, false, if◌then◌else◌, List, [], ◌∷◌, ◌++◌, refl, ap, sym, subst, ◌∙◌, append-nil, append_assoc, codes, Option, Some, None}
use Rattle.std.specs.Str.{bytes_eq}
use Rattle.std.proofs.lemmas.Slice.Eq.{bytes_eq-Decides}
use Rattle.fpc_base.specs.declared.tokens.lexeme.Sign.TheVariants as sign
use Rattle.fpc_base.specs.Lexeme.{Lexeme, a_name, a_variable, a_sign}
use Rattle.fpc_base.specs.Reading.{Begins}
use Rattle.fpc_terms.specs.Written.{WrittenTerm, application, no_words, args_tokens}
use Rattle.fpc_terms.specs.Spot.{Spot, alone, in_arguments, in_term}
use Rattle.fpc_terms.specs.Machine as term
use Rattle.fpc_terms.proofs.TermLaws.{args_tokens-append}
use Rattle.polarised_formulas.specs.declared.logic.Logic.{Logic}
use Rattle.polarised_formulas.specs.declared.logic.Logic.TheVariants.{Lkf, Ljf}
use Rattle.polarised_formulas.specs.Written.{WrittenFormula, true_unit, false_unit, literal, pair, bind, formula_tokens, mark_tokens, joiner_sign, binder_sign, IsFormula, WrittenProblem, IsProblem, logic_word, is_known}
use Rattle.polarised_formulas.specs.Place.{Place, whole, in_first, in_second, under, scope_at, ProblemLimits}
use Rattle.polarised_formulas.specs.Machine.{FormulaState, wants, marked, binding, bound_to, named, in_atom, has, stuck, after, within_atom, step, run, whole_of, ProblemState, start, reading, finished, lost, logic_of, begun_in, read_on, dotted, problem_step, problem_run}
use Rattle.polarised_formulas.proofs.States.{IsLive}
use Rattle.polarised_formulas.proofs.Sound.{live-run}
use Rattle.polarised_formulas.proofs.FormulaLaws.{state_behind, BeginsFormula, whole-live, live-begins, whole-formula, formula-whole}

mark-append : (logic : Logic) (positive : Bool) (xs rest : List Lexeme) → mark_tokens logic positive (xs ++ rest) ≡ mark_tokens logic positive xs ++ rest
mark-append Lkf true xs rest = refl
mark-append Lkf false xs rest = refl
mark-append Ljf true xs rest = refl
mark-append Ljf false xs rest = refl

-- the tokens of a formula before others are these tokens and the others behind them
pub formula-append : (logic : Logic) (w : WrittenFormula) (xs rest : List Lexeme) → formula_tokens logic w (xs ++ rest) ≡ formula_tokens logic w xs ++ rest
formula-append logic (true_unit p) xs rest = refl
formula-append logic (false_unit p) xs rest = refl
formula-append logic (literal positive x args) xs rest =
    ap (λ l. mark_tokens logic positive (a_name x ∷ l)) (args_tokens-append args xs rest) ∙ mark-append logic positive (a_name x ∷ args_tokens args xs) rest
formula-append logic (pair j a b) xs rest =
    ap (λ l. a_sign sign.OpenParenthesis ∷ formula_tokens logic a (a_sign (joiner_sign logic j) ∷ l)) (formula-append logic b (a_sign sign.CloseParenthesis ∷ xs) rest)
    ∙ ap (λ l. a_sign sign.OpenParenthesis ∷ l)
    (formula-append logic a (a_sign (joiner_sign logic j) ∷ formula_tokens logic b (a_sign sign.CloseParenthesis ∷ xs)) rest)
formula-append logic (bind q x a) xs rest =
    ap (λ l. a_sign (binder_sign q) ∷ a_variable x ∷ a_sign sign.Colon ∷ l) (formula-append logic a xs rest)

-- a dot is no token of a formula
after-dot : (logic : Logic) (w : WrittenFormula) (p : Place) → after logic w p (a_sign sign.Dot) ≡ stuck
after-dot Lkf w whole = refl
after-dot Ljf w whole = refl
after-dot Lkf w (in_first p) = refl
after-dot Ljf w (in_first p) = refl
after-dot logic w (in_second j a p) = refl
after-dot logic w (under q x p) = after-dot logic (bind q x w) p

behind-dot : (u : WrittenTerm) (s : Spot) → term.behind u s (a_sign sign.Dot) ≡ term.stuck
behind-dot u alone = refl
behind-dot u (in_arguments done) = refl
behind-dot u (in_term x done s) = refl

pub term-dot : (known : List ℕ → Bool) (t : term.TermState) → term.step known t (a_sign sign.Dot) ≡ term.stuck
term-dot known (term.wants s) = refl
term-dot known (term.named x s) = behind-dot (application x no_words) s
term-dot known (term.has u s) = behind-dot u s
term-dot known (term.ended args) = refl
term-dot known term.stuck = refl

pub step-dot : (logic : Logic) (parameters : List (List ℕ)) (s : FormulaState) → step logic parameters s (a_sign sign.Dot) ≡ stuck
step-dot Lkf parameters (wants p) = refl
step-dot Ljf parameters (wants p) = refl
step-dot Lkf parameters (marked positive p) = refl
step-dot Ljf parameters (marked positive p) = refl
step-dot logic parameters (binding q p) = refl
step-dot logic parameters (bound_to q x p) = refl
step-dot logic parameters (named positive x p) = after-dot logic (literal positive x no_words) p
step-dot logic parameters (in_atom positive x t p) = ap (within_atom positive x p) (term-dot (is_known parameters (scope_at p)) t)
step-dot logic parameters (has w p) = after-dot logic w p
step-dot logic parameters stuck = refl

-- the word of a logic
logic-picked : (x : List ℕ) (logic : Logic) (a b : Bool) → bytes_eq x (codes "lkf") ≡ a → bytes_eq x (codes "ljf") ≡ b
    → (if a then Some Lkf else (if b then Some Ljf else None)) ≡ Some logic → a_name x ≡ logic_word logic
logic-picked x Lkf true b d e h = ap a_name ((bytes_eq-Decides x (codes "lkf")).0 d)
logic-picked x Ljf true b d e h = cc
logic-picked x Ljf false true d e h = ap a_name ((bytes_eq-Decides x (codes "ljf")).0 e)
logic-picked x Lkf false true d e h = cc
logic-picked x logic false false d e h = cc

pub logic_of-word : (x : List ℕ) (logic : Logic) → logic_of x ≡ Some logic → a_name x ≡ logic_word logic
logic_of-word x logic h = logic-picked x logic (bytes_eq x (codes "lkf")) (bytes_eq x (codes "ljf")) refl refl h

pub start-word : (logic : Logic) → problem_step start (logic_word logic) ≡ reading logic (wants whole)
start-word Lkf = refl
start-word Ljf = refl

pub run-lost : (cs : List Lexeme) → problem_run lost cs ≡ lost
run-lost [] = refl
run-lost (c ∷ cs) = run-lost cs

pub problem_run-append : (cs ds : List Lexeme) (s : ProblemState) → problem_run s (cs ++ ds) ≡ problem_run (problem_run s cs) ds
problem_run-append [] ds s = refl
problem_run-append (c ∷ cs) ds s = problem_run-append cs ds (problem_step s c)

abbrev pub IsLiveProblem : ProblemState → Type 0
IsLiveProblem lost = ⊥
IsLiveProblem _ = Unit {0}

problem-live_run : (cs : List Lexeme) (s : ProblemState) → IsLiveProblem (problem_run s cs) → IsLiveProblem s
problem-live_run cs lost live = rw (run-lost cs) at live
problem-live_run cs _ live = tt

-- one token of the formula of a problem
pub read_on-live : (logic : Logic) (s : FormulaState) → IsLive s → read_on logic s ≡ reading logic s
read_on-live logic stuck live = absurd live
read_on-live logic _ live = refl

pub reading-step : (logic : Logic) (s : FormulaState) (c : Lexeme) → IsLive (step logic [] s c) → problem_step (reading logic s) c ≡ reading logic (step logic [] s c)
reading-step logic s (a_sign sign.Dot) live = absurd (subst IsLive (step-dot logic [] s) live)
reading-step logic s c live = read_on-live logic (step logic [] s c) live

pub run-reading : (logic : Logic) (cs : List Lexeme) (s : FormulaState) → IsLive (run logic [] s cs) → problem_run (reading logic s) cs ≡ reading logic (run logic [] s cs)
run-reading logic [] s live = refl
run-reading logic (c ∷ cs) s live =
    ap (λ t. problem_run t cs) (reading-step logic s c (live-run logic [] cs (step logic [] s c) live)) ∙ run-reading logic cs (step logic [] s c) live

-- where tokens lead from within the formula
data Ran (logic : Logic) (s : FormulaState) (cs : List Lexeme) : ProblemState → Type 0 where
  within : IsLive (run logic [] s cs) → Ran logic s cs (reading logic (run logic [] s cs))
  to_end : (ds : List Lexeme) (w : WrittenFormula) → cs ≡ ds ++ a_sign sign.Dot ∷ [] → whole_of (run logic [] s ds) ≡ Some w → Ran logic s cs (finished logic w)
  to_nothing : Ran logic s cs lost

ran-on : (logic : Logic) (s : FormulaState) (c : Lexeme) (cs : List Lexeme) (t : ProblemState) → Ran logic (step logic [] s c) cs t → Ran logic s (c ∷ cs) t
ran-on logic s c cs _ (within live) = within live
ran-on logic s c cs _ (to_end ds w e h) = to_end (c ∷ ds) w (ap (λ l. c ∷ l) e) h
ran-on logic s c cs _ to_nothing = to_nothing

ran-lost : (logic : Logic) (s : FormulaState) (cs ds : List Lexeme) → Ran logic s cs (problem_run lost ds)
ran-lost logic s cs ds = rw (run-lost ds) to_nothing

ran-dot : (logic : Logic) (s : FormulaState) (cs : List Lexeme) (o : Option WrittenFormula) → whole_of s ≡ o
    → Ran logic s (a_sign sign.Dot ∷ cs) (problem_run (dotted logic o) cs)
ran-dot logic s [] (Some w) e = to_end [] w refl e
ran-dot logic s (c ∷ cs) (Some w) e = ran-lost logic s (a_sign sign.Dot ∷ c ∷ cs) cs
ran-dot logic s cs None e = ran-lost logic s (a_sign sign.Dot ∷ cs) cs

ran-token : (logic : Logic) (s : FormulaState) (c : Lexeme) (cs : List Lexeme)
    → Ran logic (step logic [] s c) cs (problem_run (read_on logic (step logic [] s c)) cs) → Ran logic s (c ∷ cs) (problem_run (problem_step (reading logic s) c) cs)
ran-token logic s (a_sign sign.Dot) cs r = ran-dot logic s cs (whole_of s) refl
ran-token logic s c cs r = ran-on logic s c cs (problem_run (read_on logic (step logic [] s c)) cs) r

ran : (logic : Logic) (cs : List Lexeme) (s : FormulaState) → Ran logic s cs (problem_run (read_on logic s) cs)
ran logic [] stuck = to_nothing
ran logic [] s = within tt
ran logic (c ∷ cs) stuck = ran-lost logic stuck (c ∷ cs) (c ∷ cs)
ran logic (c ∷ cs) s = ran-token logic s c cs (ran logic cs (step logic [] s c))

-- where tokens lead from the start
pub data Stands (tokens : List Lexeme) : ProblemState → Type 0 where
  at_start : tokens ≡ [] → Stands tokens start
  within_formula : (logic : Logic) (cs : List Lexeme) (s : FormulaState) → tokens ≡ logic_word logic ∷ cs → state_behind logic [] cs ≡ s → IsLive s
      → Stands tokens (reading logic s)
  at_end : (logic : Logic) (cs : List Lexeme) (w : WrittenFormula) → tokens ≡ logic_word logic ∷ cs ++ a_sign sign.Dot ∷ [] → IsFormula logic [] cs w
      → Stands tokens (finished logic w)
  nowhere : Stands tokens lost

stands-ran : (logic : Logic) (c : Lexeme) (cs : List Lexeme) (s : ProblemState) → c ≡ logic_word logic → Ran logic (wants whole) cs s → Stands (c ∷ cs) s
stands-ran logic c cs _ e (within live) = within_formula logic cs (state_behind logic [] cs) (ap (λ d. d ∷ cs) e) refl live
stands-ran logic c cs _ e (to_end ds w f h) =
    at_end logic ds w (ap (λ d. d ∷ cs) e ∙ ap (λ l. logic_word logic ∷ l) f) (whole-formula logic [] ds w h)
stands-ran logic c cs _ e to_nothing = nowhere

stands-lost : (tokens ds : List Lexeme) → Stands tokens (problem_run lost ds)
stands-lost tokens ds = rw (run-lost ds) nowhere

stands-word : (x : List ℕ) (cs : List Lexeme) (o : Option Logic) → logic_of x ≡ o → Stands (a_name x ∷ cs) (problem_run (begun_in o) cs)
stands-word x cs (Some logic) e =
    stands-ran logic (a_name x) cs (problem_run (reading logic (wants whole)) cs) (logic_of-word x logic e) (ran logic cs (wants whole))
stands-word x cs None e = stands-lost (a_name x ∷ cs) cs

pub stands : (tokens : List Lexeme) → Stands tokens (problem_run start tokens)
stands [] = at_start refl
stands (a_name x ∷ cs) = stands-word x cs (logic_of x) refl
stands (c ∷ cs) = stands-lost (c ∷ cs) cs

-- the state behind the tokens of a problem from its first on
abbrev pub problem_behind : List Lexeme → ProblemState
problem_behind tokens = problem_run start tokens

abbrev pub BeginsProblem : List Lexeme → Type 0
BeginsProblem tokens = Begins IsProblem ProblemLimits tokens

pub within-problem : (logic : Logic) (cs : List Lexeme) → IsLive (state_behind logic [] cs) → problem_behind (logic_word logic ∷ cs) ≡ reading logic (state_behind logic [] cs)
within-problem logic cs live = ap (λ s. problem_run s cs) (start-word logic) ∙ run-reading logic cs (wants whole) live

dotted-whole : (logic : Logic) (s : FormulaState) (w : WrittenFormula) → whole_of s ≡ Some w → problem_step (reading logic s) (a_sign sign.Dot) ≡ finished logic w
dotted-whole logic s w e = ap (dotted logic) e

end-problem : (logic : Logic) (cs : List Lexeme) (w : WrittenFormula) → IsFormula logic [] cs w
    → problem_behind (logic_word logic ∷ cs ++ a_sign sign.Dot ∷ []) ≡ finished logic w
end-problem logic cs w f =
    let e = formula-whole logic [] cs w f in
    problem_run-append (logic_word logic ∷ cs) (a_sign sign.Dot ∷ []) start
    ∙ ap (λ s. problem_step s (a_sign sign.Dot)) (within-problem logic cs (whole-live (state_behind logic [] cs) w e))
    ∙ dotted-whole logic (state_behind logic [] cs) w e

-- a problem is its word, its formula and a dot
formula-problem : (logic : Logic) (cs tokens : List Lexeme) (w : WrittenFormula) → tokens ≡ logic_word logic ∷ cs ++ a_sign sign.Dot ∷ [] → IsFormula logic [] cs w
    → IsProblem tokens (record { logic = logic; formula = w })
formula-problem logic cs tokens w e f = record {
  spelled = e
      ∙ ap (λ l. logic_word logic ∷ l ++ a_sign sign.Dot ∷ []) f.spelled
      ∙ ap (λ l. logic_word logic ∷ l) (sym (formula-append logic w [] (a_sign sign.Dot ∷ [])));
  is_bound = f.is_bound;
  in_logic = f.in_logic;
}

-- the tokens are those of a problem exactly where the machine says so
pub problem-finished : (tokens : List Lexeme) (w : WrittenProblem) → IsProblem tokens w → problem_behind tokens ≡ finished w.logic w.formula
problem-finished tokens w h =
    ap problem_behind
    (h.spelled ∙ ap (λ l. logic_word w.logic ∷ l) (formula-append w.logic w.formula [] (a_sign sign.Dot ∷ [])))
    ∙ end-problem w.logic (formula_tokens w.logic w.formula []) w.formula (record { spelled = refl; is_bound = h.is_bound; in_logic = h.in_logic })

finished-stands : (tokens : List Lexeme) (s : ProblemState) (w : WrittenProblem) → s ≡ finished w.logic w.formula → Stands tokens s → IsProblem tokens w
finished-stands tokens _ w e (at_start h) = cc
finished-stands tokens _ w e (within_formula logic cs s h r live) = cc
finished-stands tokens _ w e (at_end logic cs u h f) =
    let l : logic ≡ w.logic = cc in
    let v : u ≡ w.formula = cc in
    formula-problem w.logic cs tokens w.formula (h ∙ ap (λ k. logic_word k ∷ cs ++ a_sign sign.Dot ∷ []) l)
    (subst (λ k. IsFormula k [] cs w.formula) l (subst (IsFormula logic [] cs) v f))
finished-stands tokens _ w e nowhere = cc

pub finished-problem : (tokens : List Lexeme) (w : WrittenProblem) → problem_behind tokens ≡ finished w.logic w.formula → IsProblem tokens w
finished-problem tokens w e = finished-stands tokens (problem_behind tokens) w e (stands tokens)

pub finished-told : (tokens : List Lexeme) (w : WrittenProblem) → problem_behind tokens ≡ finished w.logic w.formula ↔ IsProblem tokens w
finished-told tokens w = (finished-problem tokens w, problem-finished tokens w)

-- the tokens are those of one problem
same-problem : (v w : WrittenProblem) → finished v.logic v.formula ≡ finished w.logic w.formula → v ≡ w
same-problem v w e =
    let l : v.logic ≡ w.logic = cc in
    let f : v.formula ≡ w.formula = cc in
    ap (λ (k : Logic). let p : WrittenProblem = record { logic = k; formula = v.formula } in p) l
    ∙ ap (λ (u : WrittenFormula). let p : WrittenProblem = record { logic = w.logic; formula = u } in p) f

pub problem-once : (tokens : List Lexeme) (v w : WrittenProblem) → IsProblem tokens v → IsProblem tokens w → v ≡ w
problem-once tokens v w h k = same-problem v w (sym (problem-finished tokens v h) ∙ problem-finished tokens w k)

-- a problem begins with the tokens exactly where the machine isn't lost
pub begins-live_problem : (tokens : List Lexeme) → BeginsProblem tokens → IsLiveProblem (problem_behind tokens)
begins-live_problem tokens b =
    problem-live_run b.0 (problem_behind tokens)
    (rw (sym (problem_run-append tokens b.0 start) ∙ problem-finished (tokens ++ b.0) b.1.0 b.1.1) tt)

begins-within : (logic : Logic) (cs tokens : List Lexeme) → tokens ≡ logic_word logic ∷ cs → BeginsFormula logic [] cs → BeginsProblem tokens
begins-within logic cs tokens e b = (
  b.0 ++ a_sign sign.Dot ∷ [],
  (
    record { logic = logic; formula = b.1.0 },
    formula-problem logic (cs ++ b.0) (tokens ++ (b.0 ++ a_sign sign.Dot ∷ [])) b.1.0
        (ap (λ l. l ++ (b.0 ++ a_sign sign.Dot ∷ [])) e ∙ ap (λ l. logic_word logic ∷ l) (sym (append_assoc cs b.0 (a_sign sign.Dot ∷ []))))
        b.1.1,
  ),
)

live-stands : (tokens : List Lexeme) (s : ProblemState) → IsLiveProblem s → Stands tokens s → BeginsProblem tokens
live-stands tokens _ live (at_start e) =
    let b : BeginsFormula Lkf [] [] = live-begins Lkf [] [] tt in (
      logic_word Lkf ∷ b.0 ++ a_sign sign.Dot ∷ [],
      (
        record { logic = Lkf; formula = b.1.0 },
        formula-problem Lkf b.0 (tokens ++ (logic_word Lkf ∷ b.0 ++ a_sign sign.Dot ∷ [])) b.1.0
            (ap (λ l. l ++ (logic_word Lkf ∷ b.0 ++ a_sign sign.Dot ∷ [])) e) b.1.1,
      ),
    )
live-stands tokens _ live (within_formula logic cs s e r l) = begins-within logic cs tokens e (live-begins logic [] cs (rw r l))
live-stands tokens _ live (at_end logic cs w e f) =
    ([], (record { logic = logic; formula = w }, formula-problem logic cs (tokens ++ []) w (append-nil tokens ∙ e) f))
live-stands tokens _ live nowhere = absurd live

pub live-begins_problem : (tokens : List Lexeme) → IsLiveProblem (problem_behind tokens) → BeginsProblem tokens
live-begins_problem tokens live = live-stands tokens (problem_behind tokens) live (stands tokens)

pub live_problem-told : (tokens : List Lexeme) → IsLiveProblem (problem_behind tokens) ↔ BeginsProblem tokens
live_problem-told tokens = (live-begins_problem tokens, begins-live_problem tokens)

pub problem_behind-step : (tokens : List Lexeme) (c : Lexeme) → problem_behind (tokens ++ c ∷ []) ≡ problem_step (problem_behind tokens) c
problem_behind-step tokens c = problem_run-append tokens (c ∷ []) start

pub step-begins_problem : (tokens : List Lexeme) (c : Lexeme) → IsLiveProblem (problem_step (problem_behind tokens) c) → BeginsProblem (tokens ++ c ∷ [])
step-begins_problem tokens c live = live-begins_problem (tokens ++ c ∷ []) (rw (problem_behind-step tokens c) live)

pub begins-step_problem : (tokens : List Lexeme) (c : Lexeme) → BeginsProblem (tokens ++ c ∷ []) → IsLiveProblem (problem_step (problem_behind tokens) c)
begins-step_problem tokens c b = rw (problem_behind-step tokens c) at (begins-live_problem (tokens ++ c ∷ []) b)
