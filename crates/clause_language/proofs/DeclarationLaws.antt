-- What the machine of declarations tells of the tokens so far.
use Rattle.std.proofs.Common.{◌≡◌, ◌⊎◌, inl, inr, ℕ, Bool, true, false, if◌then◌else◌, nat_eq, List, [], ◌∷◌, ◌++◌, refl, ap, sym, subst, ◌∙◌, append-nil, append_assoc, length, arith, Option, Some, None, Result, Ok, Err}
use Rattle.std.proofs.lemmas.Bool.Decides.{Decides-eqb}
use Rattle.std.proofs.lemmas.Bool.{false≢true}
use Rattle.fpc_base.specs.declared.refusal.Code.{Code}
use Rattle.fpc_base.specs.declared.refusal.Code.TheVariants.{Unexpected, ManyArguments, DuplicateFormula}
use Rattle.fpc_base.specs.declared.tokens.lexeme.Sign.TheVariants as sign
use Rattle.fpc_base.specs.Lexeme.{Lexeme, a_name, a_variable, a_sign}
use Rattle.fpc_base.specs.Tokens.{is_one_of}
use Rattle.fpc_base.specs.Reading as read
use Rattle.fpc_terms.specs.Name.{AreDifferent}
use Rattle.polarised_formulas.specs.declared.logic.Logic.{Logic}
use Rattle.polarised_formulas.specs.Written.{WrittenFormula, formula_tokens, IsFormula}
use Rattle.polarised_formulas.specs.Place.{whole, FormulaLimits}
use Rattle.polarised_formulas.specs.Machine as formula
use Rattle.polarised_formulas.proofs.States.{IsLive}
use Rattle.polarised_formulas.proofs.Sound.{live-run, run-append}
use Rattle.polarised_formulas.proofs.FormulaLaws.{state_behind, state_behind-step, whole-live, live-begins, whole-formula, formula-whole, step-begins, begins-step}
use Rattle.polarised_formulas.proofs.Limits.{IsJudged, limited-judged, limits-once, limits-expected, limits-live}
use Rattle.polarised_formulas.proofs.ProblemLaws.{formula-append, step-dot}
use Rattle.polarised_formulas.proofs.ProblemLimits.{stuck-is, dot-free}
use Rattle.clause_language.specs.Written.{declaration, more_parameter_tokens, parameter_tokens, declared_tokens, item_tokens, IsItemOf}
use Rattle.clause_language.specs.Limits.{done_parameter_tokens, DeclarationLimits, duplicate, many_parameters, in_formula as formula_limits}
use Rattle.clause_language.specs.DeclarationMachine.{DeclarationState, at_word, at_name, behind_name, at_parameter, behind_parameter, at_defined, in_formula, ended, stuck, with_parameter, dotted, read_on, step, run, within, named_within, read_within, limited}
use Rattle.clause_language.proofs.Parameters.{done-push, done-append, done-close, parameter-append, declared-append, declared-same, AreDifferent-none, AreDifferent-push, absent-before, fresh, fresh-absent}

-- a declaration begins so
abbrev pub IsLiveDeclaration : DeclarationState → Type 0
IsLiveDeclaration stuck = ⊥
IsLiveDeclaration _ = Unit {0}

-- a declaration begins so, and it has not ended
abbrev pub IsGoingDeclaration : DeclarationState → Type 0
IsGoingDeclaration (ended x ps w) = ⊥
IsGoingDeclaration stuck = ⊥
IsGoingDeclaration _ = Unit {0}

-- the parameters that the state keeps are different
abbrev pub AreParametersDifferent : DeclarationState → Type 0
AreParametersDifferent (at_parameter x ps) = AreDifferent ps
AreParametersDifferent (behind_parameter x ps) = AreDifferent ps
AreParametersDifferent (at_defined x ps) = AreDifferent ps
AreParametersDifferent (in_formula x ps s) = AreDifferent ps
AreParametersDifferent (ended x ps w) = AreDifferent ps
AreParametersDifferent _ = Unit {0}

-- the tokens of a declaration behind its open parenthesis, and before other tokens
abbrev opened : List ℕ → List (List ℕ) → List Lexeme → List Lexeme
opened x ps rest = a_sign sign.Formula ∷ a_name x ∷ a_sign sign.OpenParenthesis ∷ done_parameter_tokens ps rest

opened-append : (x : List ℕ) (ps : List (List ℕ)) (xs rest : List Lexeme) → opened x ps (xs ++ rest) ≡ opened x ps xs ++ rest
opened-append x ps xs rest = ap (λ l. a_sign sign.Formula ∷ a_name x ∷ a_sign sign.OpenParenthesis ∷ l) (done-append ps xs rest)

opened-comma : (before : List Lexeme) (x : List ℕ) (ps qs : List (List ℕ)) (y : List ℕ) → ps ≡ qs ++ y ∷ [] → before ≡ opened x qs (a_variable y ∷ [])
    → before ++ a_sign sign.Comma ∷ [] ≡ opened x ps []
opened-comma before x ps qs y p e =
    ap (λ l. l ++ a_sign sign.Comma ∷ []) e
    ∙ sym (opened-append x qs (a_variable y ∷ []) (a_sign sign.Comma ∷ []))
    ∙ ap (λ l. a_sign sign.Formula ∷ a_name x ∷ a_sign sign.OpenParenthesis ∷ l) (sym (done-push qs y []))
    ∙ ap (λ l. opened x l []) (sym p)

-- a formula's state as the declaration's
pub read_on-live : (x : List ℕ) (ps : List (List ℕ)) (s : formula.FormulaState) → IsLive s → read_on x ps s ≡ in_formula x ps s
read_on-live x ps formula.stuck live = absurd live
read_on-live x ps _ live = refl

-- a new parameter
with-new : (x : List ℕ) (ps : List (List ℕ)) (y : List ℕ) → is_one_of ps y ≡ false → with_parameter (is_one_of ps y) x ps y ≡ behind_parameter x (ps ++ y ∷ [])
with-new x ps y absent = ap (λ b. with_parameter b x ps y) absent

module _ (logic : Logic) where
  -- the state behind the tokens of a declaration from its first on
  abbrev pub declaration_behind : List Lexeme → DeclarationState
  declaration_behind tokens = run logic at_word tokens

  pub declaration_run-append : (cs ds : List Lexeme) (s : DeclarationState) → run logic s (cs ++ ds) ≡ run logic (run logic s cs) ds
  declaration_run-append [] ds s = refl
  declaration_run-append (c ∷ cs) ds s = declaration_run-append cs ds (step logic s c)

  pub declaration_run-stuck : (cs : List Lexeme) → run logic stuck cs ≡ stuck
  declaration_run-stuck [] = refl
  declaration_run-stuck (c ∷ cs) = declaration_run-stuck cs

  pub declaration_ended-stops : (x : List ℕ) (ps : List (List ℕ)) (w : WrittenFormula) (c : Lexeme) → step logic (ended x ps w) c ≡ stuck
  declaration_ended-stops x ps w c = refl

  pub declaration_behind-step : (tokens : List Lexeme) (c : Lexeme) → declaration_behind (tokens ++ c ∷ []) ≡ step logic (declaration_behind tokens) c
  declaration_behind-step tokens c = declaration_run-append tokens (c ∷ []) at_word

  -- the tokens of a declaration before others are these tokens and the others behind them
  pub declaration-append : (x : List ℕ) (ps : List (List ℕ)) (w : WrittenFormula) (xs rest : List Lexeme)
      → item_tokens logic (declaration x ps w) (xs ++ rest) ≡ item_tokens logic (declaration x ps w) xs ++ rest
  declaration-append x ps w xs rest =
      ap (declared_tokens x ps) (formula-append logic w (a_sign sign.Dot ∷ xs) rest) ∙ declared-append x ps (formula_tokens logic w (a_sign sign.Dot ∷ xs)) rest

  -- one token of the formula of a declaration
  formula-step : (x : List ℕ) (ps : List (List ℕ)) (s : formula.FormulaState) (c : Lexeme) → IsLive (formula.step logic ps s c)
      → step logic (in_formula x ps s) c ≡ in_formula x ps (formula.step logic ps s c)
  formula-step x ps s (a_sign sign.Dot) live = absurd (subst IsLive (step-dot logic ps s) live)
  formula-step x ps s c live = read_on-live x ps (formula.step logic ps s c) live

  formula-run : (x : List ℕ) (ps : List (List ℕ)) (cs : List Lexeme) (s : formula.FormulaState) → IsLive (formula.run logic ps s cs)
      → run logic (in_formula x ps s) cs ≡ in_formula x ps (formula.run logic ps s cs)
  formula-run x ps [] s live = refl
  formula-run x ps (c ∷ cs) s live =
      ap (λ t. run logic t cs) (formula-step x ps s c (live-run logic ps cs (formula.step logic ps s c) live)) ∙ formula-run x ps cs (formula.step logic ps s c) live

  -- where tokens lead from the start
  pub data Stands (tokens : List Lexeme) : DeclarationState → Type 0 where
    stands_at_word : tokens ≡ [] → Stands tokens at_word
    stands_at_name : tokens ≡ a_sign sign.Formula ∷ [] → Stands tokens at_name
    stands_behind_name : (x : List ℕ) → tokens ≡ a_sign sign.Formula ∷ a_name x ∷ [] → Stands tokens (behind_name x)
    stands_at_parameter : (x : List ℕ) (ps : List (List ℕ)) → AreDifferent ps → tokens ≡ opened x ps [] → Stands tokens (at_parameter x ps)
    stands_behind_parameter : (x : List ℕ) (ps qs : List (List ℕ)) (y : List ℕ) → AreDifferent ps → ps ≡ qs ++ y ∷ [] → tokens ≡ opened x qs (a_variable y ∷ [])
        → Stands tokens (behind_parameter x ps)
    stands_at_defined : (x : List ℕ) (ps : List (List ℕ)) → AreDifferent ps → tokens ≡ a_sign sign.Formula ∷ a_name x ∷ parameter_tokens ps []
        → Stands tokens (at_defined x ps)
    stands_in_formula : (x : List ℕ) (ps : List (List ℕ)) (cs : List Lexeme) (s : formula.FormulaState) → AreDifferent ps → tokens ≡ declared_tokens x ps cs
        → state_behind logic ps cs ≡ s → IsLive s → Stands tokens (in_formula x ps s)
    stands_ended : (x : List ℕ) (ps : List (List ℕ)) (cs : List Lexeme) (w : WrittenFormula) → AreDifferent ps
        → tokens ≡ declared_tokens x ps (cs ++ a_sign sign.Dot ∷ []) → IsFormula logic ps cs w → Stands tokens (ended x ps w)
    nowhere : Stands tokens stuck

  stands-variable : (before : List Lexeme) (x : List ℕ) (ps : List (List ℕ)) (y : List ℕ) (known : Bool) → is_one_of ps y ≡ known → AreDifferent ps
      → before ≡ opened x ps [] → Stands (before ++ a_variable y ∷ []) (with_parameter known x ps y)
  stands-variable before x ps y true k d e = nowhere
  stands-variable before x ps y false k d e =
      stands_behind_parameter x (ps ++ y ∷ []) ps y (AreDifferent-push ps y d k) refl
      (ap (λ l. l ++ a_variable y ∷ []) e ∙ sym (opened-append x ps [] (a_variable y ∷ [])))

  stands-dot : (before : List Lexeme) (x : List ℕ) (ps : List (List ℕ)) (cs : List Lexeme) (o : Option WrittenFormula) → AreDifferent ps
      → before ≡ declared_tokens x ps cs → formula.whole_of (state_behind logic ps cs) ≡ o → Stands (before ++ a_sign sign.Dot ∷ []) (dotted x ps o)
  stands-dot before x ps cs (Some w) d e h =
      stands_ended x ps cs w d (ap (λ l. l ++ a_sign sign.Dot ∷ []) e ∙ sym (declared-append x ps cs (a_sign sign.Dot ∷ []))) (whole-formula logic ps cs w h)
  stands-dot before x ps cs None d e h = nowhere

  stands-within : (before : List Lexeme) (x : List ℕ) (ps : List (List ℕ)) (cs : List Lexeme) (c : Lexeme) (t : formula.FormulaState) → AreDifferent ps
      → before ≡ declared_tokens x ps cs → formula.step logic ps (state_behind logic ps cs) c ≡ t → Stands (before ++ c ∷ []) (read_on x ps t)
  stands-within before x ps cs c formula.stuck d e h = nowhere
  stands-within before x ps cs c t d e h =
      stands_in_formula x ps (cs ++ c ∷ []) t d (ap (λ l. l ++ c ∷ []) e ∙ sym (declared-append x ps cs (c ∷ []))) (state_behind-step logic ps cs c ∙ h) tt

  stands-step : (before : List Lexeme) (c : Lexeme) (s : DeclarationState) → Stands before s → Stands (before ++ c ∷ []) (step logic s c)
  stands-step before (a_sign sign.Formula) _ (stands_at_word e) = stands_at_name (ap (λ l. l ++ a_sign sign.Formula ∷ []) e)
  stands-step before c _ (stands_at_word e) = nowhere
  stands-step before (a_name x) _ (stands_at_name e) = stands_behind_name x (ap (λ l. l ++ a_name x ∷ []) e)
  stands-step before c _ (stands_at_name e) = nowhere
  stands-step before (a_sign sign.OpenParenthesis) _ (stands_behind_name x e) =
      stands_at_parameter x [] AreDifferent-none (ap (λ l. l ++ a_sign sign.OpenParenthesis ∷ []) e)
  stands-step before (a_sign sign.Defined) _ (stands_behind_name x e) =
      stands_in_formula x [] [] (formula.wants whole) AreDifferent-none (ap (λ l. l ++ a_sign sign.Defined ∷ []) e) refl tt
  stands-step before c _ (stands_behind_name x e) = nowhere
  stands-step before (a_variable y) _ (stands_at_parameter x ps d e) = stands-variable before x ps y (is_one_of ps y) refl d e
  stands-step before c _ (stands_at_parameter x ps d e) = nowhere
  stands-step before (a_sign sign.Comma) _ (stands_behind_parameter x ps qs y d p e) =
      stands_at_parameter x ps d (opened-comma before x ps qs y p e)
  stands-step before (a_sign sign.CloseParenthesis) _ (stands_behind_parameter x ps qs y d p e) =
      stands_at_defined x ps d
      (ap (λ l. l ++ a_sign sign.CloseParenthesis ∷ []) e
      ∙ sym (opened-append x qs (a_variable y ∷ []) (a_sign sign.CloseParenthesis ∷ []))
      ∙ ap (λ l. a_sign sign.Formula ∷ a_name x ∷ l) (done-close qs y [])
      ∙ ap (λ l. a_sign sign.Formula ∷ a_name x ∷ parameter_tokens l []) (sym p))
  stands-step before c _ (stands_behind_parameter x ps qs y d p e) = nowhere
  stands-step before (a_sign sign.Defined) _ (stands_at_defined x ps d e) =
      stands_in_formula x ps [] (formula.wants whole) d
      (ap (λ l. l ++ a_sign sign.Defined ∷ []) e ∙ ap (λ l. a_sign sign.Formula ∷ a_name x ∷ l) (sym (parameter-append ps [] (a_sign sign.Defined ∷ []))))
      refl tt
  stands-step before c _ (stands_at_defined x ps d e) = nowhere
  stands-step before (a_sign sign.Dot) _ (stands_in_formula x ps cs s d e r live) = stands-dot before x ps cs (formula.whole_of s) d e (ap formula.whole_of r)
  stands-step before c _ (stands_in_formula x ps cs s d e r live) =
      stands-within before x ps cs c (formula.step logic ps s c) d e (ap (λ u. formula.step logic ps u c) r)
  stands-step before c _ (stands_ended x ps cs w d e f) = nowhere
  stands-step before c _ nowhere = nowhere

  stands-run : (cs before : List Lexeme) (s : DeclarationState) → Stands before s → Stands (before ++ cs) (run logic s cs)
  stands-run [] before s h = subst (λ l. Stands l s) (sym (append-nil before)) h
  stands-run (c ∷ cs) before s h =
      subst (λ l. Stands l (run logic (step logic s c) cs)) (append_assoc before (c ∷ []) cs) (stands-run cs (before ++ c ∷ []) (step logic s c) (stands-step before c s h))

  pub stands : (tokens : List Lexeme) → Stands tokens (declaration_behind tokens)
  stands tokens = stands-run tokens [] at_word (stands_at_word refl)

  -- the parameters that a state keeps are different
  different-stands : (tokens : List Lexeme) (s : DeclarationState) → Stands tokens s → AreParametersDifferent s
  different-stands tokens _ (stands_at_word e) = tt
  different-stands tokens _ (stands_at_name e) = tt
  different-stands tokens _ (stands_behind_name x e) = tt
  different-stands tokens _ (stands_at_parameter x ps d e) = d
  different-stands tokens _ (stands_behind_parameter x ps qs y d p e) = d
  different-stands tokens _ (stands_at_defined x ps d e) = d
  different-stands tokens _ (stands_in_formula x ps cs s d e r live) = d
  different-stands tokens _ (stands_ended x ps cs w d e f) = d
  different-stands tokens _ nowhere = tt

  pub parameters-different : (tokens : List Lexeme) (s : DeclarationState) → declaration_behind tokens ≡ s → AreParametersDifferent s
  parameters-different tokens s e = subst AreParametersDifferent e (different-stands tokens (declaration_behind tokens) (stands tokens))

  -- the run over parameters
  pub run-done : (x : List ℕ) (ds ps : List (List ℕ)) (rest : List Lexeme) → AreDifferent (ds ++ ps)
      → run logic (at_parameter x ds) (done_parameter_tokens ps rest) ≡ run logic (at_parameter x (ds ++ ps)) rest
  run-done x ds [] rest d = ap (λ l. run logic (at_parameter x l) rest) (sym (append-nil ds))
  run-done x ds (p ∷ ps) rest d =
      ap (λ s. run logic (step logic s (a_sign sign.Comma)) (done_parameter_tokens ps rest)) (with-new x ds p (absent-before ds ps p d))
      ∙ run-done x (ds ++ p ∷ []) ps rest (subst AreDifferent (sym (append_assoc ds (p ∷ []) ps)) d)
      ∙ ap (λ l. run logic (at_parameter x l) rest) (append_assoc ds (p ∷ []) ps)

  run-more : (x : List ℕ) (ds ps : List (List ℕ)) (rest : List Lexeme) → AreDifferent (ds ++ ps)
      → run logic (behind_parameter x ds) (more_parameter_tokens ps rest) ≡ run logic (at_defined x (ds ++ ps)) rest
  run-more x ds [] rest d = ap (λ l. run logic (at_defined x l) rest) (sym (append-nil ds))
  run-more x ds (p ∷ ps) rest d =
      ap (λ s. run logic s (more_parameter_tokens ps rest)) (with-new x ds p (absent-before ds ps p d))
      ∙ run-more x (ds ++ p ∷ []) ps rest (subst AreDifferent (sym (append_assoc ds (p ∷ []) ps)) d)
      ∙ ap (λ l. run logic (at_defined x l) rest) (append_assoc ds (p ∷ []) ps)

  run-declared : (x : List ℕ) (ps : List (List ℕ)) (rest : List Lexeme) → AreDifferent ps
      → run logic at_word (declared_tokens x ps rest) ≡ run logic (in_formula x ps (formula.wants whole)) rest
  run-declared x [] rest d = refl
  run-declared x (p ∷ ps) rest d = run-more x (p ∷ []) ps (a_sign sign.Defined ∷ rest) d

  pub declared-behind : (x : List ℕ) (ps : List (List ℕ)) (cs : List Lexeme) → AreDifferent ps → IsLive (state_behind logic ps cs)
      → declaration_behind (declared_tokens x ps cs) ≡ in_formula x ps (state_behind logic ps cs)
  declared-behind x ps cs d live = run-declared x ps cs d ∙ formula-run x ps cs (formula.wants whole) live

  end-declared : (x : List ℕ) (ps : List (List ℕ)) (cs : List Lexeme) (w : WrittenFormula) → AreDifferent ps → formula.whole_of (state_behind logic ps cs) ≡ Some w
      → declaration_behind (declared_tokens x ps (cs ++ a_sign sign.Dot ∷ [])) ≡ ended x ps w
  end-declared x ps cs w d e =
      ap declaration_behind (declared-append x ps cs (a_sign sign.Dot ∷ []))
      ∙ declaration_run-append (declared_tokens x ps cs) (a_sign sign.Dot ∷ []) at_word
      ∙ ap (λ s. step logic s (a_sign sign.Dot)) (declared-behind x ps cs d (whole-live (state_behind logic ps cs) w e))
      ∙ ap (dotted x ps) e

  -- the tokens are those of a declaration exactly where the machine says so
  pub declaration-ended : (x : List ℕ) (ps : List (List ℕ)) (w : WrittenFormula) → IsItemOf logic (declaration x ps w)
      → declaration_behind (item_tokens logic (declaration x ps w) []) ≡ ended x ps w
  declaration-ended x ps w h =
      ap (λ l. declaration_behind (declared_tokens x ps l)) (formula-append logic w [] (a_sign sign.Dot ∷ []))
      ∙ end-declared x ps (formula_tokens logic w []) w h.0
      (formula-whole logic ps (formula_tokens logic w []) w (record { spelled = refl; is_bound = h.1; in_logic = h.2 }))

  of_ended : (tokens : List Lexeme) (x : List ℕ) (ps : List (List ℕ)) (w : WrittenFormula) → Stands tokens (ended x ps w)
      → (tokens ≡ item_tokens logic (declaration x ps w) []) × IsItemOf logic (declaration x ps w)
  of_ended tokens x ps w (stands_ended _ _ cs _ d e f) = (
    e
        ∙ ap (λ l. declared_tokens x ps (l ++ a_sign sign.Dot ∷ [])) f.spelled
        ∙ ap (declared_tokens x ps) (sym (formula-append logic w [] (a_sign sign.Dot ∷ []))),
    (d, f.is_bound, f.in_logic),
  )

  pub ended-declaration : (tokens : List Lexeme) (x : List ℕ) (ps : List (List ℕ)) (w : WrittenFormula) → declaration_behind tokens ≡ ended x ps w
      → (tokens ≡ item_tokens logic (declaration x ps w) []) × IsItemOf logic (declaration x ps w)
  ended-declaration tokens x ps w e = of_ended tokens x ps w (subst (Stands tokens) e (stands tokens))

  -- tokens that end a state
  abbrev Ends : DeclarationState → Type 0
  Ends s = (more : List Lexeme) × ((x : List ℕ) × ((ps : List (List ℕ)) × ((w : WrittenFormula) × (run logic s more ≡ ended x ps w))))

  ends-token : (c : Lexeme) (s t : DeclarationState) → step logic s c ≡ t → Ends t → Ends s
  ends-token c s t h e = (c ∷ e.0, (e.1.0, (e.1.1.0, (e.1.1.1.0, ap (λ u. run logic u e.0) h ∙ e.1.1.1.1))))

  ends-formula : (x : List ℕ) (ps : List (List ℕ)) (cs : List Lexeme) → IsLive (state_behind logic ps cs) → Ends (in_formula x ps (state_behind logic ps cs))
  ends-formula x ps cs live =
      let b = live-begins logic ps cs live in
      let e : formula.whole_of (formula.run logic ps (state_behind logic ps cs) b.0) ≡ Some b.1.0 =
      ap formula.whole_of (sym (run-append logic ps cs b.0 (formula.wants whole))) ∙ formula-whole logic ps (cs ++ b.0) b.1.0 b.1.1 in (
        b.0 ++ a_sign sign.Dot ∷ [],
        (
          x,
          (
            ps,
            (
              b.1.0,
              declaration_run-append b.0 (a_sign sign.Dot ∷ []) (in_formula x ps (state_behind logic ps cs))
                  ∙ ap (λ t. step logic t (a_sign sign.Dot))
                  (formula-run x ps b.0 (state_behind logic ps cs) (whole-live (formula.run logic ps (state_behind logic ps cs) b.0) b.1.0 e))
                  ∙ ap (dotted x ps) e,
            ),
          ),
        ),
      )

  ends-defined : (x : List ℕ) (ps : List (List ℕ)) → Ends (at_defined x ps)
  ends-defined x ps = ends-token (a_sign sign.Defined) (at_defined x ps) (in_formula x ps (formula.wants whole)) refl (ends-formula x ps [] tt)

  ends-behind : (x : List ℕ) (ps : List (List ℕ)) → Ends (behind_parameter x ps)
  ends-behind x ps = ends-token (a_sign sign.CloseParenthesis) (behind_parameter x ps) (at_defined x ps) refl (ends-defined x ps)

  ends-parameter : (x : List ℕ) (ps : List (List ℕ)) → Ends (at_parameter x ps)
  ends-parameter x ps =
      ends-token (a_variable (fresh ps)) (at_parameter x ps) (behind_parameter x (ps ++ fresh ps ∷ [])) (with-new x ps (fresh ps) (fresh-absent ps))
      (ends-behind x (ps ++ fresh ps ∷ []))

  ends-behind_name : (x : List ℕ) → Ends (behind_name x)
  ends-behind_name x = ends-token (a_sign sign.Defined) (behind_name x) (in_formula x [] (formula.wants whole)) refl (ends-formula x [] [] tt)

  ends-name : Ends at_name
  ends-name = ends-token (a_name (120 ∷ [])) at_name (behind_name (120 ∷ [])) refl (ends-behind_name (120 ∷ []))

  ends : (tokens : List Lexeme) (s : DeclarationState) → Stands tokens s → IsLiveDeclaration s → Ends s
  ends tokens _ (stands_at_word e) live = ends-token (a_sign sign.Formula) at_word at_name refl ends-name
  ends tokens _ (stands_at_name e) live = ends-name
  ends tokens _ (stands_behind_name x e) live = ends-behind_name x
  ends tokens _ (stands_at_parameter x ps d e) live = ends-parameter x ps
  ends tokens _ (stands_behind_parameter x ps qs y d p e) live = ends-behind x ps
  ends tokens _ (stands_at_defined x ps d e) live = ends-defined x ps
  ends tokens _ (stands_in_formula x ps cs s d e r l) live = subst (λ u. Ends (in_formula x ps u)) r (ends-formula x ps cs (rw r l))
  ends tokens _ (stands_ended x ps cs w d e f) live = ([], (x, (ps, (w, refl))))
  ends tokens _ nowhere live = absurd live

  -- a declaration begins with the tokens where the machine isn't stuck
  pub declaration-ends : (tokens : List Lexeme) → IsLiveDeclaration (declaration_behind tokens)
      → (more : List Lexeme) × ((x : List ℕ) × ((ps : List (List ℕ)) × ((w : WrittenFormula) × (declaration_behind (tokens ++ more) ≡ ended x ps w))))
  declaration-ends tokens live =
      let e = ends tokens (declaration_behind tokens) (stands tokens) live in
      (e.0, (e.1.0, (e.1.1.0, (e.1.1.1.0, declaration_run-append tokens e.0 at_word ∙ e.1.1.1.1))))

-- the step before a parameter
abbrev IsParameterStep : Lexeme → List ℕ → List (List ℕ) → DeclarationState → Type 0
IsParameterStep c x ps s =
    ((s ≡ behind_name x) × (ps ≡ [])) ⊎ ((c ≡ a_sign sign.Comma) × (s ≡ behind_parameter x ps))

dotted-no_parameter : (x y : List ℕ) (ps qs : List (List ℕ)) (o : Option WrittenFormula) → dotted x ps o ≡ at_parameter y qs → ⊥
dotted-no_parameter x y ps qs (Some w) e = cc
dotted-no_parameter x y ps qs None e = cc

read_on-no_parameter : (x y : List ℕ) (ps qs : List (List ℕ)) (s : formula.FormulaState) → read_on x ps s ≡ at_parameter y qs → ⊥
read_on-no_parameter x y ps qs formula.stuck e = cc
read_on-no_parameter x y ps qs s e = cc

variable-no_parameter : (known : Bool) (x y z : List ℕ) (ps qs : List (List ℕ)) → with_parameter known x ps z ≡ at_parameter y qs → ⊥
variable-no_parameter true x y z ps qs e = cc
variable-no_parameter false x y z ps qs e = cc

parameter-step : (logic : Logic) (s : DeclarationState) (c : Lexeme) (x : List ℕ) (ps : List (List ℕ)) → step logic s c ≡ at_parameter x ps → IsParameterStep c x ps s
parameter-step logic at_word (a_sign sign.Formula) x ps e = cc
parameter-step logic at_word c x ps e = cc
parameter-step logic at_name (a_name y) x ps e = cc
parameter-step logic at_name c x ps e = cc
parameter-step logic (behind_name y) (a_sign sign.OpenParenthesis) x ps e = inl (cc, cc)
parameter-step logic (behind_name y) (a_sign sign.Defined) x ps e = cc
parameter-step logic (behind_name y) c x ps e = cc
parameter-step logic (at_parameter y qs) (a_variable z) x ps e = absurd (variable-no_parameter (is_one_of qs z) y x z qs ps e)
parameter-step logic (at_parameter y qs) c x ps e = cc
parameter-step logic (behind_parameter y qs) (a_sign sign.Comma) x ps e = inr (refl, cc)
parameter-step logic (behind_parameter y qs) (a_sign sign.CloseParenthesis) x ps e = cc
parameter-step logic (behind_parameter y qs) c x ps e = cc
parameter-step logic (at_defined y qs) (a_sign sign.Defined) x ps e = cc
parameter-step logic (at_defined y qs) c x ps e = cc
parameter-step logic (in_formula y qs s) (a_sign sign.Dot) x ps e = absurd (dotted-no_parameter y x qs ps (formula.whole_of s) e)
parameter-step logic (in_formula y qs s) c x ps e = absurd (read_on-no_parameter y x qs ps (formula.step logic qs s c) e)
parameter-step logic (ended y qs w) c x ps e = cc
parameter-step logic stuck c x ps e = cc

-- no limit stands there
abbrev IsPlain : DeclarationState → Type 0
IsPlain at_name = ⊥
IsPlain (behind_parameter x ps) = ⊥
IsPlain (in_formula x ps s) = ⊥
IsPlain _ = Unit {0}

module _ (logic : Logic) (names : List (List ℕ)) where
  -- where a limit stands
  data StandsLimit (before : List Lexeme) (c : Lexeme) (code : Code) (s : DeclarationState) : Type 0 where
    name_limit : (x : List ℕ) → s ≡ at_name → c ≡ a_name x → code ≡ DuplicateFormula → is_one_of names x ≡ true → StandsLimit before c code s
    comma_limit : (x : List ℕ) (ps : List (List ℕ)) → s ≡ behind_parameter x ps → c ≡ a_sign sign.Comma → code ≡ ManyArguments → length ps ≡ 255
        → StandsLimit before c code s
    formula_limit : (x : List ℕ) (ps : List (List ℕ)) (cs : List Lexeme) → s ≡ in_formula x ps (state_behind logic ps cs) → before ≡ declared_tokens x ps cs
        → FormulaLimits logic ps cs c code → StandsLimit before c code s

  limit-parameter : (before : List Lexeme) (c : Lexeme) (x : List ℕ) (ps : List (List ℕ)) → length ps ≡ 255
      → IsParameterStep c x ps (declaration_behind logic before) → StandsLimit before c ManyArguments (declaration_behind logic before)
  limit-parameter before c x ps n (inl h) = let z : length ps ≡ 0 = ap length h.1 in absurd (omega arith)
  limit-parameter before c x ps n (inr h) = comma_limit x ps h.1 h.0 refl n

  limit-stands : (before : List Lexeme) (c : Lexeme) (code : Code) → DeclarationLimits logic names before c code
      → StandsLimit before c code (declaration_behind logic before)
  limit-stands before _ _ (duplicate {x = x} e known) = name_limit x (ap (declaration_behind logic) e) refl refl known
  limit-stands before c _ (many_parameters l) =
      let r : declaration_behind logic (before ++ c ∷ []) ≡ at_parameter l.text l.done =
      ap (declaration_behind logic) l.spelled ∙ run-done logic l.text [] l.done [] l.different in
      limit-parameter before c l.text l.done l.behind
      (parameter-step logic (declaration_behind logic before) c l.text l.done (sym (declaration_behind-step logic before c) ∙ r))
  limit-stands before c code (formula_limits {x = x} {parameters = ps} {tokens = cs} d e l) =
      formula_limit x ps cs (ap (declaration_behind logic) e ∙ declared-behind logic x ps cs d (limits-live logic ps cs c code l)) e l

  going-stands : (before : List Lexeme) (c : Lexeme) (code : Code) (s : DeclarationState) → StandsLimit before c code s → IsGoingDeclaration s
  going-stands before c code s (name_limit x e h k i) = rw e tt
  going-stands before c code s (comma_limit x ps e h k n) = rw e tt
  going-stands before c code s (formula_limit x ps cs e h l) = rw e tt

  -- no limit forbids a token where a declaration has ended
  pub declaration_limits-going : (before : List Lexeme) (c : Lexeme) (code : Code) → DeclarationLimits logic names before c code
      → IsGoingDeclaration (declaration_behind logic before)
  declaration_limits-going before c code l = going-stands before c code (declaration_behind logic before) (limit-stands before c code l)

  expected-stands : (before : List Lexeme) (c : Lexeme) (code : Code) (s : DeclarationState) → StandsLimit before c code s → code ≡ Unexpected → ⊥
  expected-stands before c code s (name_limit x e h k i) u = cc
  expected-stands before c code s (comma_limit x ps e h k n) u = cc
  expected-stands before c code s (formula_limit x ps cs e h l) u = limits-expected logic ps cs c code l u

  pub declaration_limits-expected : (before : List Lexeme) (c : Lexeme) (code : Code) → DeclarationLimits logic names before c code → code ≡ Unexpected → ⊥
  declaration_limits-expected before c code l u = expected-stands before c code (declaration_behind logic before) (limit-stands before c code l) u

  -- the limits of the formula that is declared
  within-limits : (before : List Lexeme) (c : Lexeme) (code : Code) (x y : List ℕ) (ps qs : List (List ℕ)) (cs ds : List Lexeme) → ps ≡ qs
      → before ≡ declared_tokens x ps cs → before ≡ declared_tokens y qs ds → FormulaLimits logic ps cs c code → FormulaLimits logic qs ds c code
  within-limits before c code x y ps qs cs ds p e h l =
      let t : declared_tokens x qs cs ≡ declared_tokens y qs ds = ap (λ rs. declared_tokens x rs cs) (sym p) ∙ sym e ∙ h in
      subst (λ rs. FormulaLimits logic rs ds c code) p (subst (λ ts. FormulaLimits logic ps ts c code) (declared-same x y qs cs ds t) l)

  once-stands : (before : List Lexeme) (c : Lexeme) (a b : Code) (s : DeclarationState) → StandsLimit before c a s → StandsLimit before c b s → a ≡ b
  once-stands before c a b s (name_limit x e h k i) (name_limit y f j l m) = cc
  once-stands before c a b s (name_limit x e h k i) (comma_limit y ps f j l m) = cc
  once-stands before c a b s (name_limit x e h k i) (formula_limit y ps cs f j l) = let z : at_name ≡ in_formula y ps (state_behind logic ps cs) = sym e ∙ f in cc
  once-stands before c a b s (comma_limit x ps e h k n) (name_limit y f j l m) = cc
  once-stands before c a b s (comma_limit x ps e h k n) (comma_limit y qs f j l m) = cc
  once-stands before c a b s (comma_limit x ps e h k n) (formula_limit y qs cs f j l) =
      let z : behind_parameter x ps ≡ in_formula y qs (state_behind logic qs cs) = sym e ∙ f in cc
  once-stands before c a b s (formula_limit x ps cs e h k) (name_limit y f j l m) = let z : at_name ≡ in_formula x ps (state_behind logic ps cs) = sym f ∙ e in cc
  once-stands before c a b s (formula_limit x ps cs e h k) (comma_limit y qs f j l m) =
      let z : behind_parameter y qs ≡ in_formula x ps (state_behind logic ps cs) = sym f ∙ e in cc
  once-stands before c a b s (formula_limit x ps cs e h k) (formula_limit y qs ds f j l) =
      let z : in_formula x ps (state_behind logic ps cs) ≡ in_formula y qs (state_behind logic qs ds) = sym e ∙ f in
      let p : ps ≡ qs = cc in
      limits-once logic qs ds c a b (within-limits before c a x y ps qs cs ds p h j k) l

  -- one limit forbids a token
  pub declaration_limits-once : (before : List Lexeme) (c : Lexeme) (a b : Code) → DeclarationLimits logic names before c a → DeclarationLimits logic names before c b
      → a ≡ b
  declaration_limits-once before c a b l m =
      once-stands before c a b (declaration_behind logic before) (limit-stands before c a l) (limit-stands before c b m)

  -- what the answer about a token says, where its step leads to a state
  abbrev pub IsDeclarationJudged : List Lexeme → Lexeme → DeclarationState → Result DeclarationState Code → Type 0
  IsDeclarationJudged before c t (Ok u) = (t ≡ u) × IsLiveDeclaration u × ((code : Code) → DeclarationLimits logic names before c code → ⊥)
  IsDeclarationJudged before c t (Err code) = ((t ≡ stuck) × (code ≡ Unexpected)) ⊎ (IsLiveDeclaration t × DeclarationLimits logic names before c code)

  -- where a token meets no limit
  no-limit : (before : List Lexeme) (c : Lexeme) (s : DeclarationState) → declaration_behind logic before ≡ s
      → ((code : Code) → StandsLimit before c code s → ⊥) → (code : Code) → DeclarationLimits logic names before c code → ⊥
  no-limit before c s r n code l = n code (subst (StandsLimit before c code) r (limit-stands before c code l))

  plain-free : (before : List Lexeme) (c : Lexeme) (code : Code) (s : DeclarationState) → IsPlain s → StandsLimit before c code s → ⊥
  plain-free before c code s p (name_limit x e h k i) = subst IsPlain e p
  plain-free before c code s p (comma_limit x ps e h k n) = subst IsPlain e p
  plain-free before c code s p (formula_limit x ps cs e h l) = subst IsPlain e p

  judged-plain : (before : List Lexeme) (c : Lexeme) (s t : DeclarationState) → declaration_behind logic before ≡ s → IsPlain s
      → IsDeclarationJudged before c t (within t)
  judged-plain before c s stuck r p = inl (refl, refl)
  judged-plain before c s t r p = (refl, tt, no-limit before c s r (λ code l. plain-free before c code s p l))

  -- a name
  name-free : (before : List Lexeme) (x : List ℕ) (code : Code) → is_one_of names x ≡ false → StandsLimit before (a_name x) code at_name → ⊥
  name-free before x code n (name_limit y e h k i) =
      let same : x ≡ y = cc in false≢true (sym n ∙ ap (is_one_of names) same ∙ i)
  name-free before x code n (comma_limit y ps e h k l) = cc
  name-free before x code n (formula_limit y ps cs e h l) = cc

  judged-name : (before : List Lexeme) (x : List ℕ) (taken : Bool) → is_one_of names x ≡ taken → before ≡ a_sign sign.Formula ∷ []
      → declaration_behind logic before ≡ at_name → IsDeclarationJudged before (a_name x) (behind_name x) (named_within taken x)
  judged-name before x true k e r = inr (tt, duplicate e k)
  judged-name before x false k e r = (refl, tt, no-limit before (a_name x) at_name r (λ code l. name-free before x code k l))

  -- a comma or a parenthesis behind a parameter
  comma-free : (before : List Lexeme) (x : List ℕ) (ps : List (List ℕ)) (code : Code) → nat_eq (length ps) 255 ≡ false
      → StandsLimit before (a_sign sign.Comma) code (behind_parameter x ps) → ⊥
  comma-free before x ps code f (name_limit y e h k i) = cc
  comma-free before x ps code f (comma_limit y qs e h k n) =
      let same : ps ≡ qs = cc in false≢true (sym f ∙ (Decides-eqb (length ps) 255).1 (ap length same ∙ n))
  comma-free before x ps code f (formula_limit y qs cs e h l) = cc

  close-free : (before : List Lexeme) (x : List ℕ) (ps : List (List ℕ)) (code : Code)
      → StandsLimit before (a_sign sign.CloseParenthesis) code (behind_parameter x ps) → ⊥
  close-free before x ps code (name_limit y e h k i) = cc
  close-free before x ps code (comma_limit y qs e h k n) = cc
  close-free before x ps code (formula_limit y qs cs e h l) = cc

  judged-comma : (before : List Lexeme) (x : List ℕ) (ps : List (List ℕ)) (full : Bool) → nat_eq (length ps) 255 ≡ full → AreDifferent ps
      → before ++ a_sign sign.Comma ∷ [] ≡ opened x ps [] → declaration_behind logic before ≡ behind_parameter x ps
      → IsDeclarationJudged before (a_sign sign.Comma) (at_parameter x ps) (if full then Err ManyArguments else Ok (at_parameter x ps))
  judged-comma before x ps true f d e r =
      inr (tt, many_parameters (record { text = x; done = ps; different = d; spelled = e; behind = (Decides-eqb (length ps) 255).0 f }))
  judged-comma before x ps false f d e r =
      (refl, tt, no-limit before (a_sign sign.Comma) (behind_parameter x ps) r (λ code l. comma-free before x ps code f l))

  -- a token of the formula
  limit-formula : (before : List Lexeme) (c : Lexeme) (code : Code) (x : List ℕ) (ps : List (List ℕ)) (cs : List Lexeme) (s : formula.FormulaState)
      → before ≡ declared_tokens x ps cs → StandsLimit before c code (in_formula x ps s) → FormulaLimits logic ps cs c code
  limit-formula before c code x ps cs s b (name_limit y e h k i) = cc
  limit-formula before c code x ps cs s b (comma_limit y qs e h k n) = cc
  limit-formula before c code x ps cs s b (formula_limit y qs ds e h l) =
      let p : qs ≡ ps = cc in within-limits before c code y x qs ps ds cs p h b l

  judged-dot : (before : List Lexeme) (x : List ℕ) (ps : List (List ℕ)) (cs : List Lexeme) (s : formula.FormulaState) (o : Option WrittenFormula)
      → before ≡ declared_tokens x ps cs → declaration_behind logic before ≡ in_formula x ps s → formula.whole_of (state_behind logic ps cs) ≡ o
      → IsDeclarationJudged before (a_sign sign.Dot) (dotted x ps o) (within (dotted x ps o))
  judged-dot before x ps cs s (Some w) e r h = (
    refl,
    tt,
    no-limit before (a_sign sign.Dot) (in_formula x ps s) r
        (λ code l. dot-free logic ps cs w code h (limit-formula before (a_sign sign.Dot) code x ps cs s e l)),
  )
  judged-dot before x ps cs s None e r h = inl (refl, refl)

  judged-within : (before : List Lexeme) (x : List ℕ) (ps : List (List ℕ)) (cs : List Lexeme) (s : formula.FormulaState) (c : Lexeme)
      (r : Result formula.FormulaState Code) → AreDifferent ps → before ≡ declared_tokens x ps cs → declaration_behind logic before ≡ in_formula x ps s
      → IsJudged logic ps cs c (formula.step logic ps (state_behind logic ps cs) c) r
      → IsDeclarationJudged before c (read_on x ps (formula.step logic ps (state_behind logic ps cs) c)) (read_within x ps r)
  judged-within before x ps cs s c (Ok u) d e b j = (
    read_on-live x ps (formula.step logic ps (state_behind logic ps cs) c) (begins-step logic ps cs c j.0.begins) ∙ ap (in_formula x ps) j.1,
    tt,
    no-limit before c (in_formula x ps s) b (λ code l. j.0.free code (limit-formula before c code x ps cs s e l)),
  )
  judged-within before x ps cs s c (Err _) d e b (read.IsRefused.unexpected n) =
      inl (ap (read_on x ps) (stuck-is (formula.step logic ps (state_behind logic ps cs) c) (λ live. n (step-begins logic ps cs c live))), refl)
  judged-within before x ps cs s c (Err _) d e b (read.IsRefused.limited {code = code} begins l) =
      inr (rw (read_on-live x ps (formula.step logic ps (state_behind logic ps cs) c) (begins-step logic ps cs c begins)) tt, formula_limits d e l)

  judged-formula : (before : List Lexeme) (x : List ℕ) (ps : List (List ℕ)) (cs : List Lexeme) (s : formula.FormulaState) (c : Lexeme) → AreDifferent ps
      → before ≡ declared_tokens x ps cs → declaration_behind logic before ≡ in_formula x ps s → state_behind logic ps cs ≡ s
      → IsDeclarationJudged before c (step logic (in_formula x ps s) c) (limited logic names (in_formula x ps s) c)
  judged-formula before x ps cs s (a_sign sign.Dot) d e b r = judged-dot before x ps cs s (formula.whole_of s) e b (ap formula.whole_of r)
  judged-formula before x ps cs s c d e b r =
      subst (λ u. IsDeclarationJudged before c (read_on x ps (formula.step logic ps u c)) (read_within x ps (formula.limited logic ps u c))) r
      (judged-within before x ps cs s c (formula.limited logic ps (state_behind logic ps cs) c) d e b (limited-judged logic ps cs c))

  judged-stands : (before : List Lexeme) (c : Lexeme) (s : DeclarationState) → declaration_behind logic before ≡ s → Stands logic before s
      → IsDeclarationJudged before c (step logic s c) (limited logic names s c)
  judged-stands before c _ r (stands_at_word e) = judged-plain before c at_word (step logic at_word c) r tt
  judged-stands before (a_name x) _ r (stands_at_name e) = judged-name before x (is_one_of names x) refl e r
  judged-stands before c _ r (stands_at_name e) = inl (refl, refl)
  judged-stands before c _ r (stands_behind_name x e) = judged-plain before c (behind_name x) (step logic (behind_name x) c) r tt
  judged-stands before c _ r (stands_at_parameter x ps d e) = judged-plain before c (at_parameter x ps) (step logic (at_parameter x ps) c) r tt
  judged-stands before (a_sign sign.Comma) _ r (stands_behind_parameter x ps qs y d p e) =
      judged-comma before x ps (nat_eq (length ps) 255) refl d (opened-comma before x ps qs y p e) r
  judged-stands before (a_sign sign.CloseParenthesis) _ r (stands_behind_parameter x ps qs y d p e) =
      (refl, tt, no-limit before (a_sign sign.CloseParenthesis) (behind_parameter x ps) r (λ code l. close-free before x ps code l))
  judged-stands before c _ r (stands_behind_parameter x ps qs y d p e) = inl (refl, refl)
  judged-stands before c _ r (stands_at_defined x ps d e) = judged-plain before c (at_defined x ps) (step logic (at_defined x ps) c) r tt
  judged-stands before c _ r (stands_in_formula x ps cs s d e f live) = judged-formula before x ps cs s c d e r f
  judged-stands before c _ r (stands_ended x ps cs w d e f) = judged-plain before c (ended x ps w) stuck r tt
  judged-stands before c _ r nowhere = judged-plain before c stuck stuck r tt

  -- the limits judge each token
  pub declaration-judged : (before : List Lexeme) (c : Lexeme)
      → IsDeclarationJudged before c (step logic (declaration_behind logic before) c) (limited logic names (declaration_behind logic before) c)
  declaration-judged before c = judged-stands before c (declaration_behind logic before) refl (stands logic before)

-- the limits ask only which names are declared
pub declaration_limits-names : (logic : Logic) (names more : List (List ℕ)) → ((x : List ℕ) → is_one_of names x ≡ is_one_of more x)
    → (s : DeclarationState) (c : Lexeme) → limited logic names s c ≡ limited logic more s c
declaration_limits-names logic names more same at_name (a_name x) = ap (λ b. named_within b x) (same x)
declaration_limits-names logic names more same (behind_parameter x ps) (a_sign sign.Comma) = refl
declaration_limits-names logic names more same (in_formula x ps s) (a_sign sign.Dot) = refl
declaration_limits-names logic names more same s c = refl
