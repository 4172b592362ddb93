-- The text of a formula with parameters says the tokens of its written formula.
use Rattle.std.proofs.Common.{◌≡◌, ℕ, suc, ◌+◌, ◌-◌, ◌^◌, ◌<◌, ◌≤◌, Bool, true, false, List, ◌∷◌, ◌++◌, codes, refl, arith, append_assoc}
use Rattle.std.specs.Fmt.{decimal}
use Rattle.fpc_base.specs.Lexeme.{Lexeme, a_name, a_variable, a_sign}
use Rattle.fpc_base.specs.declared.tokens.lexeme.Sign.TheVariants as sign
use Rattle.fpc_terms.specs.Term.{Term, Args, eigen, bound, variable, app, no_args, arg, Each, EachArg, Never}
use Rattle.fpc_terms.specs.Text.{Leaves, term_before, args_before, more_before, name_in}
use Rattle.fpc_terms.specs.Written.{term_tokens, args_tokens, more_tokens}
use Rattle.polarised_formulas.specs.declared.logic.Logic.{Logic}
use Rattle.polarised_formulas.specs.declared.logic.Logic.TheVariants.{Lkf, Ljf}
use Rattle.polarised_formulas.specs.declared.logic.Polarity.{Polarity}
use Rattle.polarised_formulas.specs.declared.logic.Polarity.TheVariants.{Positive, Negative}
use Rattle.polarised_formulas.specs.Formula.{Formula, truth, falsity, atom, conj, disj, implies, for_all, exists, EachInside, Tied}
use Rattle.polarised_formulas.specs.Text.{named_leaves, named_style, formula_before, operator_before, conj_text, disj_text, truth_text, falsity_text, mark_text}
use Rattle.polarised_formulas.specs.declared.connective.Joiner.TheVariants.{And, Or}
use Rattle.polarised_formulas.specs.Written.{formula_tokens, joiner_sign, true_sign, false_sign, mark_tokens}
use Rattle.polarised_formulas.specs.WrittenOf.{bound_text, written_term, written_args, written_of, IsNamed, AreNamed, HasNames}
use Rattle.polarised_formulas.specs.Size.{depth_of}
use Rattle.polarised_formulas.proofs.Pieces.{Scans, stops, scans-name, scans-variable, scans-open, scans-close, scans-comma, scans-tilde, scans-plus, scans-minus, scans-colon, scans-all, scans-some, scans-true_plus, scans-true_minus, scans-false_plus, scans-false_minus, scans-false, scans-and_plus, scans-and_minus, scans-bar_plus, scans-bar_minus, scans-bar, scans-arrow}
use Rattle.clause_language.specs.Printable.{Below}
use Rattle.clause_language.proofs.NumberedTexts.{scans-parameter}

module _ (names : List (List ℕ)) (n : ℕ) (small : n ≤ 2 ^ 64) where
  more-stop : (leaves : Leaves) (ts : Args) (rest : List ℕ) → stops (more_before leaves ts rest) ≡ true
  more-stop leaves no_args rest = refl
  more-stop leaves (arg t ts) rest = refl

  args-stop : (leaves : Leaves) (ts : Args) (rest : List ℕ) → stops rest ≡ true → stops (args_before leaves ts rest) ≡ true
  args-stop leaves no_args rest s = s
  args-stop leaves (arg t ts) rest s = refl

  mutual
    scans-term : (d : ℕ) (t : Term) (rest : List ℕ) (cs : List Lexeme) → d ≤ 2 ^ 64 → Each Never (Tied d) (Below n) t → IsNamed names t
        → stops rest ≡ true → Scans cs rest → Scans (term_tokens (written_term names d t) cs) (term_before (named_leaves (name_in names) d) t rest)
    scans-term d (eigen n) rest cs le tied named s h = absurd tied
    scans-term d (bound k) rest cs le tied named s h = scans-variable (d - 1 - k) rest cs (omega (arith, le, tied)) s h
    scans-term d (variable v) rest cs le tied named s h = scans-parameter v rest cs (omega (arith, small, tied)) s h
    scans-term d (app f ts) rest cs le tied named s h =
        scans-name (name_in names f) (args_before (named_leaves (name_in names) d) ts rest) (args_tokens (written_args names d ts) cs) named.0
        (args-stop (named_leaves (name_in names) d) ts rest s) (scans-args d ts rest cs le tied named.1 s h)

    -- arguments in parentheses, where there are any
    scans-args : (d : ℕ) (ts : Args) (rest : List ℕ) (cs : List Lexeme) → d ≤ 2 ^ 64 → EachArg Never (Tied d) (Below n) ts → AreNamed names ts
        → stops rest ≡ true → Scans cs rest → Scans (args_tokens (written_args names d ts) cs) (args_before (named_leaves (name_in names) d) ts rest)
    scans-args d no_args rest cs le tied named s h = h
    scans-args d (arg t ts) rest cs le tied named s h =
        let leaves : Leaves = named_leaves (name_in names) d in
        scans-open (term_before leaves t (more_before leaves ts rest)) (term_tokens (written_term names d t) (more_tokens (written_args names d ts) cs))
        (scans-term d t (more_before leaves ts rest) (more_tokens (written_args names d ts) cs) le tied.0 named.0 (more-stop leaves ts rest)
        (scans-more d ts rest cs le tied.1 named.1 h))

    scans-more : (d : ℕ) (ts : Args) (rest : List ℕ) (cs : List Lexeme) → d ≤ 2 ^ 64 → EachArg Never (Tied d) (Below n) ts → AreNamed names ts
        → Scans cs rest → Scans (more_tokens (written_args names d ts) cs) (more_before (named_leaves (name_in names) d) ts rest)
    scans-more d no_args rest cs le tied named h = scans-close rest cs h
    scans-more d (arg t ts) rest cs le tied named h =
        let leaves : Leaves = named_leaves (name_in names) d in
        scans-comma (term_before leaves t (more_before leaves ts rest)) (term_tokens (written_term names d t) (more_tokens (written_args names d ts) cs))
        (scans-term d t (more_before leaves ts rest) (more_tokens (written_args names d ts) cs) le tied.0 named.0 (more-stop leaves ts rest)
        (scans-more d ts rest cs le tied.1 named.1 h))

  -- a name with its arguments, where there are any
  scans-literal : (d f : ℕ) (ts : Args) (rest : List ℕ) (cs : List Lexeme) → d ≤ 2 ^ 64 → EachArg Never (Tied d) (Below n) ts
      → IsNamed names (app f ts) → stops rest ≡ true → Scans cs rest
      → Scans (a_name (name_in names f) ∷ args_tokens (written_args names d ts) cs) (name_in names f ++ args_before (named_leaves (name_in names) d) ts rest)
  scans-literal d f ts rest cs le tied named s h = scans-term d (app f ts) rest cs le tied named s h

  scans-mark : (logic : Logic) (positive : Bool) (rest : List ℕ) (cs : List Lexeme) → Scans cs rest → Scans (mark_tokens logic positive cs) (mark_text logic positive ++ rest)
  scans-mark Lkf true rest cs h = h
  scans-mark Lkf false rest cs h = scans-tilde rest cs h
  scans-mark Ljf true rest cs h = scans-plus rest cs h
  scans-mark Ljf false rest cs h = scans-minus rest cs h

  scans-true : (p : Polarity) (rest : List ℕ) (cs : List Lexeme) → Scans cs rest → Scans (a_sign (true_sign p) ∷ cs) (truth_text p ++ rest)
  scans-true Positive rest cs h = scans-true_plus rest cs h
  scans-true Negative rest cs h = scans-true_minus rest cs h

  scans-falsity : (logic : Logic) (p : Polarity) (rest : List ℕ) (cs : List Lexeme) → stops rest ≡ true → Scans cs rest
      → Scans (a_sign (false_sign logic p) ∷ cs) (falsity_text logic p ++ rest)
  scans-falsity Lkf Positive rest cs s h = scans-false_plus rest cs h
  scans-falsity Lkf Negative rest cs s h = scans-false_minus rest cs h
  scans-falsity Ljf p rest cs s h = scans-false rest cs s h

  scans-conj : (logic : Logic) (p : Polarity) (rest : List ℕ) (cs : List Lexeme) → Scans cs rest
      → Scans (a_sign (joiner_sign logic (And p)) ∷ cs) (operator_before (conj_text p) rest)
  scans-conj logic Positive rest cs h = scans-and_plus rest cs h
  scans-conj logic Negative rest cs h = scans-and_minus rest cs h

  scans-disj : (logic : Logic) (p : Polarity) (rest : List ℕ) (cs : List Lexeme) → Scans cs rest
      → Scans (a_sign (joiner_sign logic (Or p)) ∷ cs) (operator_before (disj_text logic p) rest)
  scans-disj Lkf Positive rest cs h = scans-bar_plus rest cs h
  scans-disj Lkf Negative rest cs h = scans-bar_minus rest cs h
  scans-disj Ljf p rest cs h = scans-bar rest cs h

  -- a bound variable and its colon
  scans-binder : (d : ℕ) (rest : List ℕ) (cs : List Lexeme) → d < 2 ^ 64 → Scans cs rest
      → Scans (a_variable (bound_text d) ∷ a_sign sign.Colon ∷ cs) ((88 ∷ (decimal d ++ codes " : ")) ++ rest)
  scans-binder d rest cs lt h =
      rw (append_assoc (decimal d) (codes " : ") rest)
      (scans-variable d (codes " : " ++ rest) (a_sign sign.Colon ∷ cs) lt refl (scans-colon rest cs h))

  abbrev text_before : Logic → ℕ → Formula → List ℕ → List ℕ
  text_before logic d f rest = formula_before (named_style (name_in names)) logic d f rest

  pub scans-formula : (logic : Logic) (d : ℕ) (f : Formula) (rest : List ℕ) (cs : List Lexeme) → d + depth_of f ≤ 2 ^ 64
      → EachInside Never Tied (Below n) d f → HasNames names f → stops rest ≡ true → Scans cs rest
      → Scans (formula_tokens logic (written_of names d f) cs) (formula_before (named_style (name_in names)) logic d f rest)
  scans-formula logic d (truth p) rest cs le tied named s h = scans-true p rest cs h
  scans-formula logic d (falsity p) rest cs le tied named s h = scans-falsity logic p rest cs s h
  scans-formula logic d (atom positive f ts) rest cs le tied named s h =
      scans-mark logic positive (name_in names f ++ args_before (named_leaves (name_in names) d) ts rest)
      (a_name (name_in names f) ∷ args_tokens (written_args names d ts) cs)
      (scans-literal d f ts rest cs (omega (arith, le)) tied named s h)
  scans-formula logic d (conj p a b) rest cs le tied named s h =
      let last : List ℕ = text_before logic d b (41 ∷ rest) in
      let last_tokens : List Lexeme = formula_tokens logic (written_of names d b) (a_sign sign.CloseParenthesis ∷ cs) in
      scans-open (text_before logic d a (operator_before (conj_text p) last)) (formula_tokens logic (written_of names d a) (a_sign (joiner_sign logic (And p)) ∷ last_tokens))
      (scans-formula logic d a (operator_before (conj_text p) last) (a_sign (joiner_sign logic (And p)) ∷ last_tokens) (omega (arith, le)) tied.0 named.0 refl
      (scans-conj logic p last last_tokens
      (scans-formula logic d b (41 ∷ rest) (a_sign sign.CloseParenthesis ∷ cs) (omega (arith, le)) tied.1 named.1 refl (scans-close rest cs h))))
  scans-formula logic d (disj p a b) rest cs le tied named s h =
      let last : List ℕ = text_before logic d b (41 ∷ rest) in
      let last_tokens : List Lexeme = formula_tokens logic (written_of names d b) (a_sign sign.CloseParenthesis ∷ cs) in
      scans-open (text_before logic d a (operator_before (disj_text logic p) last)) (formula_tokens logic (written_of names d a) (a_sign (joiner_sign logic (Or p)) ∷ last_tokens))
      (scans-formula logic d a (operator_before (disj_text logic p) last) (a_sign (joiner_sign logic (Or p)) ∷ last_tokens) (omega (arith, le)) tied.0 named.0 refl
      (scans-disj logic p last last_tokens
      (scans-formula logic d b (41 ∷ rest) (a_sign sign.CloseParenthesis ∷ cs) (omega (arith, le)) tied.1 named.1 refl (scans-close rest cs h))))
  scans-formula logic d (implies a b) rest cs le tied named s h =
      let last : List ℕ = text_before logic d b (41 ∷ rest) in
      let last_tokens : List Lexeme = formula_tokens logic (written_of names d b) (a_sign sign.CloseParenthesis ∷ cs) in
      scans-open (text_before logic d a (operator_before (codes "=>") last)) (formula_tokens logic (written_of names d a) (a_sign sign.Arrow ∷ last_tokens))
      (scans-formula logic d a (operator_before (codes "=>") last) (a_sign sign.Arrow ∷ last_tokens) (omega (arith, le)) tied.0 named.0 refl
      (scans-arrow last last_tokens
      (scans-formula logic d b (41 ∷ rest) (a_sign sign.CloseParenthesis ∷ cs) (omega (arith, le)) tied.1 named.1 refl (scans-close rest cs h))))
  scans-formula logic d (for_all a) rest cs le tied named s h =
      let body : List ℕ = text_before logic (suc d) a rest in
      let tokens : List Lexeme = formula_tokens logic (written_of names (suc d) a) cs in
      scans-all ((88 ∷ (decimal d ++ codes " : ")) ++ body) (a_variable (bound_text d) ∷ a_sign sign.Colon ∷ tokens)
      (scans-binder d body tokens (omega (arith, le)) (scans-formula logic (suc d) a rest cs (omega (arith, le)) tied named s h))
  scans-formula logic d (exists a) rest cs le tied named s h =
      let body : List ℕ = text_before logic (suc d) a rest in
      let tokens : List Lexeme = formula_tokens logic (written_of names (suc d) a) cs in
      scans-some ((88 ∷ (decimal d ++ codes " : ")) ++ body) (a_variable (bound_text d) ∷ a_sign sign.Colon ∷ tokens)
      (scans-binder d body tokens (omega (arith, le)) (scans-formula logic (suc d) a rest cs (omega (arith, le)) tied named s h))
