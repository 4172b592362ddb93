-- The limits let the machine of files pass the tokens of a declared formula exactly where it is small and its name is new.
use Rattle.std.proofs.Common.{◌≡◌, ℕ, suc, ◌+◌, ◌≤◌, Bool, true, false, if◌then◌else◌, nat_eq, List, [], ◌∷◌, ◌++◌, length, refl, ap, sym, subst, arith, append_assoc, append-nil, length-append, Option, Some, Ok, Err}
use Rattle.fpc_base.specs.declared.refusal.Code.TheVariants.{ManyArguments}
use Rattle.fpc_base.specs.declared.tokens.lexeme.Sign.TheVariants as sign
use Rattle.fpc_base.specs.Lexeme.{Lexeme, a_name, a_variable, a_sign}
use Rattle.fpc_base.specs.Tokens.{is_one_of}
use Rattle.fpc_terms.specs.Name.{AreDifferent}
use Rattle.polarised_formulas.specs.declared.logic.Logic.{Logic}
use Rattle.polarised_formulas.specs.Written.{WrittenFormula, formula_tokens, IsBound, IsWrittenIn}
use Rattle.polarised_formulas.specs.Place.{whole}
use Rattle.polarised_formulas.specs.Machine as formula
use Rattle.polarised_formulas.proofs.States as formula_states
use Rattle.polarised_formulas.proofs.Sound as formula_sound
use Rattle.polarised_formulas.proofs.Complete.{run-ends}
use Rattle.polarised_formulas.proofs.FormulaLaws.{whole-live}
use Rattle.polarised_formulas.proofs.ProblemLaws.{formula-append, step-dot}
use Rattle.polarised_formulas.proofs.Small.{written_depth, HasSmall}
use Rattle.polarised_formulas.proofs.Fits.{Fits, fits-formula, less-than}
use Rattle.polarised_formulas.proofs.Passed.{passed-formula}
use Rattle.clause_language.specs.declared.file.FileKind.{FileKind}
use Rattle.clause_language.specs.declared.file.FileKind.TheVariants.{Definition, Certificate}
use Rattle.clause_language.specs.Written.{WrittenItem, declaration, more_parameter_tokens, parameter_tokens, item_tokens, IsItemOf}
use Rattle.clause_language.specs.Limits.{declared_names}
use Rattle.clause_language.specs.DeclarationMachine.{DeclarationState, at_name, behind_name, at_parameter, behind_parameter, at_defined, in_formula, stuck}
use Rattle.clause_language.specs.DeclarationMachine as declaring
use Rattle.clause_language.specs.FileMachine.{FileState, at_item, in_declaration, declared, declared_within, begun, within}
use Rattle.clause_language.proofs.Parameters.{absent-before}
use Rattle.clause_language.proofs.DeclarationLaws.{read_on-live}
use Rattle.clause_language.proofs.TermPassing.{not-equal}
use Rattle.clause_language.proofs.ClausePassing.{Passes}
use Rattle.clause_language.proofs.Sizes.{IsItemSmall}

module _ (logic : Logic) (parameters : List (List ℕ)) where
  formula-within : (t : formula.FormulaState) → formula_states.IsLive t → formula.within false false t ≡ Ok t
  formula-within formula.stuck live = absurd live
  formula-within _ live = refl

  formula-tests : (x : List ℕ) (items : List WrittenItem) (deep full : Bool) (t : formula.FormulaState) (u : FileState) → formula_states.IsLive t
      → declared_within logic items (declaring.read_within x parameters (formula.within deep full t)) ≡ Ok u → (deep ≡ false) × (full ≡ false)
  formula-tests x items deep full formula.stuck u live h = absurd live
  formula-tests x items true full t u live h = cc
  formula-tests x items false true t u live h = cc
  formula-tests x items false false t u live h = (refl, refl)

  whole-shallow : (s : formula.FormulaState) (w : WrittenFormula) → formula.whole_of s ≡ Some w → formula.is_deep s ≡ false
  whole-shallow (formula.wants p) w e = cc
  whole-shallow _ w e = refl

module _ (kind : FileKind) (expected : Option Logic) (earlier : List (List ℕ)) (goal : FileState) (logic : Logic) (items : List WrittenItem) where
  abbrev To : FileState → List Lexeme → Type 0
  To s cs = Passes kind expected earlier s cs goal

  abbrev Behind : List ℕ → List (List ℕ) → WrittenFormula → List Lexeme → Type 0
  Behind x parameters w rest = To (at_item logic (items ++ declaration x parameters w ∷ [])) rest

  -- the tokens of the formula and the dot
  module _ (x : List ℕ) (parameters : List (List ℕ)) where
    abbrev InFormula : formula.FormulaState → List Lexeme → Type 0
    InFormula s cs = To (in_declaration logic items (in_formula x parameters s)) cs

    formula-one : (s : formula.FormulaState) (c : Lexeme) (cs : List Lexeme) → formula_states.IsLive (formula.step logic parameters s c) → formula.is_deep s ≡ false
        → formula.is_full (formula.step logic parameters s c) ≡ false → InFormula (formula.step logic parameters s c) cs → InFormula s (c ∷ cs)
    formula-one s (a_sign sign.Dot) cs live d f h = absurd (subst formula_states.IsLive (step-dot logic parameters s) live)
    formula-one s c cs live d f h =
        let t : formula.FormulaState = formula.step logic parameters s c in
        let taken : formula.within (formula.is_deep s) (formula.is_full t) t ≡ Ok t = rw (d, f) (formula-within logic parameters t live) in
        let F : DeclarationState → Type 0 = λ e.
        (declared_within logic items (declaring.read_within x parameters (formula.within (formula.is_deep s) (formula.is_full t) t)) ≡ Ok (declared logic items e))
        × To (declared logic items e) cs in
        subst F (sym (read_on-live x parameters t live)) (ap (λ r. declared_within logic items (declaring.read_within x parameters r)) taken, h)

    formula-back : (s : formula.FormulaState) (c : Lexeme) (cs : List Lexeme) → formula_states.IsLive (formula.step logic parameters s c) → InFormula s (c ∷ cs)
        → (formula.is_deep s ≡ false) × (formula.is_full (formula.step logic parameters s c) ≡ false) × InFormula (formula.step logic parameters s c) cs
    formula-back s (a_sign sign.Dot) cs live h = absurd (subst formula_states.IsLive (step-dot logic parameters s) live)
    formula-back s c cs live h =
        let t : formula.FormulaState = formula.step logic parameters s c in
        let tests = formula-tests logic parameters x items (formula.is_deep s) (formula.is_full t) t (declared logic items (declaring.read_on x parameters t)) live h.0 in
        (tests.0, tests.1, subst (λ e. To (declared logic items e) cs) (read_on-live x parameters t live) h.1)

    formula-dot : (s : formula.FormulaState) (w : WrittenFormula) (rest : List Lexeme) → formula.whole_of s ≡ Some w → Behind x parameters w rest
        → InFormula s (a_sign sign.Dot ∷ rest)
    formula-dot s w rest e h =
        let F : Option WrittenFormula → Type 0 = λ o.
        (declared_within logic items (declaring.within (declaring.dotted x parameters o)) ≡ Ok (declared logic items (declaring.dotted x parameters o)))
        × To (declared logic items (declaring.dotted x parameters o)) rest in
        subst F (sym e) (refl, h)

    dot-back : (s : formula.FormulaState) (w : WrittenFormula) (rest : List Lexeme) → formula.whole_of s ≡ Some w → InFormula s (a_sign sign.Dot ∷ rest)
        → Behind x parameters w rest
    dot-back s w rest e h = subst (λ o. To (declared logic items (declaring.dotted x parameters o)) rest) e h.1

    formula-all : (cs : List Lexeme) (s : formula.FormulaState) (w : WrittenFormula) (rest : List Lexeme) → Fits logic parameters s (cs ++ a_sign sign.Dot ∷ [])
        → formula.whole_of (formula.run logic parameters s cs) ≡ Some w → Behind x parameters w rest → InFormula s (cs ++ a_sign sign.Dot ∷ rest)
    formula-all [] s w rest f e h = formula-dot s w rest e h
    formula-all (c ∷ cs) s w rest f e h =
        let t : formula.FormulaState = formula.step logic parameters s c in
        let live : formula_states.IsLive t = formula_sound.live-run logic parameters cs t (whole-live (formula.run logic parameters t cs) w e) in
        formula-one s c (cs ++ a_sign sign.Dot ∷ rest) live f.0 f.1 (formula-all cs t w rest f.2 e h)

    all-back : (cs : List Lexeme) (s : formula.FormulaState) (w : WrittenFormula) (rest : List Lexeme) → formula.whole_of (formula.run logic parameters s cs) ≡ Some w
        → InFormula s (cs ++ a_sign sign.Dot ∷ rest) → Fits logic parameters s (cs ++ a_sign sign.Dot ∷ []) × Behind x parameters w rest
    all-back [] s w rest e h = ((whole-shallow logic parameters s w e, ap formula.is_full (step-dot logic parameters s), tt), dot-back s w rest e h)
    all-back (c ∷ cs) s w rest e h =
        let t : formula.FormulaState = formula.step logic parameters s c in
        let live : formula_states.IsLive t = formula_sound.live-run logic parameters cs t (whole-live (formula.run logic parameters t cs) w e) in
        let one = formula-back s c (cs ++ a_sign sign.Dot ∷ rest) live h in
        let later = all-back cs t w rest e one.2 in
        ((one.0, one.1, later.0), later.1)

    dotted-tokens : (w : WrittenFormula) (rest : List Lexeme) → formula_tokens logic w (a_sign sign.Dot ∷ rest) ≡ formula_tokens logic w [] ++ a_sign sign.Dot ∷ rest
    dotted-tokens w rest = formula-append logic w [] (a_sign sign.Dot ∷ rest)

    pass-formula : (w : WrittenFormula) (rest : List Lexeme) → IsBound parameters [] w → IsWrittenIn logic w → written_depth w ≤ 10000 → HasSmall w
        → Behind x parameters w rest → InFormula (formula.wants whole) (formula_tokens logic w (a_sign sign.Dot ∷ rest))
    pass-formula w rest known l le small h =
        let fits : Fits logic parameters (formula.wants whole) (formula_tokens logic w (a_sign sign.Dot ∷ [])) =
        fits-formula logic parameters w whole (a_sign sign.Dot ∷ []) known l tt (omega (arith, le)) small (refl, refl, tt) in
        subst (InFormula (formula.wants whole)) (sym (dotted-tokens w rest))
        (formula-all (formula_tokens logic w []) (formula.wants whole) w rest (subst (Fits logic parameters (formula.wants whole)) (dotted-tokens w []) fits)
        (run-ends logic parameters w whole known l) h)

    back-formula : (w : WrittenFormula) (rest : List Lexeme) → IsBound parameters [] w → IsWrittenIn logic w
        → InFormula (formula.wants whole) (formula_tokens logic w (a_sign sign.Dot ∷ rest)) → (written_depth w ≤ 10000) × HasSmall w × Behind x parameters w rest
    back-formula w rest known l h =
        let all = all-back (formula_tokens logic w []) (formula.wants whole) w rest (run-ends logic parameters w whole known l)
        (subst (InFormula (formula.wants whole)) (dotted-tokens w rest) h) in
        let inside = passed-formula logic parameters w whole (a_sign sign.Dot ∷ []) known l tt (omega arith)
        (subst (Fits logic parameters (formula.wants whole)) (sym (dotted-tokens w [])) all.0) in
        let deep = inside.deep in
        (omega (arith, deep), inside.small, all.1)

  -- a parameter that is new
  one-parameter : (x : List ℕ) (done : List (List ℕ)) (y : List ℕ) (rest : List Lexeme) → is_one_of done y ≡ false
      → To (in_declaration logic items (behind_parameter x (done ++ y ∷ []))) rest → To (in_declaration logic items (at_parameter x done)) (a_variable y ∷ rest)
  one-parameter x done y rest new h =
      let F : Bool → Type 0 = λ b.
      (declared_within logic items (declaring.within (declaring.with_parameter b x done y)) ≡ Ok (declared logic items (declaring.with_parameter b x done y)))
      × To (declared logic items (declaring.with_parameter b x done y)) rest in
      subst F (sym new) (refl, h)

  -- the parameters
  pass-parameters : (x : List ℕ) (done : List (List ℕ)) (ys : List (List ℕ)) (rest : List Lexeme) → AreDifferent (done ++ ys) → length done + length ys ≤ 255
      → To (in_declaration logic items (at_defined x (done ++ ys))) rest → To (in_declaration logic items (behind_parameter x done)) (more_parameter_tokens ys rest)
  pass-parameters x done [] rest d le h = (refl, subst (λ l. To (in_declaration logic items (at_defined x l)) rest) (append-nil done) h)
  pass-parameters x done (y ∷ ys) rest d le h =
      let room : nat_eq (length done) 255 ≡ false = not-equal (length done) 255 (λ e. omega (arith, le, e)) in
      let new : is_one_of done y ≡ false = absent-before done ys y d in
      let seam : (done ++ y ∷ []) ++ ys ≡ done ++ y ∷ ys = append_assoc done (y ∷ []) ys in
      let size : length (done ++ y ∷ []) ≡ suc (length done) = omega (arith, length-append done (y ∷ [])) in
      let later : To (in_declaration logic items (behind_parameter x (done ++ y ∷ []))) (more_parameter_tokens ys rest) =
      pass-parameters x (done ++ y ∷ []) ys rest (subst AreDifferent (sym seam) d) (omega (arith, size, le))
      (subst (λ l. To (in_declaration logic items (at_defined x l)) rest) (sym seam) h) in
      (rw room refl, one-parameter x done y (more_parameter_tokens ys rest) new later)

  first-word : (k : FileKind) → begun k logic items (a_sign sign.Formula) ≡ in_declaration logic items at_name
  first-word Definition = refl
  first-word Certificate = refl

  pass-name : (x : List ℕ) (rest : List Lexeme) → is_one_of (earlier ++ declared_names items) x ≡ false → To (in_declaration logic items (behind_name x)) rest
      → To (at_item logic items) (a_sign sign.Formula ∷ a_name x ∷ rest)
  pass-name x rest new h =
      let named : declaring.named_within (is_one_of (earlier ++ declared_names items) x) x ≡ Ok (behind_name x) = rw new refl in
      let F : FileState → Type 0 = λ s. (within s ≡ Ok s) × To s (a_name x ∷ rest) in
      subst F (sym (first-word kind)) (refl, (ap (declared_within logic items) named, h))

  -- a declared formula within the limits passes
  pub pass-declaration : (x : List ℕ) (ps : List (List ℕ)) (w : WrittenFormula) (rest : List Lexeme) → IsItemOf logic (declaration x ps w)
      → IsItemSmall (declaration x ps w) → is_one_of (earlier ++ declared_names items) x ≡ false
      → Behind x ps w rest → To (at_item logic items) (item_tokens logic (declaration x ps w) rest)
  pass-declaration x [] w rest of_logic small new h =
      pass-name x (a_sign sign.Defined ∷ formula_tokens logic w (a_sign sign.Dot ∷ rest)) new
      (refl, pass-formula x [] w rest of_logic.1 of_logic.2 small.1 small.2 h)
  pass-declaration x (y ∷ ys) w rest of_logic small new h =
      pass-name x (parameter_tokens (y ∷ ys) (a_sign sign.Defined ∷ formula_tokens logic w (a_sign sign.Dot ∷ rest))) new (
        refl,
        one-parameter x [] y (more_parameter_tokens ys (a_sign sign.Defined ∷ formula_tokens logic w (a_sign sign.Dot ∷ rest))) refl
            (pass-parameters x (y ∷ []) ys (a_sign sign.Defined ∷ formula_tokens logic w (a_sign sign.Dot ∷ rest)) of_logic.0 (let few = small.0 in omega (arith, few))
            (refl, pass-formula x (y ∷ ys) w rest of_logic.1 of_logic.2 small.1 small.2 h)),
      )

  -- what passes is within the limits
  comma-test : (full : Bool) (x : List ℕ) (done : List (List ℕ)) (u : FileState)
      → declared_within logic items (if full then Err ManyArguments else Ok (at_parameter x done)) ≡ Ok u → full ≡ false
  comma-test true x done u h = cc
  comma-test false x done u h = refl

  name-test : (taken : Bool) (x : List ℕ) (u : FileState) → declared_within logic items (declaring.named_within taken x) ≡ Ok u → taken ≡ false
  name-test true x u h = cc
  name-test false x u h = refl

  back-parameters : (x : List ℕ) (done : List (List ℕ)) (ys : List (List ℕ)) (rest : List Lexeme) → AreDifferent (done ++ ys) → length done ≤ 255
      → To (in_declaration logic items (behind_parameter x done)) (more_parameter_tokens ys rest)
      → (length done + length ys ≤ 255) × To (in_declaration logic items (at_defined x (done ++ ys))) rest
  back-parameters x done [] rest d le h = (omega (arith, le), subst (λ l. To (in_declaration logic items (at_defined x l)) rest) (sym (append-nil done)) h.1)
  back-parameters x done (y ∷ ys) rest d le h =
      let room : nat_eq (length done) 255 ≡ false = comma-test (nat_eq (length done) 255) x done (in_declaration logic items (at_parameter x done)) h.0 in
      let lt = less-than (length done) 255 room le in
      let new : is_one_of done y ≡ false = absent-before done ys y d in
      let seam : (done ++ y ∷ []) ++ ys ≡ done ++ y ∷ ys = append_assoc done (y ∷ []) ys in
      let size : length (done ++ y ∷ []) ≡ suc (length done) = omega (arith, length-append done (y ∷ [])) in
      let one : To (in_declaration logic items (behind_parameter x (done ++ y ∷ []))) (more_parameter_tokens ys rest) =
      subst (λ b. To (declared logic items (declaring.with_parameter b x done y)) (more_parameter_tokens ys rest)) new h.1.1 in
      let later = back-parameters x (done ++ y ∷ []) ys rest (subst AreDifferent (sym seam) d) (omega (arith, size, lt)) one in
      (omega (arith, later.0, size), subst (λ l. To (in_declaration logic items (at_defined x l)) rest) seam later.1)

  back-name : (x : List ℕ) (rest : List Lexeme) → To (at_item logic items) (a_sign sign.Formula ∷ a_name x ∷ rest)
      → (is_one_of (earlier ++ declared_names items) x ≡ false) × To (in_declaration logic items (behind_name x)) rest
  back-name x rest h =
      let inner : To (in_declaration logic items at_name) (a_name x ∷ rest) = subst (λ s. To s (a_name x ∷ rest)) (first-word kind) h.1 in
      (name-test (is_one_of (earlier ++ declared_names items) x) x (in_declaration logic items (behind_name x)) inner.0, inner.1)

  pub passed-declaration : (x : List ℕ) (ps : List (List ℕ)) (w : WrittenFormula) (rest : List Lexeme) → IsItemOf logic (declaration x ps w)
      → To (at_item logic items) (item_tokens logic (declaration x ps w) rest)
      → IsItemSmall (declaration x ps w) × (is_one_of (earlier ++ declared_names items) x ≡ false) × Behind x ps w rest
  passed-declaration x [] w rest of_logic h =
      let named = back-name x (a_sign sign.Defined ∷ formula_tokens logic w (a_sign sign.Dot ∷ rest)) h in
      let body = back-formula x [] w rest of_logic.1 of_logic.2 named.1.1 in
      ((omega arith, body.0, body.1), named.0, body.2)
  passed-declaration x (y ∷ ys) w rest of_logic h =
      let tail : List Lexeme = a_sign sign.Defined ∷ formula_tokens logic w (a_sign sign.Dot ∷ rest) in
      let named = back-name x (parameter_tokens (y ∷ ys) tail) h in
      let ps = back-parameters x (y ∷ []) ys tail of_logic.0 (omega arith) named.1.1.1 in
      let body = back-formula x (y ∷ ys) w rest of_logic.1 of_logic.2 ps.1.1 in
      ((omega (arith, ps.0), body.0, body.1), named.0, body.2)
