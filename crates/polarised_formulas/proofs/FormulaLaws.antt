-- What the machine of formulas tells of the tokens so far.
use Rattle.std.proofs.Common.{◌≡◌, ◌↔◌, ℕ, Bool, true, List, [], ◌∷◌, ◌++◌, refl, ap, sym, subst, ◌∙◌, append-nil, length, Some, is_some}
use Rattle.std.proofs.lemmas.Bool.{false≢true}
use Rattle.fpc_base.specs.declared.tokens.lexeme.Sign.TheVariants as sign
use Rattle.fpc_base.specs.Lexeme.{Lexeme, a_sign}
use Rattle.fpc_base.specs.Reading.{Begins, IsFinal}
use Rattle.fpc_terms.specs.Written.{no_words}
use Rattle.fpc_terms.specs.Spot.{Spot, alone, in_arguments, in_term, done_at}
use Rattle.fpc_terms.specs.Machine as term
use Rattle.fpc_terms.proofs.States as of_term
use Rattle.polarised_formulas.specs.declared.logic.Logic.{Logic}
use Rattle.polarised_formulas.specs.Written.{WrittenFormula, literal, bind, formula_tokens, IsBound, IsWrittenIn, IsFormula}
use Rattle.polarised_formulas.specs.Place.{Place, whole, in_first, in_second, under, nesting, tokens_to_place, FormulaLimits, LeadsTo, LeadsInto, IsArgument}
use Rattle.polarised_formulas.specs.Machine.{FormulaState, wants, named, in_atom, has, stuck, after, step, run, ended_at, whole_of, is_ended}
use Rattle.polarised_formulas.proofs.States.{tokens_before, IsStateOf, IsLive}
use Rattle.polarised_formulas.proofs.Sound.{run-append, run-leads, live-run}
use Rattle.polarised_formulas.proofs.Complete.{run-ends, run-tokens_to_place, run-tokens_to}
use Rattle.polarised_formulas.proofs.Viable.{Ends, ends}

-- the tokens of the whole formula, where the quantifiers around one end
pub record Spelled (logic : Logic) (parameters : List (List ℕ)) (w : WrittenFormula) (p : Place) (v : WrittenFormula) : Type 0 where
  pub tokens : tokens_to_place logic p (formula_tokens logic w []) ≡ formula_tokens logic v []
  pub is_bound : IsBound parameters [] v
  pub in_logic : IsWrittenIn logic v

spelled : (logic : Logic) (parameters : List (List ℕ)) (w : WrittenFormula) (p : Place) (v : WrittenFormula) → IsStateOf logic parameters (has w p)
    → ended_at w p ≡ Some v → Spelled logic parameters w p v
spelled logic parameters w whole v h e =
    let same : w ≡ v = cc in
    record {
      tokens = ap (λ u. formula_tokens logic u []) same;
      is_bound = subst (IsBound parameters []) same h.0;
      in_logic = subst (IsWrittenIn logic) same h.1;
    }
spelled logic parameters w (in_first p) v h e = cc
spelled logic parameters w (in_second j a p) v h e = cc
spelled logic parameters w (under q x p) v h e =
    let s = spelled logic parameters (bind q x w) p v (h.0, h.1, h.2) e in record { tokens = s.tokens; is_bound = s.is_bound; in_logic = s.in_logic }

-- a token behind a whole formula
pub after-whole : (logic : Logic) (w : WrittenFormula) (p : Place) (v : WrittenFormula) (c : Lexeme) → ended_at w p ≡ Some v → after logic w p c ≡ stuck
after-whole logic w whole v c e = refl
after-whole logic w (in_first p) v c e = cc
after-whole logic w (in_second j a p) v c e = cc
after-whole logic w (under q x p) v c e = after-whole logic (bind q x w) p v c e

pub whole-live : (s : FormulaState) (w : WrittenFormula) → whole_of s ≡ Some w → IsLive s
whole-live stuck w e = cc
whole-live _ w e = tt

argument-spot : (s : Spot) → IsArgument s → of_term.IsArgumentSpot s
argument-spot alone a = absurd a
argument-spot (in_arguments done) a = tt
argument-spot (in_term x done s) a = argument-spot s a

spot-argument : (s : Spot) → of_term.IsArgumentSpot s → IsArgument s
spot-argument alone a = absurd a
spot-argument (in_arguments done) a = tt
spot-argument (in_term x done s) a = spot-argument s a

after-ends : (logic : Logic) (parameters : List (List ℕ)) (positive : Bool) (x : List ℕ) (p : Place) (v : WrittenFormula) (c : Lexeme)
    → ended_at (literal positive x no_words) p ≡ Some v → (c ≡ a_sign sign.OpenParenthesis → ⊥) → step logic parameters (named positive x p) c ≡ stuck
after-ends logic parameters positive x p v (a_sign sign.OpenParenthesis) e n = absurd (n refl)
after-ends logic parameters positive x p v c e n = after-whole logic (literal positive x no_words) p v c e

module _ (logic : Logic) (parameters : List (List ℕ)) where
  -- the state behind the tokens of a formula from its first on
  abbrev pub state_behind : List Lexeme → FormulaState
  state_behind tokens = run logic parameters (wants whole) tokens

  abbrev pub BeginsFormula : List Lexeme → Type 0
  BeginsFormula tokens = Begins (IsFormula logic parameters) (FormulaLimits logic parameters) tokens

  pub state_behind-step : (tokens : List Lexeme) (c : Lexeme) → state_behind (tokens ++ c ∷ []) ≡ step logic parameters (state_behind tokens) c
  state_behind-step tokens c = run-append logic parameters tokens (c ∷ []) (wants whole)

  -- what led to a live state
  led : (tokens : List Lexeme) (s : FormulaState) → state_behind tokens ≡ s → IsLive s → (tokens ≡ tokens_before logic s []) × IsStateOf logic parameters s
  led tokens s e live =
      let f = run-leads logic parameters tokens (wants whole) (tt, tt) (rw e live) in
      (sym (append-nil tokens) ∙ sym (f.tokens []) ∙ ap (λ t. tokens_before logic t []) e, subst (IsStateOf logic parameters) e f.is_of)

  formula-of_state : (tokens : List Lexeme) (s : FormulaState) (w : WrittenFormula) → state_behind tokens ≡ s → whole_of s ≡ Some w → IsFormula logic parameters tokens w
  formula-of_state tokens (has u p) w r e =
      let l = led tokens (has u p) r tt in
      let s = spelled logic parameters u p w l.1 e in record { spelled = l.0 ∙ s.tokens; is_bound = s.is_bound; in_logic = s.in_logic }
  formula-of_state tokens (named positive x p) w r e =
      let l = led tokens (named positive x p) r tt in
      let s = spelled logic parameters (literal positive x no_words) p w (tt, tt, l.1) e in
      record { spelled = l.0 ∙ s.tokens; is_bound = s.is_bound; in_logic = s.in_logic }
  formula-of_state tokens _ w r e = cc

  -- the tokens are those of a formula exactly where the machine says so
  pub formula-whole : (tokens : List Lexeme) (w : WrittenFormula) → IsFormula logic parameters tokens w → whole_of (state_behind tokens) ≡ Some w
  formula-whole tokens w f = ap (λ ts. whole_of (state_behind ts)) f.spelled ∙ run-ends logic parameters w whole f.is_bound f.in_logic

  pub whole-formula : (tokens : List Lexeme) (w : WrittenFormula) → whole_of (state_behind tokens) ≡ Some w → IsFormula logic parameters tokens w
  whole-formula tokens w e = formula-of_state tokens (state_behind tokens) w refl e

  pub whole-told : (tokens : List Lexeme) (w : WrittenFormula) → whole_of (state_behind tokens) ≡ Some w ↔ IsFormula logic parameters tokens w
  whole-told tokens w = (whole-formula tokens w, formula-whole tokens w)

  -- the tokens are those of one formula
  pub formula-once : (tokens : List Lexeme) (v w : WrittenFormula) → IsFormula logic parameters tokens v → IsFormula logic parameters tokens w → v ≡ w
  formula-once tokens v w f g = let e : Some v ≡ Some w = sym (formula-whole tokens v f) ∙ formula-whole tokens w g in cc

  -- a formula begins with the tokens exactly where the machine isn't stuck
  pub live-begins : (tokens : List Lexeme) → IsLive (state_behind tokens) → BeginsFormula tokens
  live-begins tokens live =
      let f = run-leads logic parameters tokens (wants whole) (tt, tt) live in
      let e : Ends logic parameters (state_behind tokens) = ends logic parameters (state_behind tokens) f.is_of live in
      (e.more, (e.formula, whole-formula (tokens ++ e.more) e.formula (ap whole_of (run-append logic parameters tokens e.more (wants whole)) ∙ e.leads)))

  pub begins-live : (tokens : List Lexeme) → BeginsFormula tokens → IsLive (state_behind tokens)
  begins-live tokens b =
      live-run logic parameters b.0 (state_behind tokens)
      (whole-live (run logic parameters (state_behind tokens) b.0) b.1.0
      (ap whole_of (sym (run-append logic parameters tokens b.0 (wants whole))) ∙ formula-whole (tokens ++ b.0) b.1.0 b.1.1))

  pub live-told : (tokens : List Lexeme) → IsLive (state_behind tokens) ↔ BeginsFormula tokens
  live-told tokens = (live-begins tokens, begins-live tokens)

  -- with a further token
  pub step-begins : (tokens : List Lexeme) (c : Lexeme) → IsLive (step logic parameters (state_behind tokens) c) → BeginsFormula (tokens ++ c ∷ [])
  step-begins tokens c live = live-begins (tokens ++ c ∷ []) (rw (state_behind-step tokens c) live)

  pub begins-step : (tokens : List Lexeme) (c : Lexeme) → BeginsFormula (tokens ++ c ∷ []) → IsLive (step logic parameters (state_behind tokens) c)
  begins-step tokens c b = rw (state_behind-step tokens c) at (begins-live (tokens ++ c ∷ []) b)

  -- no token goes on behind a formula that has ended with more than a name
  pub has-final : (tokens : List Lexeme) (u : WrittenFormula) (p : Place) (v : WrittenFormula) → state_behind tokens ≡ has u p → ended_at u p ≡ Some v
      → IsFinal (IsFormula logic parameters) (FormulaLimits logic parameters) tokens
  has-final tokens u p v r e c b =
      let live : IsLive (step logic parameters (has u p) c) = subst (λ s. IsLive (step logic parameters s c)) r (begins-step tokens c b) in
      subst IsLive (after-whole logic u p v c e) live

  -- behind a name exactly an open parenthesis goes on
  pub named-opens : (tokens : List Lexeme) (positive : Bool) (x : List ℕ) (p : Place) → state_behind tokens ≡ named positive x p
      → BeginsFormula (tokens ++ a_sign sign.OpenParenthesis ∷ [])
  named-opens tokens positive x p r = step-begins tokens (a_sign sign.OpenParenthesis) (rw r tt)

  pub named-ends : (tokens : List Lexeme) (positive : Bool) (x : List ℕ) (p : Place) (v : WrittenFormula) → state_behind tokens ≡ named positive x p
      → ended_at (literal positive x no_words) p ≡ Some v → (c : Lexeme) → BeginsFormula (tokens ++ c ∷ []) → (c ≡ a_sign sign.OpenParenthesis → ⊥) → ⊥
  named-ends tokens positive x p v r e c b n =
      let live : IsLive (step logic parameters (named positive x p) c) = subst (λ s. IsLive (step logic parameters s c)) r (begins-step tokens c b) in
      subst IsLive (after-ends logic parameters positive x p v c e n) live

  final-of_state : (tokens : List Lexeme) (s : FormulaState) (w : WrittenFormula) → state_behind tokens ≡ s → whole_of s ≡ Some w
      → IsFinal (IsFormula logic parameters) (FormulaLimits logic parameters) tokens ↔ is_ended s ≡ true
  final-of_state tokens (has u p) w r e = (λ f. ap is_some e, λ h. has-final tokens u p w r e)
  final-of_state tokens (named positive x p) w r e = (λ f. absurd (f (a_sign sign.OpenParenthesis) (named-opens tokens positive x p r)), λ h. absurd (false≢true h))
  final-of_state tokens _ w r e = cc

  -- whether a token goes on behind a formula is told by the state
  pub final-told : (tokens : List Lexeme) (w : WrittenFormula) → IsFormula logic parameters tokens w
      → IsFinal (IsFormula logic parameters) (FormulaLimits logic parameters) tokens ↔ is_ended (state_behind tokens) ≡ true
  final-told tokens w f = final-of_state tokens (state_behind tokens) w refl (formula-whole tokens w f)

  -- the tokens lead to a formula exactly where the machine wants one
  pub state-leads_to : (n : ℕ) (tokens : List Lexeme) (p : Place) → state_behind tokens ≡ wants p → nesting p ≡ n → LeadsTo logic parameters n tokens
  state-leads_to n tokens p r e =
      let l = led tokens (wants p) r tt in record { place = p; is_bound = l.1.0; in_logic = l.1.1; spelled = l.0; deep = e }

  pub leads_to-state : (n : ℕ) (tokens : List Lexeme) (l : LeadsTo logic parameters n tokens) → state_behind tokens ≡ wants l.place
  leads_to-state n tokens l = ap state_behind l.spelled ∙ run-tokens_to_place logic parameters l.place [] (l.is_bound, l.in_logic)

  pub leads_to-told : (n : ℕ) (tokens : List Lexeme)
      → LeadsTo logic parameters n tokens ↔ ((p : Place) × (state_behind tokens ≡ wants p) × (nesting p ≡ n))
  leads_to-told n tokens = (λ l. (l.place, leads_to-state n tokens l, l.deep), λ s. state-leads_to n tokens s.0 s.1 s.2)

  -- the tokens lead to an argument of an atom exactly where the machine wants one
  pub state-leads_into : (n : ℕ) (tokens : List Lexeme) (positive : Bool) (x : List ℕ) (spot : Spot) (p : Place)
      → state_behind tokens ≡ in_atom positive x (term.wants spot) p → length (done_at spot) ≡ n → LeadsInto logic parameters n tokens
  state-leads_into n tokens positive x spot p r e =
      let l = led tokens (in_atom positive x (term.wants spot) p) r tt in
      record {
        place = p;
        positive = positive;
        text = x;
        spot = spot;
        is_argument = spot-argument spot l.1.1;
        known_all = l.1.0;
        is_bound = l.1.3.0;
        in_logic = l.1.3.1;
        spelled = l.0;
        behind = e;
      }

  pub leads_into-state : (n : ℕ) (tokens : List Lexeme) (l : LeadsInto logic parameters n tokens)
      → state_behind tokens ≡ in_atom l.positive l.text (term.wants l.spot) l.place
  leads_into-state n tokens l =
      ap state_behind l.spelled
      ∙ run-tokens_to logic parameters l.positive l.text l.place l.spot (argument-spot l.spot l.is_argument) l.known_all (l.is_bound, l.in_logic)

  pub leads_into-told : (n : ℕ) (tokens : List Lexeme)
      → LeadsInto logic parameters n tokens
      ↔ ((positive : Bool) × (x : List ℕ) × (spot : Spot) × (p : Place) × (state_behind tokens ≡ in_atom positive x (term.wants spot) p) × (length (done_at spot) ≡ n))
  leads_into-told n tokens = (
    λ l. (l.positive, l.text, l.spot, l.place, leads_into-state n tokens l, l.behind),
    λ s. state-leads_into n tokens s.0 s.1 s.2 s.3 s.4 s.5,
  )
