-- What the machine of formulas read is what it was given.
use Rattle.std.proofs.Common.{◌≡◌, ℕ, Bool, List, [], ◌∷◌, ◌++◌, refl, ap, ◌∙◌}
use Rattle.fpc_base.specs.declared.tokens.lexeme.Sign.{Sign}
use Rattle.fpc_base.specs.declared.tokens.lexeme.Sign.TheVariants as sign
use Rattle.fpc_base.specs.Lexeme.{Lexeme, a_name, a_variable, a_sign}
use Rattle.fpc_terms.specs.Written.{no_words}
use Rattle.fpc_terms.specs.Machine as term
use Rattle.fpc_terms.proofs.States as of_term
use Rattle.fpc_terms.proofs.TermLaws as term_laws
use Rattle.polarised_formulas.specs.declared.logic.Logic.{Logic}
use Rattle.polarised_formulas.specs.declared.logic.Logic.TheVariants.{Lkf, Ljf}
use Rattle.polarised_formulas.specs.Written.{WrittenFormula, literal, bind, mark_tokens, is_known}
use Rattle.polarised_formulas.specs.Place.{Place, in_first, in_second, under, scope_at, tokens_to_place}
use Rattle.polarised_formulas.specs.Machine.{FormulaState, wants, marked, binding, bound_to, named, in_atom, has, stuck, begun, joiner_of, joined, after, within_atom, step, run}
use Rattle.polarised_formulas.proofs.States.{tokens_before, IsPlaceOf, IsStateOf, IsLive, Follows, Leads}

begun-follows : (logic : Logic) (parameters : List (List ℕ)) (s : Sign) (p : Place) → IsPlaceOf logic parameters p → IsLive (begun logic s p)
    → Follows logic parameters (wants p) (a_sign s) (begun logic s p)
begun-follows logic parameters sign.TruePlus p h live = record { tokens = λ rest. refl; is_of = (tt, tt, h) }
begun-follows logic parameters sign.TrueMinus p h live = record { tokens = λ rest. refl; is_of = (tt, tt, h) }
begun-follows Lkf parameters sign.FalsePlus p h live = record { tokens = λ rest. refl; is_of = (tt, tt, h) }
begun-follows Lkf parameters sign.FalseMinus p h live = record { tokens = λ rest. refl; is_of = (tt, tt, h) }
begun-follows Ljf parameters sign.False p h live = record { tokens = λ rest. refl; is_of = (tt, tt, h) }
begun-follows Lkf parameters sign.Tilde p h live = record { tokens = λ rest. refl; is_of = h }
begun-follows Ljf parameters sign.Plus p h live = record { tokens = λ rest. refl; is_of = h }
begun-follows Ljf parameters sign.Minus p h live = record { tokens = λ rest. refl; is_of = h }
begun-follows logic parameters sign.OpenParenthesis p h live = record { tokens = λ rest. refl; is_of = (h.0, h.1) }
begun-follows logic parameters sign.All p h live = record { tokens = λ rest. refl; is_of = h }
begun-follows logic parameters sign.Some p h live = record { tokens = λ rest. refl; is_of = h }
begun-follows _ _ _ p h live = absurd live

joined-follows : (logic : Logic) (parameters : List (List ℕ)) (s : Sign) (w : WrittenFormula) (p : Place) → IsStateOf logic parameters (has w (in_first p))
    → IsLive (joined (joiner_of logic s) w p) → Follows logic parameters (has w (in_first p)) (a_sign s) (joined (joiner_of logic s) w p)
joined-follows logic parameters sign.AndPlus w p h live = record { tokens = λ rest. refl; is_of = ((h.0, h.2.0), (tt, h.1, h.2.1)) }
joined-follows logic parameters sign.AndMinus w p h live = record { tokens = λ rest. refl; is_of = ((h.0, h.2.0), (tt, h.1, h.2.1)) }
joined-follows Lkf parameters sign.BarPlus w p h live = record { tokens = λ rest. refl; is_of = ((h.0, h.2.0), (tt, h.1, h.2.1)) }
joined-follows Lkf parameters sign.BarMinus w p h live = record { tokens = λ rest. refl; is_of = ((h.0, h.2.0), (tt, h.1, h.2.1)) }
joined-follows Ljf parameters sign.Bar w p h live = record { tokens = λ rest. refl; is_of = ((h.0, h.2.0), (tt, h.1, h.2.1)) }
joined-follows Ljf parameters sign.Arrow w p h live = record { tokens = λ rest. refl; is_of = ((h.0, h.2.0), (tt, h.1, h.2.1)) }
joined-follows _ _ _ w p h live = absurd live

pub after-follows : (logic : Logic) (parameters : List (List ℕ)) (w : WrittenFormula) (p : Place) (c : Lexeme) → IsStateOf logic parameters (has w p)
    → IsLive (after logic w p c) → Follows logic parameters (has w p) c (after logic w p c)
after-follows logic parameters w (in_first p) (a_sign s) h live = joined-follows logic parameters s w p h live
after-follows logic parameters w (in_second j a p) (a_sign sign.CloseParenthesis) h live = record {
  tokens = λ rest. refl;
  is_of = ((h.2.0.0, h.0), (h.2.1.0, h.2.1.1, h.1), (h.2.0.1, h.2.1.2));
}
after-follows logic parameters w (under q x p) c h live =
    let f = after-follows logic parameters (bind q x w) p c (h.0, h.1, h.2) live in record { tokens = f.tokens; is_of = f.is_of }
after-follows _ _ _ _ _ h live = absurd live

-- the state of an atom's arguments
within_atom-live : (positive : Bool) (x : List ℕ) (p : Place) (t : term.TermState) → IsLive (within_atom positive x p t) → term.IsLive t
within_atom-live positive x p term.stuck live = live
within_atom-live positive x p _ live = tt

within_atom-tokens : (logic : Logic) (positive : Bool) (x : List ℕ) (p : Place) (t : term.TermState) → term.IsLive t → (rest : List Lexeme)
    → tokens_before logic (within_atom positive x p t) rest
    ≡ tokens_to_place logic p (mark_tokens logic positive (a_name x ∷ of_term.tokens_before t rest))
within_atom-tokens logic positive x p term.stuck live rest = absurd live
within_atom-tokens logic positive x p _ live rest = refl

within_atom-of : (logic : Logic) (parameters : List (List ℕ)) (positive : Bool) (x : List ℕ) (p : Place) (t : term.TermState)
    → of_term.IsStateKnown (is_known parameters (scope_at p)) t → of_term.IsArgumentState t → IsPlaceOf logic parameters p
    → IsStateOf logic parameters (within_atom positive x p t)
within_atom-of logic parameters positive x p (term.ended args) k a h = (k, tt, h)
within_atom-of logic parameters positive x p term.stuck k a h = tt
within_atom-of logic parameters positive x p _ k a h = (k, a, tt, h)

atom-follows : (logic : Logic) (parameters : List (List ℕ)) (positive : Bool) (x : List ℕ) (t : term.TermState) (p : Place) (c : Lexeme)
    → IsStateOf logic parameters (in_atom positive x t p) → IsLive (within_atom positive x p (term.step (is_known parameters (scope_at p)) t c))
    → Follows logic parameters (in_atom positive x t p) c (within_atom positive x p (term.step (is_known parameters (scope_at p)) t c))
atom-follows logic parameters positive x t p c h live =
    let known = is_known parameters (scope_at p) in
    let alive = within_atom-live positive x p (term.step known t c) live in
    let f = term_laws.step-follows known t c h.0 alive in
    record {
      tokens = λ rest. within_atom-tokens logic positive x p (term.step known t c) alive rest
          ∙ ap (λ ts. tokens_to_place logic p (mark_tokens logic positive (a_name x ∷ ts))) (f.tokens rest);
      is_of = within_atom-of logic parameters positive x p (term.step known t c) f.known_all (f.argument h.1) h.3;
    }

-- a live step has read the token
pub step-follows : (logic : Logic) (parameters : List (List ℕ)) (s : FormulaState) (c : Lexeme) → IsStateOf logic parameters s
    → IsLive (step logic parameters s c) → Follows logic parameters s c (step logic parameters s c)
step-follows logic parameters (wants p) (a_sign s) h live = begun-follows logic parameters s p h live
step-follows Lkf parameters (wants p) (a_name x) h live = record { tokens = λ rest. refl; is_of = h }
step-follows logic parameters (marked positive p) (a_name x) h live = record { tokens = λ rest. refl; is_of = h }
step-follows logic parameters (binding q p) (a_variable x) h live = record { tokens = λ rest. refl; is_of = h }
step-follows logic parameters (bound_to q x p) (a_sign sign.Colon) h live = record { tokens = λ rest. refl; is_of = h }
step-follows logic parameters (named positive x p) (a_sign sign.OpenParenthesis) h live = record { tokens = λ rest. refl; is_of = (tt, tt, tt, h) }
step-follows logic parameters (named positive x p) c h live =
    let f = after-follows logic parameters (literal positive x no_words) p c (tt, tt, h) live in record { tokens = f.tokens; is_of = f.is_of }
step-follows logic parameters (in_atom positive x t p) c h live = atom-follows logic parameters positive x t p c h live
step-follows logic parameters (has w p) c h live = after-follows logic parameters w p c h live
step-follows _ _ _ _ h live = absurd live

pub run-stuck : (logic : Logic) (parameters : List (List ℕ)) (cs : List Lexeme) → run logic parameters stuck cs ≡ stuck
run-stuck logic parameters [] = refl
run-stuck logic parameters (c ∷ cs) = run-stuck logic parameters cs

pub live-run : (logic : Logic) (parameters : List (List ℕ)) (cs : List Lexeme) (s : FormulaState) → IsLive (run logic parameters s cs) → IsLive s
live-run logic parameters cs stuck live = rw (run-stuck logic parameters cs) at live
live-run logic parameters cs _ live = tt

pub run-append : (logic : Logic) (parameters : List (List ℕ)) (cs ds : List Lexeme) (s : FormulaState)
    → run logic parameters s (cs ++ ds) ≡ run logic parameters (run logic parameters s cs) ds
run-append logic parameters [] ds s = refl
run-append logic parameters (c ∷ cs) ds s = run-append logic parameters cs ds (step logic parameters s c)

-- tokens that lead to a live state were read
pub run-leads : (logic : Logic) (parameters : List (List ℕ)) (cs : List Lexeme) (s : FormulaState) → IsStateOf logic parameters s
    → IsLive (run logic parameters s cs) → Leads logic parameters cs s (run logic parameters s cs)
run-leads logic parameters [] s h live = record { tokens = λ rest. refl; is_of = h }
run-leads logic parameters (c ∷ cs) s h live =
    let f = step-follows logic parameters s c h (live-run logic parameters cs (step logic parameters s c) live) in
    let g = run-leads logic parameters cs (step logic parameters s c) f.is_of live in
    record { tokens = λ rest. g.tokens rest ∙ f.tokens (cs ++ rest); is_of = g.is_of }
