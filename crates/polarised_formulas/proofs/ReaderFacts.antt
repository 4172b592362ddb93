-- How a reader that holds a state of the machine of formulas takes a token.
use Rattle.std.specs.Prelude.{◌≡◌, ◌↔◌, ℕ, suc, ◌≤◌, Bool, true, false, List, [], ◌∷◌, length, Option, Some, None, Result, Ok, Err, nat_eq, refl, is_some, if◌then◌else◌, IsTrue, OnOk, IfErr, slice_get}
use Rattle.std.proofs.Common.{ap, sym, ◌∙◌, arith, subst}
use Rattle.std.proofs.lemmas.Bool.Decides.{nat_tests}
use Rattle.fpc_base.specs.declared.refusal.Code.{Code}
use Rattle.fpc_base.specs.declared.refusal.Code.TheVariants.{Unexpected, TooDeep, ManyArguments}
use Rattle.fpc_base.specs.declared.refusal.TokenRefusal.{TokenRefusal}
use Rattle.fpc_base.specs.declared.refusal.TokenRefusal.TheVariants.{Refused, OutOfMemory}
use Rattle.fpc_base.specs.declared.tokens.lexeme.Sign.{Sign}
use Rattle.fpc_base.specs.declared.tokens.lexeme.Sign.TheVariants as sign
use Rattle.fpc_base.specs.declared.tokens.lexeme.Lexeme as code
use Rattle.fpc_base.specs.Lexeme.{Lexeme, a_name, a_sign, lexeme_as}
use Rattle.fpc_terms.specs.Term.{Term, no_args}
use Rattle.fpc_terms.specs.Written.{WrittenArgs, no_words, args_meant}
use Rattle.fpc_terms.specs.declared.reader.Mode.TheVariants as term_mode
use Rattle.fpc_terms.specs.declared.reader.TermReader.{TermReader}
use Rattle.fpc_terms.specs.Spot.{Spot, in_arguments}
use Rattle.fpc_terms.specs.Machine as term
use Rattle.fpc_terms.specs.Holding as held
use Rattle.polarised_formulas.specs.declared.logic.Logic.{Logic}
use Rattle.polarised_formulas.specs.declared.logic.Logic.TheVariants.{Lkf, Ljf}
use Rattle.polarised_formulas.specs.declared.connective.Joiner.{Joiner}
use Rattle.polarised_formulas.specs.declared.connective.Joiner.TheVariants.{And, Or, Implies}
use Rattle.polarised_formulas.specs.declared.connective.Binder.{Binder}
use Rattle.polarised_formulas.specs.declared.connective.Binder.TheVariants.{ForAll, Exists}
use Rattle.polarised_formulas.specs.Formula.{Formula, atom}
use Rattle.polarised_formulas.specs.Written.{WrittenFormula, literal, pair, bind, formula_meant, variable_meant, is_known, joined_by}
use Rattle.polarised_formulas.specs.Place.{Place, whole, in_first, in_second, under, scope_at, nesting}
use Rattle.polarised_formulas.specs.Machine.{FormulaState, wants, marked, binding, bound_to, named, in_atom, has, stuck, begun, joiner_of, after, limited, within, within_atom, is_full, whole_of, is_ended, ended_at}
use Rattle.polarised_formulas.specs.Unfinished as building
use Rattle.polarised_formulas.specs.Bound.{outermost}
use Rattle.polarised_formulas.specs.declared.reader.Beginning.{Beginning}
use Rattle.polarised_formulas.specs.declared.reader.Beginning.TheVariants as begin
use Rattle.polarised_formulas.specs.declared.reader.Mode.TheVariants as mode
use Rattle.polarised_formulas.specs.declared.reader.FormulaReader.{FormulaReader}
use Rattle.polarised_formulas.specs.Holding.{beginning_of, begun_by, begins_within, holes_at, mode_of, is_standing, Holds, Takes, IsLive}
use Rattle.polarised_formulas.proofs.BoundFacts.{outermost-all, outermost-later}

-- what a sign begins, where it begins something
abbrev pub begun_if : Option Beginning → Place → FormulaState
begun_if (Some b) p = begun_by b p
begun_if None p = stuck

begun-told : (logic : Logic) (s : Sign) (p : Place) → begun logic s p ≡ begun_if (beginning_of logic s) p
begun-told Lkf sign.TruePlus p = refl
begun-told Lkf _ p = refl
begun-told Ljf sign.TruePlus p = refl
begun-told Ljf _ p = refl

begun-within : (b : Beginning) (p : Place) (deep : Bool) → within deep (is_full (begun_by b p)) (begun_by b p) ≡ (if deep then Err TooDeep else Ok (begun_by b p))
begun-within (begin.Truth q) p true = refl
begun-within (begin.Truth q) p false = refl
begun-within (begin.Falsity q) p true = refl
begun-within (begin.Falsity q) p false = refl
begun-within (begin.Mark q) p true = refl
begun-within (begin.Mark q) p false = refl
begun-within begin.Pair p true = refl
begun-within begin.Pair p false = refl
begun-within (begin.Quantifier q) p true = refl
begun-within (begin.Quantifier q) p false = refl

-- a sign that begins a formula
pub limited-begun : (logic : Logic) (parameters : List (List ℕ)) (s : Sign) (b : Beginning) (p : Place) → beginning_of logic s ≡ Some b
    → limited logic parameters (wants p) (a_sign s) ≡ begins_within b (wants p)
limited-begun logic parameters s b p e =
    ap (λ (u : FormulaState). within (nat_eq (nesting p) 10001) (is_full u) u) (begun-told logic s p ∙ ap (λ (o : Option Beginning). begun_if o p) e)
    ∙ begun-within b p (nat_eq (nesting p) 10001)

pub join-by : (j : Joiner) (a b : Formula) → building.join j a b ≡ joined_by j a b
join-by (And p) a b = refl
join-by (Or p) a b = refl
join-by Implies a b = refl

no-joiner : (logic : Logic) (w : WrittenFormula) (p : Place) (s : Sign) → joiner_of logic s ≡ None → (s ≡ sign.CloseParenthesis → ⊥) → after logic w p (a_sign s) ≡ stuck
no-joiner logic w whole s e n = refl
no-joiner logic w (in_first p) s e n = rw e refl
no-joiner logic w (in_second j a p) sign.CloseParenthesis e n = absurd (n refl)
no-joiner logic w (in_second j a p) _ e n = refl
no-joiner logic w (under q x p) s e n = no-joiner logic (bind q x w) p s e n

-- a token that is no sign comes behind no formula
pub after-other : (logic : Logic) (w : WrittenFormula) (p : Place) (c : code.Lexeme) → ((s : Sign) → c ≡ code.TheVariants.Sign s → ⊥) → after logic w p (lexeme_as c) ≡ stuck
after-other logic w p (code.TheVariants.Sign s) n = absurd (n s refl)
after-other logic w whole c n = refl
after-other logic w (in_first p) c n = refl
after-other logic w (in_second j a p) c n = refl
after-other logic w (under q x p) c n = after-other logic (bind q x w) p c n

close-no_joiner : (logic : Logic) (j : Joiner) → joiner_of logic sign.CloseParenthesis ≡ Some j → ⊥
close-no_joiner Lkf j e = cc
close-no_joiner Ljf j e = cc

module _ (number : List ℕ → ℕ) (parameters : List (List ℕ)) where
  pub nesting-holes : (p : Place) → nesting p ≡ suc (length (holes_at number parameters p))
  nesting-holes whole = refl
  nesting-holes (in_first p) = ap suc (nesting-holes p)
  nesting-holes (in_second j a p) = ap suc (nesting-holes p)
  nesting-holes (under q x p) = ap suc (nesting-holes p)

  quantifiers-scope : (p : Place) → building.quantifiers_in (holes_at number parameters p) ≡ length (scope_at p)
  quantifiers-scope whole = refl
  quantifiers-scope (in_first p) = quantifiers-scope p
  quantifiers-scope (in_second j a p) = quantifiers-scope p
  quantifiers-scope (under q x p) = ap suc (quantifiers-scope p)

  quantifiers-few : (p : Place) → building.quantifiers_in (holes_at number parameters p) ≤ length (holes_at number parameters p)
  quantifiers-few whole = omega arith
  quantifiers-few (in_first p) = let h = quantifiers-few p in omega (arith, h)
  quantifiers-few (in_second j a p) = let h = quantifiers-few p in omega (arith, h)
  quantifiers-few (under q x p) = let h = quantifiers-few p in omega (arith, h)

  -- only quantifiers stand around exactly where the formula ends with them
  pub ended-told : (w : WrittenFormula) (p : Place) → (length (holes_at number parameters p) ≡ building.quantifiers_in (holes_at number parameters p)) ↔ (is_some (ended_at w p) ≡ true)
  ended-told w whole = (λ e. refl, λ e. refl)
  ended-told w (in_first p) = let h = quantifiers-few p in (λ e. (let n : ⊥ = omega (arith, h, e) in absurd n), λ e. (let n : ⊥ = cc in absurd n))
  ended-told w (in_second j a p) = let h = quantifiers-few p in (λ e. (let n : ⊥ = omega (arith, h, e) in absurd n), λ e. (let n : ⊥ = cc in absurd n))
  ended-told w (under q x p) = let i = ended-told (bind q x w) p in (λ e. i.0 (omega (arith, e)), λ e. ap suc (i.1 e))

  -- What is left of a formula and its place where the quantifiers around it end.
  pub record Leaves (logic : Logic) (w : WrittenFormula) (p : Place) : Type 0 where
    pub formula : WrittenFormula
    pub place : Place
    pub after_it : (c : Lexeme) → after logic w p c ≡ after logic formula place c
    pub left : building.left_of (formula_meant number parameters (scope_at p) w) (holes_at number parameters p)
        ≡ building.has (formula_meant number parameters (scope_at place) formula) (holes_at number parameters place)
    pub few : length (scope_at place) ≤ length (scope_at p)
    pub scope : outermost (length (scope_at place)) (scope_at p) ≡ scope_at place
    pub outer : (q : Binder) (x : List ℕ) (p : Place) → place ≡ under q x p → ⊥

  stays : (logic : Logic) (w : WrittenFormula) (p : Place) → ((q : Binder) (x : List ℕ) (r : Place) → p ≡ under q x r → ⊥)
      → building.left_of (formula_meant number parameters (scope_at p) w) (holes_at number parameters p) ≡ building.has (formula_meant number parameters (scope_at p) w) (holes_at number parameters p)
      → Leaves logic w p
  stays logic w p n e =
      record { formula = w; place = p; after_it = λ c. refl; left = e; few = omega arith; scope = outermost-all (length (scope_at p)) (scope_at p) (omega arith); outer = n }

  goes : (logic : Logic) (q : Binder) (x : List ℕ) (w : WrittenFormula) (p : Place) → Leaves logic (bind q x w) p
      → building.left_of (building.bind q (formula_meant number parameters (x ∷ scope_at p) w)) (holes_at number parameters p)
      ≡ building.left_of (formula_meant number parameters (scope_at p) (bind q x w)) (holes_at number parameters p)
      → Leaves logic w (under q x p)
  goes logic q x w p l e =
      let f : length (scope_at l.place) ≤ length (scope_at p) = l.few in
      record {
        formula = l.formula;
        place = l.place;
        after_it = l.after_it;
        left = e ∙ l.left;
        few = omega (arith, f);
        scope = outermost-later (length (scope_at l.place)) x (scope_at p) f ∙ l.scope;
        outer = l.outer;
      }

  pub leaves : (logic : Logic) (w : WrittenFormula) (p : Place) → Leaves logic w p
  leaves logic w whole = stays logic w whole (λ q x r e. cc) refl
  leaves logic w (in_first p) = stays logic w (in_first p) (λ q x r e. cc) refl
  leaves logic w (in_second j a p) = stays logic w (in_second j a p) (λ q x r e. cc) refl
  leaves logic w (under ForAll x p) = goes logic ForAll x w p (leaves logic (bind ForAll x w) p) refl
  leaves logic w (under Exists x p) = goes logic Exists x w p (leaves logic (bind Exists x w) p) refl

  -- the whole formula, where only quantifiers stand around
  pub whole-left : (w : WrittenFormula) (p : Place) (v : WrittenFormula) → ended_at w p ≡ Some v
      → building.whole (building.left_of (formula_meant number parameters (scope_at p) w) (holes_at number parameters p)) ≡ Some (formula_meant number parameters [] v)
  whole-left w whole v e = let same : w ≡ v = cc in rw same refl
  whole-left w (in_first p) v e = let n : ⊥ = cc in absurd n
  whole-left w (in_second j a p) v e = let n : ⊥ = cc in absurd n
  whole-left w (under ForAll x p) v e = whole-left (bind ForAll x w) p v e
  whole-left w (under Exists x p) v e = whole-left (bind Exists x w) p v e

-- a state by its mode
module _ (number : List ℕ → ℕ) where
  pub at-wants : (s : FormulaState) → IsLive s → mode_of number s ≡ mode.Wants → (P : FormulaState → Type 0) → ((p : Place) → P (wants p)) → P s
  at-wants (wants p) l e P f = f p
  at-wants stuck l e P f = absurd l
  at-wants _ l e P f = let n : ⊥ = cc in absurd n

  pub at-has : (s : FormulaState) → IsLive s → mode_of number s ≡ mode.Has → (P : FormulaState → Type 0) → ((w : WrittenFormula) (p : Place) → P (has w p)) → P s
  at-has (has w p) l e P f = f w p
  at-has stuck l e P f = absurd l
  at-has _ l e P f = let n : ⊥ = cc in absurd n

  pub at-named : (s : FormulaState) (positive : Bool) (k : ℕ) → IsLive s → mode_of number s ≡ mode.Named positive k → (P : FormulaState → Type 0)
      → ((x : List ℕ) (p : Place) → number x ≡ k → P (named positive x p)) → P s
  at-named (named b x p) positive k l e P f =
      let same : b ≡ positive = cc in let d : number x ≡ k = cc in subst (λ (a : Bool). P (named a x p)) (sym same) (f x p d)
  at-named stuck positive k l e P f = absurd l
  at-named _ positive k l e P f = let n : ⊥ = cc in absurd n

  pub at-in_atom : (s : FormulaState) (positive : Bool) (k : ℕ) → IsLive s → mode_of number s ≡ mode.InAtom positive k → (P : FormulaState → Type 0)
      → ((x : List ℕ) (t : term.TermState) (p : Place) → number x ≡ k → P (in_atom positive x t p)) → P s
  at-in_atom (in_atom b x t p) positive k l e P f =
      let same : b ≡ positive = cc in let d : number x ≡ k = cc in subst (λ (a : Bool). P (in_atom a x t p)) (sym same) (f x t p d)
  at-in_atom stuck positive k l e P f = absurd l
  at-in_atom _ positive k l e P f = let n : ⊥ = cc in absurd n

module _ (number : List ℕ → ℕ) (logic : Logic) (parameters : List (List ℕ)) where
  -- what was made holds the state, or memory ran out
  pub takes-made : (result : Result (Unit {0}) TokenRefusal) (next : Result FormulaState Code) (t : FormulaState) (made new : FormulaReader)
      → OnOk result (new ≡ made) → IfErr result (λ (e : TokenRefusal). e ≡ OutOfMemory) → next ≡ Ok t → Holds number logic parameters t made → Takes result number logic parameters next new
  takes-made (Ok u) next t made new o x e h = (t, (e, rw o h))
  takes-made (Err (Refused k)) next t made new o x e h = let n : ⊥ = cc in absurd n
  takes-made (Err OutOfMemory) next t made new o x e h = tt

  deep-told : (p : Place) (r : FormulaReader) → Holds number logic parameters (wants p) r → length (building.holes_in r.builder) ≡ 10000 → nat_eq (nesting p) 10001 ≡ true
  deep-told p r h e =
      let d : length (holes_at number parameters p) ≡ 10000 = rw h.builder at e in
      rw (nesting-holes number parameters p, d) refl

  shallow-told : (p : Place) (r : FormulaReader) → Holds number logic parameters (wants p) r → (length (building.holes_in r.builder) ≡ 10000 → ⊥) → nat_eq (nesting p) 10001 ≡ false
  shallow-told p r h e =
      let d : length (holes_at number parameters p) ≡ 10000 → ⊥ = λ i. e (rw h.builder i) in
      rw (nesting-holes number parameters p) (grind (arith, nat_tests))

  pub refuses-deep : (b : Beginning) (s : FormulaState) (r : FormulaReader) → Holds number logic parameters s r → r.mode ≡ mode.Wants
      → length (building.holes_in r.builder) ≡ 10000 → begins_within b s ≡ Err TooDeep
  refuses-deep b s r h m e =
      at-wants number s h.live (sym h.mode ∙ m) (λ (u : FormulaState). Holds number logic parameters u r → begins_within b u ≡ Err TooDeep)
      (λ p g. rw (deep-told p r g e) refl) h

  pub takes-begun : (b : Beginning) (s : FormulaState) (result : Result (Unit {0}) TokenRefusal) (old made new : FormulaReader) → Holds number logic parameters s old → old.mode ≡ mode.Wants
      → (length (building.holes_in old.builder) ≡ 10000 → ⊥) → OnOk result (new ≡ made) → IfErr result (λ (e : TokenRefusal). e ≡ OutOfMemory)
      → ((p : Place) → Holds number logic parameters (wants p) old → Holds number logic parameters (begun_by b p) made)
      → Takes result number logic parameters (begins_within b s) new
  takes-begun b s result old made new h m f o x k =
      at-wants number s h.live (sym h.mode ∙ m) (λ (u : FormulaState). Holds number logic parameters u old → Takes result number logic parameters (begins_within b u) new)
      (λ p g. takes-made result (begins_within b (wants p)) (begun_by b p) made new o x (rw (shallow-told p old g f) refl) (k p g)) h

  -- a sign that a formula begins with
  pub takes-sign : (s : FormulaState) (sign : Sign) (b : Beginning) (result : Result (Unit {0}) TokenRefusal) (old new : FormulaReader) → Holds number logic parameters s old → old.mode ≡ mode.Wants
      → beginning_of old.logic sign ≡ Some b → Takes result number logic parameters (begins_within b s) new → Takes result number logic parameters (limited logic parameters s (a_sign sign)) new
  takes-sign s sign b result old new h m e t =
      at-wants number s h.live (sym h.mode ∙ m)
      (λ (u : FormulaState). Takes result number logic parameters (begins_within b u) new → Takes result number logic parameters (limited logic parameters u (a_sign sign)) new)
      (λ p k. subst (λ (o : Result FormulaState Code). Takes result number logic parameters o new) (sym (limited-begun logic parameters sign b p (ap (λ (l : Logic). beginning_of l sign) (sym h.in_logic) ∙ e))) k) t

  lkf-name : (x : List ℕ) (p : Place) (deep : Bool) → logic ≡ Lkf → nat_eq (nesting p) 10001 ≡ deep → limited logic parameters (wants p) (a_name x) ≡ within deep false (named true x p)
  lkf-name x p deep l e = rw l (ap (λ (d : Bool). within d false (named true x p)) e)

  pub refuses-name : (s : FormulaState) (x : List ℕ) (r : FormulaReader) → Holds number logic parameters s r → r.mode ≡ mode.Wants → logic ≡ Lkf → length (building.holes_in r.builder) ≡ 10000
      → limited logic parameters s (a_name x) ≡ Err TooDeep
  refuses-name s x r h m l e =
      at-wants number s h.live (sym h.mode ∙ m) (λ (u : FormulaState). Holds number logic parameters u r → limited logic parameters u (a_name x) ≡ Err TooDeep)
      (λ p g. lkf-name x p true l (deep-told p r g e)) h

  -- the name of an atom without a mark
  pub takes-plain_name : (s : FormulaState) (x : List ℕ) (result : Result (Unit {0}) TokenRefusal) (old new : FormulaReader) (names : List (List ℕ)) → Holds number logic parameters s old → old.mode ≡ mode.Wants → logic ≡ Lkf
      → (length (building.holes_in old.builder) ≡ 10000 → ⊥) → ((id : ℕ) → slice_get names id ≡ Some x → number x ≡ id)
      → OnOk result ((id : ℕ) × (slice_get names id ≡ Some x) × (new ≡ record old { mode = mode.Named true id })) → IfErr result (λ (e : TokenRefusal). e ≡ OutOfMemory)
      → Takes result number logic parameters (limited logic parameters s (a_name x)) new
  takes-plain_name s x (Ok u) old new names h m l f a o y =
      at-wants number s h.live (sym h.mode ∙ m) (λ (u : FormulaState). Holds number logic parameters u old → Takes (Ok tt) number logic parameters (limited logic parameters u (a_name x)) new)
      (λ p g. (
        named true x p,
        (
          lkf-name x p false l (shallow-told p old g f),
          rw o.2 (record {
            in_logic = g.in_logic;
            mode = ap (mode.Named true) (sym (a o.0 o.1));
            builder = g.builder;
            bound = g.bound;
            arguments = tt;
            live = tt;
          }),
        ),
      )) h
  takes-plain_name s x (Err (Refused k)) old new names h m l f a o y = let n : ⊥ = cc in absurd n
  takes-plain_name s x (Err OutOfMemory) old new names h m l f a o y = tt

  after-limited : (w : WrittenFormula) (p : Place) (c : Lexeme) (u : FormulaState) → after logic w p c ≡ u → limited logic parameters (has w p) c ≡ within false (is_full u) u
  after-limited w p c u e = ap (λ (v : FormulaState). within false (is_full v) v) e

  -- the reader behind an operator
  abbrev pub joined_reader : Joiner → FormulaReader → FormulaReader
  joined_reader j r = record r {
    mode = mode.Wants;
    builder = building.joined j (building.left r.builder);
    bound = outermost (building.quantifiers_in (building.holes_in (building.joined j (building.left r.builder)))) r.bound;
  }

  refuses-join-at : (w v : WrittenFormula) (p q : Place) (s : Sign) (j : Joiner) → joiner_of logic s ≡ Some j → after logic w p (a_sign s) ≡ after logic v q (a_sign s)
      → ((b : Binder) (x : List ℕ) (r : Place) → q ≡ under b x r → ⊥)
      → building.takes_joiner (building.has (formula_meant number parameters (scope_at q) v) (holes_at number parameters q)) ≡ false → after logic w p (a_sign s) ≡ stuck
  refuses-join-at w v p whole s j e a o f = a
  refuses-join-at w v p (in_first q) s j e a o f = let n : ⊥ = cc in absurd n
  refuses-join-at w v p (in_second i b q) sign.CloseParenthesis j e a o f = absurd (close-no_joiner logic j e)
  refuses-join-at w v p (in_second i b q) _ j e a o f = a
  refuses-join-at w v p (under b x q) s j e a o f = absurd (o b x q refl)

  pub refuses-join : (s : FormulaState) (sign : Sign) (j : Joiner) (r : FormulaReader) → Holds number logic parameters s r → r.mode ≡ mode.Has → joiner_of logic sign ≡ Some j
      → building.takes_joiner (building.left r.builder) ≡ false → limited logic parameters s (a_sign sign) ≡ Err Unexpected
  refuses-join s sign j r h m e f =
      at-has number s h.live (sym h.mode ∙ m) (λ (u : FormulaState). Holds number logic parameters u r → limited logic parameters u (a_sign sign) ≡ Err Unexpected)
      (λ w p g. (let l = leaves number parameters logic w p in
      let k : building.takes_joiner (building.left_of (formula_meant number parameters (scope_at p) w) (holes_at number parameters p)) ≡ false = rw g.builder at f in
      after-limited w p (a_sign sign) stuck
      (refuses-join-at w l.formula p l.place sign j e (l.after_it (a_sign sign)) l.outer (rw l.left at k)))) h

  takes-join-at : (w v : WrittenFormula) (p q : Place) (s : Sign) (j : Joiner) (old : FormulaReader) → joiner_of logic s ≡ Some j → after logic w p (a_sign s) ≡ after logic v q (a_sign s)
      → ((b : Binder) (x : List ℕ) (r : Place) → q ≡ under b x r → ⊥) → old.logic ≡ logic
      → building.left old.builder ≡ building.has (formula_meant number parameters (scope_at q) v) (holes_at number parameters q) → outermost (length (scope_at q)) old.bound ≡ scope_at q
      → building.takes_joiner (building.has (formula_meant number parameters (scope_at q) v) (holes_at number parameters q)) ≡ true
      → (t : FormulaState) × ((limited logic parameters (has w p) (a_sign s) ≡ Ok t) × Holds number logic parameters t (joined_reader j old))
  takes-join-at w v p whole s j old e a o l b k f = let n : ⊥ = cc in absurd n
  takes-join-at w v p (in_second i c q) s j old e a o l b k f = let n : ⊥ = cc in absurd n
  takes-join-at w v p (under c x q) s j old e a o l b k f = absurd (o c x q refl)
  takes-join-at w v p (in_first q) s j old e a o l b k f =
      let z : after logic w p (a_sign s) ≡ wants (in_second j v q) = a ∙ (rw e refl) in (
        wants (in_second j v q),
        (
          after-limited w p (a_sign s) (wants (in_second j v q)) z,
          record {
            in_logic = l;
            mode = refl;
            builder = rw b refl;
            bound = rw (b, quantifiers-scope number parameters q) k;
            arguments = tt;
            live = tt;
          },
        ),
      )

  -- an operator
  pub takes-join : (s : FormulaState) (sign : Sign) (j : Joiner) (old new : FormulaReader) → Holds number logic parameters s old → old.mode ≡ mode.Has → joiner_of logic sign ≡ Some j
      → building.takes_joiner (building.left old.builder) ≡ true → new ≡ joined_reader j old
      → (t : FormulaState) × ((limited logic parameters s (a_sign sign) ≡ Ok t) × Holds number logic parameters t new)
  takes-join s sign j old new h m e f d =
      rw d (at-has number s h.live (sym h.mode ∙ m)
      (λ (u : FormulaState). Holds number logic parameters u old → (t : FormulaState) × ((limited logic parameters u (a_sign sign) ≡ Ok t) × Holds number logic parameters t (joined_reader j old)))
      (λ w p g. (let l = leaves number parameters logic w p in
      let b : building.left old.builder ≡ building.has (formula_meant number parameters (scope_at l.place) l.formula) (holes_at number parameters l.place) = rw g.builder l.left in
      takes-join-at w l.formula p l.place sign j old e (l.after_it (a_sign sign)) l.outer g.in_logic b (rw g.bound l.scope) (rw b at f))) h)

  -- the reader behind a parenthesis that closes a pair
  abbrev pub closed_reader : FormulaReader → FormulaReader
  closed_reader r = record r {
    builder = building.closed (building.left r.builder);
    bound = outermost (building.quantifiers_in (building.holes_in (building.closed (building.left r.builder)))) r.bound;
  }

  refuses-close-at : (w v : WrittenFormula) (p q : Place) → after logic w p (a_sign sign.CloseParenthesis) ≡ after logic v q (a_sign sign.CloseParenthesis)
      → ((b : Binder) (x : List ℕ) (r : Place) → q ≡ under b x r → ⊥)
      → building.takes_close (building.has (formula_meant number parameters (scope_at q) v) (holes_at number parameters q)) ≡ false → after logic w p (a_sign sign.CloseParenthesis) ≡ stuck
  refuses-close-at w v p whole a o f = a
  refuses-close-at w v p (in_first q) a o f = a ∙ closes-no_first logic v q where
    closes-no_first : (logic : Logic) (v : WrittenFormula) (q : Place) → after logic v (in_first q) (a_sign sign.CloseParenthesis) ≡ stuck
    closes-no_first Lkf v q = refl
    closes-no_first Ljf v q = refl
  refuses-close-at w v p (in_second i b q) a o f = let n : ⊥ = cc in absurd n
  refuses-close-at w v p (under b x q) a o f = absurd (o b x q refl)

  pub refuses-close : (s : FormulaState) (r : FormulaReader) → Holds number logic parameters s r → r.mode ≡ mode.Has
      → building.takes_close (building.left r.builder) ≡ false → limited logic parameters s (a_sign sign.CloseParenthesis) ≡ Err Unexpected
  refuses-close s r h m f =
      at-has number s h.live (sym h.mode ∙ m) (λ (u : FormulaState). Holds number logic parameters u r → limited logic parameters u (a_sign sign.CloseParenthesis) ≡ Err Unexpected)
      (λ w p g. (let l = leaves number parameters logic w p in
      let k : building.takes_close (building.left_of (formula_meant number parameters (scope_at p) w) (holes_at number parameters p)) ≡ false = rw g.builder at f in
      after-limited w p (a_sign sign.CloseParenthesis) stuck
      (refuses-close-at w l.formula p l.place (l.after_it (a_sign sign.CloseParenthesis)) l.outer (rw l.left at k)))) h

  takes-close-at : (w v : WrittenFormula) (p q : Place) (old : FormulaReader) → after logic w p (a_sign sign.CloseParenthesis) ≡ after logic v q (a_sign sign.CloseParenthesis)
      → ((b : Binder) (x : List ℕ) (r : Place) → q ≡ under b x r → ⊥) → old.logic ≡ logic → old.mode ≡ mode.Has
      → building.left old.builder ≡ building.has (formula_meant number parameters (scope_at q) v) (holes_at number parameters q) → outermost (length (scope_at q)) old.bound ≡ scope_at q
      → building.takes_close (building.has (formula_meant number parameters (scope_at q) v) (holes_at number parameters q)) ≡ true
      → (t : FormulaState) × ((limited logic parameters (has w p) (a_sign sign.CloseParenthesis) ≡ Ok t) × Holds number logic parameters t (closed_reader old))
  takes-close-at w v p whole old a o l m b k f = let n : ⊥ = cc in absurd n
  takes-close-at w v p (in_first q) old a o l m b k f = let n : ⊥ = cc in absurd n
  takes-close-at w v p (under c x q) old a o l m b k f = absurd (o c x q refl)
  takes-close-at w v p (in_second i c q) old a o l m b k f = (
    has (pair i c v) q,
    (
      after-limited w p (a_sign sign.CloseParenthesis) (has (pair i c v) q) a,
      record {
        in_logic = l;
        mode = m;
        builder = rw (b, join-by) refl;
        bound = rw (b, quantifiers-scope number parameters q) k;
        arguments = tt;
        live = tt;
      },
    ),
  )

  -- a parenthesis that closes a pair
  pub takes-close : (s : FormulaState) (old new : FormulaReader) → Holds number logic parameters s old → old.mode ≡ mode.Has
      → building.takes_close (building.left old.builder) ≡ true → new ≡ closed_reader old
      → (t : FormulaState) × ((limited logic parameters s (a_sign sign.CloseParenthesis) ≡ Ok t) × Holds number logic parameters t new)
  takes-close s old new h m f d =
      rw d (at-has number s h.live (sym h.mode ∙ m)
      (λ (u : FormulaState). Holds number logic parameters u old → (t : FormulaState) × ((limited logic parameters u (a_sign sign.CloseParenthesis) ≡ Ok t) × Holds number logic parameters t (closed_reader old)))
      (λ w p g. (let l = leaves number parameters logic w p in
      let b : building.left old.builder ≡ building.has (formula_meant number parameters (scope_at l.place) l.formula) (holes_at number parameters l.place) = rw g.builder l.left in
      takes-close-at w l.formula p l.place old (l.after_it (a_sign sign.CloseParenthesis)) l.outer g.in_logic m b (rw g.bound l.scope) (rw b at f))) h)

  -- a sign behind a formula that is no connective
  pub refuses-sign : (s : FormulaState) (z : Sign) (r : FormulaReader) → Holds number logic parameters s r → r.mode ≡ mode.Has → joiner_of logic z ≡ None → (z ≡ sign.CloseParenthesis → ⊥)
      → limited logic parameters s (a_sign z) ≡ Err Unexpected
  refuses-sign s z r h m e n =
      at-has number s h.live (sym h.mode ∙ m) (λ (u : FormulaState). limited logic parameters u (a_sign z) ≡ Err Unexpected)
      (λ w p. after-limited w p (a_sign z) stuck (no-joiner logic w p z e n))

  -- a token behind a formula that is no sign
  pub refuses-other : (s : FormulaState) (c : code.Lexeme) (r : FormulaReader) → Holds number logic parameters s r → r.mode ≡ mode.Has → ((z : Sign) → c ≡ code.TheVariants.Sign z → ⊥)
      → limited logic parameters s (lexeme_as c) ≡ Err Unexpected
  refuses-other s c r h m n =
      at-has number s h.live (sym h.mode ∙ m) (λ (u : FormulaState). limited logic parameters u (lexeme_as c) ≡ Err Unexpected)
      (λ w p. after-limited w p (lexeme_as c) stuck (after-other logic w p c n))

  -- the arguments of an atom begin
  pub takes-arguments : (s : FormulaState) (c : Lexeme) (positive : Bool) (k : ℕ) (old new : FormulaReader) → Holds number logic parameters s old → old.mode ≡ mode.Named positive k
      → c ≡ a_sign sign.OpenParenthesis → new ≡ record old { mode = mode.InAtom positive k; terms = new.terms }
      → ((leaf : List ℕ → Term) → held.Holds number leaf (term.wants (in_arguments [])) new.terms)
      → (t : FormulaState) × ((limited logic parameters s c ≡ Ok t) × Holds number logic parameters t new)
  takes-arguments s c positive k old new h m e d f =
      rw e (at-named number s positive k h.live (sym h.mode ∙ m)
      (λ (u : FormulaState). Holds number logic parameters u old → (t : FormulaState) × ((limited logic parameters u (a_sign sign.OpenParenthesis) ≡ Ok t) × Holds number logic parameters t new))
      (λ x p i g. (
        in_atom positive x (term.wants (in_arguments [])) p,
        (
          refl,
          record {
            in_logic = ap (λ (r : FormulaReader). r.logic) d ∙ g.in_logic;
            mode = ap (λ (r : FormulaReader). r.mode) d ∙ ap (mode.InAtom positive) (sym i);
            builder = ap (λ (r : FormulaReader). r.builder) d ∙ g.builder;
            bound = ap (λ (r : FormulaReader). r.bound) d ∙ g.bound;
            arguments = f (variable_meant parameters (scope_at p));
            live = tt;
          },
        ),
      )) h)

  -- a token behind an atom without arguments is one behind a formula
  named-behind : (positive : Bool) (x : List ℕ) (p : Place) (c : Lexeme) → (c ≡ a_sign sign.OpenParenthesis → ⊥)
      → limited logic parameters (has (literal positive x no_words) p) c ≡ limited logic parameters (named positive x p) c
  named-behind positive x p (a_sign sign.OpenParenthesis) n = absurd (n refl)
  named-behind positive x p c n = refl

  pub takes-behind_name : (s : FormulaState) (c : Lexeme) (positive : Bool) (k : ℕ) (result : Result (Unit {0}) TokenRefusal) (old made new : FormulaReader) → Holds number logic parameters s old
      → old.mode ≡ mode.Named positive k → (c ≡ a_sign sign.OpenParenthesis → ⊥)
      → made ≡ record old { mode = mode.Has; builder = building.placed (atom positive k no_args) old.builder }
      → ((u : FormulaState) → Holds number logic parameters u made → Takes result number logic parameters (limited logic parameters u c) new)
      → Takes result number logic parameters (limited logic parameters s c) new
  takes-behind_name s c positive k result old made new h m n d f =
      at-named number s positive k h.live (sym h.mode ∙ m)
      (λ (u : FormulaState). Holds number logic parameters u old → Takes result number logic parameters (limited logic parameters u c) new)
      (λ x p i g. subst (λ (o : Result FormulaState Code). Takes result number logic parameters o new) (named-behind positive x p c n)
      (f (has (literal positive x no_words) p) (rw d (record {
        in_logic = g.in_logic;
        mode = refl;
        builder = rw (g.builder, sym i) refl;
        bound = g.bound;
        arguments = tt;
        live = tt;
      })))) h

  true-same : (a b : Bool) → (IsTrue a → b ≡ true) → (b ≡ true → IsTrue a) → a ≡ b
  true-same true b f g = sym (f refl)
  true-same false true f g = let n : ⊥ = cc (g refl) in absurd n
  true-same false false f g = refl

  -- whether nothing goes on behind the formula
  pub ended-by : (s : FormulaState) (r : FormulaReader) (b : Bool) → Holds number logic parameters s r → r.mode ≡ mode.Has
      → (IsTrue b ↔ (length (building.holes_in r.builder) ≡ building.quantifiers_in (building.holes_in r.builder))) → b ≡ is_ended s
  ended-by s r b h m i =
      at-has number s h.live (sym h.mode ∙ m) (λ (u : FormulaState). Holds number logic parameters u r → b ≡ is_ended u)
      (λ w p g. (let o = ended-told number parameters w p in
      true-same b (is_some (ended_at w p)) (λ t. o.0 (rw g.builder at (i.0 t))) (λ t. i.1 (rw g.builder (o.1 t))))) h

  -- whether the formula is whole
  pub whole-by : (s : FormulaState) (r : FormulaReader) (b : Bool) → Holds number logic parameters s r → is_standing r.mode ≡ true
      → (IsTrue b ↔ (length (building.holes_in r.builder) ≡ building.quantifiers_in (building.holes_in r.builder))) → b ≡ is_some (whole_of s)
  whole-by (has w p) r b h m i =
      let o = ended-told number parameters w p in
      true-same b (is_some (ended_at w p)) (λ t. o.0 (rw h.builder at (i.0 t))) (λ t. i.1 (rw h.builder (o.1 t)))
  whole-by (named positive x p) r b h m i =
      let o = ended-told number parameters (literal positive x no_words) p in
      true-same b (is_some (ended_at (literal positive x no_words) p)) (λ t. o.0 (rw h.builder at (i.0 t))) (λ t. i.1 (rw h.builder (o.1 t)))
  whole-by stuck r b h m i = absurd h.live
  whole-by (wants p) r b h m i = let n : false ≡ true = rw h.mode at m in cc
  whole-by (marked positive p) r b h m i = let n : false ≡ true = rw h.mode at m in cc
  whole-by (binding q p) r b h m i = let n : false ≡ true = rw h.mode at m in cc
  whole-by (bound_to q x p) r b h m i = let n : false ≡ true = rw h.mode at m in cc
  whole-by (in_atom positive x t p) r b h m i = let n : false ≡ true = rw h.mode at m in cc

  -- the formula that is whole
  pub whole-has : (s : FormulaState) (r : FormulaReader) (w : WrittenFormula) → Holds number logic parameters s r → whole_of s ≡ Some w → ((positive : Bool) (k : ℕ) → r.mode ≡ mode.Named positive k → ⊥)
      → building.whole (building.left r.builder) ≡ Some (formula_meant number parameters [] w)
  whole-has (has u p) r w h e n = rw h.builder (whole-left number parameters u p w e)
  whole-has (named positive x p) r w h e n = absurd (n positive (number x) h.mode)
  whole-has stuck r w h e n = absurd h.live
  whole-has _ r w h e n = let z : ⊥ = cc in absurd z

  pub whole-named : (s : FormulaState) (r : FormulaReader) (w : WrittenFormula) (positive : Bool) (k : ℕ) → Holds number logic parameters s r → whole_of s ≡ Some w → r.mode ≡ mode.Named positive k
      → building.whole (building.left (building.placed (atom positive k no_args) r.builder)) ≡ Some (formula_meant number parameters [] w)
  whole-named s r w positive k h e m =
      at-named number s positive k h.live (sym h.mode ∙ m)
      (λ (u : FormulaState). Holds number logic parameters u r → whole_of u ≡ Some w → building.whole (building.left (building.placed (atom positive k no_args) r.builder)) ≡ Some (formula_meant number parameters [] w))
      (λ x p i g f. rw (g.builder, sym i) (whole-left number parameters (literal positive x no_words) p w f)) h e

  -- a token of the arguments, as one of the formula
  wants-err : (positive : Bool) (x : List ℕ) (p : Place) (s : Spot) (full : Bool) (code : Code) → term.within full false (term.wants s) ≡ Err code → within false full (in_atom positive x (term.wants s) p) ≡ Err code
  wants-err positive x p s true code e = let d : ManyArguments ≡ code = cc in ap Err d
  wants-err positive x p s false code e = let n : ⊥ = cc in absurd n

  atom-err : (positive : Bool) (x : List ℕ) (p : Place) (t : term.TermState) (code : Code) → term.within (term.is_full t) false t ≡ Err code
      → within false (is_full (within_atom positive x p t)) (within_atom positive x p t) ≡ Err code
  atom-err positive x p (term.wants s) code e = wants-err positive x p s (term.is_full (term.wants s)) code e
  atom-err positive x p (term.named y s) code e = let n : ⊥ = cc in absurd n
  atom-err positive x p (term.has u s) code e = let n : ⊥ = cc in absurd n
  atom-err positive x p (term.ended args) code e = let n : ⊥ = cc in absurd n
  atom-err positive x p term.stuck code e = let d : Unexpected ≡ code = cc in ap Err d

  wants-ok : (positive : Bool) (x : List ℕ) (p : Place) (s : Spot) (full : Bool) (u : term.TermState) → term.within full false (term.wants s) ≡ Ok u
      → within false full (in_atom positive x (term.wants s) p) ≡ Ok (within_atom positive x p u)
  wants-ok positive x p s true u e = let n : ⊥ = cc in absurd n
  wants-ok positive x p s false u e = let d : term.wants s ≡ u = cc in ap (λ (v : term.TermState). Ok (within_atom positive x p v)) d

  atom-ok : (positive : Bool) (x : List ℕ) (p : Place) (t u : term.TermState) → term.within (term.is_full t) false t ≡ Ok u
      → within false (is_full (within_atom positive x p t)) (within_atom positive x p t) ≡ Ok (within_atom positive x p u)
  atom-ok positive x p (term.wants s) u e = wants-ok positive x p s (term.is_full (term.wants s)) u e
  atom-ok positive x p (term.named y s) u e = let d : term.named y s ≡ u = cc in ap (λ (v : term.TermState). Ok (within_atom positive x p v)) d
  atom-ok positive x p (term.has w s) u e = let d : term.has w s ≡ u = cc in ap (λ (v : term.TermState). Ok (within_atom positive x p v)) d
  atom-ok positive x p (term.ended args) u e = let d : term.ended args ≡ u = cc in ap (λ (v : term.TermState). Ok (within_atom positive x p v)) d
  atom-ok positive x p term.stuck u e = let n : ⊥ = cc in absurd n

  -- the reader of terms takes a token of the arguments
  abbrev pub TakesArgument : Result (Unit {0}) TokenRefusal → List (List ℕ) → Lexeme → TermReader → TermReader → Type 0
  TakesArgument result scope c old new =
      (t : term.TermState) → held.Holds number (variable_meant parameters scope) t old
      → held.Takes result number (variable_meant parameters scope) (term.limited (is_known parameters scope) None [] t c) new

  err-takes : (positive : Bool) (x : List ℕ) (p : Place) (t : term.TermState) (c : Lexeme) (e : TokenRefusal) (terms : TermReader) (new : FormulaReader)
      → held.Takes (Err e) number (variable_meant parameters (scope_at p)) (term.limited (is_known parameters (scope_at p)) None [] t c) terms
      → Takes (Err e) number logic parameters (limited logic parameters (in_atom positive x t p) c) new
  err-takes positive x p t c (Refused code) terms new f = atom-err positive x p (term.step (is_known parameters (scope_at p)) t c) code f
  err-takes positive x p t c OutOfMemory terms new f = tt

  pub refuses-in_atom : (s : FormulaState) (c : Lexeme) (e : TokenRefusal) (positive : Bool) (k : ℕ) (old new : FormulaReader) (terms : TermReader) → Holds number logic parameters s old
      → old.mode ≡ mode.InAtom positive k → TakesArgument (Err e) old.bound c old.terms terms → Takes (Err e) number logic parameters (limited logic parameters s c) new
  refuses-in_atom s c e positive k old new terms h m f =
      at-in_atom number s positive k h.live (sym h.mode ∙ m)
      (λ (u : FormulaState). Holds number logic parameters u old → Takes (Err e) number logic parameters (limited logic parameters u c) new)
      (λ x t p i g. err-takes positive x p t c e terms new (subst (λ (b : List (List ℕ)). TakesArgument (Err e) b c old.terms terms) g.bound f t g.arguments)) h

  held-atom : (positive : Bool) (x : List ℕ) (p : Place) (u : term.TermState) (k : ℕ) (old new : FormulaReader) → number x ≡ k → old.mode ≡ mode.InAtom positive k → old.logic ≡ logic
      → old.builder ≡ building.wants (holes_at number parameters p) → old.bound ≡ scope_at p → new ≡ record old { terms = new.terms }
      → (new.terms.mode ≡ term_mode.Ended → ⊥) → held.Holds number (variable_meant parameters (scope_at p)) u new.terms
      → Holds number logic parameters (within_atom positive x p u) new
  held-atom positive x p (term.wants s) k old new i m l b o d n h = rw d (record { in_logic = l; mode = m ∙ ap (mode.InAtom positive) (sym i); builder = b; bound = o; arguments = h; live = tt })
  held-atom positive x p (term.named y s) k old new i m l b o d n h = rw d (record { in_logic = l; mode = m ∙ ap (mode.InAtom positive) (sym i); builder = b; bound = o; arguments = h; live = tt })
  held-atom positive x p (term.has w s) k old new i m l b o d n h = rw d (record { in_logic = l; mode = m ∙ ap (mode.InAtom positive) (sym i); builder = b; bound = o; arguments = h; live = tt })
  held-atom positive x p (term.ended args) k old new i m l b o d n h = absurd (n h.mode)
  held-atom positive x p term.stuck k old new i m l b o d n h = absurd h.room

  -- a token of the arguments that doesn't end them
  pub takes-in_atom : (s : FormulaState) (c : Lexeme) (positive : Bool) (k : ℕ) (old new : FormulaReader) → Holds number logic parameters s old → old.mode ≡ mode.InAtom positive k
      → TakesArgument (Ok tt) old.bound c old.terms new.terms → new ≡ record old { terms = new.terms } → (new.terms.mode ≡ term_mode.Ended → ⊥)
      → (t : FormulaState) × ((limited logic parameters s c ≡ Ok t) × Holds number logic parameters t new)
  takes-in_atom s c positive k old new h m f d n =
      at-in_atom number s positive k h.live (sym h.mode ∙ m)
      (λ (u : FormulaState). Holds number logic parameters u old → (t : FormulaState) × ((limited logic parameters u c ≡ Ok t) × Holds number logic parameters t new))
      (λ x t p i g. (let j = subst (λ (b : List (List ℕ)). TakesArgument (Ok tt) b c old.terms new.terms) g.bound f t g.arguments in (
        within_atom positive x p j.0,
        (
          atom-ok positive x p (term.step (is_known parameters (scope_at p)) t c) j.0 j.1.0,
          held-atom positive x p j.0 k old new i m g.in_logic g.builder g.bound d n j.1.1,
        ),
      ))) h

  -- the reader adds the atom, where its arguments are whole
  abbrev pub AddsAtom : Result (Unit {0}) TokenRefusal → Bool → ℕ → FormulaReader → FormulaReader → Type 0
  AddsAtom result positive k old new =
      (leaf : List ℕ → Term) (args : WrittenArgs) → held.Holds number leaf (term.ended args) old.terms
      → OnOk result (new ≡ record old { mode = mode.Has; builder = building.placed (atom positive k (args_meant number leaf args)) old.builder })

  added-atom : (result : Result (Unit {0}) TokenRefusal) (next : Result FormulaState Code) (positive : Bool) (x : List ℕ) (p : Place) (u : term.TermState) (k : ℕ) (mid new : FormulaReader) → number x ≡ k → mid.logic ≡ logic
      → mid.builder ≡ building.wants (holes_at number parameters p) → mid.bound ≡ scope_at p → mid.terms.mode ≡ term_mode.Ended
      → AddsAtom result positive k mid new → IfErr result (λ (e : TokenRefusal). e ≡ OutOfMemory)
      → held.Holds number (variable_meant parameters (scope_at p)) u mid.terms → next ≡ Ok (within_atom positive x p u) → Takes result number logic parameters next new
  added-atom result next positive x p (term.ended args) k mid new i l b o m a y h e =
      takes-made result next (has (literal positive x args) p) _ new (a (variable_meant parameters (scope_at p)) args h) y e
      (record { in_logic = l; mode = refl; builder = rw (b, sym i) refl; bound = o; arguments = tt; live = tt })
  added-atom result next positive x p term.stuck k mid new i l b o m a y h e = absurd h.room
  added-atom result next positive x p (term.wants s) k mid new i l b o m a y h e = let d = h.mode in let n : ⊥ = cc in absurd n
  added-atom result next positive x p (term.named z s) k mid new i l b o m a y h e = let d = h.mode in let n : ⊥ = cc in absurd n
  added-atom result next positive x p (term.has w s) k mid new i l b o m a y h e = let d = h.mode in let n : ⊥ = cc in absurd n

  -- the token that ends the arguments
  pub ends-atom : (s : FormulaState) (c : Lexeme) (positive : Bool) (k : ℕ) (result : Result (Unit {0}) TokenRefusal) (old mid new : FormulaReader) → Holds number logic parameters s old → old.mode ≡ mode.InAtom positive k
      → TakesArgument (Ok tt) old.bound c old.terms mid.terms → mid ≡ record old { terms = mid.terms } → mid.terms.mode ≡ term_mode.Ended
      → AddsAtom result positive k mid new → IfErr result (λ (e : TokenRefusal). e ≡ OutOfMemory) → Takes result number logic parameters (limited logic parameters s c) new
  ends-atom s c positive k result old mid new h m f d n a y =
      at-in_atom number s positive k h.live (sym h.mode ∙ m)
      (λ (u : FormulaState). Holds number logic parameters u old → Takes result number logic parameters (limited logic parameters u c) new)
      (λ x t p i g. (let j = subst (λ (b : List (List ℕ)). TakesArgument (Ok tt) b c old.terms mid.terms) g.bound f t g.arguments in
      added-atom result (limited logic parameters (in_atom positive x t p) c) positive x p j.0 k mid new i
      (ap (λ (r : FormulaReader). r.logic) d ∙ g.in_logic) (ap (λ (r : FormulaReader). r.builder) d ∙ g.builder) (ap (λ (r : FormulaReader). r.bound) d ∙ g.bound) n a y j.1.1
      (atom-ok positive x p (term.step (is_known parameters (scope_at p)) t c) j.0 j.1.0))) h
