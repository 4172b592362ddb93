-- How a problem is read token by token.
use Rattle.std.specs.Prelude.{◌≡◌, ℕ, Bool, true, false, List, [], ◌∷◌, ◌++◌, Some, Result, Ok, Err, refl, is_some, IfOk, IfErr}
use Rattle.std.proofs.Common.{ap, sym, ◌∙◌, subst}
use Rattle.fpc_base.specs.declared.refusal.Code.{Code}
use Rattle.fpc_base.specs.declared.refusal.Code.TheVariants.{Unexpected}
use Rattle.fpc_base.specs.declared.refusal.Refusal.{Refusal}
use Rattle.fpc_base.specs.declared.refusal.ParseRefusal.{ParseRefusal}
use Rattle.fpc_base.specs.declared.refusal.ParseRefusal.TheVariants as parse
use Rattle.fpc_base.specs.declared.refusal.TokenRefusal.{TokenRefusal}
use Rattle.fpc_base.specs.declared.refusal.TokenRefusal.TheVariants.{Refused, OutOfMemory}
use Rattle.fpc_base.specs.declared.tokens.lexeme.Sign.TheVariants as sign
use Rattle.fpc_base.specs.Refusal.{placed}
use Rattle.fpc_base.specs.Lexeme.{Lexeme, a_name, a_sign, Item, says, fault}
use Rattle.fpc_base.specs.Reading as reading_of
use Rattle.fpc_terms.specs.Name.{AreDifferent, index_in}
use Rattle.polarised_formulas.specs.declared.logic.Logic.{Logic}
use Rattle.polarised_formulas.specs.declared.logic.Logic.TheVariants.{Lkf}
use Rattle.polarised_formulas.specs.declared.problem.Phase.TheVariants as phase
use Rattle.polarised_formulas.specs.declared.problem.Problem.{Problem}
use Rattle.polarised_formulas.specs.declared.problem.ProblemReader.{ProblemReader}
use Rattle.polarised_formulas.specs.declared.reader.FormulaReader.{FormulaReader}
use Rattle.polarised_formulas.specs.Formula.{Formula, IsClosed, IsLkf, IsOfLogic}
use Rattle.polarised_formulas.specs.Written.{WrittenFormula, WrittenProblem, IsProblem, formula_meant}
use Rattle.polarised_formulas.specs.Place.{whole, ProblemLimits}
use Rattle.polarised_formulas.specs.Machine.{FormulaState, wants, whole_of, limited, ProblemState, start, reading, finished, lost, logic_of, begun_within, dotted_within, read_within, limited_problem}
use Rattle.polarised_formulas.specs.Holding.{Holds}
use Rattle.polarised_formulas.specs.ReadFormula.{HoldsFor, TakesFor}
use Rattle.polarised_formulas.specs.ReadProblem.{ProblemIsRead, IsProblemRefusal, HoldsProblem, TakesProblem, is_dot, GoalOf, IsUnfinished}
use Rattle.polarised_formulas.proofs.ReadFacts.{Agrees-index_in, some-of, is-none}
use Rattle.polarised_formulas.proofs.ProblemReading.{IsAt, IsAt-start, IsAt-taken, IsAt-refused, IsAt-fault, IsAt-done, IsAt-unfinished}
use Rattle.polarised_formulas.proofs.Closed.{IsClosed-formula_meant, IsOfLogic-formula_meant}

-- the reader of a formula that is to come, turned to another logic
turned : (number : List ℕ → ℕ) (logic : Logic) (r : FormulaReader) → Holds number Lkf [] (wants whole) r → Holds number logic [] (wants whole) (record r { logic = logic })
turned number logic r h = record { in_logic = refl; mode = h.mode; builder = h.builder; bound = h.bound; arguments = h.arguments; live = h.live }

-- the word of a logic
pub takes-logic : (names : List (List ℕ)) (s : ProblemState) (x : List ℕ) (logic : Logic) (old new : ProblemReader) (formula : FormulaReader) → HoldsProblem names s old → old.phase ≡ phase.Start → logic_of x ≡ Some logic
    → formula ≡ record old.formula { logic = logic } → new ≡ record old { phase = phase.Reading logic; formula = formula } → (t : ProblemState) × ((limited_problem s (a_name x) ≡ Ok t) × HoldsProblem names t new)
takes-logic names start x logic old new formula h m e f d =
    (reading logic (wants whole), (ap begun_within e, rw (d, f) (refl, λ number agrees. turned number logic old.formula (h.1 number agrees))))
takes-logic names (reading k s) x logic old new formula h m e f d = let p = h.0 in let n : ⊥ = cc in absurd n
takes-logic names (finished k w) x logic old new formula h m e f d = let p = h.0 in let n : ⊥ = cc in absurd n
takes-logic names lost x logic old new formula h m e f d = absurd h

-- one logic is read
one-logic : (r : ProblemReader) (k l : Logic) → r.phase ≡ phase.Reading k → r.phase ≡ phase.Reading l → k ≡ l
one-logic r k l e f = let g : phase.Reading k ≡ phase.Reading l = sym e ∙ f in cc

-- what the reader of the formula tells of its state
abbrev pub TellsWhole : Bool → FormulaReader → Type 0
TellsWhole b r = (number : List ℕ → ℕ) (logic : Logic) (parameters : List (List ℕ)) (s : FormulaState) → Holds number logic parameters s r → b ≡ is_some (whole_of s)

pub refuses-dot : (names : List (List ℕ)) (s : ProblemState) (r : ProblemReader) (b : Bool) (k : Logic) → AreDifferent names → HoldsProblem names s r → r.phase ≡ phase.Reading k → b ≡ false
    → TellsWhole b r.formula → limited_problem s (a_sign sign.Dot) ≡ Err Unexpected
refuses-dot names start r b k d h m e f = let p = h.0 in let n : ⊥ = cc in absurd n
refuses-dot names (reading logic s) r b k d h m e f =
    let i : is_some (whole_of s) ≡ false = sym (f (index_in names) logic [] s (h.1 (index_in names) (Agrees-index_in names d))) ∙ e in
    ap (dotted_within logic) (is-none (whole_of s) i)
refuses-dot names (finished logic w) r b k d h m e f = let p = h.0 in let n : ⊥ = cc in absurd n
refuses-dot names lost r b k d h m e f = absurd h

pub takes-dot : (names : List (List ℕ)) (s : ProblemState) (old new : ProblemReader) (b : Bool) (k : Logic) → AreDifferent names → HoldsProblem names s old → old.phase ≡ phase.Reading k → b ≡ true
    → TellsWhole b old.formula → new ≡ record old { phase = phase.Finished k } → (t : ProblemState) × ((limited_problem s (a_sign sign.Dot) ≡ Ok t) × HoldsProblem names t new)
takes-dot names start old new b k d h m e f g = let p = h.0 in let n : ⊥ = cc in absurd n
takes-dot names (reading logic s) old new b k d h m e f g =
    let i : is_some (whole_of s) ≡ true = sym (f (index_in names) logic [] s (h.1 (index_in names) (Agrees-index_in names d))) ∙ e in
    let w : (v : WrittenFormula) × (whole_of s ≡ Some v) = some-of (whole_of s) i in
    (finished logic w.0, (ap (dotted_within logic) w.1, rw g (ap phase.Finished (one-logic old k logic m h.0), (s, (w.1, h.1)))))
takes-dot names (finished logic w) old new b k d h m e f g = let p = h.0 in let n : ⊥ = cc in absurd n
takes-dot names lost old new b k d h m e f g = absurd h

limited-reading : (logic : Logic) (s : FormulaState) (c : Lexeme) → is_dot c ≡ false → limited_problem (reading logic s) c ≡ read_within logic (limited logic [] s c)
limited-reading logic s (a_sign sign.Dot) e = let n : ⊥ = cc in absurd n
limited-reading logic s _ e = refl

token-taken : (result : Result (Unit {0}) TokenRefusal) (names : List (List ℕ)) (logic : Logic) (s : FormulaState) (c : Lexeme) (old : ProblemReader) (formula : FormulaReader) → old.phase ≡ phase.Reading logic
    → TakesFor result names logic [] (limited logic [] s c) formula → TakesProblem result names (read_within logic (limited logic [] s c)) (record old { formula = formula })
token-taken (Ok u) names logic s c old formula m t = (reading logic t.0, (ap (read_within logic) t.1.0, (m, t.1.1)))
token-taken (Err (Refused code)) names logic s c old formula m t = ap (read_within logic) t
token-taken (Err OutOfMemory) names logic s c old formula m t = tt

-- a token of the formula
pub takes-token : (result : Result (Unit {0}) TokenRefusal) (names more parameters : List (List ℕ)) (s : ProblemState) (c : Lexeme) (old : ProblemReader) (formula : FormulaReader) (k : Logic) → HoldsProblem names s old
    → old.phase ≡ phase.Reading k → is_dot c ≡ false → parameters ≡ []
    → ((logic : Logic) (t : FormulaState) → HoldsFor names logic parameters t old.formula → TakesFor result more logic parameters (limited logic parameters t c) formula)
    → TakesProblem result more (limited_problem s c) (record old { formula = formula })
takes-token result names more parameters start c old formula k h m e i f = let p = h.0 in let n : ⊥ = cc in absurd n
takes-token result names more parameters (reading logic s) c old formula k h m e i f =
    let g = subst (λ (ps : List (List ℕ)). (logic : Logic) (t : FormulaState) → HoldsFor names logic ps t old.formula → TakesFor result more logic ps (limited logic ps t c) formula) i f in
    subst (λ (o : Result ProblemState Code). TakesProblem result more o (record old { formula = formula }))
    (sym (limited-reading logic s c e)) (token-taken result more logic s c old formula h.0 (g logic s h.1))
takes-token result names more parameters (finished logic w) c old formula k h m e i f = let p = h.0 in let n : ⊥ = cc in absurd n
takes-token result names more parameters lost c old formula k h m e i f = absurd h

-- the goal of a whole problem
pub goal-of : (names : List (List ℕ)) (s : ProblemState) (r : ProblemReader) (k : Logic) (goal : Formula) → HoldsProblem names s r → r.phase ≡ phase.Finished k
    → ((number : List ℕ → ℕ) (logic : Logic) (u : FormulaState) (w : WrittenFormula) → Holds number logic [] u r.formula → whole_of u ≡ Some w → goal ≡ formula_meant number [] [] w) → GoalOf names s k goal
goal-of names start r k goal h m f = let p = h.0 in let n : ⊥ = cc in absurd n
goal-of names (reading logic s) r k goal h m f = let p = h.0 in let n : ⊥ = cc in absurd n
goal-of names (finished logic w) r k goal h m f =
    let e : phase.Finished k ≡ phase.Finished logic = sym m ∙ h.0 in
    let same : k ≡ logic = cc in
    record { written = record { logic = logic; formula = w }; whole_problem = refl; in_logic = same; meant = λ number a. f number logic h.1.0 w (h.1.1.1 number a) h.1.1.0 }
goal-of names lost r k goal h m f = absurd h

-- The reader holds the state behind which the items stand that are left.
pub record IsOn (n : ℕ) (items rest : List Item) (names : List (List ℕ)) (r : ProblemReader) : Type 0 where
  pub state : ProblemState
  pub at : IsAt n items rest state
  pub holds : HoldsProblem names state r

pub IsOn-start : (n : ℕ) (items rest : List Item) (names : List (List ℕ)) (r : ProblemReader) → rest ≡ items → HoldsProblem names start r → IsOn n items rest names r
IsOn-start n items rest names r e h = record { state = start; at = subst (λ (x : List Item). IsAt n items x start) (sym e) (IsAt-start n items); holds = h }

module _ (n : ℕ) (items all : List Item) (names : List (List ℕ)) (r : ProblemReader) (on : IsOn n items all names r) where
  pub IsOn-taken : (rest : List Item) (c : Lexeme) (at : ℕ) (more : List (List ℕ)) (new : ProblemReader) → all ≡ says c at ∷ rest
      → ((s : ProblemState) → HoldsProblem names s r → TakesProblem (Ok tt) more (limited_problem s c) new) → IsOn n items rest more new
  IsOn-taken rest c at more new e t =
      let g : TakesProblem (Ok tt) more (limited_problem on.state c) new = t on.state on.holds in
      let i : IsAt n items (says c at ∷ rest) on.state = rw e at on.at in
      record { state = g.0; at = IsAt-taken n items rest on.state g.0 c at i g.1.0; holds = g.1.1 }

  pub IsOn-refused : (rest : List Item) (c : Lexeme) (at : ℕ) (more : List (List ℕ)) (new : ProblemReader) (refusal : TokenRefusal) → all ≡ says c at ∷ rest
      → ((s : ProblemState) → HoldsProblem names s r → TakesProblem (Err refusal) more (limited_problem s c) new) → IsProblemRefusal items n (placed refusal at)
  IsOn-refused rest c at more new (Refused code) e t =
      let i : IsAt n items (says c at ∷ rest) on.state = rw e at on.at in
      IsAt-refused n items rest on.state c at code i (t on.state on.holds)
  IsOn-refused rest c at more new OutOfMemory e t = tt

  pub IsOn-fault : (rest : List Item) (refusal : Refusal) → all ≡ fault refusal ∷ rest → IsProblemRefusal items n (parse.Refused refusal)
  IsOn-fault rest refusal e = IsAt-fault n items rest on.state refusal (rw e at on.at)

  pub IsOn-done : (logic : Logic) (goal : Formula) → all ≡ [] → GoalOf names on.state logic goal → ProblemIsRead items names logic goal
  IsOn-done logic goal e g =
      record { written = g.written; reads = IsAt-done n items on.state g.written (rw e at on.at) g.whole_problem; in_logic = g.in_logic; meant = g.meant }

  pub IsOn-unfinished : (refusal : ParseRefusal) → all ≡ [] → IsUnfinished n on.state refusal → IsProblemRefusal items n refusal
  IsOn-unfinished (parse.Refused refusal) e u = rw u.0 (IsAt-unfinished n items on.state (rw e at on.at) u.1)
  IsOn-unfinished parse.OutOfMemory e u = tt

  pub IsOn-finished : (result : Result Problem ParseRefusal) → all ≡ [] → IfOk result (λ p. GoalOf names on.state p.logic p.goal)
      → IfOk result (λ p. ProblemIsRead items names p.logic p.goal)
  IsOn-finished (Ok p) e g = IsOn-done p.logic p.goal e g
  IsOn-finished (Err refusal) e g = tt

  pub IsOn-ended : (result : Result Problem ParseRefusal) → all ≡ [] → IfErr result (IsUnfinished n on.state) → IfErr result (IsProblemRefusal items n)
  IsOn-ended (Ok p) e g = tt
  IsOn-ended (Err refusal) e g = IsOn-unfinished refusal e g

-- what is read is a problem
pub read-problem : (before : List Lexeme) (items : List Item) (w : WrittenProblem) → reading_of.ReadsAll IsProblem ProblemLimits before items w → (tokens : List Lexeme) × IsProblem tokens w
read-problem before items w (reading_of.ReadsAll.at_end h) = (before, h)
read-problem before items w (reading_of.ReadsAll.later {c = c} {items = rest} t h) = read-problem (before ++ c ∷ []) rest w h

pub read-closed : (items : List Item) (names : List (List ℕ)) (logic : Logic) (goal : Formula) → AreDifferent names → ProblemIsRead items names logic goal → IsClosed goal
read-closed items names logic goal d p =
    rw (p.meant (index_in names) (Agrees-index_in names d)) (IsClosed-formula_meant (index_in names) p.written.formula (read-problem [] items p.written p.reads).1.is_bound)

pub read-of_logic : (items : List Item) (names : List (List ℕ)) (logic : Logic) (goal : Formula) → AreDifferent names → ProblemIsRead items names logic goal → IsOfLogic logic goal
read-of_logic items names logic goal d p =
    let h = IsOfLogic-formula_meant (index_in names) p.written.logic [] p.written.formula (read-problem [] items p.written p.reads).1.in_logic in
    rw (p.meant (index_in names) (Agrees-index_in names d)) (subst (λ (l : Logic). IsOfLogic l (formula_meant (index_in names) [] [] p.written.formula)) (sym p.in_logic) h)

pub read-lkf : (items : List Item) (names : List (List ℕ)) (logic : Logic) (goal : Formula) → AreDifferent names → ProblemIsRead items names logic goal → logic ≡ Lkf → IsLkf goal
read-lkf items names logic goal d p e = subst (λ (l : Logic). IsOfLogic l goal) e (read-of_logic items names logic goal d p)
