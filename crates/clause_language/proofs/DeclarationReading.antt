-- How a declared formula is read token by token.
use Rattle.std.specs.Prelude.{◌≡◌, ◌≢◌, ℕ, ◌<◌, ◌≤◌, Bool, true, false, if◌then◌else◌, List, [], ◌∷◌, ◌++◌, length, slice_get, Option, Some, None, Result, Ok, Err, refl, is_some}
use Rattle.std.proofs.Common.{ap, sym, ◌∙◌, subst}
use Rattle.std.proofs.lemmas.Bool.{ne_eqb}
use Rattle.std.proofs.lemmas.List.{length-append}
use native.Mathlib.Omega.{arith}
use Rattle.fpc_base.specs.declared.refusal.Code.{Code}
use Rattle.fpc_base.specs.declared.refusal.Code.TheVariants.{Unexpected, ManyArguments}
use Rattle.fpc_base.specs.declared.refusal.TokenRefusal.{TokenRefusal}
use Rattle.fpc_base.specs.declared.refusal.TokenRefusal.TheVariants.{Refused, OutOfMemory}
use Rattle.fpc_base.specs.declared.tokens.lexeme.Sign.TheVariants as sign
use Rattle.fpc_base.specs.Lexeme.{Lexeme, a_name, a_variable, a_sign}
use Rattle.fpc_base.specs.Tokens.{is_one_of}
use Rattle.fpc_terms.specs.Name.{AreDifferent, Agrees, Grows, index_in, with_text, place_in}
use Rattle.polarised_formulas.specs.declared.logic.Logic.{Logic}
use Rattle.polarised_formulas.specs.declared.reader.FormulaReader.{FormulaReader}
use Rattle.polarised_formulas.specs.Formula.{Formula}
use Rattle.polarised_formulas.specs.Written.{WrittenFormula, formula_meant}
use Rattle.polarised_formulas.specs.Place.{whole}
use Rattle.polarised_formulas.specs.Machine as formula
use Rattle.polarised_formulas.specs.Holding.{Holds}
use Rattle.polarised_formulas.specs.ReadFormula.{HoldsFor, TakesFor}
use Rattle.polarised_formulas.proofs.ReadFacts.{Agrees-index_in, some-of, is-none}
use Rattle.polarised_formulas.proofs.ProblemFacts.{TellsWhole}
use Rattle.clause_language.specs.Meant.{declaration_meant}
use Rattle.clause_language.specs.DeclarationMachine.{DeclarationState, at_word, at_name, behind_name, at_parameter, behind_parameter, at_defined, in_formula, ended, stuck, with_parameter, dotted, within, read_within, limited}
use Rattle.clause_language.specs.declared.declaration_reader.Mode.{Mode}
use Rattle.clause_language.specs.declared.declaration_reader.Mode.TheVariants as mode
use Rattle.clause_language.specs.declared.declaration_reader.DeclarationReader.{DeclarationReader}
use Rattle.clause_language.specs.HoldingDeclaration.{IsFresh, HoldsHead, HoldsDeclaration, TakesDeclaration}

-- what comes next in a state
abbrev pub mode_of : DeclarationState → Option Mode
mode_of at_word = None
mode_of at_name = Some mode.AtName
mode_of (behind_name x) = Some mode.BehindName
mode_of (at_parameter x ps) = Some mode.AtParameter
mode_of (behind_parameter x ps) = Some mode.BehindParameter
mode_of (at_defined x ps) = Some mode.AtDefined
mode_of (in_formula x ps s) = Some mode.InFormula
mode_of (ended x ps w) = Some mode.Ended
mode_of stuck = None

-- the reader's mode tells which state it is
pub mode-told : (names : List (List ℕ)) (logic : Logic) (s : DeclarationState) (r : DeclarationReader) → HoldsDeclaration names logic s r → mode_of s ≡ Some r.mode
mode-told names logic at_word r h = absurd h
mode-told names logic at_name r h = ap Some (sym h.0)
mode-told names logic (behind_name x) r h = ap Some (sym h.0.mode)
mode-told names logic (at_parameter x ps) r h = ap Some (sym h.0.mode)
mode-told names logic (behind_parameter x ps) r h = ap Some (sym h.0.mode)
mode-told names logic (at_defined x ps) r h = ap Some (sym h.0.mode)
mode-told names logic (in_formula x ps s) r h = ap Some (sym h.0.mode)
mode-told names logic (ended x ps w) r h = ap Some (sym h.0.mode)
mode-told names logic stuck r h = absurd h

-- a token is taken: the machine goes on to a state that the reader holds
abbrev pub GoesOn : List (List ℕ) → Logic → Result DeclarationState Code → DeclarationReader → Type 0
GoesOn names logic next r = (t : DeclarationState) × ((next ≡ Ok t) × HoldsDeclaration names logic t r)

-- the name
pub takes-name : (names more : List (List ℕ)) (logic : Logic) (s : DeclarationState) (x : List ℕ) (id : ℕ) (old new : DeclarationReader) → HoldsDeclaration names logic s old → old.mode ≡ mode.AtName
    → slice_get more id ≡ Some x → new ≡ record old { mode = mode.BehindName; name = Some id } → GoesOn more logic (limited logic [] s (a_name x)) new
takes-name names more logic at_name x id old new h m g d =
    (behind_name x, (refl, rw d (record { mode = refl; name = λ number a. ap Some (sym (a id x g)); parameters = h.1; few = omega arith }, h.2)))
takes-name names more logic s x id old new h m g d = let p : mode_of s ≡ Some old.mode = mode-told names logic s old h in let n : ⊥ = cc in absurd n

-- the same head behind another token
turned : (names : List (List ℕ)) (m n : Mode) (x : List ℕ) (ps : List (List ℕ)) (r : DeclarationReader) → HoldsHead names m x ps r → HoldsHead names n x ps (record r { mode = n })
turned names m n x ps r h = record { mode = refl; name = h.name; parameters = h.parameters; few = h.few }

-- the parenthesis before the parameters
pub takes-open : (names : List (List ℕ)) (logic : Logic) (s : DeclarationState) (old new : DeclarationReader) → HoldsDeclaration names logic s old → old.mode ≡ mode.BehindName
    → new ≡ record old { mode = mode.AtParameter } → GoesOn names logic (limited logic [] s (a_sign sign.OpenParenthesis)) new
takes-open names logic (behind_name x) old new h m d = (at_parameter x [], (refl, rw d (turned names _ _ x [] old h.0, omega arith, h.1)))
takes-open names logic s old new h m d = let p : mode_of s ≡ Some old.mode = mode-told names logic s old h in let n : ⊥ = cc in absurd n

fresh : (names : List (List ℕ)) (logic : Logic) (ps : List (List ℕ)) (r : FormulaReader) → IsFresh logic r → HoldsFor names logic ps (formula.wants whole) r
fresh names logic ps r h = λ number a. h number ps

-- the sign before the formula, where there are no parameters
pub takes-defined_plain : (names : List (List ℕ)) (logic : Logic) (s : DeclarationState) (old new : DeclarationReader) → HoldsDeclaration names logic s old → old.mode ≡ mode.BehindName
    → new ≡ record old { mode = mode.InFormula } → GoesOn names logic (limited logic [] s (a_sign sign.Defined)) new
takes-defined_plain names logic (behind_name x) old new h m d =
    (in_formula x [] (formula.wants whole), (refl, rw d (turned names _ _ x [] old h.0, fresh names logic [] old.formula h.1)))
takes-defined_plain names logic s old new h m d = let p : mode_of s ≡ Some old.mode = mode-told names logic s old h in let n : ⊥ = cc in absurd n

unplaced : (b : Bool) (k : ℕ) → is_some (if b then Some k else None) ≡ false → b ≡ false
unplaced true k e = e
unplaced false k e = refl

-- what is not found is not there
pub not-found : (texts : List (List ℕ)) (y : List ℕ) (found : Option ℕ) → found ≡ place_in texts y → is_some found ≡ false → is_one_of texts y ≡ false
not-found texts y found e n = unplaced (is_one_of texts y) (index_in texts y) (sym (ap is_some e) ∙ n)

one-more : (ps : List (List ℕ)) (y : List ℕ) → length ps < 255 → length (ps ++ y ∷ []) ≤ 255
one-more ps y l = rw (length-append ps (y ∷ [])) (omega (arith, l))

-- a parameter that is different from those before it
pub takes-parameter : (names : List (List ℕ)) (logic : Logic) (s : DeclarationState) (y : List ℕ) (old new : DeclarationReader) → HoldsDeclaration names logic s old → old.mode ≡ mode.AtParameter
    → is_one_of old.parameters y ≡ false → new ≡ record old { mode = mode.BehindParameter; parameters = with_text old.parameters y } → GoesOn names logic (limited logic [] s (a_variable y)) new
takes-parameter names logic (at_parameter x ps) y old new h m e d =
    let i : is_one_of ps y ≡ false = subst (λ (qs : List (List ℕ)). is_one_of qs y ≡ false) h.0.parameters e in
    let added : with_text ps y ≡ ps ++ y ∷ [] = ap (λ (b : Bool). if b then ps else ps ++ y ∷ []) i in (
      behind_parameter x (ps ++ y ∷ []),
      (
        ap (λ (b : Bool). within (with_parameter b x ps y)) i,
        rw d (record { mode = refl; name = h.0.name; parameters = ap (λ (qs : List (List ℕ)). with_text qs y) h.0.parameters ∙ added; few = one-more ps y h.1 }, h.2),
      ),
    )
takes-parameter names logic s y old new h m e d = let p : mode_of s ≡ Some old.mode = mode-told names logic s old h in let n : ⊥ = cc in absurd n

-- the comma behind a parameter, where one more may stand
pub takes-comma : (names : List (List ℕ)) (logic : Logic) (s : DeclarationState) (old new : DeclarationReader) → HoldsDeclaration names logic s old → old.mode ≡ mode.BehindParameter
    → length old.parameters ≢ 255 → new ≡ record old { mode = mode.AtParameter } → GoesOn names logic (limited logic [] s (a_sign sign.Comma)) new
takes-comma names logic (behind_parameter x ps) old new h m e d =
    let more : length ps ≢ 255 = subst (λ (qs : List (List ℕ)). length qs ≢ 255) h.0.parameters e in (
      at_parameter x ps,
      (
        ap (λ (b : Bool). if b then Err ManyArguments else Ok (at_parameter x ps)) (ne_eqb (length ps) 255 more),
        rw d (turned names _ _ x ps old h.0, omega (arith, h.0.few, more), h.1),
      ),
    )
takes-comma names logic s old new h m e d = let p : mode_of s ≡ Some old.mode = mode-told names logic s old h in let n : ⊥ = cc in absurd n

-- the parenthesis behind the parameters
pub takes-close : (names : List (List ℕ)) (logic : Logic) (s : DeclarationState) (old new : DeclarationReader) → HoldsDeclaration names logic s old → old.mode ≡ mode.BehindParameter
    → new ≡ record old { mode = mode.AtDefined } → GoesOn names logic (limited logic [] s (a_sign sign.CloseParenthesis)) new
takes-close names logic (behind_parameter x ps) old new h m d = (at_defined x ps, (refl, rw d (turned names _ _ x ps old h.0, h.1)))
takes-close names logic s old new h m d = let p : mode_of s ≡ Some old.mode = mode-told names logic s old h in let n : ⊥ = cc in absurd n

-- the sign before the formula
pub takes-defined : (names : List (List ℕ)) (logic : Logic) (s : DeclarationState) (old new : DeclarationReader) → HoldsDeclaration names logic s old → old.mode ≡ mode.AtDefined
    → new ≡ record old { mode = mode.InFormula } → GoesOn names logic (limited logic [] s (a_sign sign.Defined)) new
takes-defined names logic (at_defined x ps) old new h m d =
    (in_formula x ps (formula.wants whole), (refl, rw d (turned names _ _ x ps old h.0, fresh names logic ps old.formula h.1)))
takes-defined names logic s old new h m d = let p : mode_of s ≡ Some old.mode = mode-told names logic s old h in let n : ⊥ = cc in absurd n

-- the reader of the formula tells of the state in a formula
is_whole-told : (names : List (List ℕ)) (logic : Logic) (ps : List (List ℕ)) (s : formula.FormulaState) (r : FormulaReader) (b : Bool) → AreDifferent names → HoldsFor names logic ps s r → TellsWhole b r
    → b ≡ is_some (formula.whole_of s)
is_whole-told names logic ps s r b d h f = f (index_in names) logic ps s (h (index_in names) (Agrees-index_in names d))

-- the dot behind a formula that isn't whole
pub refuses-dot : (names : List (List ℕ)) (logic : Logic) (s : DeclarationState) (r : DeclarationReader) (b : Bool) → AreDifferent names → HoldsDeclaration names logic s r → r.mode ≡ mode.InFormula
    → b ≡ false → TellsWhole b r.formula → limited logic [] s (a_sign sign.Dot) ≡ Err Unexpected
refuses-dot names logic (in_formula x ps s) r b d h m e f =
    ap (λ (o : Option WrittenFormula). within (dotted x ps o)) (is-none (formula.whole_of s) (sym (is_whole-told names logic ps s r.formula b d h.1 f) ∙ e))
refuses-dot names logic s r b d h m e f = let p : mode_of s ≡ Some r.mode = mode-told names logic s r h in let n : ⊥ = cc in absurd n

-- the dot behind a whole formula
pub takes-dot : (names : List (List ℕ)) (logic : Logic) (s : DeclarationState) (old new : DeclarationReader) (b : Bool) → AreDifferent names → HoldsDeclaration names logic s old → old.mode ≡ mode.InFormula
    → b ≡ true → TellsWhole b old.formula → new ≡ record old { mode = mode.Ended } → GoesOn names logic (limited logic [] s (a_sign sign.Dot)) new
takes-dot names logic (in_formula x ps s) old new b d h m e f g =
    let w : (v : WrittenFormula) × (formula.whole_of s ≡ Some v) = some-of (formula.whole_of s) (sym (is_whole-told names logic ps s old.formula b d h.1 f) ∙ e) in
    (ended x ps w.0, (ap (λ (o : Option WrittenFormula). within (dotted x ps o)) w.1, rw g (turned names _ _ x ps old h.0, (s, (w.1, h.1)))))
takes-dot names logic s old new b d h m e f g = let p : mode_of s ≡ Some old.mode = mode-told names logic s old h in let n : ⊥ = cc in absurd n

in-formula : (logic : Logic) (x : List ℕ) (ps : List (List ℕ)) (s : formula.FormulaState) (c : Lexeme) → (c ≡ a_sign sign.Dot → ⊥)
    → limited logic [] (in_formula x ps s) c ≡ read_within x ps (formula.limited logic ps s c)
in-formula logic x ps s (a_sign sign.Dot) n = absurd (n refl)
in-formula logic x ps s _ n = refl

token-taken : (result : Result (Unit {0}) TokenRefusal) (names more : List (List ℕ)) (logic : Logic) (x : List ℕ) (ps : List (List ℕ)) (next : Result formula.FormulaState Code) (old : DeclarationReader)
    (read : FormulaReader) → Grows names more → HoldsHead names mode.InFormula x ps old → TakesFor result more logic ps next read
    → TakesDeclaration result more logic (read_within x ps next) (record old { formula = read })
token-taken (Ok u) names more logic x ps next old read g h t = (
  in_formula x ps t.0,
  (
    ap (read_within x ps) t.1.0,
    (record { mode = h.mode; name = λ number a. h.name number (λ k text e. a k text (g k text e)); parameters = h.parameters; few = h.few }, t.1.1),
  ),
)
token-taken (Err (Refused code)) names more logic x ps next old read g h t = ap (read_within x ps) t
token-taken (Err OutOfMemory) names more logic x ps next old read g h t = tt

-- a token of the formula
pub takes-token : (result : Result (Unit {0}) TokenRefusal) (names more : List (List ℕ)) (logic : Logic) (s : DeclarationState) (c : Lexeme) (old : DeclarationReader) (read : FormulaReader)
    → HoldsDeclaration names logic s old → old.mode ≡ mode.InFormula → (c ≡ a_sign sign.Dot → ⊥) → Grows names more
    → ((logic : Logic) (t : formula.FormulaState) → HoldsFor names logic old.parameters t old.formula → TakesFor result more logic old.parameters (formula.limited logic old.parameters t c) read)
    → TakesDeclaration result more logic (limited logic [] s c) (record old { formula = read })
takes-token result names more logic (in_formula x ps s) c old read h m e g f =
    let t = subst (λ (qs : List (List ℕ)). (logic : Logic) (t : formula.FormulaState) → HoldsFor names logic qs t old.formula → TakesFor result more logic qs (formula.limited logic qs t c) read) h.0.parameters f in
    subst (λ (o : Result DeclarationState Code). TakesDeclaration result more logic o (record old { formula = read })) (sym (in-formula logic x ps s c e))
    (token-taken result names more logic x ps (formula.limited logic ps s c) old read g h.0 (t logic s h.1))
takes-token result names more logic s c old read h m e g f = let p : mode_of s ≡ Some old.mode = mode-told names logic s old h in let n : ⊥ = cc in absurd n

-- what is read is what was written, by a numbering that agrees with the table
pub declaration-read : (names : List (List ℕ)) (logic : Logic) (x : List ℕ) (ps : List (List ℕ)) (w : WrittenFormula) (number : List ℕ → ℕ) (r : DeclarationReader) (id n : ℕ) (f : Formula)
    → HoldsDeclaration names logic (ended x ps w) r → Agrees number names → r.name ≡ Some id → n ≡ length r.parameters
    → ((logic : Logic) (parameters : List (List ℕ)) (s : formula.FormulaState) → Holds number logic parameters s r.formula → formula.whole_of s ≡ Some w → f ≡ formula_meant number parameters [] w)
    → record { name = id; parameters = n; formula = f } ≡ declaration_meant number x ps w
declaration-read names logic x ps w number r id n f h a e l g =
    let i : Some id ≡ Some (number x) = sym e ∙ h.0.name number a in
    let same_name : id ≡ number x = cc in
    let same_length : n ≡ length ps = l ∙ ap length h.0.parameters in
    let same_formula : f ≡ formula_meant number ps [] w = g logic ps h.1.0 (h.1.1.1 number a) h.1.1.0 in
    rw (same_name, same_length, same_formula) refl
