-- A loop that reads a formula at the front of some items, a token at a time.
use Rattle.std.proofs.Common.{◌≡◌, ℕ, true, false, List, [], ◌∷◌, ◌++◌, refl, ap, sym, ◌∙◌, Some, None, Ok, Err}
use Rattle.std.proofs.lemmas.Bool.{false≢true}
use Rattle.fpc_base.specs.declared.refusal.Code.{Code}
use Rattle.fpc_base.specs.declared.refusal.Code.TheVariants.{Unexpected}
use Rattle.fpc_base.specs.declared.refusal.Refusal.{Refusal}
use Rattle.fpc_base.specs.Lexeme.{Lexeme, Item, says, fault}
use Rattle.fpc_base.specs.Reading.{IsTaken, IsRefused, IsFinal, ReadsFront, RefusesFront}
use Rattle.fpc_base.specs.Reading as reading
use Rattle.polarised_formulas.specs.declared.logic.Logic.{Logic}
use Rattle.polarised_formulas.specs.Written.{WrittenFormula, IsFormula}
use Rattle.polarised_formulas.specs.Place.{whole, FormulaLimits}
use Rattle.polarised_formulas.specs.Machine.{FormulaState, wants, whole_of, is_ended, limited}
use Rattle.fpc_base.proofs.ReadingLaws.{LeadsFront, LeadsFront-start, LeadsFront-taken, RefusesFront-refused, front-once, front-refused_once, front-not_both}
use Rattle.polarised_formulas.proofs.FormulaLaws.{formula-once, state_behind, state_behind-step, whole-formula, formula-whole, final-told}
use Rattle.polarised_formulas.proofs.Limits.{limits-once, refused-told, taken-told, unexpected-told}

module _ (logic : Logic) (parameters : List (List ℕ)) where
  abbrev pub ReadsFormula : List Item → WrittenFormula → List Item → Type 0
  ReadsFormula items w left = ReadsFront (IsFormula logic parameters) (FormulaLimits logic parameters) [] items w left

  abbrev pub RefusesFormula : ℕ → List Item → Refusal → Type 0
  RefusesFormula n items r = RefusesFront (IsFormula logic parameters) (FormulaLimits logic parameters) n [] items r

  -- the state is reached behind tokens, and the rest of the items is left
  pub record IsAt (n : ℕ) (items rest : List Item) (s : FormulaState) : Type 0 where
    pub before : List Lexeme
    pub ran : state_behind logic parameters before ≡ s
    pub leads : LeadsFront (IsFormula logic parameters) (FormulaLimits logic parameters) n items before rest

  pub IsAt-start : (n : ℕ) (items : List Item) → IsAt n items items (wants whole)
  IsAt-start n items = record { before = []; ran = refl; leads = LeadsFront-start (IsFormula logic parameters) (FormulaLimits logic parameters) n items }

  not-whole : (before : List Lexeme) (s : FormulaState) → state_behind logic parameters before ≡ s → whole_of s ≡ None
      → (w : WrittenFormula) → IsFormula logic parameters before w → ⊥
  not-whole before s ran e w f = let i : None ≡ Some w = sym e ∙ sym (ap whole_of ran) ∙ formula-whole logic parameters before w f in cc

  is-whole : (before : List Lexeme) (s : FormulaState) (w : WrittenFormula) → state_behind logic parameters before ≡ s → whole_of s ≡ Some w
      → IsFormula logic parameters before w
  is-whole before s w ran e = whole-formula logic parameters before w (ap whole_of ran ∙ e)

  -- at a token that is refused, where the tokens before it aren't whole if it is unexpected
  pub IsAt-refused : (n : ℕ) (items rest : List Item) (s : FormulaState) (c : Lexeme) (at : ℕ) (code : Code) → IsAt n items (says c at ∷ rest) s
      → limited logic parameters s c ≡ Err code → (code ≡ Unexpected → whole_of s ≡ None) → RefusesFormula n items (record { code = code; at = at })
  IsAt-refused n items rest s c at code a e h =
      a.leads.refused (record { code = code; at = at })
      (RefusesFront-refused (IsFormula logic parameters) (FormulaLimits logic parameters)
      ((refused-told logic parameters a.before c code).0 (ap (λ t. limited logic parameters t c) a.ran ∙ e))
      (λ u. not-whole a.before s a.ran (h u)))

  -- at a token that is taken
  pub IsAt-taken : (n : ℕ) (items rest : List Item) (s t : FormulaState) (c : Lexeme) (at : ℕ) → IsAt n items (says c at ∷ rest) s
      → limited logic parameters s c ≡ Ok t → IsAt n items rest t
  IsAt-taken n items rest s t c at a e =
      let k = (taken-told logic parameters a.before c t).0 (ap (λ u. limited logic parameters u c) a.ran ∙ e) in
      record {
        before = a.before ++ c ∷ [];
        ran = state_behind-step logic parameters a.before c ∙ k.1;
        leads = LeadsFront-taken (IsFormula logic parameters) (FormulaLimits logic parameters) n items rest a.before c at a.leads k.0;
      }

  -- at a fault, where a token might have gone on
  pub IsAt-fault : (n : ℕ) (items rest : List Item) (s : FormulaState) (r : Refusal) → IsAt n items (fault r ∷ rest) s → is_ended s ≡ false
      → RefusesFormula n items r
  IsAt-fault n items rest s r a e =
      a.leads.refused r
      (reading.RefusesFront.bad
      (λ w f final. false≢true (sym e ∙ ap is_ended (sym a.ran) ∙ (final-told logic parameters a.before w f).0 final)))

  -- at the end of the items
  pub IsAt-whole : (n : ℕ) (items : List Item) (s : FormulaState) (w : WrittenFormula) → IsAt n items [] s → whole_of s ≡ Some w → ReadsFormula items w []
  IsAt-whole n items s w a e = a.leads.read w [] (reading.ReadsFront.at_end (is-whole a.before s w a.ran e))

  pub IsAt-unfinished : (n : ℕ) (items : List Item) (s : FormulaState) → IsAt n items [] s → whole_of s ≡ None
      → RefusesFormula n items (record { code = Unexpected; at = n })
  IsAt-unfinished n items s a e = a.leads.refused (record { code = Unexpected; at = n }) (reading.RefusesFront.at_end (not-whole a.before s a.ran e))

  -- at a token that is none of the whole formula before it
  pub IsAt-ends : (n : ℕ) (items rest : List Item) (s : FormulaState) (w : WrittenFormula) (c : Lexeme) (at : ℕ) → IsAt n items (says c at ∷ rest) s
      → whole_of s ≡ Some w → limited logic parameters s c ≡ Err Unexpected → ReadsFormula items w (says c at ∷ rest)
  IsAt-ends n items rest s w c at a h e =
      a.leads.read w (says c at ∷ rest)
      (reading.ReadsFront.ends (is-whole a.before s w a.ran h)
      ((unexpected-told logic parameters a.before c).0 (ap (λ t. limited logic parameters t c) a.ran ∙ e)))

  -- at a formula behind which no token goes on
  pub IsAt-final : (n : ℕ) (items rest : List Item) (s : FormulaState) (w : WrittenFormula) → IsAt n items rest s → whole_of s ≡ Some w → is_ended s ≡ true
      → ReadsFormula items w rest
  IsAt-final n items rest s w a h e =
      let f = is-whole a.before s w a.ran h in
      a.leads.read w rest
      (reading.ReadsFront.final f ((final-told logic parameters a.before w f).1 (ap is_ended a.ran ∙ e)))

  -- the front of some items is read as one formula, or refused for one reason at one place, and not both
  pub formula-read_once : (items left more : List Item) (v w : WrittenFormula) → ReadsFormula items v left → ReadsFormula items w more → (v ≡ w) × (left ≡ more)
  formula-read_once items left more v w h k =
      front-once (IsFormula logic parameters) (FormulaLimits logic parameters) (formula-once logic parameters) (limits-once logic parameters) h k

  pub formula-refused_once : (n : ℕ) (items : List Item) (r s : Refusal) → RefusesFormula n items r → RefusesFormula n items s → r ≡ s
  formula-refused_once n items r s h k =
      front-refused_once (IsFormula logic parameters) (FormulaLimits logic parameters) (formula-once logic parameters) (limits-once logic parameters) h k

  pub formula-not_both : (n : ℕ) (items left : List Item) (w : WrittenFormula) (r : Refusal) → ReadsFormula items w left → RefusesFormula n items r → ⊥
  formula-not_both n items left w r h k = front-not_both (IsFormula logic parameters) (FormulaLimits logic parameters) h k
