-- Each live state of the machine of formulas has tokens that end its formula.
use Rattle.std.proofs.Common.{◌≡◌, ℕ, Bool, List, [], ◌∷◌, ◌++◌, refl, ap, ◌∙◌, codes, Some}
use Rattle.fpc_base.specs.declared.tokens.lexeme.Sign.TheVariants as sign
use Rattle.fpc_base.specs.Lexeme.{Lexeme, a_name, a_variable, a_sign}
use Rattle.fpc_terms.specs.Written.{no_words, words, application}
use Rattle.fpc_terms.specs.Machine as term
use Rattle.fpc_terms.proofs.States as of_term
use Rattle.fpc_terms.proofs.TermLaws as term_laws
use Rattle.polarised_formulas.specs.declared.logic.Logic.{Logic}
use Rattle.polarised_formulas.specs.declared.logic.Polarity.TheVariants.{Positive}
use Rattle.polarised_formulas.specs.declared.connective.Joiner.TheVariants.{And}
use Rattle.polarised_formulas.specs.declared.connective.Binder.{Binder}
use Rattle.polarised_formulas.specs.Written.{WrittenFormula, true_unit, literal, pair, bind, is_known}
use Rattle.polarised_formulas.specs.Place.{Place, whole, in_first, in_second, under, scope_at}
use Rattle.polarised_formulas.specs.Machine.{FormulaState, wants, marked, binding, bound_to, named, in_atom, has, stuck, within_atom, run, whole_of}
use Rattle.polarised_formulas.proofs.States.{IsGoing, IsStateOf, IsLive}
use Rattle.polarised_formulas.proofs.Complete.{run-to_atom}

-- tokens that end the formula, and the formula
pub record Ends (logic : Logic) (parameters : List (List ℕ)) (s : FormulaState) : Type 0 where
  pub more : List Lexeme
  pub formula : WrittenFormula
  pub leads : whole_of (run logic parameters s more) ≡ Some formula

module _ (logic : Logic) (parameters : List (List ℕ)) where
  under-same : (q : Binder) (x : List ℕ) (w : WrittenFormula) (p : Place) (more : List Lexeme)
      → whole_of (run logic parameters (has w (under q x p)) more) ≡ whole_of (run logic parameters (has (bind q x w) p) more)
  under-same q x w p [] = refl
  under-same q x w p (c ∷ more) = refl

  ends-has : (w : WrittenFormula) (p : Place) → Ends logic parameters (has w p)
  ends-has w whole = record { more = []; formula = w; leads = refl }
  ends-has w (in_first p) =
      let e = ends-has (pair (And Positive) w (true_unit Positive)) p in
      record { more = a_sign sign.AndPlus ∷ a_sign sign.TruePlus ∷ a_sign sign.CloseParenthesis ∷ e.more; formula = e.formula; leads = e.leads }
  ends-has w (in_second j a p) =
      let e = ends-has (pair j a w) p in record { more = a_sign sign.CloseParenthesis ∷ e.more; formula = e.formula; leads = e.leads }
  ends-has w (under q x p) =
      let e = ends-has (bind q x w) p in record { more = e.more; formula = e.formula; leads = under-same q x w p e.more ∙ e.leads }

  ends-wants : (p : Place) → Ends logic parameters (wants p)
  ends-wants p = let e = ends-has (true_unit Positive) p in record { more = a_sign sign.TruePlus ∷ e.more; formula = e.formula; leads = e.leads }

  -- an argument makes it sure that the atom ends with its parenthesis
  ends-named : (positive : Bool) (x : List ℕ) (p : Place) → Ends logic parameters (named positive x p)
  ends-named positive x p =
      let e = ends-has (literal positive x (words (application (codes "a") no_words) no_words)) p in
      record { more = a_sign sign.OpenParenthesis ∷ a_name (codes "a") ∷ a_sign sign.CloseParenthesis ∷ e.more; formula = e.formula; leads = e.leads }

  ends-atom : (positive : Bool) (x : List ℕ) (t : term.TermState) (p : Place) → of_term.IsArgumentState t → term.IsLive t
      → Ends logic parameters (within_atom positive x p t)
  ends-atom positive x t p a live =
      let f = term_laws.ends (is_known parameters (scope_at p)) t a live in
      let e = ends-has (literal positive x f.args) p in
      record {
        more = f.more ++ e.more;
        formula = e.formula;
        leads = ap whole_of (run-to_atom logic parameters positive x p f.more e.more t (term.ended f.args) f.leads tt) ∙ e.leads;
      }

  ends-going : (positive : Bool) (x : List ℕ) (t : term.TermState) (p : Place) → of_term.IsArgumentState t → IsGoing t
      → Ends logic parameters (in_atom positive x t p)
  ends-going positive x (term.ended args) p a g = absurd g
  ends-going positive x term.stuck p a g = absurd g
  ends-going positive x (term.wants s) p a g = ends-atom positive x (term.wants s) p a tt
  ends-going positive x (term.named y s) p a g = ends-atom positive x (term.named y s) p a tt
  ends-going positive x (term.has u s) p a g = ends-atom positive x (term.has u s) p a tt

  -- VIABLE
  pub ends : (s : FormulaState) → IsStateOf logic parameters s → IsLive s → Ends logic parameters s
  ends (wants p) h live = ends-wants p
  ends (marked positive p) h live =
      let e = ends-named positive (codes "a") p in record { more = a_name (codes "a") ∷ e.more; formula = e.formula; leads = e.leads }
  ends (binding q p) h live =
      let e = ends-wants (under q (codes "X") p) in
      record { more = a_variable (codes "X") ∷ a_sign sign.Colon ∷ e.more; formula = e.formula; leads = e.leads }
  ends (bound_to q x p) h live =
      let e = ends-wants (under q x p) in record { more = a_sign sign.Colon ∷ e.more; formula = e.formula; leads = e.leads }
  ends (named positive x p) h live = ends-named positive x p
  ends (in_atom positive x t p) h live = ends-going positive x t p h.1 h.2
  ends (has w p) h live = ends-has w p
  ends stuck h live = absurd live
