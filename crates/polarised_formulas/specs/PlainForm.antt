-- The terms and formulas that have a plain form, what stands on a line, and the laws that tie this to the reading byte by byte.
use Rattle.std.specs.Prelude.{◌≡◌, ℕ, suc, ◌<◌, true, false, ◌↔◌, List, [], ◌∷◌, ◌++◌}
pub use Rattle.fpc_terms.specs.Name.{begins_name}
use Rattle.fpc_terms.specs.Term.{Term, Args, eigen, bound, variable, app, no_args, arg, IsProperTerm}
use Rattle.fpc_terms.specs.Text.{term_before, plain_leaves}
use Rattle.polarised_formulas.specs.declared.logic.Logic.{Logic}
use Rattle.polarised_formulas.specs.declared.logic.Logic.TheVariants.{Lkf, Ljf}
use Rattle.polarised_formulas.specs.declared.logic.Polarity.{Polarity}
use Rattle.polarised_formulas.specs.declared.logic.Polarity.TheVariants.{Positive, Negative}
use Rattle.polarised_formulas.specs.Formula.{Formula, truth, falsity, atom, conj, disj, implies, for_all, exists, IsProper, IsOfLogic}
use Rattle.polarised_formulas.specs.Text.{formula_before, plain_style}
use Rattle.polarised_formulas.specs.PlainReading.{Operator, conjunction, disjunction, implication, is_keyword, whole_term, whole_formula, run, Use, of_term, of_formula, start, IsGoing}

-- The name's text is a name and no keyword, and the numbering gives the number back. Its length is not limited here.
abbrev pub IsPlainName : (ℕ → List ℕ) → (List ℕ → ℕ) → ℕ → Type 0
IsPlainName text number f = (begins_name (text f) ≡ true) × (is_keyword (text f) ≡ false) × (number (text f) ≡ f)

abbrev mutual
  -- a term without variables, under d quantifiers, whose names have texts and whose numbers have at most nine digits
  pub IsPlainTerm : (ℕ → List ℕ) → (List ℕ → ℕ) → ℕ → Term → Type 0
  IsPlainTerm text number d (eigen k) = k < 1000000000
  IsPlainTerm text number d (bound k) = (k < d) × (k < 1000000000)
  IsPlainTerm text number d (variable v) = ⊥
  IsPlainTerm text number d (app f ts) = IsPlainName text number f × ArePlainTerms text number d ts

  -- so are the arguments
  pub ArePlainTerms : (ℕ → List ℕ) → (List ℕ → ℕ) → ℕ → Args → Type 0
  ArePlainTerms text number d no_args = Unit {0}
  ArePlainTerms text number d (arg t ts) = IsPlainTerm text number d t × ArePlainTerms text number d ts

-- the logic has a `ff` of that polarity
abbrev pub HasFalsity : Logic → Polarity → Type 0
HasFalsity Lkf p = Unit {0}
HasFalsity Ljf Positive = Unit {0}
HasFalsity Ljf Negative = ⊥

-- the logic has the connective
abbrev pub HasOperator : Logic → Operator → Type 0
HasOperator Lkf (conjunction p) = Unit {0}
HasOperator Lkf (disjunction p) = Unit {0}
HasOperator Lkf implication = ⊥
HasOperator Ljf (conjunction p) = Unit {0}
HasOperator Ljf (disjunction Positive) = Unit {0}
HasOperator Ljf (disjunction Negative) = ⊥
HasOperator Ljf implication = Unit {0}

-- a formula of the logic under d quantifiers, whose terms are so
abbrev pub IsPlainFormula : (ℕ → List ℕ) → (List ℕ → ℕ) → Logic → ℕ → Formula → Type 0
IsPlainFormula text number logic d (truth p) = Unit {0}
IsPlainFormula text number logic d (falsity p) = HasFalsity logic p
IsPlainFormula text number logic d (atom positive f ts) = IsPlainName text number f × ArePlainTerms text number d ts
IsPlainFormula text number logic d (conj p a b) = HasOperator logic (conjunction p) × IsPlainFormula text number logic d a × IsPlainFormula text number logic d b
IsPlainFormula text number logic d (disj p a b) = HasOperator logic (disjunction p) × IsPlainFormula text number logic d a × IsPlainFormula text number logic d b
IsPlainFormula text number logic d (implies a b) = HasOperator logic implication × IsPlainFormula text number logic d a × IsPlainFormula text number logic d b
IsPlainFormula text number logic d (for_all a) = IsPlainFormula text number logic (suc d) a
IsPlainFormula text number logic d (exists a) = IsPlainFormula text number logic (suc d) a

-- the plain form of a term, before other bytes
abbrev pub plain_term : (ℕ → List ℕ) → Term → List ℕ → List ℕ
plain_term text t rest = term_before (plain_leaves text) t rest

-- the plain form of a formula under d quantifiers, before other bytes
abbrev pub plain_formula : (ℕ → List ℕ) → Logic → ℕ → Formula → List ℕ → List ℕ
plain_formula text logic d f rest = formula_before (plain_style text) logic d f rest

-- the bytes are a line, with its end, that holds what is wanted: a term, or a formula of the logic
abbrev pub IsLine : (ℕ → List ℕ) → (List ℕ → ℕ) → Logic → Use → List ℕ → Type 0
IsLine text number logic of_term bytes = (t : Term) × IsPlainTerm text number 0 t × (plain_term text t (10 ∷ []) ≡ bytes)
IsLine text number logic of_formula bytes = (f : Formula) × IsPlainFormula text number logic 0 f × (plain_formula text logic 0 f (10 ∷ []) ≡ bytes)

-- the bytes begin such a line, or are one
abbrev pub BeginsLine : (ℕ → List ℕ) → (List ℕ → ℕ) → Logic → Use → List ℕ → Type 0
BeginsLine text number logic wanted bytes = (more : List ℕ) × IsLine text number logic wanted (bytes ++ more)

-- each name has its text by its number
abbrev pub GivesBack : (ℕ → List ℕ) → (List ℕ → ℕ) → Type 0
GivesBack text number = (w : List ℕ) → begins_name w ≡ true → text (number w) ≡ w

-- the reading goes on exactly where the bytes begin a line of what is wanted
abbrev pub GoingBegins : Type 0
GoingBegins = (text : ℕ → List ℕ) (number : List ℕ → ℕ) → GivesBack text number → (logic : Logic) (wanted : Use) (bytes : List ℕ) → IsGoing (run number logic (start wanted) bytes) ↔ BeginsLine text number logic wanted bytes

-- a term is whole exactly behind the bytes of its line
abbrev pub TermIsWhole : Type 0
TermIsWhole = (text : ℕ → List ℕ) (number : List ℕ → ℕ) → GivesBack text number → (logic : Logic) (bytes : List ℕ) (t : Term)
    → (run number logic (start of_term) bytes ≡ whole_term t) ↔ (IsPlainTerm text number 0 t × (plain_term text t (10 ∷ []) ≡ bytes))

-- a formula is whole exactly behind the bytes of its line
abbrev pub FormulaIsWhole : Type 0
FormulaIsWhole = (text : ℕ → List ℕ) (number : List ℕ → ℕ) → GivesBack text number → (logic : Logic) (bytes : List ℕ) (f : Formula)
    → (run number logic (start of_formula) bytes ≡ whole_formula f) ↔ (IsPlainFormula text number logic 0 f × (plain_formula text logic 0 f (10 ∷ []) ≡ bytes))

-- different plain terms have different texts
abbrev pub TermIsOne : Type 0
TermIsOne = (text : ℕ → List ℕ) (number : List ℕ → ℕ) (t u : Term) → IsPlainTerm text number 0 t → IsPlainTerm text number 0 u → plain_term text t (10 ∷ []) ≡ plain_term text u (10 ∷ []) → t ≡ u

-- different plain formulas of a logic have different texts
abbrev pub FormulaIsOne : Type 0
FormulaIsOne = (text : ℕ → List ℕ) (number : List ℕ → ℕ) (logic : Logic) (f g : Formula) → IsPlainFormula text number logic 0 f → IsPlainFormula text number logic 0 g
    → plain_formula text logic 0 f (10 ∷ []) ≡ plain_formula text logic 0 g (10 ∷ []) → f ≡ g

-- a number of at most nine digits
abbrev pub HasNineDigits : ℕ → Type 0
HasNineDigits k = k < 1000000000

-- a plain term has no variable and no bound index, and small eigenvariables
abbrev pub PlainTermIsProper : Type 0
PlainTermIsProper = (text : ℕ → List ℕ) (number : List ℕ → ℕ) (t : Term) → IsPlainTerm text number 0 t → IsProperTerm HasNineDigits t

-- a plain formula has no variable and no free bound index, and is of its logic
abbrev pub PlainFormulaIsProper : Type 0
PlainFormulaIsProper = (text : ℕ → List ℕ) (number : List ℕ → ℕ) (logic : Logic) (f : Formula) → IsPlainFormula text number logic 0 f → IsProper HasNineDigits f × IsOfLogic logic f
