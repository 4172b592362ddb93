-- Definition and certificate files as they are written, and their tokens.
use Rattle.std.specs.Prelude.{◌≡◌, ℕ, List, [], ◌∷◌}
use Rattle.fpc_base.specs.declared.tokens.lexeme.Sign.TheVariants as sign
use Rattle.fpc_base.specs.Lexeme.{Lexeme, a_name, a_variable, a_sign}
use Rattle.fpc_terms.specs.Name.{AreDifferent}
use Rattle.fpc_terms.specs.Written.{WrittenTerm, WrittenArgs, term_tokens, args_tokens}
use Rattle.polarised_formulas.specs.declared.logic.Logic.{Logic}
use Rattle.polarised_formulas.specs.Written.{WrittenFormula, formula_tokens, IsBound, IsWrittenIn, logic_word}

-- an atom of a clause: a name with its arguments
pub record WrittenAtom : Type 0 where
  pub text : List ℕ
  pub args : WrittenArgs

-- a clause: its head, and the atoms of its body, if there are any
pub record WrittenClause : Type 0 where
  pub head : WrittenAtom
  pub body : List WrittenAtom

-- an item of a file: a formula declared by a name, with its parameters, or a clause
pub data WrittenItem : Type 0 where
  declaration : (text : List ℕ) → (parameters : List (List ℕ)) → (formula : WrittenFormula) → WrittenItem
  a_clause : WrittenClause → WrittenItem

-- a definition: its logic and its items
pub record WrittenDefinition : Type 0 where
  pub logic : Logic
  pub items : List WrittenItem

-- a certificate: its logic, items of its own, and its term
pub record WrittenCertificate : Type 0 where
  pub logic : Logic
  pub items : List WrittenItem
  pub term : WrittenTerm

-- the tokens of an atom, before other tokens
abbrev pub atom_tokens : WrittenAtom → List Lexeme → List Lexeme
atom_tokens a rest = a_name a.text ∷ args_tokens a.args rest

-- the atoms behind one, and the dot
abbrev pub more_atom_tokens : List WrittenAtom → List Lexeme → List Lexeme
more_atom_tokens [] rest = a_sign sign.Dot ∷ rest
more_atom_tokens (a ∷ more) rest = a_sign sign.Comma ∷ atom_tokens a (more_atom_tokens more rest)

-- the body of a clause, where it has one, and the dot
abbrev pub body_tokens : List WrittenAtom → List Lexeme → List Lexeme
body_tokens [] rest = a_sign sign.Dot ∷ rest
body_tokens (a ∷ more) rest = a_sign sign.If ∷ atom_tokens a (more_atom_tokens more rest)

-- the tokens of a clause, before other tokens
abbrev pub clause_tokens : WrittenClause → List Lexeme → List Lexeme
clause_tokens c rest = atom_tokens c.head (body_tokens c.body rest)

-- the parameters behind one
abbrev pub more_parameter_tokens : List (List ℕ) → List Lexeme → List Lexeme
more_parameter_tokens [] rest = a_sign sign.CloseParenthesis ∷ rest
more_parameter_tokens (x ∷ xs) rest = a_sign sign.Comma ∷ a_variable x ∷ more_parameter_tokens xs rest

-- the parameters in parentheses, where there are any
abbrev pub parameter_tokens : List (List ℕ) → List Lexeme → List Lexeme
parameter_tokens [] rest = rest
parameter_tokens (x ∷ xs) rest = a_sign sign.OpenParenthesis ∷ a_variable x ∷ more_parameter_tokens xs rest

-- the tokens of a declaration up to its formula, before other tokens
abbrev pub declared_tokens : List ℕ → List (List ℕ) → List Lexeme → List Lexeme
declared_tokens x parameters rest = a_sign sign.Formula ∷ a_name x ∷ parameter_tokens parameters (a_sign sign.Defined ∷ rest)

-- the tokens of an item, before other tokens
abbrev pub item_tokens : Logic → WrittenItem → List Lexeme → List Lexeme
item_tokens logic (declaration x parameters f) rest = declared_tokens x parameters (formula_tokens logic f (a_sign sign.Dot ∷ rest))
item_tokens logic (a_clause c) rest = clause_tokens c rest

-- the tokens of items, one after another, before other tokens
abbrev pub items_tokens : Logic → List WrittenItem → List Lexeme → List Lexeme
items_tokens logic [] rest = rest
items_tokens logic (i ∷ is) rest = item_tokens logic i (items_tokens logic is rest)

-- The parameters of a declaration are different, its formula is of the logic, and each variable in it is a parameter or bound by a quantifier
-- around it. Of clauses nothing more is asked.
abbrev pub IsItemOf : Logic → WrittenItem → Type 0
IsItemOf logic (declaration x parameters f) = AreDifferent parameters × IsBound parameters [] f × IsWrittenIn logic f
IsItemOf logic (a_clause c) = Unit {0}

-- each item is an item of the logic
abbrev pub AreItemsOf : Logic → List WrittenItem → Type 0
AreItemsOf logic [] = Unit {0}
AreItemsOf logic (i ∷ is) = IsItemOf logic i × AreItemsOf logic is

-- the tokens are those of this definition: the logic's word and the items
pub record IsDefinition (tokens : List Lexeme) (w : WrittenDefinition) : Type 0 where
  pub spelled : tokens ≡ logic_word w.logic ∷ items_tokens w.logic w.items []
  pub of_logic : AreItemsOf w.logic w.items

-- the tokens are those of this certificate: the logic's word, the items, and behind the word `certificate` the term and a dot
pub record IsCertificate (tokens : List Lexeme) (w : WrittenCertificate) : Type 0 where
  pub spelled : tokens ≡ logic_word w.logic ∷ items_tokens w.logic w.items (a_sign sign.Certificate ∷ term_tokens w.term (a_sign sign.Dot ∷ []))
  pub of_logic : AreItemsOf w.logic w.items
