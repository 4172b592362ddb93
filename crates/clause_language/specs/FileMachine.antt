-- A machine that reads the tokens of a definition or certificate file, one after another, and keeps all that it read.
use Rattle.std.specs.Prelude.{ℕ, Bool, true, false, if◌then◌else◌, List, [], ◌∷◌, ◌++◌, Option, Some, None, Result, Ok, Err}
use Rattle.fpc_base.specs.declared.refusal.Code.{Code}
use Rattle.fpc_base.specs.declared.refusal.Code.TheVariants.{Unexpected, WrongCalculus}
use Rattle.fpc_base.specs.declared.tokens.lexeme.Sign.TheVariants as sign
use Rattle.fpc_base.specs.Lexeme.{Lexeme, a_name, a_sign}
use Rattle.fpc_terms.specs.Written.{WrittenTerm}
use Rattle.fpc_terms.specs.Spot.{alone}
use Rattle.fpc_terms.specs.Machine as term
use Rattle.fpc_terms.specs.ReadTerm.{any_variable}
use Rattle.polarised_formulas.specs.declared.logic.Logic.{Logic}
use Rattle.polarised_formulas.specs.declared.logic.Logic.TheVariants.{Lkf, Ljf}
use Rattle.polarised_formulas.specs.Machine.{logic_of}
use Rattle.clause_language.specs.declared.file.FileKind.{FileKind}
use Rattle.clause_language.specs.declared.file.FileKind.TheVariants.{Certificate}
use Rattle.clause_language.specs.Written.{WrittenItem, declaration, a_clause, WrittenDefinition, WrittenCertificate}
use Rattle.clause_language.specs.Limits.{declared_names}
use Rattle.clause_language.specs.ClauseMachine as clause
use Rattle.clause_language.specs.DeclarationMachine as declaring

-- Where the reading of a file stands: at the word of the logic (`start`); at an item, the end or the word `certificate`, behind whole items (`at_item`);
-- in a declared formula (`in_declaration`) or a clause (`in_clause`) behind them; in the certificate's term (`in_term`) or behind its dot (`finished`);
-- or no file begins with the tokens (`lost`).
pub data FileState : Type 0 where
  start : FileState
  at_item : Logic → (items : List WrittenItem) → FileState
  in_declaration : Logic → (items : List WrittenItem) → declaring.DeclarationState → FileState
  in_clause : Logic → (items : List WrittenItem) → clause.ClauseState → FileState
  in_term : Logic → (items : List WrittenItem) → term.TermState → FileState
  finished : Logic → (items : List WrittenItem) → WrittenTerm → FileState
  lost : FileState

-- items are to come, behind the word of a logic
abbrev pub begun_in : Option Logic → FileState
begun_in (Some logic) = at_item logic []
begun_in None = lost

-- a declaration's state as the file's; a whole one is an item
abbrev pub declared : Logic → List WrittenItem → declaring.DeclarationState → FileState
declared logic items (declaring.ended x parameters w) = at_item logic (items ++ declaration x parameters w ∷ [])
declared logic items declaring.stuck = lost
declared logic items d = in_declaration logic items d

-- a clause's state as the file's; a whole one is an item
abbrev pub claused : Logic → List WrittenItem → clause.ClauseState → FileState
claused logic items (clause.ended c) = at_item logic (items ++ a_clause c ∷ [])
claused logic items clause.stuck = lost
claused logic items s = in_clause logic items s

-- the first token of an item, or the word `certificate`
abbrev pub begun : FileKind → Logic → List WrittenItem → Lexeme → FileState
begun Certificate logic items (a_sign sign.Certificate) = in_term logic items (term.wants alone)
begun kind logic items (a_sign s) = declared logic items (declaring.step logic declaring.at_word (a_sign s))
begun kind logic items c = claused logic items (clause.step clause.clause_start c)

-- behind the dot, where the term is whole
abbrev pub dotted : Logic → List WrittenItem → Option WrittenTerm → FileState
dotted logic items (Some w) = finished logic items w
dotted logic items None = lost

-- a term's state as the file's
abbrev pub read_on : Logic → List WrittenItem → term.TermState → FileState
read_on logic items term.stuck = lost
read_on logic items t = in_term logic items t

-- one token
abbrev pub step : FileKind → FileState → Lexeme → FileState
step kind start (a_name x) = begun_in (logic_of x)
step kind (at_item logic items) c = begun kind logic items c
step kind (in_declaration logic items d) c = declared logic items (declaring.step logic d c)
step kind (in_clause logic items s) c = claused logic items (clause.step s c)
step kind (in_term logic items t) (a_sign sign.Dot) = dotted logic items (term.whole_of t)
step kind (in_term logic items t) c = read_on logic items (term.step any_variable t c)
step _ _ _ = lost

-- tokens, one after another
abbrev pub run : FileKind → FileState → List Lexeme → FileState
run kind s [] = s
run kind s (c ∷ cs) = run kind (step kind s c) cs

-- the definition, where the tokens so far are one
abbrev pub definition_of : FileState → Option WrittenDefinition
definition_of (at_item logic items) = let w : WrittenDefinition = record { logic = logic; items = items } in Some w
definition_of _ = None

-- the certificate, where the tokens so far are one
abbrev pub certificate_of : FileState → Option WrittenCertificate
certificate_of (finished logic items t) = let w : WrittenCertificate = record { logic = logic; items = items; term = t } in Some w
certificate_of _ = None

-- a logic is expected, and it is the other one
abbrev pub is_other : Option Logic → Logic → Bool
is_other (Some Lkf) Ljf = true
is_other (Some Ljf) Lkf = true
is_other _ _ = false

-- the next state, or Unexpected where there is none
abbrev pub within : FileState → Result FileState Code
within lost = Err Unexpected
within s = Ok s

-- the word of a logic, which has to be the one that is expected
abbrev pub begun_within : Option Logic → Option Logic → Result FileState Code
begun_within expected (Some logic) = if is_other expected logic then Err WrongCalculus else Ok (at_item logic [])
begun_within expected None = Err Unexpected

-- a declaration's answer as the file's
abbrev pub declared_within : Logic → List WrittenItem → Result declaring.DeclarationState Code → Result FileState Code
declared_within logic items (Ok d) = Ok (declared logic items d)
declared_within logic items (Err code) = Err code

-- a clause's answer as the file's
abbrev pub claused_within : Logic → List WrittenItem → Result clause.ClauseState Code → Result FileState Code
claused_within logic items (Ok s) = Ok (claused logic items s)
claused_within logic items (Err code) = Err code

-- a term's answer as the file's
abbrev pub read_within : Logic → List WrittenItem → Result term.TermState Code → Result FileState Code
read_within logic items (Ok t) = Ok (in_term logic items t)
read_within logic items (Err code) = Err code

-- one token, with the limits, where a logic may be expected and formulas of earlier names are declared
abbrev pub limited : FileKind → Option Logic → List (List ℕ) → FileState → Lexeme → Result FileState Code
limited kind expected earlier start (a_name x) = begun_within expected (logic_of x)
limited kind expected earlier (in_declaration logic items d) c = declared_within logic items (declaring.limited logic (earlier ++ declared_names items) d c)
limited kind expected earlier (in_clause logic items s) c = claused_within logic items (clause.limited s c)
limited kind expected earlier (in_term logic items t) (a_sign sign.Dot) = within (dotted logic items (term.whole_of t))
limited kind expected earlier (in_term logic items t) c = read_within logic items (term.limited any_variable None [] t c)
limited kind expected earlier s c = within (step kind s c)
