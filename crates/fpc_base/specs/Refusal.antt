-- How the reasons of refusals are printed.
use Rattle.std.specs.Prelude.{ℕ, List, codes}
use Rattle.fpc_base.specs.declared.refusal.Code.{Code}
use Rattle.fpc_base.specs.declared.refusal.ParseRefusal.{ParseRefusal}
use Rattle.fpc_base.specs.declared.refusal.ParseRefusal.TheVariants as parse
use Rattle.fpc_base.specs.declared.refusal.TokenRefusal.{TokenRefusal}
use Rattle.fpc_base.specs.declared.refusal.TokenRefusal.TheVariants as token
use Rattle.fpc_base.specs.declared.refusal.Code.TheVariants.{NotBuilt, BadByte, Unexpected, TooDeep, LongName, ManyArguments, DuplicateFormula, TooLarge, WrongCalculus, ManyVariables}

-- the number of a reason
abbrev pub code_number : Code → ℕ
code_number NotBuilt = 0
code_number BadByte = 1
code_number Unexpected = 2
code_number TooDeep = 3
code_number LongName = 4
code_number ManyArguments = 5
code_number DuplicateFormula = 6
code_number TooLarge = 7
code_number WrongCalculus = 8
code_number ManyVariables = 9

-- the name of a reason
abbrev pub code_name : Code → List ℕ
code_name NotBuilt = codes "NotBuilt"
code_name BadByte = codes "BadByte"
code_name Unexpected = codes "Unexpected"
code_name TooDeep = codes "TooDeep"
code_name LongName = codes "LongName"
code_name ManyArguments = codes "ManyArguments"
code_name DuplicateFormula = codes "DuplicateFormula"
code_name TooLarge = codes "TooLarge"
code_name WrongCalculus = codes "WrongCalculus"
code_name ManyVariables = codes "ManyVariables"

-- why a token was not taken, with its place
abbrev pub placed : TokenRefusal → ℕ → ParseRefusal
placed (token.Refused code) at = parse.Refused (record { code = code; at = at })
placed token.OutOfMemory at = parse.OutOfMemory
