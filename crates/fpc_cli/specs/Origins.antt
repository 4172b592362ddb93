-- Where a definition comes from, and how its bytes are had.
use Rattle.std.specs.Prelude.{◌≡◌, ℕ, ◌≤◌, List, length}
use Rattle.fpc_base.specs.Outside.{Outside, Content}
use Rattle.fpc_cli.specs.declared.answer.Answer.{Answer}
use Rattle.fpc_cli.specs.declared.answer.Answer.TheVariants.{OutOfMemory}
use Rattle.fpc_cli.specs.declared.answer.Role.TheVariants.{Definition}
use Rattle.fpc_cli.specs.BuiltIn.{built_in_text}
use Rattle.fpc_cli.specs.Command.{Chosen, in_file, built_in}
use Rattle.fpc_cli.specs.Inputs.{Grammar, Input, source, at_hand, IsReadWhole, IsUnread, IsRefusal}

-- the input that a definition is: a file, or a text that is at hand
abbrev pub definition_input : Chosen → (grammar : List (List ℕ) → Grammar) → Input
definition_input (in_file name) grammar = source Definition name grammar
definition_input (built_in definition) grammar =
    at_hand Definition (built_in_text definition) grammar

-- these are the bytes of a definition: a file was read whole, or they are at hand
abbrev pub AreHad : Chosen → (List ℕ → Content) → Outside → Outside → List ℕ → Type 0
AreHad (in_file name) content old new bytes = IsReadWhole (content name) name old new bytes
AreHad (built_in definition) content old new bytes =
    (new ≡ old) × (bytes ≡ built_in_text definition) × (length bytes ≤ 16777216)

-- why the bytes of a definition could not be had
abbrev pub AreNotHad : Chosen → (List ℕ → Content) → Outside → Outside → Answer → Type 0
AreNotHad (in_file name) content old new answer =
    IsUnread Definition (content name) name old new answer
AreNotHad (built_in definition) content old new answer = (new ≡ old) × (answer ≡ OutOfMemory)

-- the bytes of a definition were had, and they are refused
pub record AreHadAndRefused (chosen : Chosen) (grammar : Grammar) (content : List ℕ → Content)
    (old new : Outside) (answer : Answer) : Type 0 where
  pub bytes : List ℕ
  pub had : AreHad chosen content old new bytes
  pub refusal : IsRefusal Definition grammar bytes answer
