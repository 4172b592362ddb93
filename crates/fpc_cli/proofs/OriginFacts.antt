-- The bytes of a definition that were had are those of its input.
use Rattle.std.proofs.Common.{◌⊎◌, ℕ, ◌≤◌, List, ◌∷◌, length, sym, subst, inl, inr}
use Rattle.fpc_base.specs.Outside.{Outside, Content}
use Rattle.fpc_cli.specs.declared.answer.Answer.{Answer}
use Rattle.fpc_cli.specs.declared.answer.Role.TheVariants.{Definition}
use Rattle.fpc_cli.specs.BuiltIn.{built_in_text}
use Rattle.fpc_cli.specs.Command.{Chosen, in_file, built_in}
use Rattle.fpc_cli.specs.Inputs.{Grammar, Input, IsRefusal, IsGood, Decides}
use Rattle.fpc_cli.specs.Origins.{definition_input, AreHad, AreNotHad, AreHadAndRefused}
use Rattle.fpc_cli.proofs.InputLaws.{IsLawful, AreLawful}

module _ (content : List ℕ → Content) (earlier : List (List ℕ)) (grammar : Grammar) (old new : Outside) where
  -- whole bytes that were had are good
  pub good : (chosen : Chosen) (bytes : List ℕ) → AreHad chosen content old new bytes → grammar.IsWhole bytes
      → IsGood content earlier (definition_input chosen (λ before. grammar)) old new bytes
  good (in_file name) bytes had whole = (had, whole)
  good (built_in definition) bytes had whole =
      (had.0, had.1, (subst (λ (x : List ℕ). length x ≤ 16777216) had.1 had.2, subst (λ (x : List ℕ). grammar.IsWhole x) had.1 whole))

  -- what was not had, or is refused, decides the answer
  pub decides : (chosen : Chosen) (answer : Answer) → AreNotHad chosen content old new answer ⊎ AreHadAndRefused chosen grammar content old new answer
      → Decides content earlier (definition_input chosen (λ before. grammar)) old new answer
  decides (in_file name) answer (inl h) = inl h
  decides (in_file name) answer (inr h) = inr (record { bytes = h.bytes; whole = h.had; refusal = h.refusal })
  decides (built_in definition) answer (inl h) = (h.0, subst (IsRefusal Definition grammar (built_in_text definition)) (sym h.1) tt)
  decides (built_in definition) answer (inr h) = (h.had.0, subst (λ (x : List ℕ). IsRefusal Definition grammar x answer) h.had.1 h.refusal)

-- the grammar of a definition's input is the one that was given
pub lawful-input : (chosen : Chosen) (grammar : Grammar) (inputs : List Input) → IsLawful grammar → AreLawful inputs → AreLawful (definition_input chosen (λ earlier. grammar) ∷ inputs)
lawful-input (in_file name) grammar inputs lawful rest = (λ earlier. lawful, rest)
lawful-input (built_in definition) grammar inputs lawful rest = (λ earlier. lawful, rest)
