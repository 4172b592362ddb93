-- The answer to a file that was read whole to be printed.
use Rattle.std.proofs.Common.{ℕ, List, refl, inl, inr}
use Rattle.fpc_base.specs.Outside.{Outside, Content}
use Rattle.fpc_base.specs.declared.refusal.Refusal.{Refusal}
use Rattle.fpc_cli.specs.declared.answer.Answer.TheVariants.{Formatted, Refused, OutOfMemory}
use Rattle.fpc_cli.specs.declared.command.Form.{Form}
use Rattle.fpc_cli.specs.declared.command.Form.TheVariants.{Problem, Definition, Certificate}
use Rattle.fpc_cli.specs.Command.{format, role_of}
use Rattle.fpc_cli.specs.Grammars.{grammar_of}
use Rattle.fpc_cli.specs.Inputs.{IsReadWhole}
use Rattle.fpc_cli.specs.Run.{IsCaused}
use Rattle.fpc_cli.specs.commands.Format.{IsPrintedForm}

-- bytes with a printed form are whole
printed-whole : (form : Form) (bytes text : List ℕ) → IsPrintedForm form bytes text → (grammar_of form).IsWhole bytes
printed-whole Problem bytes text h = (h.read.written, h.read.reads)
printed-whole Definition bytes text h = (h.read.written, h.read.reads)
printed-whole Certificate bytes text h = (h.read.written, h.read.reads)

module _ (content : List ℕ → Content) (form : Form) (file : List ℕ) (old new : Outside) (bytes : List ℕ) (whole : IsReadWhole (content file) file old new bytes) where
  pub printed-caused : (text : List ℕ) → IsPrintedForm form bytes text → IsCaused (format form file) content old new (Formatted text)
  printed-caused text h = inr (new, (bytes, ((whole, printed-whole form bytes text h), record { still = refl; formatted = h })))

  pub refusal-caused : (r : Refusal) → (grammar_of form).Refuses bytes r → IsCaused (format form file) content old new (Refused (role_of form) r)
  refusal-caused r h = inl (inr (record { bytes = bytes; whole = whole; refusal = (refl, inr (whole.size, h)) }))

  pub memory-caused : IsCaused (format form file) content old new OutOfMemory
  memory-caused = inl (inr (record { bytes = bytes; whole = whole; refusal = tt }))
