-- The answer to `format` is one, and the one that the file calls for.
use Rattle.std.proofs.Common.{◌≡◌, ℕ, List, [], ◌∷◌, length, refl, sym, ap, ◌∙◌, subst, None}
use Rattle.fpc_base.specs.Lexeme.{items_of}
use Rattle.fpc_base.specs.Outside.{Outside, Content}
use Rattle.fpc_terms.specs.Name.{index_in}
use Rattle.polarised_formulas.specs.declared.logic.Logic.{Logic}
use Rattle.polarised_formulas.specs.Printing.{AllNamesBelow}
use Rattle.polarised_formulas.specs.Text.{problem_text}
use Rattle.polarised_formulas.specs.Written.{WrittenProblem, formula_meant}
use Rattle.polarised_formulas.proofs.ProblemReading.{problem-read_once}
use Rattle.clause_language.specs.Meant.{definition_meant, certificate_meant}
use Rattle.clause_language.specs.Naming.{IsDefinitionNamedBelow, IsCertificateNamedBelow}
use Rattle.clause_language.specs.Text.{definition_text, certificate_text}
use Rattle.clause_language.specs.Written.{WrittenDefinition, WrittenCertificate}
use Rattle.clause_language.proofs.FileReading.{definition-read_once, certificate-read_once}
use Rattle.fpc_cli.specs.declared.answer.Answer.{Answer}
use Rattle.fpc_cli.specs.declared.answer.Answer.TheVariants.{Formatted, OutOfMemory}
use Rattle.fpc_cli.specs.declared.command.Form.{Form}
use Rattle.fpc_cli.specs.declared.command.Form.TheVariants.{Problem, Definition, Certificate}
use Rattle.fpc_cli.specs.Laws.{IsFound}
use Rattle.fpc_cli.specs.commands.Format.{IsProblemPrinted, IsDefinitionPrinted, IsCertificatePrinted, IsPrintedForm, IsFormatted, IsItsPrintedForm, EndsFormat, FormatIsDue, format_task}
use Rattle.fpc_cli.proofs.GrammarLaws.{form-lawful}
use Rattle.fpc_cli.proofs.InputLaws.{IsLawfulTask}
use Rattle.fpc_cli.proofs.PrintedForms.{index-agrees, problem-text-same, definition-text-same, certificate-text-same}

-- the text of a problem, by its written form
abbrev problem_by : List (List ℕ) → WrittenProblem → List ℕ
problem_by names w = problem_text names w.logic (formula_meant (index_in names) [] [] w.formula)

problem-by : (bytes text : List ℕ) (h : IsProblemPrinted bytes text) → text ≡ problem_by h.names h.read.written
problem-by bytes text h = h.printed ∙ ap (λ (l : Logic). problem_text h.names l h.goal) h.read.in_logic ∙ ap (problem_text h.names h.read.written.logic) (h.read.meant (index_in h.names) (index-agrees h.names h.different))

problem-below : (bytes text : List ℕ) (h : IsProblemPrinted bytes text) → AllNamesBelow (length h.names) (formula_meant (index_in h.names) [] [] h.read.written.formula)
problem-below bytes text h = subst (AllNamesBelow (length h.names)) (h.read.meant (index_in h.names) (index-agrees h.names h.different)) h.named

problem-once : (bytes s t : List ℕ) → IsProblemPrinted bytes s → IsProblemPrinted bytes t → s ≡ t
problem-once bytes s t h k =
    let same : k.read.written ≡ h.read.written = problem-read_once (items_of bytes) k.read.written h.read.written k.read.reads h.read.reads in
    problem-by bytes s h
    ∙ problem-text-same h.names k.names h.read.written.logic h.read.written.formula (problem-below bytes s h)
    (subst (λ (w : WrittenProblem). AllNamesBelow (length k.names) (formula_meant (index_in k.names) [] [] w.formula)) same (problem-below bytes t k))
    ∙ ap (problem_by k.names) (sym same)
    ∙ sym (problem-by bytes t k)

definition-by : (bytes text : List ℕ) (h : IsDefinitionPrinted bytes text) → text ≡ definition_text h.names (definition_meant (index_in h.names) h.read.written)
definition-by bytes text h = h.printed ∙ ap (definition_text h.names) (h.read.meant (index_in h.names) (index-agrees h.names h.different))

definition-below : (bytes text : List ℕ) (h : IsDefinitionPrinted bytes text) → IsDefinitionNamedBelow (length h.names) (definition_meant (index_in h.names) h.read.written)
definition-below bytes text h = subst (IsDefinitionNamedBelow (length h.names)) (h.read.meant (index_in h.names) (index-agrees h.names h.different)) h.named

definition-once : (bytes s t : List ℕ) → IsDefinitionPrinted bytes s → IsDefinitionPrinted bytes t → s ≡ t
definition-once bytes s t h k =
    let same : k.read.written ≡ h.read.written = definition-read_once None (items_of bytes) k.read.written h.read.written k.read.reads h.read.reads in
    definition-by bytes s h
    ∙ definition-text-same h.names k.names h.read.written (definition-below bytes s h)
    (subst (λ (w : WrittenDefinition). IsDefinitionNamedBelow (length k.names) (definition_meant (index_in k.names) w)) same (definition-below bytes t k))
    ∙ ap (λ (w : WrittenDefinition). definition_text k.names (definition_meant (index_in k.names) w)) (sym same)
    ∙ sym (definition-by bytes t k)

certificate-by : (bytes text : List ℕ) (h : IsCertificatePrinted bytes text) → text ≡ certificate_text h.names (certificate_meant (index_in h.names) h.read.written)
certificate-by bytes text h = h.printed ∙ ap (certificate_text h.names) (h.read.meant (index_in h.names) (index-agrees h.names h.different))

certificate-below : (bytes text : List ℕ) (h : IsCertificatePrinted bytes text) → IsCertificateNamedBelow (length h.names) (certificate_meant (index_in h.names) h.read.written)
certificate-below bytes text h = subst (IsCertificateNamedBelow (length h.names)) (h.read.meant (index_in h.names) (index-agrees h.names h.different)) h.named

certificate-once : (bytes s t : List ℕ) → IsCertificatePrinted bytes s → IsCertificatePrinted bytes t → s ≡ t
certificate-once bytes s t h k =
    let same : k.read.written ≡ h.read.written = certificate-read_once None [] (items_of bytes) k.read.written h.read.written k.read.reads h.read.reads in
    certificate-by bytes s h
    ∙ certificate-text-same h.names k.names h.read.written (certificate-below bytes s h)
    (subst (λ (w : WrittenCertificate). IsCertificateNamedBelow (length k.names) (certificate_meant (index_in k.names) w)) same (certificate-below bytes t k))
    ∙ ap (λ (w : WrittenCertificate). certificate_text k.names (certificate_meant (index_in k.names) w)) (sym same)
    ∙ sym (certificate-by bytes t k)

-- bytes have one printed form
form-once : (form : Form) (bytes s t : List ℕ) → IsPrintedForm form bytes s → IsPrintedForm form bytes t → s ≡ t
form-once Problem bytes s t h k = problem-once bytes s t h k
form-once Definition bytes s t h k = definition-once bytes s t h k
form-once Certificate bytes s t h k = certificate-once bytes s t h k

-- a printed form that was found is the one of the bytes
printed-due : (form : Form) (bytes : List ℕ) (a : Answer) → IsFound a → IsFormatted form bytes a → IsItsPrintedForm form bytes a
printed-due form bytes (Formatted text) found h = record { text = text; told = refl; printed = h; only = λ other k. form-once form bytes other text k h }
printed-due form bytes OutOfMemory found h = absurd found
printed-due form bytes _ found h = absurd h

due-ends : (form : Form) (inputs : List (List ℕ)) (old new : Outside) (a : Answer) → IsFound a → EndsFormat form inputs old new a → FormatIsDue form inputs a
due-ends form (bytes ∷ []) old new a found h = printed-due form bytes a found h.formatted
due-ends form [] old new a found h = absurd h
due-ends form (bytes ∷ other ∷ more) old new a found h = absurd h

one-due : (form : Form) (inputs : List (List ℕ)) (a b : Answer) → FormatIsDue form inputs a → FormatIsDue form inputs b → a ≡ b
one-due form (bytes ∷ []) a b h k = h.told ∙ ap Formatted (k.only h.text h.printed) ∙ sym k.told
one-due form [] a b h k = absurd h
one-due form (bytes ∷ other ∷ more) a b h k = absurd h

pub format-lawful : (content : List ℕ → Content) (form : Form) (file : List ℕ) → IsLawfulTask content (format_task form file)
format-lawful content form file = record {
  lawful = (λ earlier. form-lawful form, tt);
  due = λ inputs old new calm a found h. due-ends form inputs old new a found h;
  fits = λ known inputs old new calm a b found h due. one-due form inputs a b (due-ends form inputs old new a found h) due;
}
