-- What the grammars of inputs owe: whole bytes are not refused, and others have one refusal.
use Rattle.std.proofs.Common.{◌≡◌, ℕ, List, [], length, Option, Some, None, sym, ap, ◌∙◌, subst, inl, inr}
use Rattle.fpc_base.specs.Lexeme.{Lexeme, items_of}
use Rattle.fpc_base.specs.declared.refusal.Refusal.{Refusal}
use Rattle.fpc_terms.specs.ReadTerm.{any_variable}
use Rattle.fpc_terms.specs.Written.{WrittenTerm, application, IsTerm}
use Rattle.fpc_terms.proofs.AnyTerm.{any-term, term_limits-once}
use Rattle.fpc_terms.proofs.TermReading.{is-whole}
use Rattle.polarised_formulas.proofs.ProblemReading.{problem-read_once, problem-refused_once, problem-not_both}
use Rattle.fpc_base.proofs.ReadingLaws.{all-not_both, all-refused_once}
use Rattle.polarised_formulas.specs.Written.{WrittenFormula, WrittenProblem}
use Rattle.polarised_formulas.specs.declared.logic.Logic.{Logic}
use Rattle.polarised_formulas.specs.declared.logic.Logic.TheVariants.{Lkf, Ljf}
use Rattle.clause_language.proofs.FileReading.{definition-read_once, definition-refused_once, definition-not_both, certificate-refused_once, certificate-not_both}
use Rattle.clause_language.specs.ReadAtom.{IsAtom, AtomLimits}
use Rattle.clause_language.specs.Limits.{declared_names}
use Rattle.clause_language.specs.Written.{WrittenAtom, WrittenDefinition}
use Rattle.fpc_cli.specs.declared.command.Form.{Form}
use Rattle.fpc_cli.specs.declared.command.Form.TheVariants.{Problem, Definition, Certificate}
use Rattle.fpc_cli.specs.Grammars.{problem, lkf_problem, definition, certificate, certificate_after, atom, grammar_of, IsNotBuilt, IsProblemOf, IsDefinitionOf, IsWholeCertificate, RefusesCertificate}
use Rattle.fpc_cli.proofs.InputLaws.{IsLawful}

pub problem-lawful : IsLawful problem
problem-lawful = record {
  apart = λ bytes r h k. problem-not_both (length bytes) (items_of bytes) h.0 r h.1 k;
  once = λ bytes r s h k. problem-refused_once (length bytes) (items_of bytes) r s h k;
}

-- a problem of LKF isn't one of LJF
lkf-or-ljf : (bytes : List ℕ) (w : WrittenFormula) (r : Refusal) → IsProblemOf bytes w → IsNotBuilt bytes r → ⊥
lkf-or-ljf bytes w r reads k =
    let same = problem-read_once (items_of bytes) (record { logic = Lkf; formula = w }) k.written reads k.reads in
    let never : Lkf ≡ Ljf = ap (λ (v : WrittenProblem). v.logic) same ∙ sym k.in_logic in
    cc

pub lkf_problem-lawful : IsLawful lkf_problem
lkf_problem-lawful = record { apart = apart; once = once } where
  apart : (bytes : List ℕ) (r : Refusal) → lkf_problem.IsWhole bytes → lkf_problem.Refuses bytes r → ⊥
  apart bytes r (w, reads) (inl k) = problem-not_both (length bytes) (items_of bytes) (record { logic = Lkf; formula = w }) r reads k
  apart bytes r (w, reads) (inr k) = lkf-or-ljf bytes w r reads k

  once : (bytes : List ℕ) (r s : Refusal) → lkf_problem.Refuses bytes r → lkf_problem.Refuses bytes s → r ≡ s
  once bytes r s (inl h) (inl k) = problem-refused_once (length bytes) (items_of bytes) r s h k
  once bytes r s (inl h) (inr k) = absurd (problem-not_both (length bytes) (items_of bytes) k.written r k.reads h)
  once bytes r s (inr h) (inl k) = absurd (problem-not_both (length bytes) (items_of bytes) h.written s h.reads k)
  once bytes r s (inr h) (inr k) = h.told ∙ sym k.told

pub definition-lawful : (expected : Option Logic) → IsLawful (definition expected)
definition-lawful expected = record {
  apart = λ bytes r h k. definition-not_both expected (length bytes) (items_of bytes) h.0 r h.1 k;
  once = λ bytes r s h k. definition-refused_once expected (length bytes) (items_of bytes) r s h k;
}

pub certificate-lawful : (expected : Option Logic) (earlier : List (List ℕ)) → IsLawful (certificate expected earlier)
certificate-lawful expected earlier = record {
  apart = λ bytes r h k. certificate-not_both expected earlier (length bytes) (items_of bytes) h.0 r h.1 k;
  once = λ bytes r s h k. certificate-refused_once expected earlier (length bytes) (items_of bytes) r s h k;
}

pub certificate_after-lawful : (bytes : List ℕ) → IsLawful (certificate_after bytes)
certificate_after-lawful bytes = record { apart = apart; once = once } where
  declares : (d e : WrittenDefinition) → IsDefinitionOf (Some Lkf) bytes d → IsDefinitionOf (Some Lkf) bytes e → declared_names d.items ≡ declared_names e.items
  declares d e h k = ap (λ (w : WrittenDefinition). declared_names w.items) (definition-read_once (Some Lkf) (items_of bytes) d e h k)

  apart : (text : List ℕ) (r : Refusal) → (certificate_after bytes).IsWhole text → (certificate_after bytes).Refuses text r → ⊥
  apart text r (d, (h, w)) (e, (k, refused)) =
      certificate-not_both (Some Lkf) (declared_names e.items) (length text) (items_of text)
      (subst (λ names. IsWholeCertificate (Some Lkf) names text) (declares d e h k) w).0 r (subst (λ names. IsWholeCertificate (Some Lkf) names text) (declares d e h k) w).1 refused

  once : (text : List ℕ) (r s : Refusal) → (certificate_after bytes).Refuses text r → (certificate_after bytes).Refuses text s → r ≡ s
  once text r s (d, (h, v)) (e, (k, w)) =
      certificate-refused_once (Some Lkf) (declared_names e.items) (length text) (items_of text) r s
      (subst (λ names. RefusesCertificate (Some Lkf) names text r) (declares d e h k) v) w

pub form-lawful : (form : Form) → IsLawful (grammar_of form)
form-lawful Problem = problem-lawful
form-lawful Definition = definition-lawful None
form-lawful Certificate = certificate-lawful None []

-- an atom as a term
abbrev term_of : WrittenAtom → WrittenTerm
term_of a = application a.text a.args

-- the atom that a term is, where it is one
abbrev atom_of : WrittenAtom → Option WrittenTerm → WrittenAtom
atom_of a (Some (application x ts)) = record { text = x; args = ts }
atom_of a _ = a

is-term : (tokens : List Lexeme) (a : WrittenAtom) → IsAtom tokens a → IsTerm any_variable tokens (term_of a)
is-term tokens a h = record { spelled = h; known_all = any-term (term_of a) }

-- tokens are one atom
atom-once : (tokens : List Lexeme) (a b : WrittenAtom) → IsAtom tokens a → IsAtom tokens b → a ≡ b
atom-once tokens a b h k = ap (atom_of a) (sym (is-whole any_variable tokens (term_of a) (is-term tokens a h)) ∙ is-whole any_variable tokens (term_of b) (is-term tokens b k))

pub atom-lawful : IsLawful atom
atom-lawful = record {
  apart = λ bytes r h k. all-not_both IsAtom AtomLimits h.1 k;
  once = λ bytes r s h k. all-refused_once IsAtom AtomLimits atom-once term_limits-once h k;
}
