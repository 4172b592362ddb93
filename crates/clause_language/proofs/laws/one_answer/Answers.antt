use Rattle.fpc_base.proofs.Places.{items_of-within, all-within}
use Rattle.fpc_base.proofs.ReadingLaws.{all-once, all-refused_once, all-not_both}
use Rattle.fpc_terms.proofs.AnyTerm.{term_limits-once}
use Rattle.clause_language.specs.Limits.{DefinitionLimits, CertificateLimits}
use Rattle.clause_language.specs.ReadAtom.{IsAtom, AtomLimits}
use Rattle.clause_language.specs.Written.{IsDefinition, IsCertificate}
use Rattle.clause_language.proofs.OneAtom.{atom-once}
use Rattle.clause_language.proofs.FileReading.{definition-read_once, definition-refused_once, definition-not_both, certificate-read_once, certificate-refused_once, certificate-not_both}
use Rattle.clause_language.proofs.laws.one_answer.Goals as goal

pub returns-clause-definition_read : goal.returns-clause-definition_read
returns-clause-definition_read c = definition-read_once

pub returns-clause-definition_refused : goal.returns-clause-definition_refused
returns-clause-definition_refused c = definition-refused_once

pub returns-clause-definition_both : goal.returns-clause-definition_both
returns-clause-definition_both c = definition-not_both

pub returns-clause-certificate_read : goal.returns-clause-certificate_read
returns-clause-certificate_read c = certificate-read_once

pub returns-clause-certificate_refused : goal.returns-clause-certificate_refused
returns-clause-certificate_refused c = certificate-refused_once

pub returns-clause-certificate_both : goal.returns-clause-certificate_both
returns-clause-certificate_both c = certificate-not_both

pub returns-clause-atom_read : goal.returns-clause-atom_read
returns-clause-atom_read c = λ items a b h k. all-once IsAtom AtomLimits atom-once term_limits-once h k

pub returns-clause-atom_refused : goal.returns-clause-atom_refused
returns-clause-atom_refused c = λ n items r s h k. all-refused_once IsAtom AtomLimits atom-once term_limits-once h k

pub returns-clause-atom_both : goal.returns-clause-atom_both
returns-clause-atom_both c = λ n items a r h k. all-not_both IsAtom AtomLimits h k

pub returns-clause-definition_within : goal.returns-clause-definition_within
returns-clause-definition_within c = λ expected bytes r h.
    all-within IsDefinition (DefinitionLimits expected) h (items_of-within bytes)

pub returns-clause-certificate_within : goal.returns-clause-certificate_within
returns-clause-certificate_within c = λ expected earlier bytes r h.
    all-within IsCertificate (CertificateLimits expected earlier) h (items_of-within bytes)

pub returns-clause-atom_within : goal.returns-clause-atom_within
returns-clause-atom_within c = λ bytes r h. all-within IsAtom AtomLimits h (items_of-within bytes)
