-- Tokens are one atom at most.
use Rattle.std.proofs.Common.{◌≡◌, List, Option, Some, refl, sym, ap, ◌∙◌}
use Rattle.fpc_base.specs.Lexeme.{Lexeme}
use Rattle.fpc_terms.specs.ReadTerm.{any_variable}
use Rattle.fpc_terms.specs.Written.{WrittenTerm, application, IsTerm}
use Rattle.fpc_terms.proofs.AnyTerm.{any-term}
use Rattle.fpc_terms.proofs.TermReading.{is-whole}
use Rattle.clause_language.specs.ReadAtom.{IsAtom}
use Rattle.clause_language.specs.Written.{WrittenAtom}

-- an atom as a term
abbrev term_of : WrittenAtom → WrittenTerm
term_of a = application a.text a.args

-- the atom that a term is, where it is one
abbrev atom_of : WrittenAtom → Option WrittenTerm → WrittenAtom
atom_of a (Some (application x ts)) = record { text = x; args = ts }
atom_of a _ = a

is-term : (tokens : List Lexeme) (a : WrittenAtom) → IsAtom tokens a → IsTerm any_variable tokens (term_of a)
is-term tokens a h = record { spelled = h; known_all = any-term (term_of a) }

pub atom-once : (tokens : List Lexeme) (a b : WrittenAtom) → IsAtom tokens a → IsAtom tokens b → a ≡ b
atom-once tokens a b h k =
    ap (atom_of a)
    (sym (is-whole any_variable tokens (term_of a) (is-term tokens a h)) ∙ is-whole any_variable tokens (term_of b) (is-term tokens b k))
