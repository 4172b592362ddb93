-- What the tests read stands as the table of names grows.
use Rattle.std.proofs.Common.{◌≡◌, ℕ, ◌<◌, ◌≤◌, List, [], ◌∷◌, length, None, Some, arith, slice_get, codes}
use Rattle.std.proofs.lemmas.Option.{slice_get_within}
use Rattle.fpc_base.specs.Lexeme.{Item}
use Rattle.fpc_terms.specs.Name.{AreDifferent, Grows}
use Rattle.fpc_terms.specs.Term.{Term}
use Rattle.polarised_formulas.proofs.TableGrowth.{length-grown, term-named-more}
use Rattle.clause_language.specs.declared.atom.Atom.{Atom}
use Rattle.clause_language.specs.declared.certificate.Certificate.{Certificate}
use Rattle.clause_language.specs.declared.definition.Definition.{Definition}
use Rattle.clause_language.specs.declared.program.Program.{Program}
use Rattle.clause_language.specs.Joined.{DefinitionIsProgram, IsBare}
use Rattle.clause_language.specs.Naming.{AreTermsNamedBelow, IsAtomNamedBelow}
use Rattle.clause_language.specs.Program.{HaveWords, IsJoined, IsProgram}
use Rattle.clause_language.specs.ReadFile.{DefinitionIsRead}
use Rattle.clause_language.proofs.FileNames.{definition-below}
use Rattle.clause_language.proofs.Joined.{definition-grown}

terms-below : (m n : ℕ) → m ≤ n → (ts : List Term) → AreTermsNamedBelow m ts → AreTermsNamedBelow n ts
terms-below m n l [] h = tt
terms-below m n l (t ∷ ts) h = (term-named-more m n l t h.0, terms-below m n l ts h.1)

-- an atom whose names stand in the table
pub atom-grown : (old new : List (List ℕ)) → Grows old new → (a : Atom) → IsAtomNamedBelow (length old) a → IsAtomNamedBelow (length new) a
atom-grown old new grows a h =
    let l : length old ≤ length new = length-grown old new grows in
    let low = h.0 in (omega (arith, low, l), terms-below (length old) (length new) l a.arguments h.1)

-- a definition that was read by an earlier table, joined with the certificate that adds nothing
pub program-later : DefinitionIsProgram → (first second names : List (List ℕ)) → Grows first second → Grows second names → AreDifferent names
    → (items : List Item) (d : Definition) → DefinitionIsRead None items first d
    → (c : Certificate) → (any : ℕ) × ((slice_get second any ≡ Some (codes "any")) × IsBare d.logic any c)
    → (p : Program) → IsJoined d c p → HaveWords names p.ids → IsProgram names p
program-later law first second names grows more different items d read c bare p joined words =
    let later : DefinitionIsRead None items names d = definition-grown None items first names d (λ k text e. more k text (grows k text e)) read in
    law None names items d bare.0 c p different later (definition-below names different later.written d later.meant)
    (slice_get_within names bare.0 _ (more bare.0 (codes "any") bare.1.0)) bare.1.1 joined words
