-- What is read for a search stays read as the table of names grows.
use Rattle.std.proofs.Common.{◌≡◌, ◌⊎◌, ℕ, ◌<◌, ◌≤◌, List, [], ◌∷◌, length, Some, None, Result, Ok, Err, IfOk, arith, refl, subst, inl, inr}
use Rattle.std.specs.Prelude.{slice_get, codes}
use Rattle.std.proofs.lemmas.Option.{slice_get_within, slice_get-get_or}
use Rattle.fpc_base.specs.declared.outside.OutOfMemory.{OutOfMemory}
use Rattle.fpc_base.specs.Lexeme.{Item, items_of}
use Rattle.fpc_base.specs.Outside.{Outside, Content}
use Rattle.fpc_terms.specs.Name.{AreDifferent, Grows}
use Rattle.fpc_terms.specs.Printing.{HasNamesBelow, HaveNamesBelow}
use Rattle.fpc_terms.specs.Term.{Term, Args, eigen, bound, variable, app, no_args, arg}
use Rattle.polarised_formulas.proofs.Standing.{Agrees-grows}
use Rattle.clause_language.specs.declared.atom.Atom as atom
use Rattle.clause_language.specs.declared.certificate.Certificate.{Certificate}
use Rattle.clause_language.specs.declared.definition.Definition as definition
use Rattle.clause_language.specs.declared.program.Program.{Program}
use Rattle.clause_language.specs.Joined.{IsBare, DefinitionIsProgram}
use Rattle.clause_language.specs.Naming.{AreTermsNamedBelow, IsAtomNamedBelow}
use Rattle.clause_language.specs.Program.{HaveWords, IsJoined, IsProgram}
use Rattle.clause_language.specs.ReadAtom.{AtomIsRead}
use Rattle.clause_language.specs.ReadFile.{DefinitionIsRead}
use Rattle.clause_language.proofs.FileNames.{definition-below}
use Rattle.search_model.specs.Solve.{IsSolved}
use Rattle.search_model.specs.declared.solve.Solved.{Solved}
use Rattle.search_model.specs.declared.solve.Solved.TheVariants.{Accepted, Rejected, Spent, TooLong}
use Rattle.fpc_cli.specs.declared.answer.Answer.{Answer}
use Rattle.fpc_cli.specs.declared.answer.Role.TheVariants.{Atom}
use Rattle.fpc_cli.specs.Command.{Chosen, solve}
use Rattle.fpc_cli.specs.Grammars as grammar
use Rattle.fpc_cli.specs.Inputs.{at_hand, Comes}
use Rattle.fpc_cli.specs.Origins.{AreHad, AreNotHad, AreHadAndRefused}
use Rattle.fpc_cli.specs.Run.{IsCaused}
use Rattle.fpc_cli.specs.commands.Solve.{IsRead, IsProgramOf, IsEndNamed, IsSearch, EndsSolve, answer_of, IsAtomAnswer}
use Rattle.fpc_cli.proofs.OriginFacts.{good, decides}
use Rattle.search_model.proofs.NamesKept.{accepted-named}

-- a table that grows keeps its length at least
grows-length : (old new : List (List ℕ)) → Grows old new → length old ≤ length new
grows-length [] new grows = omega arith
grows-length (x ∷ xs) new grows =
    let last : length xs < length (x ∷ xs) = omega arith in
    let within : length xs < length new = slice_get_within new (length xs) _ (grows (length xs) _ (slice_get-get_or (x ∷ xs) (length xs) [] last)) in
    omega (arith, within)

mutual
  term-below : (m n : ℕ) → m ≤ n → (t : Term) → HasNamesBelow m t → HasNamesBelow n t
  term-below m n l (eigen k) h = tt
  term-below m n l (bound k) h = tt
  term-below m n l (variable k) h = tt
  term-below m n l (app f ts) h = let low = h.0 in (omega (arith, low, l), args-below m n l ts h.1)

  args-below : (m n : ℕ) → m ≤ n → (ts : Args) → HaveNamesBelow m ts → HaveNamesBelow n ts
  args-below m n l no_args h = tt
  args-below m n l (arg t ts) h = (term-below m n l t h.0, args-below m n l ts h.1)

terms-below : (m n : ℕ) → m ≤ n → (ts : List Term) → AreTermsNamedBelow m ts → AreTermsNamedBelow n ts
terms-below m n l [] h = tt
terms-below m n l (t ∷ ts) h = (term-below m n l t h.0, terms-below m n l ts h.1)

module _ (old new : List (List ℕ)) (grows : Grows old new) where
  -- an atom whose names stand in the table
  pub atom-grows : (a : atom.Atom) → IsAtomNamedBelow (length old) a → IsAtomNamedBelow (length new) a
  atom-grows a h =
      let l : length old ≤ length new = grows-length old new grows in
      let low = h.0 in (omega (arith, low, l), terms-below (length old) (length new) l a.arguments h.1)

  pub definition-grows : (items : List Item) (d : definition.Definition) → DefinitionIsRead None items old d → DefinitionIsRead None items new d
  definition-grows items d r = record { written = r.written; reads = r.reads; meant = λ number agrees. r.meant number (Agrees-grows old new number grows agrees) }

  pub read-grows : (d : definition.Definition) → IsRead old d → IsRead new d
  read-grows d r = (r.0, definition-grows r.0 d r.1)

  pub atom_read-grows : (items : List Item) (read : atom.Atom × ℕ) → AtomIsRead items old read → AtomIsRead items new read
  atom_read-grows items read r =
      record { written = r.written; reads = r.reads; meant = λ number agrees. r.meant number (Agrees-grows old new number grows agrees); counted = r.counted }

-- the program of a definition alone is one
pub is-program : DefinitionIsProgram → (names : List (List ℕ)) → AreDifferent names → (d : definition.Definition) → IsRead names d → (p : Program) → IsProgramOf names d p → IsProgram names p
is-program law names differ d r p h =
    law None names r.0 d h.any h.certificate p differ r.1 (definition-below names differ r.1.written d r.1.meant) (slice_get_within names h.any _ h.is_any) h.bare h.joined h.words

-- what was joined is the program of a definition alone
pub program-of : (old new : List (List ℕ)) → Grows old new → (d : definition.Definition) (c : Certificate) → (any : ℕ) × ((slice_get old any ≡ Some (codes "any")) × IsBare d.logic any c)
    → (r : Result Program OutOfMemory) → IfOk r (IsJoined d c) → IfOk r (λ p. HaveWords new p.ids) → IfOk r (IsProgramOf new d)
program-of old new grows d c bare (Ok p) joined words =
    record { any = bare.0; is_any = grows bare.0 (codes "any") bare.1.0; certificate = c; bare = bare.1.1; joined = joined; words = words }
program-of old new grows d c bare (Err e) joined words = tt

-- an accepted atom has its names in the table
pub end-named : (names : List (List ℕ)) (p : Program) → IsProgram names p → (a : atom.Atom) → IsAtomNamedBelow (length names) a → (variables budget : ℕ)
    → (r : Result Solved OutOfMemory) → IfOk r (IsSolved names p a variables budget) → IfOk r (IsEndNamed (length names))
end-named names p is a named variables budget (Ok (Accepted b units)) h =
    accepted-named names p a b variables budget units is.words is.clauses_named named h.0
end-named names p is a named variables budget (Ok (Rejected units)) h = tt
end-named names p is a named variables budget (Ok Spent) h = tt
end-named names p is a named variables budget (Ok TooLong) h = tt
end-named names p is a named variables budget (Err e) h = tt

-- a word that was read is not too large
pub read-small : (word : List ℕ) → (16777216 < length word → ⊥) → length word ≤ 16777216
read-small word h = omega (arith, h)

-- the answer of a search for the atom that was read of a word
pub atom-answered : (budget : ℕ) (bytes word text : List ℕ) → text ≡ word → (old mid new : List (List ℕ)) → Grows old mid → Grows mid new → AreDifferent new
    → (d : definition.Definition) → DefinitionIsRead None (items_of bytes) old d → (a : atom.Atom) (variables : ℕ) → (16777216 < length text → ⊥) → AtomIsRead (items_of text) mid (a, variables)
    → (answer : Answer) → (end : Solved) × (IsSearch new d a variables budget end × (answer ≡ answer_of new end)) → IsAtomAnswer budget bytes word answer
atom-answered budget bytes word text same old mid new grows grows' differ d r a variables small h answer found =
    subst (λ x. IsAtomAnswer budget bytes x answer) same (inr (
      read-small text small,
      (h.written, h.reads),
      record {
        names = new;
        different = differ;
        meaning = d;
        read = definition-grows mid new grows' (items_of bytes) d (definition-grows old mid grows (items_of bytes) d r);
        asked = a;
        variables = variables;
        atom_read = atom_read-grows mid new grows' (items_of text) (a, variables) h;
        end = found.0;
        is_search = found.1.0;
        told = found.1.1;
      },
    ))

module _ (content : List ℕ → Content) (budget : ℕ) (chosen : Chosen) (word : List ℕ) where
  -- the answer to the word comes after a definition
  answer-comes : (bytes : List ℕ) (now : Outside) (answer : Answer) → IsAtomAnswer budget bytes word answer
      → Comes content (EndsSolve budget) (bytes ∷ []) (at_hand Atom word (λ earlier. grammar.atom) ∷ []) now now answer
  answer-comes bytes now answer (inl refusal) = inl (refl, refusal)
  answer-comes bytes now answer (inr (small, whole, search)) = inr (now, (word, ((refl, refl, (small, whole)), record { still = refl; searched = inr search })))

  -- the answer to a definition that was read, and to the word of an atom
  pub caused-by : (old new : Outside) (names : List (List ℕ)) (d : definition.Definition) (answer : Answer)
      → (bytes : List ℕ) × (AreHad chosen content old new bytes × DefinitionIsRead None (items_of bytes) names d)
      → ((bytes : List ℕ) → DefinitionIsRead None (items_of bytes) names d → IsAtomAnswer budget bytes word answer)
      → IsCaused (solve budget chosen word) content old new answer
  caused-by old new names d answer (bytes, (had, read)) answered =
      inr (
        new,
        (
          bytes,
          (
            good content [] (grammar.definition None) old new chosen bytes had (read.written, read.reads),
            answer-comes bytes new answer (answered bytes read),
          ),
        ),
      )

  -- the answer to a definition that could not be had, or is refused
  pub caused-without : (old new : Outside) (answer : Answer)
      → AreNotHad chosen content old new answer ⊎ AreHadAndRefused chosen (grammar.definition None) content old new answer
      → IsCaused (solve budget chosen word) content old new answer
  caused-without old new answer h = inl (decides content [] (grammar.definition None) old new chosen answer h)
