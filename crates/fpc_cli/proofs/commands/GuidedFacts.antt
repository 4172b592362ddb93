-- The end of `check` and `elaborate` is that of the search for a goal over files that were read.
use Rattle.std.proofs.Common.{◌≡◌, ◌⊎◌, ℕ, List, [], ◌∷◌, length, Some, Result, Ok, Err, IfOk, false, refl, sym, ap, ◌∙◌, subst, inl, inr}
use Rattle.fpc_base.specs.Lexeme.{Item, items_of}
use Rattle.fpc_base.specs.Outside.{Outside, Content}
use Rattle.fpc_base.specs.declared.outside.OutOfMemory.{OutOfMemory}
use Rattle.fpc_terms.specs.Name.{AreDifferent, Grows, index_in}
use Rattle.fpc_terms.specs.Text.{name_in}
use Rattle.polarised_formulas.specs.Formula.{Formula, IsClosed, IsLkf}
use Rattle.polarised_formulas.specs.ReadProblem.{ProblemIsRead}
use Rattle.polarised_formulas.specs.declared.logic.Logic.{Logic}
use Rattle.polarised_formulas.specs.declared.logic.Logic.TheVariants.{Lkf, Ljf}
use Rattle.clause_language.specs.FileMachine.{is_other}
use Rattle.clause_language.specs.Joined.{JoinedIsProgram}
use Rattle.clause_language.specs.Limits.{declared_names}
use Rattle.clause_language.specs.Meant.{declared_meant}
use Rattle.clause_language.specs.Naming.{IsDefinitionNamedBelow}
use Rattle.clause_language.specs.Printable.{declared_texts}
use Rattle.clause_language.specs.Program.{HaveWords, IsJoined, IsProgram}
use Rattle.clause_language.specs.ReadFile.{DefinitionIsRead, CertificateIsRead, names_of}
use Rattle.clause_language.specs.Written.{WrittenDefinition}
use Rattle.clause_language.specs.declared.certificate.Certificate.{Certificate}
use Rattle.clause_language.specs.declared.declaration.DeclaredFormula.{DeclaredFormula}
use Rattle.clause_language.specs.declared.definition.Definition.{Definition}
use Rattle.clause_language.specs.declared.program.Program.{Program}
use Rattle.clause_language.proofs.FileNames.{definition-below, certificate-below}
use Rattle.clause_language.proofs.FileReading.{definition-read_once}
use Rattle.clause_language.proofs.ItemsMeant.{texts-declared}
use Rattle.clause_language.proofs.Joined.{certificate-logic, definition-grown, certificate-grown, names_of-grown}
use Rattle.clause_language.proofs.ReadAs.{definition-read_as}
use Rattle.clause_language.proofs.RoundTrip.{definition-passed, within-definition}
use Rattle.search_model.specs.declared.plain.Outcome.{Outcome}
use Rattle.search_model.specs.declared.plain.Outcome.TheVariants as search
use Rattle.elaborator.specs.Check.{IsRight}
use Rattle.fpc_cli.specs.declared.answer.Answer.{Answer}
use Rattle.fpc_cli.specs.declared.answer.Answer.TheVariants.{OutOfMemory as NoMemory, Refused}
use Rattle.fpc_cli.specs.declared.answer.Role.TheVariants as role
use Rattle.fpc_cli.specs.Command.{Chosen}
use Rattle.fpc_cli.specs.declared.command.Wanted.{Wanted}
use Rattle.fpc_cli.specs.Grammars as grammar
use Rattle.fpc_cli.specs.Inputs.{source, IsReadWhole, IsRefusal, Decides, Comes, ComesOf}
use Rattle.fpc_cli.specs.Origins.{definition_input, AreHad, AreNotHad, AreHadAndRefused}
use Rattle.fpc_cli.specs.commands.Guided.{AreRead, IsSearched, IsGuidedAnswer, EndsGuided, IsProvedBy, certificate_input, guided_task}
use Rattle.fpc_cli.proofs.OriginFacts.{good, decides}
use Rattle.fpc_cli.proofs.PrintedForms.{index-agrees}
use Rattle.fpc_cli.proofs.commands.VerifyFacts.{read-grows, read-whole}

-- LKF is expected, and no other logic comes
expected-lkf : (logic : Logic) → is_other (Some Lkf) logic ≡ false → logic ≡ Lkf
expected-lkf Lkf h = refl
expected-lkf Ljf h = let never : ⊥ = cc in absurd never

module _ (names : List (List ℕ)) (differ : AreDifferent names) where
  -- a definition of LKF that was read is of LKF
  definition-logic : (items : List Item) (d : Definition) → DefinitionIsRead (Some Lkf) items names d → d.logic ≡ Lkf
  definition-logic items d r =
      let within = within-definition (Some Lkf) items r.written (definition-passed (Some Lkf) items r.written r.reads) in
      ap (λ (x : Definition). x.logic) (r.meant (index_in names) (index-agrees names differ)) ∙ expected-lkf r.written.logic within.is_expected

  texts-of : (ds : List DeclaredFormula) → names_of names ds ≡ declared_texts names ds
  texts-of [] = refl
  texts-of (d ∷ ds) = ap (λ l. name_in names d.name ∷ l) (texts-of ds)

  -- the names of its declared formulas are those that are written
  names-written : (items : List Item) (d : Definition) (r : DefinitionIsRead (Some Lkf) items names d) → names_of names d.declared ≡ declared_names r.written.items
  names-written items d r =
      let told = definition-read_as (Some Lkf) names (index_in names) items d differ (index-agrees names differ) r in
      let same : told.written ≡ r.written = definition-read_once (Some Lkf) items told.written r.written told.read r.reads in
      ap (λ (x : Definition). names_of names x.declared) (sym told.meant)
      ∙ texts-of (declared_meant (index_in names) told.written.items)
      ∙ texts-declared names (index_in names) (index-agrees names differ) told.written.items told.in_table
      ∙ ap (λ (w : WrittenDefinition). declared_names w.items) same

  module _ (d : Definition) (c : Certificate) (r : AreRead names d c) where
    -- the definition and the certificate are of one logic
    pub one-logic : d.logic ≡ c.logic
    one-logic = definition-logic r.items d r.definition_read ∙ sym (certificate-logic Lkf (names_of names d.declared) names r.others c differ r.certificate_read)

-- What was read stands, as the table grows by the words of the program.
module _ (before after : List (List ℕ)) (grows : Grows before after) (first : AreDifferent before) (differ : AreDifferent after) (d : Definition) (c : Certificate) where
  definition-stays : (items : List Item) → DefinitionIsRead (Some Lkf) items before d → DefinitionIsRead (Some Lkf) items after d
  definition-stays items r = definition-grown (Some Lkf) items before after d grows r

  names-stay : (items : List Item) → DefinitionIsRead (Some Lkf) items before d → names_of after d.declared ≡ names_of before d.declared
  names-stay items r = names_of-grown before after d.declared grows (definition-below before first r.written d r.meant).0

  certificate-stays : (items others : List Item) → DefinitionIsRead (Some Lkf) items before d
      → CertificateIsRead (Some Lkf) (names_of before d.declared) others before c → CertificateIsRead (Some Lkf) (names_of after d.declared) others after c
  certificate-stays items others r s =
      subst (λ earlier. CertificateIsRead (Some Lkf) earlier others after c) (sym (names-stay items r))
      (certificate-grown (Some Lkf) (names_of before d.declared) others before after c grows s)

  module _ (p : Program) (j : IsJoined d c p) (words : HaveWords after p.ids) where
    -- what was joined is of LKF
    joined-logic : AreRead before d c → p.logic ≡ Lkf
    joined-logic r = j.logic ∙ definition-logic before first r.items d r.definition_read

    -- so is its logic the problem's
    pub same-logic : (logic : Logic) → logic ≡ Lkf → AreRead before d c → p.logic ≡ logic
    same-logic logic e r = joined-logic r ∙ sym e

    -- what was joined is a program
    pub is-program : JoinedIsProgram → AreRead before d c → IsProgram after p
    is-program law r =
        let d_read = definition-stays r.items r.definition_read in
        let c_read = certificate-stays r.items r.others r.definition_read r.certificate_read in
        law (Some Lkf) after r.items r.others d c p differ d_read
        (subst (λ (l : Logic). CertificateIsRead (Some l) (names_of after d.declared) r.others after c) (sym (definition-logic after differ r.items d d_read)) c_read)
        (definition-below after differ d_read.written d d_read.meant) (certificate-below after differ c_read.written c c_read.meant) j words

    module _ (goal : Formula) (closed : IsClosed goal) (lkf : IsLkf goal) (wanted : Wanted) (budget : ℕ) where
      proved : (end : Outcome) → IsRight p goal end → IsProvedBy goal end
      proved (search.Accepted trace units) right = ((trace, right.spelling, refl), right.spelling.derivation)
      proved (search.Rejected units) right = tt
      proved search.Spent right = tt

      -- the answer that the outcome of the search is
      pub guided-answered : (answer : Answer) → IsSearched wanted after p goal budget answer → (problem definition certificate : List ℕ) → ProblemIsRead (items_of problem) before Lkf goal
          → DefinitionIsRead (Some Lkf) (items_of definition) before d
          → CertificateIsRead (Some Lkf) (names_of before d.declared) (items_of certificate) before c
          → IsGuidedAnswer wanted budget problem definition certificate answer
      guided-answered answer s problem definition certificate goal_read d_read c_read = record {
        names = after;
        outcome = s.outcome;
        checked = record {
          different = differ;
          goal = goal;
          goal_read = read-grows before after problem goal grows goal_read;
          meaning = d;
          definition_read = definition-stays (items_of definition) d_read;
          given = c;
          certificate_read = certificate-stays (items_of definition) (items_of certificate) d_read c_read;
          program = p;
          joined = j;
          words = words;
          is_outcome = s.is_outcome;
        };
        closed = closed;
        lkf = lkf;
        within = s.within;
        right = s.right;
        proved = proved s.outcome s.right;
        told = s.told;
        verified = s.verified;
      }

      -- so of what was found, where this is wanted
      pub found-answered : (w : Wanted) → wanted ≡ w → (r : Result Answer OutOfMemory) → IfOk r (IsSearched w after p goal budget)
          → IfOk r (λ answer. (problem definition certificate : List ℕ) → ProblemIsRead (items_of problem) before Lkf goal
          → DefinitionIsRead (Some Lkf) (items_of definition) before d
          → CertificateIsRead (Some Lkf) (names_of before d.declared) (items_of certificate) before c
          → IsGuidedAnswer wanted budget problem definition certificate answer)
      found-answered w e (Ok answer) h = guided-answered answer (subst (λ (x : Wanted). IsSearched x after p goal budget answer) (sym e) h)
      found-answered w e (Err x) h = tt

-- THE CERTIFICATE
module _ (content : List ℕ → Content) (wanted : Wanted) (budget : ℕ) (name : List ℕ) (old new : Outside) (known names : List (List ℕ)) (grows : Grows known names) (differ : AreDifferent known)
    (goal : Formula) (d : Definition) (first second : List ℕ) (goal_read : ProblemIsRead (items_of first) known Lkf goal)
    (d_read : DefinitionIsRead (Some Lkf) (items_of second) known d) where
  earlier-names : names_of known d.declared ≡ declared_names d_read.written.items
  earlier-names = names-written known differ (items_of second) d d_read

  -- a certificate that was read is whole after the definition
  whole-after : (bytes : List ℕ) → grammar.IsWholeCertificate (Some Lkf) (names_of known d.declared) bytes → (grammar.certificate_after second).IsWhole bytes
  whole-after bytes h = (d_read.written, (d_read.reads, subst (λ (earlier : List (List ℕ)). grammar.IsWholeCertificate (Some Lkf) earlier bytes) earlier-names h))

  -- and a refused one is refused after it
  refusal-after : (bytes : List ℕ) (answer : Answer) → IsRefusal role.Certificate (grammar.certificate (Some Lkf) (names_of known d.declared)) bytes answer
      → IsRefusal role.Certificate (grammar.certificate_after second) bytes answer
  refusal-after bytes NoMemory h = tt
  refusal-after bytes (Refused r refusal) (is, inl large) = (is, inl large)
  refusal-after bytes (Refused r refusal) (is, inr (small, refused)) =
      (is, inr (small, (d_read.written, (d_read.reads, subst (λ (earlier : List (List ℕ)). grammar.RefusesCertificate (Some Lkf) earlier bytes refusal) earlier-names refused))))
  refusal-after bytes _ h = absurd h

  -- the search comes after a certificate
  pub certificate-comes : (c : Certificate) (answer : Answer)
      → (bytes : List ℕ) × (IsReadWhole (content name) name old new bytes × CertificateIsRead (Some Lkf) (names_of known d.declared) (items_of bytes) names c)
      → IsDefinitionNamedBelow (length known) d
      → (answer ≡ NoMemory) ⊎ ((third : List ℕ) → ProblemIsRead (items_of first) names Lkf goal → DefinitionIsRead (Some Lkf) (items_of second) names d
      → CertificateIsRead (Some Lkf) (names_of names d.declared) (items_of third) names c → IsGuidedAnswer wanted budget first second third answer)
      → Comes content (EndsGuided wanted budget) (first ∷ second ∷ []) (certificate_input name ∷ []) old new answer
  certificate-comes c answer (bytes, (whole, read)) named found =
      let later = read-grows known names first goal grows goal_read in
      let d_later = definition-grown (Some Lkf) (items_of second) known names d grows d_read in
      let c_later = subst (λ earlier. CertificateIsRead (Some Lkf) earlier (items_of bytes) names c) (sym (names_of-grown known names d.declared grows named.0)) read in
      inr (
        new,
        (
          bytes,
          (
            (whole, whole-after bytes (read.written, read.reads)),
            record {
              still = refl;
              searched = elim found [ inl none ↦ inl none | inr answered ↦ inr (answered bytes later d_later c_later) ];
            },
          ),
        ),
      )

  -- a certificate that isn't good decides the answer
  pub certificate-decides : (answer : Answer)
      → Decides content [] (source role.Certificate name (λ before. grammar.certificate (Some Lkf) (names_of known d.declared))) old new answer
      → Comes content (EndsGuided wanted budget) (first ∷ second ∷ []) (certificate_input name ∷ []) old new answer
  certificate-decides answer (inl unread) = inl (inl unread)
  certificate-decides answer (inr h) = inl (inr (record { bytes = h.bytes; whole = h.whole; refusal = refusal-after h.bytes answer h.refusal }))

-- what is read together stands as the table grows by the certificate's names
pub read-together : (known names : List (List ℕ)) → Grows known names → (d : Definition) (c : Certificate) → (items : List Item) × DefinitionIsRead (Some Lkf) items known d
    → IsDefinitionNamedBelow (length known) d → (others : List ℕ) → CertificateIsRead (Some Lkf) (names_of known d.declared) (items_of others) names c → AreRead names d c
read-together known names grows d c r named others read = record {
  items = r.0;
  definition_read = definition-grown (Some Lkf) r.0 known names d grows r.1;
  others = items_of others;
  certificate_read = subst (λ earlier. CertificateIsRead (Some Lkf) earlier (items_of others) names c) (sym (names_of-grown known names d.declared grows named.0)) read;
}

-- THE DEFINITION
module _ (content later : List ℕ → Content) (same : later ≡ content) (wanted : Wanted) (budget : ℕ) (chosen : Chosen) (name : List ℕ) (old mid new : Outside) where
  abbrev certificate-then : List ℕ → List ℕ → (List ℕ → Content) → Answer → Type 0
  certificate-then first second told answer = Comes told (EndsGuided wanted budget) (first ∷ second ∷ []) (certificate_input name ∷ []) mid new answer

  -- the certificate comes after a definition
  pub definition-comes : (first : List ℕ) (known names : List (List ℕ)) → Grows known names → (goal : Formula) → ProblemIsRead (items_of first) known Lkf goal → (d : Definition) (answer : Answer)
      → (bytes : List ℕ) × (AreHad chosen content old mid bytes × DefinitionIsRead (Some Lkf) (items_of bytes) names d)
      → ((first second : List ℕ) → ProblemIsRead (items_of first) names Lkf goal → DefinitionIsRead (Some Lkf) (items_of second) names d → certificate-then first second later answer)
      → Comes content (EndsGuided wanted budget) (first ∷ []) (definition_input chosen (λ earlier. grammar.definition (Some Lkf)) ∷ certificate_input name ∷ []) old new answer
  definition-comes first known names grows goal goal_read d answer (bytes, (had, read)) comes =
      inr (
        mid,
        (
          bytes,
          (
            good content (first ∷ []) (grammar.definition (Some Lkf)) old mid chosen bytes had (read.written, read.reads),
            subst (λ (told : List ℕ → Content). certificate-then first bytes told answer) same
                (comes first bytes (read-grows known names first goal grows goal_read) read),
          ),
        ),
      )

-- a definition that could not be had, or is refused, decides the answer
pub definition-decides : (content : List ℕ → Content) (wanted : Wanted) (budget : ℕ) (chosen : Chosen) (name first : List ℕ) (old new : Outside) (answer : Answer)
    → AreNotHad chosen content old new answer ⊎ AreHadAndRefused chosen (grammar.definition (Some Lkf)) content old new answer
    → Comes content (EndsGuided wanted budget) (first ∷ []) (definition_input chosen (λ earlier. grammar.definition (Some Lkf)) ∷ certificate_input name ∷ []) old new answer
definition-decides content wanted budget chosen name first old new answer h = inl (decides content (first ∷ []) (grammar.definition (Some Lkf)) old new chosen answer h)

-- THE PROBLEM
module _ (content later : List ℕ → Content) (same : later ≡ content) (wanted : Wanted) (budget : ℕ) (problem : List ℕ) (chosen : Chosen) (certificate : List ℕ) (old mid new : Outside) where
  abbrev definition-then : List ℕ → (List ℕ → Content) → Answer → Type 0
  definition-then first told answer =
      Comes told (EndsGuided wanted budget) (first ∷ []) (definition_input chosen (λ earlier. grammar.definition (Some Lkf)) ∷ certificate_input certificate ∷ []) mid new answer

  -- the definition comes after a problem
  pub caused-by : (names : List (List ℕ)) (goal : Formula) (answer : Answer)
      → (bytes : List ℕ) × (IsReadWhole (content problem) problem old mid bytes × ProblemIsRead (items_of bytes) names Lkf goal)
      → ((first : List ℕ) → ProblemIsRead (items_of first) names Lkf goal → definition-then first later answer)
      → ComesOf content (guided_task wanted budget problem chosen certificate) old new answer
  caused-by names goal answer (bytes, (whole, read)) comes =
      inr (
        mid,
        (
          bytes,
          (
            (whole, read-whole bytes names goal read),
            subst (λ (told : List ℕ → Content). definition-then bytes told answer) same (comes bytes read),
          ),
        ),
      )
