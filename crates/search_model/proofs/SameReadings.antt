-- What is read twice, into two tables of names, is the same by names.
use Rattle.std.proofs.Common.{◌≡◌, ℕ, Option, Some, List, [], ◌∷◌, ◌++◌, map, length, refl, sym, ap, ap₂, ◌∙◌, subst}
use Rattle.fpc_base.specs.declared.refusal.Code.{Code}
use Rattle.fpc_base.specs.Lexeme.{Lexeme, Item}
use Rattle.fpc_base.specs.Reading.{ReadsAll, at_end, later}
use Rattle.fpc_base.specs.Tokens.{is_one_of}
use Rattle.fpc_terms.specs.Name.{AreDifferent, Agrees, index_in}
use Rattle.fpc_terms.specs.Printing.{HasNamesBelow, HaveNamesBelow}
use Rattle.fpc_terms.specs.ReadTerm.{any_variable, numbered}
use Rattle.fpc_terms.specs.Term.{Term, Args, no_args, arg, terms_in}
use Rattle.fpc_terms.specs.Written.{WrittenTerm, WrittenArgs, variable_word, application, no_words, words, IsKnown, AreKnown, term_meant, args_meant}
use Rattle.fpc_terms.proofs.NamesBelow.{number-below, args-below}
use Rattle.fpc_terms.proofs.ReadFacts.{Agrees-index_in}
use Rattle.fpc_terms.specs.Same.{SameTerm, SameArgs, same_bound, same_variable, same_app, same_no_args, same_arg, SameList, same_nil, same_cons}
use Rattle.fpc_terms.proofs.SameTerms.{if-same, append-same}
use Rattle.fpc_terms.proofs.TermReading.{is-whole}
use Rattle.polarised_formulas.specs.declared.connective.Joiner.TheVariants.{And, Or, Implies}
use Rattle.polarised_formulas.specs.declared.connective.Binder.TheVariants.{ForAll, Exists}
use Rattle.polarised_formulas.specs.declared.logic.Logic.{Logic}
use Rattle.polarised_formulas.specs.Formula.{Formula}
use Rattle.polarised_formulas.specs.Printing.{AllNamesBelow}
use Rattle.polarised_formulas.specs.ReadProblem.{ProblemIsRead}
use Rattle.polarised_formulas.specs.Written.{WrittenFormula, true_unit, false_unit, literal, pair, bind, WrittenProblem, variable_meant, formula_meant}
use Rattle.polarised_formulas.proofs.FormulaNames.{told-names}
use Rattle.polarised_formulas.proofs.ProblemReading.{problem-read_once}
use Rattle.polarised_formulas.specs.Same.{SameFormula, same_truth, same_falsity, same_atom, same_conj, same_disj, same_implies, same_for_all, same_exists}
use Rattle.clause_language.specs.declared.atom.Atom.{Atom}
use Rattle.clause_language.specs.declared.clause.Clause.{Clause}
use Rattle.clause_language.specs.declared.definition.Definition.{Definition}
use Rattle.clause_language.specs.declared.certificate.Certificate.{Certificate}
use Rattle.clause_language.specs.declared.declaration.DeclaredFormula.{DeclaredFormula}
use Rattle.clause_language.specs.declared.program.Program.{Program}
use Rattle.clause_language.specs.Meant.{atom_meant, clause_meant, clause_variables, clauses_meant, declared_meant, certificate_meant, term_variables}
use Rattle.clause_language.specs.Naming.{AreTermsNamedBelow, IsAtomNamedBelow, AreAtomsNamedBelow, IsClauseNamedBelow, AreClausesNamedBelow, AreDeclaredNamedBelow}
use Rattle.clause_language.specs.Program.{IsJoined, HaveWords}
use Rattle.clause_language.specs.ReadAtom.{IsAtom, atom_variables, AtomIsRead}
use Rattle.clause_language.specs.ReadFile.{DefinitionIsRead, CertificateIsRead, names_of}
use Rattle.clause_language.specs.Text.{args_of}
use Rattle.clause_language.specs.Written.{WrittenAtom, WrittenClause, WrittenItem, declaration, a_clause, WrittenDefinition}
use Rattle.clause_language.proofs.FileNames.{definition-below, certificate-below}
use Rattle.clause_language.proofs.FileReading.{definition-read_once, certificate-read_once}
use Rattle.search_model.specs.Same.{AreOneName, SameAtom, SameClause, SameDeclared, SameProgram}
use Rattle.search_model.proofs.SameNames.{text_in_both, words-same}

-- what a table's own numbering makes of written terms, where the names stand in the tables
module _ (names others : List (List ℕ)) where
  abbrev Same : ℕ → ℕ → Type 0
  Same = AreOneName names others

  module _ (leaf : List ℕ → Term) (each : (x : List ℕ) → SameTerm Same (leaf x) (leaf x)) where
    mutual
      term_meant-same : (w : WrittenTerm) → HasNamesBelow (length names) (term_meant (index_in names) leaf w) → HasNamesBelow (length others) (term_meant (index_in others) leaf w)
          → SameTerm Same (term_meant (index_in names) leaf w) (term_meant (index_in others) leaf w)
      term_meant-same (variable_word x) h k = each x
      term_meant-same (application x ts) (h, hs) (k, ks) = same_app (text_in_both names others x h k) (args_meant-same ts hs ks)

      args_meant-same : (ws : WrittenArgs) → HaveNamesBelow (length names) (args_meant (index_in names) leaf ws) → HaveNamesBelow (length others) (args_meant (index_in others) leaf ws)
          → SameArgs Same (args_meant (index_in names) leaf ws) (args_meant (index_in others) leaf ws)
      args_meant-same no_words h k = same_no_args
      args_meant-same (words t ts) (h, hs) (k, ks) = same_arg (term_meant-same t h k) (args_meant-same ts hs ks)

  -- a formula under parameters
  leaf-same : (parameters scope : List (List ℕ)) (x : List ℕ) → SameTerm Same (variable_meant parameters scope x) (variable_meant parameters scope x)
  leaf-same parameters scope x = if-same (SameTerm Same) (is_one_of scope x) (λ _. same_bound (index_in scope x)) (λ _. same_variable (index_in parameters x))

  formula_meant-same : (parameters scope : List (List ℕ)) (w : WrittenFormula) → AllNamesBelow (length names) (formula_meant (index_in names) parameters scope w)
      → AllNamesBelow (length others) (formula_meant (index_in others) parameters scope w)
      → SameFormula Same (formula_meant (index_in names) parameters scope w) (formula_meant (index_in others) parameters scope w)
  formula_meant-same parameters scope (true_unit p) h k = same_truth p
  formula_meant-same parameters scope (false_unit p) h k = same_falsity p
  formula_meant-same parameters scope (literal positive x ts) (h, hs) (k, ks) =
      same_atom positive (text_in_both names others x h k) (args_meant-same (variable_meant parameters scope) (leaf-same parameters scope) ts hs ks)
  formula_meant-same parameters scope (pair (And p) a b) (h, hs) (k, ks) = same_conj p (formula_meant-same parameters scope a h k) (formula_meant-same parameters scope b hs ks)
  formula_meant-same parameters scope (pair (Or p) a b) (h, hs) (k, ks) = same_disj p (formula_meant-same parameters scope a h k) (formula_meant-same parameters scope b hs ks)
  formula_meant-same parameters scope (pair Implies a b) (h, hs) (k, ks) = same_implies (formula_meant-same parameters scope a h k) (formula_meant-same parameters scope b hs ks)
  formula_meant-same parameters scope (bind ForAll x a) h k = same_for_all (formula_meant-same parameters (x ∷ scope) a h k)
  formula_meant-same parameters scope (bind Exists x a) h k = same_exists (formula_meant-same parameters (x ∷ scope) a h k)

  module _ (numbers : List ℕ → ℕ) where
    terms_meant-same : (ws : WrittenArgs) → AreTermsNamedBelow (length names) (terms_in (args_meant (index_in names) (numbered numbers) ws))
        → AreTermsNamedBelow (length others) (terms_in (args_meant (index_in others) (numbered numbers) ws))
        → SameList (SameTerm Same) (terms_in (args_meant (index_in names) (numbered numbers) ws)) (terms_in (args_meant (index_in others) (numbered numbers) ws))
    terms_meant-same no_words h k = same_nil
    terms_meant-same (words t ts) (h, hs) (k, ks) = same_cons (term_meant-same (numbered numbers) (λ x. same_variable (numbers x)) t h k) (terms_meant-same ts hs ks)

    atom_meant-same : (w : WrittenAtom) → IsAtomNamedBelow (length names) (atom_meant (index_in names) numbers w) → IsAtomNamedBelow (length others) (atom_meant (index_in others) numbers w)
        → SameAtom Same (atom_meant (index_in names) numbers w) (atom_meant (index_in others) numbers w)
    atom_meant-same w (h, hs) (k, ks) = record { names = text_in_both names others w.text h k; terms = terms_meant-same w.args hs ks }

    atoms_meant-same : (ws : List WrittenAtom) → AreAtomsNamedBelow (length names) (map (atom_meant (index_in names) numbers) ws)
        → AreAtomsNamedBelow (length others) (map (atom_meant (index_in others) numbers) ws)
        → SameList (SameAtom Same) (map (atom_meant (index_in names) numbers) ws) (map (atom_meant (index_in others) numbers) ws)
    atoms_meant-same [] h k = same_nil
    atoms_meant-same (w ∷ ws) (h, hs) (k, ks) = same_cons (atom_meant-same w h k) (atoms_meant-same ws hs ks)

  clause_meant-same : (w : WrittenClause) → IsClauseNamedBelow (length names) (clause_meant (index_in names) w) → IsClauseNamedBelow (length others) (clause_meant (index_in others) w)
      → SameClause Same (clause_meant (index_in names) w) (clause_meant (index_in others) w)
  clause_meant-same w (h, hs) (k, ks) = record {
    heads = atom_meant-same (index_in (clause_variables w)) w.head h k;
    bodies = atoms_meant-same (index_in (clause_variables w)) w.body hs ks;
    as_many = refl;
  }

  clauses_meant-same : (ws : List WrittenItem) → AreClausesNamedBelow (length names) (clauses_meant (index_in names) ws) → AreClausesNamedBelow (length others) (clauses_meant (index_in others) ws)
      → SameList (SameClause Same) (clauses_meant (index_in names) ws) (clauses_meant (index_in others) ws)
  clauses_meant-same [] h k = same_nil
  clauses_meant-same (declaration x ps f ∷ ws) h k = clauses_meant-same ws h k
  clauses_meant-same (a_clause w ∷ ws) (h, hs) (k, ks) = same_cons (clause_meant-same w h k) (clauses_meant-same ws hs ks)

  names_meant-same : (ws : List WrittenItem) → AreDeclaredNamedBelow (length names) (declared_meant (index_in names) ws) → AreDeclaredNamedBelow (length others) (declared_meant (index_in others) ws)
      → names_of names (declared_meant (index_in names) ws) ≡ names_of others (declared_meant (index_in others) ws)
  names_meant-same [] h k = refl
  names_meant-same (declaration x ps f ∷ ws) (h, hs) (k, ks) = ap₂ (λ y ys. y ∷ ys) (text_in_both names others x h.0 k.0).2 (names_meant-same ws hs ks)
  names_meant-same (a_clause w ∷ ws) h k = names_meant-same ws h k

  declared_meant-same : (ws : List WrittenItem) → AreDeclaredNamedBelow (length names) (declared_meant (index_in names) ws) → AreDeclaredNamedBelow (length others) (declared_meant (index_in others) ws)
      → SameList (SameDeclared Same) (declared_meant (index_in names) ws) (declared_meant (index_in others) ws)
  declared_meant-same [] h k = same_nil
  declared_meant-same (declaration x ps f ∷ ws) ((h, i), hs) ((k, j), ks) =
      same_cons (record { names = text_in_both names others x h k; as_many = refl; formulas = formula_meant-same ps [] f i j }) (declared_meant-same ws hs ks)
  declared_meant-same (a_clause w ∷ ws) h k = declared_meant-same ws h k

  -- what is known of lists that mean the same items
  clauses-told : (ws : List WrittenItem) {cs ds : List Clause} → cs ≡ clauses_meant (index_in names) ws → ds ≡ clauses_meant (index_in others) ws
      → AreClausesNamedBelow (length names) cs → AreClausesNamedBelow (length others) ds → SameList (SameClause Same) cs ds
  clauses-told ws e d h k =
      rw (e, d) (clauses_meant-same ws (subst (λ x. AreClausesNamedBelow (length names) x) e h) (subst (λ x. AreClausesNamedBelow (length others) x) d k))

  declared-told : (ws : List WrittenItem) {cs ds : List DeclaredFormula} → cs ≡ declared_meant (index_in names) ws → ds ≡ declared_meant (index_in others) ws
      → AreDeclaredNamedBelow (length names) cs → AreDeclaredNamedBelow (length others) ds → SameList (SameDeclared Same) cs ds
  declared-told ws e d h k =
      rw (e, d) (declared_meant-same ws (subst (λ x. AreDeclaredNamedBelow (length names) x) e h) (subst (λ x. AreDeclaredNamedBelow (length others) x) d k))

  term-told : (w : WrittenTerm) (numbers : List ℕ → ℕ) {t u : Term} → t ≡ term_meant (index_in names) (numbered numbers) w → u ≡ term_meant (index_in others) (numbered numbers) w
      → HasNamesBelow (length names) t → HasNamesBelow (length others) u → SameTerm Same t u
  term-told w numbers e d h k =
      rw (e, d) (term_meant-same (numbered numbers) (λ x. same_variable (numbers x)) w (subst (λ x. HasNamesBelow (length names) x) e h) (subst (λ x. HasNamesBelow (length others) x) d k))

  formula-told : (w : WrittenFormula) {f g : Formula} → f ≡ formula_meant (index_in names) [] [] w → g ≡ formula_meant (index_in others) [] [] w
      → AllNamesBelow (length names) f → AllNamesBelow (length others) g → SameFormula Same f g
  formula-told w e d h k =
      rw (e, d) (formula_meant-same [] [] w (subst (λ x. AllNamesBelow (length names) x) e h) (subst (λ x. AllNamesBelow (length others) x) d k))

  names-told : (ws : List WrittenItem) {cs ds : List DeclaredFormula} → cs ≡ declared_meant (index_in names) ws → ds ≡ declared_meant (index_in others) ws
      → AreDeclaredNamedBelow (length names) cs → AreDeclaredNamedBelow (length others) ds → names_of names cs ≡ names_of others ds
  names-told ws e d h k =
      rw (e, d) (names_meant-same ws (subst (λ x. AreDeclaredNamedBelow (length names) x) e h) (subst (λ x. AreDeclaredNamedBelow (length others) x) d k))

  module _ (different : AreDifferent names) (apart : AreDifferent others) where
    own_names : Agrees (index_in names) names
    own_names = Agrees-index_in names different

    own_others : Agrees (index_in others) others
    own_others = Agrees-index_in others apart

    module _ (expected : Option Logic) (items : List Item) (d e : Definition) (r : DefinitionIsRead expected items names d) (s : DefinitionIsRead expected items others e) where
      definition_written : s.written ≡ r.written
      definition_written = definition-read_once expected items s.written r.written s.reads r.reads

      -- the clauses of a definition that is read twice
      pub definition-same : SameList (SameClause Same) d.clauses e.clauses
      definition-same =
          clauses-told r.written.items (ap (λ (x : Definition). x.clauses) (r.meant (index_in names) own_names))
          (ap (λ (x : Definition). x.clauses) (s.meant (index_in others) own_others) ∙ ap (λ (x : WrittenDefinition). clauses_meant (index_in others) x.items) definition_written)
          (definition-below names different r.written d r.meant).1 (definition-below others apart s.written e s.meant).1

      -- its declared formulas
      pub definition-declared : SameList (SameDeclared Same) d.declared e.declared
      definition-declared =
          declared-told r.written.items (ap (λ (x : Definition). x.declared) (r.meant (index_in names) own_names))
          (ap (λ (x : Definition). x.declared) (s.meant (index_in others) own_others) ∙ ap (λ (x : WrittenDefinition). declared_meant (index_in others) x.items) definition_written)
          (definition-below names different r.written d r.meant).0 (definition-below others apart s.written e s.meant).0

      -- their names
      pub definition-names : names_of names d.declared ≡ names_of others e.declared
      definition-names =
          names-told r.written.items (ap (λ (x : Definition). x.declared) (r.meant (index_in names) own_names))
          (ap (λ (x : Definition). x.declared) (s.meant (index_in others) own_others) ∙ ap (λ (x : WrittenDefinition). declared_meant (index_in others) x.items) definition_written)
          (definition-below names different r.written d r.meant).0 (definition-below others apart s.written e s.meant).0

      -- its logic
      pub definition-logic : d.logic ≡ e.logic
      definition-logic =
          ap (λ (x : Definition). x.logic) (r.meant (index_in names) own_names) ∙ ap (λ (x : WrittenDefinition). x.logic) (sym definition_written)
          ∙ sym (ap (λ (x : Definition). x.logic) (s.meant (index_in others) own_others))

    module _ (expected : Option Logic) (earlier : List (List ℕ)) (items : List Item) (c f : Certificate) (r : CertificateIsRead expected earlier items names c)
        (s : CertificateIsRead expected earlier items others f) where
      certificate_written : s.written ≡ r.written
      certificate_written = certificate-read_once expected earlier items s.written r.written s.reads r.reads

      -- what the certificate is, by the other table
      certificate_meant-once : f ≡ certificate_meant (index_in others) r.written
      certificate_meant-once = s.meant (index_in others) own_others ∙ ap (certificate_meant (index_in others)) certificate_written

      -- the clauses of a certificate that is read twice
      pub certificate-same : SameList (SameClause Same) c.clauses f.clauses
      certificate-same =
          clauses-told r.written.items (ap (λ (x : Certificate). x.clauses) (r.meant (index_in names) own_names)) (ap (λ (x : Certificate). x.clauses) certificate_meant-once)
          (certificate-below names different r.written c r.meant).1 (certificate-below others apart s.written f s.meant).1

      -- its declared formulas
      pub certificate-declared : SameList (SameDeclared Same) c.declared f.declared
      certificate-declared =
          declared-told r.written.items (ap (λ (x : Certificate). x.declared) (r.meant (index_in names) own_names)) (ap (λ (x : Certificate). x.declared) certificate_meant-once)
          (certificate-below names different r.written c r.meant).0 (certificate-below others apart s.written f s.meant).0

      -- its term
      pub certificate-term : SameTerm Same c.term f.term
      certificate-term =
          term-told r.written.term (index_in (term_variables r.written.term)) (ap (λ (x : Certificate). x.term) (r.meant (index_in names) own_names))
          (ap (λ (x : Certificate). x.term) certificate_meant-once)
          (certificate-below names different r.written c r.meant).2 (certificate-below others apart s.written f s.meant).2

      -- how many variables the term has
      pub certificate-variables : c.variables ≡ f.variables
      certificate-variables = ap (λ (x : Certificate). x.variables) (r.meant (index_in names) own_names) ∙ sym (ap (λ (x : Certificate). x.variables) certificate_meant-once)

    -- the goal of a problem that is read twice, and its logic
    module _ (items : List Item) (l m : Logic) (f g : Formula) (r : ProblemIsRead items names l f) (s : ProblemIsRead items others m g) where
      problem_written : s.written ≡ r.written
      problem_written = problem-read_once items s.written r.written s.reads r.reads

      pub goal-logic : l ≡ m
      goal-logic = r.in_logic ∙ ap (λ (x : WrittenProblem). x.logic) (sym problem_written) ∙ sym s.in_logic

      pub goal-same : SameFormula Same f g
      goal-same =
          formula-told r.written.formula (r.meant (index_in names) own_names)
          (s.meant (index_in others) own_others ∙ ap (λ (x : WrittenProblem). formula_meant (index_in others) [] [] x.formula) problem_written)
          (told-names names [] different f r.written.formula own_names r.meant) (told-names others [] apart g s.written.formula own_others s.meant)

-- the programs of a definition and a certificate, which are both read twice
module _ (names others : List (List ℕ)) (different : AreDifferent names) (apart : AreDifferent others) (expected wanted : Option Logic) (items more : List Item) (d e : Definition)
    (r : DefinitionIsRead expected items names d) (s : DefinitionIsRead expected items others e) (c f : Certificate)
    (u : CertificateIsRead wanted (names_of names d.declared) more names c) (v : CertificateIsRead wanted (names_of others e.declared) more others f) where
  abbrev earlier : List (List ℕ)
  earlier = names_of names d.declared

  certificate_later : CertificateIsRead wanted earlier more others f
  certificate_later = subst (λ ns. CertificateIsRead wanted ns more others f) (sym (definition-names names others different apart expected items d e r s)) v

  declared-joined : SameList (SameDeclared (AreOneName names others)) (d.declared ++ c.declared) (e.declared ++ f.declared)
  declared-joined =
      append-same (definition-declared names others different apart expected items d e r s) (certificate-declared names others different apart wanted earlier more c f u certificate_later)

  clauses-joined : SameList (SameClause (AreOneName names others)) (d.clauses ++ c.clauses) (e.clauses ++ f.clauses)
  clauses-joined = append-same (definition-same names others different apart expected items d e r s) (certificate-same names others different apart wanted earlier more c f u certificate_later)

  pub program-same : (p q : Program) → IsJoined d c p → IsJoined e f q → HaveWords names p.ids → HaveWords others q.ids → SameProgram (AreOneName names others) p q
  program-same p q j i known told = record {
    in_logic = j.logic ∙ definition-logic names others different apart expected items d e r s ∙ sym i.logic;
    declared = rw (j.declared, i.declared) declared-joined;
    clauses = rw (j.clauses, i.clauses) clauses-joined;
    terms = rw (j.term, i.term) (certificate-term names others different apart wanted earlier more c f u certificate_later);
    as_many = j.variables ∙ certificate-variables names others different apart wanted earlier more c f u certificate_later ∙ sym i.variables;
    words = words-same names others p.ids q.ids known told;
  }

-- items are read as one thing, where tokens are
reads-once : {W : Type 0} {IsWhole : List Lexeme → W → Type 0} {Limits : List Lexeme → Lexeme → Code → Type 0} → ((tokens : List Lexeme) (v w : W) → IsWhole tokens v → IsWhole tokens w → v ≡ w)
    → {before : List Lexeme} {items : List Item} {v w : W} → ReadsAll IsWhole Limits before items v → ReadsAll IsWhole Limits before items w → v ≡ w
reads-once once {before = before} {v = v} {w = w} (at_end h) (at_end k) = once before v w h k
reads-once once (later t h) (later u k) = reads-once once h k

mutual
  any_known : (w : WrittenTerm) → IsKnown any_variable w
  any_known (variable_word x) = refl
  any_known (application x ts) = all_known ts

  all_known : (ws : WrittenArgs) → AreKnown any_variable ws
  all_known no_words = tt
  all_known (words t ts) = (any_known t, all_known ts)

-- an atom as a term
abbrev as_term : WrittenAtom → WrittenTerm
as_term a = application a.text a.args

one_atom : (a b : WrittenAtom) → Some (as_term a) ≡ Some (as_term b) → a ≡ b
one_atom a b e =
    let x : a.text ≡ b.text = cc in
    let y : a.args ≡ b.args = cc in
    ap₂ (λ (t : List ℕ) (ts : WrittenArgs). record { text = t; args = ts }) x y

-- tokens are one atom
atom-once : (tokens : List Lexeme) (a b : WrittenAtom) → IsAtom tokens a → IsAtom tokens b → a ≡ b
atom-once tokens a b h k =
    one_atom a b
    (sym (is-whole any_variable tokens (as_term a) (record { spelled = h; known_all = any_known (as_term a) })) ∙ is-whole any_variable tokens (as_term b) (record { spelled = k; known_all = any_known (as_term b) }))

args-listed : (ts : Args) → args_of (terms_in ts) ≡ ts
args-listed no_args = refl
args-listed (arg t ts) = ap (λ us. arg t us) (args-listed ts)

listed-once : (ts us : Args) → terms_in ts ≡ terms_in us → ts ≡ us
listed-once ts us e = sym (args-listed ts) ∙ ap args_of e ∙ args-listed us

listed-below : (n : ℕ) (ts : Args) → HaveNamesBelow n ts → AreTermsNamedBelow n (terms_in ts)
listed-below n no_args h = tt
listed-below n (arg t ts) (h, hs) = (h, listed-below n ts hs)

-- an atom that is read has its names in the table
pub atom-named : (names : List (List ℕ)) (items : List Item) (a : Atom) (m : ℕ) → AreDifferent names → AtomIsRead items names (a, m) → IsAtomNamedBelow (length names) a
atom-named names items a m different r =
    let numbers : List ℕ → ℕ = index_in (atom_variables r.written) in
    let own = r.meant (index_in names) (Agrees-index_in names different) in
    let told : (number : List ℕ → ℕ) → Agrees number names → atom_meant number numbers r.written ≡ atom_meant (index_in names) numbers r.written =
    (λ number agrees. sym (r.meant number agrees) ∙ own) in
    let below = args-below names different (numbered numbers) (λ x. tt) r.written.args
    (λ number agrees. listed-once (args_meant number (numbered numbers) r.written.args) (args_meant (index_in names) (numbered numbers) r.written.args)
    (ap (λ (x : Atom). x.arguments) (told number agrees))) in
    rw own (
      number-below names r.written.text different (λ number agrees. ap (λ (x : Atom). x.name) (told number agrees)),
      listed-below (length names) (args_meant (index_in names) (numbered numbers) r.written.args) below,
    )

module _ (names others : List (List ℕ)) (different : AreDifferent names) (apart : AreDifferent others) (items : List Item) (a b : Atom) (m n : ℕ)
    (r : AtomIsRead items names (a, m)) (s : AtomIsRead items others (b, n)) where
  atom_written : s.written ≡ r.written
  atom_written = reads-once atom-once s.reads r.reads

  -- an atom that is read twice has as many variables
  pub atom-as_many : m ≡ n
  atom-as_many = r.counted ∙ sym (s.counted ∙ ap (λ w. length (atom_variables w)) atom_written)

  -- and is the same by its names
  pub atom-same : SameAtom (AreOneName names others) a b
  atom-same =
      let numbers : List ℕ → ℕ = index_in (atom_variables r.written) in
      let e : a ≡ atom_meant (index_in names) numbers r.written = r.meant (index_in names) (Agrees-index_in names different) in
      let d : b ≡ atom_meant (index_in others) numbers r.written =
      s.meant (index_in others) (Agrees-index_in others apart) ∙ ap (λ w. atom_meant (index_in others) (index_in (atom_variables w)) w) atom_written in
      let h = atom-named names items a m different r in
      let k = atom-named others items b n apart s in
      rw (e, d) (atom_meant-same names others numbers r.written (subst (λ x. IsAtomNamedBelow (length names) x) e h) (subst (λ x. IsAtomNamedBelow (length others) x) d k))
