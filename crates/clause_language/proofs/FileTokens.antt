-- What the reader of files does with a token, in each phase.
use Rattle.std.proofs.Common.{◌≡◌, ℕ, Bool, true, false, List, [], ◌∷◌, ◌++◌, refl, ap, ap₂, sym, subst, ◌∙◌, Option, Some, None, is_some, Result, Ok, Err, OnOk, IfErr, length}
use Rattle.fpc_base.specs.declared.refusal.Code.{Code}
use Rattle.fpc_base.specs.declared.refusal.Code.TheVariants.{Unexpected}
use Rattle.fpc_base.specs.declared.refusal.TokenRefusal.{TokenRefusal}
use Rattle.fpc_base.specs.declared.refusal.TokenRefusal.TheVariants.{Refused, OutOfMemory}
use Rattle.fpc_base.specs.declared.tokens.lexeme.Sign.TheVariants as sign
use Rattle.fpc_base.specs.Lexeme.{Lexeme, a_name, a_sign}
use Rattle.fpc_terms.specs.Name.{Agrees, AreDifferent, Grows, index_in}
use Rattle.fpc_terms.specs.Term.{Term}
use Rattle.fpc_terms.specs.Written.{WrittenTerm, term_meant, variables_in}
use Rattle.fpc_terms.specs.Spot.{alone}
use Rattle.fpc_terms.specs.Machine as term
use Rattle.fpc_terms.specs.Holding.{Holds}
use Rattle.fpc_terms.specs.ReadTerm.{any_variable, numbered, HoldsFor, TakesFor}
use Rattle.fpc_terms.specs.declared.reader.TermReader.{TermReader}
use Rattle.fpc_terms.proofs.ReadFacts.{Agrees-index_in}
use Rattle.polarised_formulas.proofs.ReadFacts.{some-of, is-none}
use Rattle.fpc_terms.proofs.TermLaws.{run-append}
use Rattle.polarised_formulas.specs.declared.logic.Logic.{Logic}
use Rattle.clause_language.specs.declared.certificate.Certificate.{Certificate as CertificateFile}
use Rattle.clause_language.specs.declared.clause_reader.ClauseReader.{ClauseReader}
use Rattle.clause_language.specs.declared.declaration_reader.DeclarationReader.{DeclarationReader}
use Rattle.clause_language.specs.declared.declaration_reader.Mode.TheVariants as declaring_mode
use Rattle.clause_language.specs.declared.definition.Definition.{Definition as DefinitionFile}
use Rattle.clause_language.specs.declared.file.FileKind.{FileKind}
use Rattle.clause_language.specs.declared.file.FileKind.TheVariants.{Definition, Certificate}
use Rattle.clause_language.specs.declared.file.FileReader.{FileReader}
use Rattle.clause_language.specs.declared.file.Phase.TheVariants as phase
use Rattle.clause_language.specs.Written.{WrittenItem}
use Rattle.clause_language.specs.Meant.{term_variables, declared_meant, clauses_meant}
use Rattle.clause_language.specs.ClauseMachine as clause
use Rattle.clause_language.specs.DeclarationMachine as declaring
use Rattle.clause_language.specs.FileMachine.{FileState, at_item, in_declaration, in_clause, in_term, finished, declared, claused, dotted, within, read_within, limited, definition_of, certificate_of}
use Rattle.clause_language.specs.HoldingClause.{HoldsClause, TakesClause}
use Rattle.clause_language.specs.HoldingDeclaration.{HoldsDeclaration, TakesDeclaration}
use Rattle.clause_language.specs.HoldingFile.{HoldsFile, TakesFile, DefinitionOf, CertificateOf}
use Rattle.clause_language.proofs.DeclarationReading.{mode_of, mode-told}
use Rattle.clause_language.proofs.ClauseReading.{Judged, nowhere, arguments, variables, taken, judged}
use Rattle.fpc_terms.proofs.TermReading.{whole-is, variables_in-append}
use Rattle.clause_language.proofs.FileHolding.{by-item, by-declaration, by-clause, by-term, at-item, at-finished, items-grown}
use Rattle.clause_language.proofs.FileTaking.{takes-formula, takes-certificate, refuses-certificate, takes-clause, declaration-refused, takes-declaration, clause-refused, takes-in_clause}

module _ (names : List (List ℕ)) (kind : FileKind) (expected : Option Logic) (earlier : List (List ℕ)) (s : FileState) (old : FileReader) (h : HoldsFile names kind expected earlier s old) where
  -- at an item
  module _ (m : old.phase ≡ phase.AtItem) where
    pub item-formula : (next : DeclarationReader) → ((ns : List (List ℕ)) → HoldsDeclaration ns old.logic declaring.at_name next)
        → TakesFile (Ok tt) names kind expected earlier (limited kind expected earlier s (a_sign sign.Formula)) (record old { phase = phase.InDeclaration; declaration = next })
    item-formula next f =
        by-item names names kind expected earlier (Ok tt) s (a_sign sign.Formula) old (record old { phase = phase.InDeclaration; declaration = next }) h m
        (λ logic items k. takes-formula names kind expected earlier old logic items k next f)

    pub item-certificate : old.kind ≡ Certificate
        → TakesFile (Ok tt) names kind expected earlier (limited kind expected earlier s (a_sign sign.Certificate)) (record old { phase = phase.InTerm })
    item-certificate e =
        by-item names names kind expected earlier (Ok tt) s (a_sign sign.Certificate) old (record old { phase = phase.InTerm }) h m
        (λ logic items k. takes-certificate names kind expected earlier old logic items k e)

    pub item-no_certificate : old.kind ≡ Definition → limited kind expected earlier s (a_sign sign.Certificate) ≡ Err Unexpected
    item-no_certificate e =
        by-item names names kind expected earlier (Err (Refused Unexpected)) s (a_sign sign.Certificate) old old h m
        (λ logic items k. refuses-certificate names kind expected earlier old logic items k e)

    pub item-clause : (result : Result (Unit {0}) TokenRefusal) (more : List (List ℕ)) (x : List ℕ) (next : ClauseReader) → Grows names more
        → TakesClause result more (clause.limited clause.clause_start (a_name x)) next
        → TakesFile result more kind expected earlier (limited kind expected earlier s (a_name x)) (record old { phase = phase.InClause; clause = next })
    item-clause result more x next g t =
        by-item names more kind expected earlier result s (a_name x) old (record old { phase = phase.InClause; clause = next }) h m
        (λ logic items k. takes-clause names kind expected earlier old logic items k result more x next g t)

  -- in a declared formula
  module _ (m : old.phase ≡ phase.InDeclaration) (c : Lexeme) (more : List (List ℕ)) where
    pub at_name-item : (result : Result (Unit {0}) TokenRefusal) (new : FileReader) → old.declaration.mode ≡ declaring_mode.AtName
        → ((logic : Logic) (items : List WrittenItem) → HoldsFile names kind expected earlier (in_declaration logic items declaring.at_name) old
        → TakesFile result more kind expected earlier (limited kind expected earlier (in_declaration logic items declaring.at_name) c) new)
        → TakesFile result more kind expected earlier (limited kind expected earlier s c) new
    at_name-item result new e f =
        by-declaration names more kind expected earlier result s c old new h m
        (λ logic items d k. (
        let q : d ≡ declaring.at_name = is-at_name d (mode-told names logic d old.declaration k.3 ∙ ap Some e) in
        subst (λ t. TakesFile result more kind expected earlier (limited kind expected earlier (in_declaration logic items t) c) new) (sym q)
        (f logic items (subst (λ t. HoldsFile names kind expected earlier (in_declaration logic items t) old) q k))
        )) where
          is-at_name : (d : declaring.DeclarationState) → mode_of d ≡ Some declaring_mode.AtName → d ≡ declaring.at_name
          is-at_name declaring.at_name q = refl
          is-at_name _ q = cc

    behind-name : (logic : Logic) (d : declaring.DeclarationState) → HoldsDeclaration names logic d old.declaration → (old.declaration.mode ≡ declaring_mode.AtName → ⊥) → d ≡ declaring.at_name → ⊥
    behind-name logic d k n e = let q : Some declaring_mode.AtName ≡ Some old.declaration.mode = ap mode_of (sym e) ∙ mode-told names logic d old.declaration k in n (let r : old.declaration.mode ≡ declaring_mode.AtName = cc in r)

    pub in_declaration-item : (result : Result (Unit {0}) TokenRefusal) (next : DeclarationReader) (new : FileReader) → (old.declaration.mode ≡ declaring_mode.AtName → ⊥) → Grows names more
        → ((logic : Logic) (d : declaring.DeclarationState) → HoldsDeclaration names logic d old.declaration → TakesDeclaration (Ok tt) more logic (declaring.limited logic [] d c) next)
        → ((logic : Logic) (items : List WrittenItem) (t : declaring.DeclarationState) → HoldsFile more kind expected earlier (in_declaration logic items t) (record old { declaration = next })
        → OnOk result (HoldsFile more kind expected earlier (declared logic items t) new)) → IfErr result (λ r. r ≡ OutOfMemory)
        → TakesFile result more kind expected earlier (limited kind expected earlier s c) new
    in_declaration-item result next new n g t f i =
        by-declaration names more kind expected earlier result s c old new h m
        (λ logic items d k. takes-declaration names more kind expected earlier old logic items c d next g k (behind-name logic d k.3 n) result new (t logic d k.3) (f logic items) i)

    pub declaration_refused-item : (refusal : TokenRefusal) (next : DeclarationReader) (new : FileReader) → (old.declaration.mode ≡ declaring_mode.AtName → ⊥) → Grows names more
        → ((logic : Logic) (d : declaring.DeclarationState) → HoldsDeclaration names logic d old.declaration → TakesDeclaration (Err refusal) more logic (declaring.limited logic [] d c) next)
        → TakesFile (Err refusal) more kind expected earlier (limited kind expected earlier s c) new
    declaration_refused-item (Refused code) next new n g t =
        by-declaration names more kind expected earlier (Err (Refused code)) s c old new h m
        (λ logic items d k. declaration-refused names more kind expected earlier old logic items c d next g k (behind-name logic d k.3 n) code (t logic d k.3))
    declaration_refused-item OutOfMemory next new n g t = tt

  -- in a clause
  module _ (m : old.phase ≡ phase.InClause) (c : Lexeme) (more : List (List ℕ)) where
    pub in_clause-item : (result : Result (Unit {0}) TokenRefusal) (next : ClauseReader) (new : FileReader) → Grows names more
        → ((q : clause.ClauseState) → HoldsClause names q old.clause → TakesClause (Ok tt) more (clause.limited q c) next)
        → ((logic : Logic) (items : List WrittenItem) (t : clause.ClauseState) → HoldsFile more kind expected earlier (in_clause logic items t) (record old { clause = next })
        → OnOk result (HoldsFile more kind expected earlier (claused logic items t) new)) → IfErr result (λ r. r ≡ OutOfMemory)
        → TakesFile result more kind expected earlier (limited kind expected earlier s c) new
    in_clause-item result next new g t f i =
        by-clause names more kind expected earlier result s c old new h m
        (λ logic items q k. takes-in_clause names more kind expected earlier old logic items c q next g k result new (t q k.3) (f logic items) i)

    pub clause_refused-item : (refusal : TokenRefusal) (next : ClauseReader) (new : FileReader) → Grows names more
        → ((q : clause.ClauseState) → HoldsClause names q old.clause → TakesClause (Err refusal) more (clause.limited q c) next)
        → TakesFile (Err refusal) more kind expected earlier (limited kind expected earlier s c) new
    clause_refused-item (Refused code) next new g t =
        by-clause names more kind expected earlier (Err (Refused code)) s c old new h m
        (λ logic items q k. clause-refused names more kind expected earlier old logic items c q next g k code (t q k.3))
    clause_refused-item OutOfMemory next new g t = tt

-- a token of the term
one-token : (t u : term.TermState) (vs : List (List ℕ)) (c : Lexeme) → term.limited any_variable None vs t c ≡ Ok u → term.step any_variable t c ≡ u
one-token t u vs c e = from (term.limited any_variable None vs t c) (judged (term.is_full (term.step any_variable t c)) (term.is_too_many None vs c) (term.step any_variable t c)) e where
  from : (r : Result term.TermState Code) → Judged (term.step any_variable t c) r → r ≡ Ok u → term.step any_variable t c ≡ u
  from _ (nowhere n) q = cc
  from _ arguments q = cc
  from _ variables q = cc
  from _ (taken live) q = cc

limited-in_term : (kind : FileKind) (expected : Option Logic) (earlier : List (List ℕ)) (logic : Logic) (items : List WrittenItem) (t : term.TermState) (vs : List (List ℕ)) (c : Lexeme) → (c ≡ a_sign sign.Dot → ⊥)
    → limited kind expected earlier (in_term logic items t) c ≡ read_within logic items (term.limited any_variable None vs t c)
limited-in_term kind expected earlier logic items t vs (a_sign sign.Dot) n = absurd (n refl)
limited-in_term kind expected earlier logic items t vs c n = refl

module _ (names : List (List ℕ)) (kind : FileKind) (expected : Option Logic) (earlier : List (List ℕ)) (old : FileReader) (logic : Logic) (items : List WrittenItem) (t : term.TermState)
    (h : HoldsFile names kind expected earlier (in_term logic items t) old) where
  pub term-token : (result : Result (Unit {0}) TokenRefusal) (more vs : List (List ℕ)) (next : TermReader) (c : Lexeme) → (c ≡ a_sign sign.Dot → ⊥) → Grows names more
      → OnOk result (vs ≡ variables_in (c ∷ []) old.variables) → TakesFor result more vs (term.limited any_variable None old.variables t c) next
      → TakesFile result more kind expected earlier (limited kind expected earlier (in_term logic items t) c) (record old { terms = next; variables = vs })
  term-token (Ok u) more vs next c n g d f = (
    in_term logic items f.0,
    (
      limited-in_term kind expected earlier logic items t old.variables c n ∙ ap (read_within logic items) f.1.0,
      (
        (h.0.0, h.0.1, h.0.2, items-grown names more earlier items [] old.taken old.declared old.clauses g h.0.3),
        h.1,
        record {
          tokens = h.2.tokens ++ c ∷ [];
          reached = run-append any_variable h.2.tokens (c ∷ []) (term.wants alone)
              ∙ ap (λ q. term.step any_variable q c) h.2.reached
              ∙ one-token t f.0 old.variables c f.1.0;
          variables = d ∙ ap (variables_in (c ∷ [])) h.2.variables ∙ sym (variables_in-append h.2.tokens (c ∷ []) []);
          holds = f.1.1;
        },
      ),
    ),
  )
  term-token (Err (Refused code)) more vs next c n g d f =
      limited-in_term kind expected earlier logic items t old.variables c n ∙ ap (read_within logic items) f
  term-token (Err OutOfMemory) more vs next c n g d f = tt

  -- the dot behind the term
  pub told-whole : (b : Bool) → AreDifferent names → AreDifferent old.variables
      → ((number : List ℕ → ℕ) (leaf : List ℕ → Term) (u : term.TermState) → Holds number leaf u old.terms → b ≡ is_some (term.whole_of u)) → b ≡ is_some (term.whole_of t)
  told-whole b d dv f =
      f (index_in names) (numbered (index_in old.variables)) t (h.2.holds (index_in names) (index_in old.variables) (Agrees-index_in names d) (Agrees-index_in old.variables dv))

  pub term-no_dot : is_some (term.whole_of t) ≡ false → limited kind expected earlier (in_term logic items t) (a_sign sign.Dot) ≡ Err Unexpected
  term-no_dot e = ap (λ o. within (dotted logic items o)) (is-none (term.whole_of t) e)

  pub term-dot : is_some (term.whole_of t) ≡ true
      → TakesFile (Ok tt) names kind expected earlier (limited kind expected earlier (in_term logic items t) (a_sign sign.Dot)) (record old { phase = phase.Finished })
  term-dot e =
      let w = some-of (term.whole_of t) e in
      let spelled = (whole-is any_variable h.2.tokens w.0 (ap term.whole_of h.2.reached ∙ w.1)).spelled in (
        finished logic items w.0,
        (
          ap (λ o. within (dotted logic items o)) w.1,
          (
            (h.0.0, h.0.1, refl, h.0.3),
            h.1,
            record { state = t; whole = w.1; variables = h.2.variables ∙ ap (λ ts. variables_in ts []) spelled; holds = h.2.holds },
          ),
        ),
      )

module _ (names : List (List ℕ)) (kind : FileKind) (expected : Option Logic) (earlier : List (List ℕ)) (s : FileState) (old : FileReader) (h : HoldsFile names kind expected earlier s old) (m : old.phase ≡ phase.InTerm) where
  pub in_term-item : (result : Result (Unit {0}) TokenRefusal) (more vs : List (List ℕ)) (next : TermReader) (c : Lexeme) → (c ≡ a_sign sign.Dot → ⊥) → Grows names more
      → OnOk result (vs ≡ variables_in (c ∷ []) old.variables)
      → ((t : term.TermState) → HoldsFor names old.variables t old.terms → TakesFor result more vs (term.limited any_variable None old.variables t c) next)
      → TakesFile result more kind expected earlier (limited kind expected earlier s c) (record old { terms = next; variables = vs })
  in_term-item result more vs next c n g d f =
      by-term names more kind expected earlier result s c old (record old { terms = next; variables = vs }) h m
      (λ logic items t k. term-token names kind expected earlier old logic items t k result more vs next c n g d (f t k.2.holds))

  pub no_dot-item : (b : Bool) → AreDifferent names → AreDifferent old.variables
      → ((number : List ℕ → ℕ) (leaf : List ℕ → Term) (u : term.TermState) → Holds number leaf u old.terms → b ≡ is_some (term.whole_of u)) → b ≡ false
      → limited kind expected earlier s (a_sign sign.Dot) ≡ Err Unexpected
  no_dot-item b d dv f e =
      by-term names names kind expected earlier (Err (Refused Unexpected)) s (a_sign sign.Dot) old old h m
      (λ logic items t k. term-no_dot names kind expected earlier old logic items t k (sym (told-whole names kind expected earlier old logic items t k b d dv f) ∙ e))

  pub dot-item : (b : Bool) → AreDifferent names → AreDifferent old.variables
      → ((number : List ℕ → ℕ) (leaf : List ℕ → Term) (u : term.TermState) → Holds number leaf u old.terms → b ≡ is_some (term.whole_of u)) → b ≡ true
      → TakesFile (Ok tt) names kind expected earlier (limited kind expected earlier s (a_sign sign.Dot)) (record old { phase = phase.Finished })
  dot-item b d dv f e =
      by-term names names kind expected earlier (Ok tt) s (a_sign sign.Dot) old (record old { phase = phase.Finished }) h m
      (λ logic items t k. term-dot names kind expected earlier old logic items t k (sym (told-whole names kind expected earlier old logic items t k b d dv f) ∙ e))

-- at the end of the file
module _ (names : List (List ℕ)) (kind : FileKind) (expected : Option Logic) (earlier : List (List ℕ)) (s : FileState) (r : FileReader) (h : HoldsFile names kind expected earlier s r) where
  pub definition-ends : r.phase ≡ phase.AtItem → DefinitionOf names s (record { logic = r.logic; declared = r.declared; clauses = r.clauses })
  definition-ends m =
      let e = at-item names kind expected earlier r s h m in
      subst (λ t. DefinitionOf names t (record { logic = r.logic; declared = r.declared; clauses = r.clauses })) (sym e.1.1)
      (from e.0 e.1.0 (subst (λ t. HoldsFile names kind expected earlier t r) e.1.1 h)) where
        from : (logic : Logic) (items : List WrittenItem) → HoldsFile names kind expected earlier (at_item logic items) r
            → DefinitionOf names (at_item logic items) (record { logic = r.logic; declared = r.declared; clauses = r.clauses })
        from logic items k = record {
          written = record { logic = logic; items = items };
          whole = refl;
          meant = λ number a. (
              ap (λ l. (let d : DefinitionFile = record { logic = l; declared = r.declared; clauses = r.clauses } in d)) k.1
              ∙ ap₂ (λ ds cs. (let d : DefinitionFile = record { logic = logic; declared = ds; clauses = cs } in d)) (k.0.3.declared number a) (k.0.3.clauses number a)
              );
        }

  pub definition-unfinished : (r.phase ≡ phase.AtItem → ⊥) → definition_of s ≡ None
  definition-unfinished n = from s h where
    from : (t : FileState) → HoldsFile names kind expected earlier t r → definition_of t ≡ None
    from (at_item logic items) k = absurd (n k.0.2)
    from _ k = refl

  pub certificate-unfinished : (r.phase ≡ phase.Finished → ⊥) → certificate_of s ≡ None
  certificate-unfinished n = from s h where
    from : (t : FileState) → HoldsFile names kind expected earlier t r → certificate_of t ≡ None
    from (finished logic items w) k = absurd (n k.0.2)
    from _ k = refl

  pub certificate-ends : (u : Term) → r.phase ≡ phase.Finished → AreDifferent r.variables
      → ((number : List ℕ → ℕ) (leaf : List ℕ → Term) (t : term.TermState) (w : WrittenTerm) → Holds number leaf t r.terms → term.whole_of t ≡ Some w → Some u ≡ Some (term_meant number leaf w))
      → CertificateOf names s (record { logic = r.logic; declared = r.declared; clauses = r.clauses; term = u; variables = length r.variables })
  certificate-ends u m dv f =
      let e = at-finished names kind expected earlier r s h m in
      subst (λ t. CertificateOf names t (record { logic = r.logic; declared = r.declared; clauses = r.clauses; term = u; variables = length r.variables })) (sym e.1.1.1)
      (from e.0 e.1.0 e.1.1.0 (subst (λ t. HoldsFile names kind expected earlier t r) e.1.1.1 h)) where
        from : (logic : Logic) (items : List WrittenItem) (w : WrittenTerm) → HoldsFile names kind expected earlier (finished logic items w) r
            → CertificateOf names (finished logic items w) (record { logic = r.logic; declared = r.declared; clauses = r.clauses; term = u; variables = length r.variables })
        from logic items w k = record {
          written = record { logic = logic; items = items; term = w };
          whole = refl;
          meant = λ number a. (
              let numbers = index_in (term_variables w) in
              let b : Agrees numbers r.variables = subst (λ vs. Agrees (index_in vs) r.variables) k.2.variables (Agrees-index_in r.variables dv) in
              let g : Some u ≡ Some (term_meant number (numbered numbers) w) = f number (numbered numbers) k.2.state w (k.2.holds number numbers a b) k.2.whole in
              let i : u ≡ term_meant number (numbered numbers) w = cc in
              ap (λ l. (let d : CertificateFile = record { logic = l; declared = r.declared; clauses = r.clauses; term = u; variables = length r.variables } in d)) k.1
              ∙ ap₂ (λ ds cs. (let d : CertificateFile = record { logic = logic; declared = ds; clauses = cs; term = u; variables = length r.variables } in d)) (k.0.3.declared number a) (k.0.3.clauses number a)
              ∙ ap₂ (λ v vs. (let d : CertificateFile = record { logic = logic; declared = declared_meant number items; clauses = clauses_meant number items; term = v; variables = length vs } in d)) i k.2.variables
              );
        }
