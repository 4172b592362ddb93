-- How a definition or certificate file is read token by token.
use Rattle.std.proofs.Common.{◌≡◌, ℕ, List, [], ◌++◌, append-nil, refl, ap, sym, subst, ◌∙◌, Option, Some, None, Result}
use Rattle.fpc_base.specs.declared.refusal.TokenRefusal.{TokenRefusal}
use Rattle.fpc_base.specs.Lexeme.{Lexeme}
use Rattle.fpc_terms.specs.Name.{Grows}
use Rattle.fpc_terms.specs.Written.{WrittenTerm}
use Rattle.fpc_terms.specs.Machine as term
use Rattle.fpc_terms.specs.declared.reader.TermReader.{TermReader}
use Rattle.polarised_formulas.specs.declared.logic.Logic.{Logic}
use Rattle.clause_language.specs.declared.clause.Clause.{Clause}
use Rattle.clause_language.specs.declared.declaration.DeclaredFormula.{DeclaredFormula}
use Rattle.clause_language.specs.declared.file.FileKind.{FileKind}
use Rattle.clause_language.specs.declared.file.FileReader.{FileReader}
use Rattle.clause_language.specs.declared.file.Phase.{Phase}
use Rattle.clause_language.specs.declared.file.Phase.TheVariants as phase
use Rattle.clause_language.specs.Written.{WrittenItem}
use Rattle.clause_language.specs.ClauseMachine as clause
use Rattle.clause_language.specs.DeclarationMachine as declaring
use Rattle.clause_language.specs.FileMachine.{FileState, start, at_item, in_declaration, in_clause, in_term, finished, lost, limited}
use Rattle.clause_language.specs.HoldingFile.{AreTaken, HoldsItems, HoldsTerm, HoldsFile, TakesFile}

-- what comes next in a state
abbrev phase_of : FileState → Option Phase
phase_of start = Some phase.Start
phase_of (at_item logic items) = Some phase.AtItem
phase_of (in_declaration logic items d) = Some phase.InDeclaration
phase_of (in_clause logic items s) = Some phase.InClause
phase_of (in_term logic items t) = Some phase.InTerm
phase_of (finished logic items w) = Some phase.Finished
phase_of lost = None

module _ (names : List (List ℕ)) (kind : FileKind) (expected : Option Logic) (earlier : List (List ℕ)) (r : FileReader) where
  -- the reader's phase tells which state it is
  phase-told : (s : FileState) → HoldsFile names kind expected earlier s r → phase_of s ≡ Some r.phase
  phase-told start h = ap Some (sym h.0.2)
  phase-told (at_item logic items) h = ap Some (sym h.0.2)
  phase-told (in_declaration logic items d) h = ap Some (sym h.0.2)
  phase-told (in_clause logic items s) h = ap Some (sym h.0.2)
  phase-told (in_term logic items t) h = ap Some (sym h.0.2)
  phase-told (finished logic items w) h = ap Some (sym h.0.2)
  phase-told lost h = absurd h

  at-start : (s : FileState) → HoldsFile names kind expected earlier s r → r.phase ≡ phase.Start → s ≡ start
  at-start s h m = from s (phase-told s h ∙ ap Some m) where
    from : (t : FileState) → phase_of t ≡ Some phase.Start → t ≡ start
    from start e = refl
    from _ e = cc

  pub at-item : (s : FileState) → HoldsFile names kind expected earlier s r → r.phase ≡ phase.AtItem → (logic : Logic) × ((items : List WrittenItem) × (s ≡ at_item logic items))
  at-item s h m = from s (phase-told s h ∙ ap Some m) where
    from : (t : FileState) → phase_of t ≡ Some phase.AtItem → (logic : Logic) × ((items : List WrittenItem) × (t ≡ at_item logic items))
    from (at_item logic items) e = (logic, (items, refl))
    from _ e = cc

  in-declaration : (s : FileState) → HoldsFile names kind expected earlier s r → r.phase ≡ phase.InDeclaration
      → (logic : Logic) × ((items : List WrittenItem) × ((d : declaring.DeclarationState) × (s ≡ in_declaration logic items d)))
  in-declaration s h m = from s (phase-told s h ∙ ap Some m) where
    from : (t : FileState) → phase_of t ≡ Some phase.InDeclaration → (logic : Logic) × ((items : List WrittenItem) × ((d : declaring.DeclarationState) × (t ≡ in_declaration logic items d)))
    from (in_declaration logic items d) e = (logic, (items, (d, refl)))
    from _ e = cc

  in-clause : (s : FileState) → HoldsFile names kind expected earlier s r → r.phase ≡ phase.InClause
      → (logic : Logic) × ((items : List WrittenItem) × ((q : clause.ClauseState) × (s ≡ in_clause logic items q)))
  in-clause s h m = from s (phase-told s h ∙ ap Some m) where
    from : (t : FileState) → phase_of t ≡ Some phase.InClause → (logic : Logic) × ((items : List WrittenItem) × ((q : clause.ClauseState) × (t ≡ in_clause logic items q)))
    from (in_clause logic items q) e = (logic, (items, (q, refl)))
    from _ e = cc

  in-term : (s : FileState) → HoldsFile names kind expected earlier s r → r.phase ≡ phase.InTerm
      → (logic : Logic) × ((items : List WrittenItem) × ((t : term.TermState) × (s ≡ in_term logic items t)))
  in-term s h m = from s (phase-told s h ∙ ap Some m) where
    from : (u : FileState) → phase_of u ≡ Some phase.InTerm → (logic : Logic) × ((items : List WrittenItem) × ((t : term.TermState) × (u ≡ in_term logic items t)))
    from (in_term logic items t) e = (logic, (items, (t, refl)))
    from _ e = cc

  pub at-finished : (s : FileState) → HoldsFile names kind expected earlier s r → r.phase ≡ phase.Finished
      → (logic : Logic) × ((items : List WrittenItem) × ((w : WrittenTerm) × (s ≡ finished logic items w)))
  at-finished s h m = from s (phase-told s h ∙ ap Some m) where
    from : (u : FileState) → phase_of u ≡ Some phase.Finished → (logic : Logic) × ((items : List WrittenItem) × ((w : WrittenTerm) × (u ≡ finished logic items w)))
    from (finished logic items w) e = (logic, (items, (w, refl)))
    from _ e = cc

-- what is held stays so as the table of names grows
pub items-grown : (names more earlier : List (List ℕ)) (items : List WrittenItem) (xs table : List (List ℕ)) (ds : List DeclaredFormula) (cs : List Clause) → Grows names more
    → HoldsItems names earlier items xs table ds cs → HoldsItems more earlier items xs table ds cs
items-grown names more earlier items xs table ds cs g h = record {
  taken = h.taken;
  declared = λ number a. h.declared number (λ at text o. a at text (g at text o));
  clauses = λ number a. h.clauses number (λ at text o. a at text (g at text o));
}

pub term-grown : (names more : List (List ℕ)) (t : term.TermState) (terms : TermReader) (vs : List (List ℕ)) → Grows names more → HoldsTerm names t terms vs → HoldsTerm more t terms vs
term-grown names more t terms vs g h = record {
  tokens = h.tokens;
  reached = h.reached;
  variables = h.variables;
  holds = λ number numbers a b. h.holds number numbers (λ at text o. a at text (g at text o)) b;
}

-- nothing is read yet
pub new-taken : (earlier table : List (List ℕ)) → AreTaken earlier table → AreTaken ((earlier ++ []) ++ []) table
new-taken earlier table h = subst (λ xs. AreTaken xs table) (sym (append-nil (earlier ++ []) ∙ append-nil earlier)) h

module _ (names more : List (List ℕ)) (kind : FileKind) (expected : Option Logic) (earlier : List (List ℕ)) where
  abbrev pub Held : FileState → FileReader → Type 0
  Held s r = HoldsFile names kind expected earlier s r

  abbrev pub Took : Result (Unit {0}) TokenRefusal → FileState → Lexeme → FileReader → Type 0
  Took result s c r = TakesFile result more kind expected earlier (limited kind expected earlier s c) r

  -- a state by its phase, in place of the state
  pub by-start : (result : Result (Unit {0}) TokenRefusal) (s : FileState) (c : Lexeme) (old new : FileReader) → Held s old → old.phase ≡ phase.Start
      → (Held start old → Took result start c new) → Took result s c new
  by-start result s c old new h m f =
      let e = at-start names kind expected earlier old s h m in
      subst (λ t. Took result t c new) (sym e) (f (subst (λ t. Held t old) e h))

  pub by-item : (result : Result (Unit {0}) TokenRefusal) (s : FileState) (c : Lexeme) (old new : FileReader) → Held s old → old.phase ≡ phase.AtItem
      → ((logic : Logic) (items : List WrittenItem) → Held (at_item logic items) old → Took result (at_item logic items) c new) → Took result s c new
  by-item result s c old new h m f =
      let e = at-item names kind expected earlier old s h m in
      subst (λ t. Took result t c new) (sym e.1.1) (f e.0 e.1.0 (subst (λ t. Held t old) e.1.1 h))

  pub by-declaration : (result : Result (Unit {0}) TokenRefusal) (s : FileState) (c : Lexeme) (old new : FileReader) → Held s old → old.phase ≡ phase.InDeclaration
      → ((logic : Logic) (items : List WrittenItem) (d : declaring.DeclarationState) → Held (in_declaration logic items d) old → Took result (in_declaration logic items d) c new) → Took result s c new
  by-declaration result s c old new h m f =
      let e = in-declaration names kind expected earlier old s h m in
      subst (λ t. Took result t c new) (sym e.1.1.1) (f e.0 e.1.0 e.1.1.0 (subst (λ t. Held t old) e.1.1.1 h))

  pub by-clause : (result : Result (Unit {0}) TokenRefusal) (s : FileState) (c : Lexeme) (old new : FileReader) → Held s old → old.phase ≡ phase.InClause
      → ((logic : Logic) (items : List WrittenItem) (q : clause.ClauseState) → Held (in_clause logic items q) old → Took result (in_clause logic items q) c new) → Took result s c new
  by-clause result s c old new h m f =
      let e = in-clause names kind expected earlier old s h m in
      subst (λ t. Took result t c new) (sym e.1.1.1) (f e.0 e.1.0 e.1.1.0 (subst (λ t. Held t old) e.1.1.1 h))

  pub by-term : (result : Result (Unit {0}) TokenRefusal) (s : FileState) (c : Lexeme) (old new : FileReader) → Held s old → old.phase ≡ phase.InTerm
      → ((logic : Logic) (items : List WrittenItem) (t : term.TermState) → Held (in_term logic items t) old → Took result (in_term logic items t) c new) → Took result s c new
  by-term result s c old new h m f =
      let e = in-term names kind expected earlier old s h m in
      subst (λ t. Took result t c new) (sym e.1.1.1) (f e.0 e.1.0 e.1.1.0 (subst (λ t. Held t old) e.1.1.1 h))
