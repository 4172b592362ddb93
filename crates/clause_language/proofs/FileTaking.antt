-- What the reader of files holds behind a token.
use Rattle.std.proofs.Common.{◌≡◌, ℕ, Bool, true, false, ◌||◌, if◌then◌else◌, List, [], ◌∷◌, ◌++◌, append-nil, append_assoc, refl, ap, ap₂, sym, subst, ◌∙◌, Option, Some, None, is_some, Result, Ok, Err, OnOk, IfErr, nat_eq, length}
use Rattle.std.specs.Str.{bytes_eq}
use Rattle.fpc_base.specs.Tokens.{is_one_of}
use Rattle.fpc_base.specs.declared.refusal.Code.{Code}
use Rattle.fpc_base.specs.declared.refusal.Code.TheVariants.{Unexpected, WrongCalculus, DuplicateFormula, ManyArguments}
use Rattle.fpc_base.specs.declared.refusal.TokenRefusal.{TokenRefusal}
use Rattle.fpc_base.specs.declared.refusal.TokenRefusal.TheVariants.{Refused, OutOfMemory}
use Rattle.fpc_base.specs.declared.tokens.lexeme.Sign.TheVariants as sign
use Rattle.fpc_base.specs.Lexeme.{Lexeme, a_name, a_variable, a_sign}
use Rattle.fpc_terms.specs.Name.{Agrees, Grows, index_in, with_text, place_in}
use Rattle.fpc_terms.specs.Spot.{alone}
use Rattle.fpc_terms.specs.Machine as term
use Rattle.polarised_formulas.specs.declared.logic.Logic.{Logic}
use Rattle.polarised_formulas.specs.Written.{WrittenFormula}
use Rattle.polarised_formulas.specs.Place.{whole}
use Rattle.polarised_formulas.specs.Machine as formula
use Rattle.clause_language.specs.declared.clause.Clause.{Clause}
use Rattle.clause_language.specs.declared.clause_reader.ClauseReader.{ClauseReader}
use Rattle.clause_language.specs.declared.clause_reader.Mode.TheVariants as clause_mode
use Rattle.clause_language.specs.declared.declaration.DeclaredFormula.{DeclaredFormula}
use Rattle.clause_language.specs.declared.declaration_reader.DeclarationReader.{DeclarationReader}
use Rattle.clause_language.specs.declared.declaration_reader.Mode.TheVariants as declaring_mode
use Rattle.clause_language.specs.declared.file.FileKind.{FileKind}
use Rattle.clause_language.specs.declared.file.FileKind.TheVariants.{Definition, Certificate}
use Rattle.clause_language.specs.declared.file.FileReader.{FileReader}
use Rattle.clause_language.specs.declared.file.Phase.TheVariants as phase
use Rattle.clause_language.specs.Written.{WrittenItem, WrittenClause, declaration, a_clause}
use Rattle.clause_language.specs.Limits.{at_head, declared_names}
use Rattle.clause_language.specs.Meant.{declared_meant, clauses_meant, declaration_meant, clause_meant}
use Rattle.clause_language.specs.ClauseMachine as clause
use Rattle.clause_language.specs.DeclarationMachine as declaring
use Rattle.clause_language.specs.FileMachine.{start, at_item, in_declaration, in_clause, in_term, declared, claused, is_other, begun_within, declared_within, claused_within, limited}
use Rattle.clause_language.specs.HoldingClause.{HoldsClause, TakesClause}
use Rattle.clause_language.specs.HoldingDeclaration.{HoldsDeclaration, TakesDeclaration}
use Rattle.clause_language.specs.HoldingFile.{AreTaken, name_read, HoldsItems, HoldsFile, TakesFile}
use Rattle.clause_language.proofs.DeclarationReading.{mode_of, mode-told}
use Rattle.clause_language.proofs.FileLaws.{declared_names-append}
use Rattle.clause_language.proofs.FileHolding.{items-grown, term-grown}

-- the names that are taken
or-regrouped : (a b c : Bool) → a || (b || c) ≡ (a || b) || c
or-regrouped true b c = refl
or-regrouped false b c = refl

one_of-append : (xs ys : List (List ℕ)) (y : List ℕ) → is_one_of (xs ++ ys) y ≡ is_one_of xs y || is_one_of ys y
one_of-append [] ys y = refl
one_of-append (x ∷ xs) ys y = ap (λ b. bytes_eq y x || b) (one_of-append xs ys y) ∙ or-regrouped (bytes_eq y x) (is_one_of xs y) (is_one_of ys y)

pub AreTaken-push : (names table : List (List ℕ)) (x : List ℕ) → AreTaken names table → is_one_of table x ≡ false → AreTaken (names ++ x ∷ []) (with_text table x)
AreTaken-push names table x h e y =
    ap (λ b. is_one_of (if b then table else table ++ x ∷ []) y) e
    ∙ one_of-append table (x ∷ []) y
    ∙ ap (λ b. b || is_one_of (x ∷ []) y) (h y)
    ∙ sym (one_of-append names (x ∷ []) y)

pub AreTaken-none : (names table : List (List ℕ)) → AreTaken (names ++ []) table → AreTaken names table
AreTaken-none names table h = subst (λ xs. AreTaken xs table) (append-nil names) h

pub AreTaken-some : (names table : List (List ℕ)) → AreTaken names table → AreTaken (names ++ []) table
AreTaken-some names table h = subst (λ xs. AreTaken xs table) (sym (append-nil names)) h

pub found-taken : (table : List (List ℕ)) (x : List ℕ) (found : Option ℕ) (b : Bool) → found ≡ place_in table x → is_some found ≡ b → is_one_of table x ≡ b
found-taken table x found b e f = from (is_one_of table x) refl where
  from : (t : Bool) → is_one_of table x ≡ t → is_one_of table x ≡ b
  from true g = let n : is_some found ≡ true = ap is_some e ∙ ap (λ t. is_some (if t then Some (index_in table x) else None)) g in g ∙ sym n ∙ f
  from false g = let n : is_some found ≡ false = ap is_some e ∙ ap (λ t. is_some (if t then Some (index_in table x) else None)) g in g ∙ sym n ∙ f

-- the first token of an item
pub formula-begins : (kind : FileKind) (expected : Option Logic) (earlier : List (List ℕ)) (logic : Logic) (items : List WrittenItem)
    → limited kind expected earlier (at_item logic items) (a_sign sign.Formula) ≡ Ok (in_declaration logic items declaring.at_name)
formula-begins Definition expected earlier logic items = refl
formula-begins Certificate expected earlier logic items = refl

pub clause-begins : (kind : FileKind) (expected : Option Logic) (earlier : List (List ℕ)) (logic : Logic) (items : List WrittenItem) (x : List ℕ)
    → limited kind expected earlier (at_item logic items) (a_name x) ≡ Ok (in_clause logic items (clause.in_atom at_head [] (term.named x alone)))
clause-begins Definition expected earlier logic items x = refl
clause-begins Certificate expected earlier logic items x = refl

module _ (names : List (List ℕ)) (kind : FileKind) (expected : Option Logic) (earlier : List (List ℕ)) (old : FileReader) where
  pub takes-logic : (logic : Logic) (b : Bool) → HoldsFile names kind expected earlier start old → b ≡ is_other old.expected logic → b ≡ false
      → TakesFile (Ok tt) names kind expected earlier (begun_within expected (Some logic)) (record old { phase = phase.AtItem; logic = logic })
  takes-logic logic b h e f =
      let g : is_other expected logic ≡ false = ap (λ o. is_other o logic) (sym h.0.1) ∙ sym e ∙ f in (
        at_item logic [],
        (ap (λ o. if o then Err WrongCalculus else Ok (at_item logic [])) g, ((h.0.0, h.0.1, refl, h.0.3), refl, h.1)),
      )

  module _ (logic : Logic) (items : List WrittenItem) (h : HoldsFile names kind expected earlier (at_item logic items) old) where
    pub takes-formula : (next : DeclarationReader) → ((ns : List (List ℕ)) → HoldsDeclaration ns old.logic declaring.at_name next)
        → TakesFile (Ok tt) names kind expected earlier (limited kind expected earlier (at_item logic items) (a_sign sign.Formula)) (record old { phase = phase.InDeclaration; declaration = next })
    takes-formula next f = (
      in_declaration logic items declaring.at_name,
      (
        formula-begins kind expected earlier logic items,
        ((h.0.0, h.0.1, refl, h.0.3), h.1, h.2, subst (λ l. HoldsDeclaration names l declaring.at_name next) h.1 (f names)),
      ),
    )

    pub takes-certificate : old.kind ≡ Certificate
        → TakesFile (Ok tt) names kind expected earlier (limited kind expected earlier (at_item logic items) (a_sign sign.Certificate)) (record old { phase = phase.InTerm })
    takes-certificate e = (
      in_term logic items (term.wants alone),
      (ap (λ k. limited k expected earlier (at_item logic items) (a_sign sign.Certificate)) (sym h.0.0 ∙ e), ((h.0.0, h.0.1, refl, h.0.3), h.1, h.2)),
    )

    pub refuses-certificate : old.kind ≡ Definition → limited kind expected earlier (at_item logic items) (a_sign sign.Certificate) ≡ Err Unexpected
    refuses-certificate e = ap (λ k. limited k expected earlier (at_item logic items) (a_sign sign.Certificate)) (sym h.0.0 ∙ e)

    pub takes-clause : (result : Result (Unit {0}) TokenRefusal) (more : List (List ℕ)) (x : List ℕ) (next : ClauseReader) → Grows names more
        → TakesClause result more (clause.limited clause.clause_start (a_name x)) next
        → TakesFile result more kind expected earlier (limited kind expected earlier (at_item logic items) (a_name x)) (record old { phase = phase.InClause; clause = next })
    takes-clause (Ok u) more x next g t =
        let e : clause.in_atom at_head [] (term.named x alone) ≡ t.0 = cc in (
          in_clause logic items t.0,
          (
            clause-begins kind expected earlier logic items x ∙ ap (λ q. Ok (in_clause logic items q)) e,
            ((h.0.0, h.0.1, refl, items-grown names more earlier items [] old.taken old.declared old.clauses g h.0.3), h.1, term-grown names more (term.wants alone) old.terms old.variables g h.2, t.1.1),
          ),
        )
    takes-clause (Err (Refused code)) more x next g t = cc
    takes-clause (Err OutOfMemory) more x next g t = tt

-- a token of a declared formula behind its name
pub same-limited : (logic : Logic) (names : List (List ℕ)) (d : declaring.DeclarationState) (c : Lexeme) → (d ≡ declaring.at_name → ⊥)
    → declaring.limited logic names d c ≡ declaring.limited logic [] d c
same-limited logic names declaring.at_name c n = absurd (n refl)
same-limited logic names _ c n = refl

-- an answer that is a state with the same name
abbrev ok : declaring.DeclarationState → Result declaring.DeclarationState Code
ok u = Ok u

told-name : (u t : declaring.DeclarationState) (xs : List (List ℕ)) → name_read u ≡ xs → ok u ≡ ok t → name_read t ≡ xs
told-name u t xs f e = let same : u ≡ t = cc in ap name_read (sym same) ∙ f

within-name : (u t : declaring.DeclarationState) (xs : List (List ℕ)) → name_read u ≡ xs → declaring.within u ≡ Ok t → name_read t ≡ xs
within-name declaring.stuck t xs f e = cc
within-name declaring.at_word t xs f e = told-name declaring.at_word t xs f e
within-name declaring.at_name t xs f e = told-name declaring.at_name t xs f e
within-name (declaring.behind_name x) t xs f e = told-name (declaring.behind_name x) t xs f e
within-name (declaring.at_parameter x ps) t xs f e = told-name (declaring.at_parameter x ps) t xs f e
within-name (declaring.behind_parameter x ps) t xs f e = told-name (declaring.behind_parameter x ps) t xs f e
within-name (declaring.at_defined x ps) t xs f e = told-name (declaring.at_defined x ps) t xs f e
within-name (declaring.in_formula x ps s) t xs f e = told-name (declaring.in_formula x ps s) t xs f e
within-name (declaring.ended x ps w) t xs f e = told-name (declaring.ended x ps w) t xs f e

parameter-name : (b : Bool) (x : List ℕ) (ps : List (List ℕ)) (y : List ℕ) (t : declaring.DeclarationState) → declaring.within (declaring.with_parameter b x ps y) ≡ Ok t → name_read t ≡ x ∷ []
parameter-name true x ps y t e = cc
parameter-name false x ps y t e = within-name (declaring.behind_parameter x (ps ++ y ∷ [])) t (x ∷ []) refl e

comma-name : (b : Bool) (x : List ℕ) (ps : List (List ℕ)) (t : declaring.DeclarationState) → (if b then Err ManyArguments else Ok (declaring.at_parameter x ps)) ≡ Ok t → name_read t ≡ x ∷ []
comma-name true x ps t e = cc
comma-name false x ps t e = told-name (declaring.at_parameter x ps) t (x ∷ []) refl e

dot-name : (o : Option WrittenFormula) (x : List ℕ) (ps : List (List ℕ)) (t : declaring.DeclarationState) → declaring.within (declaring.dotted x ps o) ≡ Ok t → name_read t ≡ x ∷ []
dot-name None x ps t e = cc
dot-name (Some w) x ps t e = within-name (declaring.ended x ps w) t (x ∷ []) refl e

read-name : (r : Result formula.FormulaState Code) (x : List ℕ) (ps : List (List ℕ)) (t : declaring.DeclarationState) → declaring.read_within x ps r ≡ Ok t → name_read t ≡ x ∷ []
read-name (Ok s) x ps t e = told-name (declaring.in_formula x ps s) t (x ∷ []) refl e
read-name (Err code) x ps t e = cc

name-kept : (logic : Logic) (d t : declaring.DeclarationState) (c : Lexeme) → (d ≡ declaring.at_name → ⊥) → declaring.limited logic [] d c ≡ Ok t → name_read t ≡ name_read d
name-kept logic declaring.at_name t c n e = absurd (n refl)
name-kept logic declaring.at_word t (a_sign sign.Formula) n e = told-name declaring.at_name t [] refl e
name-kept logic (declaring.behind_name x) t (a_sign sign.OpenParenthesis) n e = told-name (declaring.at_parameter x []) t (x ∷ []) refl e
name-kept logic (declaring.behind_name x) t (a_sign sign.Defined) n e = told-name (declaring.in_formula x [] (formula.wants whole)) t (x ∷ []) refl e
name-kept logic (declaring.at_parameter x ps) t (a_variable y) n e = parameter-name (is_one_of ps y) x ps y t e
name-kept logic (declaring.behind_parameter x ps) t (a_sign sign.Comma) n e = comma-name (nat_eq (length ps) 255) x ps t e
name-kept logic (declaring.behind_parameter x ps) t (a_sign sign.CloseParenthesis) n e = told-name (declaring.at_defined x ps) t (x ∷ []) refl e
name-kept logic (declaring.at_defined x ps) t (a_sign sign.Defined) n e = told-name (declaring.in_formula x ps (formula.wants whole)) t (x ∷ []) refl e
name-kept logic (declaring.in_formula x ps s) t (a_sign sign.Dot) n e = dot-name (formula.whole_of s) x ps t e
name-kept logic (declaring.in_formula x ps s) t c n e = read-name (formula.limited logic ps s c) x ps t e
name-kept logic _ t _ n e = cc

module _ (names more : List (List ℕ)) (kind : FileKind) (expected : Option Logic) (earlier : List (List ℕ)) (old : FileReader) (logic : Logic) (items : List WrittenItem) (c : Lexeme) where
  -- within a declared formula
  module _ (d : declaring.DeclarationState) (next : DeclarationReader) (g : Grows names more) (h : HoldsFile names kind expected earlier (in_declaration logic items d) old)
      (n : d ≡ declaring.at_name → ⊥) where
    pub declaration-refused : (code : Code) → declaring.limited logic [] d c ≡ Err code → limited kind expected earlier (in_declaration logic items d) c ≡ Err code
    declaration-refused code e = ap (declared_within logic items) (same-limited logic (earlier ++ declared_names items) d c n ∙ e)

    pub declaration-taken : (t : declaring.DeclarationState) → declaring.limited logic [] d c ≡ Ok t → HoldsDeclaration more logic t next
        → HoldsFile more kind expected earlier (in_declaration logic items t) (record old { declaration = next })
    declaration-taken t e k = (
      (
        h.0.0,
        h.0.1,
        h.0.2,
        subst (λ xs. HoldsItems more earlier items xs old.taken old.declared old.clauses) (sym (name-kept logic d t c n e))
            (items-grown names more earlier items (name_read d) old.taken old.declared old.clauses g h.0.3),
      ),
      h.1,
      term-grown names more (term.wants alone) old.terms old.variables g h.2,
      k,
    )

    pub takes-declaration : (result : Result (Unit {0}) TokenRefusal) (new : FileReader) → TakesDeclaration (Ok tt) more logic (declaring.limited logic [] d c) next
        → ((t : declaring.DeclarationState) → HoldsFile more kind expected earlier (in_declaration logic items t) (record old { declaration = next })
        → OnOk result (HoldsFile more kind expected earlier (declared logic items t) new)) → IfErr result (λ r. r ≡ OutOfMemory)
        → TakesFile result more kind expected earlier (limited kind expected earlier (in_declaration logic items d) c) new
    takes-declaration (Ok u) new t f i = (
      declared logic items t.0,
      (
        ap (declared_within logic items) (same-limited logic (earlier ++ declared_names items) d c n ∙ t.1.0),
        f t.0 (declaration-taken t.0 t.1.0 t.1.1),
      ),
    )
    takes-declaration (Err (Refused code)) new t f i = cc
    takes-declaration (Err OutOfMemory) new t f i = tt

  -- within a clause
  module _ (s : clause.ClauseState) (next : ClauseReader) (g : Grows names more) (h : HoldsFile names kind expected earlier (in_clause logic items s) old) where
    pub clause-refused : (code : Code) → clause.limited s c ≡ Err code → limited kind expected earlier (in_clause logic items s) c ≡ Err code
    clause-refused code e = ap (claused_within logic items) e

    pub takes-in_clause : (result : Result (Unit {0}) TokenRefusal) (new : FileReader) → TakesClause (Ok tt) more (clause.limited s c) next
        → ((t : clause.ClauseState) → HoldsFile more kind expected earlier (in_clause logic items t) (record old { clause = next })
        → OnOk result (HoldsFile more kind expected earlier (claused logic items t) new)) → IfErr result (λ r. r ≡ OutOfMemory)
        → TakesFile result more kind expected earlier (limited kind expected earlier (in_clause logic items s) c) new
    takes-in_clause (Ok u) new t f i = (
      claused logic items t.0,
      (
        ap (claused_within logic items) t.1.0,
        f t.0 (
          (h.0.0, h.0.1, h.0.2, items-grown names more earlier items [] old.taken old.declared old.clauses g h.0.3),
          h.1,
          term-grown names more (term.wants alone) old.terms old.variables g h.2,
          t.1.1,
        ),
      ),
    )
    takes-in_clause (Err (Refused code)) new t f i = cc
    takes-in_clause (Err OutOfMemory) new t f i = tt

-- the name of a declared formula
module _ (names : List (List ℕ)) (kind : FileKind) (expected : Option Logic) (earlier : List (List ℕ)) (old : FileReader) (logic : Logic) (items : List WrittenItem)
    (h : HoldsFile names kind expected earlier (in_declaration logic items declaring.at_name) old) (x : List ℕ) where
  taken-names : AreTaken (earlier ++ declared_names items) old.taken
  taken-names = AreTaken-none (earlier ++ declared_names items) old.taken h.0.3.taken

  pub refuses-duplicate : is_one_of old.taken x ≡ true → limited kind expected earlier (in_declaration logic items declaring.at_name) (a_name x) ≡ Err DuplicateFormula
  refuses-duplicate e = ap (λ b. declared_within logic items (declaring.named_within b x)) (sym (taken-names x) ∙ e)

  pub takes-new_name : (result : Result (Unit {0}) TokenRefusal) (more table : List (List ℕ)) (next : DeclarationReader) → Grows names more → is_one_of old.taken x ≡ false
      → table ≡ with_text old.taken x → TakesDeclaration result more logic (declaring.limited logic [] declaring.at_name (a_name x)) next
      → TakesFile result more kind expected earlier (limited kind expected earlier (in_declaration logic items declaring.at_name) (a_name x)) (record old { taken = table; declaration = next })
  takes-new_name (Ok u) more table next g e f t =
      let same : declaring.behind_name x ≡ t.0 = cc in
      let k = items-grown names more earlier items [] old.taken old.declared old.clauses g h.0.3 in (
        in_declaration logic items (declaring.behind_name x),
        (
          ap (λ b. declared_within logic items (declaring.named_within b x)) (sym (taken-names x) ∙ e),
          (
            (
              h.0.0,
              h.0.1,
              h.0.2,
              record {
                taken = subst (AreTaken ((earlier ++ declared_names items) ++ x ∷ [])) (sym f) (AreTaken-push (earlier ++ declared_names items) old.taken x taken-names e);
                declared = k.declared;
                clauses = k.clauses;
              },
            ),
            h.1,
            term-grown names more (term.wants alone) old.terms old.variables g h.2,
            subst (λ d. HoldsDeclaration more logic d next) (sym same) t.1.1,
          ),
        ),
      )
  takes-new_name (Err (Refused code)) more table next g e f t = cc
  takes-new_name (Err OutOfMemory) more table next g e f t = tt

-- the items behind which one more stands
declared-snoc : (number : List ℕ → ℕ) (items : List WrittenItem) (x : List ℕ) (ps : List (List ℕ)) (w : WrittenFormula) → declared_meant number (items ++ declaration x ps w ∷ []) ≡ declared_meant number items ++ declaration_meant number x ps w ∷ []
declared-snoc number [] x ps w = refl
declared-snoc number (declaration y qs v ∷ is) x ps w = ap (λ l. declaration_meant number y qs v ∷ l) (declared-snoc number is x ps w)
declared-snoc number (a_clause q ∷ is) x ps w = declared-snoc number is x ps w

declared-clause : (number : List ℕ → ℕ) (items : List WrittenItem) (w : WrittenClause) → declared_meant number (items ++ a_clause w ∷ []) ≡ declared_meant number items
declared-clause number [] w = refl
declared-clause number (declaration y qs v ∷ is) w = ap (λ l. declaration_meant number y qs v ∷ l) (declared-clause number is w)
declared-clause number (a_clause q ∷ is) w = declared-clause number is w

clauses-snoc : (number : List ℕ → ℕ) (items : List WrittenItem) (w : WrittenClause) → clauses_meant number (items ++ a_clause w ∷ []) ≡ clauses_meant number items ++ clause_meant number w ∷ []
clauses-snoc number [] w = refl
clauses-snoc number (declaration y qs v ∷ is) w = clauses-snoc number is w
clauses-snoc number (a_clause q ∷ is) w = ap (λ l. clause_meant number q ∷ l) (clauses-snoc number is w)

clauses-declared : (number : List ℕ → ℕ) (items : List WrittenItem) (x : List ℕ) (ps : List (List ℕ)) (w : WrittenFormula) → clauses_meant number (items ++ declaration x ps w ∷ []) ≡ clauses_meant number items
clauses-declared number [] x ps w = refl
clauses-declared number (declaration y qs v ∷ is) x ps w = clauses-declared number is x ps w
clauses-declared number (a_clause q ∷ is) x ps w = ap (λ l. clause_meant number q ∷ l) (clauses-declared number is x ps w)

-- a declared formula that ended stands behind the others
module _ (names : List (List ℕ)) (kind : FileKind) (expected : Option Logic) (earlier : List (List ℕ)) (old : FileReader) (logic : Logic) (items : List WrittenItem) where
  declaration-mode : (d : declaring.DeclarationState) → HoldsFile names kind expected earlier (in_declaration logic items d) old → mode_of d ≡ Some old.declaration.mode
  declaration-mode d h = mode-told names logic d old.declaration h.3

  pub declaration-goes_on : (d : declaring.DeclarationState) → HoldsFile names kind expected earlier (in_declaration logic items d) old → (old.declaration.mode ≡ declaring_mode.Ended → ⊥)
      → HoldsFile names kind expected earlier (declared logic items d) old
  declaration-goes_on declaring.at_word h n = absurd h.3
  declaration-goes_on declaring.stuck h n = absurd h.3
  declaration-goes_on (declaring.ended x ps w) h n = absurd (n h.3.0.mode)
  declaration-goes_on declaring.at_name h n = h
  declaration-goes_on (declaring.behind_name x) h n = h
  declaration-goes_on (declaring.at_parameter x ps) h n = h
  declaration-goes_on (declaring.behind_parameter x ps) h n = h
  declaration-goes_on (declaring.at_defined x ps) h n = h
  declaration-goes_on (declaring.in_formula x ps s) h n = h

  pub declaration-ends : (d : declaring.DeclarationState) (one : DeclaredFormula) (next : DeclarationReader) → HoldsFile names kind expected earlier (in_declaration logic items d) old
      → old.declaration.mode ≡ declaring_mode.Ended
      → ((x : List ℕ) (ps : List (List ℕ)) (w : WrittenFormula) (number : List ℕ → ℕ) → HoldsDeclaration names logic (declaring.ended x ps w) old.declaration → Agrees number names
      → one ≡ declaration_meant number x ps w)
      → HoldsFile names kind expected earlier (declared logic items d) (record old { phase = phase.AtItem; declaration = next; declared = old.declared ++ one ∷ [] })
  declaration-ends (declaring.ended x ps w) one next h m f = (
    (
      h.0.0,
      h.0.1,
      refl,
      record {
        taken = subst (λ xs. AreTaken xs old.taken)
            (append_assoc earlier (declared_names items) (x ∷ [])
            ∙ ap (λ xs. earlier ++ xs) (sym (declared_names-append items (declaration x ps w ∷ [])))
            ∙ sym (append-nil (earlier ++ declared_names (items ++ declaration x ps w ∷ [])))) h.0.3.taken;
        declared = λ number a. ap₂ (λ xs y. xs ++ y ∷ []) (h.0.3.declared number a) (f x ps w number h.3 a) ∙ sym (declared-snoc number items x ps w);
        clauses = λ number a. h.0.3.clauses number a ∙ sym (clauses-declared number items x ps w);
      },
    ),
    h.1,
    h.2,
  )
  declaration-ends d one next h m f = let e : mode_of d ≡ Some declaring_mode.Ended = mode-told names logic d old.declaration h.3 ∙ ap Some m in cc

  -- so does a clause
  pub clause-goes_on : (s : clause.ClauseState) → HoldsFile names kind expected earlier (in_clause logic items s) old → (old.clause.mode ≡ clause_mode.Ended → ⊥)
      → HoldsFile names kind expected earlier (claused logic items s) old
  clause-goes_on (clause.ended w) h n = absurd (n h.3.parts.mode)
  clause-goes_on clause.stuck h n = absurd h.3.parts
  clause-goes_on (clause.at_atom p vs) h n = h
  clause-goes_on (clause.in_atom p vs t) h n = h

  pub clause-ends : (s : clause.ClauseState) (one : Clause) (next : ClauseReader) → HoldsFile names kind expected earlier (in_clause logic items s) old
      → old.clause.mode ≡ clause_mode.Ended
      → ((w : WrittenClause) (number : List ℕ → ℕ) → HoldsClause names (clause.ended w) old.clause → Agrees number names → one ≡ clause_meant number w)
      → HoldsFile names kind expected earlier (claused logic items s) (record old { phase = phase.AtItem; clause = next; clauses = old.clauses ++ one ∷ [] })
  clause-ends (clause.ended w) one next h m f = (
    (
      h.0.0,
      h.0.1,
      refl,
      record {
        taken = subst (λ xs. AreTaken ((earlier ++ xs) ++ []) old.taken) (sym (declared_names-append items (a_clause w ∷ []) ∙ append-nil (declared_names items))) h.0.3.taken;
        declared = λ number a. h.0.3.declared number a ∙ sym (declared-clause number items w);
        clauses = λ number a. ap₂ (λ xs y. xs ++ y ∷ []) (h.0.3.clauses number a) (f w number h.3 a) ∙ sym (clauses-snoc number items w);
      },
    ),
    h.1,
    h.2,
  )
  clause-ends (clause.at_atom p vs) one next h m f = let e : clause_mode.AtAtom ≡ clause_mode.Ended = sym h.3.parts.mode ∙ m in cc
  clause-ends (clause.in_atom p vs t) one next h m f = let e : clause_mode.InAtom ≡ clause_mode.Ended = sym h.3.parts.0.mode ∙ m in cc
  clause-ends clause.stuck one next h m f = absurd h.3.parts
