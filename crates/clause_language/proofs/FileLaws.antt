-- What the machine of definition and certificate files tells of the tokens so far.
use Rattle.std.proofs.Common.{◌≡◌, ◌↔◌, ℕ, List, [], ◌∷◌, ◌++◌, refl, ap, sym, subst, ◌∙◌, append-nil, append_assoc, codes, Option, Some, None}
use Rattle.fpc_base.specs.declared.tokens.lexeme.Sign.TheVariants as sign
use Rattle.fpc_base.specs.Lexeme.{Lexeme, a_name, a_sign}
use Rattle.fpc_base.specs.Reading.{Begins}
use Rattle.fpc_terms.specs.Written.{WrittenTerm, application, no_words, term_tokens, args_tokens, IsTerm}
use Rattle.fpc_terms.specs.Spot.{alone}
use Rattle.fpc_terms.specs.Machine as term
use Rattle.fpc_terms.specs.ReadTerm.{any_variable}
use Rattle.fpc_terms.proofs.TermLaws.{term_tokens-append}
use Rattle.fpc_terms.proofs.TermLaws as term_laws
use Rattle.fpc_terms.proofs.TermReading.{whole-live, whole-is, is-whole, live-begins, run-one}
use Rattle.fpc_terms.proofs.AnyTerm.{any-term}
use Rattle.polarised_formulas.specs.declared.logic.Logic.{Logic}
use Rattle.polarised_formulas.specs.declared.logic.Logic.TheVariants.{Lkf, Ljf}
use Rattle.polarised_formulas.specs.Written.{formula_tokens, logic_word}
use Rattle.polarised_formulas.specs.Machine.{logic_of}
use Rattle.polarised_formulas.proofs.ProblemLaws.{term-dot, logic_of-word}
use Rattle.clause_language.specs.declared.file.FileKind.{FileKind}
use Rattle.clause_language.specs.declared.file.FileKind.TheVariants.{Definition, Certificate}
use Rattle.clause_language.specs.Written.{WrittenItem, declaration, a_clause, body_tokens, parameter_tokens, WrittenDefinition, WrittenCertificate, item_tokens, items_tokens, IsItemOf, AreItemsOf, IsDefinition, IsCertificate}
use Rattle.clause_language.specs.Limits.{declared_names, DefinitionLimits, CertificateLimits}
use Rattle.clause_language.specs.ClauseMachine as clause
use Rattle.clause_language.specs.DeclarationMachine as declaring
use Rattle.clause_language.specs.FileMachine.{FileState, start, at_item, in_declaration, in_clause, in_term, finished, lost, begun_in, declared, claused, begun, dotted, read_on, step, run, definition_of, certificate_of}
use Rattle.clause_language.proofs.ClauseLaws.{clause_behind, IsLiveClause, IsGoingClause, clause_run-stuck, clause_ended-stops, clause_behind-step, clause-append, clause-ended, ended-clause, clause-ends}
use Rattle.clause_language.proofs.DeclarationLaws.{declaration_behind, IsLiveDeclaration, IsGoingDeclaration, declaration_run-stuck, declaration_ended-stops, declaration_behind-step, declaration-append, declaration-ended, ended-declaration, declaration-ends}

-- the state behind the tokens of a file from its first on
abbrev pub file_behind : FileKind → List Lexeme → FileState
file_behind kind tokens = run kind start tokens

abbrev pub IsLiveFile : FileState → Type 0
IsLiveFile lost = ⊥
IsLiveFile _ = Unit {0}

pub file_run-append : (kind : FileKind) (cs ds : List Lexeme) (s : FileState) → run kind s (cs ++ ds) ≡ run kind (run kind s cs) ds
file_run-append kind [] ds s = refl
file_run-append kind (c ∷ cs) ds s = file_run-append kind cs ds (step kind s c)

pub file_behind-step : (kind : FileKind) (tokens : List Lexeme) (c : Lexeme) → file_behind kind (tokens ++ c ∷ []) ≡ step kind (file_behind kind tokens) c
file_behind-step kind tokens c = file_run-append kind tokens (c ∷ []) start

pub file_run-lost : (kind : FileKind) (cs : List Lexeme) → run kind lost cs ≡ lost
file_run-lost kind [] = refl
file_run-lost kind (c ∷ cs) = file_run-lost kind cs

file_live-run : (kind : FileKind) (cs : List Lexeme) (s : FileState) → IsLiveFile (run kind s cs) → IsLiveFile s
file_live-run kind cs lost live = rw (file_run-lost kind cs) at live
file_live-run kind cs _ live = tt

-- the tokens of items before others are these tokens and the others behind them
item-append : (logic : Logic) (i : WrittenItem) (xs rest : List Lexeme) → item_tokens logic i (xs ++ rest) ≡ item_tokens logic i xs ++ rest
item-append logic (declaration x ps w) xs rest = declaration-append logic x ps w xs rest
item-append logic (a_clause w) xs rest = clause-append w xs rest

pub items-append : (logic : Logic) (items : List WrittenItem) (xs rest : List Lexeme) → items_tokens logic items (xs ++ rest) ≡ items_tokens logic items xs ++ rest
items-append logic [] xs rest = refl
items-append logic (i ∷ is) xs rest = ap (item_tokens logic i) (items-append logic is xs rest) ∙ item-append logic i (items_tokens logic is xs) rest

-- one item more
items-snoc : (logic : Logic) (items : List WrittenItem) (i : WrittenItem) (rest : List Lexeme)
    → items_tokens logic (items ++ i ∷ []) rest ≡ items_tokens logic items (item_tokens logic i rest)
items-snoc logic [] i rest = refl
items-snoc logic (j ∷ js) i rest = ap (item_tokens logic j) (items-snoc logic js i rest)

items_of-snoc : (logic : Logic) (items : List WrittenItem) (i : WrittenItem) → AreItemsOf logic items → IsItemOf logic i → AreItemsOf logic (items ++ i ∷ [])
items_of-snoc logic [] i hs h = (h, tt)
items_of-snoc logic (j ∷ js) i hs h = (hs.0, items_of-snoc logic js i hs.1 h)

-- the names that items declare, in two parts
pub declared_names-append : (is js : List WrittenItem) → declared_names (is ++ js) ≡ declared_names is ++ declared_names js
declared_names-append [] js = refl
declared_names-append (declaration x ps w ∷ is) js = ap (λ l. x ∷ l) (declared_names-append is js)
declared_names-append (a_clause w ∷ is) js = declared_names-append is js

-- COMPLETE: the run of an item that stays live is the file's
lift-declaration : (kind : FileKind) (logic : Logic) (items : List WrittenItem) (cs : List Lexeme) (d : declaring.DeclarationState) → IsLiveDeclaration (declaring.run logic d cs)
    → run kind (declared logic items d) cs ≡ declared logic items (declaring.run logic d cs)
lift-declaration kind logic items [] d live = refl
lift-declaration kind logic items (c ∷ cs) (declaring.ended x ps w) live =
    absurd (subst IsLiveDeclaration (ap (λ d. declaring.run logic d cs) (declaration_ended-stops logic x ps w c) ∙ declaration_run-stuck logic cs) live)
lift-declaration kind logic items (c ∷ cs) declaring.stuck live = absurd (subst IsLiveDeclaration (declaration_run-stuck logic (c ∷ cs)) live)
lift-declaration kind logic items (c ∷ cs) d live = lift-declaration kind logic items cs (declaring.step logic d c) live

lift-clause : (kind : FileKind) (logic : Logic) (items : List WrittenItem) (cs : List Lexeme) (s : clause.ClauseState) → IsLiveClause (clause.run s cs)
    → run kind (claused logic items s) cs ≡ claused logic items (clause.run s cs)
lift-clause kind logic items [] s live = refl
lift-clause kind logic items (c ∷ cs) (clause.ended w) live =
    absurd (subst IsLiveClause (ap (λ s. clause.run s cs) (clause_ended-stops w c) ∙ clause_run-stuck cs) live)
lift-clause kind logic items (c ∷ cs) clause.stuck live = absurd (subst IsLiveClause (clause_run-stuck (c ∷ cs)) live)
lift-clause kind logic items (c ∷ cs) s live = lift-clause kind logic items cs (clause.step s c) live

-- the tokens of an item from its first on
first-declaration : (kind : FileKind) (logic : Logic) (items : List WrittenItem) (c : Lexeme) → IsLiveDeclaration (declaring.step logic declaring.at_word c)
    → begun kind logic items c ≡ declared logic items (declaring.step logic declaring.at_word c)
first-declaration Definition logic items (a_sign sign.Formula) live = refl
first-declaration Certificate logic items (a_sign sign.Formula) live = refl
first-declaration kind logic items _ live = absurd live

first-clause : (kind : FileKind) (logic : Logic) (items : List WrittenItem) (c : Lexeme) → IsLiveClause (clause.step clause.clause_start c)
    → begun kind logic items c ≡ claused logic items (clause.step clause.clause_start c)
first-clause Definition logic items (a_name x) live = refl
first-clause Certificate logic items (a_name x) live = refl
first-clause kind logic items _ live = absurd live

declaration_live-run : (logic : Logic) (cs : List Lexeme) (d : declaring.DeclarationState) → IsLiveDeclaration (declaring.run logic d cs) → IsLiveDeclaration d
declaration_live-run logic cs declaring.stuck live = subst IsLiveDeclaration (declaration_run-stuck logic cs) live
declaration_live-run logic cs _ live = tt

clause_live-run : (cs : List Lexeme) (s : clause.ClauseState) → IsLiveClause (clause.run s cs) → IsLiveClause s
clause_live-run cs clause.stuck live = subst IsLiveClause (clause_run-stuck cs) live
clause_live-run cs _ live = tt

begun-declaration : (kind : FileKind) (logic : Logic) (items : List WrittenItem) (c : Lexeme) (cs : List Lexeme) → IsLiveDeclaration (declaration_behind logic (c ∷ cs))
    → run kind (at_item logic items) (c ∷ cs) ≡ declared logic items (declaration_behind logic (c ∷ cs))
begun-declaration kind logic items c cs live =
    ap (λ s. run kind s cs) (first-declaration kind logic items c (declaration_live-run logic cs (declaring.step logic declaring.at_word c) live))
    ∙ lift-declaration kind logic items cs (declaring.step logic declaring.at_word c) live

begun-clause : (kind : FileKind) (logic : Logic) (items : List WrittenItem) (c : Lexeme) (cs : List Lexeme) → IsLiveClause (clause_behind (c ∷ cs))
    → run kind (at_item logic items) (c ∷ cs) ≡ claused logic items (clause_behind (c ∷ cs))
begun-clause kind logic items c cs live =
    ap (λ s. run kind s cs) (first-clause kind logic items c (clause_live-run cs (clause.step clause.clause_start c) live))
    ∙ lift-clause kind logic items cs (clause.step clause.clause_start c) live

-- a whole item
run-item : (kind : FileKind) (logic : Logic) (done : List WrittenItem) (i : WrittenItem) → IsItemOf logic i
    → run kind (at_item logic done) (item_tokens logic i []) ≡ at_item logic (done ++ i ∷ [])
run-item kind logic done (declaration x ps w) h =
    let e = declaration-ended logic x ps w h in
    begun-declaration kind logic done (a_sign sign.Formula) (a_name x ∷ parameter_tokens ps (a_sign sign.Defined ∷ formula_tokens logic w (a_sign sign.Dot ∷ [])))
    (subst IsLiveDeclaration (sym e) tt) ∙ ap (declared logic done) e
run-item kind logic done (a_clause w) h =
    let e = clause-ended w in
    begun-clause kind logic done (a_name w.head.text) (args_tokens w.head.args (body_tokens w.body [])) (subst IsLiveClause (sym e) tt) ∙ ap (claused logic done) e

run-items : (kind : FileKind) (logic : Logic) (items done : List WrittenItem) (rest : List Lexeme) → AreItemsOf logic items
    → run kind (at_item logic done) (items_tokens logic items rest) ≡ run kind (at_item logic (done ++ items)) rest
run-items kind logic [] done rest hs = ap (λ l. run kind (at_item logic l) rest) (sym (append-nil done))
run-items kind logic (i ∷ is) done rest hs =
    ap (run kind (at_item logic done)) (item-append logic i [] (items_tokens logic is rest))
    ∙ file_run-append kind (item_tokens logic i []) (items_tokens logic is rest) (at_item logic done)
    ∙ ap (λ s. run kind s (items_tokens logic is rest)) (run-item kind logic done i hs.0)
    ∙ run-items kind logic is (done ++ i ∷ []) rest hs.1
    ∙ ap (λ l. run kind (at_item logic l) rest) (append_assoc done (i ∷ []) is)

start-word : (kind : FileKind) (logic : Logic) → step kind start (logic_word logic) ≡ at_item logic []
start-word kind Lkf = refl
start-word kind Ljf = refl

pub behind-items : (kind : FileKind) (logic : Logic) (items : List WrittenItem) (cs : List Lexeme) → AreItemsOf logic items
    → file_behind kind (logic_word logic ∷ items_tokens logic items cs) ≡ run kind (at_item logic items) cs
behind-items kind logic items cs hs = ap (λ s. run kind s (items_tokens logic items cs)) (start-word kind logic) ∙ run-items kind logic items [] cs hs

-- the term of a certificate
lift-term : (kind : FileKind) (logic : Logic) (items : List WrittenItem) (cs : List Lexeme) (t : term.TermState) → term.IsLive (term.run any_variable t cs)
    → run kind (in_term logic items t) cs ≡ in_term logic items (term.run any_variable t cs)
lift-term kind logic items [] t live = refl
lift-term kind logic items (c ∷ cs) t live =
    ap (λ s. run kind s cs) (one c (term_laws.live-run any_variable cs (term.step any_variable t c) live)) ∙ lift-term kind logic items cs (term.step any_variable t c) live
  where
    live-on : (u : term.TermState) → term.IsLive u → read_on logic items u ≡ in_term logic items u
    live-on term.stuck l = absurd l
    live-on _ l = refl

    one : (d : Lexeme) → term.IsLive (term.step any_variable t d) → step kind (in_term logic items t) d ≡ in_term logic items (term.step any_variable t d)
    one (a_sign sign.Dot) l = absurd (subst term.IsLive (term-dot any_variable t) l)
    one d l = live-on (term.step any_variable t d) l

-- where tokens lead from the start
pub data Stands (kind : FileKind) (tokens : List Lexeme) : FileState → Type 0 where
  at_start : tokens ≡ [] → Stands kind tokens start
  at_items : (logic : Logic) (items : List WrittenItem) → AreItemsOf logic items → tokens ≡ logic_word logic ∷ items_tokens logic items []
      → Stands kind tokens (at_item logic items)
  within_declaration : (logic : Logic) (items : List WrittenItem) (cs : List Lexeme) (d : declaring.DeclarationState) → AreItemsOf logic items
      → tokens ≡ logic_word logic ∷ items_tokens logic items cs → declaration_behind logic cs ≡ d → IsGoingDeclaration d → Stands kind tokens (in_declaration logic items d)
  within_clause : (logic : Logic) (items : List WrittenItem) (cs : List Lexeme) (s : clause.ClauseState) → AreItemsOf logic items
      → tokens ≡ logic_word logic ∷ items_tokens logic items cs → clause_behind cs ≡ s → IsGoingClause s → Stands kind tokens (in_clause logic items s)
  within_term : (logic : Logic) (items : List WrittenItem) (cs : List Lexeme) (t : term.TermState) → kind ≡ Certificate → AreItemsOf logic items
      → tokens ≡ logic_word logic ∷ items_tokens logic items (a_sign sign.Certificate ∷ cs) → term.run any_variable (term.wants alone) cs ≡ t → term.IsLive t
      → Stands kind tokens (in_term logic items t)
  at_end : (logic : Logic) (items : List WrittenItem) (w : WrittenTerm) → kind ≡ Certificate → AreItemsOf logic items
      → tokens ≡ logic_word logic ∷ items_tokens logic items (a_sign sign.Certificate ∷ term_tokens w (a_sign sign.Dot ∷ []))
      → Stands kind tokens (finished logic items w)
  nowhere : Stands kind tokens lost

-- SOUND: one step leads on
stands-word : (kind : FileKind) (x : List ℕ) (tokens : List Lexeme) (o : Option Logic) → tokens ≡ a_name x ∷ [] → logic_of x ≡ o → Stands kind tokens (begun_in o)
stands-word kind x tokens (Some logic) e h = at_items logic [] tt (e ∙ ap (λ c. c ∷ []) (logic_of-word x logic h))
stands-word kind x tokens None e h = nowhere

one-more : (logic : Logic) (items : List WrittenItem) (cs tokens : List Lexeme) (c : Lexeme) → tokens ≡ logic_word logic ∷ items_tokens logic items cs
    → tokens ++ c ∷ [] ≡ logic_word logic ∷ items_tokens logic items (cs ++ c ∷ [])
one-more logic items cs tokens c e = ap (λ l. l ++ c ∷ []) e ∙ ap (λ l. logic_word logic ∷ l) (sym (items-append logic items cs (c ∷ [])))

stands-declared : (kind : FileKind) (logic : Logic) (items : List WrittenItem) (cs tokens : List Lexeme) (d : declaring.DeclarationState) → AreItemsOf logic items
    → tokens ≡ logic_word logic ∷ items_tokens logic items cs → declaration_behind logic cs ≡ d → Stands kind tokens (declared logic items d)
stands-declared kind logic items cs tokens (declaring.ended x ps w) hs e r =
    let f = ended-declaration logic cs x ps w r in
    at_items logic (items ++ declaration x ps w ∷ []) (items_of-snoc logic items (declaration x ps w) hs f.1)
    (e ∙ ap (λ l. logic_word logic ∷ items_tokens logic items l) f.0 ∙ ap (λ l. logic_word logic ∷ l) (sym (items-snoc logic items (declaration x ps w) [])))
stands-declared kind logic items cs tokens declaring.stuck hs e r = nowhere
stands-declared kind logic items cs tokens d hs e r = within_declaration logic items cs d hs e r tt

stands-claused : (kind : FileKind) (logic : Logic) (items : List WrittenItem) (cs tokens : List Lexeme) (s : clause.ClauseState) → AreItemsOf logic items
    → tokens ≡ logic_word logic ∷ items_tokens logic items cs → clause_behind cs ≡ s → Stands kind tokens (claused logic items s)
stands-claused kind logic items cs tokens (clause.ended w) hs e r =
    at_items logic (items ++ a_clause w ∷ []) (items_of-snoc logic items (a_clause w) hs tt)
    (e ∙ ap (λ l. logic_word logic ∷ items_tokens logic items l) (ended-clause cs w r) ∙ ap (λ l. logic_word logic ∷ l) (sym (items-snoc logic items (a_clause w) [])))
stands-claused kind logic items cs tokens clause.stuck hs e r = nowhere
stands-claused kind logic items cs tokens s hs e r = within_clause logic items cs s hs e r tt

stands-begun : (kind : FileKind) (logic : Logic) (items : List WrittenItem) (tokens : List Lexeme) (c : Lexeme) → AreItemsOf logic items
    → tokens ≡ logic_word logic ∷ items_tokens logic items (c ∷ []) → Stands kind tokens (begun kind logic items c)
stands-begun Certificate logic items tokens (a_sign sign.Certificate) hs e = within_term logic items [] (term.wants alone) refl hs e refl tt
stands-begun kind logic items tokens (a_sign s) hs e = stands-declared kind logic items (a_sign s ∷ []) tokens (declaring.step logic declaring.at_word (a_sign s)) hs e refl
stands-begun kind logic items tokens c hs e = stands-claused kind logic items (c ∷ []) tokens (clause.step clause.clause_start c) hs e refl

stands-dotted : (kind : FileKind) (logic : Logic) (items : List WrittenItem) (cs tokens : List Lexeme) (o : Option WrittenTerm) → kind ≡ Certificate → AreItemsOf logic items
    → tokens ≡ logic_word logic ∷ items_tokens logic items (a_sign sign.Certificate ∷ cs ++ a_sign sign.Dot ∷ [])
    → term.whole_of (term.run any_variable (term.wants alone) cs) ≡ o → Stands kind tokens (dotted logic items o)
stands-dotted kind logic items cs tokens (Some w) k hs e h =
    let t : IsTerm any_variable cs w = whole-is any_variable cs w h in
    at_end logic items w k hs (e ∙ ap (λ l. logic_word logic ∷ items_tokens logic items (a_sign sign.Certificate ∷ l))
    (ap (λ l. l ++ a_sign sign.Dot ∷ []) t.spelled ∙ sym (term_tokens-append w [] (a_sign sign.Dot ∷ []))))
stands-dotted kind logic items cs tokens None k hs e h = nowhere

stands-read_on : (kind : FileKind) (logic : Logic) (items : List WrittenItem) (cs tokens : List Lexeme) (t : term.TermState) → kind ≡ Certificate → AreItemsOf logic items
    → tokens ≡ logic_word logic ∷ items_tokens logic items (a_sign sign.Certificate ∷ cs)
    → term.run any_variable (term.wants alone) cs ≡ t → Stands kind tokens (read_on logic items t)
stands-read_on kind logic items cs tokens term.stuck k hs e r = nowhere
stands-read_on kind logic items cs tokens t k hs e r = within_term logic items cs t k hs e r tt

stands-term : (kind : FileKind) (logic : Logic) (items : List WrittenItem) (cs tokens : List Lexeme) (t : term.TermState) (c : Lexeme) → kind ≡ Certificate → AreItemsOf logic items
    → tokens ≡ logic_word logic ∷ items_tokens logic items (a_sign sign.Certificate ∷ cs ++ c ∷ [])
    → term.run any_variable (term.wants alone) cs ≡ t → Stands kind tokens (step kind (in_term logic items t) c)
stands-term kind logic items cs tokens t (a_sign sign.Dot) k hs e r = stands-dotted kind logic items cs tokens (term.whole_of t) k hs e (ap term.whole_of r)
stands-term kind logic items cs tokens t c k hs e r =
    stands-read_on kind logic items (cs ++ c ∷ []) tokens (term.step any_variable t c) k hs e (run-one any_variable cs c t r)

stands-first : (kind : FileKind) (tokens : List Lexeme) (c : Lexeme) → tokens ≡ c ∷ [] → Stands kind tokens (step kind start c)
stands-first kind tokens (a_name x) e = stands-word kind x tokens (logic_of x) e refl
stands-first kind tokens c e = nowhere

stands-step : (kind : FileKind) (tokens : List Lexeme) (c : Lexeme) (s : FileState) → Stands kind tokens s → Stands kind (tokens ++ c ∷ []) (step kind s c)
stands-step kind tokens c _ (at_start e) = stands-first kind (tokens ++ c ∷ []) c (ap (λ l. l ++ c ∷ []) e)
stands-step kind tokens c _ (at_items logic items hs e) = stands-begun kind logic items (tokens ++ c ∷ []) c hs (one-more logic items [] tokens c e)
stands-step kind tokens c _ (within_declaration logic items cs d hs e r g) =
    stands-declared kind logic items (cs ++ c ∷ []) (tokens ++ c ∷ []) (declaring.step logic d c) hs (one-more logic items cs tokens c e)
    (declaration_behind-step logic cs c ∙ ap (λ d. declaring.step logic d c) r)
stands-step kind tokens c _ (within_clause logic items cs s hs e r g) =
    stands-claused kind logic items (cs ++ c ∷ []) (tokens ++ c ∷ []) (clause.step s c) hs (one-more logic items cs tokens c e)
    (clause_behind-step cs c ∙ ap (λ s. clause.step s c) r)
stands-step kind tokens c _ (within_term logic items cs t k hs e r l) =
    stands-term kind logic items cs (tokens ++ c ∷ []) t c k hs (one-more logic items (a_sign sign.Certificate ∷ cs) tokens c e) r
stands-step kind tokens c _ (at_end logic items w k hs e) = nowhere
stands-step kind tokens c _ nowhere = nowhere

stands-run : (kind : FileKind) (cs before : List Lexeme) (s : FileState) → Stands kind before s → Stands kind (before ++ cs) (run kind s cs)
stands-run kind [] before s h = subst (λ l. Stands kind l s) (sym (append-nil before)) h
stands-run kind (c ∷ cs) before s h =
    subst (λ l. Stands kind l (run kind (step kind s c) cs)) (append_assoc before (c ∷ []) cs)
    (stands-run kind cs (before ++ c ∷ []) (step kind s c) (stands-step kind before c s h))

pub stands : (kind : FileKind) (tokens : List Lexeme) → Stands kind tokens (file_behind kind tokens)
stands kind tokens = stands-run kind tokens [] start (at_start refl)

-- the tokens are those of a definition exactly where the machine says so
definition-stands : (tokens : List Lexeme) (s : FileState) (w : WrittenDefinition) → definition_of s ≡ Some w → Stands Definition tokens s → IsDefinition tokens w
definition-stands tokens _ w e (at_items logic items hs f) =
    let p : WrittenDefinition = record { logic = logic; items = items } in
    let same : p ≡ w = cc in
    let h : IsDefinition tokens p = record { spelled = f; of_logic = hs } in
    subst (IsDefinition tokens) same h
definition-stands tokens _ w e (at_start f) = cc
definition-stands tokens _ w e (within_declaration logic items cs d hs f r g) = cc
definition-stands tokens _ w e (within_clause logic items cs s hs f r g) = cc
definition-stands tokens _ w e (within_term logic items cs t k hs f r l) = cc
definition-stands tokens _ w e (at_end logic items t k hs f) = cc
definition-stands tokens _ w e nowhere = cc

definition-behind : (tokens : List Lexeme) (w : WrittenDefinition) → IsDefinition tokens w → file_behind Definition tokens ≡ at_item w.logic w.items
definition-behind tokens w h = ap (file_behind Definition) h.spelled ∙ behind-items Definition w.logic w.items [] h.of_logic

pub definition-told : (tokens : List Lexeme) (w : WrittenDefinition) → definition_of (file_behind Definition tokens) ≡ Some w ↔ IsDefinition tokens w
definition-told tokens w =
    (λ e. definition-stands tokens (file_behind Definition tokens) w e (stands Definition tokens), λ h. ap definition_of (definition-behind tokens w h))

pub definition-once : (tokens : List Lexeme) (v w : WrittenDefinition) → IsDefinition tokens v → IsDefinition tokens w → v ≡ w
definition-once tokens v w h k =
    let e : Some v ≡ Some w = sym ((definition-told tokens v).1 h) ∙ (definition-told tokens w).1 k in cc

-- the tokens are those of a certificate exactly where the machine says so
certificate-stands : (tokens : List Lexeme) (s : FileState) (w : WrittenCertificate) → certificate_of s ≡ Some w → Stands Certificate tokens s → IsCertificate tokens w
certificate-stands tokens _ w e (at_end logic items t k hs f) =
    let p : WrittenCertificate = record { logic = logic; items = items; term = t } in
    let same : p ≡ w = cc in
    let h : IsCertificate tokens p = record { spelled = f; of_logic = hs } in
    subst (IsCertificate tokens) same h
certificate-stands tokens _ w e (at_items logic items hs f) = cc
certificate-stands tokens _ w e (at_start f) = cc
certificate-stands tokens _ w e (within_declaration logic items cs d hs f r g) = cc
certificate-stands tokens _ w e (within_clause logic items cs s hs f r g) = cc
certificate-stands tokens _ w e (within_term logic items cs t k hs f r l) = cc
certificate-stands tokens _ w e nowhere = cc

pub behind-term : (logic : Logic) (items : List WrittenItem) (cs : List Lexeme) → AreItemsOf logic items → term.IsLive (term.run any_variable (term.wants alone) cs)
    → file_behind Certificate (logic_word logic ∷ items_tokens logic items (a_sign sign.Certificate ∷ cs)) ≡ in_term logic items (term.run any_variable (term.wants alone) cs)
behind-term logic items cs hs live =
    behind-items Certificate logic items (a_sign sign.Certificate ∷ cs) hs ∙ lift-term Certificate logic items cs (term.wants alone) live

certificate-behind : (tokens : List Lexeme) (w : WrittenCertificate) → IsCertificate tokens w → file_behind Certificate tokens ≡ finished w.logic w.items w.term
certificate-behind tokens w h =
    let t : IsTerm any_variable (term_tokens w.term []) w.term = record { spelled = refl; known_all = any-term w.term } in
    let e : term.whole_of (term.run any_variable (term.wants alone) (term_tokens w.term [])) ≡ Some w.term = is-whole any_variable (term_tokens w.term []) w.term t in
    ap (file_behind Certificate)
    (h.spelled ∙ ap (λ l. logic_word w.logic ∷ l)
    (ap (λ l. items_tokens w.logic w.items (a_sign sign.Certificate ∷ l)) (term_tokens-append w.term [] (a_sign sign.Dot ∷ []))
    ∙ items-append w.logic w.items (a_sign sign.Certificate ∷ term_tokens w.term []) (a_sign sign.Dot ∷ [])))
    ∙ file_behind-step Certificate (logic_word w.logic ∷ items_tokens w.logic w.items (a_sign sign.Certificate ∷ term_tokens w.term [])) (a_sign sign.Dot)
    ∙ ap (λ s. step Certificate s (a_sign sign.Dot))
    (behind-term w.logic w.items (term_tokens w.term []) h.of_logic (whole-live (term.run any_variable (term.wants alone) (term_tokens w.term [])) w.term e))
    ∙ ap (dotted w.logic w.items) e

pub certificate-told : (tokens : List Lexeme) (w : WrittenCertificate) → certificate_of (file_behind Certificate tokens) ≡ Some w ↔ IsCertificate tokens w
certificate-told tokens w =
    (λ e. certificate-stands tokens (file_behind Certificate tokens) w e (stands Certificate tokens), λ h. ap certificate_of (certificate-behind tokens w h))

pub certificate-once : (tokens : List Lexeme) (v w : WrittenCertificate) → IsCertificate tokens v → IsCertificate tokens w → v ≡ w
certificate-once tokens v w h k =
    let e : Some v ≡ Some w = sym ((certificate-told tokens v).1 h) ∙ (certificate-told tokens w).1 k in cc

-- tokens that lead to the end of an item
record Reaches (tokens : List Lexeme) : Type 0 where
  more : List Lexeme
  logic : Logic
  items : List WrittenItem
  of_logic : AreItemsOf logic items
  spelled : tokens ++ more ≡ logic_word logic ∷ items_tokens logic items []

behind-more : (logic : Logic) (items : List WrittenItem) (cs more tokens : List Lexeme) → tokens ≡ logic_word logic ∷ items_tokens logic items cs
    → tokens ++ more ≡ logic_word logic ∷ items_tokens logic items (cs ++ more)
behind-more logic items cs more tokens e = ap (λ l. l ++ more) e ∙ ap (λ l. logic_word logic ∷ l) (sym (items-append logic items cs more))

start-reaches : (tokens : List Lexeme) → tokens ≡ [] → Reaches tokens
start-reaches tokens e = record { more = logic_word Lkf ∷ []; logic = Lkf; items = []; of_logic = tt; spelled = ap (λ l. l ++ logic_word Lkf ∷ []) e }

items-reach : (logic : Logic) (items : List WrittenItem) (tokens : List Lexeme) → AreItemsOf logic items → tokens ≡ logic_word logic ∷ items_tokens logic items [] → Reaches tokens
items-reach logic items tokens hs e = record { more = []; logic = logic; items = items; of_logic = hs; spelled = append-nil tokens ∙ e }

item-reaches : (logic : Logic) (items : List WrittenItem) (i : WrittenItem) (cs more tokens : List Lexeme) → AreItemsOf logic items → IsItemOf logic i
    → tokens ≡ logic_word logic ∷ items_tokens logic items cs → cs ++ more ≡ item_tokens logic i [] → Reaches tokens
item-reaches logic items i cs more tokens hs h e f = record {
  more = more;
  logic = logic;
  items = items ++ i ∷ [];
  of_logic = items_of-snoc logic items i hs h;
  spelled = behind-more logic items cs more tokens e
      ∙ ap (λ l. logic_word logic ∷ l) (ap (items_tokens logic items) f ∙ sym (items-snoc logic items i []));
}

declaration_going-live : (d : declaring.DeclarationState) → IsGoingDeclaration d → IsLiveDeclaration d
declaration_going-live declaring.stuck g = absurd g
declaration_going-live _ g = tt

clause_going-live : (s : clause.ClauseState) → IsGoingClause s → IsLiveClause s
clause_going-live clause.stuck g = absurd g
clause_going-live _ g = tt

declaration-reaches : (logic : Logic) (items : List WrittenItem) (cs tokens : List Lexeme) → AreItemsOf logic items → tokens ≡ logic_word logic ∷ items_tokens logic items cs
    → IsGoingDeclaration (declaration_behind logic cs) → Reaches tokens
declaration-reaches logic items cs tokens hs e g =
    let m = declaration-ends logic cs (declaration_going-live (declaration_behind logic cs) g) in
    let f = ended-declaration logic (cs ++ m.0) m.1.0 m.1.1.0 m.1.1.1.0 m.1.1.1.1 in
    item-reaches logic items (declaration m.1.0 m.1.1.0 m.1.1.1.0) cs m.0 tokens hs f.1 e f.0

clause-reaches : (logic : Logic) (items : List WrittenItem) (cs tokens : List Lexeme) → AreItemsOf logic items → tokens ≡ logic_word logic ∷ items_tokens logic items cs
    → IsGoingClause (clause_behind cs) → Reaches tokens
clause-reaches logic items cs tokens hs e g =
    let m = clause-ends cs (clause_going-live (clause_behind cs) g) in
    item-reaches logic items (a_clause m.1.0) cs m.0 tokens hs tt e (ended-clause (cs ++ m.0) m.1.0 m.1.1)

-- a definition begins with the tokens exactly where the machine isn't lost
abbrev pub BeginsDefinition : Option Logic → List Lexeme → Type 0
BeginsDefinition expected tokens = Begins IsDefinition (DefinitionLimits expected) tokens

reaches-definition : (expected : Option Logic) (tokens : List Lexeme) → Reaches tokens → BeginsDefinition expected tokens
reaches-definition expected tokens r = (r.more, (record { logic = r.logic; items = r.items }, record { spelled = r.spelled; of_logic = r.of_logic }))

definition_live-stands : (expected : Option Logic) (tokens : List Lexeme) (s : FileState) → IsLiveFile s → Stands Definition tokens s → BeginsDefinition expected tokens
definition_live-stands expected tokens _ live (at_start e) = reaches-definition expected tokens (start-reaches tokens e)
definition_live-stands expected tokens _ live (at_items logic items hs e) = reaches-definition expected tokens (items-reach logic items tokens hs e)
definition_live-stands expected tokens _ live (within_declaration logic items cs d hs e r g) =
    reaches-definition expected tokens (declaration-reaches logic items cs tokens hs e (subst IsGoingDeclaration (sym r) g))
definition_live-stands expected tokens _ live (within_clause logic items cs s hs e r g) =
    reaches-definition expected tokens (clause-reaches logic items cs tokens hs e (subst IsGoingClause (sym r) g))
definition_live-stands expected tokens _ live (within_term logic items cs t k hs e r l) = cc
definition_live-stands expected tokens _ live (at_end logic items w k hs e) = cc
definition_live-stands expected tokens _ live nowhere = absurd live

definition_begins-live : (expected : Option Logic) (tokens : List Lexeme) → BeginsDefinition expected tokens → IsLiveFile (file_behind Definition tokens)
definition_begins-live expected tokens b =
    file_live-run Definition b.0 (file_behind Definition tokens)
    (subst IsLiveFile (sym (sym (file_run-append Definition tokens b.0 start) ∙ definition-behind (tokens ++ b.0) b.1.0 b.1.1)) tt)

pub definition_live-told : (expected : Option Logic) (tokens : List Lexeme) → IsLiveFile (file_behind Definition tokens) ↔ Begins IsDefinition (DefinitionLimits expected) tokens
definition_live-told expected tokens =
    (λ live. definition_live-stands expected tokens (file_behind Definition tokens) live (stands Definition tokens), definition_begins-live expected tokens)

-- a certificate begins with the tokens exactly where the machine isn't lost
abbrev pub BeginsCertificate : Option Logic → List (List ℕ) → List Lexeme → Type 0
BeginsCertificate expected earlier tokens = Begins IsCertificate (CertificateLimits expected earlier) tokens

abbrev some_term : WrittenTerm
some_term = application (codes "a") no_words

reaches-certificate : (expected : Option Logic) (earlier : List (List ℕ)) (tokens : List Lexeme) → Reaches tokens → BeginsCertificate expected earlier tokens
reaches-certificate expected earlier tokens r =
    let rest : List Lexeme = a_sign sign.Certificate ∷ term_tokens some_term (a_sign sign.Dot ∷ []) in (
      r.more ++ rest,
      (
        record { logic = r.logic; items = r.items; term = some_term },
        record {
          spelled = sym (append_assoc tokens r.more rest) ∙ ap (λ l. l ++ rest) r.spelled ∙ ap (λ l. logic_word r.logic ∷ l) (sym (items-append r.logic r.items [] rest));
          of_logic = r.of_logic;
        },
      ),
    )

term-reaches : (expected : Option Logic) (earlier : List (List ℕ)) (logic : Logic) (items : List WrittenItem) (cs tokens : List Lexeme) → AreItemsOf logic items
    → tokens ≡ logic_word logic ∷ items_tokens logic items (a_sign sign.Certificate ∷ cs) → term.IsLive (term.run any_variable (term.wants alone) cs)
    → BeginsCertificate expected earlier tokens
term-reaches expected earlier logic items cs tokens hs e live =
    let b = live-begins any_variable None [] cs live in
    let dot : List Lexeme = a_sign sign.Dot ∷ [] in (
      b.0 ++ dot,
      (
        record { logic = logic; items = items; term = b.1.0 },
        record {
          spelled = behind-more logic items (a_sign sign.Certificate ∷ cs) (b.0 ++ dot) tokens e
              ∙ ap (λ l. logic_word logic ∷ items_tokens logic items (a_sign sign.Certificate ∷ l))
              (sym (append_assoc cs b.0 dot) ∙ ap (λ l. l ++ dot) b.1.1.spelled ∙ sym (term_tokens-append b.1.0 [] dot));
          of_logic = hs;
        },
      ),
    )

certificate_live-stands : (expected : Option Logic) (earlier : List (List ℕ)) (tokens : List Lexeme) (s : FileState) → IsLiveFile s → Stands Certificate tokens s
    → BeginsCertificate expected earlier tokens
certificate_live-stands expected earlier tokens _ live (at_start e) = reaches-certificate expected earlier tokens (start-reaches tokens e)
certificate_live-stands expected earlier tokens _ live (at_items logic items hs e) = reaches-certificate expected earlier tokens (items-reach logic items tokens hs e)
certificate_live-stands expected earlier tokens _ live (within_declaration logic items cs d hs e r g) =
    reaches-certificate expected earlier tokens (declaration-reaches logic items cs tokens hs e (subst IsGoingDeclaration (sym r) g))
certificate_live-stands expected earlier tokens _ live (within_clause logic items cs s hs e r g) =
    reaches-certificate expected earlier tokens (clause-reaches logic items cs tokens hs e (subst IsGoingClause (sym r) g))
certificate_live-stands expected earlier tokens _ live (within_term logic items cs t k hs e r l) =
    term-reaches expected earlier logic items cs tokens hs e (subst term.IsLive (sym r) l)
certificate_live-stands expected earlier tokens _ live (at_end logic items w k hs e) =
    ([], (record { logic = logic; items = items; term = w }, record { spelled = append-nil tokens ∙ e; of_logic = hs }))
certificate_live-stands expected earlier tokens _ live nowhere = absurd live

certificate_begins-live : (expected : Option Logic) (earlier : List (List ℕ)) (tokens : List Lexeme) → BeginsCertificate expected earlier tokens
    → IsLiveFile (file_behind Certificate tokens)
certificate_begins-live expected earlier tokens b =
    file_live-run Certificate b.0 (file_behind Certificate tokens)
    (subst IsLiveFile (sym (sym (file_run-append Certificate tokens b.0 start) ∙ certificate-behind (tokens ++ b.0) b.1.0 b.1.1)) tt)

pub certificate_live-told : (expected : Option Logic) (earlier : List (List ℕ)) (tokens : List Lexeme)
    → IsLiveFile (file_behind Certificate tokens) ↔ Begins IsCertificate (CertificateLimits expected earlier) tokens
certificate_live-told expected earlier tokens =
    (λ live. certificate_live-stands expected earlier tokens (file_behind Certificate tokens) live (stands Certificate tokens), certificate_begins-live expected earlier tokens)

-- the state of a declaration, a clause or a term behind whole items
pub behind-declaration : (kind : FileKind) (logic : Logic) (items : List WrittenItem) (c : Lexeme) (cs : List Lexeme) → AreItemsOf logic items
    → IsGoingDeclaration (declaration_behind logic (c ∷ cs))
    → file_behind kind (logic_word logic ∷ items_tokens logic items (c ∷ cs)) ≡ in_declaration logic items (declaration_behind logic (c ∷ cs))
behind-declaration kind logic items c cs hs g =
    behind-items kind logic items (c ∷ cs) hs
    ∙ begun-declaration kind logic items c cs (declaration_going-live (declaration_behind logic (c ∷ cs)) g)
    ∙ going (declaration_behind logic (c ∷ cs)) g
  where
    going : (d : declaring.DeclarationState) → IsGoingDeclaration d → declared logic items d ≡ in_declaration logic items d
    going (declaring.ended x ps w) h = absurd h
    going declaring.stuck h = absurd h
    going _ h = refl

pub behind-clause : (kind : FileKind) (logic : Logic) (items : List WrittenItem) (c : Lexeme) (cs : List Lexeme) → AreItemsOf logic items
    → IsGoingClause (clause_behind (c ∷ cs))
    → file_behind kind (logic_word logic ∷ items_tokens logic items (c ∷ cs)) ≡ in_clause logic items (clause_behind (c ∷ cs))
behind-clause kind logic items c cs hs g =
    behind-items kind logic items (c ∷ cs) hs
    ∙ begun-clause kind logic items c cs (clause_going-live (clause_behind (c ∷ cs)) g)
    ∙ going (clause_behind (c ∷ cs)) g
  where
    going : (s : clause.ClauseState) → IsGoingClause s → claused logic items s ≡ in_clause logic items s
    going (clause.ended w) h = absurd h
    going clause.stuck h = absurd h
    going _ h = refl
