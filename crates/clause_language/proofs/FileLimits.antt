-- A token of a definition or certificate file is refused or taken as the machine says.
use Rattle.std.proofs.Common.{◌≡◌, ◌↔◌, ℕ, Bool, true, false, if◌then◌else◌, List, [], ◌∷◌, ◌++◌, refl, ap, sym, subst, ◌∙◌, Option, Some, None, Result, Ok, Err, ◌⊎◌, inl, inr}
use Rattle.std.proofs.lemmas.List.{append_cancel_left}
use Rattle.fpc_base.specs.declared.refusal.Code.{Code}
use Rattle.fpc_base.specs.declared.refusal.Code.TheVariants.{Unexpected, WrongCalculus}
use Rattle.fpc_base.specs.declared.tokens.lexeme.Sign.TheVariants as sign
use Rattle.fpc_base.specs.Lexeme.{Lexeme, a_name, a_sign}
use Rattle.fpc_base.specs.Reading.{Begins, IsTaken, IsRefused}
use Rattle.fpc_base.specs.Reading as read
use Rattle.fpc_terms.specs.Written.{WrittenTerm, WrittenArgs, no_words, words, term_tokens, args_tokens}
use Rattle.fpc_terms.specs.Spot.{Spot, alone, in_arguments, tokens_to, done_tokens, IsAlone, TermLimits}
use Rattle.fpc_terms.specs.Spot as spot
use Rattle.fpc_terms.specs.Machine as term
use Rattle.fpc_terms.specs.ReadTerm.{any_variable}
use Rattle.fpc_terms.proofs.AnyTerm.{IsTermJudged, term-judged, term_limits-once, term_limits-step, term_limits-live}
use Rattle.polarised_formulas.specs.declared.logic.Logic.{Logic}
use Rattle.polarised_formulas.specs.declared.logic.Logic.TheVariants.{Lkf, Ljf}
use Rattle.polarised_formulas.specs.Written.{logic_word}
use Rattle.polarised_formulas.specs.Machine.{logic_of}
use Rattle.fpc_base.proofs.ReadingLaws.{taken-refused, refused-once}
use Rattle.polarised_formulas.proofs.ProblemLaws.{term-dot, logic_of-word}
use Rattle.clause_language.specs.declared.file.FileKind.{FileKind}
use Rattle.clause_language.specs.declared.file.FileKind.TheVariants.{Definition, Certificate}
use Rattle.clause_language.specs.Written.{WrittenItem, items_tokens, AreItemsOf, IsDefinition, IsCertificate}
use Rattle.clause_language.specs.Limits.{AtomPlace, at_head, in_body, tokens_to_atom, IsInside, ClauseLimits, many_arguments, many_variables, DeclarationLimits, duplicate, many_parameters, in_formula, declared_names, IsOther, FileLimits, DefinitionLimits, CertificateLimits}
use Rattle.clause_language.specs.Limits as limits
use Rattle.clause_language.specs.ClauseMachine as clause
use Rattle.clause_language.specs.DeclarationMachine as declaring
use Rattle.clause_language.specs.FileMachine.{FileState, start, at_item, in_declaration, in_clause, in_term, lost, begun_in, declared, claused, begun, dotted, read_on, step, is_other, within, begun_within, declared_within, claused_within, read_within, limited}
use Rattle.clause_language.proofs.ClauseLaws.{clause_behind, IsLiveClause, IsGoingClause, IsClauseJudged, clause-judged, clause_limits-going, clause_limits-once}
use Rattle.clause_language.proofs.DeclarationLaws.{declaration_behind, IsLiveDeclaration, IsGoingDeclaration, IsDeclarationJudged, declaration-judged, declaration_limits-going, declaration_limits-once}
use Rattle.clause_language.proofs.FileLaws.{file_behind, IsLiveFile, file_behind-step, items-append, Stands, at_start, at_items, within_declaration, within_clause, within_term, at_end, nowhere, stands, behind-declaration, behind-clause, behind-term, definition-once, certificate-once, definition_live-told, certificate_live-told}

-- no limit forbids the first token of an item: the way into an argument has two tokens at least
abbrev AreSome : List Lexeme → Type 0
AreSome [] = ⊥
AreSome (c ∷ cs) = Unit {0}

abbrev AreTwo : List Lexeme → Type 0
AreTwo [] = ⊥
AreTwo (c ∷ cs) = AreSome cs

done-some : (ds : List WrittenTerm) (rest : List Lexeme) → AreSome (done_tokens ds rest)
done-some [] rest = tt
done-some (d ∷ ds) rest = done-some ds (term_tokens d (a_sign sign.Comma ∷ rest))

tokens_to-two : (s : Spot) (rest : List Lexeme) → IsAlone s → AreTwo rest → AreTwo (tokens_to s rest)
tokens_to-two alone rest a h = h
tokens_to-two (in_arguments ds) rest a h = absurd a
tokens_to-two (spot.in_term x ds s) rest a h = tokens_to-two s (a_name x ∷ done_tokens ds rest) a (done-some ds rest)

inside-two : (s : Spot) → IsInside s → AreTwo (tokens_to s [])
inside-two alone i = absurd i
inside-two (in_arguments ds) i = absurd i
inside-two (spot.in_term x ds s) i = tokens_to-two s (a_name x ∷ done_tokens ds []) i (done-some ds [])

args-some : (args : WrittenArgs) (c : Lexeme) (cs : List Lexeme) → AreSome (args_tokens args (c ∷ cs))
args-some no_words c cs = tt
args-some (words t ts) c cs = tt

atom-two : (p : AtomPlace) (rest : List Lexeme) → AreTwo rest → AreTwo (tokens_to_atom p rest)
atom-two at_head rest h = h
atom-two (in_body head done) rest h = args-some head.args (a_sign sign.If) _

two-some : (cs : List Lexeme) → AreTwo cs → AreSome cs
two-some [] h = h
two-some (c ∷ cs) h = tt

pub clause_limits-none : (c : Lexeme) (code : Code) → ClauseLimits [] c code → ⊥
clause_limits-none c _ (many_arguments l) =
    subst AreTwo (sym l.spelled) (atom-two l.place (tokens_to l.spot []) (inside-two l.spot l.is_inside))
clause_limits-none _ _ (many_variables l new reached) =
    subst AreSome (sym l.spelled) (two-some (tokens_to_atom l.place (tokens_to l.spot [])) (atom-two l.place (tokens_to l.spot []) (inside-two l.spot l.is_inside)))

pub declaration_limits-none : (logic : Logic) (names : List (List ℕ)) (c : Lexeme) (code : Code) → DeclarationLimits logic names [] c code → ⊥
declaration_limits-none logic names _ _ (duplicate e h) = cc
declaration_limits-none logic names c _ (many_parameters l) = subst AreTwo (sym l.spelled) tt
declaration_limits-none logic names c code (in_formula h e l) = cc

-- The limits of both kinds of files, by what the machine tells of the tokens before.
data Forbids (kind : FileKind) (expected : Option Logic) (earlier : List (List ℕ)) (before : List Lexeme) (c : Lexeme) (code : Code) : Type 0 where
  by_word : (logic : Logic) → before ≡ [] → c ≡ logic_word logic → code ≡ WrongCalculus → IsOther expected logic → Forbids kind expected earlier before c code
  by_declaration : (logic : Logic) (items : List WrittenItem) (tokens : List Lexeme) → AreItemsOf logic items → before ≡ logic_word logic ∷ items_tokens logic items tokens
      → file_behind kind before ≡ in_declaration logic items (declaration_behind logic tokens)
      → DeclarationLimits logic (earlier ++ declared_names items) tokens c code → Forbids kind expected earlier before c code
  by_clause : (logic : Logic) (items : List WrittenItem) (tokens : List Lexeme) → AreItemsOf logic items → before ≡ logic_word logic ∷ items_tokens logic items tokens
      → file_behind kind before ≡ in_clause logic items (clause_behind tokens)
      → ClauseLimits tokens c code → Forbids kind expected earlier before c code
  by_term : (logic : Logic) (items : List WrittenItem) (tokens : List Lexeme) → kind ≡ Certificate → AreItemsOf logic items
      → before ≡ logic_word logic ∷ items_tokens logic items (a_sign sign.Certificate ∷ tokens)
      → file_behind kind before ≡ in_term logic items (term.run any_variable (term.wants alone) tokens)
      → TermLimits any_variable None [] tokens c code → Forbids kind expected earlier before c code

from-declaration : (kind : FileKind) (expected : Option Logic) (earlier : List (List ℕ)) (before : List Lexeme) (c : Lexeme) (code : Code) (logic : Logic)
    (items : List WrittenItem) (tokens : List Lexeme) → AreItemsOf logic items → before ≡ logic_word logic ∷ items_tokens logic items tokens
    → DeclarationLimits logic (earlier ++ declared_names items) tokens c code → Forbids kind expected earlier before c code
from-declaration kind expected earlier before c code logic items [] hs e l = absurd (declaration_limits-none logic (earlier ++ declared_names items) c code l)
from-declaration kind expected earlier before c code logic items (d ∷ ds) hs e l =
    by_declaration logic items (d ∷ ds) hs e
    (ap (file_behind kind) e ∙ behind-declaration kind logic items d ds hs (declaration_limits-going logic (earlier ++ declared_names items) (d ∷ ds) c code l)) l

from-clause : (kind : FileKind) (expected : Option Logic) (earlier : List (List ℕ)) (before : List Lexeme) (c : Lexeme) (code : Code) (logic : Logic)
    (items : List WrittenItem) (tokens : List Lexeme) → AreItemsOf logic items → before ≡ logic_word logic ∷ items_tokens logic items tokens
    → ClauseLimits tokens c code → Forbids kind expected earlier before c code
from-clause kind expected earlier before c code logic items [] hs e l = absurd (clause_limits-none c code l)
from-clause kind expected earlier before c code logic items (d ∷ ds) hs e l =
    by_clause logic items (d ∷ ds) hs e (ap (file_behind kind) e ∙ behind-clause kind logic items d ds hs (clause_limits-going (d ∷ ds) c code l)) l

from-file : (kind : FileKind) (expected : Option Logic) (earlier : List (List ℕ)) (before : List Lexeme) (c : Lexeme) (code : Code)
    → FileLimits expected earlier before c code → Forbids kind expected earlier before c code
from-file kind expected earlier before _ _ (limits.FileLimits.wrong_calculus logic e o) = by_word logic e refl refl o
from-file kind expected earlier before c code (limits.FileLimits.in_declaration logic items {tokens = tokens} hs e l) =
    from-declaration kind expected earlier before c code logic items tokens hs e l
from-file kind expected earlier before c code (limits.FileLimits.in_clause logic items {tokens = tokens} hs e l) =
    from-clause kind expected earlier before c code logic items tokens hs e l

from-certificate : (expected : Option Logic) (earlier : List (List ℕ)) (before : List Lexeme) (c : Lexeme) (code : Code)
    → CertificateLimits expected earlier before c code → Forbids Certificate expected earlier before c code
from-certificate expected earlier before c code (limits.CertificateLimits.in_file l) = from-file Certificate expected earlier before c code l
from-certificate expected earlier before c code (limits.CertificateLimits.in_term logic items {tokens = tokens} hs e l) =
    by_term logic items tokens refl hs e
    (ap (file_behind Certificate) e ∙ behind-term logic items tokens hs (term_limits-live tokens c code l)) l

-- the limits of the kind
abbrev LimitsOf : FileKind → Option Logic → List (List ℕ) → List Lexeme → Lexeme → Code → Type 0
LimitsOf Definition expected earlier before c code = FileLimits expected earlier before c code
LimitsOf Certificate expected earlier before c code = CertificateLimits expected earlier before c code

limits-forbid : (kind : FileKind) (expected : Option Logic) (earlier : List (List ℕ)) (before : List Lexeme) (c : Lexeme) (code : Code)
    → LimitsOf kind expected earlier before c code → Forbids kind expected earlier before c code
limits-forbid Definition expected earlier before c code l = from-file Definition expected earlier before c code l
limits-forbid Certificate expected earlier before c code l = from-certificate expected earlier before c code l

file-limits : (kind : FileKind) (expected : Option Logic) (earlier : List (List ℕ)) (before : List Lexeme) (c : Lexeme) (code : Code)
    → FileLimits expected earlier before c code → LimitsOf kind expected earlier before c code
file-limits Definition expected earlier before c code l = l
file-limits Certificate expected earlier before c code l = limits.CertificateLimits.in_file l

-- what forbids a token in a state
abbrev Here : (kind : FileKind) (expected : Option Logic) (earlier : List (List ℕ)) (before : List Lexeme) (c : Lexeme) (code : Code) (s : FileState) → Stands kind before s → Type 0
Here kind expected earlier before c code _ (at_start e) = (logic : Logic) × (c ≡ logic_word logic) × (code ≡ WrongCalculus) × IsOther expected logic
Here kind expected earlier before c code _ (within_declaration logic items cs d hs e r g) = DeclarationLimits logic (earlier ++ declared_names items) cs c code
Here kind expected earlier before c code _ (within_clause logic items cs s hs e r g) = ClauseLimits cs c code
Here kind expected earlier before c code _ (within_term logic items cs t k hs e r l) = TermLimits any_variable None [] cs c code
Here kind expected earlier before c code _ _ = ⊥

rest-once : (logic : Logic) (items : List WrittenItem) (cs ds before : List Lexeme) → before ≡ logic_word logic ∷ items_tokens logic items cs
    → before ≡ logic_word logic ∷ items_tokens logic items ds → cs ≡ ds
rest-once logic items cs ds before e f =
    let g : logic_word logic ∷ items_tokens logic items cs ≡ logic_word logic ∷ items_tokens logic items ds = sym e ∙ f in
    let h : items_tokens logic items cs ≡ items_tokens logic items ds = cc in
    append_cancel_left (items_tokens logic items []) cs ds (sym (items-append logic items [] cs) ∙ h ∙ items-append logic items [] ds)

same-rest : (k l : Logic) (is js : List WrittenItem) (cs ds before : List Lexeme) → k ≡ l → is ≡ js
    → before ≡ logic_word k ∷ items_tokens k is cs → before ≡ logic_word l ∷ items_tokens l js ds → cs ≡ ds
same-rest k l is js cs ds before e f g h =
    rest-once l js cs ds before (g ∙ ap (λ k2. logic_word k2 ∷ items_tokens k2 is cs) e ∙ ap (λ is2. logic_word l ∷ items_tokens l is2 cs) f) h

here-declaration : (kind : FileKind) (expected : Option Logic) (earlier : List (List ℕ)) (before : List Lexeme) (c : Lexeme) (code : Code) (s : FileState) (p : Stands kind before s)
    (logic : Logic) (items : List WrittenItem) (tokens : List Lexeme) → before ≡ logic_word logic ∷ items_tokens logic items tokens
    → s ≡ in_declaration logic items (declaration_behind logic tokens) → DeclarationLimits logic (earlier ++ declared_names items) tokens c code
    → Here kind expected earlier before c code s p
here-declaration kind expected earlier before c code _ (within_declaration k is cs d hs f r g) logic items tokens e q l =
    let same : logic ≡ k = cc in
    let same_items : items ≡ is = cc in
    let rest : tokens ≡ cs = same-rest logic k items is tokens cs before same same_items e f in
    subst (λ k2. DeclarationLimits k2 (earlier ++ declared_names is) cs c code) same
    (subst (λ is2. DeclarationLimits logic (earlier ++ declared_names is2) cs c code) same_items
    (subst (λ cs2. DeclarationLimits logic (earlier ++ declared_names items) cs2 c code) rest l))
here-declaration kind expected earlier before c code _ _ logic items tokens e q l = cc

here-clause : (kind : FileKind) (expected : Option Logic) (earlier : List (List ℕ)) (before : List Lexeme) (c : Lexeme) (code : Code) (s : FileState) (p : Stands kind before s)
    (logic : Logic) (items : List WrittenItem) (tokens : List Lexeme) → before ≡ logic_word logic ∷ items_tokens logic items tokens
    → s ≡ in_clause logic items (clause_behind tokens) → ClauseLimits tokens c code → Here kind expected earlier before c code s p
here-clause kind expected earlier before c code _ (within_clause k is cs s hs f r g) logic items tokens e q l =
    let same : logic ≡ k = cc in
    let same_items : items ≡ is = cc in
    subst (λ cs2. ClauseLimits cs2 c code) (same-rest logic k items is tokens cs before same same_items e f) l
here-clause kind expected earlier before c code _ _ logic items tokens e q l = cc

here-term : (kind : FileKind) (expected : Option Logic) (earlier : List (List ℕ)) (before : List Lexeme) (c : Lexeme) (code : Code) (s : FileState) (p : Stands kind before s)
    (logic : Logic) (items : List WrittenItem) (tokens : List Lexeme) → before ≡ logic_word logic ∷ items_tokens logic items (a_sign sign.Certificate ∷ tokens)
    → s ≡ in_term logic items (term.run any_variable (term.wants alone) tokens) → TermLimits any_variable None [] tokens c code
    → Here kind expected earlier before c code s p
here-term kind expected earlier before c code _ (within_term k is cs t h hs f r live) logic items tokens e q l =
    let same : logic ≡ k = cc in
    let same_items : items ≡ is = cc in
    let rest : a_sign sign.Certificate ∷ tokens ≡ a_sign sign.Certificate ∷ cs =
    same-rest logic k items is (a_sign sign.Certificate ∷ tokens) (a_sign sign.Certificate ∷ cs) before same same_items e f in
    let d : tokens ≡ cs = cc in
    subst (λ cs2. TermLimits any_variable None [] cs2 c code) d l
here-term kind expected earlier before c code _ _ logic items tokens e q l = cc

here-word : (kind : FileKind) (expected : Option Logic) (earlier : List (List ℕ)) (before : List Lexeme) (c : Lexeme) (code : Code) (s : FileState) (p : Stands kind before s)
    (logic : Logic) → s ≡ start → c ≡ logic_word logic → code ≡ WrongCalculus → IsOther expected logic → Here kind expected earlier before c code s p
here-word kind expected earlier before c code _ (at_start e) logic q w d o = (logic, w, d, o)
here-word kind expected earlier before c code _ _ logic q w d o = cc

forbidden-here : (kind : FileKind) (expected : Option Logic) (earlier : List (List ℕ)) (before : List Lexeme) (c : Lexeme) (code : Code) (s : FileState) (p : Stands kind before s)
    → file_behind kind before ≡ s → Forbids kind expected earlier before c code → Here kind expected earlier before c code s p
forbidden-here kind expected earlier before c code s p r (by_word logic e w d o) =
    here-word kind expected earlier before c code s p logic (sym r ∙ ap (file_behind kind) e) w d o
forbidden-here kind expected earlier before c code s p r (by_declaration logic items tokens hs e q l) =
    here-declaration kind expected earlier before c code s p logic items tokens e (sym r ∙ q) l
forbidden-here kind expected earlier before c code s p r (by_clause logic items tokens hs e q l) =
    here-clause kind expected earlier before c code s p logic items tokens e (sym r ∙ q) l
forbidden-here kind expected earlier before c code s p r (by_term logic items tokens k hs e q l) =
    here-term kind expected earlier before c code s p logic items tokens e (sym r ∙ q) l

limits-here : (kind : FileKind) (expected : Option Logic) (earlier : List (List ℕ)) (before : List Lexeme) (c : Lexeme) (code : Code)
    → LimitsOf kind expected earlier before c code → Here kind expected earlier before c code (file_behind kind before) (stands kind before)
limits-here kind expected earlier before c code l =
    forbidden-here kind expected earlier before c code (file_behind kind before) (stands kind before) refl (limits-forbid kind expected earlier before c code l)

here-limits : (kind : FileKind) (expected : Option Logic) (earlier : List (List ℕ)) (before : List Lexeme) (c : Lexeme) (code : Code) (s : FileState) (p : Stands kind before s)
    → Here kind expected earlier before c code s p → LimitsOf kind expected earlier before c code
here-limits kind expected earlier before c code _ (at_start e) h =
    file-limits kind expected earlier before c code
    (subst (λ d. FileLimits expected earlier before d code) (sym h.1)
    (subst (λ d. FileLimits expected earlier before (logic_word h.0) d) (sym h.2) (limits.FileLimits.wrong_calculus h.0 e h.3)))
here-limits kind expected earlier before c code _ (within_declaration logic items cs d hs e r g) h =
    file-limits kind expected earlier before c code (limits.FileLimits.in_declaration logic items hs e h)
here-limits kind expected earlier before c code _ (within_clause logic items cs s hs e r g) h =
    file-limits kind expected earlier before c code (limits.FileLimits.in_clause logic items hs e h)
here-limits kind expected earlier before c code _ (within_term logic items cs t k hs e r l) h =
    subst (λ k2. LimitsOf k2 expected earlier before c code) (sym k) (limits.CertificateLimits.in_term logic items hs e h)
here-limits kind expected earlier before c code _ _ h = absurd h

-- one limit forbids a token
here-once : (kind : FileKind) (expected : Option Logic) (earlier : List (List ℕ)) (before : List Lexeme) (c : Lexeme) (a b : Code) (s : FileState) (p : Stands kind before s)
    → Here kind expected earlier before c a s p → Here kind expected earlier before c b s p → a ≡ b
here-once kind expected earlier before c a b _ (at_start e) h k = h.2 ∙ sym k.2
here-once kind expected earlier before c a b _ (within_declaration logic items cs d hs e r g) h k =
    declaration_limits-once logic (earlier ++ declared_names items) cs c a b h k
here-once kind expected earlier before c a b _ (within_clause logic items cs s hs e r g) h k = clause_limits-once cs c a b h k
here-once kind expected earlier before c a b _ (within_term logic items cs t q hs e r l) h k = term_limits-once cs c a b h k
here-once kind expected earlier before c a b _ _ h k = absurd h

limits-once : (kind : FileKind) (expected : Option Logic) (earlier : List (List ℕ)) (before : List Lexeme) (c : Lexeme) (a b : Code)
    → LimitsOf kind expected earlier before c a → LimitsOf kind expected earlier before c b → a ≡ b
limits-once kind expected earlier before c a b l m =
    here-once kind expected earlier before c a b (file_behind kind before) (stands kind before)
    (limits-here kind expected earlier before c a l) (limits-here kind expected earlier before c b m)

pub definition_limits-once : (expected : Option Logic) (before : List Lexeme) (c : Lexeme) (a b : Code) → DefinitionLimits expected before c a
    → DefinitionLimits expected before c b → a ≡ b
definition_limits-once expected before c a b l m = limits-once Definition expected [] before c a b l m

pub certificate_limits-once : (expected : Option Logic) (earlier : List (List ℕ)) (before : List Lexeme) (c : Lexeme) (a b : Code) → CertificateLimits expected earlier before c a
    → CertificateLimits expected earlier before c b → a ≡ b
certificate_limits-once expected earlier before c a b l m = limits-once Certificate expected earlier before c a b l m

-- what the answer about a token says, where its step leads to a state
abbrev IsHereJudged : (kind : FileKind) (expected : Option Logic) (earlier : List (List ℕ)) (before : List Lexeme) (c : Lexeme) (s : FileState) → Stands kind before s
    → FileState → Result FileState Code → Type 0
IsHereJudged kind expected earlier before c s p t (Ok u) = (t ≡ u) × IsLiveFile t × ((code : Code) → Here kind expected earlier before c code s p → ⊥)
IsHereJudged kind expected earlier before c s p t (Err code) = ((t ≡ lost) × (code ≡ Unexpected)) ⊎ (IsLiveFile t × Here kind expected earlier before c code s p)

-- where no limit forbids the token
judged-free : (kind : FileKind) (expected : Option Logic) (earlier : List (List ℕ)) (before : List Lexeme) (c : Lexeme) (s : FileState) (p : Stands kind before s) (t : FileState)
    → ((code : Code) → Here kind expected earlier before c code s p → ⊥) → IsHereJudged kind expected earlier before c s p t (within t)
judged-free kind expected earlier before c s p lost n = inl (refl, refl)
judged-free kind expected earlier before c s p _ n = (refl, tt, n)

-- the word of a logic
other-is : (expected : Option Logic) (logic : Logic) → is_other expected logic ≡ true → IsOther expected logic
other-is (Some Lkf) Ljf e = tt
other-is (Some Ljf) Lkf e = tt
other-is _ _ e = cc

is-other : (expected : Option Logic) (logic : Logic) → IsOther expected logic → is_other expected logic ≡ true
is-other (Some Lkf) Ljf o = refl
is-other (Some Ljf) Lkf o = refl
is-other _ _ o = absurd o

abbrev word_logic : Lexeme → Option Logic
word_logic (a_name x) = logic_of x
word_logic _ = None

word_logic-is : (logic : Logic) → word_logic (logic_word logic) ≡ Some logic
word_logic-is Lkf = refl
word_logic-is Ljf = refl

judged-picked : (kind : FileKind) (expected : Option Logic) (earlier : List (List ℕ)) (before : List Lexeme) (x : List ℕ) (e : before ≡ []) (logic : Logic) (b : Bool)
    → logic_of x ≡ Some logic → is_other expected logic ≡ b
    → IsHereJudged kind expected earlier before (a_name x) start (at_start e) (at_item logic []) (if b then Err WrongCalculus else Ok (at_item logic []))
judged-picked kind expected earlier before x e logic true h o = inr (tt, (logic, logic_of-word x logic h, refl, other-is expected logic o))
judged-picked kind expected earlier before x e logic false h o = (refl, tt, none) where
  none : (code : Code) → Here kind expected earlier before (a_name x) code start (at_start e) → ⊥
  none code k =
      let f : Some logic ≡ Some k.0 = sym h ∙ ap word_logic k.1 ∙ word_logic-is k.0 in
      let g : logic ≡ k.0 = cc in
      let m : is_other expected logic ≡ true = ap (is_other expected) g ∙ is-other expected k.0 k.3 in
      let n : true ≡ false = sym m ∙ o in cc

judged-word : (kind : FileKind) (expected : Option Logic) (earlier : List (List ℕ)) (before : List Lexeme) (x : List ℕ) (e : before ≡ []) (o : Option Logic)
    → logic_of x ≡ o → IsHereJudged kind expected earlier before (a_name x) start (at_start e) (begun_in o) (begun_within expected o)
judged-word kind expected earlier before x e (Some logic) h = judged-picked kind expected earlier before x e logic (is_other expected logic) h refl
judged-word kind expected earlier before x e None h = inl (refl, refl)

-- a declaration's, a clause's and a term's answer
declared-live : (logic : Logic) (items : List WrittenItem) (d : declaring.DeclarationState) → IsLiveDeclaration d → IsLiveFile (declared logic items d)
declared-live logic items declaring.stuck l = absurd l
declared-live logic items _ l = tt

claused-live : (logic : Logic) (items : List WrittenItem) (s : clause.ClauseState) → IsLiveClause s → IsLiveFile (claused logic items s)
claused-live logic items clause.stuck l = absurd l
claused-live logic items _ l = tt

read_on-live : (logic : Logic) (items : List WrittenItem) (t : term.TermState) → term.IsLive t → read_on logic items t ≡ in_term logic items t
read_on-live logic items term.stuck l = absurd l
read_on-live logic items _ l = refl

judged-declared : (kind : FileKind) (expected : Option Logic) (earlier : List (List ℕ)) (before : List Lexeme) (c : Lexeme) (logic : Logic) (items : List WrittenItem)
    (cs : List Lexeme) (d t : declaring.DeclarationState) (hs : AreItemsOf logic items) (e : before ≡ logic_word logic ∷ items_tokens logic items cs)
    (r : declaration_behind logic cs ≡ d) (g : IsGoingDeclaration d) (a : Result declaring.DeclarationState Code)
    → IsDeclarationJudged logic (earlier ++ declared_names items) cs c t a
    → IsHereJudged kind expected earlier before c (in_declaration logic items d) (within_declaration logic items cs d hs e r g) (declared logic items t) (declared_within logic items a)
judged-declared kind expected earlier before c logic items cs d t hs e r g (Ok u) j =
    (ap (declared logic items) j.0, declared-live logic items t (subst IsLiveDeclaration (sym j.0) j.1), j.2)
judged-declared kind expected earlier before c logic items cs d t hs e r g (Err code) (inl j) = inl (ap (declared logic items) j.0, j.1)
judged-declared kind expected earlier before c logic items cs d t hs e r g (Err code) (inr j) = inr (declared-live logic items t j.0, j.1)

judged-claused : (kind : FileKind) (expected : Option Logic) (earlier : List (List ℕ)) (before : List Lexeme) (c : Lexeme) (logic : Logic) (items : List WrittenItem)
    (cs : List Lexeme) (s t : clause.ClauseState) (hs : AreItemsOf logic items) (e : before ≡ logic_word logic ∷ items_tokens logic items cs)
    (r : clause_behind cs ≡ s) (g : IsGoingClause s) (a : Result clause.ClauseState Code) → IsClauseJudged cs c t a
    → IsHereJudged kind expected earlier before c (in_clause logic items s) (within_clause logic items cs s hs e r g) (claused logic items t) (claused_within logic items a)
judged-claused kind expected earlier before c logic items cs s t hs e r g (Ok u) j =
    (ap (claused logic items) j.0, claused-live logic items t (subst IsLiveClause (sym j.0) j.1), j.2)
judged-claused kind expected earlier before c logic items cs s t hs e r g (Err code) (inl j) = inl (ap (claused logic items) j.0, j.1)
judged-claused kind expected earlier before c logic items cs s t hs e r g (Err code) (inr j) = inr (claused-live logic items t j.0, j.1)

judged-read : (kind : FileKind) (expected : Option Logic) (earlier : List (List ℕ)) (before : List Lexeme) (c : Lexeme) (logic : Logic) (items : List WrittenItem)
    (cs : List Lexeme) (t u : term.TermState) (k : kind ≡ Certificate) (hs : AreItemsOf logic items) (e : before ≡ logic_word logic ∷ items_tokens logic items (a_sign sign.Certificate ∷ cs))
    (r : term.run any_variable (term.wants alone) cs ≡ t) (l : term.IsLive t) (a : Result term.TermState Code) → IsTermJudged cs c u a
    → IsHereJudged kind expected earlier before c (in_term logic items t) (within_term logic items cs t k hs e r l) (read_on logic items u) (read_within logic items a)
judged-read kind expected earlier before c logic items cs t u k hs e r l (Ok v) j =
    let f = read_on-live logic items u j.1 in (f ∙ ap (in_term logic items) j.0, subst IsLiveFile (sym f) tt, j.2)
judged-read kind expected earlier before c logic items cs t u k hs e r l (Err code) (inl j) = inl (ap (read_on logic items) j.0, j.1)
judged-read kind expected earlier before c logic items cs t u k hs e r l (Err code) (inr j) =
    inr (subst IsLiveFile (sym (read_on-live logic items u j.0)) tt, j.1)

-- no limit forbids a dot behind a term
dot-free : (cs : List Lexeme) (t : term.TermState) (code : Code) → term.run any_variable (term.wants alone) cs ≡ t
    → TermLimits any_variable None [] cs (a_sign sign.Dot) code → ⊥
dot-free cs t code r l = subst term.IsLive (term-dot any_variable t) (term_limits-step cs (a_sign sign.Dot) t code r l)

judged-term : (kind : FileKind) (expected : Option Logic) (earlier : List (List ℕ)) (before : List Lexeme) (c : Lexeme) (logic : Logic) (items : List WrittenItem)
    (cs : List Lexeme) (t : term.TermState) (k : kind ≡ Certificate) (hs : AreItemsOf logic items) (e : before ≡ logic_word logic ∷ items_tokens logic items (a_sign sign.Certificate ∷ cs))
    (r : term.run any_variable (term.wants alone) cs ≡ t) (l : term.IsLive t)
    → IsHereJudged kind expected earlier before c (in_term logic items t) (within_term logic items cs t k hs e r l) (step kind (in_term logic items t) c)
    (limited kind expected earlier (in_term logic items t) c)
judged-term kind expected earlier before (a_sign sign.Dot) logic items cs t k hs e r l =
    judged-free kind expected earlier before (a_sign sign.Dot) (in_term logic items t) (within_term logic items cs t k hs e r l) (dotted logic items (term.whole_of t))
    (λ code h. dot-free cs t code r h)
judged-term kind expected earlier before c logic items cs t k hs e r l =
    judged-read kind expected earlier before c logic items cs t (term.step any_variable t c) k hs e r l (term.limited any_variable None [] t c) (term-judged cs c t r)

judged-start : (kind : FileKind) (expected : Option Logic) (earlier : List (List ℕ)) (before : List Lexeme) (c : Lexeme) (e : before ≡ [])
    → IsHereJudged kind expected earlier before c start (at_start e) (step kind start c) (limited kind expected earlier start c)
judged-start kind expected earlier before (a_name x) e = judged-word kind expected earlier before x e (logic_of x) refl
judged-start kind expected earlier before c e = inl (refl, refl)

judged-here : (kind : FileKind) (expected : Option Logic) (earlier : List (List ℕ)) (before : List Lexeme) (c : Lexeme) (s : FileState) (p : Stands kind before s)
    → IsHereJudged kind expected earlier before c s p (step kind s c) (limited kind expected earlier s c)
judged-here kind expected earlier before c _ (at_start e) = judged-start kind expected earlier before c e
judged-here kind expected earlier before c _ (at_items logic items hs e) =
    judged-free kind expected earlier before c (at_item logic items) (at_items logic items hs e) (begun kind logic items c) (λ code h. h)
judged-here kind expected earlier before c _ (within_declaration logic items cs d hs e r g) =
    judged-declared kind expected earlier before c logic items cs d (declaring.step logic d c) hs e r g (declaring.limited logic (earlier ++ declared_names items) d c)
    (subst (λ d2. IsDeclarationJudged logic (earlier ++ declared_names items) cs c (declaring.step logic d2 c) (declaring.limited logic (earlier ++ declared_names items) d2 c)) r
    (declaration-judged logic (earlier ++ declared_names items) cs c))
judged-here kind expected earlier before c _ (within_clause logic items cs s hs e r g) =
    judged-claused kind expected earlier before c logic items cs s (clause.step s c) hs e r g (clause.limited s c)
    (subst (λ s2. IsClauseJudged cs c (clause.step s2 c) (clause.limited s2 c)) r (clause-judged cs c))
judged-here kind expected earlier before c _ (within_term logic items cs t k hs e r l) = judged-term kind expected earlier before c logic items cs t k hs e r l
judged-here kind expected earlier before c _ (at_end logic items w k hs e) = inl (refl, refl)
judged-here kind expected earlier before c _ nowhere = inl (refl, refl)

-- a token is refused or taken exactly as the machine says, for both kinds
module _ {W : Type 0} (kind : FileKind) (expected : Option Logic) (earlier : List (List ℕ)) (IsWhole : List Lexeme → W → Type 0)
    (once : (tokens : List Lexeme) (v w : W) → IsWhole tokens v → IsWhole tokens w → v ≡ w)
    (live-told : (tokens : List Lexeme) → IsLiveFile (file_behind kind tokens) ↔ Begins IsWhole (LimitsOf kind expected earlier) tokens) where
  -- what the answer about a token says, where its step leads to a state
  abbrev IsFileJudged : List Lexeme → Lexeme → FileState → Result FileState Code → Type 0
  IsFileJudged before c t (Ok u) = IsTaken IsWhole (LimitsOf kind expected earlier) before c × (t ≡ u)
  IsFileJudged before c t (Err code) = IsRefused IsWhole (LimitsOf kind expected earlier) before c code

  step-begins : (before : List Lexeme) (c : Lexeme) → IsLiveFile (step kind (file_behind kind before) c) → Begins IsWhole (LimitsOf kind expected earlier) (before ++ c ∷ [])
  step-begins before c live = (live-told (before ++ c ∷ [])).0 (subst IsLiveFile (sym (file_behind-step kind before c)) live)

  begins-step : (before : List Lexeme) (c : Lexeme) → Begins IsWhole (LimitsOf kind expected earlier) (before ++ c ∷ []) → IsLiveFile (step kind (file_behind kind before) c)
  begins-step before c b = subst IsLiveFile (file_behind-step kind before c) ((live-told (before ++ c ∷ [])).1 b)

  judged-answer : (before : List Lexeme) (c : Lexeme) (r : Result FileState Code)
      → IsHereJudged kind expected earlier before c (file_behind kind before) (stands kind before) (step kind (file_behind kind before) c) r
      → IsFileJudged before c (step kind (file_behind kind before) c) r
  judged-answer before c (Ok u) j =
      (record { begins = step-begins before c j.1; free = λ code l. j.2 code (limits-here kind expected earlier before c code l) }, j.0)
  judged-answer before c (Err code) (inl j) =
      subst (IsRefused IsWhole (LimitsOf kind expected earlier) before c) (sym j.1)
      (read.IsRefused.unexpected (λ b. subst IsLiveFile j.0 (begins-step before c b)))
  judged-answer before c (Err code) (inr j) =
      read.IsRefused.limited (step-begins before c j.0) (here-limits kind expected earlier before c code (file_behind kind before) (stands kind before) j.1)

  file-judged : (before : List Lexeme) (c : Lexeme) → IsFileJudged before c (step kind (file_behind kind before) c) (limited kind expected earlier (file_behind kind before) c)
  file-judged before c =
      judged-answer before c (limited kind expected earlier (file_behind kind before) c) (judged-here kind expected earlier before c (file_behind kind before) (stands kind before))

  answer-refused : (before : List Lexeme) (c : Lexeme) (t : FileState) (r : Result FileState Code) (code : Code) → IsFileJudged before c t r
      → IsRefused IsWhole (LimitsOf kind expected earlier) before c code → r ≡ Err code
  answer-refused before c t (Ok u) code j h = absurd (taken-refused IsWhole (LimitsOf kind expected earlier) j.0 h)
  answer-refused before c t (Err d) code j h = ap Err (refused-once IsWhole (LimitsOf kind expected earlier) once (limits-once kind expected earlier) j h)

  answer-taken : (before : List Lexeme) (c : Lexeme) (t : FileState) (r : Result FileState Code) → IsFileJudged before c t r
      → IsTaken IsWhole (LimitsOf kind expected earlier) before c → r ≡ Ok t
  answer-taken before c t (Ok u) j h = ap Ok (sym j.1)
  answer-taken before c t (Err d) j h = absurd (taken-refused IsWhole (LimitsOf kind expected earlier) h j)

  refused-told : (before : List Lexeme) (c : Lexeme) (code : Code)
      → limited kind expected earlier (file_behind kind before) c ≡ Err code ↔ IsRefused IsWhole (LimitsOf kind expected earlier) before c code
  refused-told before c code = (
    λ e. subst (IsFileJudged before c (step kind (file_behind kind before) c)) e (file-judged before c),
    answer-refused before c (step kind (file_behind kind before) c) (limited kind expected earlier (file_behind kind before) c) code (file-judged before c),
  )

  taken-told : (before : List Lexeme) (c : Lexeme) (t : FileState)
      → limited kind expected earlier (file_behind kind before) c ≡ Ok t
      ↔ (IsTaken IsWhole (LimitsOf kind expected earlier) before c × (step kind (file_behind kind before) c ≡ t))
  taken-told before c t = (
    λ e. subst (IsFileJudged before c (step kind (file_behind kind before) c)) e (file-judged before c),
    λ h. answer-taken before c (step kind (file_behind kind before) c) (limited kind expected earlier (file_behind kind before) c) (file-judged before c) h.0 ∙ ap Ok h.1,
  )

-- a token is refused with a code exactly where the answer is this code
pub definition_refused-told : (expected : Option Logic) (before : List Lexeme) (c : Lexeme) (code : Code)
    → limited Definition expected [] (file_behind Definition before) c ≡ Err code ↔ IsRefused IsDefinition (DefinitionLimits expected) before c code
definition_refused-told expected before c code = refused-told Definition expected [] IsDefinition definition-once (definition_live-told expected) before c code

pub certificate_refused-told : (expected : Option Logic) (earlier : List (List ℕ)) (before : List Lexeme) (c : Lexeme) (code : Code)
    → limited Certificate expected earlier (file_behind Certificate before) c ≡ Err code ↔ IsRefused IsCertificate (CertificateLimits expected earlier) before c code
certificate_refused-told expected earlier before c code =
    refused-told Certificate expected earlier IsCertificate certificate-once (certificate_live-told expected earlier) before c code

-- a token is taken exactly where the answer is the next state
pub definition_taken-told : (expected : Option Logic) (before : List Lexeme) (c : Lexeme) (t : FileState)
    → limited Definition expected [] (file_behind Definition before) c ≡ Ok t
    ↔ (IsTaken IsDefinition (DefinitionLimits expected) before c × (step Definition (file_behind Definition before) c ≡ t))
definition_taken-told expected before c t = taken-told Definition expected [] IsDefinition definition-once (definition_live-told expected) before c t

pub certificate_taken-told : (expected : Option Logic) (earlier : List (List ℕ)) (before : List Lexeme) (c : Lexeme) (t : FileState)
    → limited Certificate expected earlier (file_behind Certificate before) c ≡ Ok t
    ↔ (IsTaken IsCertificate (CertificateLimits expected earlier) before c × (step Certificate (file_behind Certificate before) c ≡ t))
certificate_taken-told expected earlier before c t =
    taken-told Certificate expected earlier IsCertificate certificate-once (certificate_live-told expected earlier) before c t
