-- An atom that was read has its names in the table, is open, and has at most 255 arguments.
use Rattle.std.proofs.Common.{◌≡◌, inl, inr, ℕ, suc, ◌≤◌, ◌<◌, false, List, [], ◌∷◌, ◌++◌, length, refl, ap, sym, subst, ◌∙◌, arith, append-nil, append_assoc, None, Result, Ok, Err, IfOk}
use Rattle.std.proofs.lemmas.List.Elements.{All-nil, All-cons}
use Rattle.fpc_base.specs.declared.refusal.Code.{Code}
use Rattle.fpc_base.specs.declared.refusal.ParseRefusal.{ParseRefusal}
use Rattle.fpc_base.specs.declared.tokens.lexeme.Sign.TheVariants as sign
use Rattle.fpc_base.specs.Lexeme.{Lexeme, a_sign, Item}
use Rattle.fpc_base.specs.Reading.{IsTaken, ReadsAll}
use Rattle.fpc_base.specs.Reading as reading
use Rattle.fpc_terms.specs.Machine.{TermState, wants, named, has, stuck, step, IsLive, is_full, within, limited}
use Rattle.fpc_terms.specs.Name.{AreDifferent, index_in}
use Rattle.fpc_terms.specs.Open.{IsOpen, AreOpen}
use Rattle.fpc_terms.specs.ReadTerm.{any_variable, numbered}
use Rattle.fpc_terms.specs.Spot.{Spot, alone, in_term}
use Rattle.fpc_terms.specs.Term.{Term, Args, no_args, arg, terms_in, EachArg, Never, Always}
use Rattle.fpc_terms.specs.Written.{WrittenArgs, application, no_words, words, args_tokens, more_tokens, args_meant}
use Rattle.fpc_terms.proofs.AnyTerm.{IsTermJudged, term-judged}
use Rattle.fpc_terms.proofs.ReadFacts.{Agrees-index_in}
use Rattle.fpc_terms.proofs.ScopeFacts.{EachArg-weaker}
use Rattle.fpc_terms.proofs.TermLaws.{IsBehind, more-behind}
use Rattle.fpc_terms.proofs.TermReading.{run-one}
use Rattle.polarised_formulas.proofs.Small.{words_count}
use Rattle.clause_language.specs.declared.atom.Atom.{Atom}
use Rattle.clause_language.specs.Meant.{atom_meant}
use Rattle.clause_language.specs.Naming.{IsAtomNamedBelow}
use Rattle.clause_language.specs.Printable.{Below}
use Rattle.clause_language.specs.Program.{HasFewArguments}
use Rattle.clause_language.specs.ReadAtom.{IsAtom, AtomLimits, atom_variables, AtomIsRead}
use Rattle.clause_language.specs.Written.{WrittenAtom, atom_tokens}
use Rattle.clause_language.proofs.AtomReading.{term_behind, atom-live}
use Rattle.clause_language.proofs.FileNames.{atom-below}
use Rattle.clause_language.proofs.TermPassing.{Embeds, passed-term, passed-more}
use Rattle.clause_language.proofs.VariableOrder.{texts_to, texts_to_all, variables_in-args, ordered-whole_args, below-args}

-- OPEN
all-open : (k : ℕ) (ts : Args) → EachArg Never Never (Below k) ts → AreOpen k (terms_in ts)
all-open k no_args h = All-nil (IsOpen k)
all-open k (arg t ts) h =
    All-cons (IsOpen k) t (terms_in ts)
    ((EachArg-weaker {e = Never} {e' = Always} {b = Never} {b' = Never} {v = Below k} {v' = λ n. n < k} (λ n f. tt) (λ n f. f) (λ n lt. lt) (arg t no_args) (h.0, tt)).0)
    (all-open k ts h.1)

-- variables are numbered below their count
open-atom : (number : List ℕ → ℕ) (w : WrittenAtom) → AreOpen (length (atom_variables w)) (atom_meant number (index_in (atom_variables w)) w).arguments
open-atom number w =
    let vs : atom_variables w ≡ texts_to_all w.args [] = variables_in-args w.args [] [] in
    subst (λ us. AreOpen (length us) (atom_meant number (index_in us) w).arguments) (sym vs)
    (let texts : List (List ℕ) = texts_to_all w.args [] in
    let ts : Args = args_meant number (numbered (index_in texts)) w.args in
    let o = ordered-whole_args number w.args in
    let counted = o.1 in
    all-open (length texts) ts (below-args (length texts) ts 0 o.0 (omega (arith, counted))))

-- FEW
-- the machine of terms passes the tokens, within its limits
abbrev PassesTerm : TermState → List Lexeme → Type 0
PassesTerm t [] = Unit {0}
PassesTerm t (c ∷ cs) = (limited any_variable None [] t c ≡ Ok (step any_variable t c)) × PassesTerm (step any_variable t c) cs

within-live : (t : TermState) → IsLive t → is_full t ≡ false → within (is_full t) false t ≡ Ok t
within-live (wants s) live e = ap (λ b. within b false (wants s)) e
within-live (named x s) live e = refl
within-live (has u s) live e = refl
within-live stuck live e = absurd live
within-live t live e = refl

within-full : (t u : TermState) → within (is_full t) false t ≡ Ok u → is_full t ≡ false
within-full (wants s) u e = from (is_full (wants s)) e where
  from : (b : _) → within b false (wants s) ≡ Ok u → b ≡ false
  from false e = refl
  from _ e = cc
within-full stuck u e = cc
within-full t u e = refl

named-passes : (y : List ℕ) (s : Spot) (rest : List Lexeme) → IsBehind rest → PassesTerm (named y s) rest ≡ PassesTerm (has (application y no_words) s) rest
named-passes y s [] b = absurd b
named-passes y s (a_sign sign.OpenParenthesis ∷ rest) b = absurd b
named-passes y s (c ∷ rest) b = refl

passes-embeds : Embeds None (λ vs t cs. PassesTerm t cs)
passes-embeds = record {
  go = λ vs t c cs live full few h. (within-live (step any_variable t c) live full, h);
  gone = λ vs t c cs live h. (within-full (step any_variable t c) (step any_variable t c) h.0, refl, h.1);
  name_on = λ vs y s rest b h. subst (λ (A : Type 0). A) (sym (named-passes y s rest b)) h;
  name_gone = λ vs y s rest b h. subst (λ (A : Type 0). A) (named-passes y s rest b) h;
}

-- a token that is taken is within the limits
passes-judged : (before : List Lexeme) (c : Lexeme) (answer : Result TermState Code) → IsTaken IsAtom AtomLimits before c → IsTermJudged before c (term_behind (before ++ c ∷ [])) answer
    → answer ≡ Ok (term_behind (before ++ c ∷ []))
passes-judged before c (Ok t) k j = ap Ok (sym j.0)
passes-judged before c (Err code) k (inl u) = absurd (subst IsLive u.0 (atom-live (before ++ c ∷ []) k.begins))
passes-judged before c (Err code) k (inr l) = absurd (k.free code l.1)

passes-taken : (before : List Lexeme) (c : Lexeme) → IsTaken IsAtom AtomLimits before c
    → limited any_variable None [] (term_behind before) c ≡ Ok (step any_variable (term_behind before) c)
passes-taken before c k =
    let one : term_behind (before ++ c ∷ []) ≡ step any_variable (term_behind before) c = run-one any_variable before c (term_behind before) refl in
    passes-judged before c (limited any_variable None [] (term_behind before) c) k
    (subst (λ t. IsTermJudged before c t (limited any_variable None [] (term_behind before) c)) (sym one) (term-judged before c (term_behind before) refl))
    ∙ ap Ok one

-- what was read behind other tokens
record IsPassed (before : List Lexeme) (w : WrittenAtom) : Type 0 where
  tokens : List Lexeme
  whole : before ++ tokens ≡ atom_tokens w []
  passes : PassesTerm (term_behind before) tokens

passes-read : (before : List Lexeme) (items : List Item) (w : WrittenAtom) → ReadsAll IsAtom AtomLimits before items w → IsPassed before w
passes-read before _ w (reading.ReadsAll.at_end h) = record { tokens = []; whole = append-nil before ∙ h; passes = tt }
passes-read before _ w (reading.ReadsAll.later {c = c} {items = items} k h) =
    let r = passes-read (before ++ c ∷ []) items w h in
    record {
      tokens = c ∷ r.tokens;
      whole = sym (append_assoc before (c ∷ []) r.tokens) ∙ r.whole;
      passes = (passes-taken before c k, subst (λ t. PassesTerm t r.tokens) (run-one any_variable before c (term_behind before) refl) r.passes);
    }

-- the arguments behind a name
few-passed : (x : List ℕ) (args : WrittenArgs) → PassesTerm (named x alone) (args_tokens args []) → words_count args ≤ 255
few-passed x no_words h = omega arith
few-passed x (words t ts) h =
    let P : List (List ℕ) → TermState → List Lexeme → Type 0 = (λ vs s cs. PassesTerm s cs) in
    let first = passed-term None P passes-embeds t (in_term x [] alone) [] (more_tokens ts []) (more-behind ts []) tt h.1 in
    let later = passed-more None P passes-embeds x [] t ts alone (texts_to t []) [] (omega arith) tt first.2 in
    let count = later.1 in omega (arith, count)

few-read : (items : List Item) (w : WrittenAtom) → ReadsAll IsAtom AtomLimits [] items w → words_count w.args ≤ 255
few-read items w h =
    let p = passes-read [] items w h in
    few-passed w.text w.args (subst (λ cs. PassesTerm (wants alone) cs) p.whole p.passes).1

length-meant : (number : List ℕ → ℕ) (leaf : List ℕ → Term) (ts : WrittenArgs) → length (terms_in (args_meant number leaf ts)) ≡ words_count ts
length-meant number leaf no_words = refl
length-meant number leaf (words t ts) = ap suc (length-meant number leaf ts)

-- WHAT WAS READ
module _ (items : List Item) (names : List (List ℕ)) (d : AreDifferent names) where
  module _ (read : Atom × ℕ) (h : AtomIsRead items names read) where
    -- the atom by the table's own numbering
    own_meant : read.0 ≡ atom_meant (index_in names) (index_in (atom_variables h.written)) h.written
    own_meant = h.meant (index_in names) (Agrees-index_in names d)

    named-read : IsAtomNamedBelow (length names) read.0
    named-read =
        subst (IsAtomNamedBelow (length names)) (sym own_meant)
        (atom-below names d (index_in (atom_variables h.written)) h.written (λ number agrees. sym (h.meant number agrees) ∙ own_meant))

    open-read : AreOpen read.1 read.0.arguments
    open-read =
        subst (λ k. AreOpen k read.0.arguments) (sym h.counted)
        (subst (λ (a : Atom). AreOpen (length (atom_variables h.written)) a.arguments) (sym own_meant) (open-atom (index_in names) h.written))

    arguments-read : HasFewArguments read.0
    arguments-read =
        let few = few-read items h.written h.reads in
        let count = length-meant (index_in names) (numbered (index_in (atom_variables h.written))) h.written.args in
        subst HasFewArguments (sym own_meant) (omega (arith, few, count))

  pub result-named : (result : Result (Atom × ℕ) ParseRefusal) → IfOk result (AtomIsRead items names) → IfOk result (λ read. IsAtomNamedBelow (length names) read.0)
  result-named (Ok read) h = named-read read h
  result-named (Err f) h = tt

  pub result-open : (result : Result (Atom × ℕ) ParseRefusal) → IfOk result (AtomIsRead items names) → IfOk result (λ read. AreOpen read.1 read.0.arguments)
  result-open (Ok read) h = open-read read h
  result-open (Err f) h = tt

  pub result-few : (result : Result (Atom × ℕ) ParseRefusal) → IfOk result (AtomIsRead items names) → IfOk result (λ read. HasFewArguments read.0)
  result-few (Ok read) h = arguments-read read h
  result-few (Err f) h = tt
