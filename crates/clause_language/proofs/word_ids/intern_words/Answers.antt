use Rattle.std.proofs.Common.{◌≡◌, ℕ, ◌<◌, List, [], get_or, refl, subst, sym, arith}
use Rattle.fpc_terms.specs.Name.{IsName}
use Rattle.fpc_terms.proofs.AddingFacts.{AddsOnly-same}
use Rattle.clause_language.specs.Program.{IsWord, words}
use Rattle.clause_language.proofs.Words.{first-all, first-more, first-none, only-more, text-at, word-at}
use Rattle.clause_language.proofs.word_ids.intern_words.Goals as goal

-- a word at its place
name-of_text : (text : List ℕ) (k : ℕ) → text ≡ get_or words k [] → k < 38 → IsName text
name-of_text text k is lt = subst IsName (sym is) (word-at k lt)

pub intern-requires : goal.intern-requires
intern-requires c = name-of_text _ 0 (text-at (λ t. t.now) c.args.texts.now words 0 _ c.requires (omega arith)) (omega arith)

pub intern-requires-in-loop-k : goal.intern-requires-in-loop-k
intern-requires-in-loop-k c =
    let lt : c.loop-k.k < 38 = c.loop-k-test.true in
    name-of_text _ c.loop-k.k (text-at (λ t. t.now) c.args.texts.now words c.loop-k.k _ c.requires lt) lt

pub loop-k-init : goal.loop-k-init
loop-k-init c =
    let is = text-at (λ t. t.now) c.args.texts.now words 0 _ c.requires (omega arith) in
    first-none words c.args.names.now c.intern.new.self _ refl c.intern.ensures.grows
    (only-more words c.args.names.now c.args.names.now c.intern.new.self 0 _ (omega arith) is (AddsOnly-same IsWord c.args.names.now) c.intern.ensures.only)

pub loop-k-preserved : goal.loop-k-preserved
loop-k-preserved c =
    let lt : c.loop-k.k < 38 = c.loop-k-test.true in
    let is = text-at (λ t. t.now) c.args.texts.now words c.loop-k.k _ c.requires lt in
    first-more words c.args.names.now c.loop-k.names c.intern-in-loop-k.new.self c.loop-k.ids c.loop-k.k _ c.in_ok-ids.field-0 lt is c.loop-k.invariant
    c.in_ok-ids.ensures.id c.intern-in-loop-k.ensures.grows c.intern-in-loop-k.ensures.only

pub returns : goal.returns
returns c =
    let h = c.loop-k.invariant in record {
      words = first-all words c.args.names.now c.loop-k.names c.loop-k.ids c.loop-k.k (omega arith) h;
      names = h.grows;
      only = h.only;
    }

pub returns-in_err-first-clause-only : goal.returns-in_err-first-clause-only
returns-in_err-first-clause-only c =
    let is = text-at (λ t. t.now) c.args.texts.now words 0 _ c.requires (omega arith) in
    only-more words c.args.names.now c.args.names.now c.intern.new.self 0 _ (omega arith) is (AddsOnly-same IsWord c.args.names.now) c.intern.ensures.only

pub returns-in_err-ids-clause-only : goal.returns-in_err-ids-clause-only
returns-in_err-ids-clause-only c =
    let lt : c.loop-k.k < 38 = c.loop-k-test.true in
    let is = text-at (λ t. t.now) c.args.texts.now words c.loop-k.k _ c.requires lt in
    only-more words c.args.names.now c.loop-k.names c.intern-in-loop-k.new.self c.loop-k.k _ lt is c.loop-k.invariant.only c.intern-in-loop-k.ensures.only
