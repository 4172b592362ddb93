use Rattle.std.proofs.Common.{◌≡◌, [], ◌∷◌, map, ap, sym, ◌∙◌, refl}
use Rattle.fpc_base.specs.Lexeme.{says, lexeme_as, items_left, item_of}
use Rattle.fpc_terms.proofs.TokenNames.{named-from-form}
use Rattle.fpc_terms.proofs.ReadFacts.{IsOn-start, IsOn-taken, IsOn-refused, IsOn-fault, IsOn-unfinished, IsOn-whole, IsOn-ends, IsOn-final, tells}
use Rattle.fpc_terms.proofs.AddingFacts.{AddsTaken-start, AddsTaken-next, AddsTaken-refused, AddsTaken-all}
use Rattle.fpc_terms.proofs.read.read_whole.Goals as goal

pub reading-init : goal.reading-init
reading-init c = record {
  on = IsOn-start _ _ _ _ _ _ c.new-reader.ensures;
  names = λ k text e. e;
  adds = AddsTaken-start _ _;
  variables = λ k text e. e;
  source = refl;
}

pub returns-then-is_final-clause-ok : goal.returns-then-is_final-clause-ok
returns-then-is_final-clause-ok c =
    let on = c.reading.invariant.on in
    IsOn-final _ _ _ _ _ _ _ _ on (sym (c.is_final.ensures _ _ _ (tells _ _ _ _ _ _ _ _ on c.distinct.ensures c.distinct-in-reading.ensures)) ∙ c.if-is_final.true)

pub returns-in-Err-clause-err : goal.returns-in-Err-clause-err
returns-in-Err-clause-err c =
    let on = c.reading.invariant.on in
    IsOn-fault _ _ _ _ _ _ _ _ on [] c.in-Err.refusal (ap (map item_of) c.in-Err.ensures.next.0)
    (sym (c.is_final.ensures _ _ _ (tells _ _ _ _ _ _ _ _ on c.distinct.ensures c.distinct-in-reading.ensures)) ∙ c.if-is_final.false)

pub take_token-requires : goal.take_token-requires
take_token-requires c =
    named-from-form c.in-Ok-Some.token.kind c.in-Ok-Some.token.text.now _ c.lexeme-lexeme.ensures (rw c.in-Ok-Some.field-0-is at c.in-Ok-Some.ensures.form)

pub returns-then-is_whole-clause-ok : goal.returns-then-is_whole-clause-ok
returns-then-is_whole-clause-ok c =
    let on = c.reading.invariant.on in
    let e = rw c.in-Ok-None.field-0-is at c.in-Ok-None.ensures.next in
    IsOn-whole _ _ _ _ _ _ _ _ on (ap (map item_of) e.0)
    (sym (c.is_whole.ensures _ _ _ (tells _ _ _ _ _ _ _ _ on c.distinct.ensures c.distinct-in-reading.ensures)) ∙ c.if-is_whole.true)

pub returns-in-Ok-None-clause-err : goal.returns-in-Ok-None-clause-err
returns-in-Ok-None-clause-err c =
    let on = c.reading.invariant.on in
    let e = rw c.in-Ok-None.field-0-is at c.in-Ok-None.ensures.next in
    rw (c.length.ensures, c.reading.invariant.source)
    (IsOn-unfinished _ _ _ _ _ _ _ _ on (ap (map item_of) e.0)
    (sym (c.is_whole.ensures _ _ _ (tells _ _ _ _ _ _ _ _ on c.distinct.ensures c.distinct-in-reading.ensures)) ∙ c.if-is_whole.false))

pub returns-then-ends_before-clause-ok : goal.returns-then-ends_before-clause-ok
returns-then-ends_before-clause-ok c =
    let on = c.reading.invariant.on in
    let e = rw c.in-Ok-Some.field-0-is at c.in-Ok-Some.ensures.next in
    let i : items_left c.reading.tokens ≡ says (lexeme_as c.lexeme-lexeme.result) c.in-Ok-Some.token.at ∷ items_left c.next.new.self = rw c.lexeme-lexeme.ensures (ap (map item_of) e) in
    IsOn-ends _ _ _ _ _ _ _ _ on _ _ _ i
    (sym (c.ends_before.ensures _ _ _ (tells _ _ _ _ _ _ _ _ on c.distinct.ensures c.distinct-in-reading.ensures)) ∙ c.if-ends_before.true)

pub reading-preserved : goal.reading-preserved
reading-preserved c =
    let on = c.reading.invariant.on in
    let e = rw c.in-Ok-Some.field-0-is at c.in-Ok-Some.ensures.next in
    let i : items_left c.reading.tokens ≡ says (lexeme_as c.lexeme-lexeme.result) c.in-Ok-Some.token.at ∷ items_left c.next.new.self = rw c.lexeme-lexeme.ensures (ap (map item_of) e) in
    record {
      on = IsOn-taken _ _ _ _ _ _ _ _ on _ _ _ _ _ _ i c.in-Ok.ensures.taken c.in-Ok.ensures.counted;
      adds = AddsTaken-next _ _ _ _ c.reading.invariant.adds _ _ _ _ i c.take_token.ensures.only;
      names = λ k text h. c.take_token.ensures.names k text (c.reading.invariant.names k text h);
      variables = λ k text h. c.take_token.ensures.variables k text (c.reading.invariant.variables k text h);
      source = c.next.ensures.source ∙ c.reading.invariant.source;
    }

pub returns-in-Err-take_token-clause-err : goal.returns-in-Err-take_token-clause-err
returns-in-Err-take_token-clause-err c =
    let on = c.reading.invariant.on in
    let e = rw c.in-Ok-Some.field-0-is at c.in-Ok-Some.ensures.next in
    let i : items_left c.reading.tokens ≡ says (lexeme_as c.lexeme-lexeme.result) c.in-Ok-Some.token.at ∷ items_left c.next.new.self = rw c.lexeme-lexeme.ensures (ap (map item_of) e) in
    let holds = tells _ _ _ _ _ _ _ _ on c.distinct.ensures c.distinct-in-reading.ensures in
    rw c.placed.ensures
    (IsOn-refused _ _ _ _ _ _ _ _ on _ _ _ _ _ _ c.in-Err-take_token.refusal i c.in-Err-take_token.ensures.taken
    (sym (c.is_final.ensures _ _ _ holds) ∙ c.if-is_final.false) (sym (c.ends_before.ensures _ _ _ holds) ∙ c.if-ends_before.false))

pub returns-then-is_final-clause-only : goal.returns-then-is_final-clause-only
returns-then-is_final-clause-only c = AddsTaken-all _ _ _ _ c.reading.invariant.adds

pub returns-in-Err-clause-only : goal.returns-in-Err-clause-only
returns-in-Err-clause-only c = AddsTaken-all _ _ _ _ c.reading.invariant.adds

pub returns-then-is_whole-clause-only : goal.returns-then-is_whole-clause-only
returns-then-is_whole-clause-only c = AddsTaken-all _ _ _ _ c.reading.invariant.adds

pub returns-in-Ok-None-clause-only : goal.returns-in-Ok-None-clause-only
returns-in-Ok-None-clause-only c = AddsTaken-all _ _ _ _ c.reading.invariant.adds

pub returns-then-ends_before-clause-only : goal.returns-then-ends_before-clause-only
returns-then-ends_before-clause-only c = AddsTaken-all _ _ _ _ c.reading.invariant.adds

pub returns-in-Err-take_token-clause-only : goal.returns-in-Err-take_token-clause-only
returns-in-Err-take_token-clause-only c =
    let e = rw c.in-Ok-Some.field-0-is at c.in-Ok-Some.ensures.next in
    let i : items_left c.reading.tokens ≡ says (lexeme_as c.lexeme-lexeme.result) c.in-Ok-Some.token.at ∷ items_left c.next.new.self = rw c.lexeme-lexeme.ensures (ap (map item_of) e) in
    AddsTaken-refused _ _ _ _ c.reading.invariant.adds _ _ _ _ i c.take_token.ensures.only
