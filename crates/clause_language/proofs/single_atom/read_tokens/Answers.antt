use Rattle.std.proofs.Common.{◌≡◌, [], ◌∷◌, map, ap, sym, subst, List}
use Rattle.fpc_base.specs.Lexeme.{says, lexeme_as, items_left, items_of, item_of, Item}
use Rattle.fpc_terms.specs.Adding.{AddsTaken}
use Rattle.fpc_terms.proofs.AddingFacts.{AddsTaken-start, AddsTaken-next, AddsTaken-refused, AddsTaken-all}
use Rattle.fpc_terms.proofs.TokenNames.{named-from-form}
use Rattle.clause_language.proofs.AtomReading.{taken-start, taken-next, taken-refused, taken-fault}
use Rattle.clause_language.proofs.single_atom.read_tokens.Goals as goal

pub reading-init : goal.reading-init
reading-init c = record {
  on = taken-start _ _ _ _ _ (ap (map item_of) c.new-tokens.ensures.tokens) (c.new-reader.ensures c.args.names.now);
  names = λ k text e. e;
  adds = subst (λ (rest : List Item). AddsTaken (items_of c.args.bytes.now) rest c.args.names.now c.args.names.now) (sym (ap (map item_of) c.new-tokens.ensures.tokens)) (AddsTaken-start _ _);
}

pub returns-in-Err-clause-err : goal.returns-in-Err-clause-err
returns-in-Err-clause-err c = taken-fault _ _ _ _ _ c.reading.invariant.on [] c.in-Err.refusal (ap (map item_of) c.in-Err.ensures.next.0)

pub returns-in-Ok-None-clause-ok : goal.returns-in-Ok-None-clause-ok
returns-in-Ok-None-clause-ok c = let e = rw c.in-Ok-None.field-0-is at c.in-Ok-None.ensures.next in rw (ap (map item_of) e.0) at c.reading.invariant.on

pub take-requires : goal.take-requires
take-requires c =
    named-from-form c.in-Ok-Some.token.kind c.in-Ok-Some.token.text.now _ c.lexeme-lexeme.ensures (rw c.in-Ok-Some.field-0-is at c.in-Ok-Some.ensures.form)

pub reading-preserved : goal.reading-preserved
reading-preserved c =
    let e = rw c.in-Ok-Some.field-0-is at c.in-Ok-Some.ensures.next in
    let i : items_left c.reading.tokens ≡ says (lexeme_as c.lexeme-lexeme.result) c.in-Ok-Some.token.at ∷ items_left c.next.new.self = rw c.lexeme-lexeme.ensures (ap (map item_of) e) in
    record {
      on = taken-next _ _ _ _ _ c.reading.invariant.on _ _ _ _ _ i c.in-Ok.ensures.taken;
      names = λ k text h. c.take.ensures.names k text (c.reading.invariant.names k text h);
      adds = AddsTaken-next _ _ _ _ c.reading.invariant.adds _ _ _ _ i c.take.ensures.only;
    }

pub returns-in-Err-take-clause-err : goal.returns-in-Err-take-clause-err
returns-in-Err-take-clause-err c =
    let e = rw c.in-Ok-Some.field-0-is at c.in-Ok-Some.ensures.next in
    let i : items_left c.reading.tokens ≡ says (lexeme_as c.lexeme-lexeme.result) c.in-Ok-Some.token.at ∷ items_left c.next.new.self = rw c.lexeme-lexeme.ensures (ap (map item_of) e) in
    rw c.placed.ensures (taken-refused _ _ _ _ _ c.reading.invariant.on _ _ _ _ _ c.in-Err-take.refusal i c.in-Err-take.ensures.taken)

pub returns-in-Err-clause-only : goal.returns-in-Err-clause-only
returns-in-Err-clause-only c = AddsTaken-all _ _ _ _ c.reading.invariant.adds

pub returns-in-Ok-None-clause-only : goal.returns-in-Ok-None-clause-only
returns-in-Ok-None-clause-only c = AddsTaken-all _ _ _ _ c.reading.invariant.adds

pub returns-in-Err-take-clause-only : goal.returns-in-Err-take-clause-only
returns-in-Err-take-clause-only c =
    let e = rw c.in-Ok-Some.field-0-is at c.in-Ok-Some.ensures.next in
    let i : items_left c.reading.tokens ≡ says (lexeme_as c.lexeme-lexeme.result) c.in-Ok-Some.token.at ∷ items_left c.next.new.self = rw c.lexeme-lexeme.ensures (ap (map item_of) e) in
    AddsTaken-refused _ _ _ _ c.reading.invariant.adds _ _ _ _ i c.take.ensures.only
