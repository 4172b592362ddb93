use Rattle.std.proofs.Common.{rules, ◌≡◌, ◌||◌, ◌+◌, ◌∷◌, List, ℕ, [], drop, sym, ap, ◌∙◌}
use Rattle.std.proofs.lemmas.List.{drop_more, drop_all}
use Rattle.std.proofs.lemmas.Option.{get_or_from_slice_get}
use Rattle.fpc_base.specs.Tokens.{is_one_of}
use Rattle.fpc_terms.specs.Text.{name_in}
use Rattle.clause_language.specs.ReadFile.{names_of}
use Rattle.clause_language.proofs.ReadFacts.{AreComing-next, AreComing-all}
use Rattle.clause_language.proofs.read.taken_names.Goals as goal

pub text-requires : goal.text-requires
text-requires c =
    let low = c.loop-one-test.true in
    let parts : drop c.loop-one.one-index c.args.declared.now ≡ c.one-item.result ∷ drop (c.loop-one.one-index + 1) c.args.declared.now =
    drop_more c.args.declared.now c.loop-one.one-index c.one-item.result low ∙ ap (λ one. one ∷ drop (c.loop-one.one-index + 1) c.args.declared.now) (sym c.one-item.is) in
    (rw parts at c.loop-one.invariant.named).0.0

pub loop-one-init : goal.loop-one-init
loop-one-init c = record { coming = λ x. ap (λ (t : List (List ℕ)). is_one_of t x || is_one_of (names_of c.args.names.now c.args.declared.now) x) c.new-taken.ensures; named = c.requires }

pub loop-one-preserved : goal.loop-one-preserved
loop-one-preserved c =
    let low = c.loop-one-test.true in
    let parts : drop c.loop-one.one-index c.args.declared.now ≡ c.one-item.result ∷ drop (c.loop-one.one-index + 1) c.args.declared.now =
    drop_more c.args.declared.now c.loop-one.one-index c.one-item.result low ∙ ap (λ one. one ∷ drop (c.loop-one.one-index + 1) c.args.declared.now) (sym c.one-item.is) in
    let name : name_in c.args.names.now c.one-item.result.name ≡ c.text.result.now = get_or_from_slice_get c.args.names.now c.one-item.result.name c.text.result.now [] c.text.ensures.text in
    let coming = rw (parts, name) at c.loop-one.invariant.coming in
    record {
      coming = rw c.in_ok-number.ensures.names (AreComing-next (names_of c.args.names.now c.args.declared.now) c.loop-one.taken (names_of c.args.names.now (drop (c.loop-one.one-index + 1) c.args.declared.now)) c.text.result.now coming);
      named = (rw parts at c.loop-one.invariant.named).1;
    }

pub returns : goal.returns
returns c =
    let all : drop c.loop-one.one-index c.args.declared.now ≡ [] = drop_all c.loop-one.one-index c.args.declared.now (search rules) in
    AreComing-all (names_of c.args.names.now c.args.declared.now) c.loop-one.taken (rw all at c.loop-one.invariant.coming)
