use Rattle.std.proofs.Common.{take}
use Rattle.fpc_terms.specs.Name.{IsNameBegun}
use Rattle.fpc_terms.specs.Adding.{IsText}
use Rattle.fpc_terms.proofs.AddingFacts.{AddsOnly-wider}
use Rattle.polarised_formulas.specs.Adding.{IsPartIn}
use Rattle.polarised_formulas.specs.PlainReading.{is_keyword}
use Rattle.polarised_formulas.proofs.Answering.{named-ok, named-err}
use Rattle.polarised_formulas.proofs.PlainRuns.{named-stop, name-few, named-part}
use Rattle.polarised_formulas.proofs.plain.reader.PlainReader.named_term.Goals as goal

pub returns-in-Ok-clause-only : goal.returns-in-Ok-clause-only
returns-in-Ok-clause-only c =
    let w = take c.args.n c.args.bytes.now in
    AddsOnly-wider (IsText w) (IsPartIn c.args.self.now.word.items c.args.bytes.now) _ _ (λ text e. named-part c.args.self.now.word.items c.args.bytes.now text c.args.n e) (rw c.split_at.ensures.front at c.in-Ok.ensures.only)

pub returns-in-Err-clause-only : goal.returns-in-Err-clause-only
returns-in-Err-clause-only c =
    let w = take c.args.n c.args.bytes.now in
    AddsOnly-wider (IsText w) (IsPartIn c.args.self.now.word.items c.args.bytes.now) _ _ (λ text e. named-part c.args.self.now.word.items c.args.bytes.now text c.args.n e) (rw c.split_at.ensures.front at c.in-Err.ensures.only)

pub returns-in-Ok-clause-stop : goal.returns-in-Ok-clause-stop
returns-in-Ok-clause-stop c = λ number logic q a h.
    let w = take c.args.n c.args.bytes.now in
    let begun : IsNameBegun w = (c.requires.name.name, name-few c.args.bytes.now c.args.n c.requires.name.few c.requires.within) in
    let n = rw c.split_at.ensures.front at c.in-Ok.ensures.name number a in
    let k = named-ok number (is_keyword w) w c.in-Ok.name (n begun) in
    rw c.stopped.ensures (named-stop c.args.bytes.now c.args.n c.requires.name.few c.requires.within number logic q c.args.self.now c.end_named_term.new.self c.end_named_term.result h c.requires.mode c.requires.name.name c.requires.name.behind
    (λ up around. rw (k.0, k.1) (c.end_named_term.ensures logic up around)))

pub returns-in-Err-clause-stop : goal.returns-in-Err-clause-stop
returns-in-Err-clause-stop c = λ number logic q a h.
    let w = take c.args.n c.args.bytes.now in
    let begun : IsNameBegun w = (c.requires.name.name, name-few c.args.bytes.now c.args.n c.requires.name.few c.requires.within) in
    let n = rw c.split_at.ensures.front at c.in-Err.ensures.name number a in
    rw c.stopped-in-Err.ensures (named-stop c.args.bytes.now c.args.n c.requires.name.few c.requires.within number logic q c.args.self.now c.args.self.now _ h c.requires.mode c.requires.name.name c.requires.name.behind
    (λ up around. named-err number (is_keyword w) w c.in-Err.refusal logic _ _ (n begun)))
