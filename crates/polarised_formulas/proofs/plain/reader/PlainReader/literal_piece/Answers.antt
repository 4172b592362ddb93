use Rattle.std.proofs.Common.{take, arith}
use Rattle.fpc_terms.specs.Name.{IsNameBegun}
use Rattle.fpc_terms.specs.Adding.{IsText}
use Rattle.fpc_terms.proofs.AddingFacts.{AddsOnly-then, AddsOnly-wider}
use Rattle.polarised_formulas.specs.Adding.{IsPartIn}
use Rattle.polarised_formulas.specs.PlainReading.{is_keyword}
use Rattle.polarised_formulas.proofs.Answering.{named-ok}
use Rattle.polarised_formulas.proofs.PlainRuns.{name-few, named-part}
use Rattle.polarised_formulas.proofs.PlainPieces.{named-behind, stop-behind}
use Rattle.polarised_formulas.proofs.plain.reader.PlainReader.literal_piece.Goals as goal

pub returns-in-Ok-clause-only : goal.returns-in-Ok-clause-only
returns-in-Ok-clause-only c =
    let w = take c.args.n c.args.bytes.now in
    AddsOnly-wider (IsText w) (IsPartIn c.args.self.now.word.items c.args.bytes.now) _ _ (λ text e. named-part c.args.self.now.word.items c.args.bytes.now text c.args.n e) (rw c.split_at.ensures.front at c.in-Ok.ensures.only)

pub returns-in-Err-clause-only : goal.returns-in-Err-clause-only
returns-in-Err-clause-only c =
    let w = take c.args.n c.args.bytes.now in
    AddsOnly-then (IsPartIn c.args.self.now.word.items c.args.bytes.now) _ _ _
    (AddsOnly-wider (IsText w) (IsPartIn c.args.self.now.word.items c.args.bytes.now) _ _ (λ text e. named-part c.args.self.now.word.items c.args.bytes.now text c.args.n e) (rw c.split_at.ensures.front at c.in-Err.ensures.only)) c.one_byte.ensures.only

pub returns-in-Ok-clause-stop : goal.returns-in-Ok-clause-stop
returns-in-Ok-clause-stop c = λ number logic hs q a h l e.
    let w = take c.args.n c.args.bytes.now in
    let begun : IsNameBegun w = (c.requires.name.name, name-few c.args.bytes.now c.args.n c.requires.name.few c.requires.within) in
    let n = rw c.split_at.ensures.front at c.in-Ok.ensures.name number a in
    let k = named-ok number (is_keyword w) w c.in-Ok.name (n begun) in
    let b = rw c.split_at.ensures.back at c.behind_name-passed.ensures.stop in
    rw c.stopped.ensures (stop-behind number logic q e.reading c.args.bytes.now c.args.n _ _ _ (omega (arith, c.requires.within)) e.reached (b number logic hs e.reading l (named-behind number logic hs c.args.positive c.in-Ok.name c.args.bytes.now c.args.n q e k.0 k.1)))
