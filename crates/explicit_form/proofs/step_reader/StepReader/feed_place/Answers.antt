use Rattle.std.proofs.Common.{◌≡◌, ◌+◌, ◌≤◌, drop, length, refl, subst, arith}
use Rattle.std.proofs.lemmas.List.{length-drop}
use Rattle.explicit_form.specs.Fronts.{IsPlaceAt}
use Rattle.explicit_form.proofs.FrontFeeding.{placed-taken, word-within}
use Rattle.explicit_form.proofs.step_reader.StepReader.feed_place.Goals as goal

pub returns-in-Some-clause-line : goal.returns-in-Some-clause-line
returns-in-Some-clause-line c = λ number logic st agrees here.
    let bytes = c.args.bytes.now in
    let e : c.split_at.result.1.now ≡ drop c.args.n bytes = cc in
    let place = subst (λ bs. IsPlaceAt bs c.in-Some.place c.in-Some.more) e c.in-Some.ensures in
    let w = word-within number logic st bytes c.args.self.now c.requires.begin here c.requires.room _ c.requires.word in
    let within : c.args.n + c.in-Some.more ≤ length bytes = omega (arith, length-drop c.args.n bytes, place.2, c.requires.length) in
    placed-taken number logic st bytes c.args.self.now c.requires.begin here c.requires.room c.args.placed c.args.n c.in-Some.place c.in-Some.more _ c.requires.word c.requires.length place within refl refl cc
