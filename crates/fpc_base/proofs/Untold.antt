-- What holds of each value holds of that of a result.
use Rattle.std.proofs.Common.{Result, Ok, Err}
use Rattle.std.specs.Prelude.{OnOk, OnErr, IfOk}

pub each-ok : {A E : Type 0} (r : Result A E) (P : A → Type 0) → ((a : A) → P a) → IfOk r P
each-ok (Ok a) P all = all a
each-ok (Err e) P all = tt

pub on-ok : {A E : Type 0} (r : Result A E) {P : Type 0} → P → OnOk r P
on-ok (Ok a) p = p
on-ok (Err e) p = tt

pub on-err : {A E : Type 0} (r : Result A E) {P : Type 0} → P → OnErr r P
on-err (Ok a) p = tt
on-err (Err e) p = p

pub err-weaker : {A E : Type 0} (r : Result A E) {P Q : Type 0} → (P → Q) → OnErr r P → OnErr r Q
err-weaker (Ok a) f p = tt
err-weaker (Err e) f p = f p
