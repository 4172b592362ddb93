-- Which names come into the table as bytes are checked.
use Rattle.std.proofs.Common.{ℕ, ◌-◌, List, [], ◌++◌, length, take, drop, Option, sym, ap, ◌∙◌, subst, append_assoc, append-nil}
use Rattle.std.proofs.lemmas.List.{take-append-drop}
use Rattle.fpc_terms.specs.Adding.{AddsOnly}
use Rattle.fpc_base.specs.Outside.{TakesFront}
use Rattle.fpc_base.proofs.Moves.{TakesFront-nothing, TakesFront-more}
use Rattle.fpc_terms.proofs.AddingFacts.{AddsOnly-same, AddsOnly-then, AddsOnly-wider}
use Rattle.polarised_formulas.specs.Adding.{EndsWith, IsPartIn, IsPartOf}
use Rattle.explicit_form.specs.Feeding.{line_length, line_in}
use Rattle.explicit_kernel.specs.Verdict.{AddsRead}
use Rattle.explicit_kernel.proofs.Judging.{rest-is}

-- a part of a line is one of the bytes that begin with it
part-of_line : (before bytes text : List ℕ) → IsPartIn before (line_in bytes) text → IsPartIn before bytes text
part-of_line before bytes text (taken, rest, (parts, ends)) = (
  taken,
  rest ++ drop (line_length bytes) bytes,
  (sym (append_assoc taken rest (drop (line_length bytes) bytes)) ∙ ap (λ v. v ++ drop (line_length bytes) bytes) parts ∙ take-append-drop (line_length bytes) bytes, ends),
)

-- a part of what comes after some bytes of a piece is one of the piece
part-of_piece : (before piece : List ℕ) (fed : ℕ) (text : List ℕ) → IsPartIn (before ++ take fed piece) (drop fed piece) text → IsPartIn before piece text
part-of_piece before piece fed text (taken, rest, (parts, ends)) = (
  take fed piece ++ taken,
  rest,
  (
    append_assoc (take fed piece) taken rest ∙ ap (λ v. take fed piece ++ v) parts ∙ take-append-drop fed piece,
    subst (λ v. EndsWith v text) (append_assoc before (take fed piece) taken) ends,
  ),
)

-- a part of a piece that comes after others is one of all the bytes
part-of_all : (front piece text : List ℕ) → IsPartIn front piece text → IsPartOf (front ++ piece) text
part-of_all front piece text (taken, rest, (parts, ends)) = (front ++ taken, rest, (append_assoc front taken rest ∙ ap (λ v. front ++ v) parts, ends))

-- a part of the first bytes is one of all
part-of_front : (front piece text : List ℕ) → IsPartOf front text → IsPartOf (front ++ piece) text
part-of_front front piece text (taken, rest, (parts, ends)) = (taken, rest ++ piece, (sym (append_assoc taken rest piece) ∙ ap (λ v. v ++ piece) parts, ends))

-- the names of a line
pub added-line : (before bytes : List ℕ) (old new : List (List ℕ)) → AddsOnly (IsPartIn before (line_in bytes)) old new → AddsOnly (IsPartIn before bytes) old new
added-line before bytes old new a = AddsOnly-wider (IsPartIn before (line_in bytes)) (IsPartIn before bytes) old new (part-of_line before bytes) a

-- those of one more line of a piece
pub added-piece : (before piece : List ℕ) (fed : ℕ) (old mid new : List (List ℕ)) → AddsOnly (IsPartIn before piece) old mid
    → AddsOnly (IsPartIn (before ++ take fed piece) (take (length piece - fed) (drop fed piece))) mid new → AddsOnly (IsPartIn before piece) old new
added-piece before piece fed old mid new a b =
    let c = subst (λ bs. AddsOnly (IsPartIn (before ++ take fed piece) bs) mid new) (rest-is piece fed) b in
    AddsOnly-then (IsPartIn before piece) old mid new a (AddsOnly-wider (IsPartIn (before ++ take fed piece) (drop fed piece)) (IsPartIn before piece) mid new (part-of_piece before piece fed) c)

-- those of one more piece
pub added-all : (front piece : List ℕ) (old mid new : List (List ℕ)) → AddsOnly (IsPartOf front) old mid → AddsOnly (IsPartIn front piece) mid new → AddsOnly (IsPartOf (front ++ piece)) old new
added-all front piece old mid new a b =
    AddsOnly-then (IsPartOf (front ++ piece)) old mid new
    (AddsOnly-wider (IsPartOf front) (IsPartOf (front ++ piece)) old mid (part-of_front front piece) a)
    (AddsOnly-wider (IsPartIn front piece) (IsPartOf (front ++ piece)) mid new (part-of_all front piece) b)

-- where nothing is taken
pub added-none : (names : List (List ℕ)) (left : Option (List ℕ)) → AddsRead left left names names
added-none names left = record { bytes = []; taken = TakesFront-nothing left; only = AddsOnly-same (IsPartOf []) names }

-- where the bytes have ended
pub added-end : (names now : List (List ℕ)) (old mid new : Option (List ℕ)) (front : List ℕ) → TakesFront old front mid → AddsOnly (IsPartOf front) names now → TakesFront mid [] new → AddsRead old new names now
added-end names now old mid new front taken a same = record {
  bytes = front;
  taken = subst (λ bs. TakesFront old bs new) (append-nil front) (TakesFront-more old mid new front [] taken same);
  only = a;
}
