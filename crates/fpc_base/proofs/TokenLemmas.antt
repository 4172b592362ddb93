-- How the tokens from one place on are told by what stands there.
use Rattle.std.proofs.Common.{◌≡◌, ℕ, suc, zero, ◌+◌, ◌-◌, ◌<◌, ◌≤◌, List, [], ◌∷◌, length, take, drop, refl, ap, arith, ◌∙◌, add-zero, length-take}
use Rattle.std.proofs.lemmas.List.{drop-drop, take_rest}
use Rattle.fpc_base.specs.Tokens.{token, scanned, tokens_behind, tokens_from, front_of, size_of}
use Rattle.fpc_base.specs.declared.tokens.TokenKind.{TokenKind}
use Rattle.fpc_base.specs.declared.tokens.front.Front.{Front}
use Rattle.fpc_base.specs.declared.tokens.front.Front.TheVariants.{Piece}

-- this stands at the front of the bytes
pub record IsFront (f : Front) (bytes : List ℕ) : Type 0 where
  pub front : (b : ℕ) (rest : List ℕ) → bytes ≡ b ∷ rest → f ≡ front_of b rest
  pub some : 0 < size_of f
  pub within : size_of f ≤ length bytes

pub tokens_behind-suc : (n at : ℕ) (bs : List ℕ) → n ≤ length bs → tokens_behind n at bs ≡ tokens_behind 0 (at + n) (drop n bs)
tokens_behind-suc zero at bs le = rw add-zero refl
tokens_behind-suc (suc n) at [] le = absurd (omega arith)
tokens_behind-suc (suc n) at (b ∷ bs) le =
    let e : suc at + n ≡ at + suc n = omega arith in tokens_behind-suc n (suc at) bs (omega arith) ∙ ap (λ k. tokens_behind 0 k (drop n bs)) e

pub tokens_behind-cons : (n at b : ℕ) (bs : List ℕ) → 0 < n → n ≤ length (b ∷ bs) → tokens_behind (n - 1) (suc at) bs ≡ tokens_behind 0 (at + n) (drop n (b ∷ bs))
tokens_behind-cons zero at b bs lt le = absurd (omega arith)
tokens_behind-cons (suc n) at b bs lt le =
    let e : suc at + n ≡ at + suc n = omega arith in
    let d : suc n - 1 ≡ n = omega arith in
    rw d (tokens_behind-suc n (suc at) bs (omega arith) ∙ ap (λ k. tokens_behind 0 k (drop n bs)) e)

pub tokens_behind-front : (at : ℕ) (bytes : List ℕ) (f : Front) → IsFront f bytes → tokens_behind 0 at bytes ≡ scanned f bytes at (tokens_behind 0 (at + size_of f) (drop (size_of f) bytes))
tokens_behind-front at [] f h = let s = h.some in let w = h.within in absurd (omega arith)
tokens_behind-front at (b ∷ bs) f h =
    let e = h.front b bs refl in rw (← e) (ap (λ r. scanned f (b ∷ bs) at r) (tokens_behind-cons (size_of f) at b bs h.some h.within))

pub tokens_from-front : (at : ℕ) (bytes : List ℕ) (f : Front) → IsFront f (drop at bytes) → tokens_from at bytes ≡ scanned f (drop at bytes) at (tokens_from (at + size_of f) bytes)
tokens_from-front at bytes f h =
    tokens_behind-front at (drop at bytes) f h ∙ ap (λ r. scanned f (drop at bytes) at (tokens_behind 0 (at + size_of f) r)) (drop-drop (size_of f) at bytes)

-- the same of the bytes as a slice tells them
pub tokens_from-slice : (at : ℕ) (bytes : List ℕ) (f : Front) → IsFront f (take (length bytes - at) (drop at bytes)) → tokens_from at bytes ≡ scanned f (drop at bytes) at (tokens_from (at + size_of f) bytes)
tokens_from-slice at bytes f h = tokens_from-front at bytes f (rw (take_rest bytes at) at h)

pub tokens_from-piece : (at n : ℕ) (kind : TokenKind) (bytes : List ℕ) → IsFront (Piece kind n) (take (length bytes - at) (drop at bytes))
    → tokens_from at bytes ≡ token kind (take (at + n - at) (drop at bytes)) at ∷ tokens_from (at + length (take (at + n - at) (drop at bytes))) bytes
tokens_from-piece at n kind bytes h =
    let e : at + n - at ≡ n = omega arith in
    let w : n ≤ length (drop at bytes) = rw (take_rest bytes at) at h.within in
    let l : length (take n (drop at bytes)) ≡ n = omega (arith, length-take n (drop at bytes)) in
    rw e (rw l (tokens_from-slice at bytes (Piece kind n) h))
