-- How pieces that move join.
use Rattle.std.proofs.Common.{◌≡◌, ℕ, ◌+◌, ◌<◌, ◌≤◌, List, [], ◌++◌, length, take, drop, Option, Some, None, refl, append_assoc, arith, length-append, length-take, ap, ◌∙◌, sym}
use Rattle.std.proofs.Common.{length-drop, append-nil}
use Rattle.std.proofs.lemmas.List.{take_all, take-append-drop}
use Rattle.std.proofs.Math.Seq.{take-add}
use Rattle.fpc_base.specs.Outside.{TakesFront, TakesAtMost, IsAtEnd, HasMoreThan, Adds, AddsPrefix}

pub TakesFront-nothing : (a : Option (List ℕ)) → TakesFront a [] a
TakesFront-nothing None = refl
TakesFront-nothing (Some x) = refl

pub TakesFront-more : (a b c : Option (List ℕ)) (p q : List ℕ) → TakesFront a p b → TakesFront b q c → TakesFront a (p ++ q) c
TakesFront-more None None c p q h k = k
TakesFront-more None (Some y) c p q h k = cc
TakesFront-more (Some x) None c p q h k = absurd h
TakesFront-more (Some x) (Some y) None p q h k = absurd k
TakesFront-more (Some x) (Some y) (Some z) p q h k = rw (append_assoc p q z) (h ∙ ap (λ r. p ++ r) k)

pub IsAtEnd-nothing : (a b : Option (List ℕ)) → IsAtEnd a → TakesFront a [] b → IsAtEnd b
IsAtEnd-nothing None None e h = tt
IsAtEnd-nothing None (Some y) e h = cc
IsAtEnd-nothing (Some x) None e h = absurd h
IsAtEnd-nothing (Some x) (Some y) e h = sym h ∙ e

pub HasMoreThan-taken : (limit : ℕ) (a b : Option (List ℕ)) (p : List ℕ) → TakesFront a p b → limit < length p → HasMoreThan limit a
HasMoreThan-taken limit None b p h lt = tt
HasMoreThan-taken limit (Some x) None p h lt = absurd h
HasMoreThan-taken limit (Some x) (Some y) p h lt = omega (arith, ap length h, length-append p y)

pub Adds-nothing : (a : Option (List ℕ)) → Adds a [] a
Adds-nothing None = refl
Adds-nothing (Some x) = sym (append-nil x)

pub Adds-more : (a b c : Option (List ℕ)) (p q : List ℕ) → Adds a p b → Adds b q c → Adds a (p ++ q) c
Adds-more None None c p q h k = k
Adds-more None (Some y) c p q h k = cc
Adds-more (Some x) None c p q h k = absurd h
Adds-more (Some x) (Some y) None p q h k = absurd k
Adds-more (Some x) (Some y) (Some z) p q h k = k ∙ ap (λ r. r ++ q) h ∙ append_assoc x p q

-- a piece that was put up to a place
pub record IsPut (before now : Option (List ℕ)) (bytes : List ℕ) (done : ℕ) : Type 0 where
  pub within : done ≤ length bytes
  pub added : Adds before (take done bytes) now

pub IsPut-start : (a : Option (List ℕ)) (bytes : List ℕ) → IsPut a a bytes 0
IsPut-start a bytes = record { within = omega arith; added = Adds-nothing a }

pub IsPut-more : (a b c : Option (List ℕ)) (bytes rest : List ℕ) (done n : ℕ) → IsPut a b bytes done → rest ≡ drop done bytes → n ≤ length rest → Adds b (take n rest) c → IsPut a c bytes (done + n)
IsPut-more a b c bytes rest done n h e le k = record {
  within = omega (arith, length-drop done bytes, ap length e);
  added = rw (take-add done n bytes) (Adds-more a b c (take done bytes) (take n (drop done bytes)) h.added (rw e at k));
}

pub IsPut-all : (a b : Option (List ℕ)) (bytes : List ℕ) (done : ℕ) → IsPut a b bytes done → length bytes ≤ done → Adds a bytes b
IsPut-all a b bytes done h le = rw (take_all done bytes le) at h.added

pub IsPut-prefix : (a b : Option (List ℕ)) (bytes : List ℕ) (done : ℕ) → IsPut a b bytes done → AddsPrefix a bytes b
IsPut-prefix a b bytes done h = (take done bytes, (drop done bytes, sym (take-append-drop done bytes)), h.added)

-- the bytes were taken, and they are at most one more than the limit
pub record IsRead (before now : Option (List ℕ)) (bytes : List ℕ) (count limit : ℕ) : Type 0 where
  pub taken : TakesFront before bytes now
  pub counted : length bytes ≡ count
  pub few : count ≤ limit + 1

pub IsRead-start : (a : Option (List ℕ)) (bytes : List ℕ) (count limit : ℕ) → bytes ≡ [] → count ≡ 0 → IsRead a a bytes count limit
IsRead-start a bytes count limit e z = record { taken = rw e (TakesFront-nothing a); counted = rw (e, z); few = omega arith }

pub IsRead-more : (a b c : Option (List ℕ)) (bytes piece more : List ℕ) (count m limit : ℕ) → IsRead a b bytes count limit → TakesFront b piece c → more ≡ bytes ++ piece → m ≡ count + length piece → m ≤ limit + 1 → IsRead a c more m limit
IsRead-more a b c bytes piece more count m limit h t e f le = record {
  taken = rw e (TakesFront-more a b c bytes piece h.taken t);
  counted = rw e (omega (arith, length-append bytes piece, h.counted));
  few = le;
}

pub IsRead-most : (a b : Option (List ℕ)) (bytes : List ℕ) (count limit : ℕ) → IsRead a b bytes count limit → TakesAtMost (limit + 1) a b
IsRead-most a b bytes count limit h = (bytes, omega (arith, h.counted, h.few), h.taken)

pub IsRead-large : (a b : Option (List ℕ)) (bytes : List ℕ) (count limit : ℕ) → IsRead a b bytes count limit → limit < count → HasMoreThan limit a
IsRead-large a b bytes count limit h lt = HasMoreThan-taken limit a b bytes h.taken (omega (arith, h.counted))

-- the end was read
pub IsRead-end : (a b c : Option (List ℕ)) (bytes : List ℕ) (count limit n : ℕ) (buffer : List ℕ) → IsRead a b bytes count limit → n ≡ 0 → TakesFront b (take n buffer) c → TakesFront a bytes c
IsRead-end a b c bytes count limit n buffer h e t =
    let t' : TakesFront b [] c = rw e at t in rw (append-nil bytes) at (TakesFront-more a b c bytes [] h.taken t')

pub IsAtEnd-read : (b c : Option (List ℕ)) (n : ℕ) (buffer : List ℕ) → (n ≡ 0 → IsAtEnd b) → n ≡ 0 → TakesFront b (take n buffer) c → IsAtEnd c
IsAtEnd-read b c n buffer h e t = let t' : TakesFront b [] c = rw e at t in IsAtEnd-nothing b c (h e) t'

pub TakesFront-most : (a b c : Option (List ℕ)) (bytes : List ℕ) (count limit n : ℕ) (buffer : List ℕ) → IsRead a b bytes count limit → TakesFront b (take n buffer) c → count + n ≤ limit + 1 → TakesAtMost (limit + 1) a c
TakesFront-most a b c bytes count limit n buffer h t le =
    (bytes ++ take n buffer, omega (arith, length-append bytes (take n buffer), length-take n buffer, h.counted), TakesFront-more a b c bytes (take n buffer) h.taken t)
