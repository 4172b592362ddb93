-- The inputs have one answer, which is the one that the contents of the files call for.
use Rattle.std.proofs.Common.{◌≡◌, ◌≢◌, ◌⊎◌, ℕ, List, [], ◌∷◌, ◌++◌, refl, sym, ap, ◌∙◌, subst, arith, inl, inr}
use Rattle.fpc_base.specs.Outside.{Outside, Content, missing, holds, Rose, IsAtStartOf}
use Rattle.fpc_base.specs.declared.refusal.Refusal.{Refusal}
use Rattle.fpc_cli.specs.declared.answer.Answer.{Answer}
use Rattle.fpc_cli.specs.declared.answer.Answer.TheVariants.{Refused, ReadFault, OutOfMemory}
use Rattle.fpc_cli.specs.declared.answer.Role.{Role}
use Rattle.fpc_cli.specs.Held.{IsKnown}
use Rattle.fpc_cli.specs.Inputs.{Grammar, Input, source, at_hand, stream, IsAccepted, IsRefused, IsUnread, IsRefusal, Ending, Comes, AreKnown, IsDueTo, IsDue, Task}
use Rattle.fpc_cli.specs.Laws.{IsFound}
use Rattle.fpc_cli.proofs.Contents.{held-so, large-so, never-missing, one-content}

-- what a grammar owes: whole bytes are not refused, and others have one refusal
pub record IsLawful (grammar : Grammar) : Type 0 where
  pub apart : (bytes : List ℕ) (r : Refusal) → grammar.IsWhole bytes → grammar.Refuses bytes r → ⊥
  pub once : (bytes : List ℕ) (r s : Refusal) → grammar.Refuses bytes r → grammar.Refuses bytes s → r ≡ s

-- so for the grammar of each input
abbrev pub AreLawful : List Input → Type 0
AreLawful [] = Unit {0}
AreLawful (source role name grammar ∷ inputs) =
    ((earlier : List (List ℕ)) → IsLawful (grammar earlier)) × AreLawful inputs
AreLawful (at_hand role text grammar ∷ inputs) =
    ((earlier : List (List ℕ)) → IsLawful (grammar earlier)) × AreLawful inputs
AreLawful (stream name ∷ inputs) = AreLawful inputs

-- what a command owes: its answer is due, and an answer that is due is the one
pub record IsLawfulTask (content : List ℕ → Content) (task : Task) : Type 0 where
  pub lawful : AreLawful task.inputs
  pub due : (bytes : List (List ℕ)) (old new : Outside) → (Rose old.faults new.faults → ⊥) → (a : Answer) → IsFound a
      → task.Ends content bytes old new a → task.Due content bytes a
  pub fits : AreKnown content task.inputs → (bytes : List (List ℕ)) (old new : Outside) → (Rose old.faults new.faults → ⊥) → (a b : Answer)
      → IsFound a → task.Ends content bytes old new a → task.Due content bytes b → a ≡ b

-- bytes are not both good and refused
accepted-or-refused : (g : Grammar) → IsLawful g → (bytes : List ℕ) (r : Refusal) → IsAccepted g bytes → IsRefused g bytes r → ⊥
accepted-or-refused g lawful bytes r h (inl (e, large)) = let small = h.0 in omega (arith, small, large)
accepted-or-refused g lawful bytes r h (inr (small, k)) = lawful.apart bytes r h.1 k

-- bytes have one refusal
refused-once : (g : Grammar) → IsLawful g → (bytes : List ℕ) (r s : Refusal) → IsRefused g bytes r → IsRefused g bytes s → r ≡ s
refused-once g lawful bytes r s (inl (e, large)) (inl (f, large')) = e ∙ sym f
refused-once g lawful bytes r s (inl (e, large)) (inr (small, k)) = absurd (omega (arith, small, large))
refused-once g lawful bytes r s (inr (small, h)) (inl (f, large)) = absurd (omega (arith, small, large))
refused-once g lawful bytes r s (inr (small, h)) (inr (small', k)) = lawful.once bytes r s h k

-- bytes are refused, and the answer says so, or they are good, and so is the rest
abbrev Exact : Role → Grammar → List ℕ → Type 0 → Answer → Type 0
Exact role g bytes Rest a = ((r : Refusal) × (IsRefused g bytes r × (a ≡ Refused role r))) ⊎ (IsAccepted g bytes × Rest)

-- a file is missing, and the answer says so, or it holds such bytes
abbrev ExactFile : Content → Role → Grammar → (List ℕ → Type 0) → Answer → Type 0
ExactFile c role g Rest a = ((c ≡ missing) × (a ≡ ReadFault)) ⊎ ((bytes : List ℕ) × ((c ≡ holds bytes) × Exact role g bytes (Rest bytes) a))

-- what is due to bytes, of an answer to them
due-bytes : (role : Role) (g : Grammar) → IsLawful g → (bytes : List ℕ) (Rest Then : Type 0) → (Rest → Then) → (a : Answer) → Exact role g bytes Rest a
    → IsDueTo role g bytes a Then
due-bytes role g lawful bytes Rest Then next a (inl (r, (k, e))) = (
  λ s l. e ∙ ap (Refused role) (refused-once g lawful bytes r s k l),
  λ h. absurd (accepted-or-refused g lawful bytes r h k),
)
due-bytes role g lawful bytes Rest Then next a (inr (h, rest)) = (
  λ s l. absurd (accepted-or-refused g lawful bytes s h l),
  λ k. next rest,
)

-- an answer to bytes is the one that is due to them
bytes-fit : (role : Role) (g : Grammar) (bytes : List ℕ) (Rest Then : Type 0) (a b : Answer) → (Rest → Then → a ≡ b) → Exact role g bytes Rest a
    → IsDueTo role g bytes b Then → a ≡ b
bytes-fit role g bytes Rest Then a b next (inl (r, (k, e))) due = e ∙ sym (due.0 r k)
bytes-fit role g bytes Rest Then a b next (inr (h, rest)) due = next rest (due.1 h)

-- the same of a file
due-file : (c : Content) (role : Role) (g : Grammar) → IsLawful g → (Rest Then : List ℕ → Type 0) → ((bytes : List ℕ) → Rest bytes → Then bytes) → (a : Answer)
    → ExactFile c role g Rest a → (c ≡ missing → a ≡ ReadFault) × ((bytes : List ℕ) → c ≡ holds bytes → IsDueTo role g bytes a (Then bytes))
due-file c role g lawful Rest Then next a (inl (m, e)) = (λ k. e, λ bytes held. absurd (never-missing c bytes held m))
due-file c role g lawful Rest Then next a (inr (bytes, (held, exact))) = (
  λ m. absurd (never-missing c bytes held m),
  λ other held'. due-bytes role g lawful other (Rest other) (Then other) (next other) a
      (subst (λ (x : List ℕ). Exact role g x (Rest x) a) (one-content c bytes other held held') exact),
)

file-fits : (c : Content) (role : Role) (g : Grammar) (Rest Then : List ℕ → Type 0) (a b : Answer) → ((bytes : List ℕ) → Rest bytes → Then bytes → a ≡ b)
    → ExactFile c role g Rest a → (c ≡ missing → b ≡ ReadFault) × ((bytes : List ℕ) → c ≡ holds bytes → IsDueTo role g bytes b (Then bytes)) → a ≡ b
file-fits c role g Rest Then a b next (inl (m, e)) due = e ∙ sym (due.0 m)
file-fits c role g Rest Then a b next (inr (bytes, (held, exact))) due = bytes-fit role g bytes (Rest bytes) (Then bytes) a b (next bytes) exact (due.1 bytes held)

-- why the bytes of a file that is told could not be had
unread-so : (c : Content) → IsKnown c → (role : Role) (g : Grammar) (name : List ℕ) (old new : Outside) → (Rose old.faults new.faults → ⊥) → (Rest : List ℕ → Type 0)
    → (a : Answer) → IsFound a → IsUnread role c name old new a → ExactFile c role g Rest a
unread-so c known role g name old new calm Rest ReadFault found (inl h) = elim h.reason [ inl rose ↦ absurd (calm rose) | inr m ↦ inl (m, refl) ]
unread-so c known role g name old new calm Rest ReadFault found (inr h) = absurd (calm h.1)
unread-so c known role g name old new calm Rest OutOfMemory found h = absurd found
unread-so c known role g name old new calm Rest (Refused r refusal) found h =
    let l = large-so c known h.2 in
    inr (l.0, (l.1.0, inl (refusal, (inl (h.1, l.1.1), ap (λ (x : Role). Refused x refusal) h.0))))
unread-so c known role g name old new calm Rest _ found h = absurd h

-- a refusal of bytes
refusal-so : (role : Role) (g : Grammar) (bytes : List ℕ) (Rest : Type 0) (a : Answer) → IsFound a → IsRefusal role g bytes a → Exact role g bytes Rest a
refusal-so role g bytes Rest OutOfMemory found h = absurd found
refusal-so role g bytes Rest (Refused r refusal) found h = inl (refusal, (h.1, ap (λ (x : Role). Refused x refusal) h.0))
refusal-so role g bytes Rest _ found h = absurd h

module _ (content : List ℕ → Content) (Ends : Ending) where
  -- how the rest of the inputs is read
  abbrev After : List (List ℕ) → List Input → Outside → Outside → Answer → List ℕ → Type 0
  After earlier inputs old new a bytes =
      (mid : Outside) × ((Rose mid.faults new.faults → Rose old.faults new.faults) × Comes content Ends (earlier ++ bytes ∷ []) inputs mid new a)

  source-so : (role : Role) (name : List ℕ) (grammar : List (List ℕ) → Grammar) (inputs : List Input) → IsKnown (content name) → (earlier : List (List ℕ))
      (old new : Outside) → (Rose old.faults new.faults → ⊥) → (a : Answer) → IsFound a → Comes content Ends earlier (source role name grammar ∷ inputs) old new a
      → ExactFile (content name) role (grammar earlier) (After earlier inputs old new a) a
  source-so role name grammar inputs known earlier old new calm a found (inl (inl h)) =
      unread-so (content name) known role (grammar earlier) name old new calm (After earlier inputs old new a) a found h
  source-so role name grammar inputs known earlier old new calm a found (inl (inr h)) =
      inr (h.bytes, (held-so (content name) h.bytes known h.whole.held, refusal-so role (grammar earlier) h.bytes (After earlier inputs old new a h.bytes) a found h.refusal))
  source-so role name grammar inputs known earlier old new calm a found (inr (mid, (bytes, (good, rest)))) =
      inr (
        bytes,
        (
          held-so (content name) bytes known good.0.held,
          inr ((good.0.size, good.1), (mid, (λ rose. subst (λ n. Rose n new.faults) good.0.calm rose, rest))),
        ),
      )

  at_hand-so : (role : Role) (text : List ℕ) (grammar : List (List ℕ) → Grammar) (inputs : List Input) → (earlier : List (List ℕ))
      (old new : Outside) → (a : Answer) → IsFound a → Comes content Ends earlier (at_hand role text grammar ∷ inputs) old new a
      → Exact role (grammar earlier) text (After earlier inputs old new a text) a
  at_hand-so role text grammar inputs earlier old new a found (inl h) =
      refusal-so role (grammar earlier) text (After earlier inputs old new a text) a found h.1
  at_hand-so role text grammar inputs earlier old new a found (inr (mid, (bytes, (good, rest)))) =
      inr (good.2, subst (After earlier inputs old new a) good.1 (mid, (λ rose. subst (λ (o : Outside). Rose o.faults new.faults) good.0 rose, rest)))

  stream-so : (name : List ℕ) (inputs : List Input) (earlier : List (List ℕ)) (old new : Outside) → (Rose old.faults new.faults → ⊥)
      → (a : Answer) → Comes content Ends earlier (stream name ∷ inputs) old new a
      → ((content name ≡ missing) × (a ≡ ReadFault)) ⊎ ((content name ≢ missing) × After earlier inputs old new a [])
  stream-so name inputs earlier old new calm a (inl (e, h)) = elim h.reason [ inl rose ↦ absurd (calm rose) | inr m ↦ inl (m, e) ]
  stream-so name inputs earlier old new calm a (inr (mid, (bytes, (good, rest)))) =
      let start = good.1.start in
      inr (
        λ m. subst (λ (c : Content). IsAtStartOf c mid.left) m start,
        subst (After earlier inputs old new a) good.0 (mid, (λ rose. subst (λ n. Rose n new.faults) good.1.calm rose, rest)),
      )

  module _ (Due : List (List ℕ) → Answer → Type 0)
      (ends-due : (bytes : List (List ℕ)) (old new : Outside) → (Rose old.faults new.faults → ⊥) → (a : Answer) → IsFound a → Ends bytes old new a → Due bytes a) where
    pub due : (inputs : List Input) → AreLawful inputs → AreKnown content inputs → (earlier : List (List ℕ)) (old new : Outside) → (Rose old.faults new.faults → ⊥)
        → (a : Answer) → IsFound a → Comes content Ends earlier inputs old new a → IsDue content Due earlier inputs a
    due [] lawful known earlier old new calm a found h = ends-due earlier old new calm a found h
    due (source role name grammar ∷ inputs) lawful known earlier old new calm a found h =
        due-file (content name) role (grammar earlier) (lawful.0 earlier) (After earlier inputs old new a)
        (λ bytes. IsDue content Due (earlier ++ bytes ∷ []) inputs a)
        (λ bytes (mid, (rises, rest)). due inputs lawful.1 known.1 (earlier ++ bytes ∷ []) mid new (λ rose. calm (rises rose)) a found rest)
        a (source-so role name grammar inputs known.0 earlier old new calm a found h)
    due (at_hand role text grammar ∷ inputs) lawful known earlier old new calm a found h =
        due-bytes role (grammar earlier) (lawful.0 earlier) text (After earlier inputs old new a text)
        (IsDue content Due (earlier ++ text ∷ []) inputs a)
        (λ (mid, (rises, rest)). due inputs lawful.1 known (earlier ++ text ∷ []) mid new (λ rose. calm (rises rose)) a found rest)
        a (at_hand-so role text grammar inputs earlier old new a found h)
    due (stream name ∷ inputs) lawful known earlier old new calm a found h =
        elim (stream-so name inputs earlier old new calm a h) [
          | inl (m, e) ↦ (λ k. e, λ k. absurd (k m))
          | inr (there, (mid, (rises, rest))) ↦
              (λ k. absurd (there k), λ k. due inputs lawful known.1 (earlier ++ [] ∷ []) mid new (λ rose. calm (rises rose)) a found rest)
        ]

  module _ (Due : List (List ℕ) → Answer → Type 0) (a b : Answer) (found : IsFound a)
      (ends-fit : (bytes : List (List ℕ)) (old new : Outside) → (Rose old.faults new.faults → ⊥) → Ends bytes old new a → Due bytes b → a ≡ b) where
    pub fits : (inputs : List Input) → AreKnown content inputs → (earlier : List (List ℕ)) (old new : Outside) → (Rose old.faults new.faults → ⊥)
        → Comes content Ends earlier inputs old new a → IsDue content Due earlier inputs b → a ≡ b
    fits [] known earlier old new calm h due = ends-fit earlier old new calm h due
    fits (source role name grammar ∷ inputs) known earlier old new calm h due =
        file-fits (content name) role (grammar earlier) (After earlier inputs old new a)
        (λ bytes. IsDue content Due (earlier ++ bytes ∷ []) inputs b) a b
        (λ bytes (mid, (rises, rest)) k. fits inputs known.1 (earlier ++ bytes ∷ []) mid new (λ rose. calm (rises rose)) rest k)
        (source-so role name grammar inputs known.0 earlier old new calm a found h) due
    fits (at_hand role text grammar ∷ inputs) known earlier old new calm h due =
        bytes-fit role (grammar earlier) text (After earlier inputs old new a text)
        (IsDue content Due (earlier ++ text ∷ []) inputs b) a b
        (λ (mid, (rises, rest)) k. fits inputs known (earlier ++ text ∷ []) mid new (λ rose. calm (rises rose)) rest k)
        (at_hand-so role text grammar inputs earlier old new a found h) due
    fits (stream name ∷ inputs) known earlier old new calm h due =
        elim (stream-so name inputs earlier old new calm a h) [
          | inl (m, e) ↦ e ∙ sym (due.0 m)
          | inr (there, (mid, (rises, rest))) ↦ fits inputs known.1 (earlier ++ [] ∷ []) mid new (λ rose. calm (rises rose)) rest (due.1 there)
        ]
