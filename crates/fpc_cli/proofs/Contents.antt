-- What a file that is told holds.
use Rattle.std.proofs.Common.{◌≡◌, ℕ, ◌<◌, List, length, refl, sym, ap, ◌∙◌}
use Rattle.fpc_base.specs.Outside.{Content, untold, missing, holds}
use Rattle.fpc_cli.specs.Held.{MayHold, MayBeTooLarge, IsKnown}

-- a file that is told holds the bytes that it may hold
pub held-so : (c : Content) (bytes : List ℕ) → IsKnown c → MayHold c bytes → c ≡ holds bytes
held-so untold bytes known held = absurd known
held-so missing bytes known held = absurd held
held-so (holds b) bytes known held = ap holds held

-- a file that is told and may be too large holds too many bytes
pub large-so : (c : Content) → IsKnown c → MayBeTooLarge c
    → (bytes : List ℕ) × ((c ≡ holds bytes) × (16777216 < length bytes))
large-so untold known large = absurd known
large-so missing known large = absurd large
large-so (holds b) known large = (b, (refl, large))

-- a file that holds bytes isn't missing
pub never-missing : (c : Content) (bytes : List ℕ) → c ≡ holds bytes → c ≡ missing → ⊥
never-missing c bytes held m = let never : holds bytes ≡ missing = sym held ∙ m in cc

-- a file holds one list of bytes
pub one-content : (c : Content) (x y : List ℕ) → c ≡ holds x → c ≡ holds y → x ≡ y
one-content c x y h k = let same : holds x ≡ holds y = sym h ∙ k in cc
