-- Laws: whether any rule fits is asked rule by rule and facing by facing.
-- Assumes nothing.
use Rattle.std.proofs.Common.{Option, Some, None}
use mathlib.Core.Path.{◌≡◌, refl}
use mathlib.Core.Bool.{Bool, true, false, cond, ◌||◌}
use Prim.Native.Nat.{ℕ}
use Rattle.columns.proofs.Truth.{or_none}
use Rattle.places.specs.Places.{North, East, South, West, horizontals}
use Rattle.wire.specs.declared.transfer.DustTransfer.{DustTransfer}
use Rattle.wire.specs.declared.transfer.DustTransfer.TheVariants.{Horizontal, Rise, FallThroughConductor}
use Rattle.wire.specs.Transfer.{or_rule, first_rule, is_transfer}

pub along_any : (a b c : Bool) → is_transfer (cond a (Some Horizontal) (cond b (Some Rise) (cond c (Some FallThroughConductor) None))) ≡ (a || (b || c))
along_any true b c = refl
along_any false true c = refl
along_any false false true = refl
along_any false false false = refl

pub or_any : (r later : Option DustTransfer) → is_transfer (or_rule r later) ≡ (is_transfer r || is_transfer later)
or_any (Some rule) later = refl
or_any None later = refl

pub first_any : (rule : ℕ → Option DustTransfer)
    → is_transfer (first_rule rule horizontals) ≡ (is_transfer (rule North) || (is_transfer (rule East) || (is_transfer (rule South) || is_transfer (rule West))))
unfolding first_rule
first_any rule = simp (or_any, or_none)
