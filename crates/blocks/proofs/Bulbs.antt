-- Document 02, Change 4: 13 bytes of a profile with a fourteenth, the bulb's. Assumes nothing.
use mathlib.Core.Path.{◌≡◌, refl, sym, ◌∙◌}
use mathlib.Core.Logic.{by_cases}
use mathlib.Core.List.{[], ◌∷◌, ◌++◌}
use Prim.Native.Nat.{ℕ, ◌≤◌}
use native.Mathlib.Decide.{dec_lt}
use native.Mathlib.Omega.{arith}
use lib.ListN.{length, get_or, take, length-append, get_or-append, get_or-eq_default}
use lib.Seq.{get_or-append-add, length-take-le, take-length, take-suc}
use Rattle.columns.specs.Column.{Bytes}
use Rattle.blocks.specs.Kind.{RedstoneTorch, CopperBulb}
use Rattle.blocks.specs.Profile.{says, torch_charges_above, properties_of}

abbrev pub with_bulb : Bytes → ℕ → Bytes
with_bulb p b = p ++ b ∷ []

module _ (p : Bytes) (b : ℕ) (h : length p ≡ 13) where
  pub length_with_bulb : length (with_bulb p b) ≡ 14
  length_with_bulb = length-append p (b ∷ []) ∙ rw h refl

  -- the fourteenth byte is the bulb's,
  pub bulb_byte : get_or (with_bulb p b) CopperBulb 0 ≡ b
  bulb_byte = rw h at (get_or-append-add p (b ∷ []) 0 0)

  -- and every other kind's is as it was
  pub kind_byte : (k : ℕ) → ¬ (k ≡ CopperBulb) → get_or (with_bulb p b) k 0 ≡ get_or p k 0
  kind_byte k n =
      by_cases (dec_lt k 13) (λ l. get_or-append p (b ∷ []) 0 k (omega arith))
      (λ m.
      let past : length (with_bulb p b) ≤ k = rw length_with_bulb (omega arith) in
      get_or-eq_default (with_bulb p b) 0 past ∙ sym (get_or-eq_default p 0 (omega arith)))

  -- so that every other kind has the properties that it had, and torches charge as they did
  pub kind-properties : (k : ℕ) → ¬ (k ≡ CopperBulb) → properties_of (with_bulb p b) k ≡ properties_of p k
  unfolding properties_of says
  kind-properties k n = rw (kind_byte k n) refl

  pub torch_charges_alike : torch_charges_above (with_bulb p b) ≡ torch_charges_above p
  unfolding says
  torch_charges_alike = rw (kind_byte RedstoneTorch (λ e. omega arith)) refl

-- Every profile of 14 bytes is one of 13 with a fourteenth.
pub parted : (q : Bytes) → length q ≡ 14 → q ≡ with_bulb (take 13 q) (get_or q CopperBulb 0)
parted q h = sym (rw h at (take-length q)) ∙ take-suc q 13 0 (omega arith)

pub length_first_13 : (q : Bytes) → length q ≡ 14 → length (take 13 q) ≡ 13
length_first_13 q h = length-take-le 13 q (omega arith)
