-- What a device's step reads of a profile: the traits of the rows, and of which kinds a repeater reads the block's power.
-- Assumes nothing.
use mathlib.Core.Path.{◌≡◌, refl}
use mathlib.Core.Bool.{false, not, ◌&&◌}
use Prim.Native.Nat.{ℕ}
use lib.Dec.{eqb}
use Rattle.columns.specs.Column.{Bytes, Column}
use Rattle.columns.specs.First.{on_found}
use Rattle.blocks.specs.Profile.{reads_block_power}
use Rattle.world.specs.Rows.{kind_of, support_of}
use Rattle.world.specs.Find.{find_at}
use Rattle.connectivity.specs.Ports.{input_of}
use Rattle.traits.specs.Traits.{traits, conducts}
use Rattle.levels.specs.Numbers.{Numbers, has_power}
use Rattle.repeater.specs.Step.{repeater_input_level, is_requested, repeater_row}
use Rattle.torch.specs.Step.{torch_support_is_powered, torch_row}
use Rattle.devices.specs.Step.{device_row}

-- by two profiles that read alike at every row
module _ (q p t : Bytes) (same : (i : ℕ) → traits q t i ≡ traits p t i) (reads : (i : ℕ) → reads_block_power q (kind_of t i) ≡ reads_block_power p (kind_of t i)) where
  input_level : (s : Numbers) (j : ℕ) → repeater_input_level q t s j ≡ repeater_input_level p t s j
  unfolding repeater_input_level
  input_level s j = rw (reads j) refl

  requested : (s : Numbers) (i : ℕ) → is_requested q t s i ≡ is_requested p t s i
  unfolding is_requested
  requested s i = λ x. not (eqb (on_found (λ j. input_level s j x) 0 (find_at t (input_of t i))) 0)

  support : (weak strong : Column) (i : ℕ) → torch_support_is_powered q t weak strong i ≡ torch_support_is_powered p t weak strong i
  unfolding torch_support_is_powered
  support weak strong i = λ x. on_found (λ j. conducts (same j x) && has_power weak strong j) false (find_at t (support_of t i))

  -- a device's step is the same
  pub same_device : (d : Column) (s : Numbers) (i : ℕ) (r : Bytes) → device_row q t d s i r ≡ device_row p t d s i r
  unfolding device_row repeater_row torch_row
  same_device d s i r = rw (requested s i, support s.weak s.strong i) refl
