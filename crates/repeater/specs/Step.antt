-- What a tick does to the sixteen bytes of a repeater: of row i, with the old device column d and the old settled numbers s.
-- Assumes nothing.
use Rattle.std.specs.Prelude.{Bool, false, cond, not, ◌&&◌, ◌||◌, ℕ, ◌+◌, ◌*◌, ◌-◌, ◌/◌, ◌%◌, ◌^◌, set, eqb, Option, Some, None}
use Rattle.columns.specs.Column.{Bytes, Column, row}
use Rattle.columns.specs.First.{on_found}
use Rattle.blocks.specs.Profile.{reads_block_power}
use Rattle.places.specs.declared.Pos.{Pos}
use Rattle.world.specs.Rows.{kind_of}
use Rattle.world.specs.Find.{find, find_at}
use Rattle.connectivity.specs.Ports.{input_of, sides_of}
use Rattle.edges.specs.Edges.{outputs_to}
use Rattle.states.specs.Row.{queue_of, delay_of}
use Rattle.levels.specs.Numbers.{Numbers, power_at, number}

-- "A repeater reads block power where its input kind's profile says so, else signal": at row j
unfoldable pub repeater_input_level : Bytes → Bytes → Numbers → ℕ → ℕ
repeater_input_level p t s j = cond (reads_block_power p (kind_of t j)) (power_at s.weak s.strong j) (row s.signal j)

-- its input is on
unfoldable pub is_requested : Bytes → Bytes → Numbers → ℕ → Bool
is_requested p t s i = not (eqb (on_found (repeater_input_level p t s) 0 (find_at t (input_of t i))) 0)

module _ (t : Bytes) (d : Column) (i : ℕ) where
  -- row j is a repeater or comparator that outputs into row i, and is on
  abbrev pub locks : ℕ → Bool
  locks j = outputs_to t j i && not (eqb (row d j) 0)

  -- one at q does
  unfoldable pub locks_from : Pos → Bool
  locks_from q = on_found locks false (find t q)

  abbrev pub locked_by : Option (Pos × Pos) → Bool
  locked_by (Some (a, b)) = locks_from a || locks_from b
  locked_by None = false

  -- "while a side repeater or comparator that outputs into it is on, it is locked"
  unfoldable pub is_locked : Bool
  is_locked = locked_by (sides_of t i)

-- the oldest bit of the queue q leaves at bit 0, and the input comes in at the other end
unfoldable pub next_queue : ℕ → ℕ → Bool → ℕ
next_queue q delay requested = q / 2 + number requested * 2 ^ (delay - 1)

-- "locked and keeps output and queue"; else the output is the oldest bit
unfoldable pub repeater_row : Bytes → Bytes → Column → Numbers → ℕ → Bytes → Bytes
repeater_row p t d s i r =
    let q = next_queue (queue_of r) (delay_of t i) (is_requested p t s i) in
    cond (is_locked t d i) r (set (set r 0 (q % 2)) 1 q)
