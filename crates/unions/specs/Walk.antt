-- The walk along the rows of two tables, from row i of the first and row j of the second on. These are for the contracts of its steps; nothing that
-- a call promises rests on them.
-- Assumes nothing.
use Rattle.std.specs.Prelude.{◌≡◌, Bool, true, false, cond, not, ℕ, ◌+◌, ◌*◌, ◌≤◌, ◌<◌, length, eqb, Option, Some, None}
use Rattle.columns.specs.Column.{Bytes, part, same}
use Rattle.places.specs.Places.{before}
use Rattle.world.specs.Rows.{rows, pos_of}
use Rattle.refusals.specs.Accepted.{Table}
use Rattle.unions.specs.declared.Next.{Next}
use Rattle.unions.specs.declared.Next.TheVariants.{First, Second, Both}
use Rattle.unions.specs.declared.Walk.{Walk}

-- the next row of both, where one of them has a row left
unfoldable pub next_of : Bytes → ℕ → Bytes → ℕ → Next
next_of a i b j =
    cond (eqb i (rows a)) (Second j)
    (cond (eqb j (rows b)) (First i)
    (cond (before (pos_of a i) (pos_of b j)) (First i) (cond (before (pos_of b j) (pos_of a i)) (Second j) (Both i j))))

-- it is a row of the first
abbrev pub in_first : Next → Bool
in_first (First i) = true
in_first (Second j) = false
in_first (Both i j) = true

-- and of the second
abbrev pub in_second : Next → Bool
in_second (First i) = false
in_second (Second j) = true
in_second (Both i j) = true

-- the index past a row, if it is taken
abbrev pub past : Bool → ℕ → ℕ
past true i = i + 1
past false i = i

-- a row that both have differs
abbrev pub clash_at : Bytes → Bytes → Next → Bool
clash_at a b (First i) = false
clash_at a b (Second j) = false
clash_at a b (Both i j) = not (same (part 32 a i) (part 32 b j))

-- its bytes
abbrev pub next_row : Bytes → Bytes → Next → Bytes
next_row a b (First i) = part 32 a i
next_row a b (Second j) = part 32 b j
next_row a b (Both i j) = part 32 a i

-- the rows taken lie within the tables
abbrev pub Within : Bytes → Bytes → Next → Type 0
Within a b (First i) = i * 32 + 32 ≤ length a
Within a b (Second j) = j * 32 + 32 ≤ length b
Within a b (Both i j) = (i * 32 + 32 ≤ length a) × (j * 32 + 32 ≤ length b)

-- ---- the walk

-- it has come so far along two accepted tables
pub record OnWay (s : Walk) : Type 0 where
  pub first : Table s.first.now
  pub second : Table s.second.now
  pub first_in : s.i ≤ rows s.first.now
  pub second_in : s.j ≤ rows s.second.now

-- a step takes the next row, while there is one
abbrev pub Steps : Walk → Option Next → Walk → Type 0
Steps s None t = rows s.first.now + rows s.second.now ≤ s.i + s.j
Steps s (Some next) t =
    (s.i + s.j < rows s.first.now + rows s.second.now)
    × (next ≡ next_of s.first.now s.i s.second.now s.j)
    × (t ≡ record { first = s.first; i = past (in_first next) s.i; second = s.second; j = past (in_second next) s.j })
