-- Positions and facings. A facing is its number in byte 13: "0 missing, 1 North, 2 East, 3 South, 4 West, 5 Up, 6 Down".
-- Assumes nothing.
use Rattle.std.specs.Prelude.{Bool, false, cond, ◌&&◌, ◌||◌, List, [], ◌∷◌, ℕ, eqb, leb, ℤ, Option, Some, None}
use Rattle.std.specs.Int.Signed.{lt_z}
use Rattle.places.specs.Signed.{minus_one, zero_z, one, sat_add, eq_z}
use Rattle.places.specs.declared.Pos.{Pos}

abbrev pub North : ℕ
North = 1

abbrev pub East : ℕ
East = 2

abbrev pub South : ℕ
South = 3

abbrev pub West : ℕ
West = 4

abbrev pub Up : ℕ
Up = 5

abbrev pub Down : ℕ
Down = 6

-- the four facings in the order of `HORIZONTAL`
abbrev pub horizontals : List ℕ
horizontals = North ∷ East ∷ South ∷ West ∷ []

-- `Pos::new`
abbrev pub cell : ℤ → ℤ → ℤ → Pos
cell a b c = record { x = a; y = b; z = c }

-- `Pos::offset`: the position that many cells away
abbrev pub offset : Pos → ℤ → ℤ → ℤ → Pos
offset q dx dy dz = cell (sat_add q.x dx) (sat_add q.y dy) (sat_add q.z dz)

unfoldable pub same_pos : Pos → Pos → Bool
same_pos p q = eq_z p.x q.x && eq_z p.y q.y && eq_z p.z q.z

-- "ordered by x, then y, then z": p comes before q
unfoldable pub before : Pos → Pos → Bool
before p q =
    lt_z p.x q.x || (eq_z p.x q.x && (lt_z p.y q.y || (eq_z p.y q.y && lt_z p.z q.z)))

-- `Facing::opposite`
unfoldable pub opposite : ℕ → ℕ
opposite f =
    cond (eqb f North) South
    (cond (eqb f East) West (cond (eqb f South) North (cond (eqb f West) East (cond (eqb f Up) Down (cond (eqb f Down) Up 0)))))

-- "North (0,0,-1), East (1,0,0), South (0,0,1), West (-1,0,0)"
unfoldable pub step : ℕ → Pos
step f =
    cond (eqb f North) (cell zero_z zero_z minus_one)
    (cond (eqb f East) (cell one zero_z zero_z)
    (cond (eqb f South) (cell zero_z zero_z one) (cond (eqb f West) (cell minus_one zero_z zero_z) (cell zero_z zero_z zero_z))))

abbrev pub is_horizontal : ℕ → Bool
is_horizontal f = leb North f && leb f West

-- `Facing::horizontal_offset`: "missing, Up or Down facing gives none"
unfoldable pub horizontal_offset : ℕ → Option Pos
horizontal_offset f = cond (is_horizontal f) (Some (step f)) None

-- the position beside q along a horizontal facing
unfoldable pub beside : Pos → ℕ → Pos
beside q f = offset q (step f).x zero_z (step f).z

abbrev pub above : Pos → Pos
above q = offset q zero_z one zero_z

abbrev pub below : Pos → Pos
below q = offset q zero_z minus_one zero_z

-- "its six neighbours", in the order of `ADJACENT`
abbrev pub neighbours : Pos → List Pos
neighbours p = beside p East ∷ beside p West ∷ above p ∷ below p ∷ beside p South ∷ beside p North ∷ []

-- q is one of the positions
abbrev pub is_among : List Pos → Pos → Bool
is_among [] q = false
is_among (p ∷ ps) q = same_pos p q || is_among ps q

-- q is one of p's six neighbours
unfoldable pub adjacent : Pos → Pos → Bool
adjacent p q = is_among (neighbours p) q

-- the place is the position q
abbrev pub is_at : Option Pos → Pos → Bool
is_at (Some p) q = same_pos p q
is_at None q = false
