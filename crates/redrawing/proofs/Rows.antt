-- Laws of a redrawn row: every byte but the arms as it was, the arms as drawn, and as it is when drawn again.
-- Assumes nothing.
use mathlib.Core.Path.{◌≡◌, refl, sym, ◌∙◌}
use mathlib.Core.Bool.{Bool, true, false, cond, ◌&&◌, true≢false}
use Prim.Native.Nat.{ℕ, ◌+◌, ◌*◌, ◌≤◌, ◌<◌}
use native.Mathlib.Omega.{arith}
use lib.ListN.{length, get_or, set, length-set}
use lib.Seq.{get_or-set_same, get_or-set_other, set-get_or, set_comm}
use lib.Dec.{leb}
use Rattle.blocks.specs.Kind.{is_dust}
use Rattle.columns.specs.Column.{Bytes, part}
use Rattle.columns.proofs.Parts.{length_part, part_at}
use Rattle.places.specs.Places.{North, East, South, West}
use Rattle.world.specs.Rows.{byte_of, pos_of, kind_of}
use Rattle.wire.proofs.Region.{AlikeOver, infer_over}
use Rattle.wire.proofs.Alike.{Everywhere, all_hold}
use Rattle.redrawing.specs.declared.Arms.{Arms}
use Rattle.redrawing.specs.Drawn.{entry_of, entries_of, drawn_arms, drawn, redrawn_row}

-- the bytes of the arms
abbrev pub is_arm_byte : ℕ → Bool
is_arm_byte b = leb 23 b && leb b 27

-- the bytes of a row that redrawing leaves alone
abbrev pub Kept : ℕ → Type 0
Kept b = (b < 32) × (is_arm_byte b ≡ false)

-- ---- a row with arms

length_drawn : (r : Bytes) (a : Arms) → length (drawn r a) ≡ length r
unfolding drawn
length_drawn r a = simp length-set

module _ (b : ℕ) (k : is_arm_byte b ≡ false) where
  no_arm : (n : ℕ) → is_arm_byte n ≡ true → ¬ (b ≡ n)
  no_arm n h e = true≢false (sym h ∙ (rw e at k))

  past_arm : (s : Bytes) (n v : ℕ) → is_arm_byte n ≡ true → get_or (set s n v) b 0 ≡ get_or s b 0
  past_arm s n v h = get_or-set_other s n b v 0 (no_arm n h)

  drawn_keeps : (r : Bytes) (a : Arms) → get_or (drawn r a) b 0 ≡ get_or r b 0
  unfolding drawn
  drawn_keeps r a =
      rw (past_arm _ 27 _ refl, past_arm _ 26 _ refl, past_arm _ 25 _ refl, past_arm _ 24 _ refl, past_arm _ 23 _ refl)

-- the arms of a row are these
pub record HasArms (r : Bytes) (a : Arms) : Type 0 where
  pub stored : get_or r 23 0 ≡ 1
  pub north : get_or r 24 0 ≡ a.north
  pub east : get_or r 25 0 ≡ a.east
  pub south : get_or r 26 0 ≡ a.south
  pub west : get_or r 27 0 ≡ a.west

module _ (r : Bytes) (a : Arms) (w : length r ≡ 32) where
  here : (s : Bytes) (n v : ℕ) → length s ≡ 32 → n < 32 → get_or (set s n v) n 0 ≡ v
  here s n v e h = get_or-set_same s n v 0 (omega arith)

  past : (s : Bytes) (n b v : ℕ) → b < n → get_or (set s n v) b 0 ≡ get_or s b 0
  past s n b v h = get_or-set_other s n b v 0 (λ e. omega arith)

  -- a row that is drawn with them has them
  pub drawn-arms : HasArms (drawn r a) a
  unfolding drawn
  drawn-arms =
      let s3 = set r 23 1 in
      let s4 = set s3 24 a.north in
      let s5 = set s4 25 a.east in
      let s6 = set s5 26 a.south in
      let w3 : length s3 ≡ 32 = length-set r 23 1 ∙ w in
      let w4 : length s4 ≡ 32 = length-set s3 24 a.north ∙ w3 in
      let w5 : length s5 ≡ 32 = length-set s4 25 a.east ∙ w4 in
      let w6 : length s6 ≡ 32 = length-set s5 26 a.south ∙ w5 in
      record {
        stored =
            past s6 27 23 a.west (omega arith) ∙ past s5 26 23 a.south (omega arith) ∙ past s4 25 23 a.east (omega arith)
            ∙ past s3 24 23 a.north (omega arith) ∙ here r 23 1 w (omega arith);
        north =
            past s6 27 24 a.west (omega arith) ∙ past s5 26 24 a.south (omega arith) ∙ past s4 25 24 a.east (omega arith)
            ∙ here s3 24 a.north w3 (omega arith);
        east = past s6 27 25 a.west (omega arith) ∙ past s5 26 25 a.south (omega arith) ∙ here s4 25 a.east w4 (omega arith);
        south = past s6 27 26 a.west (omega arith) ∙ here s5 26 a.south w5 (omega arith);
        west = here s6 27 a.west w6 (omega arith);
      }

-- a row that has them is as it was when it is drawn with them
pub drawn_same : (r : Bytes) (a : Arms) → HasArms r a → drawn r a ≡ r
unfolding drawn
drawn_same r a h = rw (stays 23 _ h.stored, stays 24 _ h.north, stays 25 _ h.east, stays 26 _ h.south, stays 27 _ h.west)
  where
    stays : (n v : ℕ) → get_or r n 0 ≡ v → set r n v ≡ r
    stays n v e = rw (← e) (set-get_or r n 0)

-- a byte that is not an arm's, written before the arms or after them
pub drawn_set : (b : ℕ) → is_arm_byte b ≡ false → (r : Bytes) (a : Arms) (v : ℕ) → drawn (set r b v) a ≡ set (drawn r a) b v
unfolding drawn
drawn_set b k r a v =
    rw (after _ 23 _ refl, after _ 24 _ refl, after _ 25 _ refl, after _ 26 _ refl, after _ 27 _ refl)
  where
    after : (s : Bytes) (n u : ℕ) → is_arm_byte n ≡ true → set (set s b v) n u ≡ set (set s n u) b v
    after s n u h = set_comm s b n v u (no_arm b k n h)

-- ---- a row of a table

module _ (p t : Bytes) (i : ℕ) where
  -- a row is redrawn or as it was
  pub by_kind : (P : Bytes → Type 0) → P (drawn (part 32 t i) (drawn_arms p t i)) → P (part 32 t i) → P (redrawn_row p t i)
  unfolding redrawn_row
  by_kind P d o = go (is_dust (kind_of t i))
    where
      go : (b : Bool) → P (cond b (drawn (part 32 t i) (drawn_arms p t i)) (part 32 t i))
      go true = d
      go false = o

  pub length_row : i * 32 + 32 ≤ length t → length (redrawn_row p t i) ≡ 32
  length_row h =
      let whole : length (part 32 t i) ≡ 32 = length_part 32 t i h in
      by_kind (λ r. length r ≡ 32) (length_drawn _ _ ∙ whole) whole

  -- a byte that is not an arm's is as it was
  pub row_keeps : (b : ℕ) → Kept b → get_or (redrawn_row p t i) b 0 ≡ byte_of t i b
  row_keeps b k =
      let same : get_or (part 32 t i) b 0 ≡ byte_of t i b = part_at 32 t i b k.0 in
      by_kind (λ r. get_or r b 0 ≡ byte_of t i b) (drawn_keeps b k.1 _ _ ∙ same) same

-- tables with the same blocks at every position draw the same arms: no stored arm is read, nor whether a block is powered
pub same_drawn : {t u : Bytes} → AlikeOver Everywhere t u → (p : Bytes) (i : ℕ) → pos_of t i ≡ pos_of u i → drawn_arms p t i ≡ drawn_arms p u i
unfolding entries_of entry_of
same_drawn {t} {u} a p i place =
    let q = pos_of u i in
    let infer = infer_over a p q (all_hold q) in
    rw (place, infer North, infer East, infer South, infer West)
