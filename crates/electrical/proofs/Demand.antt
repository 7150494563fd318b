-- Demand 3, over tables, in the order of its sentences, which stand in quotation marks; and after them document 02, Change 5. A theorem that
-- asks for no accepted table and no valid column holds of every table and every column. The profile p is taken as given, with value 32 of the torch's byte or without, of 13 bytes or 14,
-- and a table with bulbs or without: nothing here asks which. `Settles` is what each way to settle ensures of its buffers and its answer:
-- by keys `solve_instantaneous` and the editor's call `redstone_settle`, round by round `solve_by_rounds` and `probe_settle_by_rounds`. So what is said of
-- calls here is said of either way, and of calls of both together. Document 02, Change 10.
-- Assumes nothing.
use mathlib.Core.Path.{◌≡◌, refl, sym, ◌∙◌}
use mathlib.Core.Bool.{true, false}
use Prim.Native.Nat.{ℕ, ◌/◌, ◌≤◌, ◌<◌, max}
use native.Mathlib.Nat.{le_trans}
use native.Mathlib.Omega.{arith}
use lib.ListN.{length}
use borrow.Author.Tests.{le-leb}
use Rattle.columns.specs.Column.{Bytes, Column, row}
use Rattle.columns.specs.Signal.{max_signal, AtMost15}
use Rattle.network.specs.Network.{Rounds, Satisfies, Breaks}
use Rattle.network.specs.Compare.{Larger, AtMost, Within, AtEveryRow₂, AtEveryRow₃, States₂, States₃, PowerOnMap}
use Rattle.network.specs.Settled.{settled as networkSettled}
use Rattle.network.specs.Laws.States.{Sized, after_sized}
use Rattle.network.specs.Demand as Network
use Rattle.blocks.specs.Kind.{is_dust}
use Rattle.world.specs.Rows.{rows, kind_of}
use Rattle.traits.specs.Traits.{traits, conducts}
use Rattle.refusals.specs.Check.{refused, IsAccepted}
use Rattle.refusals.specs.Answers.{Gives, Tells}
use Rattle.refusals.proofs.Passed.{or_accepted}
use Rattle.refusals.proofs.Gives.{not_given}
use Rattle.refusals.proofs.Tells.{told_accepted, accepted_told, never_told}
use Rattle.arms.specs.Arms.{arm_of}
use Rattle.emitted.specs.Emitted.{IsValid, emitted_level, emitted}
use Rattle.edges.specs.Edges.{network_of}
use Rattle.electrical.specs.Answer.{rounds_of, settled, good_columns, check_call, check_settle, of_call, of_settle, Passed, Settles, SettledTo, Unchanged}
use Rattle.electrical.specs.Join.{larger_of, Joined, Call, JoinedCalls}
use Rattle.electrical.proofs.Emitted.{emitted_larger, level_capped, emitted_capped}
use Rattle.edges.proofs.Networks.{power_on_map}
use Rattle.electrical.proofs.Devices.{valid_devices, devices_valid, is_larger, larger_devices}
use Rattle.electrical.proofs.Answers.{accepted_passed, passed_accepted, call_gives, settle_gives, settling_tells}

-- ---- "Whichever two valid device columns of whatever accepted table, under one profile, are joined by taking the larger number at each row:
-- signal, weak and strong power of the joined column are at every row the larger of the two; its rounds are at most the larger"

-- of a column that is at each row the larger
module _ (p t : Bytes) {a b c : Column} (j : AtEveryRow₃ Larger a b c) where
  pub settled_join : States₃ Larger (settled p t a) (settled p t b) (settled p t c)
  unfolding settled
  settled_join = Network.settled_larger (network_of p t) (emitted_larger t j)

  pub rounds_join : rounds_of p t c ≤ max (rounds_of p t a) (rounds_of p t b)
  unfolding rounds_of
  rounds_join = Network.rounds_larger (network_of p t) (emitted_larger t j)

-- and so of the joined one, which is valid
pub join_settles : (p t : Bytes) (a b : Column) → IsValid t a → IsValid t b → Joined p t a b (larger_of a b)
join_settles p t a b ha hb =
    let va = valid_devices t a ha in
    let vb = valid_devices t b hb in
    record {
      valid = devices_valid t (larger_of a b) (larger_devices t va vb);
      numbers = settled_join p t (is_larger t va vb);
      rounds = rounds_join p t (is_larger t va vb);
    }

-- ---- "whatever its limit, settle, where it does not refuse, writes the definition's numbers and answers the definition's rounds"

module _ {p t : Bytes} {d : Column} {limit : ℕ} {signal weak strong signal' weak' strong' : Column} {r : ℕ}
    (s : Settles p t d limit signal weak strong signal' weak' strong' r) where
  -- the answer says whether it refuses, and then with which number and row
  pub settle_tells : Tells of_settle (check_settle p t d limit (length signal) (length weak) (length strong)) r (SettledTo p t d signal' weak' strong' r)
      (Unchanged signal weak strong signal' weak' strong')
  settle_tells = settling_tells refl (settle_gives p t d (length signal) (length weak) (length strong) limit) s.answer s.columns

  pub settles : r < 65536 → SettledTo p t d signal' weak' strong' r
  settles = settle_tells.done

  -- and it does not refuse where each test passes
  pub settle_done : Passed p t d limit (length signal) (length weak) (length strong) → r < 65536
  settle_done h = accepted_told settle_tells (passed_accepted p t d limit (length signal) (length weak) (length strong) h)

-- two calls with the same input, be it one each way, answer the same and leave the same bytes, refused or not
pub one_answer : {p t : Bytes} {d : Column} {limit : ℕ} {signal weak strong signal₁ weak₁ strong₁ signal₂ weak₂ strong₂ : Column} {r₁ r₂ : ℕ}
    → Settles p t d limit signal weak strong signal₁ weak₁ strong₁ r₁ → Settles p t d limit signal weak strong signal₂ weak₂ strong₂ r₂
    → (r₁ ≡ r₂) × (signal₁ ≡ signal₂) × (weak₁ ≡ weak₂) × (strong₁ ≡ strong₂)
one_answer x y =
    let a = x.columns in
    let b = y.columns in
    (x.answer ∙ sym y.answer, a.signals ∙ sym b.signals, a.weaks ∙ sym b.weaks, a.strongs ∙ sym b.strongs)

-- ---- "so both rules hold of what settle writes and answers too, where it refuses none of the three columns"

passed : {p t : Bytes} {d : Column} (x : Call p t d) → x.answer < 65536
    → Passed p t d x.limit (length x.signal) (length x.weak) (length x.strong)
passed {p} {t} {d} x h = accepted_passed p t d _ _ _ _ (told_accepted (settle_tells x.whole) h)

joined : {p t : Bytes} {a b : Column} (x : Call p t a) (y : Call p t b) → x.answer < 65536 → y.answer < 65536 → Joined p t a b (larger_of a b)
joined {p} {t} {a} {b} x y hx hy = join_settles p t a b (passed x hx).valid (passed y hy).valid

module _ {p t : Bytes} {a b : Column} (x : Call p t a) (y : Call p t b) (z : Call p t (larger_of a b)) where
  pub written_join : x.answer < 65536 → y.answer < 65536 → z.answer < 65536 → JoinedCalls x y z
  written_join hx hy hz =
      let sx = settles x.whole hx in
      let sy = settles y.whole hy in
      let sz = settles z.whole hz in
      let j = joined x y hx hy in
      record {
        signals = rw (sx.signals, sy.signals, sz.signals) j.numbers.signal;
        weaks = rw (sx.weaks, sy.weaks, sz.weaks) j.numbers.weak;
        strongs = rw (sx.strongs, sy.strongs, sz.strongs) j.numbers.strong;
        rounds = rw (sx.rounds, sy.rounds, sz.rounds) j.rounds;
        range = (sx.range, sy.range, sz.range);
      }

  -- where it does not refuse the first two, it does not refuse the third with output columns of one entry a row and a limit that is at
  -- least the larger answer
  pub join_done : x.answer < 65536 → y.answer < 65536 → good_columns t (length z.signal) (length z.weak) (length z.strong) ≡ true
      → max x.answer y.answer ≤ z.limit → z.answer < 65536
  join_done hx hy columns enough =
      let j = joined x y hx hy in
      settle_done z.whole
      (record {
        accepted = (passed x hx).accepted;
        valid = j.valid;
        columns = columns;
        enough = le_trans j.rounds (rw ((settles x.whole hx).rounds, (settles y.whole hy).rounds) at enough);
      })

-- ---- "the rounds are at most 17 for every valid column of every accepted table"

module _ (p t : Bytes) (d : Column) where
  -- the number of rounds is that of the first round that answers
  pub rounds_first : Rounds (network_of p t) (emitted t d) (rounds_of p t d)
  unfolding rounds_of
  rounds_first = Network.rounds_first (network_of p t) (emitted t d)

  pub rounds_range : (1 ≤ rounds_of p t d) × (rounds_of p t d ≤ 17)
  unfolding rounds_of
  rounds_range = Network.rounds_range (network_of p t) (emitted t d)

-- ---- "so settle with a limit from 17 up never calls it unsettled"

module _ (p t : Bytes) (d : Column) (limit : ℕ) (h : 17 ≤ limit) (signal weak strong : ℕ) where
  -- the test of the limit changes nothing
  pub never_unsettled : check_settle p t d limit signal weak strong ≡ check_call p t d signal weak strong
  unfolding check_settle
  never_unsettled = rw (le-leb (rounds_of p t d) limit (omega (arith, rounds_range p t d))) (or_accepted (check_call p t d signal weak strong))

  pub gives_from_17 : Gives of_call (check_settle p t d limit signal weak strong)
  gives_from_17 = rw never_unsettled (call_gives p t d signal weak strong)

  -- whatever it is handed, number 8 does not fall on it
  pub never_8 : (i : ℕ) → ¬ (check_settle p t d limit signal weak strong ≡ refused 8 i)
  never_8 i = not_given gives_from_17 8 i refl

module _ {p t : Bytes} {d : Column} {limit : ℕ} {signal weak strong signal' weak' strong' : Column} {r : ℕ}
    (s : Settles p t d limit signal weak strong signal' weak' strong' r) (h : 17 ≤ limit) where
  -- nor is it read from its answer
  pub tells_from_17 : Tells of_call (check_settle p t d limit (length signal) (length weak) (length strong)) r (SettledTo p t d signal' weak' strong' r)
      (Unchanged signal weak strong signal' weak' strong')
  tells_from_17 = settling_tells refl (gives_from_17 p t d limit h (length signal) (length weak) (length strong)) s.answer s.columns

  pub never_answers_8 : ¬ (r / 65536 ≡ 8)
  never_answers_8 = never_told tells_from_17 8 (omega arith) refl

  -- and with a valid column of an accepted table, and output columns of one entry a row, it is the rounds
  pub settles_from_17 : IsAccepted p t → IsValid t d → good_columns t (length signal) (length weak) (length strong) ≡ true
      → SettledTo p t d signal' weak' strong' r
  settles_from_17 a v c =
      settles s (settle_done s (record { accepted = a; valid = v; columns = c; enough = omega (arith, rounds_range p t d) }))

-- ---- "exactly one set of dust levels satisfies the definition, the settled one"

module _ (p t : Bytes) (d : Column) where
  pub settled_satisfies : Satisfies (network_of p t) (emitted t d) (row (settled p t d).signal)
  unfolding settled
  settled_satisfies = Network.settled_satisfies (network_of p t) (emitted t d)

  pub settled_only : (x : ℕ → ℕ) → Satisfies (network_of p t) (emitted t d) x
      → (i : ℕ) → i < rows t → is_dust (kind_of t i) ≡ true → x i ≡ row (settled p t d).signal i
  unfolding settled network_of
  settled_only = Network.settled_only (network_of p t) (emitted t d)

  -- ---- "every other set breaks it at some dust": a set that differs at a dust does, at a dust that is named as a row

  pub others_break : (x : ℕ → ℕ) (i : ℕ) → i < rows t → is_dust (kind_of t i) ≡ true → ¬ (x i ≡ row (settled p t d).signal i)
      → Breaks (network_of p t) (emitted t d) x
  unfolding settled network_of
  others_break = Network.others_break (network_of p t) (emitted t d)

-- ---- Document 02, Change 5: "The promise of the emitted level becomes at most 15 for every kind, and signals, weak and strong power inherit it"

-- of a row with its device byte,
pub emits_at_most_15 : (t : Bytes) (d : Column) → IsValid t d → (i : ℕ) → i < rows t → emitted_level t i (row d i) ≤ max_signal
emits_at_most_15 t d v i l = level_capped t i (row d i) ((valid_devices t d v).low i l)

-- and of every row of the column,
pub emitted_at_most_15 : (t : Bytes) (d : Column) → IsValid t d → (i : ℕ) → row (emitted t d) i ≤ max_signal
emitted_at_most_15 t d v = emitted_capped t d (valid_devices t d v).low

-- so that what settles is, too,
pub settled_at_most_15 : (p t : Bytes) (d : Column) → IsValid t d → AtMost15 (settled p t d).signal (settled p t d).weak (settled p t d).strong
unfolding settled
settled_at_most_15 p t d v = Network.settled_bounded (network_of p t) (emitted t d) (emitted_at_most_15 t d v)

-- and so is every number of three columns that hold what d settles to
pub settled_to_at_most_15 : {p t : Bytes} {d signal weak strong : Column} {r : ℕ} → IsValid t d → SettledTo p t d signal weak strong r
    → AtMost15 signal weak strong
settled_to_at_most_15 {p} {t} {d} v s = rw (s.signals, s.weaks, s.strongs) (settled_at_most_15 p t d v)

-- such as those that settle writes, where it does not refuse
pub settle_at_most_15 : {p t : Bytes} {d : Column} {limit : ℕ} {signal weak strong signal' weak' strong' : Column} {r : ℕ}
    → Settles p t d limit signal weak strong signal' weak' strong' r → r < 65536 → AtMost15 signal' weak' strong'
settle_at_most_15 {p} {t} {d} s h =
    settled_to_at_most_15 (accepted_passed p t d _ _ _ _ (told_accepted (settle_tells s) h)).valid (settles s h)

-- ---- more of the settled numbers

-- power reaches only rows of the map
pub on-map : (p t : Bytes) → PowerOnMap (network_of p t)
unfolding network_of
on-map p t = power_on_map (arm_of p t) p t

module _ (p t : Bytes) (d : Column) where
  -- "power 0 off the map"
  pub off_map : (i : ℕ) → conducts (traits p t i) ≡ false → (row (settled p t d).weak i ≡ 0) × (row (settled p t d).strong i ≡ 0)
  unfolding settled network_of
  off_map = Network.off_map (network_of p t) (emitted t d) (on-map p t)

  -- every settled column has one entry a row
  pub settled_sized : Sized (rows t) (settled p t d)
  unfolding settled networkSettled network_of
  settled_sized = after_sized (network_of p t) (emitted t d) _

  -- every settled level of dust is at most the cap, whatever the devices emit
  pub settled_capped : (i : ℕ) → i < rows t → is_dust (kind_of t i) ≡ true → row (settled p t d).signal i ≤ max_signal
  unfolding settled network_of
  settled_capped = Network.settled_capped (network_of p t) (emitted t d)

-- emitted levels that differ by at most n settle to numbers that differ by at most n; where none is lower, no settled number is
module _ (p t : Bytes) (a b : Column) where
  pub settled_differ : (n : ℕ) → AtEveryRow₂ (Within n) (emitted t a) (emitted t b) → States₂ (Within n) (settled p t a) (settled p t b)
  unfolding settled
  settled_differ n h = Network.settled_within (network_of p t) n h

  pub settled_rise : AtEveryRow₂ AtMost (emitted t a) (emitted t b) → States₂ AtMost (settled p t a) (settled p t b)
  unfolding settled
  settled_rise h = Network.settled_at_most (network_of p t) h
