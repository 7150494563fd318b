-- Where settle is not refused, which refusals it gives, and what its answer tells: of settle, and of every other call that settles.
-- Assumes nothing.
use mathlib.Core.Path.{◌≡◌, refl}
use mathlib.Core.Bool.{false}
use mathlib.Core.List.{List, [], ◌∷◌}
use Prim.Native.Nat.{ℕ, ◌≤◌}
use native.Mathlib.Omega.{arith}
use lib.ListN.{length}
use lib.Dec.{eqb, leb}
use borrow.Author.Tests.{leb-true, le-leb}
use Rattle.columns.specs.Column.{Bytes, Column, row}
use Rattle.network.specs.Demand as Network
use Rattle.blocks.specs.Kind.{one_of}
use Rattle.world.specs.Rows.{rows}
use Rattle.refusals.specs.Check.{Checked, accepted, check_input, answer_of}
use Rattle.refusals.specs.Answers.{Gives, Tells}
use Rattle.refusals.proofs.Passed.{passed_both, passed_unless}
use Rattle.refusals.proofs.Accepted.{accepted_input}
use Rattle.refusals.proofs.Gives.{or_gives, also_gives, wider_gives, input_gives, values_give}
use Rattle.refusals.proofs.Tells.{tells}
use Rattle.emitted.specs.Emitted.{is_bad_device, check_devices, emitted}
use Rattle.edges.specs.Edges.{network_of}
use Rattle.electrical.specs.Answer.{rounds_of, settled, good_columns, check_call, check_settle, of_call, of_settle, Passed, Columns, SettledTo, Unchanged}

-- ---- where settle is not refused

module _ (p t : Bytes) (d : Column) (limit signal weak strong : ℕ) where
  pub accepted_passed : check_settle p t d limit signal weak strong ≡ accepted → Passed p t d limit signal weak strong
  unfolding check_settle check_call
  accepted_passed h =
      let (call, last) = passed_both (check_call p t d signal weak strong) _ h in
      let (input, rest) = passed_both (check_input p t) _ call in
      let (devices, seventh) = passed_both (check_devices t d) _ rest in
      record {
        accepted = input;
        valid = devices;
        columns = (passed_unless 7 (good_columns t signal weak strong) _ seventh).0;
        enough = leb-true _ _ (passed_unless 8 (leb (rounds_of p t d) limit) _ last).0;
      }

  pub passed_accepted : Passed p t d limit signal weak strong → check_settle p t d limit signal weak strong ≡ accepted
  unfolding check_settle check_call
  passed_accepted h = rw (h.accepted, h.valid, h.columns, le-leb (rounds_of p t d) limit h.enough)

-- ---- the numbers

module _ (p t : Bytes) (d : Column) where
  devices_give : rows t ≤ 1024 → Gives (6 ∷ 10 ∷ []) (check_devices t d)
  unfolding check_devices
  devices_give few = values_give (eqb (length d) (rows t)) (is_bad_device t d) (row d) (rows t) few

  module _ (signal weak strong : ℕ) where
    pub call_gives : Gives of_call (check_call p t d signal weak strong)
    unfolding check_call
    call_gives =
        or_gives _ (wider_gives refl (input_gives p t))
        (λ a. also_gives 7 refl (good_columns t signal weak strong) (wider_gives refl (devices_give (accepted_input p t a).1.few)))

    pub settle_gives : (limit : ℕ) → Gives of_settle (check_settle p t d limit signal weak strong)
    unfolding check_settle
    settle_gives limit = also_gives 8 refl (leb (rounds_of p t d) limit) (wider_gives refl call_gives)

-- ---- the answer of a call that settles the devices d, whatever it is checked for

module _ {ns : List ℕ} {c : Checked} {p t : Bytes} {d signal weak strong signal' weak' strong' : Column} {r : ℕ} where
  pub settling_tells : one_of ns 0 ≡ false → Gives ns c → r ≡ answer_of c (rounds_of p t d) → Columns c (settled p t d) signal weak strong signal' weak' strong'
      → Tells ns c r (SettledTo p t d signal' weak' strong' r) (Unchanged signal weak strong signal' weak' strong')
  unfolding rounds_of
  settling_tells from-1 g e k =
      let range = Network.rounds_range (network_of p t) (emitted t d) in
      tells from-1 g (λ _. omega (arith, range)) e
      (λ a is.
      record {
        rounds = is;
        range = omega (arith, range, is);
        signals = rw a at k.signals;
        weaks = rw a at k.weaks;
        strongs = rw a at k.strongs;
      })
      (λ n i f. record { signals = rw f at k.signals; weaks = rw f at k.weaks; strongs = rw f at k.strongs })
