-- States, column by column.
-- Proved laws: nobody has to believe them, or read them to know what is promised. Assumes nothing.
use Rattle.std.specs.Prelude.{◌≡◌, Bool, true, ◌&&◌, ℕ, zero, suc, length}
use Rattle.columns.specs.Column.{Column, same}
use Rattle.columns.proofs.Columns.{length_tabulate, same_true, same_refl}
use Rattle.columns.proofs.Truth.{and_true}
use Rattle.network.specs.Network.{Network, State, strong_of, weak_of, signals, on_map_of, empty_map, start, round, after}

-- two states are one where their columns are
pub one_state : {t u : State} → t.signal ≡ u.signal → t.on_map ≡ u.on_map → t.weak ≡ u.weak → t.strong ≡ u.strong → t ≡ u
one_state p q r s = λ i. record { signal = p i; on_map = q i; weak = r i; strong = s i }

-- the test of two states, column by column
unfoldable pub same_state : State → State → Bool
same_state t u = same t.signal u.signal && (same t.on_map u.on_map && (same t.weak u.weak && same t.strong u.strong))

pub same-state : (t u : State) → same_state t u ≡ true → t ≡ u
unfolding same_state
same-state t u h =
    let (a, p) = and_true (same t.signal u.signal) _ h in
    let (b, q) = and_true (same t.on_map u.on_map) _ p in
    let (c, d) = and_true (same t.weak u.weak) _ q in
    one_state (same_true _ _ a) (same_true _ _ b) (same_true _ _ c) (same_true _ _ d)

pub state_same : (t u : State) → t ≡ u → same_state t u ≡ true
unfolding same_state
state_same t u e = rw (e, same_refl u.signal, same_refl u.on_map, same_refl u.weak, same_refl u.strong)

-- every column of a state has n rows
pub record Sized (n : ℕ) (t : State) : Type 0 where
  pub signal : length t.signal ≡ n
  pub on_map : length t.on_map ≡ n
  pub weak : length t.weak ≡ n
  pub strong : length t.strong ≡ n

pub after_sized : (N : Network) (e : Column) (k : ℕ) → Sized N.size (after N e k)
unfolding after start round signals empty_map on_map_of weak_of strong_of
after_sized N e zero = record { signal = length_tabulate _ 0 _; on_map = length_tabulate _ 0 _; weak = length_tabulate _ 0 _; strong = length_tabulate _ 0 _ }
after_sized N e (suc k) = record { signal = length_tabulate _ 0 _; on_map = length_tabulate _ 0 _; weak = length_tabulate _ 0 _; strong = length_tabulate _ 0 _ }
