-- The larger of two: a round that answers for both of two emitted columns answers for the larger of the two.
-- Proved laws: nobody has to believe them, or read them to know what is promised. Assumes nothing.
use Rattle.std.specs.Prelude.{◌≡◌, ℕ, zero, suc, ◌≤◌, max, length}
use Rattle.std.proofs.Common.{sym, ◌∙◌, arith}
use Rattle.std.proofs.Math.Logic.{by_cases}
use Rattle.std.proofs.Math.Nat.{max-eq_left, max-eq_right}
use Rattle.std.proofs.Math.Decide.{dec_le}
use Rattle.columns.specs.Column.{Column}
use Rattle.columns.proofs.Columns.{same_rows}
use Rattle.network.specs.Network.{Network, State, Answers}
use Rattle.network.specs.Compare.{Larger, AtEveryRow₃, States₃}
use Rattle.network.specs.Laws.Kept.{Kept, after_kept}
use Rattle.network.specs.Laws.States.{one_state, Sized, after_sized}

pub larger_kept : Kept Larger Larger
larger_kept = omega arith

-- a number that rises with another takes the larger of two to the larger: an emitted level, of a device's byte
pub rises_larger : (f : ℕ → ℕ) → ((x y : ℕ) → x ≤ y → f x ≤ f y) → (x y : ℕ) → max (f x) (f y) ≡ f (max x y)
rises_larger f rises x y =
    by_cases (dec_le x y)
    (λ h. rw (max-eq_right h) (max-eq_right (rises x y h)))
    (λ n. let h : y ≤ x = omega arith in rw (max-eq_left h) (max-eq_left (rises y x h)))

-- only one column, and only one state, is the larger of two
one_larger : {n : ℕ} {x y z w : Column} → AtEveryRow₃ Larger x y z → AtEveryRow₃ Larger x y w → length z ≡ n → length w ≡ n → z ≡ w
one_larger {n} {x} {y} {z} {w} p q l m = same_rows n z w l m (λ i _. sym (p.at i) ∙ q.at i)

one_larger_state : {n : ℕ} {x y z w : State} → States₃ Larger x y z → States₃ Larger x y w → Sized n z → Sized n w → z ≡ w
one_larger_state p q l m =
    one_state
    (one_larger p.signal q.signal l.signal m.signal)
    (one_larger p.on_map q.on_map l.on_map m.on_map)
    (one_larger p.weak q.weak l.weak m.weak)
    (one_larger p.strong q.strong l.strong m.strong)

pub answers_larger : (N : Network) {a b c : Column} → AtEveryRow₃ Larger a b c → (k : ℕ) → Answers N a k → Answers N b k → Answers N c k
answers_larger N j zero p q = p
answers_larger N {c = c} j (suc k) p q =
    let larger = after_kept N larger_kept j in
    one_larger_state (rw (p, q) at (larger (suc k))) (larger k) (after_sized N c (suc k)) (after_sized N c k)
