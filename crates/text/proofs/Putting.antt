-- Laws of text that is put into a buffer: nothing, a byte more, one text after the other, and a text at the front.
-- Assumes nothing.
use mathlib.Core.Path.{◌≡◌, sym, ◌∙◌}
use mathlib.Core.List.{[], ◌∷◌, ◌++◌, append_assoc, append-nil}
use Prim.Native.Nat.{ℕ, ◌+◌, ◌≤◌, ◌<◌}
use native.Mathlib.Nat.{add-zero, zero-add}
use native.Mathlib.Numerals.{add-one}
use native.Mathlib.Omega.{arith}
use lib.ListN.{length, take, drop, set, length-append, length-drop, take-append-drop}
use lib.Seq.{length-take-le, take_at, drop_at, drop-drop, drop-cons, set_at}
use Rattle.columns.specs.Column.{Bytes, at_front}
use Rattle.text.specs.Put.{Puts}

-- nothing is put
pub puts_none : (at : ℕ) (old : Bytes) → at ≤ length old → Puts [] at old old at
puts_none at old h = record { end = sym (add-zero at); within = h; bytes = rw append-nil (sym (take-append-drop at old)) }

module _ {a : Bytes} {at : ℕ} {old now : Bytes} {r : ℕ} (p : Puts a at old now r) where
  -- as long as what stands up to its end
  front : length (take at old ++ a) ≡ r
  front = rw (length-append, length-take-le at old (omega (arith, p.end, p.within))) (sym p.end)

  -- the buffer is as long as it was
  pub puts_length : length now ≡ length old
  puts_length = rw (p.bytes, length-append, front, length-drop) (omega (arith, p.within))

  -- a byte more
  pub puts_more : (x : ℕ) → r < length old → Puts (a ++ x ∷ []) at old (set now r x) (r + 1)
  puts_more x h =
      record {
        end = rw length-append (omega (arith, p.end));
        within = omega arith;
        bytes = rw (p.bytes, drop-cons old r 0 h, set_at (take at old ++ a) _ _ x r front, add-one) (simp append_assoc);
      }

  -- one text after the other
  pub puts_then : {b : Bytes} {new : Bytes} {k : ℕ} → Puts b r now new k → Puts (a ++ b) at old new k
  puts_then {b} {new} {k} q =
      let before : take r now ≡ take at old ++ a = rw p.bytes (take_at (take at old ++ a) (drop r old) r front) in
      let past : drop r now ≡ drop r old = rw p.bytes (drop_at (take at old ++ a) (drop r old) r front) in
      let after : drop k now ≡ drop k old = rw (q.end, ← drop-drop (length b) r now, past, drop-drop (length b) r old) in
      record {
        end = rw length-append (omega (arith, p.end, q.end));
        within = omega (arith, q.within, puts_length);
        bytes = q.bytes ∙ rw (before, after, ← append_assoc (take at old) a b);
      }

-- at the front of the buffer
pub puts_front : {text : Bytes} {old new : Bytes} {r : ℕ} → Puts text 0 old new r → (r ≡ length text) × (new ≡ at_front text old)
puts_front {text} {old} {new} {r} p =
    let e : r ≡ length text = p.end ∙ zero-add (length text) in (e, rw (← e) p.bytes)
