-- What a tick does to the sixteen bytes of a torch: of row i, with the old settled power, since it reads no signal.
-- Assumes nothing.
use Rattle.std.specs.Prelude.{Bool, false, not, ◌&&◌, ℕ, ◌+◌, ◌*◌, ◌%◌, ◌^◌, max, set, eqb}
use Rattle.std.proofs.lemmas.List.Edits.{sets}
use Rattle.columns.specs.Column.{Bytes, Column}
use Rattle.columns.specs.First.{on_found}
use Rattle.words.specs.Words.{four_bytes}
use Rattle.world.specs.Rows.{support_of}
use Rattle.world.specs.Find.{find_at}
use Rattle.traits.specs.Traits.{traits, conducts}
use Rattle.states.specs.Row.{device_of, toggles_of, candidate_of, is_candidate}
use Rattle.levels.specs.Numbers.{has_power, number}

-- "its support can receive power and has some"
unfoldable pub torch_support_is_powered : Bytes → Bytes → Column → Column → ℕ → Bool
torch_support_is_powered p t weak strong i = on_found (λ j. conducts (traits p t j) && has_power weak strong j) false (find_at t (support_of t i))

-- "A torch is lit unless its support can receive power and has some"
abbrev pub next_torch : Bytes → Bytes → Column → Column → ℕ → ℕ
next_torch p t weak strong i = number (not (torch_support_is_powered p t weak strong i))

-- a toggle more at bit 0, and what is older than 30 ticks dropped
unfoldable pub next_toggles : ℕ → Bool → ℕ
next_toggles old toggled = (old * 2 + number toggled) % 2 ^ 31

-- "1 where eight or more toggle bits are set", and once a candidate, for ever
unfoldable pub next_candidate : ℕ → ℕ → ℕ
next_candidate old toggles = max old (number (is_candidate toggles))

-- a word at bytes 4 to 7, "low byte first"
abbrev pub set_toggles : Bytes → ℕ → Bytes
set_toggles r w = sets r 4 (four_bytes w)

unfoldable pub torch_row : Bytes → Bytes → Column → Column → ℕ → Bytes → Bytes
torch_row p t weak strong i r =
    let lit = next_torch p t weak strong i in
    let toggles = next_toggles (toggles_of r) (not (eqb lit (device_of r))) in
    set (set_toggles (set r 0 lit) toggles) 8 (next_candidate (candidate_of r) toggles)
