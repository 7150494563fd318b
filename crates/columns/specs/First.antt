-- Searches by index: the first at which a test holds, and all of them.
-- Assumes nothing.
use Rattle.std.specs.Prelude.{Bool, true, false, ◌&&◌, List, [], ◌∷◌, ℕ, zero, suc, ◌+◌}
use Rattle.columns.specs.declared.Found.{Found}
use Rattle.columns.specs.declared.Found.TheVariants.{At, Nothing}

-- i where the test holds, else what is found later
abbrev pub found_if : Bool → ℕ → Found → Found
found_if true i later = At i
found_if false i later = later

-- the first of the n indices from i on at which f holds
unfoldable pub first_from : (ℕ → Bool) → ℕ → ℕ → Found
first_from f zero i = Nothing
first_from f (suc n) i = let later = first_from f n (i + 1) in found_if (f i) i later

-- what f says of the index found, or the other value where there is none
abbrev pub on_found : {A : Type 0} → (ℕ → A) → A → Found → A
on_found f other (At i) = f i
on_found f other Nothing = other

abbrev pub keep_if : Bool → ℕ → List ℕ → List ℕ
keep_if true i rest = i ∷ rest
keep_if false i rest = rest

-- those of the n indices from i on at which f holds, in order
unfoldable pub indices_from : (ℕ → Bool) → ℕ → ℕ → List ℕ
indices_from f zero i = []
indices_from f (suc n) i = let later = indices_from f n (i + 1) in keep_if (f i) i later

-- f holds at every index below n
abbrev pub all_below : (ℕ → Bool) → ℕ → Bool
all_below f zero = true
all_below f (suc n) = all_below f n && f n
