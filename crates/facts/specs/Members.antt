-- Going through a set's members in rising order.
use Rattle.std.specs.Prelude.{◌≡◌, ℕ, ◌<◌, ◌≤◌, true, false, List, Some, None, Option}
use Rattle.facts.specs.Words.{has}

-- the lowest member that is not below `from`; none where there is no such member
abbrev pub Next : List ℕ → ℕ → Option ℕ → Type 0
Next ws from None = (n : ℕ) → from ≤ n → has ws n ≡ false
Next ws from (Some m) = (from ≤ m) × (has ws m ≡ true) × ((n : ℕ) → from ≤ n → n < m → has ws n ≡ false)
