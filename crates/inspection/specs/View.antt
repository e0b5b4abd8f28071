-- The text of an estimator's line, without its line end.
use Rattle.std.specs.Prelude.{ℕ, Bool, List, ◌++◌, codes, decimal, filter}
use Rattle.std.specs.List.{flat_map, range_with_len}
use Rattle.heuristic.specs.declared.estimate.Estimate.{Estimate}
use Rattle.heuristic.specs.declared.estimate.Estimate.TheVariants.{Steps, Never}

abbrev pub estimate_text : Estimate → List ℕ
estimate_text (Steps n) = codes " " ++ (decimal n ++ codes " :")
estimate_text Never = codes " never :"

-- a number, a space before it
abbrev pub item : ℕ → List ℕ
item n = codes " " ++ decimal n

-- the numbers below n that pass the test, rising
abbrev pub numbers : (ℕ → Bool) → ℕ → List ℕ
numbers p n = flat_map item (filter p (range_with_len 0 n))

abbrev pub view : List ℕ → Estimate → (ℕ → Bool) → ℕ → List ℕ
view name estimate preferred count = (name ++ estimate_text estimate) ++ numbers preferred count
