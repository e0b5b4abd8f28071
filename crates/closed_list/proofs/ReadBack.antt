-- Rows that are read back one after another.
use Rattle.std.proofs.Common.{◌≡◌, ℕ, ◌+◌, ◌<◌, ◌≤◌, min, List, [], ◌∷◌, ◌++◌, length, take, sym, ap, ◌∙◌}
use Rattle.std.proofs.lemmas.List.{take_more, take_all}
use Rattle.closed_list.specs.declared.row.Row.{Row}
use Rattle.closed_list.specs.Rows.{no_row, numbered, row}

-- the first k rows were read, into a vector that has room for all that have a number
pub record ReadSoFar (rows : List Row) (k : ℕ) (out : List Row) (len capacity : ℕ) : Type 0 where
  pub first : out ≡ take k rows
  pub count : len ≡ k
  pub among : k ≤ length rows
  pub room : min (length rows) numbered ≤ capacity

pub read_more : (rows out out' : List Row) (k : ℕ) (x : Row) → k < length rows → out ≡ take k rows → x ≡ row rows k → out' ≡ out ++ x ∷ [] → out' ≡ take (k + 1) rows
read_more rows out out' k x lt first is push =
    push ∙ ap (λ xs. xs ++ x ∷ []) first ∙ ap (λ y. take k rows ++ y ∷ []) is ∙ sym (take_more rows k no_row lt)

-- no row is left
pub read_whole : (rows out : List Row) (k m : ℕ) → out ≡ take k rows → length rows ≤ k → length rows ≤ m → out ≡ take m rows
read_whole rows out k m first all few = first ∙ take_all k rows all ∙ sym (take_all m rows few)
