-- The way to a row, read back from parent to parent.
use Rattle.std.specs.Prelude.{ℕ, zero, suc, List, [], ◌∷◌, ◌++◌}
use Rattle.closed_list.specs.declared.row.Row.{Row}
use Rattle.closed_list.specs.Rows.{row}

-- the last d actions on the way to the row r
abbrev pub back : List Row → ℕ → Row → List ℕ
back rows zero r = []
back rows (suc d) r = back rows d (row rows r.parent) ++ (r.action ∷ [])

-- the actions on the way to row j
abbrev pub path : List Row → ℕ → List ℕ
path rows j = back rows (row rows j).distance (row rows j)
