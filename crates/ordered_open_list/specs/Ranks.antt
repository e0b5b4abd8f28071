-- The orders of the ordered frontiers: the numbers of an entry that are compared, in turn.
use Rattle.std.specs.Prelude.{ℕ, ◌+◌, ◌*◌, List, [], ◌∷◌}
use Rattle.std.specs.declared.cmp.Ordering.{Ordering}
use Rattle.std.specs.Cmp.Lexicographic.{slice_cmp}
use Rattle.open_list.specs.declared.entry.Entry.{Entry}
use Rattle.std.specs.Ordering.{nat_cmp}

-- two lists of numbers compare by the first that differ
abbrev pub in_turn : List ℕ → List ℕ → Ordering
in_turn = slice_cmp nat_cmp

abbrev pub weight : Entry → ℕ
weight e = e.distance + 5 * e.estimate

abbrev pub weighted : Entry → List ℕ
weighted e = weight e ∷ e.row ∷ e.estimate ∷ []

abbrev pub greedy : Entry → List ℕ
greedy e = e.estimate ∷ e.distance ∷ e.row ∷ []

abbrev pub by_weight : Entry → Entry → Ordering
by_weight x y = in_turn (weighted x) (weighted y)

abbrev pub by_estimate : Entry → Entry → Ordering
by_estimate x y = in_turn (greedy x) (greedy y)
