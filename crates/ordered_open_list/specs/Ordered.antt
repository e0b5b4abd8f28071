-- The waiting entries of an ordered frontier, of the heap within.
use Rattle.std.specs.Prelude.{List, map}
use Rattle.std.specs.declared.cmp.Reverse.{Reverse}
use Rattle.std.specs.declared.collections.BinaryHeap.{BinaryHeap}
use Rattle.open_list.specs.declared.entry.Entry.{Entry}
use Rattle.bounded_heap.specs.Order.{held}

abbrev pub entries : {K Z : Type 0} → (K → Entry) → BinaryHeap (Reverse K) Z → List Entry
entries of h = map of (held h)
