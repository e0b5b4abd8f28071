-- The least of what waits, and what a heap holds.
use Rattle.std.specs.Prelude.{◌≡◌, false, List, map, IfSome, Option}
use Rattle.std.specs.declared.cmp.Ordering.{Ordering}
use Rattle.std.specs.BinaryHeap.{IsHeap, heap_items}
use Rattle.std.specs.Ordering.{is_lt}
use Rattle.std.specs.List.{All}
use Rattle.std.specs.declared.cmp.Reverse.{Reverse}
use Rattle.std.specs.declared.collections.BinaryHeap.{BinaryHeap}

-- none of xs comes before x
abbrev pub Least : {X : Type 0} → (X → X → Ordering) → X → List X → Type 0
Least order x xs = All (λ y. is_lt (order y x) ≡ false) xs

-- the answer, if there is one, is the least
abbrev pub LeastOf : {X : Type 0} → (X → X → Ordering) → List X → Option X → Type 0
LeastOf order xs r = IfSome r (λ x. Least order x xs)

-- in a heap no item comes before the one above it
abbrev pub Layered : {X : Type 0} → (X → X → Ordering) → List (Reverse X) → Type 0
Layered order xs = IsHeap (λ x y. order y.0 x.0) xs

-- what a heap holds whose greatest is the least
abbrev pub held : {X Z : Type 0} → BinaryHeap (Reverse X) Z → List X
held h = map (λ x. x.0) (heap_items h)
