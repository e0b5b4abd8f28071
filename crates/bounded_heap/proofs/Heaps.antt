-- What a heap holds, as an item comes or goes.
use Rattle.std.proofs.Common.{◌≡◌, false, List, [], ◌∷◌, map, Some, None, heap_items, heap_len, Ordering, ap, ◌∙◌, arith, IsPermutation}
use Rattle.std.specs.Ordering.{is_lt}
use Rattle.std.specs.BinaryHeap.{IsHeap, PopsGreatest, HeapUnchanged}
use Rattle.std.specs.declared.cmp.Reverse.{Reverse}
use Rattle.std.specs.declared.collections.BinaryHeap.{BinaryHeap}
use Rattle.std.proofs.lemmas.List.{nil_from_length}
use Rattle.std.proofs.lemmas.List.Elements.{All-map, All-from_recursion}
use Rattle.std.proofs.lemmas.List.Sorted.{IsPermutation-map}
use Rattle.bounded_heap.specs.Order.{LeastOf, held}
use Rattle.bounded_heap.specs.Waiting.{Take}

module _ {X Z : Type 0} (h h' : BinaryHeap (Reverse X) Z) where
  pub pushed : (x : X) → IsPermutation (record { 0 = x } ∷ heap_items h) (heap_items h') → IsPermutation (x ∷ held h) (held h')
  pushed x s = IsPermutation-map (λ y. y.0) (record { 0 = x } ∷ heap_items h) (heap_items h') s

  pub popped : (x : Reverse X) → IsPermutation (heap_items h) (x ∷ heap_items h') → Take (held h) (Some x.0) (held h')
  popped x s = IsPermutation-map (λ y. y.0) (heap_items h) (x ∷ heap_items h') s

  pub none_popped : heap_len h ≡ 0 → HeapUnchanged h h' → Take (held h) None (held h')
  none_popped e u =
      let none : heap_items h ≡ [] = nil_from_length (heap_items h) (omega (arith, e, h.data.ok.0)) in
      (ap (map (λ y. y.0)) none, ap (map (λ y. y.0)) (u.0 ∙ none))

module _ {X : Type 0} (order : X → X → Ordering) (xs ys : List (Reverse X)) where
  pub least_popped : (x : Reverse X) → PopsGreatest (λ x y. order y.0 x.0) xs x ys → IsHeap (λ x y. order y.0 x.0) xs → LeastOf order (map (λ y. y.0) xs) (Some x.0)
  least_popped x p l = All-map (λ y. is_lt (order y x.0) ≡ false) (λ y. y.0) xs (All-from_recursion _ xs (p l).1)
