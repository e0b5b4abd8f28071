use Rattle.bounded_heap.proofs.Heaps.{least_popped}
use Rattle.bounded_heap.proofs.heap.BoundedHeap.pop.Goals as goal

pub returns-clause-least : goal.returns-clause-least
returns-clause-least g c = least_popped _ _ _ _ c.in_ok-item.ensures.heap_order c.args.self.now.layered
