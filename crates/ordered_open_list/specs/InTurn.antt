-- Numbers compared in turn are a total order.
use Rattle.std.specs.Prelude.{◌≡◌, ℕ, List}
use Rattle.std.proofs.Common.{sym, subst}
use Rattle.std.specs.declared.cmp.Ordering.{Ordering}
use Rattle.std.specs.Cmp.{IsTotalOrder, nat_cmp_total, on_total}
use Rattle.std.specs.Cmp.Lexicographic.{lists_total}
use Rattle.ordered_open_list.specs.Ranks.{in_turn}

-- what is left to show of an order is that it compares numbers in turn
pub total_in_turn : {X : Type 0} (numbers : X → List ℕ) {order : X → X → Ordering}
    → ((x y : X) → order x y ≡ in_turn (numbers x) (numbers y))
    → IsTotalOrder order
total_in_turn numbers compared = subst IsTotalOrder (λ i x y. sym (compared x y) i) (on_total numbers (lists_total nat_cmp_total))
