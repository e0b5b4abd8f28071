use Rattle.std.proofs.Common.{refl, ap, arith}
use Rattle.std.proofs.lemmas.Nat.{pow_pos}
use Rattle.closed_list.specs.Linked.{rows_of}
use Rattle.closed_list.proofs.Differ.{different_nil}
use Rattle.hashed_list.proofs.Chains.{heads_none, links_none, none_from}
use Rattle.hashed_list.proofs.hashed.HashedStore.new.Goals as goal

pub invariant_of-result : goal.invariant_of-result
invariant_of-result c =
    let p = c.next_power_of_two-buckets.ensures.power in
    let h = c.in_ok-heads.ensures in
    let r = c.in_ok-resize.ensures in
    let empty = ap rows_of c.in_ok-table.ensures.made.0 in
    record {
      wide = omega (arith, r.len, p.1, pow_pos p.0);
      latest_of_bucket = heads_none _ _ _ empty (none_from _ (λ k lt. r.by_index.1 k _ refl (omega (arith, h.len)) (omega (arith, r.len, c.resize.new.self.ok.0))));
      latest_before = links_none _ _ _ empty;
      different = ∣ different_nil _ empty ∣₁;
    }
