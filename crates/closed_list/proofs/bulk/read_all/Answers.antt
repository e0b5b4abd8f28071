use Rattle.std.proofs.Common.{◌≡◌, ◌+◌, take, vec_items, ap, ◌∙◌, arith}
use Rattle.closed_list.specs.Rows.{numbered}
use Rattle.closed_list.proofs.ReadBack.{read_more, read_whole}
use Rattle.closed_list.proofs.bulk.read_all.Goals as goal
use Rattle.closed_list.proofs.bulk.read_all.Goals.{else-loop-number-test, then-loop-number-test+in-None, then-loop-number-test+in-Some+else-number-lt65535}

pub loop-number-init : goal.loop-number-init
unfolding numbered
loop-number-init g c = record {
  first = c.in_ok-rows.ensures.items;
  count = c.in_ok-rows.ensures.len;
  among = omega arith;
  room = omega (arith, c.in_ok-rows.ensures.capacity, c.min.ensures, c.count.ensures.value);
}

pub push_reserved-requires : goal.push_reserved-requires
unfolding numbered
push_reserved-requires g c =
    let so_far = c.loop-number.invariant in omega (arith, so_far.count, so_far.room, c.loop-number-test.true, c.in-Some.ensures.found.0)

pub loop-number-preserved : goal.loop-number-preserved
loop-number-preserved g c =
    let so_far = c.loop-number.invariant in
    let at = c.in-Some.ensures.found in
    let push = c.push_reserved.ensures in
    record {
      first = read_more _ _ _ _ _ at.0 so_far.first at.1 push.items;
      count = omega (arith, so_far.count, push.len);
      among = omega (arith, at.0);
      room = omega (arith, so_far.room, push.capacity);
    }

pub returns : goal.returns
unfolding numbered
returns g c =
    let so_far = c.loop-number.invariant in
    record {
      made = elim c.loop-number-test.branch [
        | else-loop-number-test w ↦ absurd (omega (arith, w.loop-number-test.false, c.loop-number.auto.number-end))
        | then-loop-number-test+in-None w ↦
            let all = w.in-None.ensures.found in
            read_whole _ _ _ 65536 (ap vec_items w.rows-is ∙ so_far.first) all (omega (arith, all, w.loop-number-test.true))
        | then-loop-number-test+in-Some+else-number-lt65535 w ↦
            let at = w.in-Some.ensures.found in
            let more = read_more _ _ _ _ _ at.0 so_far.first at.1 (ap vec_items w.rows-is ∙ w.push_reserved.ensures.items) in
            let last : c.loop-number.number + 1 ≡ 65536 = omega arith in
            more ∙ ap (λ k. take k (g.S.Store.rows c.args.store.now)) last
      ];
    }
