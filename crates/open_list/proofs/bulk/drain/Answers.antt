use Rattle.std.proofs.Common.{arith, rules}
use Rattle.open_list.proofs.Drains.{draining_none, draining_more, draining_place, draining_less, drained}
use Rattle.open_list.proofs.bulk.drain.Goals as goal

pub loop-entry-init : goal.loop-entry-init
loop-entry-init g c = let m = c.in_ok-out.ensures in search (rules, draining_none)

pub push_reserved-requires : goal.push_reserved-requires
push_reserved-requires g c =
    omega (arith, draining_place _ _ _ _ _ _ _ _ c.loop-entry.invariant c.in-Some.ensures.change, c.loop-entry.out.ok.0)

pub loop-entry-smaller : goal.loop-entry-smaller
loop-entry-smaller g c = let t = c.in-Some.ensures in search (rules, draining_less)

pub loop-entry-preserved : goal.loop-entry-preserved
loop-entry-preserved g c = let t = c.in-Some.ensures in search (rules, draining_more)

pub returns : goal.returns
returns g c = let t = c.in_default.ensures in search (rules, drained)
