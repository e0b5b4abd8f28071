use Rattle.std.proofs.Common.{◌≡◌, length, arith, rules}
use Rattle.open_list.proofs.Fills.{filled_none, filled_more, filled_still, filled_all, count_full, count_all}
use Rattle.open_list.proofs.bulk.fill.Goals as goal

pub loop-i-init : goal.loop-i-init
loop-i-init g c = filled_none _ _ _

pub returns-in-Err : goal.returns-in-Err
returns-in-Err g c = let p = c.in-Err.ensures in search (rules, count_full, filled_still)

pub loop-i-preserved : goal.loop-i-preserved
loop-i-preserved g c = filled_more _ _ _ _ _ _ _ _ _ c.loop-i-test.true c.loop-i.invariant c.in_default.ensures.change c.put.ensures.same

pub returns : goal.returns
returns g c =
    let few = g.met.F.Frontier.few c.loop-i.frontier in
    let all : c.loop-i.i ≡ length c.args.entries.now = omega arith in
    search (rules, count_all, filled_all)
