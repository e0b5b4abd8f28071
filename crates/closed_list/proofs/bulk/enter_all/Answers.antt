use Rattle.std.proofs.Common.{◌≡◌, length, arith, rules}
use Rattle.closed_list.proofs.Enters.{offered_none, offered_entered, offered_known, offered_full, offered_all}
use Rattle.closed_list.proofs.bulk.enter_all.Goals as goal
use Rattle.closed_list.proofs.bulk.enter_all.Goals.{in-Ok, in-Err-Known}

pub loop-row-init : goal.loop-row-init
loop-row-init g c = offered_none _ _ _

pub returns-in-Err-Full : goal.returns-in-Err-Full
returns-in-Err-Full g c = let e = c.in-Err-Full.ensures in search (rules, offered_full)

pub loop-row-preserved : goal.loop-row-preserved
loop-row-preserved g c =
    elim c.match-enter.branch [
      | in-Ok w ↦ let e = w.in-Ok.ensures in search (rules, offered_entered)
      | in-Err-Known w ↦ let e = w.in-Err-Known.ensures in search (rules, offered_known)
    ]

pub returns : goal.returns
returns g c =
    let all : c.loop-row.row-index ≡ length c.args.offered.now = omega arith in search (rules, offered_all)
