use Rattle.std.proofs.Common.{rules}
use Rattle.open_list.proofs.Fills.{filled_empty}
use Rattle.open_list.proofs.Drains.{refilled}
use Rattle.open_list.proofs.bulk.refill.Goals as goal

pub returns : goal.returns
returns g c = search (rules, filled_empty, refilled)
