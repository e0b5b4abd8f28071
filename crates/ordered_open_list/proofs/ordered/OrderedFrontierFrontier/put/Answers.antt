use Rattle.std.proofs.Common.{rules}
use Rattle.ordered_open_list.proofs.Mapped.{put_mapped}
use Rattle.ordered_open_list.proofs.ordered.OrderedFrontierFrontier.put.Goals as goal

pub returns-clause-change : goal.returns-clause-change
returns-clause-change g c = let h = c.map_err.ensures.variant in search (rules, put_mapped g.K.Key.of)
