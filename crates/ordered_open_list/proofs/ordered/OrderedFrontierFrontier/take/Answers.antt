use Rattle.std.proofs.Common.{rules}
use Rattle.ordered_open_list.proofs.Mapped.{take_mapped, least_mapped}
use Rattle.ordered_open_list.proofs.ordered.OrderedFrontierFrontier.take.Goals as goal

pub returns-clause-change : goal.returns-clause-change
returns-clause-change g c = search (rules, take_mapped g.K.Key.of)

pub returns-clause-least : goal.returns-clause-least
returns-clause-least g c = search (rules, least_mapped g.K.Key.of g.K.Ord.cmp g.K.Key.order g.met.K.Key.agrees)
