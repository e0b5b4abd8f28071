use Rattle.std.proofs.Common.{arith}
use Rattle.engine.proofs.Gens.{cannot_at, known_at, full_at, enters_at}
use Rattle.engine.proofs.searcher.LentSearcher.generate.Goals as goal

pub returns-in_default-clause-change : goal.returns-in_default-clause-change
returns-in_default-clause-change g c = cannot_at _ _ _ _ _ c.requires.is _ c.in_default.ensures.result

pub returns-in-Some-find-clause-change : goal.returns-in-Some-find-clause-change
returns-in-Some-find-clause-change g c =
    let to = c.in-Some.ensures.result in
    known_at _ _ _ _ _ c.requires.is _ c.in-Some.state to.0 to.1 _ c.in-Some-find.ensures.found

pub returns-then-count-places-clause-change : goal.returns-then-count-places-clause-change
returns-then-count-places-clause-change g c =
    let to = c.in-Some.ensures.result in
    full_at _ _ _ _ _ c.requires.is _ c.in-Some.state to.0 to.1 _ c.in_default-find.ensures.found (omega arith)

pub returns-clause-change : goal.returns-clause-change
returns-clause-change g c =
    let to = c.in-Some.ensures.result in
    let en = c.in-Ok.ensures in
    enters_at _ _ _ _ _ c.requires.is _ c.in-Some.state to.0 to.1 c.in_default-find.ensures.found en.change.1 _ c.estimate-estimate.ensures.steps _ en.change.3 _ en.change.2
