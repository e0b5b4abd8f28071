use Rattle.std.proofs.Common.{ℕ, ◌++◌, List, string_bytes, arith, rules, tests, ap, ◌∙◌, sym}
use Rattle.std.proofs.lemmas.Iterator.{YieldsList-from_range}
use Rattle.std.proofs.lemmas.Iterator.Consumers.{YieldsList-from_filter, YieldsList-at, YieldsList-end}
use Rattle.std.proofs.lemmas.List.{map-id}
use Rattle.std.specs.List.{flat_map}
use Rattle.facts.specs.Words.{has}
use Rattle.inspection.specs.View.{item}
use Rattle.inspection.proofs.view.list.Goals as goal

pub returns : goal.returns
returns c =
    let all = YieldsList-end
    (YieldsList-at c.into_iter-k-iterator.ensures.into_iter_gives (YieldsList-from_filter _ (has c.args.set.now.words) (YieldsList-from_range 0 c.args.count c.args.count (cc) (omega arith)) c.filter-k-items.ensures.closure (λ x r q k. search (rules, tests))))
    c.loop-k.yielded _ c.loop-k.yielded_by _ _ c.in-None.is c.next.ensures.steps in
    c.loop-k.invariant ∙ ap (λ (ks : List ℕ). string_bytes c.args.text.now ++ flat_map item ks) (sym (map-id c.loop-k.yielded) ∙ all.0)
