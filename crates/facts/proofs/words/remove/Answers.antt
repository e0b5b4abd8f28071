use Rattle.std.proofs.Common.{ℕ, get_or, ap, ◌∙◌, arith}
use Rattle.facts.specs.Words.{minus}
use Rattle.facts.proofs.Sets.{changed_more, without_from, and_not}
use Rattle.facts.proofs.words.remove.Goals as goal

pub loop-i-preserved : goal.loop-i-preserved
loop-i-preserved c =
    let there : ℕ = get_or c.args.other.now c.loop-i.i 0 in
    changed_more _ _ c.args.words.now c.loop-i.i _ c.loop-i.invariant (omega arith)
    (and_not 64 _ there (omega arith) (omega arith) ∙ ap (λ (w : ℕ). minus w there) (c.loop-i.invariant.2 c.loop-i.i (omega arith)))

pub returns : goal.returns
returns c = without_from _ _ _ (omega arith) (omega arith) (λ k l. c.loop-i.invariant.1 k (omega arith))
