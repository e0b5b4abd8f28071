use Rattle.std.proofs.Common.{length, arith}
use Rattle.facts.proofs.Sets.{filled_more, words_from}
use Rattle.facts.proofs.words.read.Goals as goal

pub loop-i-preserved : goal.loop-i-preserved
loop-i-preserved c = filled_more _ _ _ _ _ c.loop-i.invariant (omega arith) c.read_word.ensures

pub returns : goal.returns
returns c = words_from (length c.args.words.now) _ c.args.bytes.now c.args.at c.loop-i.invariant.0 (λ k l. c.loop-i.invariant.1 k (omega arith))
