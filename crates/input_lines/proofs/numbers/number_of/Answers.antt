use Rattle.std.proofs.Common.{arith}
use Rattle.input_lines.proofs.Digits.{digit_more}
use Rattle.input_lines.proofs.numbers.number_of.Goals as goal

pub loop-byte-preserved : goal.loop-byte-preserved
loop-byte-preserved g c =
    digit_more _ _ _ c.loop-byte-test.true c.loop-byte.invariant _ _ _ c.from.ensures c.in_ok-value.ensures.value (omega arith)
