use Rattle.input_lines.proofs.Digits.{Reading}
use Rattle.input_lines.proofs.numbers.number_of.Given as goal

abbrev pub invariant-loop-byte : goal.invariant-loop-byte
invariant-loop-byte g l = Reading l.text l.byte-index l.value
