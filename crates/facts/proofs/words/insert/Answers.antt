use Rattle.std.proofs.Common.{sym, arith}
use Rattle.facts.proofs.Insert.{bit_set, insert_past}
use Rattle.facts.proofs.words.insert.Goals as goal

pub returns-then-number-words : goal.returns-then-number-words
returns-then-number-words c = bit_set c.args.words.now c.args.number

pub returns-else-number-words : goal.returns-else-number-words
returns-else-number-words c = sym (insert_past c.args.words.now c.args.number (omega arith))
