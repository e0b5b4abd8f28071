use Rattle.std.proofs.Common.{sym, ◌∙◌, arith}
use Rattle.std.proofs.lemmas.Bool.{le-ltb}
use Rattle.facts.proofs.Insert.{bit_tested}
use Rattle.facts.proofs.Sets.{has_past}
use Rattle.facts.proofs.words.contains.Goals as goal

pub returns-then-number-words : goal.returns-then-number-words
returns-then-number-words c = bit_tested c.args.words.now c.args.number

pub returns-else-number-words : goal.returns-else-number-words
returns-else-number-words c = le-ltb _ _ (omega arith) ∙ sym (has_past c.args.words.now c.args.number (omega arith))
