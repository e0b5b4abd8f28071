use Rattle.std.proofs.Common.{◌≡◌, ◌+◌, ◌-◌, ◌∙◌, take, drop, ap, arith}
use Rattle.facts.proofs.Bytes.{word_read}
use Rattle.facts.proofs.words.read_word.Goals as goal

pub returns : goal.returns
returns c =
    let eight : c.args.at + 8 - c.args.at ≡ 8 = omega arith in
    let field : c.copy_from_slice.new.self ≡ take 8 (drop c.args.at c.args.bytes.now) = c.copy_from_slice.ensures.after ∙ ap (λ n. take n (drop c.args.at c.args.bytes.now)) eight in
    c.from_le_bytes.ensures ∙ word_read c.copy_from_slice.new.self c.args.bytes.now c.args.at field
