use Rattle.std.proofs.Common.{ℕ, ◌-◌, ◌<◌, ◌≤◌, get_or, sym, ap, ◌∙◌, arith}
use lib.Bits.{bit_and, and_lt}
use lib.Count.{ones, ones-le}
use Rattle.std.proofs.lemmas.List.{take_all}
use Rattle.facts.specs.Words.{size, without}
use Rattle.facts.proofs.Sets.{size_none, size_more, getD_without, length_without, and_not}
use Rattle.facts.proofs.set.FactSet.missing.Goals as goal

-- the bits of one word that are counted, and that there are at most 64
few : (a b : ℕ) → a < 18446744073709551616 → ones (bit_and a (18446744073709551615 - b)) ≤ 64
few a b l = ones-le 64 (bit_and a (18446744073709551615 - b)) (and_lt 64 a (18446744073709551615 - b) (omega arith) (omega arith))

pub overflow_add-count : goal.overflow_add-count
overflow_add-count c = omega (arith, few (get_or c.args.self.now.words c.loop-i.i 0) (get_or c.args.state.now.words c.loop-i.i 0) (omega arith))

pub loop-i-init : goal.loop-i-init
loop-i-init c = (omega arith, size_none)

pub loop-i-preserved : goal.loop-i-preserved
loop-i-preserved c =
    let a : ℕ = get_or c.args.self.now.words c.loop-i.i 0 in
    let b : ℕ = get_or c.args.state.now.words c.loop-i.i 0 in (
      omega (arith, few a b (omega arith)),
      size_more (without c.args.self.now.words c.args.state.now.words) c.loop-i.i c.loop-i.count _
          (omega (arith, length_without c.args.self.now.words c.args.state.now.words))
          c.loop-i.invariant.1
          (getD_without c.args.self.now.words c.args.state.now.words c.loop-i.i ∙ sym (and_not 64 a b (omega arith) (omega arith))),
    )

pub returns : goal.returns
returns c =
    let ws = without c.args.self.now.words c.args.state.now.words in
    c.loop-i.invariant.1 ∙ ap size (take_all c.loop-i.i ws (omega (arith, length_without c.args.self.now.words c.args.state.now.words)))
