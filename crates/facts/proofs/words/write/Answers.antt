use Rattle.std.proofs.Common.{ℕ, ◌*◌, ◌^◌, ◌<◌, List, length, ap, ◌∙◌, arith}
use Rattle.std.proofs.ByRecursion.{All-from_get_or}
use Rattle.facts.specs.Field.{words}
use Rattle.facts.proofs.Sets.{filled_more}
use Rattle.facts.proofs.Bytes.{bytes_from, words_back}
use Rattle.facts.proofs.words.write.Goals as goal

pub loop-k-preserved : goal.loop-k-preserved
loop-k-preserved c = filled_more _ _ _ _ _ c.loop-k.invariant (omega arith) c.byte_at.ensures

pub returns : goal.returns
returns c =
    let ws : List ℕ = c.args.words.now in
    let e = bytes_from (8 * length ws) _ ws (omega arith) (λ k l. c.loop-k.invariant.1 k (omega arith)) in
    record {
      bytes = e;
      read_back = ap (λ (bs : List ℕ). words (length ws) bs 0) e ∙ words_back ws (All-from_get_or (λ w. w < 2 ^ 64) ws 0 (λ k _. (c.type_inv.words k).fits));
    }
