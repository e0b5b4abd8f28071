use Rattle.std.proofs.Common.{◌≡◌, ℕ, ◌*◌, List, length, sym, ap, ◌∙◌, arith}
use Rattle.facts.specs.Field.{words, bytes, set_words}
use Rattle.facts.proofs.set.FactSet.to_bytes.Goals as goal

pub returns : goal.returns
returns c =
    let ws : List ℕ = c.args.self.now.words in
    let len : length ws ≡ set_words = omega arith in
    record {
      bytes = c.write.ensures.bytes ∙ ap (λ (n : ℕ). bytes (8 * n) ws) len;
      read_back = ap (λ (n : ℕ). words n c.write.new.field 0) (sym len) ∙ c.write.ensures.read_back;
    }
