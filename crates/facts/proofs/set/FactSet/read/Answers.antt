use Rattle.std.proofs.Common.{◌≡◌, ℕ, List, length, ap, ◌∙◌, arith}
use Rattle.facts.specs.Field.{words, bytes, set_words, field_bytes}
use Rattle.facts.specs.Words.{has}
use Rattle.facts.proofs.Bytes.{has_words, bytes_back}
use Rattle.facts.proofs.set.FactSet.read.Goals as goal

pub returns : goal.returns
returns c =
    let bs : List ℕ = c.args.bytes.now in
    let e : c.read.new.words ≡ words set_words bs c.args.at =
    c.read.ensures ∙ ap (λ (n : ℕ). words n bs c.args.at) (ap length c.empty-set.ensures.words) in
    record {
      words = (omega arith, e);
      members = λ f l. ap (λ (ws : List ℕ). has ws f) e ∙ has_words set_words bs c.args.at f (λ k. (c.type_inv.bytes k).fits) l;
      written_again = ap (bytes field_bytes) e ∙ bytes_back set_words bs c.args.at (λ k. (c.type_inv.bytes k).fits) (omega arith);
    }
