use Rattle.std.proofs.Common.{◌≡◌, ℕ, List, ap, ◌∙◌, arith}
use Rattle.facts.specs.Words.{has, insert}
use Rattle.facts.proofs.Insert.{has_inserted}
use Rattle.facts.proofs.set.BitSet.insert.Goals as goal

pub returns : goal.returns
returns g c =
    let ws : List ℕ = c.args.self.now.words in
    let e : c.insert.new.words ≡ insert ws (g.M.Number.number c.args.number) = c.insert.ensures ∙ ap (insert ws) c.number.ensures in
    record { words = e; members = λ n. ap (λ (xs : List ℕ). has xs n) e ∙ has_inserted ws g.row.N _ n (omega arith) }
