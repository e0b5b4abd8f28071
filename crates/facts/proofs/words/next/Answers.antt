use Rattle.std.proofs.Common.{ℕ, ◌/◌, ◌^◌, ◌<◌, List, get_or, ⊎_elim, arith}
use Rattle.std.proofs.lemmas.Bool.{cases_lt}
use Rattle.facts.proofs.Members.{next_fits, next_found, next_skips}
use Rattle.facts.proofs.Sets.{has_past}
use Rattle.facts.proofs.words.next.Goals as goal

pub returns-then-rest-ne0 : goal.returns-then-rest-ne0
returns-then-rest-ne0 c =
    let ws : List ℕ = c.args.words.now in
    let at : ℕ = c.loop-at.at in
    let small : get_or c.args.words.now (c.loop-at.at / 64) 0 < 2 ^ 64 = omega arith in
    let fits = next_fits ws at small c.if-rest-ne0.true in
    let found = next_found ws at small c.if-rest-ne0.true in
    record {
      member = (omega arith, found.0, λ n l m. ⊎_elim (λ x. c.loop-at.invariant.1 n l x) (λ x. found.1 n x m) (cases_lt n at));
      within = omega arith;
    }

pub loop-at-preserved : goal.loop-at-preserved
loop-at-preserved c =
    (omega arith, λ n l m. ⊎_elim (λ x. c.loop-at.invariant.1 n l x) (λ x. next_skips c.args.words.now c.loop-at.at c.if-rest-ne0.false n x m) (cases_lt n c.loop-at.at))

pub returns : goal.returns
returns c = record {
  member = λ n l. ⊎_elim (λ x. c.loop-at.invariant.1 n l x) (λ x. has_past c.args.words.now n (omega arith)) (cases_lt n c.loop-at.at);
  within = tt;
}
