use Rattle.std.proofs.Common.{◌≡◌, ℕ, eqb, not, ap, ◌∙◌, rules, tests}
use Rattle.std.specs.List.{list_any, zip}
use lib.Bits.{bit_and}
use Rattle.std.proofs.lemmas.Iterator.{YieldsList-from_slice, YieldsList-from_zip}
use Rattle.std.proofs.lemmas.Iterator.Search.{any_from_yields_List}
use Rattle.facts.proofs.Sets.{any_not, common_all}
use Rattle.facts.proofs.words.intersects.Goals as goal

pub returns : goal.returns
returns c =
    let xs = c.args.words.now in
    let ys = c.args.other.now in
    let tested : c.any.result ≡ list_any (λ (p : ℕ × ℕ). not (eqb (bit_and p.0 p.1) 0)) (zip xs ys) =
    any_from_yields_List (λ (p : ℕ × ℕ). not (eqb (bit_and p.0 p.1) 0)) c.any.new.self _ c.any.result c.any.ensures.ran (YieldsList-from_zip (YieldsList-from_slice xs cc) (YieldsList-from_slice ys cc)) (λ x b q k. search (rules, tests)) in
    tested ∙ any_not _ (zip xs ys) ∙ ap not (common_all xs ys c.requires)
