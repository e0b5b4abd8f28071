use Rattle.std.proofs.Common.{◌≡◌, ℕ, eqb, sym, ◌∙◌, arith, rules, tests}
use Rattle.std.specs.List.{list_all, zip}
use lib.Bits.{bit_and}
use Rattle.std.proofs.lemmas.Iterator.{YieldsList-from_slice, YieldsList-from_zip}
use Rattle.std.proofs.lemmas.Iterator.Search.{all_from_yields_List}
use Rattle.facts.proofs.Sets.{subset_all, subset_from, subset_has, word_from_has}
use Rattle.facts.proofs.words.is_subset.Goals as goal

pub returns : goal.returns
returns c =
    let xs = c.args.words.now in
    let ys = c.args.other.now in
    let tested : c.all.result ≡ list_all (λ (p : ℕ × ℕ). eqb (bit_and p.0 p.1) p.0) (zip xs ys) =
    all_from_yields_List (λ (p : ℕ × ℕ). eqb (bit_and p.0 p.1) p.0) c.all.new.self _ c.all.result c.all.ensures.ran (YieldsList-from_zip (YieldsList-from_slice xs cc) (YieldsList-from_slice ys cc)) (λ x b q k. search (rules, tests)) in
    let e = tested ∙ subset_all xs ys c.requires in
    record {
      test = e;
      members = (λ t. subset_has xs ys (sym e ∙ t), λ h. e ∙ subset_from xs ys (λ k l. word_from_has xs ys k (omega (arith, c.type_inv.words k)) h));
    }
