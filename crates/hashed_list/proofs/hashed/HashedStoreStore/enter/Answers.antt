use Rattle.std.proofs.Common.{◌≡◌, ◌+◌, length, vec_items, sym, ap, ◌∙◌, subst, arith}
use Rattle.closed_list.specs.Linked.{links_of, rows_of}
use Rattle.closed_list.proofs.LinkedRows.{absent_unfound, different_pushed, length_links, length_rows, links_push, rows_push}
use Rattle.closed_list.specs.Rows.{Different}
use Rattle.hashed_list.specs.Buckets.{Heads, Links}
use Rattle.hashed_list.proofs.Chains.{heads_pushed, links_pushed}
use Rattle.hashed_list.proofs.hashed.HashedStoreStore.enter.Goals as goal

pub invariant_of-self : goal.invariant_of-self
invariant_of-self c =
    let self = c.args.self.now in
    let same = sym c.in_err-number.ensures.change.2 in
    record {
      wide = self.wide;
      latest_of_bucket = subst (λ es. Heads self.mask (rows_of es) (vec_items self.heads)) same self.latest_of_bucket;
      latest_before = subst (λ es. Links self.mask (rows_of es) (links_of es)) same self.latest_before;
      different = subst (λ es. ∥ Different (rows_of es) ∥₁) same self.different;
    }

pub invariant_of-self-2 : goal.invariant_of-self-2
invariant_of-self-2 c =
    let self = c.args.self.now in
    let entries = self.table.entries.items in
    let pushed = c.in_ok-number.ensures.change in
    let rows = ap rows_of pushed.2 ∙ rows_push entries _ in
    let links = ap links_of pushed.2 ∙ links_push entries _ in
    let is = c.bucket-bucket.ensures.value in
    let wide : length (vec_items self.heads) ≡ self.mask + 1 = omega arith in
    let long : length (links_of entries) ≡ length (rows_of entries) = omega (arith, length_rows entries, length_links entries) in
    let new = absent_unfound _ _ _ c.if-is_some.ensures c.find_in.ensures.found in
    record {
      wide = self.wide;
      latest_of_bucket = heads_pushed _ _ _ _ _ _ _ rows self.latest_of_bucket is (omega (arith, pushed.1, length_rows entries)) wide;
      latest_before = links_pushed _ _ _ _ _ _ _ _ _ rows links self.latest_of_bucket self.latest_before is wide c.index.ensures long;
      different = different_pushed _ _ _ _ _ self.different new c.push.ensures.change;
    }
