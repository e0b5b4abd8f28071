-- Going down a bucket, adding a row to it, and emptying the buckets.
use Rattle.std.proofs.Common.{◌≡◌, ℕ, true, nat_eq, ◌+◌, ◌<◌, ◌≤◌, List, [], ◌∷◌, ◌++◌, length, get_or, set, Some, None, Option, sym, refl, ap, ◌∙◌, subst, inl, inr, arith}
use native.Mathlib.Decide.{dec_lt}
use Rattle.std.specs.Cmp.Lexicographic.{pointwise, same_text}
use Rattle.std.proofs.lemmas.Bool.{cases_eq}
use Rattle.std.proofs.lemmas.List.{get_or-set_same, get_or-set_other, get_or_append_left, get_or_push, get_or_past, get_or_read, get_or-map}
use Rattle.std.proofs.lemmas.Nat.{and_le_r}
use Rattle.facts.specs.Digest.{digest}
use Rattle.strips.specs.Semantics.{State}
use Rattle.closed_list.specs.declared.row.Row.{Row}
use Rattle.closed_list.specs.declared.table.Linked.{Linked}
use Rattle.closed_list.specs.Linked.{links_of, rows_of}
use Rattle.closed_list.specs.Rows.{At, row}
use Rattle.closed_list.proofs.LinkedRows.{length_rows, row_at}
use Rattle.closed_list.proofs.Pushed.{length_push, row_old, row_new}
use Rattle.hashed_list.specs.Buckets.{Heads, Links, bucket, bucket_of, latest}
use Rattle.hashed_list.proofs.Latest.{UpTo, height, latest_top, latest_at, latest_height, latest_same, latest_here, latest_not_here}

-- we stand at a row of the state's bucket, or below all; no row with the state lies above
pub record Standing (mask : ℕ) (rows : List Row) (s : State) (at : Option ℕ) : Type 0 where
  pub here : (i : ℕ) → at ≡ Some i → (i < length rows) × (bucket_of mask rows i ≡ bucket mask s)
  pub above : (k : ℕ) → At rows s k → UpTo at k

pub bucket_within : (mask : ℕ) (s : State) → bucket mask s ≤ mask
unfolding bucket
bucket_within mask s = and_le_r (digest s) mask

-- an element as code reads it
seen : (xs : List (Option ℕ)) (i : ℕ) (x : Option ℕ) → i < length xs → x ≡ get_or xs i x → x ≡ get_or xs i None
seen xs i x lt e = get_or_read xs i x lt e None

-- the entry that code reads under the number i
module _ (entries read : List (Linked (Option ℕ))) (i j : ℕ) (d : Linked (Option ℕ)) (same : read ≡ entries) (is : j ≡ i) (lt : i < length (rows_of entries)) where
  entry_is : get_or read j d ≡ get_or entries i d
  entry_is = ap (λ es. get_or es j d) same ∙ ap (λ k. get_or entries k d) is

  pub entry_row : (get_or read j d).row ≡ row (rows_of entries) i
  entry_row = ap (λ e. e.row) entry_is ∙ sym (row_at entries i d (omega (arith, lt, length_rows entries)))

  pub entry_found : (s : State) → true ≡ pointwise nat_eq (get_or read j d).row.state.words s → (row (rows_of entries) i).state.words ≡ s
  entry_found s told = sym (ap (λ r. r.state.words) entry_row) ∙ same_text _ _ told

  pub entry_link : (get_or read j d).link ≡ get_or (links_of entries) i None
  entry_link = ap (λ e. e.link) entry_is ∙ sym (get_or-map (λ e. e.link) entries i d None (omega (arith, lt, length_rows entries)))

pub entry_bucket : (mask : ℕ) (entries : List (Linked (Option ℕ))) (i b : ℕ) (d : Linked (Option ℕ)) → i < length entries → b ≡ bucket mask (get_or entries i d).row.state.words → b ≡ bucket_of mask (rows_of entries) i
entry_bucket mask entries i b d lt is = is ∙ ap (λ r. bucket mask r.state.words) (sym (row_at entries i d lt))

module _ (mask : ℕ) (rows : List Row) (s : State) where
  pub standing_at : (at : Option ℕ) (i : ℕ) → Standing mask rows s at → at ≡ Some i → i < length rows
  standing_at at i st is = (st.here i is).0

  pub standing_found : (at : Option ℕ) (i : ℕ) → Standing mask rows s at → at ≡ Some i → (row rows i).state.words ≡ s → At rows s i
  standing_found at i st is same = ((st.here i is).0, same)

  pub standing_first : (heads : List (Option ℕ)) (b : ℕ) (at : Option ℕ) → Heads mask rows heads → length heads ≡ mask + 1 → b ≡ bucket mask s → at ≡ get_or heads b at → Standing mask rows s at
  standing_first heads b at hs wide is e =
      let le : b ≤ mask = omega (arith, bucket_within mask s) in
      let l : at ≡ latest (bucket_of mask rows) b (length rows) = seen heads b at (omega arith) e ∙ hs b le in
      record {
        here = λ i a. let r = latest_at (bucket_of mask rows) b (length rows) i (sym l ∙ a) in (r.0, r.1 ∙ is);
        above = λ k h. subst (λ a. UpTo a k) (sym l) (latest_top (bucket_of mask rows) b (length rows) k h.0 (ap (bucket mask) h.1 ∙ sym is));
      }

  -- from row i, which has another state, to the latest before it
  module _ (links : List (Option ℕ)) (i : ℕ) (at at' : Option ℕ) (st : Standing mask rows s at) (ls : Links mask rows links) (is : at ≡ Some i) (e : at' ≡ get_or links i None) where
    linked : at' ≡ latest (bucket_of mask rows) (bucket_of mask rows i) i
    linked = e ∙ ls i (st.here i is).0

    pub standing_next : ((row rows i).state.words ≡ s → ⊥) → Standing mask rows s at'
    standing_next other =
        let here = st.here i is in
        record {
          here = λ j a. let r = latest_at (bucket_of mask rows) (bucket_of mask rows i) i j (sym linked ∙ a) in (omega (arith, r.0, here.0), r.1 ∙ here.1);
          above = λ k h.
              let le : k ≤ i = subst (λ a. UpTo a k) is (st.above k h) in
              elim (dec_lt k i) [
                | yes lt ↦ subst (λ a. UpTo a k) (sym linked) (latest_top (bucket_of mask rows) (bucket_of mask rows i) i k lt (ap (bucket mask) h.1 ∙ sym here.1))
                | no ge ↦
                    let k-i : i ≡ k = omega arith in
                    absurd (other (ap (λ j. (row rows j).state.words) k-i ∙ h.1))
              ];
        }

    pub standing_lower : height at' < height at
    standing_lower =
        let low : height at' ≤ i = subst (λ a. height a ≤ i) (sym linked) (latest_height (bucket_of mask rows) (bucket_of mask rows i) i) in
        let high : height at ≡ i + 1 = ap height is in
        omega arith

-- one row more, at the head of its bucket
module _ (mask : ℕ) (rows : List Row) (x : Row) where
  bucket_old : (k : ℕ) → k < length rows → bucket_of mask rows k ≡ bucket_of mask (rows ++ x ∷ []) k
  bucket_old k lt = ap (λ r. bucket mask r.state.words) (sym (row_old rows x k lt))

  bucket_new : bucket_of mask (rows ++ x ∷ []) (length rows) ≡ bucket mask x.state.words
  bucket_new = ap (λ r. bucket mask r.state.words) (row_new rows x)

  pub heads_pushed : (heads : List (Option ℕ)) (b n : ℕ) (rows' : List Row) → rows' ≡ rows ++ x ∷ [] → Heads mask rows heads → b ≡ bucket mask x.state.words → n ≡ length rows → length heads ≡ mask + 1 → Heads mask rows' (set heads b (Some n))
  heads_pushed heads b n rows' push hs is count wide = subst (λ rs. Heads mask rs (set heads b (Some n))) (sym push) (λ a le.
      let b-le : b ≤ mask = omega (arith, bucket_within mask x.state.words) in
      let f = bucket_of mask (rows ++ x ∷ []) in
      let long : length (rows ++ x ∷ []) ≡ length rows + 1 = length_push rows x in
      elim (cases_eq a b) [
        | inl e ↦
            let l : latest f a (length rows + 1) ≡ Some (length rows) = latest_here f a (length rows) (bucket_new ∙ sym is ∙ sym e) in
            ap (λ i. get_or (set heads b (Some n)) i None) e ∙ get_or-set_same heads b (Some n) None (omega arith) ∙ ap Some count ∙ sym l ∙ ap (latest f a) (sym long)
        | inr ne ↦
            let l : latest f a (length rows + 1) ≡ latest f a (length rows) = latest_not_here f a (length rows) (λ e. ne (sym e ∙ bucket_new ∙ sym is)) in
            get_or-set_other heads b a (Some n) None ne ∙ hs a le ∙ latest_same (bucket_of mask rows) f a (length rows) bucket_old ∙ sym l ∙ ap (latest f a) (sym long)
      ])

  pub links_pushed : (heads links : List (Option ℕ)) (b : ℕ) (at : Option ℕ) (rows' : List Row) (links' : List (Option ℕ)) → rows' ≡ rows ++ x ∷ [] → links' ≡ links ++ at ∷ [] → Heads mask rows heads → Links mask rows links → b ≡ bucket mask x.state.words → length heads ≡ mask + 1 → at ≡ get_or heads b at → length links ≡ length rows → Links mask rows' links'
  links_pushed heads links b at rows' links' push link hs ls is wide read same = subst (λ rs. Links mask rs links') (sym push) (subst (Links mask (rows ++ x ∷ [])) (sym link) (λ j lt.
      let le : b ≤ mask = omega (arith, bucket_within mask x.state.words) in
      let e : at ≡ get_or heads b None = seen heads b at (omega arith) read in
      let f = bucket_of mask (rows ++ x ∷ []) in
      let long : length (rows ++ x ∷ []) ≡ length rows + 1 = length_push rows x in
      elim (dec_lt j (length rows)) [
        | yes l ↦
            get_or_append_left links (at ∷ []) None j (omega arith) ∙ ls j l
            ∙ latest_same (bucket_of mask rows) f (bucket_of mask rows j) j (λ k kl. bucket_old k (omega arith))
            ∙ ap (λ c. latest f c j) (bucket_old j l)
        | no ge ↦
            let j-n : length rows ≡ j = omega arith in
            let new : bucket_of mask (rows ++ x ∷ []) (length rows) ≡ b = bucket_new ∙ sym is in
            let all : get_or (links ++ at ∷ []) (length rows) None ≡ latest f (f (length rows)) (length rows) =
            get_or_push links at None (length rows) same ∙ e ∙ hs b le ∙ latest_same (bucket_of mask rows) f b (length rows) bucket_old ∙ ap (λ c. latest f c (length rows)) (sym new) in
            subst (λ m. get_or (links ++ at ∷ []) m None ≡ latest f (f m) m) j-n all
      ]))

-- no row yet
pub heads_none : (mask : ℕ) (rows : List Row) (heads : List (Option ℕ)) → rows ≡ [] → ((b : ℕ) → get_or heads b None ≡ None) → Heads mask rows heads
unfolding latest
heads_none mask rows heads e none b le = none b ∙ ap (λ rs. latest (bucket_of mask rows) b (length rs)) (sym e)

pub links_none : (mask : ℕ) (rows : List Row) (links : List (Option ℕ)) → rows ≡ [] → Links mask rows links
links_none mask rows links e j lt = absurd (omega (arith, ap length e))

pub none_from : (heads : List (Option ℕ)) → ((k : ℕ) → k < length heads → get_or heads k None ≡ None) → (b : ℕ) → get_or heads b None ≡ None
none_from heads each b = elim (dec_lt b (length heads)) [ yes l ↦ each b l | no ge ↦ get_or_past heads b None (omega arith) ]

-- the buckets of the first i rows are emptied: what a bucket still has is a later row of its own
abbrev pub Left : ℕ → List Row → List (Option ℕ) → ℕ → Type 0
Left mask rows heads i = (b k : ℕ) → get_or heads b None ≡ Some k → (bucket_of mask rows k ≡ b) × (i ≤ k) × (k < length rows)

none_some : (k : ℕ) → ◌≡◌ {A = Option ℕ} None (Some k) → ⊥
none_some k e = let z : ◌≡◌ {A = ℕ} 0 1 = cc in omega arith

pub left_first : (mask : ℕ) (rows : List Row) (heads : List (Option ℕ)) → Heads mask rows heads → length heads ≡ mask + 1 → Left mask rows heads 0
left_first mask rows heads hs wide b k e =
    elim (dec_lt mask b) [
      | yes past ↦ absurd (none_some k (sym (get_or_past heads b None (omega arith)) ∙ e))
      | no in-mask ↦ let r = latest_at (bucket_of mask rows) b (length rows) k (sym (hs b (omega arith)) ∙ e) in (r.1, omega arith, r.0)
    ]

pub left_next : (mask : ℕ) (rows : List Row) (heads : List (Option ℕ)) (i b : ℕ) → Left mask rows heads i → b ≡ bucket_of mask rows i → b < length heads → Left mask rows (set heads b None) (i + 1)
left_next mask rows heads i b left is within a k e =
    elim (cases_eq a b) [
      | inl same ↦ absurd (none_some k (sym (get_or-set_same heads b None None within) ∙ ap (λ c. get_or (set heads b None) c None) (sym same) ∙ e))
      | inr ne ↦
          let l = left a k (sym (get_or-set_other heads b a None None ne) ∙ e) in
          let apart : k ≡ i → ⊥ = λ k-i. ne (sym l.0 ∙ ap (bucket_of mask rows) k-i ∙ sym is) in
          (l.0, elim (cases_eq k i) [ inl k-i ↦ absurd (apart k-i) | inr k-i ↦ omega (arith, l.1, k-i) ], l.2)
    ]

pub left_none : (mask : ℕ) (rows : List Row) (heads : List (Option ℕ)) (i : ℕ) → Left mask rows heads i → length rows ≤ i → (b : ℕ) → get_or heads b None ≡ None
left_none mask rows heads i left all b =
    elim (get_or heads b None) as (λ o. get_or heads b None ≡ o → get_or heads b None ≡ None) [
      | None ↦ λ e. e
      | Some k ↦ λ e. let l = left b k e in absurd (omega (arith, l.1, l.2))
    ] refl
