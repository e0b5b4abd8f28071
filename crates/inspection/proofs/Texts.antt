-- Lemmas on lists of numbers as text.
use Rattle.std.proofs.Common.{◌≡◌, ℕ, ◌+◌, Bool, true, false, cond, List, [], ◌∷◌, ◌++◌, refl, sym, ap, ◌∙◌, append_assoc, append-nil, arith}
use Rattle.std.specs.Prelude.{filter}
use Rattle.std.specs.List.{flat_map, range_with_len}
use Rattle.std.proofs.lemmas.Grind.{flat_map-append}
use Rattle.std.proofs.lemmas.List.{map-id}
use Rattle.std.proofs.lemmas.List.Elements.{filter-append}
use Rattle.std.proofs.lemmas.List.FromFn.{map-range_with_len_more}
use Rattle.inspection.specs.View.{item, numbers}

range_more : (k : ℕ) → range_with_len 0 (k + 1) ≡ range_with_len 0 k ++ k ∷ []
range_more k =
    sym (map-id (range_with_len 0 (k + 1))) ∙ map-range_with_len_more (λ (n : ℕ). n) 0 k k (omega arith) ∙ ap (λ (ns : List ℕ). ns ++ k ∷ []) (map-id (range_with_len 0 k))

one_number : (p : ℕ → Bool) (k : ℕ) → flat_map item (filter p (k ∷ [])) ≡ cond (p k) (item k) []
one_number p k = elim (p k) as (λ (b : Bool). flat_map item (cond b (k ∷ []) []) ≡ cond b (item k) []) [ true ↦ append-nil (item k) | false ↦ refl ]

numbers_next : (p : ℕ → Bool) (k : ℕ) → numbers p (k + 1) ≡ numbers p k ++ cond (p k) (item k) []
numbers_next p k =
    ap (λ (ns : List ℕ). flat_map item (filter p ns)) (range_more k)
    ∙ ap (flat_map item) (filter-append p (range_with_len 0 k) (k ∷ []))
    ∙ flat_map-append item (filter p (range_with_len 0 k)) (filter p (k ∷ []))
    ∙ ap (λ (xs : List ℕ). numbers p k ++ xs) (one_number p k)

-- the numbers below k + 1 are those below k, and k where it passes the test
pub numbers_more : (p : ℕ → Bool) (k : ℕ) (was mid end : List ℕ) → mid ≡ was ++ numbers p k → end ≡ mid ++ cond (p k) (item k) [] → end ≡ was ++ numbers p (k + 1)
numbers_more p k was mid end e h =
    h ∙ ap (λ (xs : List ℕ). xs ++ cond (p k) (item k) []) e ∙ append_assoc was (numbers p k) (cond (p k) (item k) []) ∙ ap (λ (xs : List ℕ). was ++ xs) (sym (numbers_next p k))
