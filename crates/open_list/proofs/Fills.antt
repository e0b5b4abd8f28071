-- A frontier that is being filled.
use Rattle.std.proofs.Common.{◌≡◌, ℕ, ◌+◌, ◌-◌, ◌<◌, ◌≤◌, min, List, [], ◌∷◌, ◌++◌, length, get_or, take, sym, refl, ap, ◌∙◌, subst, inl, inr, append_assoc, append-nil, arith, length-append}
use Rattle.std.specs.List.Sorted.{IsPermutation}
use Rattle.std.proofs.lemmas.List.{take_more, take_all, length-take-le}
use Rattle.std.proofs.lemmas.Bool.{cases_lt}
use Rattle.std.proofs.lemmas.List.Sorted.{IsPermutation-cons, IsPermutation-trans, IsPermutation-to_front, length_permutation}
use Rattle.open_list.proofs.Permuted.{same_list}

-- the first i of xs were put beside w₀, and w waits
pub record Filled {X : Type 0} (room : ℕ) (w₀ xs : List X) (room' : ℕ) (w : List X) (i : ℕ) : Type 0 where
  pub change : IsPermutation (w₀ ++ take i xs) w
  pub same : room' ≡ room

module _ {X : Type 0} (room : ℕ) (w₀ xs : List X) where
  pub filled_none : Filled room w₀ xs room w₀ 0
  filled_none = record { change = same_list (w₀ ++ []) w₀ (append-nil w₀); same = refl }

  pub filled_more : (room' room'' : ℕ) (w w' : List X) (i : ℕ) (d : X) → i < length xs → Filled room w₀ xs room' w i
      → (length w < room') × IsPermutation (get_or xs i d ∷ w) w' → room'' ≡ room' → Filled room w₀ xs room'' w' (i + 1)
  filled_more room' room'' w w' i d lt f p e = record { change = more; same = e ∙ f.same }
    where
      x : X
      x = get_or xs i d

      at_end : w₀ ++ take (i + 1) xs ≡ (w₀ ++ take i xs) ++ x ∷ []
      at_end = ap (λ ys. w₀ ++ ys) (take_more xs i d lt) ∙ sym (append_assoc w₀ (take i xs) (x ∷ []))

      more : IsPermutation (w₀ ++ take (i + 1) xs) w'
      more = subst (λ ys. IsPermutation ys w') (sym at_end)
          (IsPermutation-trans ((w₀ ++ take i xs) ++ x ∷ []) (x ∷ (w₀ ++ take i xs)) w' (IsPermutation-to_front (w₀ ++ take i xs) x)
          (IsPermutation-trans (x ∷ (w₀ ++ take i xs)) (x ∷ w) w' (IsPermutation-cons x (w₀ ++ take i xs) w f.change) p.1))

  filled_length : (room' : ℕ) (w : List X) (i : ℕ) → i ≤ length xs → Filled room w₀ xs room' w i → length w ≡ length w₀ + i
  filled_length room' w i le f =
      length_permutation (w₀ ++ take i xs) w f.change ∙ length-append w₀ (take i xs)
      ∙ ap (λ n. length w₀ + n) (length-take-le i xs le)

  pub count_full : (room' : ℕ) (w : List X) (i : ℕ) → i < length xs → Filled room w₀ xs room' w i → length w ≡ room'
      → i ≡ min (length xs) (room - length w₀)
  count_full room' w i lt f full = let e = filled_length room' w i (omega arith) f in omega (arith, e, full, f.same)

  pub count_all : (room' : ℕ) (w : List X) (i : ℕ) → i ≡ length xs → Filled room w₀ xs room' w i → length w ≤ room'
      → length xs ≡ min (length xs) (room - length w₀)
  count_all room' w i eq f few = let e = filled_length room' w i (omega arith) f in omega (arith, e, few, f.same)

  pub filled_still : (room' : ℕ) (w w' : List X) (i : ℕ) → Filled room w₀ xs room' w i → w' ≡ w → IsPermutation (w₀ ++ take i xs) w'
  filled_still room' w w' i f e = subst (IsPermutation (w₀ ++ take i xs)) (sym e) f.change

  pub filled_all : (room' : ℕ) (w : List X) (i : ℕ) → i ≡ length xs → Filled room w₀ xs room' w i → IsPermutation (w₀ ++ take (length xs) xs) w
  filled_all room' w i eq f = subst (λ n. IsPermutation (w₀ ++ take n xs) w) eq f.change

take_fewer : {X : Type 0} (xs : List X) (room n : ℕ) → n ≡ min (length xs) room → take n xs ≡ take room xs
take_fewer xs room n e =
    elim (cases_lt (length xs) room) [ inl lt ↦ take_all n xs (omega arith) ∙ sym (take_all room xs (omega arith)) | inr le ↦ ap (λ k. take k xs) (omega arith) ]

-- an empty frontier takes in as many as have a place
pub filled_empty : {X : Type 0} (room room' n : ℕ) (w w' xs : List X) → w ≡ [] → room' ≡ room → n ≡ min (length xs) (room' - length w)
    → IsPermutation (w ++ take n xs) w' → IsPermutation (take room xs) w'
filled_empty room room' n w w' xs e r c s =
    let m : n ≡ min (length xs) room = omega (arith, c, r, ap length e) in
    subst (λ ys. IsPermutation ys w') (ap (λ ys. ys ++ take n xs) e ∙ take_fewer xs room n m) s
