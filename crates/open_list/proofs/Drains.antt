-- A frontier that is being emptied.
use Rattle.std.proofs.Common.{◌≡◌, ℕ, ◌<◌, ◌≤◌, List, [], ◌∷◌, ◌++◌, length, take, Ok, Err, vec_items, Result, Vec, sym, refl, ap, ◌∙◌, subst, append_assoc, append-nil, arith, length-append}
use Rattle.std.specs.List.Sorted.{IsPermutation}
use Rattle.std.proofs.lemmas.List.Sorted.{IsPermutation-refl, IsPermutation-trans, IsPermutation-append_right, length_permutation}
use Rattle.open_list.specs.Emptied.{Drained, Refilled}

-- of w₀, out came out and w still waits; all of it has a place
pub record Draining {X : Type 0} (room : ℕ) (w₀ : List X) (room' : ℕ) (w : List X) (out : List X) (cap : ℕ) : Type 0 where
  pub change : IsPermutation w₀ (out ++ w)
  pub same : room' ≡ room
  pub reserved : length w₀ ≤ cap

module _ {X : Type 0} (room : ℕ) (w₀ : List X) where
  pub draining_none : (out : List X) (cap : ℕ) → out ≡ [] → length w₀ ≤ cap → Draining room w₀ room w₀ out cap
  draining_none out cap e le = record { change = subst (λ ys. IsPermutation w₀ (ys ++ w₀)) (sym e) (IsPermutation-refl w₀); same = refl; reserved = le }

  pub draining_more : (room' room'' : ℕ) (w w' out out' : List X) (cap cap' : ℕ) (x : X) → Draining room w₀ room' w out cap
      → IsPermutation w (x ∷ w') → room'' ≡ room' → out' ≡ out ++ x ∷ [] → cap' ≡ cap → Draining room w₀ room'' w' out' cap'
  draining_more room' room'' w w' out out' cap cap' x d t e o k = record {
    change = subst (IsPermutation w₀) (sym (append_assoc out (x ∷ []) w') ∙ ap (λ ys. ys ++ w') (sym o))
        (IsPermutation-trans w₀ (out ++ w) (out ++ x ∷ w') d.change (IsPermutation-append_right out w (x ∷ w') t));
    same = e ∙ d.same;
    reserved = omega (arith, d.reserved, k);
  }

  -- an entry that comes has a place
  pub draining_place : (room' : ℕ) (w w' out : List X) (cap : ℕ) (x : X) → Draining room w₀ room' w out cap → IsPermutation w (x ∷ w') → length out < cap
  draining_place room' w w' out cap x d t =
      omega (arith, d.reserved, length_permutation w₀ (out ++ w) d.change, length-append out w, length_permutation w (x ∷ w') t)

  pub draining_less : (w w' : List X) (x : X) → IsPermutation w (x ∷ w') → length w' < length w
  draining_less w w' x t = omega (arith, length_permutation w (x ∷ w') t)

  pub drained : (room' : ℕ) (w out : List X) (cap : ℕ) → Draining room w₀ room' w out cap → w ≡ [] → IsPermutation w₀ out
  drained room' w out cap d e = subst (IsPermutation w₀) (ap (λ ys. out ++ ys) e ∙ append-nil out) d.change

pub refilled : {X Y Z : Type 0} (room : ℕ) (xs w w' : List X) (r : Result (Vec X Z) Y) → IsPermutation (take room xs) w → Drained w r w' → Refilled room xs r w'
refilled room xs w w' (Ok out) s d = (IsPermutation-trans (take room xs) w (vec_items out) s d.0, d.1)
refilled room xs w w' (Err y) s d = subst (IsPermutation (take room xs)) (sym d) s
