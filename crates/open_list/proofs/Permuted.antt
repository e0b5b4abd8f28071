-- Lists with the same elements.
use Rattle.std.proofs.Common.{◌≡◌, List, [], ◌∷◌, ◌++◌, sym, subst}
use Rattle.std.specs.List.Sorted.{IsPermutation}
use Rattle.std.proofs.lemmas.List.Sorted.{IsPermutation-refl, IsPermutation-append_comm}

module _ {X : Type 0} where
  -- what stands at the end may stand in front
  pub pushed : (xs ys : List X) (x : X) → ys ≡ xs ++ x ∷ [] → IsPermutation (x ∷ xs) ys
  pushed xs ys x e = subst (IsPermutation (x ∷ xs)) (sym e) (IsPermutation-append_comm (x ∷ []) xs)

  pub same_list : (xs ys : List X) → xs ≡ ys → IsPermutation xs ys
  same_list xs ys e = subst (IsPermutation xs) e (IsPermutation-refl xs)
