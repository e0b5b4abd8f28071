-- What waits, seen through a function.
use Rattle.std.proofs.Common.{◌≡◌, false, true≢false, ℕ, List, ◌∷◌, map, Some, None, Ok, Err, Option, Result, Ordering, ap, ◌∙◌, sym, subst, arith, MatchOption}
use Rattle.std.specs.Option.{IsSomeAnd}
use Rattle.std.specs.Result.{is_ok}
use Rattle.std.specs.Ordering.{is_lt}
use Rattle.std.specs.List.Sorted.{IsPermutation}
use Rattle.std.proofs.lemmas.List.{length-map}
use Rattle.std.proofs.lemmas.List.Elements.{All-map}
use Rattle.std.proofs.lemmas.List.Sorted.{IsPermutation-map}
use Rattle.bounded_heap.specs.Order.{Least, LeastOf}
use Rattle.bounded_heap.specs.Waiting.{Put, Take}

module _ {K X : Type 0} (of : K → X) where
  pub put_mapped : {Y Z : Type 0} (room : ℕ) (w w' : List K) (k : K) (x : X) (r : Result (Unit {0}) Y) (r' : Result (Unit {0}) Z) → of k ≡ x → is_ok r' ≡ is_ok r
      → Put room w k r w' → Put room (map of w) x r' (map of w')
  put_mapped room w w' k x (Ok _) (Ok _) e same p =
      (omega (arith, p.0, length-map w of), subst (λ z. IsPermutation (z ∷ map of w) (map of w')) e (IsPermutation-map of (k ∷ w) w' p.1))
  put_mapped room w w' k x (Ok _) (Err _) e same p = absurd (true≢false (sym same))
  put_mapped room w w' k x (Err _) (Ok _) e same p = absurd (true≢false same)
  put_mapped room w w' k x (Err _) (Err _) e same p = (length-map w of ∙ p.0, ap (map of) p.1)

  pub take_mapped : (w w' : List K) (r : Option K) (r' : Option X) → MatchOption r (r' ≡ None) (λ k. IsSomeAnd r' (λ x. x ≡ of k))
      → Take w r w' → Take (map of w) r' (map of w')
  take_mapped w w' (Some k) (Some x) e t = subst (λ z. IsPermutation (map of w) (z ∷ map of w')) (sym e) (IsPermutation-map of w (k ∷ w') t)
  take_mapped w w' (Some k) None e t = absurd e
  take_mapped w w' None r' e t = subst (λ z. Take (map of w) z (map of w')) (sym e) (ap (map of) t.0, ap (map of) t.1)

  pub least_mapped : (cmp : K → K → Ordering) (order : X → X → Ordering) → ((a b : K) → cmp a b ≡ order (of a) (of b)) → (w : List K) (r : Option K) (r' : Option X)
      → MatchOption r (r' ≡ None) (λ k. IsSomeAnd r' (λ x. x ≡ of k)) → LeastOf cmp w r → LeastOf order (map of w) r'
  least_mapped cmp order agrees w (Some k) (Some x) e l =
      let l' : Least (λ a b. order (of a) (of b)) k w = subst (λ c. Least c k w) (λ i a b. agrees a b i) l in
      subst (λ z. Least order z (map of w)) (sym e) (All-map (λ y. is_lt (order y (of k)) ≡ false) of w l')
  least_mapped cmp order agrees w (Some k) None e l = absurd e
  least_mapped cmp order agrees w None r' e l = subst (LeastOf order (map of w)) (sym e) tt
