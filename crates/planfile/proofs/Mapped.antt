-- Lemmas on a result whose error was mapped.
use Rattle.std.proofs.Common.{◌≡◌, Ok, Err, Result}
use Rattle.std.specs.Result.{MatchResult, IfOk, IfErr, IsErrAnd}

module _ {X E D : Type 0} (Q : E → D → Type 0) where
  pub mapped_ok : (P : X → Type 0) (r : Result X E) (m : Result X D) (x : X) → MatchResult r (λ y. m ≡ Ok y) (λ e. IsErrAnd m (Q e)) → IfOk r P → m ≡ Ok x → P x
  mapped_ok P (Ok y) m x c p e = let same : y ≡ x = cc in rw same at p
  mapped_ok P (Err d) m x c p e = absurd (rw e at c)

  -- where the map makes `to e` of an error e
  pub mapped_err : (to : E → D) → ((e : E) (d : D) → Q e d → d ≡ to e) → (P : E → Type 0) (r : Result X E) (m : Result X D) (d : D) → MatchResult r (λ y. m ≡ Ok y) (λ e. IsErrAnd m (Q e)) → IfErr r P → m ≡ Err d → (e : E) × P e × (d ≡ to e)
  mapped_err to made P (Ok y) m d c p e = let z : ◌≡◌ {A = Result X D} (Ok y) (Err d) = cc in absurd (cc)
  mapped_err to made P (Err b) m d c p e = let h = rw e at c in (b, p, made b d h)
