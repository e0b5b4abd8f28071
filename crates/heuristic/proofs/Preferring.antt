-- Lemmas on preferring the actions that pass a test.
use Rattle.std.proofs.Common.{◌≡◌, ℕ, Bool, ◌&&◌, ltb, List, sym, ap, ◌∙◌, ⊎_elim}
use Rattle.std.proofs.lemmas.Bool.{and_left, cases_lt, lt-ltb, le-ltb}
use Rattle.facts.specs.Words.{has}
use Rattle.heuristic.specs.Useful.{Picks}

-- where all are answered by the test q
pub picks_all : (Answers : ℕ → Bool → Type 0) (q : ℕ → Bool) (n : ℕ) (ws : List ℕ) → ((k : ℕ) (b : Bool) → Answers k b → b ≡ q k) → Picks Answers n ws → (k : ℕ) → has ws k ≡ (ltb k n && q k)
picks_all Answers q n ws is p k =
    ⊎_elim
    (λ l. is k (has ws k) (p.answered k l) ∙ sym (ap (λ (b : Bool). b && q k) (lt-ltb k n l)))
    (λ l. p.no_more k l ∙ sym (and_left (ltb k n) (q k) (le-ltb k n l)))
    (cases_lt k n)
