-- Layers grow.
use Rattle.std.specs.Prelude.{◌≡◌, ℕ, zero, suc, ◌<◌, Bool, true, false, cond, List, length, refl}
use Rattle.std.proofs.Common.{sym, ap, ◌∙◌, ⊎_elim, arith}
use Rattle.std.proofs.lemmas.Bool.{not_from_false, cases_Bool, cases_lt, and_from, both_ways, or_left, or_right}
use Rattle.facts.specs.Words.{has, union, subset}
use Rattle.facts.proofs.Sets.{has_union, subset_has}
use Rattle.strips.specs.declared.action.Action.{Action}
use Rattle.strips.specs.Semantics.{State, applicable}
use Rattle.strips.specs.Sound.{act}
use Rattle.relaxed.specs.Layers.{brings, layer, grown}
use Rattle.relaxed.specs.Plan.{last}
use Rattle.relaxed.specs.Firsts.{first_at, first_passes}

-- layers
pub layer_none : (acts : List Action) (s : State) → s ≡ layer acts s 0
unfolding layer
layer_none acts s = refl

pub layer_suc : (acts : List Action) (s : State) (i : ℕ) → layer acts s (suc i) ≡ grown acts (layer acts s i) (length acts)
unfolding layer
layer_suc acts s i = refl

-- the last layer
pub last_at : (acts : List Action) (goal s ws : State) (i : ℕ) → i < 257 → ws ≡ layer acts s i → ((j : ℕ) → j < i → subset goal (layer acts s j) ≡ false) → true ≡ subset goal ws → last acts goal s ≡ i
unfolding last
last_at acts goal s ws i l e h t = first_at (λ i. subset goal (layer acts s i)) 257 i l h (ap (subset goal) (sym e) ∙ sym t)

-- grown sets
pub grown_stays : (acts : List Action) (base : State) (k f : ℕ) → has (grown acts base k) f ≡ true → has (grown acts base (suc k)) f ≡ true
unfolding grown
grown_stays acts base k f h = keep (brings acts base (grown acts base k) k)
  where
    keep : (b : Bool) → has (cond b (union (grown acts base k) (act acts k).add.words) (grown acts base k)) f ≡ true
    keep true = has_union (grown acts base k) (act acts k).add.words f ∙ or_left (has (grown acts base k) f) (has (act acts k).add.words f) h
    keep false = h

pub grown_keeps : (acts : List Action) (base : State) (k f : ℕ) → has base f ≡ true → has (grown acts base k) f ≡ true
unfolding grown
grown_keeps acts base zero f e = e
grown_keeps acts base (suc k) f e = grown_stays acts base k f (grown_keeps acts base k f e)

-- an action that adds a fact which is not there brings something
pub brings_new : (acts : List Action) (base ws : State) (k f : ℕ) → applicable (act acts k) base ≡ true → has (act acts k).add.words f ≡ true → has ws f ≡ false → brings acts base ws k ≡ true
brings_new acts base ws k f p a h =
    and_from _ _ p (not_from_false _ (⊎_elim (λ t. absurd (both_ways (has ws f) h (subset_has (act acts k).add.words ws t f a))) (λ e. e) (cases_Bool (subset (act acts k).add.words ws))))

pub grown_adds : (acts : List Action) (base : State) (k f : ℕ) → applicable (act acts k) base ≡ true → has (act acts k).add.words f ≡ true → has (grown acts base (suc k)) f ≡ true
unfolding grown
grown_adds acts base k f p a =
    ⊎_elim
    (λ h. grown_stays acts base k f h)
    (λ h.
    ap (λ (b : Bool). has (cond b (union (grown acts base k) (act acts k).add.words) (grown acts base k)) f) (brings_new acts base (grown acts base k) k f p a h)
    ∙ has_union (grown acts base k) (act acts k).add.words f ∙ or_right (has (grown acts base k) f) (has (act acts k).add.words f) a)
    (cases_Bool (has (grown acts base k) f))

pub grown_has : (acts : List Action) (base : State) (n k f : ℕ) → k < n → applicable (act acts k) base ≡ true → has (act acts k).add.words f ≡ true → has (grown acts base n) f ≡ true
grown_has acts base zero k f l p a = absurd (omega arith)
grown_has acts base (suc n) k f l p a =
    ⊎_elim (λ m. grown_stays acts base n f (grown_has acts base n k f m p a))
    (λ m. let q : k ≡ n = omega arith in grown_adds acts base n f (ap (λ (x : ℕ). applicable (act acts x) base) (sym q) ∙ p) (ap (λ (x : ℕ). has (act acts x).add.words f) (sym q) ∙ a))
    (cases_lt k n)

-- at layer 0 nothing is wanted at level 1
pub last_passes : (acts : List Action) (goal s : State) (top : ℕ) → last acts goal s ≡ top → top < 257 → subset goal (layer acts s top) ≡ true
unfolding last
last_passes acts goal s top e l =
    let p : ℕ → Bool = λ i. subset goal (layer acts s i) in
    ap p (sym e) ∙ first_passes p 257 (omega arith)
