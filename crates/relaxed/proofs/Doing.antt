-- Lemmas on actions that have nothing left to bring.
use Rattle.std.proofs.Common.{◌≡◌, ℕ, true, ◌&&◌, ◌||◌, eqb, ltb, List, sym, ap, ◌∙◌, ⊎_elim}
use Rattle.std.proofs.lemmas.Bool.{and_parts, eqb-true, or_cases}
use Rattle.facts.specs.Words.{has, subset, union}
use Rattle.facts.proofs.Sets.{subset_trans}
use Rattle.strips.specs.declared.action.Action.{Action}
use Rattle.strips.specs.Semantics.{State}
use Rattle.strips.specs.Sound.{act}
use Rattle.heuristic.proofs.Relaxing.{union_left, union_right}
use Rattle.relaxed.specs.Done.{Done}

-- one action more, whose adds lie in the layer
pub done_more : (acts : List Action) (done after : List ℕ) (ws : State) (k n : ℕ) → Done acts done ws → subset (act acts k).add.words ws ≡ true → ((j : ℕ) → has after j ≡ (has done j || (ltb k n && eqb k j))) → Done acts after ws
done_more acts done after ws k n before here more j h =
    ⊎_elim
    (λ y. before j y)
    (λ y. ap (λ (i : ℕ). subset (act acts i).add.words ws) (sym (eqb-true k j (and_parts (ltb k n) (eqb k j) y).1)) ∙ here)
    (or_cases (has done j) (ltb k n && eqb k j) (sym (more j) ∙ h))

-- a layer that grows
pub done_grown : (acts : List Action) (done : List ℕ) (ws adds next : State) → next ≡ union ws adds → Done acts done ws → Done acts done next
done_grown acts done ws adds next e before j h = ap (subset (act acts j).add.words) e ∙ subset_trans (act acts j).add.words ws (union ws adds) (before j h) (union_left ws adds)

pub adds_in : (acts : List Action) (k : ℕ) (a : Action) (ws next : State) → a ≡ act acts k → next ≡ union ws a.add.words → subset (act acts k).add.words next ≡ true
adds_in acts k a ws next e en = ap (subset (act acts k).add.words) (en ∙ ap (λ (b : Action). union ws b.add.words) e) ∙ union_right ws (act acts k).add.words
