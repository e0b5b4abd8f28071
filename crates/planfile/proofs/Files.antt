-- Lemmas on the file of a list of actions.
use Rattle.std.proofs.Common.{◌≡◌, ℕ, zero, suc, ◌+◌, ◌-◌, ◌*◌, ◌/◌, ◌%◌, ◌<◌, ◌≤◌, List, [], ◌∷◌, ◌++◌, length, get_or, drop, sym, refl, ap, ◌∙◌, append_assoc, append-nil, arith, length-append, length-drop, length-take, get_or-drop, get_or-take, drop_at}
use Rattle.std.proofs.lemmas.List.FromFn.{fill_by_all}
use Rattle.std.proofs.lemmas.List.{ext_get_or, get_or-append_right}
use Rattle.facts.specs.Field.{bytes, field_bytes, part}
use Rattle.facts.proofs.Bytes.{length_bytes}
use Rattle.strips.specs.declared.action.Action.{Action}
use Rattle.strips.specs.Semantics.{State, Run, stop, step, result}
use Rattle.strips.specs.Sound.{act}
use Rattle.planfile.specs.File.{action_at, actions_of, entry, file, record_bytes, record_count, state_at}

-- a part is known by its elements
pub part_is : (n : ℕ) (bs : List ℕ) (at : ℕ) (xs : List ℕ) → at + n ≤ length bs → length xs ≡ n → ((k : ℕ) → k < n → get_or bs (at + k) 0 ≡ get_or xs k 0) → part n bs at ≡ xs
part_is n bs at xs l e h =
    let len : length (part n bs at) ≡ n = simp (length-take, length-drop) (omega arith) in
    ext_get_or 0 (part n bs at) xs (len ∙ sym e) (λ k m. get_or-take n (drop at bs) k 0 (omega arith) ∙ get_or-drop at bs k 0 ∙ h k (omega arith))

pub get_d_part : (n : ℕ) (bs : List ℕ) (at k : ℕ) → k < n → get_or (part n bs at) k 0 ≡ get_or bs (at + k) 0
get_d_part n bs at k l = get_or-take n (drop at bs) k 0 l ∙ get_or-drop at bs k 0

pub length_entry : (k : ℕ) (t : State) → length (entry k t) ≡ record_bytes
length_entry k t = let l = length_bytes field_bytes t in omega arith

pub length_file : (acts : List Action) (s : State) (ks : List ℕ) → length (file acts s ks) ≡ record_bytes * length ks
unfolding file
length_file acts s [] = refl
length_file acts s (k ∷ ks) =
    let t : State = result (act acts k) s in
    let a = length-append (entry k t) (file acts t ks) in
    let b = length_entry k t in
    let c = length_file acts t ks in
    omega arith

-- one action more
pub file_more : (acts : List Action) (s t : State) (ks : List ℕ) (k : ℕ) → Run acts s ks t → file acts s (ks ++ k ∷ []) ≡ file acts s ks ++ entry k (result (act acts k) t)
unfolding file
file_more acts s t ks k stop = append-nil _
file_more acts s t ks k (step {k = j} {ks = js} l p r) =
    let u : State = result (act acts j) s in
    ap (λ (bs : List ℕ). entry j u ++ bs) (file_more acts u t js k r) ∙ sym (append_assoc (entry j u) (file acts u js) (entry k (result (act acts k) t)))

-- an entry, byte by byte
entry_bytes : (bs : List ℕ) (at : ℕ) (t : State) → get_or bs at 0 < 256 → get_or bs (at + 1) 0 < 256 → part field_bytes bs (at + 2) ≡ bytes field_bytes t → (j : ℕ) → j < record_bytes → get_or bs (at + j) 0 ≡ get_or (entry (get_or bs at 0 + 256 * get_or bs (at + 1) 0) t) j 0
entry_bytes bs at t low high e zero l = let z : at + 0 ≡ at = omega arith in ap (λ (n : ℕ). get_or bs n 0) z ∙ omega arith
entry_bytes bs at t low high e (suc zero) l = omega arith
entry_bytes bs at t low high e (suc (suc j)) l =
    let z : at + suc (suc j) ≡ at + 2 + j = omega arith in
    ap (λ (n : ℕ). get_or bs n 0) z ∙ sym (get_d_part field_bytes bs (at + 2) j (omega arith)) ∙ ap (λ (xs : List ℕ). get_or xs j 0) e

-- bytes that have the number and the state of an entry are one
pub entry_is : (bs : List ℕ) (at : ℕ) (t : State) → at + record_bytes ≤ length bs → get_or bs at 0 < 256 → get_or bs (at + 1) 0 < 256 → part field_bytes bs (at + 2) ≡ bytes field_bytes t → part record_bytes bs at ≡ entry (get_or bs at 0 + 256 * get_or bs (at + 1) 0) t
entry_is bs at t l low high e = part_is record_bytes bs at _ l (length_entry (get_or bs at 0 + 256 * get_or bs (at + 1) 0) t) (entry_bytes bs at t low high e)

-- the action number of an entry that stands at `at`
entry_number : (bs : List ℕ) (at k : ℕ) (t : State) → part record_bytes bs at ≡ entry k t → get_or bs at 0 + 256 * get_or bs (at + 1) 0 ≡ k
entry_number bs at k t e =
    let a : get_or bs (at + 0) 0 ≡ k % 256 = sym (get_d_part 34 bs at 0 (omega arith)) ∙ ap (λ (xs : List ℕ). get_or xs 0 0) e in
    let b : get_or bs (at + 1) 0 ≡ k / 256 = sym (get_d_part 34 bs at 1 (omega arith)) ∙ ap (λ (xs : List ℕ). get_or xs 1 0) e in
    let z : get_or bs (at + 0) 0 ≡ get_or bs at 0 = ap (λ (n : ℕ). get_or bs n 0) (let y : at + 0 ≡ at = omega arith in y) in
    omega arith

-- its state
entry_state : (bs : List ℕ) (at k : ℕ) (t : State) → at + 34 ≤ length bs → part record_bytes bs at ≡ entry k t → part field_bytes bs (at + 2) ≡ bytes field_bytes t
entry_state bs at k t l e =
    part_is 32 bs (at + 2) (bytes field_bytes t) (omega arith) (length_bytes field_bytes t)
    (λ j m.
    let z : at + 2 + j ≡ at + suc (suc j) = omega arith in
    ap (λ (n : ℕ). get_or bs n 0) z ∙ sym (get_d_part 34 bs at (suc (suc j)) (omega arith)) ∙ ap (λ (xs : List ℕ). get_or xs (suc (suc j)) 0) e)

pub entry_back : (bs : List ℕ) (i k : ℕ) (t : State) → record_bytes * i + record_bytes ≤ length bs → part record_bytes bs (record_bytes * i) ≡ entry k t → (action_at bs i ≡ k) × (state_at bs i ≡ bytes field_bytes t)
entry_back bs i k t l e = (entry_number bs (34 * i) k t e, entry_state bs (34 * i) k t l e)

-- a file fixes its list of actions
pub file_fixes : (acts : List Action) (s : State) (ks js : List ℕ) → length ks ≡ length js → file acts s ks ≡ file acts s js → ks ≡ js
unfolding file
file_fixes acts s [] [] l e = refl
file_fixes acts s [] (j ∷ js) l e = absurd (omega arith)
file_fixes acts s (k ∷ ks) [] l e = absurd (omega arith)
file_fixes acts s (k ∷ ks) (j ∷ js) l e =
    let low : k % 256 ≡ j % 256 = ap (λ (xs : List ℕ). get_or xs 0 0) e in
    let high : k / 256 ≡ j / 256 = ap (λ (xs : List ℕ). get_or xs 1 0) e in
    let same : k ≡ j = omega arith in
    let t : State = result (act acts k) s in
    let rest : file acts t ks ≡ file acts (result (act acts j) s) js =
    sym (drop_at (entry k t) (file acts t ks) record_bytes (length_entry k t))
    ∙ ap (drop record_bytes) e
    ∙ drop_at (entry j (result (act acts j) s)) (file acts (result (act acts j) s) js) record_bytes (length_entry j (result (act acts j) s)) in
    let moved : file acts t ks ≡ file acts t js = rest ∙ ap (λ (i : ℕ). file acts (result (act acts i) s) js) (sym same) in
    let tails : ks ≡ js = file_fixes acts t ks js (omega arith) moved in
    cc

-- the action numbers of a file
file_number : (acts : List Action) (s : State) (ks : List ℕ) (i : ℕ) → i < length ks → action_at (file acts s ks) i ≡ get_or ks i 0
unfolding file
file_number acts s [] i l = absurd (omega arith)
file_number acts s (k ∷ ks) zero l = omega arith
file_number acts s (k ∷ ks) (suc i) l =
    let t : State = result (act acts k) s in
    let n = length_entry k t in
    let a = get_or-append_right (entry k t) (file acts t ks) record_bytes (record_bytes * suc i) 0 n (omega arith) in
    let b = get_or-append_right (entry k t) (file acts t ks) record_bytes (record_bytes * suc i + 1) 0 n (omega arith) in
    let p : record_bytes * suc i - record_bytes ≡ record_bytes * i = omega arith in
    let q : record_bytes * suc i + 1 - record_bytes ≡ record_bytes * i + 1 = omega arith in
    let c = a ∙ ap (λ (m : ℕ). get_or (file acts t ks) m 0) p in
    let d = b ∙ ap (λ (m : ℕ). get_or (file acts t ks) m 0) q in
    let ih = file_number acts t ks i (omega arith) in
    omega arith

pub file_count : (acts : List Action) (s : State) (ks : List ℕ) → record_count (file acts s ks) ≡ length ks
file_count acts s ks = let l = length_file acts s ks in omega arith

pub file_actions : (acts : List Action) (s : State) (ks : List ℕ) → actions_of (file acts s ks) ≡ ks
file_actions acts s ks =
    let n = file_count acts s ks in
    sym (fill_by_all (action_at (file acts s ks)) ks (record_count (file acts s ks)) 0 (sym n) (λ k l. sym (file_number acts s ks k (omega arith))))
