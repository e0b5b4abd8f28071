-- Lemmas on a file as a list of records.
use Rattle.std.proofs.Common.{◌≡◌, ℕ, zero, suc, ◌+◌, ◌*◌, ◌/◌, ◌<◌, ◌≤◌, List, [], ◌∷◌, map, length, get_or, take, drop, sym, refl, ap, ◌∙◌, arith, drop-drop, get_or-drop, get_or-take}
use Rattle.std.specs.List.{range_with_len}
use Rattle.std.specs.Simd.{first_chunks}
use Rattle.std.proofs.lemmas.List.{get_or-map, length-map}
use Rattle.std.proofs.lemmas.List.FromFn.{fill_by_all, get_or-map-range_with_len, length-map-range_with_len}
use Rattle.facts.specs.Checks.{or_else}
use Rattle.facts.specs.Field.{field_bytes, number, part, set_words, words}
use Rattle.strips.specs.declared.action.Action.{Action}
use Rattle.strips.specs.Records.{action, action_count, action_fault, action_of, actions, actions_fault, field, header_fault, record_bytes, records, records_fault, size_fault, task_fault}
use Rattle.strips.proofs.Faults.{first_same}

-- chunk i of a list
pub get_or-first_chunks : (n k i : ℕ) (xs : List ℕ) → i < k → get_or (first_chunks n k xs) i [] ≡ take n (drop (n * i) xs)
get_or-first_chunks n zero i xs l = absurd (omega arith)
get_or-first_chunks n (suc k) zero xs l = let e : n * 0 ≡ 0 = omega arith in ap (λ (m : ℕ). take n (drop m xs)) (sym e)
get_or-first_chunks n (suc k) (suc i) xs l =
    let e : n + n * i ≡ n * suc i = omega arith in
    get_or-first_chunks n k i (drop n xs) (omega arith) ∙ ap (take n) (drop-drop (n * i) n xs ∙ ap (λ (m : ℕ). drop m xs) e)

pub length-first_chunks : (n k : ℕ) (xs : List ℕ) → length (first_chunks n k xs) ≡ k
length-first_chunks n zero xs = refl
length-first_chunks n (suc k) xs = ap suc (length-first_chunks n k (drop n xs))

-- a number in a part of the bytes
number_in : (m n at a : ℕ) (bs : List ℕ) → a + m ≤ n → number m (part n bs at) a ≡ number m bs (at + a)
number_in zero n at a bs l = refl
number_in (suc m) n at a bs l =
    let low = get_or-take n (drop at bs) a 0 (omega arith) ∙ get_or-drop at bs a 0 in
    let high = number_in m n at (a + 1) bs (omega arith) in
    let z : at + (a + 1) ≡ at + a + 1 = omega arith in
    let e = high ∙ ap (number m bs) z in
    cc

words_in : (n m at a : ℕ) (bs : List ℕ) → a + 8 * n ≤ m → words n (part m bs at) a ≡ words n bs (at + a)
unfolding words
words_in n m at a bs l =
    let f : ℕ → ℕ = λ k. number 8 (part m bs at) (a + 8 * k) in
    fill_by_all (λ k. number 8 bs (at + a + 8 * k)) (map f (range_with_len 0 n)) n 0 (length-map-range_with_len f 0 n)
    (λ k h.
    let z : at + (a + 8 * k) ≡ at + a + 8 * k = omega arith in
    get_or-map-range_with_len f 0 n k k 0 h (omega arith) ∙ number_in 8 m at (a + 8 * k) bs (omega arith) ∙ ap (number 8 bs) z)

-- a field of a record that is cut out
field_in : (bs : List ℕ) (i j : ℕ) → j < 3 → field (part record_bytes bs (record_bytes * i)) 0 j ≡ field bs i j
unfolding field
field_in bs i j l =
    let z : record_bytes * i + (record_bytes * 0 + field_bytes * j) ≡ record_bytes * i + field_bytes * j = omega arith in
    words_in set_words record_bytes (record_bytes * i) (record_bytes * 0 + field_bytes * j) bs (omega arith) ∙ ap (words set_words bs) z

action_in : (bs : List ℕ) (i : ℕ) → action_of (part record_bytes bs (record_bytes * i)) ≡ action bs i
action_in bs i =
    let a = field_in bs i 0 (omega arith) in
    let b = field_in bs i 1 (omega arith) in
    let c = field_in bs i 2 (omega arith) in
    cc

-- records that are cut out of bytes
module _ (bs header : List ℕ) (rs : List (List ℕ)) (e : header ∷ rs ≡ records bs) where
  many : suc (length rs) ≡ length bs / record_bytes
  many = ap length e ∙ length-first_chunks record_bytes (length bs / record_bytes) bs

  record_at : (i : ℕ) → i < length bs / record_bytes → get_or (header ∷ rs) i [] ≡ part record_bytes bs (record_bytes * i)
  record_at i l = ap (λ (xs : List (List ℕ)). get_or xs i []) e ∙ get_or-first_chunks record_bytes (length bs / record_bytes) i bs l

  pub records_count : length rs ≡ action_count bs
  records_count = let n = many in omega arith

  pub header_fields : (j : ℕ) → j < 3 → field header 0 j ≡ field bs 0 j
  header_fields j l = let n = many in ap (λ (xs : List ℕ). field xs 0 j) (record_at 0 (omega arith)) ∙ field_in bs 0 j l

  record_action : (k : ℕ) → k < length rs → action_of (get_or rs k []) ≡ action bs (k + 1)
  record_action k l =
      let n = many in
      let z : suc k ≡ k + 1 = omega arith in
      ap action_of (record_at (suc k) (omega arith)) ∙ action_in bs (suc k) ∙ ap (action bs) z

  pub records_actions : map action_of rs ≡ actions bs
  records_actions =
      let f : ℕ → Action = λ k. action bs (k + 1) in
      fill_by_all f (map action_of rs) (action_count bs) (action_of []) (length-map rs action_of ∙ records_count)
      (λ k h. let l : k < length rs = omega (arith, records_count) in get_or-map action_of rs k [] (action_of []) l ∙ record_action k l)

  pub records_faults : (facts : List ℕ) → records_fault rs facts (length rs) ≡ actions_fault bs facts (action_count bs)
  records_faults facts =
      first_same _ _ (length rs) (λ k l. ap (λ (a : Action). action_fault a facts (k + 1)) (record_action k l))
      ∙ ap (actions_fault bs facts) records_count

  header_same : header_fault header ≡ header_fault bs
  unfolding header_fault
  header_same =
      let a = header_fields 0 (omega arith) in
      let b = header_fields 1 (omega arith) in
      let d = header_fields 2 (omega arith) in
      rw (a, b, d)

  -- the first fault of a file, by its records
  pub faults_in : task_fault bs ≡ or_else (size_fault bs) (or_else (header_fault header) (records_fault rs (field header 0 2) (length rs)))
  unfolding task_fault
  faults_in =
      let d = header_fields 2 (omega arith) in
      let r = records_faults (field bs 0 2) in
      rw (header_same, d, r)
