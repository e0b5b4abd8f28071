-- Lemmas on the faults of a task file.
use Rattle.std.proofs.Common.{◌≡◌, ℕ, zero, suc, ◌+◌, ◌*◌, ◌/◌, ◌%◌, ◌^◌, ◌<◌, ◌≤◌, Bool, true, List, [], map, length, get_or, Some, None, Option, sym, refl, ap, ◌∙◌, ⊎_elim, arith, below_more}
use Rattle.std.proofs.lemmas.Bool.{cases_lt}
use Rattle.facts.proofs.Bytes.{has_words, words_small}
use Rattle.facts.proofs.Sets.{length_words}
use Rattle.std.proofs.ByRecursion.{All-get_or}
use Rattle.std.proofs.lemmas.List.{get_or-map, get_or_past, length-map}
use Rattle.facts.specs.Checks.{or_else}
use Rattle.facts.specs.Field.{field_bytes, set_words}
use Rattle.facts.specs.Words.{subset}
use Rattle.strips.specs.declared.action.Action.{Action}
use Rattle.strips.specs.declared.fault.Fault.{Fault}
use Rattle.strips.specs.Laws.{FaultlessIsTask, TaskIsFaultless, FieldBits}
use Rattle.strips.specs.Records.{action, action_count, action_fault, action_of, actions_fault, field, first_fault, header_fault, record_bytes, records_fault, size_fault, task_fault}
use Rattle.strips.specs.Sound.{act, AllWithin, AllClashFree, within, is_clash_free}

or_none : (o p : Option Fault) → or_else o p ≡ None → (o ≡ None) × (p ≡ None)
or_none None p e = (refl, e)
or_none (Some f) p e = absurd (let z : ◌≡◌ {A = ℕ} 0 1 = cc in omega arith)

-- checks in order, of which the first that fails is told
pub first_stop : (check : ℕ → Option Fault) (f : Fault) (n k : ℕ) → k < n → first_fault check k ≡ None → check k ≡ Some f → first_fault check n ≡ Some f
first_stop check f zero k l p q = absurd (omega arith)
first_stop check f (suc n) k l p q =
    ⊎_elim
    (λ h. ap (λ (o : Option Fault). or_else o (check n)) (first_stop check f n k h p q))
    (λ h.
    let e : k ≡ n = omega arith in
    let a = ap (first_fault check) (sym e) ∙ p in
    let b = ap check (sym e) ∙ q in
    ap (λ (o : Option Fault). or_else o (check n)) a ∙ b)
    (cases_lt k n)

pub first_none : (check : ℕ → Option Fault) (n : ℕ) → first_fault check n ≡ None → (k : ℕ) → k < n → check k ≡ None
first_none check zero e k l = absurd (omega arith)
first_none check (suc n) e k l =
    let both = or_none (first_fault check n) (check n) e in
    below_more (λ k. check k ≡ None) n (first_none check n both.0) both.1 k (omega arith)

first_all : (check : ℕ → Option Fault) (n : ℕ) → ((k : ℕ) → k < n → check k ≡ None) → first_fault check n ≡ None
first_all check zero h = refl
first_all check (suc n) h = ap (λ (o : Option Fault). or_else o (check n)) (first_all check n (λ k l. h k (omega arith))) ∙ h n (omega arith)

pub first_same : (f g : ℕ → Option Fault) (n : ℕ) → ((k : ℕ) → k < n → f k ≡ g k) → first_fault f n ≡ first_fault g n
first_same f g zero h = refl
first_same f g (suc n) h =
    let a = first_same f g n (λ k l. h k (omega arith)) in
    let b = h n (omega arith) in
    cc

pub action_within : (a : Action) (facts : List ℕ) (i : ℕ) → action_fault a facts i ≡ None → within facts a ≡ true
unfolding action_fault within
action_within a facts i e = grind arith

pub action_clash_free : (a : Action) (facts : List ℕ) (i : ℕ) → action_fault a facts i ≡ None → is_clash_free a ≡ true
unfolding action_fault
action_clash_free a facts i e = grind arith

action_none : (a : Action) (facts : List ℕ) (i : ℕ) → within facts a ≡ true → is_clash_free a ≡ true → action_fault a facts i ≡ None
unfolding action_fault within
action_none a facts i p q = grind arith

-- what holds of every record's action holds of every action of the list
each_action : (p : Action → Bool) (rs : List (List ℕ)) → ((k : ℕ) → k < length rs → p (action_of (get_or rs k [])) ≡ true) → (k : ℕ) → k < length (map action_of rs) → p (act (map action_of rs) k) ≡ true
each_action p rs h k l =
    let m : k < length rs = omega (arith, length-map rs action_of) in
    ap p (get_or-map action_of rs k [] _ m) ∙ h k m

pub all_within : (rs : List (List ℕ)) (facts : List ℕ) → records_fault rs facts (length rs) ≡ None → AllWithin facts (map action_of rs)
all_within rs facts e = each_action (within facts) rs (λ k m. action_within (action_of (get_or rs k [])) facts (k + 1) (first_none _ (length rs) e k m))

pub all_clash_free : (rs : List (List ℕ)) (facts : List ℕ) → records_fault rs facts (length rs) ≡ None → AllClashFree (map action_of rs)
all_clash_free rs facts e = each_action is_clash_free rs (λ k m. action_clash_free (action_of (get_or rs k [])) facts (k + 1) (first_none _ (length rs) e k m))

pub size_none : (bs : List ℕ) → size_fault bs ≡ None → (0 < length bs) × (length bs % 96 ≡ 0) × (length bs / 96 ≤ 513)
unfolding size_fault
size_none bs e = (grind arith, grind arith, grind arith)

pub header_none : (bs : List ℕ) → header_fault bs ≡ None → (subset (field bs 0 0) (field bs 0 2) ≡ true) × (subset (field bs 0 1) (field bs 0 2) ≡ true)
unfolding header_fault
header_none bs e = (grind arith, grind arith)

-- a fault of the size is told before all others
pub size_first : (bs : List ℕ) (f : Fault) → size_fault bs ≡ Some f → task_fault bs ≡ Some f
unfolding task_fault
size_first bs f e = rw e

task_none : (bs : List ℕ) → task_fault bs ≡ None → (size_fault bs ≡ None) × (header_fault bs ≡ None) × (actions_fault bs (field bs 0 2) (action_count bs) ≡ None)
unfolding task_fault
task_none bs e =
    let a = or_none _ _ e in
    let b = or_none _ _ a.1 in
    (a.0, b.0, b.1)

pub faultless_is_task : FaultlessIsTask
faultless_is_task bs e =
    let t = task_none bs e in
    let n = size_none bs t.0 in
    let h = header_none bs t.1 in
    record {
      some = n.0;
      whole = n.1;
      few = n.2;
      initial_in = h.0;
      goal_in = h.1;
      actions_in = λ k l. action_within (action bs (k + 1)) (field bs 0 2) (k + 1) (first_none _ (action_count bs) t.2 k l);
      is_clash_free = λ k l. action_clash_free (action bs (k + 1)) (field bs 0 2) (k + 1) (first_none _ (action_count bs) t.2 k l);
    }

checks_pass : (bs : List ℕ) → 0 < length bs → length bs % 96 ≡ 0 → length bs / 96 ≤ 513 → subset (field bs 0 0) (field bs 0 2) ≡ true → subset (field bs 0 1) (field bs 0 2) ≡ true → actions_fault bs (field bs 0 2) (action_count bs) ≡ None → task_fault bs ≡ None
unfolding task_fault size_fault header_fault
checks_pass bs a b c d e f = grind arith

pub task_is_faultless : TaskIsFaultless
task_is_faultless bs t =
    checks_pass bs t.some t.whole t.few t.initial_in t.goal_in
    (first_all _ (action_count bs) (λ k l. action_none (action bs (k + 1)) (field bs 0 2) (k + 1) (t.actions_in k l) (t.is_clash_free k l)))

pub field_bits : FieldBits
unfolding field
field_bits bs i j f small l = has_words set_words bs (record_bytes * i + field_bytes * j) f small l

-- a field has the words of a set, of 64 bits each
pub field_wide : (bs : List ℕ) (i j : ℕ) → length (field bs i j) ≡ set_words
unfolding field
field_wide bs i j = length_words set_words bs (record_bytes * i + field_bytes * j)

pub field_small : (bs : List ℕ) (i j : ℕ) → ((k : ℕ) → get_or bs k 0 < 256) → (k : ℕ) → get_or (field bs i j) k 0 < 2 ^ 64
unfolding field
field_small bs i j small k =
    ⊎_elim
    (λ l. All-get_or (λ w. w < 2 ^ 64) (field bs i j) k 0 l (words_small set_words bs (record_bytes * i + field_bytes * j) small))
    (λ l. let e = get_or_past (field bs i j) k 0 l in omega arith)
    (cases_lt k (length (field bs i j)))
