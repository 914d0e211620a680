-- What an entry of audio makes of the tasks of a stage.
use Rattle.std.proofs.Common.{◌≡◌, ℕ, zero, suc, ◌+◌, ◌-◌, ◌<◌, ◌≤◌, Bool, true, false, not, ◌||◌, cond, List, [], ◌∷◌, ◌++◌, length, map, drop, get_or, All, Option, Some, refl, sym, ap, ◌∙◌, arith, append_assoc}
use Rattle.std.specs.List.{slice_get, position_or_len, range_with_len}
use Rattle.std.specs.Option.{option_map_or}
use Rattle.std.proofs.lemmas.Bool.{not-false}
use Rattle.std.proofs.lemmas.List.{drop-drop, drop_more, get_or-drop, length-drop, drop_all}
use Rattle.std.proofs.lemmas.List.Elements.{All-head, All-tail, All-drop, All-get_or, All-weaker}
use Rattle.std.proofs.lemmas.List.Sums.{prefix_len_stops}
use Rattle.std.proofs.lemmas.Option.{slice_get-get_or}
use Rattle.step_law.specs.declared.actor.Actor.TheVariants.{Audio}
use Rattle.step_law.specs.declared.call.Call.TheVariants.{Run}
use Rattle.step_law.specs.declared.entry.Entry.{Entry}
use Rattle.step_law.specs.declared.ring.Ring.TheVariants.{AudioToControl}
use Rattle.step_law.specs.Entry.{block_of, done_of, begin_of, stop_of, send_of, full_of}
use Rattle.record_law.specs.declared.shape.Shape.{Shape}
use Rattle.record_law.specs.Audio as law
use Rattle.record_law.specs.Entries.{same_entry}
use Rattle.record_law.specs.Message.{Message as Meant, History}
use Rattle.record_law.specs.Message.Message.{nothing, part}
use Rattle.record_law.specs.Task.{Task, only_if}
use Rattle.record_law.specs.Task.Task.{one, look_messages, return_front, running}
use Rattle.record_law.specs.Protocol.{Follows, then_left, follow}
use Rattle.audio_order.specs.declared.fronts.Place.{Place}
use Rattle.audio_order.specs.declared.fronts.Place.TheVariants.{Here}
use Rattle.audio_order.specs.declared.audio_stage.AudioStage.{AudioStage}
use Rattle.audio_order.specs.declared.audio_stage.AudioStep.{AudioStep}
use Rattle.record_terms.specs.declared.message.Message.{Message}
use Rattle.record_terms.specs.Message.{meaning_of}
use Rattle.audio_order.specs.Audio.{blocks_left, runs_left, fronts_left, audio_left, audio_follows, audio_goes}
use Rattle.audio_order.specs.Fronts.{place_of, is_here, is_wanted, has_front, AreFronts}
use Rattle.order_base.proofs.Follow.{made, only_made, not_due, is_due}

-- ---- lists of tasks

pub times_more : (n : ℕ) (tasks : List Task) → 0 < n → law.times n tasks ≡ tasks ++ law.times (n - 1) tasks
times_more zero tasks less = absurd (omega (arith, less))
times_more (suc n) tasks less = let same : n ≡ suc n - 1 = omega arith in ap (λ k. tasks ++ law.times k tasks) same

regroup : (a b d : Task) (fronts runs rest stop : List Task)
    → ((((a ∷ b ∷ []) ++ fronts ++ runs ++ (d ∷ [])) ++ rest) ++ stop) ≡ a ∷ b ∷ (fronts ++ (runs ++ d ∷ (rest ++ stop)))
regroup a b d fronts runs rest stop = simp append_assoc

pub blocks_more : (s : Shape) (block : ℕ) → block < s.blocks → blocks_left s block ≡ one (block_of block) nothing ∷ look_messages ∷ fronts_left s block 0
blocks_more s block less =
    let stop : List Task = one (stop_of Audio) nothing ∷ [] in
    let more : s.blocks - block ≡ suc (s.blocks - (block + 1)) = omega (arith, less) in
    let next : suc block ≡ block + 1 = omega arith in
    let all : length s.insts ≡ length s.insts - 0 = omega arith in
    ap (λ n. law.cycles s block n ++ stop) more
    ∙ ap (λ b. (law.cycle s block ++ law.cycles s b (s.blocks - (block + 1))) ++ stop) next
    ∙ regroup (one (block_of block) nothing) look_messages (one (done_of block) nothing) (map return_front (range_with_len 0 (length s.insts))) (map running s.plan)
    (law.cycles s (block + 1) (s.blocks - (block + 1))) stop
    ∙ ap (λ n. one (block_of block) nothing ∷ look_messages ∷ (map return_front (range_with_len 0 n) ++ runs_left s block 0)) all

-- what a list has after its first n
get_drop : {X : Type 0} (n : ℕ) (xs : List X) (k : ℕ) → slice_get (drop n xs) k ≡ slice_get xs (n + k)
get_drop zero xs k = let same : k ≡ 0 + k = omega arith in ap (slice_get xs) same
get_drop (suc n) [] k = refl
get_drop (suc n) (x ∷ xs) k = let same : suc (n + k) ≡ suc n + k = omega arith in get_drop n xs k ∙ ap (slice_get (x ∷ xs)) same

-- ---- answers

-- the entry that has to come, and the stage after it
pub wanted : (s : Shape) (b : Bool) (about : Message) (stage : AudioStage) (rest : Option Follows) (answer : Option AudioStep)
    → answer ≡ audio_goes b about stage → then_left (only_if b (meaning_of about) []) (audio_left s stage) rest ≡ audio_follows s answer
wanted s true about stage rest answer is = ap (audio_follows s) (sym is)
wanted s false about stage rest answer is = ap (audio_follows s) (sym is)

-- the same, where no more tasks wait
pub made_goes : (s : Shape) (b : Bool) (about : Message) (stage : AudioStage) (answer : Option AudioStep)
    → answer ≡ audio_goes b about stage → made b (meaning_of about) (audio_left s stage) ≡ audio_follows s answer
made_goes s true about stage answer is = ap (audio_follows s) (sym is)
made_goes s false about stage answer is = ap (audio_follows s) (sym is)

-- ---- what passes

module _ (s : Shape) (h : History) (taken : Meant) (e : Entry) where
  abbrev Of : List Task → Option Follows
  Of tasks = follow s h taken tasks e

  -- the instances whose fronts aren't here pass
  pub skip_runs : (p : ℕ → Bool) (xs : List ℕ) (tail : List Task) → All (λ inst. p inst ≡ law.is_here (law.front_place inst h)) xs
      → Of (map running xs ++ tail) ≡ Of (map running (drop (position_or_len p xs) xs) ++ tail)
  skip_runs p [] tail all = refl
  skip_runs p (x ∷ xs) tail all =
      by (skip_runs p xs tail (All-tail (λ inst. p inst ≡ law.is_here (law.front_place inst h)) x xs all)) (p x) refl
    where
      first : p x ≡ law.is_here (law.front_place x h)
      first = All-head (λ inst. p inst ≡ law.is_here (law.front_place inst h)) x xs all

      by : Of (map running xs ++ tail) ≡ Of (map running (drop (position_or_len p xs) xs) ++ tail)
          → (b : Bool) → p x ≡ b → Of (map running (x ∷ xs) ++ tail) ≡ Of (map running (drop (cond (not b) (1 + position_or_len p xs) 0) (x ∷ xs)) ++ tail)
      by later true is = refl
      by later false is =
          let next : suc (position_or_len p xs) ≡ 1 + position_or_len p xs = omega arith in
          not_due (law.is_here (law.front_place x h)) (only_if (same_entry (begin_of Audio Run x) e) nothing (law.run_tasks s x)) (map running xs ++ tail)
          (Of (map running xs ++ tail)) (sym first ∙ is)
          ∙ later
          ∙ ap (λ n. Of (map running (drop n (x ∷ xs)) ++ tail)) next

  -- the fronts that aren't wanted pass
  pub skip_fronts : (xs : List Place) (i : ℕ) (tail : List Task) → ((k : ℕ) (place : Place) → slice_get xs k ≡ Some place → place_of place ≡ law.front_place (i + k) h)
      → Of (map return_front (range_with_len i (length xs)) ++ tail)
      ≡ Of (map return_front (range_with_len (i + position_or_len is_wanted xs) (length xs - position_or_len is_wanted xs)) ++ tail)
  skip_fronts [] i tail are = let same : i ≡ i + 0 = omega arith in ap (λ k. Of (map return_front (range_with_len k 0) ++ tail)) same
  skip_fronts (x ∷ xs) i tail are =
      let here : place_of x ≡ law.front_place i h = let same : i + 0 ≡ i = omega arith in are 0 x refl ∙ ap (λ k. law.front_place k h) same in
      by here
      (skip_fronts xs (i + 1) tail (λ k place at. let same : i + suc k ≡ (i + 1) + k = omega arith in are (suc k) place at ∙ ap (λ j. law.front_place j h) same))
      (is_wanted x) refl
    where
      by : place_of x ≡ law.front_place i h
          → Of (map return_front (range_with_len (i + 1) (length xs)) ++ tail)
          ≡ Of (map return_front (range_with_len ((i + 1) + position_or_len is_wanted xs) (length xs - position_or_len is_wanted xs)) ++ tail)
          → (b : Bool) → is_wanted x ≡ b
          → Of (map return_front (range_with_len i (suc (length xs))) ++ tail)
          ≡ Of (map return_front (range_with_len (i + cond (not b) (1 + position_or_len is_wanted xs) 0) (suc (length xs) - cond (not b) (1 + position_or_len is_wanted xs) 0)) ++ tail)
      by here later true is =
          let same : i ≡ i + 0 = omega arith in
          let count : suc (length xs) ≡ suc (length xs) - 0 = omega arith in
          ap (λ k. Of (map return_front (range_with_len k (suc (length xs))) ++ tail)) same
          ∙ ap (λ n. Of (map return_front (range_with_len (i + 0) n) ++ tail)) count
      by here later false is =
          let n : ℕ = position_or_len is_wanted xs in
          let same : (i + 1) + n ≡ i + (1 + n) = omega arith in
          let count : length xs - n ≡ suc (length xs) - (1 + n) = omega arith in
          not_due (law.is_wanted (law.front_place i h)) (only_if (same_entry (send_of Audio AudioToControl) e || same_entry (full_of Audio AudioToControl) e) (part i) [])
          (map return_front (range_with_len (i + 1) (length xs)) ++ tail) (Of (map return_front (range_with_len (i + 1) (length xs)) ++ tail)) (ap law.is_wanted (sym here) ∙ is)
          ∙ later
          ∙ ap (λ k. Of (map return_front (range_with_len k (length xs - n)) ++ tail)) same
          ∙ ap (λ m. Of (map return_front (range_with_len (i + (1 + n)) m) ++ tail)) count

  -- ---- the next instance

  present : (fronts : List Place) (xs : List ℕ) → AreFronts fronts h → length fronts ≡ length s.insts → All (λ inst. inst < length s.insts) xs
      → All (λ inst. has_front fronts inst ≡ law.is_here (law.front_place inst h)) xs
  present fronts xs are count all =
      All-weaker (λ (inst : ℕ). inst < length s.insts) (λ (inst : ℕ). has_front fronts inst ≡ law.is_here (law.front_place inst h))
      (λ inst less.
      let at : slice_get fronts inst ≡ Some (get_or fronts inst Here) = slice_get-get_or fronts inst Here (omega (arith, less, count)) in
      ap (λ o. option_map_or is_here o false) at ∙ ap law.is_here (are inst (get_or fronts inst Here) at))
      xs all

  runs_from : (fronts : List Place) (block from n : ℕ) → AreFronts fronts h → length fronts ≡ length s.insts → All (λ inst. inst < length s.insts) s.plan
      → n ≡ position_or_len (has_front fronts) (drop from s.plan) → Of (runs_left s block from) ≡ Of (runs_left s block (from + n))
  runs_from fronts block from n are count plan is_n =
      let tail : List Task = one (done_of block) nothing ∷ blocks_left s (block + 1) in
      skip_runs (has_front fronts) (drop from s.plan) tail (present fronts (drop from s.plan) are count (All-drop (λ inst. inst < length s.insts) from s.plan plan))
      ∙ ap (λ m. Of (map running (drop m (drop from s.plan)) ++ tail)) (sym is_n)
      ∙ ap (λ xs. Of (map running xs ++ tail)) (drop-drop n from s.plan)

  pub run_next : (fronts : List Place) (block from n inst : ℕ) → AreFronts fronts h → length fronts ≡ length s.insts → All (λ inst. inst < length s.insts) s.plan
      → n ≡ position_or_len (has_front fronts) (drop from s.plan) → from + n < length s.plan → inst ≡ get_or s.plan (from + n) 0
      → Of (runs_left s block from) ≡ Of (one (begin_of Audio Run inst) nothing ∷ law.run_tasks s inst ++ runs_left s block (from + n + 1))
  run_next fronts block from n inst are count plan is_n less is =
      let tail : List Task = one (done_of block) nothing ∷ blocks_left s (block + 1) in
      let xs : List ℕ = drop from s.plan in
      let inside : n < length xs = omega (arith, length-drop from s.plan, less) in
      let same : get_or xs n 0 ≡ inst = get_or-drop from s.plan n 0 ∙ sym is in
      let stops : not (has_front fronts (get_or xs (position_or_len (has_front fronts) xs) 0)) ≡ false =
      prefix_len_stops (λ x. not (has_front fronts x)) xs 0 (omega (arith, inside, is_n)) in
      let here : has_front fronts inst ≡ true =
      ap (has_front fronts) (sym same) ∙ not-false (has_front fronts (get_or xs n 0)) (ap (λ m. not (has_front fronts (get_or xs m 0))) is_n ∙ stops) in
      let there : has_front fronts inst ≡ law.is_here (law.front_place inst h) =
      ap (has_front fronts) (sym same)
      ∙ All-get_or (λ x. has_front fronts x ≡ law.is_here (law.front_place x h)) xs n 0 inside
      (present fronts xs are count (All-drop (λ x. x < length s.insts) from s.plan plan))
      ∙ ap (λ x. law.is_here (law.front_place x h)) same in
      let tasks : List Task = map running (drop (from + n + 1) s.plan) ++ tail in
      runs_from fronts block from n are count plan is_n
      ∙ ap (λ ys. Of (map running ys ++ tail)) (drop_more s.plan (from + n) 0 less)
      ∙ ap (λ x. Of (map running (x ∷ drop (from + n + 1) s.plan) ++ tail)) (sym is)
      ∙ is_due (law.is_here (law.front_place inst h)) (only_if (same_entry (begin_of Audio Run inst) e) nothing (law.run_tasks s inst)) tasks (Of tasks) (sym there ∙ here)
      ∙ only_made (same_entry (begin_of Audio Run inst) e) nothing (law.run_tasks s inst) tasks (Of tasks)
      ∙ sym (only_made (same_entry (begin_of Audio Run inst) e) nothing [] (law.run_tasks s inst ++ tasks) (Of (law.run_tasks s inst ++ tasks)))

  pub run_none : (fronts : List Place) (block from n : ℕ) → AreFronts fronts h → length fronts ≡ length s.insts → All (λ inst. inst < length s.insts) s.plan
      → n ≡ position_or_len (has_front fronts) (drop from s.plan) → length s.plan ≤ from + n
      → Of (runs_left s block from) ≡ Of (one (done_of block) nothing ∷ blocks_left s (block + 1))
  run_none fronts block from n are count plan is_n past =
      let tail : List Task = one (done_of block) nothing ∷ blocks_left s (block + 1) in
      runs_from fronts block from n are count plan is_n
      ∙ ap (λ ys. Of (map running ys ++ tail)) (drop_all (from + n) s.plan past)

  -- ---- the next front that is wanted

  sends_from : (fronts : List Place) (block from n : ℕ) → AreFronts fronts h → length fronts ≡ length s.insts
      → n ≡ position_or_len is_wanted (drop from fronts) → Of (fronts_left s block from) ≡ Of (fronts_left s block (from + n))
  sends_from fronts block from n are count is_n =
      let xs : List Place = drop from fronts in
      let tail : List Task = runs_left s block 0 in
      let all : length s.insts - from ≡ length xs = omega (arith, length-drop from fronts, count) in
      let less : length xs - n ≡ length s.insts - (from + n) = omega (arith, length-drop from fronts, count) in
      ap (λ m. Of (map return_front (range_with_len from m) ++ tail)) all
      ∙ skip_fronts xs from tail (λ k place at. are (from + k) place (sym (get_drop from fronts k) ∙ at))
      ∙ ap (λ m. Of (map return_front (range_with_len (from + m) (length xs - m)) ++ tail)) (sym is_n)
      ∙ ap (λ m. Of (map return_front (range_with_len (from + n) m) ++ tail)) less

  pub send_next : (fronts : List Place) (block from n : ℕ) → AreFronts fronts h → length fronts ≡ length s.insts
      → n ≡ position_or_len is_wanted (drop from fronts) → from + n < length s.insts
      → Of (fronts_left s block from) ≡ made (same_entry (send_of Audio AudioToControl) e || same_entry (full_of Audio AudioToControl) e) (part (from + n)) (fronts_left s block (from + n + 1))
  send_next fronts block from n are count is_n less =
      let xs : List Place = drop from fronts in
      let inst : ℕ = from + n in
      let inside : n < length xs = omega (arith, length-drop from fronts, less, count) in
      let place : Place = get_or xs n Here in
      let stops : not (is_wanted (get_or xs (position_or_len is_wanted xs) Here)) ≡ false = prefix_len_stops (λ x. not (is_wanted x)) xs Here (omega (arith, inside, is_n)) in
      let wanted : is_wanted place ≡ true = not-false (is_wanted place) (ap (λ m. not (is_wanted (get_or xs m Here))) is_n ∙ stops) in
      let at : place_of place ≡ law.front_place inst h = are inst place (sym (get_drop from fronts n) ∙ slice_get-get_or xs n Here inside) in
      let more : length s.insts - inst ≡ suc (length s.insts - (inst + 1)) = omega (arith, less) in
      let sent : Bool = same_entry (send_of Audio AudioToControl) e || same_entry (full_of Audio AudioToControl) e in
      let tasks : List Task = fronts_left s block (inst + 1) in
      sends_from fronts block from n are count is_n
      ∙ ap (λ m. Of (map return_front (range_with_len inst m) ++ runs_left s block 0)) more
      ∙ is_due (law.is_wanted (law.front_place inst h)) (only_if sent (part inst) []) tasks (Of tasks) (ap law.is_wanted (sym at) ∙ wanted)
      ∙ only_made sent (part inst) [] tasks (Of tasks)

  pub send_none : (fronts : List Place) (block from n : ℕ) → AreFronts fronts h → length fronts ≡ length s.insts
      → n ≡ position_or_len is_wanted (drop from fronts) → length s.insts ≤ from + n → Of (fronts_left s block from) ≡ Of (runs_left s block 0)
  send_none fronts block from n are count is_n past =
      let none : length s.insts - (from + n) ≡ 0 = omega (arith, past) in
      sends_from fronts block from n are count is_n ∙ ap (λ m. Of (map return_front (range_with_len (from + n) m) ++ runs_left s block 0)) none
