-- Audio ends its blocks in turn: the worths of its tasks, in order, are those of its steps and then those that are left.
use Rattle.std.proofs.Common.{◌≡◌, ℕ, zero, suc, ◌+◌, ◌-◌, nat_lt, Bool, true, false, ◌&&◌, ◌||◌, List, [], ◌∷◌, ◌++◌, map, length, drop, filter_map, Option, Some, None, refl, sym, ap, subst, ◌∙◌, ⊎_elim, arith, true≢false, is_some, eqb-true}
use Rattle.std.specs.List.{cons_option, list_all, range_with_len}
use Rattle.std.proofs.lemmas.Bool.{and_parts, and_from, or_cases, cond-true, cond-false, cases_Bool}
use Rattle.step_law.specs.declared.actor.Actor.{Actor}
use Rattle.step_law.specs.declared.actor.Actor.TheVariants.{Audio}
use Rattle.step_law.specs.declared.call.Call.TheVariants.{Run}
use Rattle.step_law.specs.declared.entry.Entry.{Entry}
use Rattle.step_law.specs.declared.ring.Ring.{Ring}
use Rattle.step_law.specs.declared.ring.Ring.TheVariants.{ControlToAudio, AudioToControl, Responses}
use Rattle.step_law.specs.Actor.{actor_at}
use Rattle.step_law.specs.Entry.{take_of, send_of, full_of, long_of, look_of, begin_of, block_of, done_of, stop_of}
use Rattle.record_law.specs.declared.shape.Shape.{Shape}
use Rattle.record_law.specs.Entries.{is_by, same_entry}
use Rattle.record_law.specs.Message.{Message, Step, History}
use Rattle.record_law.specs.Message.Message.{nothing, body, notice, part}
use Rattle.record_law.specs.History.{own, progress_of, progress_in}
use Rattle.record_law.specs.Shape.{insts_of, works}
use Rattle.record_law.specs.Task.{Task, Move, only_if, may_be, where_due}
use Rattle.record_law.specs.Task.Task.{one, take_from, attempts, look_messages, return_front, running, notices, look_responses, serving, local_jobs, acting, closing, leftovers}
use Rattle.record_law.specs.Task.Move.{refuses, passes, goes}
use Rattle.record_law.specs.Audio.{cycle, cycles, audio_tasks, front_place, is_here, is_wanted, times, is_attempt, responding, run_tasks, delivery}
use Rattle.record_law.specs.Protocol.{Follows, move, then_left, follow, left_in, left_after, brought, follow_in}
use Rattle.record_law.specs.Waits.{may_come}
use Rattle.record_law.proofs.Same.{same_means}
use Rattle.record_counts.specs.Kept.{IsKept}
use Rattle.record_counts.specs.Looks.{countdown, EndsInTurn}
use Rattle.record_counts.proofs.KeptLaws.{next_kept}

-- a task of audio
abbrev is_audios : Task → Bool
is_audios (one it message) = true
is_audios (take_from actor ring) = true
is_audios (attempts actor ring most) = true
is_audios look_messages = true
is_audios (return_front inst) = true
is_audios (running inst) = true
is_audios (notices inst most) = true
is_audios (look_responses inst) = true
is_audios task = false

-- what a task makes known of the progress, and what tasks do
abbrev worth_of : ℕ → Task → Option ℕ
worth_of blocks (one it message) = progress_of blocks it.kind it.a
worth_of blocks task = None

abbrev worths : ℕ → List Task → List ℕ
worths blocks tasks = filter_map (worth_of blocks) tasks

-- tasks of audio without a worth
abbrev is_plain : ℕ → List Task → Type 0
is_plain blocks tasks = (list_all is_audios tasks ≡ true) × (worths blocks tasks ≡ [])

worths_append : (blocks : ℕ) (first second : List Task) → worths blocks (first ++ second) ≡ worths blocks first ++ worths blocks second
worths_append blocks [] second = refl
worths_append blocks (x ∷ first) second = by (worth_of blocks x) (worths_append blocks first second)
  where
    by : (o : Option ℕ) → worths blocks (first ++ second) ≡ worths blocks first ++ worths blocks second
        → cons_option o (worths blocks (first ++ second)) ≡ cons_option o (worths blocks first) ++ worths blocks second
    by None e = e
    by (Some n) e = ap (λ (l : List ℕ). n ∷ l) e

audios_append : (first second : List Task) → list_all is_audios first ≡ true → list_all is_audios second ≡ true → list_all is_audios (first ++ second) ≡ true
audios_append [] second f g = g
audios_append (x ∷ first) second f g =
    let both = and_parts (is_audios x) (list_all is_audios first) f in and_from (is_audios x) (list_all is_audios (first ++ second)) both.0 (audios_append first second both.1 g)

plain_append : (blocks : ℕ) (first second : List Task) → is_plain blocks first → is_plain blocks second → is_plain blocks (first ++ second)
plain_append blocks first second f g =
    (audios_append first second f.0 g.0, worths_append blocks first second ∙ ap (λ (l : List ℕ). l ++ worths blocks second) f.1 ∙ g.1)

plain_times : (blocks n : ℕ) (tasks : List Task) → is_plain blocks tasks → is_plain blocks (times n tasks)
plain_times blocks zero tasks k = (refl, refl)
plain_times blocks (suc n) tasks k = plain_append blocks tasks (times n tasks) k (plain_times blocks n tasks k)

-- ---- what a move does: it goes on by an entry of the task's worth, and leaves tasks without one

abbrev Worthy : ℕ → Task → Entry → Move → Type 0
Worthy blocks task e refuses = Unit {0}
Worthy blocks task e passes = worth_of blocks task ≡ None
Worthy blocks task e (goes message first) = (worth_of blocks task ≡ progress_of blocks e.kind e.a) × is_plain blocks first

module _ (blocks : ℕ) (e : Entry) where
  -- an entry that is a wanted one has its worth
  same_worth : (wanted : Entry) → same_entry wanted e ≡ true → progress_of blocks wanted.kind wanted.a ≡ progress_of blocks e.kind e.a
  same_worth wanted same = ap (λ (it : Entry). progress_of blocks it.kind it.a) (sym (same_means wanted e same))

  only_worth : (task : Task) (b : Bool) (message : Message) (tasks : List Task) → (b ≡ true → worth_of blocks task ≡ progress_of blocks e.kind e.a) → is_plain blocks tasks
      → Worthy blocks task e (only_if b message tasks)
  only_worth task true message tasks is plain = (is refl, plain)
  only_worth task false message tasks is plain = tt

  may_worth : (task : Task) (b : Bool) (message : Message) (tasks : List Task) → worth_of blocks task ≡ None → (b ≡ true → None ≡ progress_of blocks e.kind e.a) → is_plain blocks tasks
      → Worthy blocks task e (may_be b message tasks)
  may_worth task true message tasks none is plain = (none ∙ is refl, plain)
  may_worth task false message tasks none is plain = none

  where_worth : (task : Task) (b : Bool) (m : Move) → worth_of blocks task ≡ None → Worthy blocks task e m → Worthy blocks task e (where_due b m)
  where_worth task true m none k = k
  where_worth task false m none k = none

  either : (a b : Entry) → ((same_entry a e || same_entry b e) ≡ true) → None ≡ progress_of blocks a.kind a.a → None ≡ progress_of blocks b.kind b.a → None ≡ progress_of blocks e.kind e.a
  either a b some first second =
      ⊎_elim (λ is. first ∙ same_worth a is) (λ is. second ∙ same_worth b is) (or_cases (same_entry a e) (same_entry b e) some)

  attempt_worth : (actor : Actor) (ring : Ring) → is_attempt actor ring e ≡ true → None ≡ progress_of blocks e.kind e.a
  attempt_worth actor ring is =
      ⊎_elim (λ two. either (send_of actor ring) (full_of actor ring) two refl refl) (λ long. same_worth (long_of actor ring) long)
      (or_cases (same_entry (send_of actor ring) e || same_entry (full_of actor ring) e) (same_entry (long_of actor ring) e) is)

  tries : (task : Task) (actor : Actor) (ring : Ring) (message : Message) (most : ℕ) (again : List Task) → worth_of blocks task ≡ None → is_plain blocks again
      → Worthy blocks task e (may_be (nat_lt 0 most && is_attempt actor ring e) message again)
  tries task actor ring message most again none plain =
      may_worth task (nat_lt 0 most && is_attempt actor ring e) message again none (λ both. attempt_worth actor ring (and_parts (nat_lt 0 most) (is_attempt actor ring e) both).1) plain

  run_plain : (s : Shape) (inst : ℕ) → is_plain blocks (run_tasks s inst)
  run_plain s inst = by (works s inst)
    where
      by : (b : Bool) → is_plain blocks (responding b inst)
      by true = (refl, refl)
      by false = (refl, refl)

  worth_move : (s : Shape) (h : History) (taken : Message) (task : Task) → is_audios task ≡ true → Worthy blocks task e (move s h taken task e)
  worth_move s h taken (one it message) is = only_worth (one it message) (same_entry it e) message [] (same_worth it) (refl, refl)
  worth_move s h taken (take_from actor ring) is = only_worth (take_from actor ring) (same_entry (take_of actor ring) e) taken [] (same_worth (take_of actor ring)) (refl, refl)
  worth_move s h taken (attempts actor ring most) is = tries (attempts actor ring most) actor ring body most (attempts actor ring (most - 1) ∷ []) refl (refl, refl)
  worth_move s h taken look_messages is =
      only_worth look_messages (same_entry (look_of Audio ControlToAudio e.b) e) nothing (times e.b (take_from Audio ControlToAudio ∷ []))
      (same_worth (look_of Audio ControlToAudio e.b)) (plain_times blocks e.b (take_from Audio ControlToAudio ∷ []) (refl, refl))
  worth_move s h taken (return_front inst) is =
      let sent : Bool = same_entry (send_of Audio AudioToControl) e || same_entry (full_of Audio AudioToControl) e in
      where_worth (return_front inst) (is_wanted (front_place inst h)) (only_if sent (part inst) []) refl
      (only_worth (return_front inst) sent (part inst) [] (λ some. either (send_of Audio AudioToControl) (full_of Audio AudioToControl) some refl refl) (refl, refl))
  worth_move s h taken (running inst) is =
      where_worth (running inst) (is_here (front_place inst h)) (only_if (same_entry (begin_of Audio Run inst) e) nothing (run_tasks s inst)) refl
      (only_worth (running inst) (same_entry (begin_of Audio Run inst) e) nothing (run_tasks s inst) (same_worth (begin_of Audio Run inst)) (run_plain s inst))
  worth_move s h taken (notices inst most) is = tries (notices inst most) Audio AudioToControl (notice inst) most (notices inst (most - 1) ∷ []) refl (refl, refl)
  worth_move s h taken (look_responses inst) is =
      only_worth (look_responses inst) (same_entry (look_of Audio (Responses inst) e.b) e) nothing (times e.b (delivery inst))
      (same_worth (look_of Audio (Responses inst) e.b)) (plain_times blocks e.b (delivery inst) (refl, refl))
  worth_move s h taken (serving worker) is = absurd (true≢false (sym is))
  worth_move s h taken (local_jobs worker inst) is = absurd (true≢false (sym is))
  worth_move s h taken (acting stages) is = absurd (true≢false (sym is))
  worth_move s h taken (closing worker) is = absurd (true≢false (sym is))
  worth_move s h taken (leftovers ring) is = absurd (true≢false (sym is))

  -- ---- what follows takes the first worth, if it has one

  abbrev Takes : List Task → Option Follows → Type 0
  Takes tasks None = Unit {0}
  Takes tasks (Some it) = (worths blocks tasks ≡ cons_option (progress_of blocks e.kind e.a) (worths blocks it.left)) × (list_all is_audios it.left ≡ true)

  worth_follow : (s : Shape) (h : History) (taken : Message) (tasks : List Task) → list_all is_audios tasks ≡ true → Takes tasks (follow s h taken tasks e)
  worth_follow s h taken [] k = tt
  worth_follow s h taken (task ∷ tasks) k =
      let both = and_parts (is_audios task) (list_all is_audios tasks) k in
      by (move s h taken task e) (worth_move s h taken task both.0) (follow s h taken tasks e) (worth_follow s h taken tasks both.1) both.1
    where
      over : (o : Option Follows) → worth_of blocks task ≡ None → Takes tasks o → Takes (task ∷ tasks) o
      over None none k = tt
      over (Some it) none k = (ap (λ (o : Option ℕ). cons_option o (worths blocks tasks)) none ∙ k.0, k.1)

      by : (m : Move) → Worthy blocks task e m → (o : Option Follows) → Takes tasks o → list_all is_audios tasks ≡ true → Takes (task ∷ tasks) (then_left m tasks o)
      by refuses worthy o later rest = tt
      by passes worthy o later rest = over o worthy later
      by (goes message first) worthy o later rest = (
        ap (λ (w : Option ℕ). cons_option w (worths blocks tasks)) worthy.0
            ∙ ap (cons_option (progress_of blocks e.kind e.a))
            (sym (worths_append blocks first tasks ∙ ap (λ (l : List ℕ). l ++ worths blocks tasks) worthy.1.1)),
        audios_append first tasks worthy.1.0 rest,
      )

-- ---- all worths of audio's tasks are the numbers from 1 on

maps_plain : {A : Type 0} (blocks : ℕ) (f : A → Task) (xs : List A) → ((x : A) → is_audios (f x) ≡ true) → ((x : A) → worth_of blocks (f x) ≡ None) → is_plain blocks (map f xs)
maps_plain blocks f [] a w = (refl, refl)
maps_plain blocks f (x ∷ xs) a w =
    let later = maps_plain blocks f xs a w in
    (and_from (is_audios (f x)) (list_all is_audios (map f xs)) (a x) later.0, ap (λ (o : Option ℕ). cons_option o (worths blocks (map f xs))) (w x) ∙ later.1)

cycle_worths : (s : Shape) (block : ℕ) → (worths s.blocks (cycle s block) ≡ (block + 1) ∷ []) × (list_all is_audios (cycle s block) ≡ true)
cycle_worths s block =
    let first : List Task = one (block_of block) nothing ∷ look_messages ∷ [] in
    let plain : is_plain s.blocks (first ++ map return_front (insts_of s) ++ map running s.plan) =
    plain_append s.blocks (first ++ map return_front (insts_of s)) (map running s.plan)
    (plain_append s.blocks first (map return_front (insts_of s)) (refl, refl) (maps_plain s.blocks return_front (insts_of s) (λ i. refl) (λ i. refl)))
    (maps_plain s.blocks running s.plan (λ i. refl) (λ i. refl)) in
    let ended : List Task = one (done_of block) nothing ∷ [] in (
      worths_append s.blocks (first ++ map return_front (insts_of s) ++ map running s.plan) ended
          ∙ ap (λ (l : List ℕ). l ++ (block + 1) ∷ []) plain.1,
      audios_append (first ++ map return_front (insts_of s) ++ map running s.plan) ended plain.0 refl,
    )

cycles_worths : (s : Shape) (block more : ℕ) → (worths s.blocks (cycles s block more) ≡ range_with_len (block + 1) more) × (list_all is_audios (cycles s block more) ≡ true)
cycles_worths s block zero = (refl, refl)
cycles_worths s block (suc more) =
    let here = cycle_worths s block in
    let later = cycles_worths s (suc block) more in
    let next : suc block + 1 ≡ block + 1 + 1 = omega arith in (
      worths_append s.blocks (cycle s block) (cycles s (suc block) more)
          ∙ ap (λ (l : List ℕ). l ++ worths s.blocks (cycles s (suc block) more)) here.0
          ∙ ap (λ (l : List ℕ). (block + 1) ∷ l) (later.0 ∙ ap (λ (n : ℕ). range_with_len n more) next),
      audios_append (cycle s block) (cycles s (suc block) more) here.1 later.1,
    )

range_push : (k n : ℕ) → range_with_len k n ++ (k + n) ∷ [] ≡ range_with_len k (suc n)
range_push k zero = let same : k + 0 ≡ k = omega arith in ap (λ (it : ℕ). it ∷ []) same
range_push k (suc n) =
    let same : k + suc n ≡ k + 1 + n = omega arith in
    ap (λ (l : List ℕ). k ∷ l) (ap (λ (it : ℕ). range_with_len (k + 1) n ++ it ∷ []) same ∙ range_push (k + 1) n)

all_worths : (s : Shape) → (worths s.blocks (audio_tasks s) ≡ range_with_len 1 (suc s.blocks)) × (list_all is_audios (audio_tasks s) ≡ true)
all_worths s =
    let all = cycles_worths s 0 s.blocks in
    let stop : List Task = one (stop_of Audio) nothing ∷ [] in
    let start : 0 + 1 ≡ 1 = omega arith in
    let end : s.blocks + 1 ≡ 1 + s.blocks = omega arith in (
      worths_append s.blocks (cycles s 0 s.blocks) stop
          ∙ ap (λ (l : List ℕ). l ++ (s.blocks + 1) ∷ []) (all.0 ∙ ap (λ (n : ℕ). range_with_len n s.blocks) start)
          ∙ ap (λ (n : ℕ). range_with_len 1 s.blocks ++ n ∷ []) end
          ∙ range_push 1 s.blocks,
      audios_append (cycles s 0 s.blocks) stop all.1 refl,
    )

-- ---- a history

-- what audio's steps made known is 1, 2 and so on, and the worths that are left go on from there
record Ended (s : Shape) (mine : History) : Type 0 where
  known : ℕ
  more : ℕ
  told : progress_in s mine ≡ countdown known
  left : worths s.blocks (left_after s Audio mine) ≡ range_with_len (known + 1) more
  audios : list_all is_audios (left_after s Audio mine) ≡ true

abbrev ended : (s : Shape) (mine : History) (known more : ℕ) → progress_in s mine ≡ countdown known → worths s.blocks (left_after s Audio mine) ≡ range_with_len (known + 1) more
    → list_all is_audios (left_after s Audio mine) ≡ true → Ended s mine
ended s mine known more told left audios = record { known = known; more = more; told = told; left = left; audios = audios }

-- what is left where tasks may refuse
left_worths : (blocks : ℕ) (e : Entry) (tasks : List Task) (o : Option Follows) (first : List ℕ) (k n : ℕ) → Takes blocks e tasks o
    → ((later : List ℕ) → worths blocks tasks ≡ cons_option (progress_of blocks e.kind e.a) later → later ≡ range_with_len k n)
    → ((more : ℕ) × (worths blocks (left_in o) ≡ range_with_len k more)) × (list_all is_audios (left_in o) ≡ true)
left_worths blocks e tasks None first k n takes goes_on = ((0, refl), refl)
left_worths blocks e tasks (Some it) first k n takes goes_on = ((n, goes_on (worths blocks it.left) takes.0), takes.1)

ended_more : (s : Shape) (mine : History) (x : Step) (taken : Message) → Ended s mine → is_some (follow s mine taken (left_after s Audio mine) x.entry) ≡ true → Ended s (x ∷ mine)
ended_more s mine x taken e some =
    at (follow s mine taken (left_after s Audio mine) x.entry) some (worth_follow s.blocks x.entry s mine taken (left_after s Audio mine) e.audios)
    (progress_of s.blocks x.entry.kind x.entry.a) refl e.more e.left
  where
    tasks : List Task
    tasks = left_after s Audio mine

    again : Takes s.blocks x.entry (left_after s Audio mine) (follow s mine x.about (left_after s Audio mine) x.entry)
    again = worth_follow s.blocks x.entry s mine x.about (left_after s Audio mine) e.audios

    at : (o : Option Follows) → is_some o ≡ true → Takes s.blocks x.entry (left_after s Audio mine) o
        → (w : Option ℕ) → progress_of s.blocks x.entry.kind x.entry.a ≡ w → (more : ℕ) → worths s.blocks (left_after s Audio mine) ≡ range_with_len (e.known + 1) more
        → Ended s (x ∷ mine)
    at None is takes w worth more left = absurd (true≢false (sym is))
    at (Some it) is takes None worth more left =
        let next =
        left_worths s.blocks x.entry (left_after s Audio mine) (follow s mine x.about (left_after s Audio mine) x.entry) [] (e.known + 1) more again
        (λ later is. sym (ap (λ (o : Option ℕ). cons_option o later) worth) ∙ sym is ∙ left) in
        ended s (x ∷ mine) e.known next.0.0 (ap (λ (o : Option ℕ). cons_option o (progress_in s mine)) worth ∙ e.told) next.0.1 next.1
    at (Some it) is takes (Some v) worth zero left =
        let both : [] ≡ v ∷ worths s.blocks it.left = sym left ∙ takes.0 ∙ ap (λ (o : Option ℕ). cons_option o (worths s.blocks it.left)) worth in absurd (cc both)
    at (Some it) is takes (Some v) worth (suc more) left =
        let both : (e.known + 1) ∷ range_with_len (e.known + 1 + 1) more ≡ v ∷ worths s.blocks it.left =
        sym left ∙ takes.0 ∙ ap (λ (o : Option ℕ). cons_option o (worths s.blocks it.left)) worth in
        let here : v ≡ e.known + 1 = cc in
        let first : e.known + 1 ≡ suc e.known = omega arith in
        let place : e.known + 1 + 1 ≡ suc e.known + 1 = omega arith in
        let next =
        left_worths s.blocks x.entry (left_after s Audio mine) (follow s mine x.about (left_after s Audio mine) x.entry) [] (suc e.known + 1) more again
        (λ later is.
        let same : v ∷ later ≡ (e.known + 1) ∷ range_with_len (e.known + 1 + 1) more = sym (ap (λ (o : Option ℕ). cons_option o later) worth) ∙ sym is ∙ left in
        ap (λ (l : List ℕ). drop 1 l) same ∙ ap (λ (n : ℕ). range_with_len n more) place) in
        ended s (x ∷ mine) (suc e.known) next.0.0
        (ap (λ (o : Option ℕ). cons_option o (progress_in s mine)) worth ∙ ap (λ (n : ℕ). n ∷ progress_in s mine) (here ∙ first) ∙ ap (λ (l : List ℕ). suc e.known ∷ l) e.told)
        next.0.1 next.1

by_audio : (s : Shape) (h : History) (e : Entry) (actor : Actor) → actor ≡ Audio
    → is_some (follow s (own actor h) (brought h e) (left_after s actor (own actor h)) e) ≡ true
    → is_some (follow s (own Audio h) (brought h e) (left_after s Audio (own Audio h)) e) ≡ true
by_audio s h e actor is some = subst (λ (who : Actor). is_some (follow s (own who h) (brought h e) (left_after s who (own who h)) e) ≡ true) is some

kept_ended : (s : Shape) (h : History) → IsKept s h → Ended s (own Audio h)
kept_ended s [] kept = let all = all_worths s in ended s [] 0 (suc s.blocks) refl (all.0 ∙ ap (λ (n : ℕ). range_with_len n (suc s.blocks)) start) all.1
  where
    start : 1 ≡ 0 + 1
    start = omega arith
kept_ended s (x ∷ h) kept =
    ⊎_elim
    (λ mine.
    let actor : actor_at x.entry.actor ≡ Audio = ap actor_at (eqb-true x.entry.actor 0 mine) in
    let some = (and_parts (is_some (follow_in s h x.entry)) (may_come s h x.entry) (next_kept s h x.entry kept.0)).0 in
    subst (Ended s) (sym (cond-true (is_by Audio x.entry) (x ∷ own Audio h) (own Audio h) mine))
    (ended_more s (own Audio h) x (brought h x.entry) (kept_ended s h kept.2) (by_audio s h x.entry (actor_at x.entry.actor) actor some)))
    (λ other. subst (Ended s) (sym (cond-false (is_by Audio x.entry) (x ∷ own Audio h) (own Audio h) other)) (kept_ended s h kept.2))
    (cases_Bool (is_by Audio x.entry))

length-countdown : (n : ℕ) → length (countdown n) ≡ n
length-countdown zero = refl
length-countdown (suc n) = ap suc (length-countdown n)

pub ends_in_turn : (s : Shape) (h : History) → IsKept s h → EndsInTurn s h
ends_in_turn s h kept =
    let e = kept_ended s h kept in
    e.told ∙ sym (ap countdown (ap length e.told ∙ length-countdown e.known))
