-- What actors wait for, as a history goes on.
use Rattle.std.proofs.Common.{◌≡◌, List, [], ℕ, zero, suc, ◌+◌, ◌<◌, ◌≤◌, ◌==◌, nat_lt, nat_eq, Bool, true, false, ◌&&◌, ◌||◌, ◌∷◌, length, set, map, replicate, refl, sym, ap, ap₂, subst, ◌∙◌, ⊎_elim, arith, ne_eqb}
use Rattle.std.specs.List.{list_all, range_with_len}
use Rattle.std.proofs.lemmas.Bool.{and_left, and_right, cond-true, cond-false, cases_eq}
use Rattle.std.proofs.lemmas.List.{length-set, length-replicate}
use Rattle.step_law.specs.declared.actor.Actor.TheVariants.{Control, Worker}
use Rattle.step_law.specs.declared.call.Call.TheVariants.{Activate, Deactivate}
use Rattle.step_law.specs.declared.entry.Entry.{Entry}
use Rattle.step_law.specs.declared.entry.Kind.{Kind}
use Rattle.step_law.specs.declared.entry.Kind.TheVariants.{Stop, Begin, End, Join}
use Rattle.step_law.specs.declared.ring.Ring.TheVariants.{WorkerToControl}
use Rattle.step_law.specs.Actor.{actor_number, actor_at}
use Rattle.step_law.specs.Entry.{take_of, begin_of, end_of, stop_of, join}
use Rattle.step_law.proofs.EventLaws.{actor_same}
use Rattle.record_law.specs.declared.shape.Shape.{Shape}
use Rattle.record_law.specs.Entries.{kind_number, is_kind, same_entry}
use Rattle.record_law.specs.Message.{Step, History}
use Rattle.record_law.specs.History.{waiting, has}
use Rattle.record_law.specs.Shape.{insts_of}
use Rattle.record_law.specs.Waits.{is_open, takes_first}
use Rattle.record_counts.specs.declared.waits.Activity.{Activity}
use Rattle.record_counts.specs.declared.waits.Waits.{Waits}
use Rattle.record_counts.specs.Table.{IsTable}
use Rattle.record_counts.specs.Waits.{activity_at, stopped_at, next_activity, is_of_call, TellsWaits}
use Rattle.record_counts.proofs.Tables.{table_set, table_same, table_replicate}
use Rattle.record_counts.proofs.Ranges.{all_of_table}
use Rattle.record_counts.proofs.OwnerLaws.{other_kind}

-- an entry that isn't the one looked for adds nothing
has_same : (e : Entry) (x : Step) (h : History) → same_entry e x.entry ≡ false → has e h ≡ has e (x ∷ h)
has_same e x h other = sym (ap (λ (b : Bool). b || has e h) other)

abbrev activity : Bool → Bool → Activity
activity a d = record { activated = a; deactivated = d }

activity_same : (h : History) (x : Step) (i : ℕ) → same_entry (end_of Control Activate i) x.entry ≡ false → same_entry (begin_of Control Deactivate i) x.entry ≡ false
    → activity_at h i ≡ activity_at (x ∷ h) i
activity_same h x i ends begins = ap₂ activity (has_same (end_of Control Activate i) x h ends) (has_same (begin_of Control Deactivate i) x h begins)

open_same : (s : Shape) (h : History) (x : Step) → ((i : ℕ) → same_entry (end_of Control Activate i) x.entry ≡ false) → is_open s h ≡ is_open s (x ∷ h)
open_same s h x ends = λ k. list_all (λ inst. has_same (end_of Control Activate inst) x h (ends inst) k) (insts_of s)

no_stop : (kind : Kind) → is_of_call kind ≡ true → (kind_number kind == kind_number Stop) ≡ false
no_stop Begin is = refl
no_stop End is = refl
no_stop kind is = absurd (cc is)

no_join : (kind : Kind) → is_of_call kind ≡ true → (kind_number kind == kind_number Join) ≡ false
no_join Begin is = refl
no_join End is = refl
no_join kind is = absurd (cc is)

other_inst : (wanted e : Entry) → (e.b ≡ wanted.b → ⊥) → same_entry wanted e ≡ false
other_inst wanted e other = and_right ((e.actor == wanted.actor) && is_kind wanted.kind e && (e.a == wanted.a)) (e.b == wanted.b) (ne_eqb e.b wanted.b other)

module _ (s : Shape) (h : History) (x : Step) (waits : Waits) (told : TellsWaits s h waits) where
  pub call_noted : is_of_call x.entry.kind ≡ true → (now : Activity) → (x.entry.b < length waits.insts → now ≡ next_activity x.entry.b x.entry (activity_at h x.entry.b))
      → (opened : Bool) → opened ≡ list_all (λ (it : Activity). it.activated) (set waits.insts x.entry.b now)
      → TellsWaits s (x ∷ h) (record { insts = set waits.insts x.entry.b now; stopped = waits.stopped; is_open = opened; is_joined = waits.is_joined })
  call_noted is now here opened is_opened =
      let table : IsTable (activity_at (x ∷ h)) (set waits.insts x.entry.b now) =
      table_set (activity_at h) (activity_at (x ∷ h)) waits.insts x.entry.b now told.insts here
      (λ i other. activity_same h x i (other_inst (end_of Control Activate i) x.entry (λ e. other (sym e))) (other_inst (begin_of Control Deactivate i) x.entry (λ e. other (sym e)))) in
      let same : length (set waits.insts x.entry.b now) ≡ length s.insts = length-set waits.insts x.entry.b now ∙ told.all_insts in record {
        insts = table;
        all_insts = same;
        stopped = table_same (stopped_at h) (stopped_at (x ∷ h)) waits.stopped told.stopped
            (λ n. has_same (stop_of (actor_at n)) x h (other_kind (stop_of (actor_at n)) x.entry (no_stop x.entry.kind is)));
        all_actors = told.all_actors;
        opened = is_opened
            ∙ all_of_table (λ (it : Activity). it.activated) (activity_at (x ∷ h)) (set waits.insts x.entry.b now) table
            ∙ ap (λ (n : ℕ). list_all (λ i. has (end_of Control Activate i) (x ∷ h)) (range_with_len 0 n)) same;
        joined = told.joined ∙ has_same join x h (other_kind join x.entry (no_join x.entry.kind is));
      }

  pub stop_noted : x.entry.kind ≡ Stop → (now : Bool) → (x.entry.actor < length waits.stopped → now ≡ stopped_at (x ∷ h) x.entry.actor)
      → TellsWaits s (x ∷ h) (record waits { stopped = set waits.stopped x.entry.actor now })
  stop_noted is now here =
      let no_end : is_kind End x.entry ≡ false = ap (λ (k : Kind). kind_number k == kind_number End) is in
      let no_begin : is_kind Begin x.entry ≡ false = ap (λ (k : Kind). kind_number k == kind_number Begin) is in
      let no_joins : is_kind Join x.entry ≡ false = ap (λ (k : Kind). kind_number k == kind_number Join) is in record {
        insts = table_same (activity_at h) (activity_at (x ∷ h)) waits.insts told.insts
            (λ i. activity_same h x i (other_kind (end_of Control Activate i) x.entry no_end) (other_kind (begin_of Control Deactivate i) x.entry no_begin));
        all_insts = told.all_insts;
        stopped = table_set (stopped_at h) (stopped_at (x ∷ h)) waits.stopped x.entry.actor now told.stopped here
            (λ n other. has_same (stop_of (actor_at n)) x h (another n other));
        all_actors = length-set waits.stopped x.entry.actor now ∙ told.all_actors;
        opened = told.opened ∙ open_same s h x (λ i. other_kind (end_of Control Activate i) x.entry no_end);
        joined = told.joined ∙ has_same join x h (other_kind join x.entry no_joins);
      }
    where
      another : (n : ℕ) → (n ≡ x.entry.actor → ⊥) → same_entry (stop_of (actor_at n)) x.entry ≡ false
      another n other =
          and_left ((x.entry.actor == actor_number (actor_at n)) && is_kind Stop x.entry && (x.entry.a == 0)) (x.entry.b == 0)
          (and_left ((x.entry.actor == actor_number (actor_at n)) && is_kind Stop x.entry) (x.entry.a == 0)
          (and_left (x.entry.actor == actor_number (actor_at n)) (is_kind Stop x.entry)
          (ap (λ (k : ℕ). x.entry.actor == k) (actor_same n) ∙ ne_eqb x.entry.actor n (λ e. other (sym e)))))

-- ---- what is left for control

abbrev left_at : History → ℕ → Bool
left_at h worker = nat_lt 0 (waiting (WorkerToControl worker) h)

pub takes_none : (h : History) (e : Entry) (k n : ℕ) → ((w : ℕ) → k ≤ w → w < k + n → left_at h w ≡ false) → takes_first (map WorkerToControl (range_with_len k n)) h e ≡ true
takes_none h e k zero none = refl
takes_none h e k (suc n) none =
    cond-false (left_at h k) (same_entry (take_of Control (WorkerToControl k)) e) (takes_first (map WorkerToControl (range_with_len (k + 1) n)) h e) (none k (omega arith) (omega arith))
    ∙ takes_none h e (k + 1) n (λ w least most. none w (omega (arith, least)) (omega (arith, most)))

pub takes_at : (h : History) (e : Entry) (k n w : ℕ) → k ≤ w → w < k + n → ((v : ℕ) → k ≤ v → v < w → left_at h v ≡ false) → left_at h w ≡ true
    → takes_first (map WorkerToControl (range_with_len k n)) h e ≡ same_entry (take_of Control (WorkerToControl w)) e
takes_at h e k zero w least most none some = absurd (omega (arith, least, most))
takes_at h e k (suc n) w least most none some =
    ⊎_elim
    (λ same.
    cond-true (left_at h k) (same_entry (take_of Control (WorkerToControl k)) e) (takes_first (map WorkerToControl (range_with_len (k + 1) n)) h e)
    (subst (λ (it : ℕ). left_at h it ≡ true) same some)
    ∙ ap (λ (it : ℕ). same_entry (take_of Control (WorkerToControl it)) e) (sym same))
    (λ other.
    let less : k < w = omega (arith, least, other) in
    cond-false (left_at h k) (same_entry (take_of Control (WorkerToControl k)) e) (takes_first (map WorkerToControl (range_with_len (k + 1) n)) h e) (none k (omega arith) less)
    ∙ takes_at h e (k + 1) n w (omega (arith, less)) (omega (arith, most)) (λ v low high. none v (omega (arith, low)) high) some)
    (cases_eq w k)

-- ---- workers by their numbers

pub worker_at : (w : ℕ) → 1 ≤ w → actor_at (1 + w) ≡ Worker w
worker_at zero some = absurd (omega (arith, some))
worker_at (suc n) some = let same : 1 + suc n ≡ suc (suc n) = omega arith in ap actor_at same

pub and_true : (a b : Bool) → b ≡ true → (a && b) ≡ a
and_true true b is = is
and_true false b is = refl

-- before anything is done, all is open only where there is nothing
open_none : (s : Shape) → nat_eq (length s.insts) 0 ≡ is_open s []
open_none s = by (length s.insts)
  where
    by : (n : ℕ) → nat_eq n 0 ≡ list_all (λ inst. has (end_of Control Activate inst) []) (range_with_len 0 n)
    by zero = refl
    by (suc n) = ne_eqb (suc n) 0 (λ none. omega (arith, none))

pub none_yet : (s : Shape) (insts : List Activity) (stopped : List Bool) (n : ℕ) → n ≡ length s.insts → insts ≡ replicate n (activity false false) → stopped ≡ replicate (2 + s.workers) false
    → (opened : Bool) → opened ≡ nat_eq n 0 → TellsWaits s [] (record { insts = insts; stopped = stopped; is_open = opened; is_joined = false })
none_yet s insts stopped n count quiet none opened is = record {
  insts = subst (IsTable (activity_at [])) (sym quiet) (table_replicate (activity_at []) n (activity false false) (λ i. refl));
  all_insts = ap length quiet ∙ length-replicate n (activity false false) ∙ count;
  stopped = subst (IsTable (stopped_at [])) (sym none) (table_replicate (stopped_at []) (2 + s.workers) false (λ i. refl));
  all_actors = ap length none ∙ length-replicate (2 + s.workers) false;
  opened = is ∙ ap (λ (k : ℕ). nat_eq k 0) count ∙ open_none s;
  joined = refl;
}
