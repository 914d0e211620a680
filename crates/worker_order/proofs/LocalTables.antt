-- Counts of the jobs that restores send and take, and what a step does to them.
use Rattle.std.proofs.Common.{◌≡◌, ℕ, suc, ◌-◌, ◌<◌, ◌≤◌, ◌==◌, nat_lt, min, Bool, true, false, ◌&&◌, List, [], ◌∷◌, length, slice_set, get_or, Some, None, refl, sym, ap, subst, ◌∙◌, ⊎_elim, arith, ne_eqb, eq-eqb, lt-ltb, le-ltb}
use Rattle.std.specs.List.{slice_get}
use Rattle.std.specs.Option.{option_map_or}
use Rattle.std.proofs.lemmas.Option.{slice_get_within, none-some, same_Some, slice_get-get_or}
use Rattle.std.proofs.lemmas.Bool.{cases_eq, cases_lt, and_right}
use Rattle.step_law.specs.declared.entry.Kind.{Kind}
use Rattle.step_law.specs.declared.entry.Kind.TheVariants.{Take, Send}
use Rattle.step_law.specs.declared.ring.Ring.{Ring}
use Rattle.step_law.specs.declared.ring.Ring.TheVariants.{ControlToAudio, AudioToControl, ControlToWorker, WorkerToControl, Jobs, Responses, LocalJobs}
use Rattle.step_law.specs.Ring.{ring_number, ring_at}
use Rattle.step_law.proofs.EventLaws.{ring_back, ring_same}
use Rattle.record_law.specs.Entries.{is_kind, is_on}
use Rattle.record_law.specs.History.{one_more, count, waiting}
use Rattle.record_law.specs.Message.{Step, History}
use Rattle.worker_order.specs.declared.worker_stage.LocalCount.{LocalCount}
use Rattle.worker_order.specs.Locals.{IsLocalCount, AreLocals, has_local, local_inst, most_counted}
use Rattle.order_base.proofs.Lists.{get_set_same, get_set_other}

-- counting up to the largest count
counted_more : (b : Bool) (n most : ℕ) → min (one_more b (min n most)) most ≡ min (one_more b n) most
counted_more true n most = omega arith
counted_more false n most = omega arith

and_true : (a b : Bool) → b ≡ true → (a && b) ≡ a
and_true true b is = is
and_true false b is = refl

local_ring : (r : Ring) (inst : ℕ) → local_inst r ≡ Some inst → r ≡ LocalJobs inst
local_ring ControlToAudio inst e = absurd (none-some inst e)
local_ring AudioToControl inst e = absurd (none-some inst e)
local_ring (ControlToWorker w) inst e = absurd (none-some inst e)
local_ring (WorkerToControl w) inst e = absurd (none-some inst e)
local_ring (Jobs i) inst e = absurd (none-some inst e)
local_ring (Responses i) inst e = absurd (none-some inst e)
local_ring (LocalJobs i) inst e = ap LocalJobs (same_Some i inst e)

-- the ring's number is that of an instance's own jobs
local_number : (n inst : ℕ) → local_inst (ring_at n) ≡ Some inst → n ≡ ring_number (LocalJobs inst)
local_number n inst e = sym (ring_same n) ∙ ap ring_number (local_ring (ring_at n) inst e)

-- and only where it is
local_at : (n inst : ℕ) → inst < 32 → n ≡ ring_number (LocalJobs inst) → local_inst (ring_at n) ≡ Some inst
local_at n inst less e = ap (λ m. local_inst (ring_at m)) e ∙ ap local_inst (ring_back (LocalJobs inst) (lt-ltb inst 32 less))

module _ (x : Step) (h : History) where
  -- a step on another ring
  on_other : (inst : ℕ) (it : LocalCount) → (x.entry.a ≡ ring_number (LocalJobs inst) → ⊥) → IsLocalCount inst it h → IsLocalCount inst it (x ∷ h)
  on_other inst it other are =
      let none : (kind : Kind) → is_on kind (LocalJobs inst) x.entry ≡ false =
      λ kind. and_right (is_kind kind x.entry) (x.entry.a == ring_number (LocalJobs inst)) (ne_eqb x.entry.a (ring_number (LocalJobs inst)) other) in
      record {
        sent = are.sent ∙ ap (λ b. min (one_more b (count Send (LocalJobs inst) h)) most_counted) (sym (none Send));
        taken = are.taken ∙ ap (λ b. min (one_more b (count Take (LocalJobs inst) h)) most_counted) (sym (none Take));
      }

  -- a step on this ring
  on_this : (inst : ℕ) (before after : LocalCount) → x.entry.a ≡ ring_number (LocalJobs inst)
      → after.sent ≡ min (one_more (is_kind Send x.entry) before.sent) most_counted
      → after.taken ≡ min (one_more (is_kind Take x.entry) before.taken) most_counted
      → IsLocalCount inst before h → IsLocalCount inst after (x ∷ h)
  on_this inst before after this sent taken are =
      let same : (kind : Kind) → is_on kind (LocalJobs inst) x.entry ≡ is_kind kind x.entry =
      λ kind. and_true (is_kind kind x.entry) (x.entry.a == ring_number (LocalJobs inst)) (eq-eqb x.entry.a (ring_number (LocalJobs inst)) this) in
      record {
        sent =
            sent
            ∙ ap (λ n. min (one_more (is_kind Send x.entry) n) most_counted) are.sent
            ∙ counted_more (is_kind Send x.entry) (count Send (LocalJobs inst) h) most_counted
            ∙ ap (λ b. min (one_more b (count Send (LocalJobs inst) h)) most_counted) (sym (same Send));
        taken =
            taken
            ∙ ap (λ n. min (one_more (is_kind Take x.entry) n) most_counted) are.taken
            ∙ counted_more (is_kind Take x.entry) (count Take (LocalJobs inst) h) most_counted
            ∙ ap (λ b. min (one_more b (count Take (LocalJobs inst) h)) most_counted) (sym (same Take));
      }

  pub noted_set : (locals : List LocalCount) (inst : ℕ) (before after : LocalCount) → local_inst (ring_at x.entry.a) ≡ Some inst → slice_get locals inst ≡ Some before
      → after.sent ≡ min (one_more (is_kind Send x.entry) before.sent) most_counted
      → after.taken ≡ min (one_more (is_kind Take x.entry) before.taken) most_counted
      → AreLocals locals h → AreLocals (slice_set locals inst after) (x ∷ h)
  noted_set locals inst before after ring was sent taken are other it at =
      let number = local_number x.entry.a inst ring in
      ⊎_elim
      (λ (same : inst ≡ other).
      let is : it ≡ after = get_set_same locals inst after it (ap (slice_get (slice_set locals inst after)) same ∙ at) in
      subst (λ (n : ℕ). IsLocalCount n it (x ∷ h)) same
      (subst (λ (c : LocalCount). IsLocalCount inst c (x ∷ h)) (sym is) (on_this inst before after number sent taken (are inst before was))))
      (λ (differ : inst ≡ other → ⊥).
      on_other other it (λ also. differ (omega (arith, also, number))) (are other it (sym (get_set_other locals inst other after differ) ∙ at)))
      (cases_eq inst other)

  pub noted_past : (locals : List LocalCount) (inst : ℕ) → local_inst (ring_at x.entry.a) ≡ Some inst → slice_get locals inst ≡ None
      → AreLocals locals h → AreLocals locals (x ∷ h)
  noted_past locals inst ring past are other it at =
      let number = local_number x.entry.a inst ring in
      on_other other it
      (λ also. let same : other ≡ inst = omega (arith, also, number) in none-some it (sym past ∙ ap (slice_get locals) (sym same) ∙ at))
      (are other it at)

  pub noted_none : (locals : List LocalCount) → length locals ≤ 32 → local_inst (ring_at x.entry.a) ≡ None → AreLocals locals h → AreLocals locals (x ∷ h)
  noted_none locals few none are other it at =
      let less : other < 32 = omega (arith, slice_get_within locals other it at, few) in
      on_other other it (λ also. none-some other (sym none ∙ local_at x.entry.a other less also)) (are other it at)

-- ---- what the counts say

count_short : (kind : Kind) (ring : Ring) (h : History) → count kind ring h ≤ length h
count_short kind ring [] = omega arith
count_short kind ring (x ∷ h) = by (is_on kind ring x.entry) (count_short kind ring h)
  where
    by : (b : Bool) → count kind ring h ≤ length h → one_more b (count kind ring h) ≤ suc (length h)
    by true less = omega (arith, less)
    by false less = omega (arith, less)

less_by : (m n : ℕ) → nat_lt n m ≡ nat_lt 0 (m - n)
less_by m n =
    ⊎_elim (λ less. lt-ltb n m less ∙ sym (lt-ltb 0 (m - n) (omega (arith, less)))) (λ more. le-ltb n m more ∙ sym (le-ltb 0 (m - n) (omega (arith, more)))) (cases_lt n m)

-- a job waits exactly where the counts say so
pub has_waiting : (locals : List LocalCount) (inst : ℕ) (h : History) → inst < length locals → AreLocals locals h → length h < most_counted
    → has_local locals inst ≡ nat_lt 0 (waiting (LocalJobs inst) h)
has_waiting locals inst h inside are short =
    let none : LocalCount = record { sent = 0; taken = 0 } in
    let it : LocalCount = get_or locals inst none in
    let at : slice_get locals inst ≡ Some it = slice_get-get_or locals inst none inside in
    let counts = are inst it at in
    let sent : it.sent ≡ count Send (LocalJobs inst) h = omega (arith, counts.sent, count_short Send (LocalJobs inst) h, short) in
    let taken : it.taken ≡ count Take (LocalJobs inst) h = omega (arith, counts.taken, count_short Take (LocalJobs inst) h, short) in
    ap (λ o. option_map_or (λ (c : LocalCount). nat_lt c.taken c.sent) o false) at
    ∙ ap (λ n. nat_lt n it.sent) taken
    ∙ ap (λ n. nat_lt (count Take (LocalJobs inst) h) n) sent
    ∙ less_by (count Send (LocalJobs inst) h) (count Take (LocalJobs inst) h)
