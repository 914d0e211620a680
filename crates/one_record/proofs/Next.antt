-- What may come next after one play.
use Rattle.std.proofs.Common.{◌≡◌, ℕ, ◌+◌, ◌<◌, ◌==◌, nat_lt, Bool, true, false, not, ◌&&◌, ◌||◌, refl, sym, ◌∙◌, true≢false, eqb-true, ltb-true, arith}
use Rattle.std.proofs.lemmas.Bool.{and_parts}
use Rattle.step_law.specs.declared.actor.Actor.TheVariants.{Control}
use Rattle.step_law.specs.declared.entry.Entry.{Entry}
use Rattle.step_law.specs.declared.ring.Ring.TheVariants.{ControlToAudio, AudioToControl}
use Rattle.step_law.specs.Entry.{look_of, take_of, send_of, full_of, beat_of}
use Rattle.step_law.specs.Ring.{ring_number, ring_at}
use Rattle.record_law.specs.Entries.{is_by, same_entry}
use Rattle.record_law.specs.History.{waiting}
use Rattle.record_law.proofs.Same.{same_means, same_itself}
use Rattle.session_play.specs.Looking.{steps_of}
use Rattle.session_play.specs.Run.{Run}
use Rattle.session_play.specs.SessionShape.{shape_of}
use Rattle.session_play.specs.Value.{Play}
use Rattle.one_thread.specs.Offers.{progress_now}
use Rattle.one_thread.specs.Turns.{sees_all, may_come, turn}
use Rattle.one_thread.specs.OneThread.{comes_next, takes_first, sends_first, yields_to}
use Rattle.one_record.specs.Laws.{LooksAreOne, BeatsAreOne, SendsAreNotRefused, TakesAreFirst, SendsAreFirst}

-- ---- the parts of the test

abbrev Seen : {F B : Type 0} → Run F B → Play F B → Entry → Bool
Seen run p e = sees_all (shape_of run.setup) (steps_of p) e.kind e.a e.b

sends_so : {F B : Type 0} → (run : Run F B) (p : Play F B) (e : Entry) → comes_next run p e ≡ true → sends_first run p e ≡ true
sends_so run p e come = (and_parts (Seen run p e && (e.actor == turn run p) && takes_first run p e) (sends_first run p e) come).1

takes_so : {F B : Type 0} → (run : Run F B) (p : Play F B) (e : Entry) → comes_next run p e ≡ true → takes_first run p e ≡ true
takes_so run p e come =
    let most = and_parts (Seen run p e && (e.actor == turn run p) && takes_first run p e) (sends_first run p e) come in
    (and_parts (Seen run p e && (e.actor == turn run p)) (takes_first run p e) most.0).1

pub sees_so : {F B : Type 0} → (run : Run F B) (p : Play F B) (e : Entry) → comes_next run p e ≡ true → Seen run p e ≡ true
sees_so run p e come =
    let most = and_parts (Seen run p e && (e.actor == turn run p) && takes_first run p e) (sends_first run p e) come in
    let more = and_parts (Seen run p e && (e.actor == turn run p)) (takes_first run p e) most.0 in
    (and_parts (Seen run p e) (e.actor == turn run p) more.0).0

-- ---- what is seen

pub looks_are_one : {F B : Type 0} → LooksAreOne F B
looks_are_one run p actor ring shown also come other =
    let now = waiting (ring_at (ring_number ring)) (steps_of p) in
    eqb-true shown now (sees_so run p (look_of actor ring shown) come) ∙ sym (eqb-true also now (sees_so run p (look_of actor ring also) other))

pub beats_are_one : {F B : Type 0} → BeatsAreOne F B
beats_are_one run p progress also come other =
    let now = progress_now (shape_of run.setup) (steps_of p) in
    eqb-true progress now (sees_so run p (beat_of progress) come) ∙ sym (eqb-true also now (sees_so run p (beat_of also) other))

less_is_other : (n m : ℕ) → nat_lt n m ≡ true → n ≡ m → ⊥
less_is_other n m less same = let below : n < m = ltb-true n m less in omega (arith, below, same)

pub sends_are_not_refused : {F B : Type 0} → SendsAreNotRefused F B
sends_are_not_refused run p actor ring come other =
    let now = waiting (ring_at (ring_number ring)) (steps_of p) in
    let cells = (shape_of run.setup).cells in
    less_is_other now cells (sees_so run p (send_of actor ring) come) (eqb-true now cells (sees_so run p (full_of actor ring) other))

-- ---- what control does first

yields : (a b : Bool) → b ≡ true → (a || not b) ≡ true → a ≡ true
yields true b may e = refl
yields false true may e = e
yields false false may e = absurd (true≢false (sym may))

holds : (c y : Bool) → c ≡ true → (not c || y) ≡ true → y ≡ true
holds true y is e = e
holds false y is e = absurd (true≢false (sym is))

pub takes_are_first : {F B : Type 0} → TakesAreFirst F B
takes_are_first run p e may come control =
    let first = take_of Control AudioToControl in
    same_means first e
    (yields (same_entry first e) (may_come run p first) may (holds (is_by Control e) (yields_to run p first e) control (takes_so run p e come)))

send_is_no_beat : (progress : ℕ) → same_entry (send_of Control ControlToAudio) (beat_of progress) ≡ true → ⊥
send_is_no_beat progress e = true≢false (sym e)

pub sends_are_first : {F B : Type 0} → SendsAreFirst F B
sends_are_first run p may come =
    let end = beat_of (run.setup.session.blocks + 1) in
    let first = send_of Control ControlToAudio in
    send_is_no_beat (run.setup.session.blocks + 1)
    (yields (same_entry first end) (may_come run p first) may
    (holds (same_entry end end) (yields_to run p first end) (same_itself end) (sends_so run p end come)))
