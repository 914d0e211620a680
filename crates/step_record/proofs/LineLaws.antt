-- A line is read back: the entry that a text begins with the line of.
use Rattle.std.proofs.Common.{◌≡◌, ℕ, zero, suc, ◌+◌, ◌^◌, ◌<◌, true, List, [], ◌∷◌, ◌++◌, Option, Some, None, refl, sym, ap, subst, ◌∙◌, append_assoc, arith, true≢false}
use Rattle.std.specs.Prelude.{codes, decimal}
use Rattle.std.specs.Option.{option_map}
use Rattle.std.proofs.lemmas.Bool.{cond-true, and_parts}
use Rattle.step_law.specs.declared.actor.Actor.{Actor}
use Rattle.step_law.specs.declared.actor.Actor.TheVariants.{Audio, Control, Worker}
use Rattle.step_law.specs.declared.call.Call.{Call}
use Rattle.step_law.specs.declared.call.Call.TheVariants.{Run, Response, EndRun, Work, Save, RestoreSafe, Make, Activate, Deactivate, Cleanup, Restore}
use Rattle.step_law.specs.declared.entry.Entry.{Entry}
use Rattle.step_law.specs.declared.event.Event.{Event}
use Rattle.step_law.specs.declared.event.Event.TheVariants.{Block, Look, Take, Send, Full, Long, Done, Stop, Begin, End, Beat, Join, Late, Last}
use Rattle.step_law.specs.declared.ring.Ring.{Ring}
use Rattle.step_law.specs.declared.ring.Ring.TheVariants.{ControlToAudio, AudioToControl, ControlToWorker, WorkerToControl, Jobs, Responses, LocalJobs}
use Rattle.step_law.specs.Actor.{actor_number, actor_at, actor_name}
use Rattle.step_law.specs.Call.{call_number}
use Rattle.step_law.specs.Event.{entry_from}
use Rattle.step_law.specs.Form.{is_worker, is_inst, is_ring, worker_tells, tells, IsForm}
use Rattle.step_law.specs.Ring.{ring_number, ring_name}
use Rattle.step_law.proofs.EventLaws.{worker_within, inst_within, ring_back, told_rings, has_rings}
use Rattle.step_record.specs.RecordText.{line_of, ring_text, called_text}
use Rattle.step_record.specs.Words.{is_end, word, rest, number_in, ring_in, call_in, call_and_inst, look_at, event_in, told_entry, entry_in}
use Rattle.step_record.proofs.Cuts.{Unbroken, word_at, rest_at}
use Rattle.step_record.proofs.Numerals.{number_back, number_end, Unbroken-decimal}

-- ---- words

-- what a worker and an instance may be fits
worker_fits : (w : ℕ) → is_worker w ≡ true → w < 2 ^ 32
worker_fits w h = omega (arith, (worker_within w h).1)

inst_fits : (i : ℕ) → is_inst i ≡ true → i < 2 ^ 32
inst_fits i h = omega (arith, inst_within i h)

-- the name of a ring is one word, and names it
Unbroken-ring : (ring : Ring) → is_ring ring ≡ true → Unbroken (ring_name ring)
Unbroken-ring ControlToAudio h = (refl, (refl, tt))
Unbroken-ring AudioToControl h = (refl, (refl, tt))
Unbroken-ring (ControlToWorker w) h = (refl, (refl, Unbroken-decimal w (worker_fits w h)))
Unbroken-ring (WorkerToControl w) h = (refl, (refl, Unbroken-decimal w (worker_fits w h)))
Unbroken-ring (Jobs i) h = (refl, Unbroken-decimal i (inst_fits i h))
Unbroken-ring (Responses i) h = (refl, Unbroken-decimal i (inst_fits i h))
Unbroken-ring (LocalJobs i) h = (refl, Unbroken-decimal i (inst_fits i h))

ring_read : (ring : Ring) → is_ring ring ≡ true → ring_in (ring_name ring) ≡ Some ring
ring_read ControlToAudio h = refl
ring_read AudioToControl h = refl
ring_read (ControlToWorker w) h = ap (option_map ControlToWorker) (number_back w (worker_fits w h))
ring_read (WorkerToControl w) h = ap (option_map WorkerToControl) (number_back w (worker_fits w h))
ring_read (Jobs i) h = ap (option_map Jobs) (number_back i (inst_fits i h))
ring_read (Responses i) h = ap (option_map Responses) (number_back i (inst_fits i h))
ring_read (LocalJobs i) h = ap (option_map LocalJobs) (number_back i (inst_fits i h))

ring_word : (ring : Ring) (s : ℕ) (more : List ℕ) → is_ring ring ≡ true → is_end s ≡ true → ring_in (word (ring_name ring ++ s ∷ more)) ≡ Some ring
ring_word ring s more h e = ap ring_in (word_at (ring_name ring) s more (Unbroken-ring ring h) e) ∙ ring_read ring h

-- at the end of a line
ring_end : (ring : Ring) (after : List ℕ) → is_ring ring ≡ true → ring_in (word ((ring_text (ring_number ring) ++ 10 ∷ []) ++ after)) ≡ Some ring
ring_end ring after h =
    ap (λ (r : Ring). ring_in (word ((ring_name r ++ 10 ∷ []) ++ after))) (ring_back ring h)
    ∙ ap (λ (x : List ℕ). ring_in (word x)) (append_assoc (ring_name ring) (10 ∷ []) after)
    ∙ ring_word ring 10 after h refl

-- a look's ring and number
look_words : (ring : Ring) (shown : ℕ) (x : List ℕ) (after : List ℕ) → is_ring ring ≡ true → shown < 2 ^ 32
    → x ≡ ring_name ring ++ 32 ∷ ((decimal shown ++ 10 ∷ []) ++ after) → look_at (ring_in (word x)) (number_in (word (rest x))) ≡ Some (Look ring shown)
look_words ring shown x after h small e =
    let more : List ℕ = (decimal shown ++ 10 ∷ []) ++ after in
    let text : List ℕ = ring_name ring ++ 32 ∷ more in
    ap (λ (z : List ℕ). look_at (ring_in (word z)) (number_in (word (rest z)))) e
    ∙ ap (λ (o : Option Ring). look_at o (number_in (word (rest text)))) (ring_word ring 32 more h refl)
    ∙ ap (λ (z : List ℕ). look_at (Some ring) (number_in (word z))) (rest_at (ring_name ring) 32 more (Unbroken-ring ring h) refl)
    ∙ ap (look_at (Some ring)) (number_end shown after small)

look_end : (ring : Ring) (shown : ℕ) (after : List ℕ) → is_ring ring ≡ true → shown < 2 ^ 32
    → look_at (ring_in (word (((ring_text (ring_number ring) ++ 32 ∷ decimal shown) ++ 10 ∷ []) ++ after))) (number_in (word (rest (((ring_text (ring_number ring) ++ 32 ∷ decimal shown) ++ 10 ∷ []) ++ after)))) ≡ Some (Look ring shown)
look_end ring shown after h small =
    look_words ring shown (((ring_text (ring_number ring) ++ 32 ∷ decimal shown) ++ 10 ∷ []) ++ after) after h small
    (ap (λ (r : Ring). ((ring_name r ++ 32 ∷ decimal shown) ++ 10 ∷ []) ++ after) (ring_back ring h)
    ∙ ap (λ (z : List ℕ). z ++ after) (append_assoc (ring_name ring) (32 ∷ decimal shown) (10 ∷ []))
    ∙ append_assoc (ring_name ring) (32 ∷ (decimal shown ++ 10 ∷ [])) after)

-- a call and its instance
abbrev called_words : List ℕ → Option (Call × ℕ)
called_words x = call_and_inst (call_in (word x)) (number_in (word (rest x)))

called_end : (call : Call) (inst : ℕ) (after : List ℕ) → inst < 2 ^ 32 → called_words ((called_text (call_number call) inst ++ 10 ∷ []) ++ after) ≡ Some (call, inst)
called_end Run inst after h = ap (call_and_inst (Some Run)) (number_end inst after h)
called_end Response inst after h = ap (call_and_inst (Some Response)) (number_end inst after h)
called_end EndRun inst after h = ap (call_and_inst (Some EndRun)) (number_end inst after h)
called_end Work inst after h = ap (call_and_inst (Some Work)) (number_end inst after h)
called_end Save inst after h = ap (call_and_inst (Some Save)) (number_end inst after h)
called_end RestoreSafe inst after h = ap (call_and_inst (Some RestoreSafe)) (number_end inst after h)
called_end Make inst after h = ap (call_and_inst (Some Make)) (number_end inst after h)
called_end Activate inst after h = ap (call_and_inst (Some Activate)) (number_end inst after h)
called_end Deactivate inst after h = ap (call_and_inst (Some Deactivate)) (number_end inst after h)
called_end Cleanup inst after h = ap (call_and_inst (Some Cleanup)) (number_end inst after h)
called_end Restore inst after h = ap (call_and_inst (Some Restore)) (number_end inst after h)

-- ---- lines

-- the actor of an event that it may tell of is found by its number
to_worker : (n w : ℕ) → n ≡ 1 + w → 0 < w → actor_at n ≡ Worker w
to_worker zero w e some = absurd (omega arith)
to_worker (suc zero) w e some = absurd (omega arith)
to_worker (suc (suc n)) w e some = ap Worker (omega arith)

actor_back : (actor : Actor) (event : Event) → tells actor event ≡ true → actor_at (actor_number actor) ≡ actor
actor_back Audio event h = refl
actor_back Control event h = refl
actor_back (Worker w) event h = to_worker (1 + w) w refl (worker_within w (and_parts (is_worker w) (worker_tells event) h).0).0

-- the actor's name, and then the event
opens : (actor : Actor) (event : Event) (x : List ℕ) → tells actor event ≡ true → event_in (word x) (rest x) ≡ Some event → entry_in (actor_name actor ++ 32 ∷ x) ≡ Some (entry_from actor event)
opens Audio event x h e = ap (told_entry (Some Audio)) e ∙ cond-true (tells Audio event) (Some (entry_from Audio event)) None h
opens Control event x h e = ap (told_entry (Some Control)) e ∙ cond-true (tells Control event) (Some (entry_from Control event)) None h
opens (Worker w) event x h e =
    let small : w < 2 ^ 32 = worker_fits w (and_parts (is_worker w) (worker_tells event) h).0 in
    let digits : Unbroken (decimal w) = Unbroken-decimal w small in
    let more : List ℕ = rest (decimal w ++ 32 ∷ x) in
    ap (λ (d : List ℕ). told_entry (option_map Worker (number_in d)) (event_in (word more) (rest more))) (word_at (decimal w) 32 x digits refl)
    ∙ ap (λ (o : Option ℕ). told_entry (option_map Worker o) (event_in (word more) (rest more))) (number_back w small)
    ∙ ap (λ (r : List ℕ). told_entry (Some (Worker w)) (event_in (word r) (rest r))) (rest_at (decimal w) 32 x digits refl)
    ∙ ap (told_entry (Some (Worker w))) e
    ∙ cond-true (tells (Worker w) event) (Some (entry_from (Worker w) event)) None h

line_read : (actor : Actor) (event : Event) (t after : List ℕ) → tells actor event ≡ true
    → event_in (word ((t ++ 10 ∷ []) ++ after)) (rest ((t ++ 10 ∷ []) ++ after)) ≡ Some event
    → entry_in ((actor_name (actor_at (actor_number actor)) ++ ((32 ∷ t) ++ 10 ∷ [])) ++ after) ≡ Some (entry_from actor event)
line_read actor event t after h e =
    ap (λ (a : Actor). entry_in ((actor_name a ++ ((32 ∷ t) ++ 10 ∷ [])) ++ after)) (actor_back actor event h)
    ∙ ap entry_in (append_assoc (actor_name actor) ((32 ∷ t) ++ 10 ∷ []) after)
    ∙ opens actor event ((t ++ 10 ∷ []) ++ after) h e

-- the end of the record
last_read : (actor : Actor) (after : List ℕ) → tells actor Last ≡ true → entry_in (codes "end\n" ++ after) ≡ Some (entry_from actor Last)
last_read Audio after h = absurd (true≢false (sym h))
last_read Control after h = refl
last_read (Worker w) after h = absurd (true≢false (sym (and_parts (is_worker w) (worker_tells Last) h).1))

-- the line of an event that its actor may tell of
event_read : (actor : Actor) (event : Event) (after : List ℕ) → tells actor event ≡ true → has_rings event ≡ true → (entry_from actor event).a < 2 ^ 32 → (entry_from actor event).b < 2 ^ 32
    → entry_in (line_of (entry_from actor event) ++ after) ≡ Some (entry_from actor event)
event_read actor (Block n) after h r a b = line_read actor (Block n) (codes "block " ++ decimal n) after h (ap (option_map Block) (number_end n after a))
event_read actor (Done n) after h r a b = line_read actor (Done n) (codes "done " ++ decimal n) after h (ap (option_map Done) (number_end n after a))
event_read actor (Beat n) after h r a b = line_read actor (Beat n) (codes "beat " ++ decimal n) after h (ap (option_map Beat) (number_end n after a))
event_read actor (Late n) after h r a b = line_read actor (Late n) (codes "late " ++ decimal n) after h (ap (option_map Late) (number_end n after a))
event_read actor (Look ring n) after h r a b = line_read actor (Look ring n) (codes "look " ++ (ring_text (ring_number ring) ++ (codes " " ++ decimal n))) after h (look_end ring n after r b)
event_read actor (Take ring) after h r a b = line_read actor (Take ring) (codes "take " ++ ring_text (ring_number ring)) after h (ap (option_map Take) (ring_end ring after r))
event_read actor (Send ring) after h r a b = line_read actor (Send ring) (codes "send " ++ ring_text (ring_number ring)) after h (ap (option_map Send) (ring_end ring after r))
event_read actor (Full ring) after h r a b = line_read actor (Full ring) (codes "full " ++ ring_text (ring_number ring)) after h (ap (option_map Full) (ring_end ring after r))
event_read actor (Long ring) after h r a b = line_read actor (Long ring) (codes "long " ++ ring_text (ring_number ring)) after h (ap (option_map Long) (ring_end ring after r))
event_read actor Stop after h r a b = line_read actor Stop (codes "stop") after h refl
event_read actor Join after h r a b = line_read actor Join (codes "join") after h refl
event_read actor (Begin call inst) after h r a b = line_read actor (Begin call inst) (codes "begin " ++ called_text (call_number call) inst) after h (ap (option_map (λ (called : Call × ℕ). Begin called.0 called.1)) (called_end call inst after b))
event_read actor (End call inst) after h r a b = line_read actor (End call inst) (codes "end " ++ called_text (call_number call) inst) after h (ap (option_map (λ (called : Call × ℕ). End called.0 called.1)) (called_end call inst after b))
event_read actor Last after h r a b = last_read actor after h

-- each entry with a form
pub line_back : (e : Entry) (after : List ℕ) → IsForm e → entry_in (line_of e ++ after) ≡ Some e
line_back e after f =
    let actor : Actor = actor_at e.actor in
    let told : tells actor f.event ≡ true = f.form.told in
    let same : e ≡ entry_from actor f.event = f.form.same in
    let a : (entry_from actor f.event).a < 2 ^ 32 = subst (λ (x : Entry). x.a < 2 ^ 32) same f.a_fits in
    let b : (entry_from actor f.event).b < 2 ^ 32 = subst (λ (x : Entry). x.b < 2 ^ 32) same f.b_fits in
    subst (λ (x : Entry). entry_in (line_of x ++ after) ≡ Some x) (sym same) (event_read actor f.event after told (told_rings actor f.event told) a b)
