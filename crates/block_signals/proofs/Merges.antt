-- How an instance's inputs of events are filled, port by port.
use Rattle.std.proofs.Common.{◌≡◌, ◌≢◌, ℕ, ◌+◌, ◌<◌, ◌≤◌, All, List, [], ◌∷◌, length, map, Option, slice_get, Some, refl, sym, ap, subst, ◌∙◌, ◌⊎◌, inl, inr, arith}
use Rattle.std.specs.Borrow.{Bor}
use Rattle.std.proofs.lemmas.Bool.{cases_lt}
use Rattle.std.proofs.lemmas.List.{length-map, get_or-set_same, get_or-set_other}
use Rattle.std.proofs.lemmas.List.Elements.{All-nil, All-cons, All-head, All-tail}
use Rattle.std.proofs.lemmas.Option.{same_Some}
use Rattle.atom_forge.specs.Forged.{Forged}
use Rattle.atom_sequence.specs.Event.{Event}
use Rattle.event_signals.specs.Merging.{events_of, IsTimed, AreTimed}
use Rattle.plug_api.specs.Buffers.{Given, forge_at, empty_forge}
use Rattle.plug_api.specs.Sequences.{AreEventBytes}
use Rattle.session_play.specs.EventBytes.{events_at}
use Rattle.block_signals.specs.declared.messages.Messages.{Messages}
use Rattle.block_signals.specs.declared.outlets.Outlets.{Outlets}
use Rattle.block_signals.specs.declared.source.Input.{Input}
use Rattle.block_signals.specs.declared.source.Input.TheVariants.{Sound, Events, Still}
use Rattle.block_signals.specs.Merging.{bytes_in, lists_at, merge_of, CanTake, with_merge, IsTaken}
use Rattle.block_signals.proofs.Outs.{map_set_same}

-- ---- lists behind references

pub timed_of : (frames : ℕ) (lists : List (Bor (List ℕ))) → All (AreEventBytes frames) (map bytes_in lists) → AreTimed frames lists
timed_of frames [] are = All-nil (IsTimed frames)
timed_of frames (list ∷ lists) are =
    All-cons (IsTimed frames) list lists (All-head (AreEventBytes frames) list.now (map bytes_in lists) are)
    (timed_of frames lists (All-tail (AreEventBytes frames) list.now (map bytes_in lists) are))

pub read_of : (lists : List (Bor (List ℕ))) → map events_of lists ≡ map events_at (map bytes_in lists)
read_of [] = refl
read_of (list ∷ lists) = ap (λ (rest : List (List Event)). events_at list.now ∷ rest) (read_of lists)

-- ---- port by port

abbrev pub room_of_forge : Forged → ℕ
room_of_forge forge = forge.room

-- so many ports are filled, and nothing else is changed
pub record Merges (first now : Given) (messages : Option Messages) (outlets : Outlets) (inputs : List Input) (n : ℕ) : Type 0 where
  pub others : now ≡ record first { events = now.events }
  pub rooms : map room_of_forge now.events ≡ map room_of_forge first.events
  pub put : (i : ℕ) (input : Input) → i < n → slice_get inputs i ≡ Some input → IsTaken now messages outlets i input
  pub rest : (i : ℕ) → n ≤ i → forge_at now.events i ≡ forge_at first.events i

pub merges_none : (first : Given) (messages : Option Messages) (outlets : Outlets) (inputs : List Input) → Merges first first messages outlets inputs 0
merges_none first messages outlets inputs = record { others = refl; rooms = refl; put = λ i input h e. absurd (omega (arith, h)); rest = λ i h. refl }

pub count_of : (old new : Given) → map room_of_forge new.events ≡ map room_of_forge old.events → length new.events ≡ length old.events
count_of old new rooms = sym (length-map new.events room_of_forge) ∙ ap length rooms ∙ length-map old.events room_of_forge

-- whether something can be put at a port hangs on its forge alone
can_stays : (old new : Given) (messages : Option Messages) (outlets : Outlets) (port : ℕ) (input : Input) → new.frames ≡ old.frames
    → length new.events ≡ length old.events → forge_at new.events port ≡ forge_at old.events port → CanTake old messages outlets port input
    → CanTake new messages outlets port input
can_stays old new messages outlets port (Events sources) frames count same can =
    let there = can.place in
    record {
      place = omega (arith, there, count);
      room = subst (λ (forge : Forged). 16 ≤ forge.room) (sym same) can.room;
      few = can.few;
      heard = can.heard;
      kept = can.kept;
      timed = subst (λ (n : ℕ). All (AreEventBytes n) (lists_at outlets messages port sources)) (sym frames) can.timed;
    }
can_stays old new messages outlets port (Sound sources) frames count same can = tt
can_stays old new messages outlets port Still frames count same can = tt

pub can_next : (first now : Given) (messages : Option Messages) (outlets : Outlets) (inputs : List Input) (n : ℕ) (input : Input)
    → Merges first now messages outlets inputs n → CanTake first messages outlets n input → CanTake now messages outlets n input
can_next first now messages outlets inputs n input merges can =
    can_stays first now messages outlets n input (ap (λ (ins : Given). ins.frames) merges.others) (count_of first now merges.rooms) (merges.rest n (omega arith)) can

taken_stays : (old new : Given) (messages : Option Messages) (outlets : Outlets) (port : ℕ) (input : Input) → forge_at new.events port ≡ forge_at old.events port
    → IsTaken old messages outlets port input → IsTaken new messages outlets port input
taken_stays old new messages outlets port (Events sources) same taken =
    subst (λ (forge : Forged). forge ≡ merge_of forge.room (lists_at outlets messages port sources)) (sym same) taken
taken_stays old new messages outlets port (Sound sources) same taken = tt
taken_stays old new messages outlets port Still same taken = tt

-- what one port changes
record Changes (old new : Given) (messages : Option Messages) (outlets : Outlets) (port : ℕ) (input : Input) : Type 0 where
  others : new ≡ record old { events = new.events }
  rooms : map room_of_forge new.events ≡ map room_of_forge old.events
  here : IsTaken new messages outlets port input
  apart : (i : ℕ) → i ≢ port → forge_at new.events i ≡ forge_at old.events i

changes_one : (old : Given) (messages : Option Messages) (outlets : Outlets) (port : ℕ) (input : Input) → CanTake old messages outlets port input
    → Changes old (with_merge old messages outlets port input) messages outlets port input
changes_one old messages outlets port (Events sources) can =
    let lists = lists_at outlets messages port sources in
    let room = (forge_at old.events port).room in
    let forge : Forged = merge_of room lists in
    record {
      others = refl;
      rooms = map_set_same room_of_forge old.events port forge (empty_forge 0) (λ h. refl);
      here = taken port forge (get_or-set_same old.events port forge (empty_forge 0) can.place);
      apart = λ i h. get_or-set_other old.events port i forge (empty_forge 0) h;
    }
  where
    taken : (i : ℕ) (forge : Forged) → forge_at (with_merge old messages outlets port (Events sources)).events port ≡ merge_of (forge_at old.events port).room (lists_at outlets messages port sources)
        → IsTaken (with_merge old messages outlets port (Events sources)) messages outlets port (Events sources)
    taken i forge is = is ∙ ap (λ (n : ℕ). merge_of n (lists_at outlets messages port sources)) (sym (ap room_of_forge is))
changes_one old messages outlets port (Sound sources) can = record { others = refl; rooms = refl; here = tt; apart = λ i h. refl }
changes_one old messages outlets port Still can = record { others = refl; rooms = refl; here = tt; apart = λ i h. refl }

pub merges_more : (first old new : Given) (messages : Option Messages) (outlets : Outlets) (inputs : List Input) (n : ℕ) (input : Input)
    → Merges first old messages outlets inputs n → slice_get inputs n ≡ Some input → CanTake old messages outlets n input
    → new ≡ with_merge old messages outlets n input → Merges first new messages outlets inputs (n + 1)
merges_more first old new messages outlets inputs n input merges at can is =
    subst (λ (now : Given). Merges first now messages outlets inputs (n + 1)) (sym is) (record {
      others = changes.others ∙ ap (λ (ins : Given). record ins { events = (with_merge old messages outlets n input).events }) merges.others;
      rooms = changes.rooms ∙ merges.rooms;
      put = λ i other h e. by i other e (cases_lt i n) h;
      rest = λ i h. changes.apart i (λ same. omega (arith, same, h)) ∙ merges.rest i (omega (arith, h));
    })
  where
    changes : Changes old (with_merge old messages outlets n input) messages outlets n input
    changes = changes_one old messages outlets n input can

    by : (i : ℕ) (other : Input) → slice_get inputs i ≡ Some other → (i < n) ⊎ (n ≤ i) → i < n + 1 → IsTaken (with_merge old messages outlets n input) messages outlets i other
    by i other e (inl k) h =
        taken_stays old (with_merge old messages outlets n input) messages outlets i other (changes.apart i (λ same. omega (arith, same, k))) (merges.put i other k e)
    by i other e (inr k) h =
        let same : n ≡ i = omega (arith, k, h) in
        let one : input ≡ other = same_Some input other (sym at ∙ ap (slice_get inputs) same ∙ e) in
        let P : ℕ → Input → Type 0 = λ port it. IsTaken (with_merge old messages outlets n input) messages outlets port it in
        subst (λ (port : ℕ). P port other) same (subst (P n) one changes.here)
