-- Which messages are kept: those before the first that has no room.
use Rattle.std.proofs.Common.{◌≡◌, ℕ, ◌+◌, ◌-◌, ◌<◌, ◌≤◌, Bool, true, false, if◌then◌else◌, nat_le, nat_lt, All, List, [], ◌∷◌, ◌++◌, length, Result, Ok, Err, refl, sym, ap, subst, ◌∙◌, append_assoc, length-append, arith}
use Rattle.std.specs.Result.{is_err}
use Rattle.std.proofs.lemmas.Bool.Decides.{nat_tests}
use Rattle.std.proofs.lemmas.List.{append-nil}
use Rattle.std.proofs.lemmas.List.Elements.{All-nil, All-cons, All-head, All-tail}
use Rattle.atom_core.specs.Value.{timed, Value}
use Rattle.atom_core.specs.Spelling.{part_of}
use Rattle.atom_forge.specs.declared.room.NoRoom.{NoRoom}
use Rattle.atom_forge.specs.Forged.{Forged, left, with_piece}
use Rattle.atom_forge.proofs.Pieces.{opening-length}
use Rattle.atom_sequence.specs.Event.{Event, size_of}
use Rattle.atom_sequence.specs.Merge.{cut}
use Rattle.atom_sequence.specs.Views.{with_events, AwaitsEvent}
use Rattle.atom_sequence.specs.Cursors.{PutsEvent}
use Rattle.atom_sequence.proofs.Merging.{cut_fits, cut_full}
use Rattle.plug_api.specs.Buffers.{begun_forge}
use Rattle.session_play.specs.EventBytes.{bytes_of}
use Rattle.session_play.specs.Signals.{at_start}
use Rattle.block_signals.specs.declared.messages.Messages.{Messages}
use Rattle.block_signals.specs.Messages.{AreBytesOf, IsMessage, Keeps}

-- ---- where a cut ends

-- one that leaves nothing out is all
pub cut_all : (room : ℕ) (events : List Event) → length events ≤ length (cut room events) → cut room events ≡ events
cut_all room [] long = refl
cut_all room (e ∷ events) long = by (nat_le (size_of e) room) (cut_all (room - size_of e) events) long
  where
    by : (b : Bool) → (length events ≤ length (cut (room - size_of e) events) → cut (room - size_of e) events ≡ events)
        → length (e ∷ events) ≤ length (if b then e ∷ cut (room - size_of e) events else [])
        → (if b then e ∷ cut (room - size_of e) events else []) ≡ e ∷ events
    by true rest h = ap (λ (l : List Event). e ∷ l) (rest (omega (arith, h)))
    by false rest h = absurd (omega (arith, h))

-- after one that leaves something out nothing comes
pub cut_ends : (room : ℕ) (events more : List Event) → length (cut room events) < length events → cut room (events ++ more) ≡ cut room events
cut_ends room [] more less = absurd (omega (arith, less))
cut_ends room (e ∷ events) more less = by (nat_le (size_of e) room) (cut_ends (room - size_of e) events more) less
  where
    by : (b : Bool) → (length (cut (room - size_of e) events) < length events → cut (room - size_of e) (events ++ more) ≡ cut (room - size_of e) events)
        → length (if b then e ∷ cut (room - size_of e) events else []) < length (e ∷ events)
        → (if b then e ∷ cut (room - size_of e) (events ++ more) else []) ≡ (if b then e ∷ cut (room - size_of e) events else [])
    by true rest h = ap (λ (l : List Event). e ∷ l) (rest (omega (arith, h)))
    by false rest h = refl

first_size : (e : Event) (events : List Event) → length (bytes_of (e ∷ events)) ≡ size_of e + length (bytes_of events)
first_size e events = length-append (part_of (timed e.time) e.value) (bytes_of events)

-- after all of them comes what the room that is left holds
pub cut_goes_on : (room : ℕ) (events more : List Event) → length events ≤ length (cut room events)
    → cut room (events ++ more) ≡ events ++ cut (room - length (bytes_of events)) more
cut_goes_on room [] more long = ap (λ (n : ℕ). cut n more) (omega arith)
cut_goes_on room (e ∷ events) more long = by (nat_le (size_of e) room) (cut_goes_on (room - size_of e) events more) long
  where
    less : room - size_of e - length (bytes_of events) ≡ room - length (bytes_of (e ∷ events))
    less = omega (arith, first_size e events)

    by : (b : Bool)
        → (length events ≤ length (cut (room - size_of e) events)
        → cut (room - size_of e) (events ++ more) ≡ events ++ cut (room - size_of e - length (bytes_of events)) more)
        → length (e ∷ events) ≤ length (if b then e ∷ cut (room - size_of e) events else [])
        → (if b then e ∷ cut (room - size_of e) (events ++ more) else []) ≡ e ∷ (events ++ cut (room - length (bytes_of (e ∷ events))) more)
    by true rest h = ap (λ (l : List Event). e ∷ l) (rest (omega (arith, h)) ∙ ap (λ (n : ℕ). events ++ cut n more) less)
    by false rest h = absurd (omega (arith, h))

-- ---- a forge with messages

bytes_more : (events : List Event) (e : Event) → bytes_of events ++ part_of (timed e.time) e.value ≡ bytes_of (events ++ e ∷ [])
bytes_more [] e = sym (append-nil (part_of (timed e.time) e.value))
bytes_more (d ∷ events) e =
    append_assoc (part_of (timed d.time) d.value) (bytes_of events) (part_of (timed e.time) e.value)
    ∙ ap (λ (l : List ℕ). part_of (timed d.time) d.value ++ l) (bytes_more events e)

one_more : (room : ℕ) (events : List Event) (e : Event)
    → with_piece (with_events (begun_forge room) events) (part_of (timed e.time) e.value) false ≡ with_events (begun_forge room) (events ++ e ∷ [])
one_more room events e =
    ap (λ (b : List ℕ). record { room = room; bytes = b; levels = (begun_forge room).levels; waits = false })
    (append_assoc (begun_forge room).bytes (bytes_of events) (part_of (timed e.time) e.value) ∙ ap (λ (l : List ℕ). (begun_forge room).bytes ++ l) (bytes_more events e))

left_there : (room : ℕ) (events : List Event) → left (with_events (begun_forge room) events) ≡ room - 16 - length (bytes_of events)
left_there room events = omega (arith, length-append (begun_forge room).bytes (bytes_of events), opening-length 10 0 0)

pub with_none : (room : ℕ) → begun_forge room ≡ with_events (begun_forge room) []
with_none room =
    ap (λ (b : List ℕ). record { room = room; bytes = b; levels = (begun_forge room).levels; waits = false }) (sym (append-nil (begun_forge room).bytes))

pub keeps_none : (room port : ℕ) → Keeps room [] (record { port = port; forge = begun_forge room; full = false })
keeps_none room port = record { events = with_none room; full = refl; each = All-nil IsMessage }

pub awaits : (room : ℕ) (messages : List Event) (kept : Messages) → Keeps room messages kept → AwaitsEvent kept.forge
awaits room messages kept keeps = subst AwaitsEvent (sym keeps.events) (record { level = refl; still = refl })

-- ---- one message more

pub message_is : (bytes : List ℕ) (value : Value) → AreBytesOf bytes value → IsMessage (at_start value)
message_is bytes value are = (refl, are.0)

each_more : (messages : List Event) (e : Event) → All IsMessage messages → IsMessage e → All IsMessage (messages ++ e ∷ [])
each_more [] e each one = All-cons IsMessage e [] one (All-nil IsMessage)
each_more (d ∷ messages) e each one =
    All-cons IsMessage d (messages ++ e ∷ []) (All-head IsMessage d messages each) (each_more messages e (All-tail IsMessage d messages each) one)

length_more : (messages : List Event) (e : Event) → length (messages ++ e ∷ []) ≡ length messages + 1
length_more messages e = length-append messages (e ∷ [])

-- where all have no room, the next has none
pub keeps_full : (room : ℕ) (messages : List Event) (kept : Messages) (e : Event) → Keeps room messages kept → kept.full ≡ true → IsMessage e
    → Keeps room (messages ++ e ∷ []) kept
keeps_full room messages kept e keeps full one =
    let short : nat_lt (length (cut (room - 16) messages)) (length messages) ≡ true = sym keeps.full ∙ full in
    let less : length (cut (room - 16) messages) < length messages = grind (arith, nat_tests) in
    let same = cut_ends (room - 16) messages (e ∷ []) less in
    let more = length_more messages e in
    let still : nat_lt (length (cut (room - 16) (messages ++ e ∷ []))) (length (messages ++ e ∷ [])) ≡ true =
    let n = ap length same in grind (arith, nat_tests) in
    record {
      events = keeps.events ∙ ap (with_events (begun_forge room)) (sym same);
      full = full ∙ sym still;
      each = each_more messages e keeps.each one;
    }

-- where they all have room, the next is put if it has
pub keeps_next : (room : ℕ) (messages : List Event) (kept : Messages) (forge : Forged) (full : Bool) (e : Event) (result : Result (Unit {0}) NoRoom)
    → Keeps room messages kept → kept.full ≡ false → IsMessage e → PutsEvent kept.forge e result forge → full ≡ is_err result
    → Keeps room (messages ++ e ∷ []) (record kept { forge = forge; full = full })
keeps_next room messages kept forge full e result keeps roomy one puts is = by result puts is
  where
    all : length messages ≤ length (cut (room - 16) messages)
    all =
        let none : nat_lt (length (cut (room - 16) messages)) (length messages) ≡ false = sym keeps.full ∙ roomy in
        grind (arith, nat_tests)

    whole : cut (room - 16) messages ≡ messages
    whole = cut_all (room - 16) messages all

    space : left kept.forge ≡ room - 16 - length (bytes_of messages)
    space = ap left keeps.events ∙ ap (λ (l : List Event). left (with_events (begun_forge room) l)) whole ∙ left_there room messages

    on : cut (room - 16) (messages ++ e ∷ []) ≡ messages ++ cut (left kept.forge) (e ∷ [])
    on = cut_goes_on (room - 16) messages (e ∷ []) all ∙ ap (λ (n : ℕ). messages ++ cut n (e ∷ [])) (sym space)

    tells : (b : Bool) (kept_messages : List Event) → cut (room - 16) (messages ++ e ∷ []) ≡ kept_messages
        → b ≡ nat_lt (length kept_messages) (length messages + 1) → b ≡ nat_lt (length (cut (room - 16) (messages ++ e ∷ []))) (length (messages ++ e ∷ []))
    tells b kept_messages same h = h ∙ (λ t. nat_lt (length (sym same t)) (sym (length_more messages e) t))

    by : (result : Result (Unit {0}) NoRoom) → PutsEvent kept.forge e result forge → full ≡ is_err result
        → Keeps room (messages ++ e ∷ []) (record kept { forge = forge; full = full })
    by (Ok unit) put same =
        let fits : cut (room - 16) (messages ++ e ∷ []) ≡ messages ++ e ∷ [] =
        on ∙ ap (λ (l : List Event). messages ++ l) (cut_fits (left kept.forge) e [] put.0) in
        let n = length_more messages e in
        let told : false ≡ nat_lt (length (messages ++ e ∷ [])) (length messages + 1) = grind (arith, nat_tests) in
        record {
          events = put.1 ∙ ap (λ (f : Forged). with_piece f (part_of (timed e.time) e.value) false) keeps.events
              ∙ ap (λ (l : List Event). with_piece (with_events (begun_forge room) l) (part_of (timed e.time) e.value) false) whole
              ∙ one_more room messages e ∙ ap (with_events (begun_forge room)) (sym fits);
          full = same ∙ tells false (messages ++ e ∷ []) fits told;
          each = each_more messages e keeps.each one;
        }
    by (Err fault) put same =
        let none : cut (room - 16) (messages ++ e ∷ []) ≡ messages =
        on ∙ ap (λ (l : List Event). messages ++ l) (cut_full (left kept.forge) e [] put.0) ∙ append-nil messages in
        let told : true ≡ nat_lt (length messages) (length messages + 1) = grind (arith, nat_tests) in
        record {
          events = put.1 ∙ keeps.events ∙ ap (with_events (begun_forge room)) (whole ∙ sym none);
          full = same ∙ tells true messages none told;
          each = each_more messages e keeps.each one;
        }
