-- What is merged at an input of events is what it is given.
use Rattle.std.proofs.Common.{◌≡◌, ℕ, ◌-◌, ◌^◌, ◌<◌, ◌≤◌, Bool, true, false, eqb, ◌&&◌, if◌then◌else◌, nat_le, nat_lt, nat_eq, FitsSigned, All, List, [], ◌∷◌, ◌++◌, length, map, Option, Some, None, slice_get, length-append, ℤ, pos, ◌≤ℤ◌, ◌<ℤ◌, refl, sym, ap, subst, ◌∙◌, eq-eqb, arith}
use Rattle.std.specs.Int.{w64}
use Rattle.std.specs.Borrow.{Bor}
use Rattle.std.specs.Option.{option_map_or}
use Rattle.std.proofs.lemmas.Bool.{ne_eqb, eqb-true, eqb-false}
use Rattle.std.proofs.lemmas.Bool.Decides.{nat_tests}
use Rattle.std.proofs.lemmas.Int.{ints}
use Rattle.std.proofs.lemmas.List.{append-nil}
use Rattle.std.proofs.lemmas.List.Elements.{All-nil, All-cons, All-head, All-tail}
use Rattle.plugin_decl.specs.declared.declaration.Port.{Port}
use Rattle.graph_order.specs.declared.setup.Setup.{Setup}
use Rattle.graph_order.specs.Setup.{IsReady}
use Rattle.atom_core.specs.declared.form.Form.TheVariants.{Sequence}
use Rattle.atom_core.specs.Fits.{PartsFit}
use Rattle.atom_core.specs.Spelling.{u32}
use Rattle.atom_forge.specs.Forged.{Forged}
use Rattle.atom_forge.proofs.Pieces.{opening-length}
use Rattle.atom_sequence.specs.Event.{Event, as_parts, size_of}
use Rattle.atom_sequence.specs.Merge.{joined, put_in, in_order, cut, merged}
use Rattle.atom_sequence.specs.Views.{with_events}
use Rattle.atom_sequence.proofs.Orders.{BeginsFrom, put_first, begins_more}
use Rattle.atom_sequence.proofs.Times.{From}
use Rattle.event_signals.specs.Merging.{events_of, IsTimed, AreTimed, sequence_of}
use Rattle.event_signals.proofs.AsRead.{as_read, events_read, merged_alike, read_again}
use Rattle.event_signals.proofs.Sequenced.{merged_sequence}
use Rattle.plug_api.specs.Buffers.{begun_forge, event_bytes}
use Rattle.plug_api.specs.Ports.{room_of}
use Rattle.plug_api.specs.Roles.{is_atom}
use Rattle.plug_api.specs.Sequences.{AreEventBytes, AreInOrder, IsSequence}
use Rattle.plug_api.specs.Signal.{events_in}
use Rattle.session_play.specs.EventBytes.{events_at, bytes_of}
use Rattle.session_play.specs.Setup.{ports_of, patch_port}
use Rattle.session_play.specs.Signals.{is_patch_port}
use Rattle.block_signals.specs.declared.messages.Messages.{Messages}
use Rattle.block_signals.specs.declared.outlets.Outlets.{Outlets}
use Rattle.block_signals.specs.declared.source.Source.{Source}
use Rattle.block_signals.specs.Board.{Board}
use Rattle.block_signals.specs.Given.{coming, events_given}
use Rattle.block_signals.specs.Merging.{events_heard, GivesEvents, HaveBegun, lists_at, merge_of}
use Rattle.block_signals.specs.Messages.{IsMessage, Keeps, KeepsFor, messages_at}
use Rattle.block_signals.specs.Outlets.{ShowsOutputs}
use Rattle.block_signals.specs.Sources.{sources_to}
use Rattle.block_signals.proofs.EventsComing.{joined_heard, coming_from, sources_give}
use Rattle.block_signals.proofs.EventsWritten.{none_timed}
use Rattle.block_signals.proofs.Heard.{numbered_of}
use Rattle.block_signals.proofs.Keeping.{cut_all, cut_ends}
use Rattle.block_signals.proofs.Lists.{map_at}

-- ---- messages

messages_fit : (messages : List Event) → All IsMessage messages → PartsFit 16 Sequence (as_parts messages)
messages_fit [] are = tt
messages_fit (e ∷ messages) are =
    let one = All-head IsMessage e messages are in
    let time : FitsSigned w64 (pos 0) = omega (arith, ints) in
    (omega arith, subst (FitsSigned w64) (sym one.0) time, one.1, messages_fit messages (All-tail IsMessage e messages are))

messages_order : (frames : ℕ) (messages : List Event) → 1 ≤ frames → All IsMessage messages → AreInOrder (pos 0) frames (as_parts messages)
messages_order frames [] some are = tt
messages_order frames (e ∷ messages) some are =
    let one = All-head IsMessage e messages are in
    let rest = messages_order frames messages some (All-tail IsMessage e messages are) in
    subst (λ (time : ℤ). (pos 0 ≤ℤ time) × (time <ℤ pos frames) × AreInOrder time frames (as_parts messages)) (sym one.0)
    (omega (arith, ints), omega (arith, ints, some), rest)

messages_timed : (frames : ℕ) (messages : List Event) → 1 ≤ frames → All IsMessage messages → AreEventBytes frames (bytes_of messages)
messages_timed frames messages some are = ∣ (as_parts messages, (messages_fit messages are, refl), messages_order frames messages some are) ∣₁

messages_read : (messages : List Event) → All IsMessage messages → events_at (bytes_of messages) ≡ map as_read messages
messages_read messages are = events_read (bytes_of messages) messages (messages_fit messages are, refl)

each_cut : (room : ℕ) (messages : List Event) → All IsMessage messages → All IsMessage (cut room messages)
each_cut room [] are = All-nil IsMessage
each_cut room (e ∷ messages) are = by (nat_le (size_of e) room) (each_cut (room - size_of e) messages (All-tail IsMessage e messages are))
  where
    by : (b : Bool) → All IsMessage (cut (room - size_of e) messages) → All IsMessage (if b then e ∷ cut (room - size_of e) messages else [])
    by true rest = All-cons IsMessage e (cut (room - size_of e) messages) (All-head IsMessage e messages are) rest
    by false rest = All-nil IsMessage

-- ---- messages go first

begins_all : (events : List Event) → From (pos 0) events → BeginsFrom (pos 0) (in_order events)
begins_all events from =
    subst (λ (all : List Event). BeginsFrom (pos 0) (in_order all)) (append-nil events) (begins_more (pos 0) events [] from tt)

go_first : (messages events : List Event) → All IsMessage messages → From (pos 0) events → in_order (messages ++ events) ≡ messages ++ in_order events
go_first [] events are from = refl
go_first (e ∷ messages) events are from =
    let one = All-head IsMessage e messages are in
    let rest = All-tail IsMessage e messages are in
    ap (put_in e) (go_first messages events rest from)
    ∙ put_first e (messages ++ in_order events)
    (subst (λ (time : ℤ). BeginsFrom time (messages ++ in_order events)) (sym one.0) (begins messages rest))
  where
    begins : (others : List Event) → All IsMessage others → BeginsFrom (pos 0) (others ++ in_order events)
    begins [] all = begins_all events from
    begins (f ∷ others) all = let time = (All-head IsMessage f others all).0 in subst (λ (it : ℤ). pos 0 ≤ℤ it) (sym time) (omega (arith, ints))

cut_again : (room : ℕ) (events : List Event) → cut room (cut room events) ≡ cut room events
cut_again room [] = refl
cut_again room (e ∷ events) = by (nat_le (size_of e) room) refl (cut_again (room - size_of e) events)
  where
    by : (b : Bool) → nat_le (size_of e) room ≡ b → cut (room - size_of e) (cut (room - size_of e) events) ≡ cut (room - size_of e) events
        → cut room (if b then e ∷ cut (room - size_of e) events else []) ≡ (if b then e ∷ cut (room - size_of e) events else [])
    by true e_fits rest =
        ap (λ (b : Bool). if b then e ∷ cut (room - size_of e) (cut (room - size_of e) events) else []) e_fits ∙ ap (λ (l : List Event). e ∷ l) rest
    by false e_fits rest = refl

-- messages that have no room leave none for what comes
merged_full : (room : ℕ) (messages : List Event) (lists : List (List Event)) → All IsMessage messages → From (pos 0) (joined lists)
    → length (cut room messages) < length messages → merged room (messages ∷ lists) ≡ cut room messages
merged_full room messages lists are from less =
    ap (cut room) (go_first messages (joined lists) are from) ∙ cut_ends room messages (in_order (joined lists)) less

merged_alone : (room : ℕ) (messages : List Event) → All IsMessage messages → merged room (cut room messages ∷ []) ≡ cut room messages
merged_alone room messages are =
    ap (cut room) (go_first (cut room messages) [] (each_cut room messages are) (All-nil _) ∙ append-nil (cut room messages)) ∙ cut_again room messages

-- ---- what is kept

with_bytes : (room : ℕ) (events : List Event) → event_bytes (with_events (begun_forge room) events) ≡ bytes_of events
unfolding u32
with_bytes room events = refl

kept_bytes : (room : ℕ) (messages : List Event) (kept : Messages) → Keeps room messages kept → event_bytes kept.forge ≡ bytes_of (cut (room - 16) messages)
kept_bytes room messages kept keeps = ap event_bytes keeps.events ∙ with_bytes room (cut (room - 16) messages)

pub have_begun : (ports : List Port) (messages : List Event) (kept : Option Messages) → KeepsFor ports messages kept → HaveBegun kept
have_begun ports messages None keeps = tt
have_begun ports messages (Some kept) keeps =
    subst (λ (forge : Forged). 16 ≤ length forge.bytes) (sym keeps.1.events)
    (let room = room_of ports kept.port in
    omega (arith, opening-length 10 0 0, length-append (begun_forge room).bytes (bytes_of (cut (room - 16) messages))))

-- ---- the lists at a port

all_map : {X Y : Type 0} → (P : Y → Type 0) (f : X → Y) (xs : List X) → All (λ x. P (f x)) xs → All P (map f xs)
all_map P f [] all = All-nil P
all_map P f (x ∷ xs) all = All-cons P (f x) (map f xs) (All-head (λ it. P (f it)) x xs all) (all_map P f xs (All-tail (λ it. P (f it)) x xs all))

pub all_weaker : {X : Type 0} → (P Q : X → Type 0) (xs : List X) → ((x : X) → P x → Q x) → All P xs → All Q xs
all_weaker P Q xs so all = λ k d h. so _ (all k d h)

frames_some : (setup : Setup) → IsReady setup → 1 ≤ setup.session.block
frames_some setup ready = ready.session.block.0

pub lists_timed : (setup : Setup) (board : Board) (outlets : Outlets) (inst i : ℕ) (port : Port) (messages : Option Messages) → IsReady setup
    → ShowsOutputs setup board outlets → is_atom port.kind ≡ true → KeepsFor (ports_of setup inst) (board.messages inst) messages
    → All (AreEventBytes setup.session.block) (lists_at outlets messages i (sources_to setup inst port))
lists_timed setup board outlets inst i port messages ready shows atom keeps = by messages keeps
  where
    Timed : List ℕ → Type 0
    Timed = AreEventBytes setup.session.block

    sources : List Source
    sources = sources_to setup inst port

    heard : All Timed (map (events_heard outlets) (sources_to setup inst port))
    heard =
        all_map (AreEventBytes setup.session.block) (events_heard outlets) (sources_to setup inst port)
        (all_weaker (λ source. GivesEvents outlets source × AreEventBytes setup.session.block (events_heard outlets source)) (λ source. AreEventBytes setup.session.block (events_heard outlets source)) (sources_to setup inst port) (λ source it. it.1)
        (sources_give setup board outlets inst port atom ready shows))

    left : (b : Bool) → All (AreEventBytes setup.session.block) (map (events_heard outlets) (if b then [] else sources_to setup inst port))
    left true = All-nil (AreEventBytes setup.session.block)
    left false = heard

    first : (b : Bool) (bytes : List ℕ) → AreEventBytes setup.session.block bytes → AreEventBytes setup.session.block (if b then bytes else [])
    first true bytes are = are
    first false bytes are = none_timed setup.session.block

    by : (kept : Option Messages) → KeepsFor (ports_of setup inst) (board.messages inst) kept
        → All (AreEventBytes setup.session.block) (lists_at outlets kept i (sources_to setup inst port))
    by None keeps = All-cons (AreEventBytes setup.session.block) [] (map (events_heard outlets) (sources_to setup inst port)) (none_timed setup.session.block) (left false)
    by (Some kept) keeps =
        let room = room_of (ports_of setup inst) kept.port in
        let own : AreEventBytes setup.session.block (event_bytes kept.forge) =
        subst (AreEventBytes setup.session.block) (sym (kept_bytes room (board.messages inst) kept keeps.1))
        (messages_timed setup.session.block (cut (room - 16) (board.messages inst)) (frames_some setup ready) (each_cut (room - 16) (board.messages inst) keeps.1.each)) in
        All-cons (AreEventBytes setup.session.block) (messages_at (Some kept) i) _ (first (eqb kept.port i) (event_bytes kept.forge) own) (left (eqb kept.port i && kept.full))

-- what is merged of them is what the port is given
abbrev Comes : Setup → Board → ℕ → Port → List (List Event)
Comes setup board inst port = map (λ it. events_at (events_in it)) (coming setup board inst port)

patch_is : (setup : Setup) (inst i n : ℕ) (port : Port) → port.index ≡ i → patch_port setup inst ≡ Some n → is_patch_port setup inst port ≡ eqb n i
patch_is setup inst i n port index is =
    ap (λ (found : Option ℕ). option_map_or (nat_eq port.index) found false) is ∙ by (eqb n i) refl
  where
    by : (b : Bool) → eqb n i ≡ b → eqb port.index n ≡ b
    by true e = eq-eqb port.index n (index ∙ sym (eqb-true n i e))
    by false e = ne_eqb port.index n (λ same. eqb-false n i e (sym same ∙ index))

given_none : (setup : Setup) (board : Board) (outlets : Outlets) (inst : ℕ) (port : Port) (room : ℕ) → is_atom port.kind ≡ true → IsReady setup → ShowsOutputs setup board outlets
    → bytes_of (merged room (map events_at ([] ∷ map (events_heard outlets) (sources_to setup inst port)))) ≡ bytes_of (merged room ([] ∷ Comes setup board inst port))
given_none setup board outlets inst port room atom ready shows =
    ap (λ (all : List Event). bytes_of (cut room (in_order all))) (joined_heard setup board outlets inst port atom ready shows)

given_whole : (setup : Setup) (board : Board) (outlets : Outlets) (inst : ℕ) (port : Port) (room : ℕ) (messages : List Event) (kept : Messages)
    → is_atom port.kind ≡ true → IsReady setup → ShowsOutputs setup board outlets → All IsMessage messages
    → event_bytes kept.forge ≡ bytes_of messages
    → bytes_of (merged room (map events_at (event_bytes kept.forge ∷ map (events_heard outlets) (sources_to setup inst port))))
    ≡ bytes_of (merged room (messages ∷ Comes setup board inst port))
given_whole setup board outlets inst port room messages kept atom ready shows are is =
    let reads : events_at (event_bytes kept.forge) ≡ map as_read messages = ap events_at is ∙ messages_read messages are in
    (λ t. bytes_of (cut room (in_order (reads t ++ joined_heard setup board outlets inst port atom ready shows t))))
    ∙ merged_alike room (map as_read messages ∷ Comes setup board inst port) (messages ∷ Comes setup board inst port)
    (ap (λ (first : List Event). first ∷ map (map as_read) (Comes setup board inst port)) (read_again messages))

given_full : (setup : Setup) (board : Board) (outlets : Outlets) (inst : ℕ) (port : Port) (room : ℕ) (messages : List Event) (kept : Messages)
    → IsReady setup → ShowsOutputs setup board outlets → All IsMessage messages → length (cut room messages) < length messages
    → event_bytes kept.forge ≡ bytes_of (cut room messages)
    → bytes_of (merged room (map events_at (event_bytes kept.forge ∷ []))) ≡ bytes_of (merged room (messages ∷ Comes setup board inst port))
given_full setup board outlets inst port room messages kept ready shows are less is =
    let own = cut room messages in
    let reads : events_at (event_bytes kept.forge) ≡ map as_read own = ap events_at is ∙ messages_read own (each_cut room messages are) in
    ap (λ (first : List Event). bytes_of (merged room (first ∷ []))) reads
    ∙ merged_alike room (map as_read own ∷ []) (own ∷ []) (ap (λ (first : List Event). first ∷ []) (read_again own))
    ∙ ap bytes_of (merged_alone room messages are)
    ∙ ap bytes_of (sym (merged_full room messages (Comes setup board inst port) are (coming_from setup board outlets inst port ready shows) less))

pub given_bytes : (setup : Setup) (board : Board) (outlets : Outlets) (inst i : ℕ) (port : Port) (messages : Option Messages) → IsReady setup
    → ShowsOutputs setup board outlets → slice_get (ports_of setup inst) i ≡ Some port → is_atom port.kind ≡ true
    → KeepsFor (ports_of setup inst) (board.messages inst) messages
    → bytes_of (merged (port.room - 16) (map events_at (lists_at outlets messages i (sources_to setup inst port)))) ≡ bytes_of (events_given setup board inst port)
given_bytes setup board outlets inst i port None ready shows at atom keeps =
    given_none setup board outlets inst port (port.room - 16) atom ready shows
    ∙ ap (λ (found : Option ℕ). bytes_of (merged (port.room - 16) ((if option_map_or (nat_eq port.index) found false then board.messages inst else []) ∷ Comes setup board inst port)))
    (sym keeps)
given_bytes setup board outlets inst i port (Some kept) ready shows at atom keeps =
    by (eqb kept.port i) refl
    ∙ ap (λ (b : Bool). bytes_of (merged (port.room - 16) ((if b then board.messages inst else []) ∷ Comes setup board inst port)))
    (sym (patch_is setup inst i kept.port port (numbered_of setup inst ready i port at) keeps.0))
  where
    told : eqb kept.port i ≡ true → Keeps port.room (board.messages inst) kept
    told e =
        let room : room_of (ports_of setup inst) kept.port ≡ port.room =
        ap (room_of (ports_of setup inst)) (eqb-true kept.port i e) ∙ map_at (λ (it : Port). it.room) (ports_of setup inst) i port 0 at in
        subst (λ (n : ℕ). Keeps n (board.messages inst) kept) room keeps.1

    full : (b : Bool) → kept.full ≡ b → Keeps port.room (board.messages inst) kept
        → bytes_of (merged (port.room - 16) (map events_at (event_bytes kept.forge ∷ map (events_heard outlets) (if b then [] else sources_to setup inst port))))
        ≡ bytes_of (merged (port.room - 16) (board.messages inst ∷ Comes setup board inst port))
    full true e own =
        let short : nat_lt (length (cut (port.room - 16) (board.messages inst))) (length (board.messages inst)) ≡ true = sym own.full ∙ e in
        let less : length (cut (port.room - 16) (board.messages inst)) < length (board.messages inst) = grind (arith, nat_tests) in
        given_full setup board outlets inst port (port.room - 16) (board.messages inst) kept ready shows own.each less (kept_bytes port.room (board.messages inst) kept own)
    full false e own =
        let short : nat_lt (length (cut (port.room - 16) (board.messages inst))) (length (board.messages inst)) ≡ false = sym own.full ∙ e in
        let all : length (board.messages inst) ≤ length (cut (port.room - 16) (board.messages inst)) = grind (arith, nat_tests) in
        given_whole setup board outlets inst port (port.room - 16) (board.messages inst) kept atom ready shows own.each
        (kept_bytes port.room (board.messages inst) kept own ∙ ap bytes_of (cut_all (port.room - 16) (board.messages inst) all))

    by : (b : Bool) → eqb kept.port i ≡ b
        → bytes_of (merged (port.room - 16) (map events_at ((if b then event_bytes kept.forge else []) ∷ map (events_heard outlets) (if b && kept.full then [] else sources_to setup inst port))))
        ≡ bytes_of (merged (port.room - 16) ((if b then board.messages inst else []) ∷ Comes setup board inst port))
    by true e = full kept.full refl (told e)
    by false e = given_none setup board outlets inst port (port.room - 16) atom ready shows

-- ---- the sequence that has them

abbrev shown_as : List ℕ → Bor (List ℕ)
shown_as list = record { ref_ptr = (0, 0); now = list }

timed_as : (frames : ℕ) (lists : List (List ℕ)) → All (AreEventBytes frames) lists → AreTimed frames (map shown_as lists)
timed_as frames lists are = all_map (IsTimed frames) shown_as lists are

read_as : (lists : List (List ℕ)) → map events_of (map shown_as lists) ≡ map events_at lists
read_as [] = refl
read_as (list ∷ lists) = ap (λ (rest : List (List Event)). events_at list ∷ rest) (read_as lists)

pub merge_sequence : (frames room : ℕ) (lists : List (List ℕ)) → All (AreEventBytes frames) lists → 16 ≤ room → room < 2 ^ 32 → IsSequence frames (merge_of room lists)
merge_sequence frames room lists are space small =
    subst (λ (all : List (List Event)). IsSequence frames (sequence_of room (merged (room - 16) all))) (read_as lists)
    (merged_sequence room (map shown_as lists) frames (timed_as frames lists are) space small)
