-- The events that come over cables, and those that are heard at their sources.
use Rattle.std.proofs.Common.{◌≡◌, ℕ, zero, suc, ◌<◌, Bool, true, false, not, ◌&&◌, if◌then◌else◌, All, List, [], ◌∷◌, ◌++◌, length, filter, get_or, map, Option, Some, None, slice_get, unwrap_or, pos, ◌≤ℤ◌, refl, sym, ap, subst, ◌∙◌, arith}
use Rattle.std.specs.Prelude.{slice_index, filter_map, option_and_then}
use Rattle.std.specs.Option.{option_map_or}
use Rattle.std.proofs.Math.Logic.{∥∥₁_elim}
use Rattle.std.proofs.Props.{props}
use Rattle.std.proofs.lemmas.Int.{ints}
use Rattle.std.proofs.lemmas.List.{length-map, get_or-map}
use Rattle.std.proofs.lemmas.List.Elements.{All-nil, All-head, All-tail}
use Rattle.std.proofs.lemmas.Option.{none-some, same_Some, slice_get_within, slice_get-get_or, get_or_from_slice_get}
use Rattle.plugin_decl.specs.declared.declaration.Port.{Port}
use Rattle.plugin_decl.specs.declared.declaration.PortKind.{PortKind}
use Rattle.plugin_decl.specs.declared.declaration.PortKind.TheVariants.{Audio, Cv, Control, Atom, Unsupported}
use Rattle.plugin_decl.specs.Valid as decl
use Rattle.session_script.specs.declared.session.CableLine.{CableLine}
use Rattle.graph_order.specs.declared.setup.Setup.{Setup}
use Rattle.graph_order.specs.Setup.{IsReady}
use Rattle.graph_order.specs.Ports.{port_at}
use Rattle.atom_core.specs.Atoms.{SpellEvents}
use Rattle.atom_core.specs.Spelling.{u32}
use Rattle.atom_forge.proofs.Pieces.{opening-length}
use Rattle.atom_sequence.specs.Event.{Event, as_parts}
use Rattle.atom_sequence.specs.Merge.{joined}
use Rattle.atom_sequence.proofs.Listing.{events_in as events_of_parts}
use Rattle.atom_sequence.proofs.Times.{From, le_true, true_le, all_cons}
use Rattle.event_signals.proofs.AsRead.{as_read, events_read}
use Rattle.event_signals.proofs.Orders.{Each, InBlock, each_of}
use Rattle.plug_api.specs.Buffers.{Left, begun_forge, begun, forge_at}
use Rattle.plug_api.specs.Inputs.{Outputs, signal_after}
use Rattle.plug_api.specs.Roles.{is_atom, port_is, has_atom, AreNumbered}
use Rattle.plug_api.specs.Sequences.{AreEventBytes, AreInOrder}
use Rattle.plug_api.specs.Signal.{events, nothing, events_in}
use Rattle.session_play.specs.EventBytes.{events_at}
use Rattle.session_play.specs.Setup.{ports_of}
use Rattle.session_play.specs.Signals.{quiet, cables_to}
use Rattle.block_signals.specs.declared.outlets.Outlets.{Outlets}
use Rattle.block_signals.specs.declared.source.Source.{Source}
use Rattle.block_signals.specs.Board.{Board}
use Rattle.block_signals.specs.Given.{output_after, led_from, cable_brings, coming}
use Rattle.block_signals.specs.Lending.{outlet_at}
use Rattle.block_signals.specs.Merging.{events_heard, GivesEvents}
use Rattle.block_signals.specs.Outlets.{Show, ShowsOutputs}
use Rattle.block_signals.specs.Places.{beside, outputs_among, place_in, places_of, quiet_outs}
use Rattle.block_signals.specs.Sources.{source_at, source_of, leads_to, source_to, sources_to}
use Rattle.block_signals.proofs.EventsWritten.{Has, events_written, no_events, none_timed, events_timed}
use Rattle.block_signals.proofs.Heard.{numbered_of, show_led, output_there, all_kept}
use Rattle.block_signals.proofs.Outs.{AreFormed, formed_after}
use Rattle.block_signals.proofs.Shown.{rooms_of}
use Rattle.block_signals.proofs.Places.{atoms, own_kind, places_apart, place_within}

-- ---- an output that is shown

quiet_atom : (frames : ℕ) (kind : PortKind) → is_atom kind ≡ true → quiet frames kind ≡ events []
quiet_atom frames Atom h = refl
quiet_atom frames Audio h = absurd cc
quiet_atom frames Cv h = absurd cc
quiet_atom frames Control h = absurd cc
quiet_atom frames Unsupported h = absurd cc

quiet_events : (frames : ℕ) (kind : PortKind) → events_in (quiet frames kind) ≡ []
quiet_events frames Audio = refl
quiet_events frames Cv = refl
quiet_events frames Control = refl
quiet_events frames Atom = refl
quiet_events frames Unsupported = refl

begun_has : (room : ℕ) → Has (begun_forge room) []
unfolding u32
begun_has room = record { long = omega (arith, opening-length 10 0 0); events = refl }

-- a sequence is begun at each place
begun_there : (ports : List Port) (place : ℕ) → place < length ports → Has (forge_at (map (λ (port : Port). begun_forge port.room) ports) place) []
begun_there [] place h = absurd (omega (arith, h))
begun_there (port ∷ ports) zero h = begun_has port.room
begun_there (port ∷ ports) (suc place) h = begun_there ports place (omega (arith, h))

shown_there : (frames : ℕ) (ports : List Port) (i : ℕ) → AreNumbered ports → has_atom false ports i ≡ true
    → slice_index (places_of ports) i < length (quiet_outs frames ports).forges
shown_there frames ports i numbered here =
    let within = place_within is_atom ports i atoms numbered here in
    omega (arith, within, length-map (outputs_among is_atom ports) (λ (port : Port). begun_forge port.room))

-- what stands at its place
shown_events : (frames : ℕ) (ports : List Port) (given : Option Outputs) (outs : Left) (i : ℕ) (port : Port) → AreNumbered ports → Show frames ports given outs
    → slice_get ports i ≡ Some port → has_atom false ports i ≡ true
    → Has (forge_at outs.forges (slice_index (places_of ports) i)) (events_in (output_after frames port given))
shown_events frames ports given outs i port numbered shown at here =
    let place = slice_index (places_of ports) i in
    let kind : is_atom port.kind ≡ true = own_kind port.input (is_atom port.kind) (sym (ap (port_is is_atom false) at) ∙ here) in
    let begun : Has (forge_at (quiet_outs frames ports).forges place) [] =
    begun_there (outputs_among is_atom ports) place (place_within is_atom ports i atoms numbered here) in
    let written = events_written ports frames (places_of ports) i (λ j h same. places_apart is_atom ports j i atoms numbered h here same) here (quiet_outs frames ports)
    (unwrap_or given []) [] shown.fit (shown_there frames ports i numbered here) begun (λ named. refl) in
    let same : events_in (signal_after (events []) (unwrap_or given []) i) ≡ events_in (output_after frames port given) =
    λ t. events_in (signal_after (sym (quiet_atom frames port.kind kind) t) (unwrap_or given []) (sym (numbered i port at) t)) in
    subst (Has (forge_at outs.forges place)) same
    (subst (λ (left : Left). Has (forge_at left.forges place) (events_in (signal_after (events []) (unwrap_or given []) i))) (sym shown.are) written)

shown_within : (frames : ℕ) (ports : List Port) (given : Option Outputs) (outs : Left) (i : ℕ) → All decl.HasRoom ports → AreNumbered ports
    → Show frames ports given outs → has_atom false ports i ≡ true → slice_index (places_of ports) i < length outs.forges
shown_within frames ports given outs i rooms numbered shown here =
    let formed : AreFormed frames ports outs = subst (AreFormed frames ports) (sym shown.are) (formed_after frames ports given rooms shown.fit) in
    let count : length outs.forges ≡ length (quiet_outs frames ports).forges = sym (length-map outs.forges begun) ∙ ap (λ (left : Left). length left.forges) formed in
    omega (arith, count, shown_there frames ports i numbered here)

-- ---- over one cable

-- a source has what comes over its cable; over a cable without one comes nothing
abbrev pub Gives : Outlets → List ℕ → Option Source → Type 0
Gives outlets bytes None = bytes ≡ []
Gives outlets bytes (Some source) = GivesEvents outlets source × (events_heard outlets source ≡ bytes)

atom_list : (kind : PortKind) → is_atom kind ≡ true → beside kind ≡ is_atom
atom_list kind h = atoms.own kind h

-- an output of an instance, as its cable names it
output_gives : (setup : Setup) (board : Board) (outlets : Outlets) (kind : PortKind) (cable : CableLine) (output : Port) (i : ℕ) → is_atom kind ≡ true
    → IsReady setup → ShowsOutputs setup board outlets → cable.source < length outlets.each.items → slice_get (ports_of setup cable.source) i ≡ Some output
    → Gives outlets (events_in (output_after setup.session.block output (led_from cable.delayed board cable.source))) (source_at setup kind cable output)
output_gives setup board outlets kind cable output i atom ready shows inside at = by (not output.input && beside kind output.kind) refl
  where
    as_atom : (not output.input && is_atom output.kind) ≡ (not output.input && beside kind output.kind)
    as_atom = sym (λ t. not output.input && atom_list kind atom t output.kind)

    ports : List Port
    ports = ports_of setup cable.source

    left : Left
    left = if cable.delayed then (outlet_at outlets cable.source).before else (outlet_at outlets cable.source).now

    shown : Show setup.session.block (ports_of setup cable.source) (led_from cable.delayed board cable.source)
        (if cable.delayed then (outlet_at outlets cable.source).before else (outlet_at outlets cable.source).now)
    shown = show_led cable.delayed (shows.shown cable.source (outlet_at outlets cable.source) (slice_get-get_or outlets.each.items cable.source _ inside))

    placed : slice_index (places_of (ports_of setup cable.source)) i ≡ place_in (ports_of setup cable.source) output
    placed =
        get_or-map (place_in (ports_of setup cable.source)) (ports_of setup cable.source) i output 0 (slice_get_within (ports_of setup cable.source) i output at)
        ∙ ap (place_in (ports_of setup cable.source)) (get_or_from_slice_get (ports_of setup cable.source) i output output at)

    by : (b : Bool) → (not output.input && beside kind output.kind) ≡ b
        → Gives outlets (events_in (output_after setup.session.block output (led_from cable.delayed board cable.source)))
        (if b then Some (record { inst = cable.source; place = place_in (ports_of setup cable.source) output; delayed = cable.delayed }) else None)
    by true e =
        let here : has_atom false (ports_of setup cable.source) i ≡ true = ap (port_is is_atom false) at ∙ as_atom ∙ e in
        let numbered = numbered_of setup cable.source ready in
        let has : Has (forge_at left.forges (place_in ports output)) (events_in (output_after setup.session.block output (led_from cable.delayed board cable.source))) =
        subst (λ (n : ℕ). Has (forge_at left.forges n) (events_in (output_after setup.session.block output (led_from cable.delayed board cable.source)))) placed
        (shown_events setup.session.block ports (led_from cable.delayed board cable.source) left i output numbered shown at here) in
        let there = shown_within setup.session.block ports (led_from cable.delayed board cable.source) left i (rooms_of setup cable.source ready) numbered shown here in
        (record { inst = inside; there = subst (λ (n : ℕ). n < length left.forges) placed there; begun = has.long }, has.events)
    by false e =
        let same : output.index ≡ i = numbered_of setup cable.source ready i output at in
        let none : has_atom false (ports_of setup cable.source) output.index ≡ false =
        ap (λ (n : ℕ). has_atom false (ports_of setup cable.source) n) same ∙ ap (port_is is_atom false) at ∙ as_atom ∙ e in
        no_events (ports_of setup cable.source) setup.session.block output.index none (quiet setup.session.block output.kind)
        (unwrap_or (led_from cable.delayed board cable.source) []) shown.fit (quiet_events setup.session.block output.kind)

pub cable_gives : (setup : Setup) (board : Board) (outlets : Outlets) (kind : PortKind) (cable : CableLine) → is_atom kind ≡ true
    → IsReady setup → ShowsOutputs setup board outlets → Gives outlets (events_in (cable_brings setup board cable)) (source_of setup kind cable)
cable_gives setup board outlets kind cable atom ready shows = by (port_at setup.decls cable.source cable.output) refl
  where
    by : (found : Option Port) → port_at setup.decls cable.source cable.output ≡ found
        → Gives outlets (events_in (option_map_or (λ (port : Port). output_after setup.session.block port (led_from cable.delayed board cable.source)) found nothing))
        (option_and_then (source_at setup kind cable) found)
    by None e = refl
    by (Some output) e =
        let there = output_there setup outlets board cable output ready shows e in
        output_gives setup board outlets kind cable output there.0 atom ready shows there.1 there.2

-- what comes over a cable lies in the block
pub cable_timed : (setup : Setup) (board : Board) (outlets : Outlets) (cable : CableLine) → IsReady setup → ShowsOutputs setup board outlets
    → AreEventBytes setup.session.block (events_in (cable_brings setup board cable))
cable_timed setup board outlets cable ready shows = by (port_at setup.decls cable.source cable.output) refl
  where
    by : (found : Option Port) → port_at setup.decls cable.source cable.output ≡ found
        → AreEventBytes setup.session.block
        (events_in (option_map_or (λ (port : Port). output_after setup.session.block port (led_from cable.delayed board cable.source)) found nothing))
    by None e = none_timed setup.session.block
    by (Some output) e =
        let there = output_there setup outlets board cable output ready shows e in
        let shown = show_led cable.delayed (shows.shown cable.source (outlet_at outlets cable.source) (slice_get-get_or outlets.each.items cable.source _ there.1)) in
        events_timed (ports_of setup cable.source) setup.session.block output.index (quiet setup.session.block output.kind)
        (unwrap_or (led_from cable.delayed board cable.source) []) shown.fit
        (subst (AreEventBytes setup.session.block) (sym (quiet_events setup.session.block output.kind)) (none_timed setup.session.block))

-- ---- over all cables

-- the lists of sources are those of the cables, but for empty ones
pub joined_heard : (setup : Setup) (board : Board) (outlets : Outlets) (inst : ℕ) (port : Port) → is_atom port.kind ≡ true → IsReady setup
    → ShowsOutputs setup board outlets
    → joined (map events_at (map (events_heard outlets) (sources_to setup inst port))) ≡ joined (map (λ it. events_at (events_in it)) (coming setup board inst port))
joined_heard setup board outlets inst port atom ready shows = over setup.session.cables
  where
    Over : List CableLine → Type 0
    Over cables =
        joined (map events_at (map (events_heard outlets) (filter_map (source_to setup inst port) cables)))
        ≡ joined (map (λ it. events_at (events_in it)) (map (cable_brings setup board) (filter (leads_to inst port) cables)))

    some : (cable : CableLine) (cables : List CableLine) (found : Option Source) → Gives outlets (events_in (cable_brings setup board cable)) found
        → leads_to inst port cable ≡ true → source_of setup port.kind cable ≡ found → Over cables → Over (cable ∷ cables)
    some cable cables None gives e k rest =
        rw (e, k) (rest ∙ ap (λ (bytes : List ℕ). events_at bytes ++ joined (map (λ it. events_at (events_in it)) (map (cable_brings setup board) (filter (leads_to inst port) cables)))) (sym gives))
    some cable cables (Some source) gives e k rest = rw (e, k) (λ t. events_at (gives.1 t) ++ rest t)

    by : (cable : CableLine) (cables : List CableLine) (b : Bool) → leads_to inst port cable ≡ b → Over cables → Over (cable ∷ cables)
    by cable cables false e rest = rw e rest
    by cable cables true e rest =
        some cable cables (source_of setup port.kind cable) (cable_gives setup board outlets port.kind cable atom ready shows) e refl rest

    over : (cables : List CableLine) → Over cables
    over [] = refl
    over (cable ∷ cables) = by cable cables (leads_to inst port cable) refl (over cables)

-- each source is there
pub sources_give : (setup : Setup) (board : Board) (outlets : Outlets) (inst : ℕ) (port : Port) → is_atom port.kind ≡ true → IsReady setup
    → ShowsOutputs setup board outlets → All (λ (source : Source). GivesEvents outlets source × AreEventBytes setup.session.block (events_heard outlets source)) (sources_to setup inst port)
sources_give setup board outlets inst port atom ready shows =
    all_kept Good (source_to setup inst port) (λ cable source e. by cable source (leads_to inst port cable) e) setup.session.cables
  where
    Good : Source → Type 0
    Good source = GivesEvents outlets source × AreEventBytes setup.session.block (events_heard outlets source)

    led : (cable : CableLine) (source : Source) (found : Option Source) → found ≡ Some source → Gives outlets (events_in (cable_brings setup board cable)) found → Good source
    led cable source None e gives = absurd (none-some source e)
    led cable source (Some other) e gives =
        subst Good (same_Some other source e)
        (gives.0, subst (AreEventBytes setup.session.block) (sym gives.1) (cable_timed setup board outlets cable ready shows))

    by : (cable : CableLine) (source : Source) (b : Bool) → (if b then source_of setup port.kind cable else None) ≡ Some source → Good source
    by cable source false e = absurd (none-some source e)
    by cable source true e = led cable source (source_of setup port.kind cable) e (cable_gives setup board outlets port.kind cable atom ready shows)

-- ---- none comes before the block

each_from : (frames : ℕ) (all : List Event) → Each (InBlock frames) all → From (pos 0) (map as_read all)
each_from frames [] each = All-nil _
each_from frames (e ∷ rest) each = all_cons (λ (f : Event). pos 0 ≤ℤ f.time) (as_read e) (map as_read rest) each.0.from (each_from frames rest each.1)

bool_set : IsSet Bool
bool_set = hlevel props

pub from_start : (frames : ℕ) (bytes : List ℕ) → AreEventBytes frames bytes → From (pos 0) (events_at bytes)
from_start frames bytes are = λ k d lt.
    true_le (pos 0) (get_or (events_at bytes) k d).time
    (∥∥₁_elim are (bool_set _ _) (λ x.
    let found = events_of_parts 16 x.0 x.1.0 in
    let spells : SpellEvents bytes (as_parts found.0) = subst (SpellEvents bytes) (sym found.1) x.1 in
    let order : AreInOrder (pos 0) frames (as_parts found.0) = subst (AreInOrder (pos 0) frames) (sym found.1) x.2 in
    let all : From (pos 0) (events_at bytes) =
    subst (From (pos 0)) (sym (events_read bytes found.0 spells)) (each_from frames found.0 (each_of frames (pos 0) found.0 (omega (arith, ints)) spells.0 order)) in
    le_true (pos 0) (get_or (events_at bytes) k d).time (all k d lt)))

from_append : (a b : List Event) → From (pos 0) a → From (pos 0) b → From (pos 0) (a ++ b)
from_append [] b h k = k
from_append (e ∷ a) b h k =
    all_cons (λ (f : Event). pos 0 ≤ℤ f.time) e (a ++ b) (All-head (λ (f : Event). pos 0 ≤ℤ f.time) e a h)
    (from_append a b (All-tail (λ (f : Event). pos 0 ≤ℤ f.time) e a h) k)

pub coming_from : (setup : Setup) (board : Board) (outlets : Outlets) (inst : ℕ) (port : Port) → IsReady setup → ShowsOutputs setup board outlets
    → From (pos 0) (joined (map (λ it. events_at (events_in it)) (coming setup board inst port)))
coming_from setup board outlets inst port ready shows = over (cables_to setup inst port)
  where
    over : (cables : List CableLine) → From (pos 0) (joined (map (λ it. events_at (events_in it)) (map (cable_brings setup board) cables)))
    over [] = All-nil _
    over (cable ∷ cables) =
        from_append (events_at (events_in (cable_brings setup board cable))) _
        (from_start setup.session.block (events_in (cable_brings setup board cable)) (cable_timed setup board outlets cable ready shows)) (over cables)
