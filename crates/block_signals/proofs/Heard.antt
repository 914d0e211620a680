-- What is heard over cables is what comes over them.
use Rattle.std.proofs.Common.{◌≡◌, ℕ, ◌<◌, ◌≤◌, ℤ, pos, get_or, map, Bool, true, false, not, ◌&&◌, if◌then◌else◌, List, [], ◌∷◌, ◌+ℤ◌, All, length, filter, fold, Option, Some, None, slice_get, unwrap_or, refl, sym, ap, subst, ◌∙◌, arith}
use Rattle.std.specs.Prelude.{slice_index, filter_map, option_and_then}
use Rattle.std.specs.Option.{option_map_or}
use Rattle.std.specs.Str.{bytes_eq}
use Rattle.std.specs.List.{range_with_len}
use Rattle.std.proofs.lemmas.List.Folds.{fold-map}
use Rattle.std.proofs.lemmas.Int.{ints}
use Rattle.std.proofs.lemmas.List.{length-map, length-replicate, get_or-map, get_or-replicate}
use Rattle.std.proofs.lemmas.Option.{none-some, same_Some, option_and_then_some, slice_get_within, slice_get-get_or, get_or_from_slice_get}
use Rattle.lv_base.specs.declared.number.Sample.{Sample}
use Rattle.lv_base.specs.Number.{clamped, mix_of}
use Rattle.std.proofs.lemmas.List.Elements.{All-nil, All-cons}
use Rattle.plugin_decl.specs.declared.declaration.Decl.{Decl}
use Rattle.plugin_decl.specs.declared.declaration.Port.{Port}
use Rattle.plugin_decl.specs.declared.declaration.PortKind.{PortKind}
use Rattle.plugin_decl.specs.Valid as decl
use Rattle.session_script.specs.declared.session.CableLine.{CableLine}
use Rattle.graph_order.specs.declared.setup.Setup.{Setup}
use Rattle.graph_order.specs.Setup.{IsReady}
use Rattle.graph_order.specs.Ports.{port_in, port_at}
use Rattle.plug_api.specs.Buffers.{Left, block_at}
use Rattle.plug_api.specs.Inputs.{Outputs, signal_after}
use Rattle.plug_api.specs.Ports.{HoldsBlock}
use Rattle.plug_api.specs.Roles.{is_sound, port_is, has_sound, AreNumbered}
use Rattle.plug_api.specs.Signal.{Signal, sound, nothing, samples_in}
use Rattle.plug_api.specs.Sound.{silent, silence, hushed}
use Rattle.session_play.specs.Setup.{ports_of}
use Rattle.session_play.specs.Signals.{quiet, cables_to, mixed}
use Rattle.block_signals.specs.declared.outlet.Outlet.{Outlet}
use Rattle.block_signals.specs.declared.outlets.Outlets.{Outlets}
use Rattle.block_signals.specs.declared.source.Source.{Source}
use Rattle.block_signals.specs.Board.{Board}
use Rattle.block_signals.specs.Given.{output_after, led_from, cable_brings, coming, sound_given}
use Rattle.block_signals.specs.Lending.{outlet_at}
use Rattle.block_signals.specs.Mixing.{heard, IsHeard}
use Rattle.block_signals.specs.Outlets.{Show, ShowsInstance, ShowsOutputs}
use Rattle.block_signals.specs.Places.{beside, outputs_among, places_of, place_in, quiet_outs}
use Rattle.block_signals.specs.Sources.{source_at, source_of, leads_to, source_to, sources_to}
use Rattle.block_signals.proofs.Outs.{AreFormed, block_formed, formed_after}
use Rattle.block_signals.proofs.Places.{sounds, sound_beside, own_kind, quiet_sound, places_apart, place_within}
use Rattle.block_signals.proofs.Shown.{decl_valid, rooms_of}
use Rattle.block_signals.proofs.Sources.{found_there, index_of}
use Rattle.block_signals.proofs.Written.{sound_written, IsSilent, quiet_silent, nothing_heard}

-- ---- an output that is shown

-- the ports of an instance are numbered
pub numbered_of : (setup : Setup) (inst : ℕ) → IsReady setup → AreNumbered (ports_of setup inst)
numbered_of setup inst ready i port = by (slice_get setup.decls inst) refl
  where
    by : (found : Option Decl) → slice_get setup.decls inst ≡ found → slice_get (option_map_or (λ (one : Decl). one.ports) found []) i ≡ Some port → port.index ≡ i
    by None e here = absurd (none-some port here)
    by (Some one) e here = index_of one i port (decl_valid setup inst one ready e) here

-- the outputs of an instance, with as many frames as there are
shown_block : (frames : ℕ) (ports : List Port) (given : Option Outputs) (outs : Left) (i : ℕ) → All decl.HasRoom ports → AreNumbered ports → Show frames ports given outs
    → has_sound false ports i ≡ true → HoldsBlock frames outs.blocks (slice_index (places_of ports) i)
shown_block frames ports given outs i rooms numbered shown here =
    let formed : AreFormed frames ports outs = subst (AreFormed frames ports) (sym shown.are) (formed_after frames ports given rooms shown.fit) in
    let blocks = ap (λ (left : Left). length left.blocks) formed in
    let count : length outs.blocks ≡ length (outputs_among is_sound ports) =
    sym (length-map outs.blocks hushed) ∙ blocks ∙ length-replicate (length (outputs_among is_sound ports)) (silence frames) in
    let within = place_within is_sound ports i sounds numbered here in
    let there : slice_index (places_of ports) i < length outs.blocks = omega (arith, count, within) in
    let whole = ap length (block_formed frames ports outs (slice_index (places_of ports) i) formed there) in
    record { there = there; whole = sym (length-replicate (length (block_at outs.blocks (slice_index (places_of ports) i))) silent) ∙ whole ∙ length-replicate frames silent }

-- what stands at its place
shown_sound : (frames : ℕ) (ports : List Port) (given : Option Outputs) (outs : Left) (i : ℕ) (port : Port) → AreNumbered ports → Show frames ports given outs
    → slice_get ports i ≡ Some port → has_sound false ports i ≡ true
    → block_at outs.blocks (slice_index (places_of ports) i) ≡ samples_in (output_after frames port given)
shown_sound frames ports given outs i port numbered shown at here =
    let place = slice_index (places_of ports) i in
    let n = length (outputs_among is_sound ports) in
    let within = place_within is_sound ports i sounds numbered here in
    let long = length-replicate n (silence frames) in
    let there : place < length (quiet_outs frames ports).blocks = omega (arith, within, long) in
    let kind : is_sound port.kind ≡ true = own_kind port.input (is_sound port.kind) (sym (ap (port_is is_sound false) at) ∙ here) in
    let before : sound (block_at (quiet_outs frames ports).blocks place) ≡ quiet frames port.kind =
    ap sound (get_or-replicate n place (silence frames) [] within) ∙ sym (quiet_sound frames port.kind kind) in
    ap (λ (left : Left). block_at left.blocks place) shown.are
    ∙ sound_written ports frames (places_of ports) i (λ j h same. places_apart is_sound ports j i sounds numbered h here same) here (quiet_outs frames ports)
    (unwrap_or given []) shown.fit there
    ∙ (λ t. samples_in (signal_after (before t) (unwrap_or given []) (sym (numbered i port at) t)))

-- ---- over one cable

-- a source has what comes over its cable; over a cable without one comes nothing that can be heard
abbrev pub CableHeard : ℕ → Outlets → List Sample → Option Source → Type 0
CableHeard frames outlets part None = IsSilent part
CableHeard frames outlets part (Some source) = IsHeard frames outlets source × (heard outlets source ≡ part)

pub show_led : {setup : Setup} {board : Board} {inst : ℕ} {outlet : Outlet} (delayed : Bool) → ShowsInstance setup board inst outlet
    → Show setup.session.block (ports_of setup inst) (led_from delayed board inst) (if delayed then outlet.before else outlet.now)
show_led false shown = shown.now
show_led true shown = shown.before

-- an output of an instance, as its cable names it
output_heard : (setup : Setup) (board : Board) (outlets : Outlets) (kind : PortKind) (cable : CableLine) (output : Port) (i : ℕ) → is_sound kind ≡ true
    → IsReady setup → ShowsOutputs setup board outlets → cable.source < length outlets.each.items → slice_get (ports_of setup cable.source) i ≡ Some output
    → CableHeard setup.session.block outlets (samples_in (output_after setup.session.block output (led_from cable.delayed board cable.source)))
    (source_at setup kind cable output)
output_heard setup board outlets kind cable output i sounding ready shows inside at = by (not output.input && beside kind output.kind) refl
  where
    as_sound : (not output.input && is_sound output.kind) ≡ (not output.input && beside kind output.kind)
    as_sound = sym (λ t. not output.input && sound_beside kind sounding t output.kind)

    shown : Show setup.session.block (ports_of setup cable.source) (led_from cable.delayed board cable.source)
        (if cable.delayed then (outlet_at outlets cable.source).before else (outlet_at outlets cable.source).now)
    shown = show_led cable.delayed (shows.shown cable.source (outlet_at outlets cable.source) (slice_get-get_or outlets.each.items cable.source _ inside))

    placed : slice_index (places_of (ports_of setup cable.source)) i ≡ place_in (ports_of setup cable.source) output
    placed =
        get_or-map (place_in (ports_of setup cable.source)) (ports_of setup cable.source) i output 0 (slice_get_within (ports_of setup cable.source) i output at)
        ∙ ap (place_in (ports_of setup cable.source)) (get_or_from_slice_get (ports_of setup cable.source) i output output at)

    by : (b : Bool) → (not output.input && beside kind output.kind) ≡ b
        → CableHeard setup.session.block outlets (samples_in (output_after setup.session.block output (led_from cable.delayed board cable.source)))
        (if b then Some (record { inst = cable.source; place = place_in (ports_of setup cable.source) output; delayed = cable.delayed }) else None)
    by true e =
        let here : has_sound false (ports_of setup cable.source) i ≡ true = ap (port_is is_sound false) at ∙ as_sound ∙ e in
        let numbered = numbered_of setup cable.source ready in
        let left : Left = if cable.delayed then (outlet_at outlets cable.source).before else (outlet_at outlets cable.source).now in (
          record {
            inst = inside;
            block = subst (HoldsBlock setup.session.block left.blocks) placed
                (shown_block setup.session.block (ports_of setup cable.source) (led_from cable.delayed board cable.source) left i (rooms_of setup cable.source ready) numbered shown here);
          },
          ap (block_at left.blocks) (sym placed)
              ∙ shown_sound setup.session.block (ports_of setup cable.source) (led_from cable.delayed board cable.source) left i output numbered shown at here,
        )
    by false e =
        let same : output.index ≡ i = numbered_of setup cable.source ready i output at in
        let none : has_sound false (ports_of setup cable.source) output.index ≡ false =
        ap (λ (n : ℕ). has_sound false (ports_of setup cable.source) n) same ∙ ap (port_is is_sound false) at ∙ as_sound ∙ e in
        nothing_heard (ports_of setup cable.source) setup.session.block output.index none (quiet setup.session.block output.kind)
        (unwrap_or (led_from cable.delayed board cable.source) []) shown.fit (quiet_silent setup.session.block output.kind)

-- the output that a cable leads from is a port of its instance, which is there
pub output_there : (setup : Setup) (outlets : Outlets) (board : Board) (cable : CableLine) (output : Port) → IsReady setup → ShowsOutputs setup board outlets
    → port_at setup.decls cable.source cable.output ≡ Some output
    → (i : ℕ) × (cable.source < length outlets.each.items) × (slice_get (ports_of setup cable.source) i ≡ Some output)
output_there setup outlets board cable output ready shows is =
    option_and_then_some (port_in cable.output) (slice_get setup.decls cable.source) output is
    (λ one here finds.
    let found = found_there (λ (it : Port). bytes_eq it.symbol cable.output) one.ports output finds in
    let inside = slice_get_within setup.decls cable.source one here in (
      found.0,
      omega (arith, inside, shows.all),
      ap (λ (it : Option Decl). slice_get (option_map_or (λ (d : Decl). d.ports) it []) found.0) here ∙ found.1,
    ))

pub cable_heard : (setup : Setup) (board : Board) (outlets : Outlets) (kind : PortKind) (cable : CableLine) → is_sound kind ≡ true
    → IsReady setup → ShowsOutputs setup board outlets
    → CableHeard setup.session.block outlets (samples_in (cable_brings setup board cable)) (source_of setup kind cable)
cable_heard setup board outlets kind cable sounding ready shows = by (port_at setup.decls cable.source cable.output) refl
  where
    by : (found : Option Port) → port_at setup.decls cable.source cable.output ≡ found
        → CableHeard setup.session.block outlets
        (samples_in (option_map_or (λ (port : Port). output_after setup.session.block port (led_from cable.delayed board cable.source)) found nothing))
        (option_and_then (source_at setup kind cable) found)
    by None e = λ frame. refl
    by (Some output) e =
        let there = output_there setup outlets board cable output ready shows e in
        output_heard setup board outlets kind cable output there.0 sounding ready shows there.1 there.2

-- ---- over all cables

-- what is added for a source is what comes over its cable
abbrev Agrees : {Y : Type 0} → (Y → ℤ) → Bool → Option Y → ℤ → Type 0
Agrees g false found n = found ≡ None
Agrees g true None n = n ≡ pos 0
Agrees g true (Some y) n = g y ≡ n

plus_none : (a n : ℤ) → n ≡ pos 0 → a ≡ a +ℤ n
plus_none a n h = omega (arith, ints)

sum_kept : {X Y : Type 0} → (f : X → Option Y) (p : X → Bool) (g : Y → ℤ) (h : X → ℤ) → ((x : X) → Agrees g (p x) (f x) (h x)) → (xs : List X) (acc : ℤ)
    → fold (λ s y. s +ℤ g y) acc (filter_map f xs) ≡ fold (λ s x. s +ℤ h x) acc (filter p xs)
sum_kept f p g h each [] acc = refl
sum_kept f p g h each (x ∷ xs) acc = by (p x) refl (f x) refl (each x) (λ (n : ℤ). sum_kept f p g h each xs n)
  where
    by : (b : Bool) → p x ≡ b → (found : Option _) → f x ≡ found → Agrees g b found (h x)
        → ((n : ℤ) → fold (λ s y. s +ℤ g y) n (filter_map f xs) ≡ fold (λ s y. s +ℤ h y) n (filter p xs))
        → fold (λ s y. s +ℤ g y) acc (filter_map f (x ∷ xs)) ≡ fold (λ s y. s +ℤ h y) acc (filter p (x ∷ xs))
    by false e None k agrees rest = rw (e, k) (rest acc)
    by false e (Some y) k agrees rest = absurd (none-some y (sym agrees))
    by true e None k agrees rest = rw (e, k) (rest acc ∙ ap (λ (n : ℤ). fold (λ s y. s +ℤ h y) n (filter p xs)) (plus_none acc (h x) agrees))
    by true e (Some y) k agrees rest = rw (e, k) (rest (acc +ℤ g y) ∙ ap (λ (n : ℤ). fold (λ s y. s +ℤ h y) (acc +ℤ n) (filter p xs)) agrees)

-- what is heard at the sources of a port, in one frame
frame_heard : (setup : Setup) (board : Board) (outlets : Outlets) (inst : ℕ) (port : Port) (frame : ℕ) → is_sound port.kind ≡ true → IsReady setup
    → ShowsOutputs setup board outlets
    → mix_of (map (λ part. get_or part frame silent) (map (heard outlets) (sources_to setup inst port)))
    ≡ mix_of (map (λ part. get_or part frame silent) (map samples_in (coming setup board inst port)))
frame_heard setup board outlets inst port frame sounding ready shows =
    let add : ℤ → Sample → ℤ = λ sum part. sum +ℤ part.0 in
    let cables = cables_to setup inst port in
    ap clamped
    (fold-map add (λ (part : List Sample). get_or part frame silent) (pos 0) (map (heard outlets) (sources_to setup inst port))
    ∙ fold-map (λ (sum : ℤ) (part : List Sample). sum +ℤ (get_or part frame silent).0) (heard outlets) (pos 0) (sources_to setup inst port)
    ∙ sum_kept (source_to setup inst port) (leads_to inst port) (λ source. (get_or (heard outlets source) frame silent).0)
    (λ cable. (get_or (samples_in (cable_brings setup board cable)) frame silent).0) each setup.session.cables (pos 0)
    ∙ sym (fold-map (λ (sum : ℤ) (part : Signal). sum +ℤ (get_or (samples_in part) frame silent).0) (cable_brings setup board) (pos 0) cables)
    ∙ sym (fold-map (λ (sum : ℤ) (part : List Sample). sum +ℤ (get_or part frame silent).0) samples_in (pos 0) (map (cable_brings setup board) cables))
    ∙ sym (fold-map add (λ (part : List Sample). get_or part frame silent) (pos 0) (map samples_in (map (cable_brings setup board) cables))))
  where
    led : (cable : CableLine) (found : Option Source) → CableHeard setup.session.block outlets (samples_in (cable_brings setup board cable)) found
        → Agrees (λ source. (get_or (heard outlets source) frame silent).0) true found (get_or (samples_in (cable_brings setup board cable)) frame silent).0
    led cable None h = ap (λ (it : Sample). it.0) (h frame)
    led cable (Some source) h = ap (λ (part : List Sample). (get_or part frame silent).0) h.1

    by : (cable : CableLine) (b : Bool)
        → Agrees (λ source. (get_or (heard outlets source) frame silent).0) b (if b then source_of setup port.kind cable else None)
        (get_or (samples_in (cable_brings setup board cable)) frame silent).0
    by cable false = refl
    by cable true = led cable (source_of setup port.kind cable) (cable_heard setup board outlets port.kind cable sounding ready shows)

    each : (cable : CableLine)
        → Agrees (λ source. (get_or (heard outlets source) frame silent).0) (leads_to inst port cable) (source_to setup inst port cable)
        (get_or (samples_in (cable_brings setup board cable)) frame silent).0
    each cable = by cable (leads_to inst port cable)

-- the mix of the sources of an input is what it is given
pub sound_heard : (setup : Setup) (board : Board) (outlets : Outlets) (inst : ℕ) (port : Port) → is_sound port.kind ≡ true → IsReady setup
    → ShowsOutputs setup board outlets → mixed setup.session.block (map (heard outlets) (sources_to setup inst port)) ≡ sound_given setup board inst port
sound_heard setup board outlets inst port sounding ready shows =
    λ t. map (λ frame. frame_heard setup board outlets inst port frame sounding ready shows t) (range_with_len 0 setup.session.block)

-- ---- each source is there

pub all_kept : {X Y : Type 0} → (P : Y → Type 0) (f : X → Option Y) → ((x : X) (y : Y) → f x ≡ Some y → P y) → (xs : List X) → All P (filter_map f xs)
all_kept P f each [] = All-nil P
all_kept P f each (x ∷ xs) = by (f x) refl (all_kept P f each xs)
  where
    by : (found : Option _) → f x ≡ found → All P (filter_map f xs) → All P (filter_map f (x ∷ xs))
    by None e rest = rw e rest
    by (Some y) e rest = rw e (All-cons P y (filter_map f xs) (each x y e) rest)

few_kept : {X Y : Type 0} → (f : X → Option Y) (xs : List X) → length (filter_map f xs) ≤ length xs
few_kept f [] = omega arith
few_kept f (x ∷ xs) = by (f x) refl (few_kept f xs)
  where
    by : (found : Option _) → f x ≡ found → length (filter_map f xs) ≤ length xs → length (filter_map f (x ∷ xs)) ≤ length (x ∷ xs)
    by None e rest = rw e (omega (arith, rest))
    by (Some y) e rest = rw e (omega (arith, rest))

pub sources_heard : (setup : Setup) (board : Board) (outlets : Outlets) (inst : ℕ) (port : Port) → is_sound port.kind ≡ true → IsReady setup
    → ShowsOutputs setup board outlets → All (IsHeard setup.session.block outlets) (sources_to setup inst port)
sources_heard setup board outlets inst port sounding ready shows =
    all_kept (IsHeard setup.session.block outlets) (source_to setup inst port) (λ cable source e. by cable source (leads_to inst port cable) e) setup.session.cables
  where
    led : (cable : CableLine) (source : Source) (found : Option Source) → found ≡ Some source
        → CableHeard setup.session.block outlets (samples_in (cable_brings setup board cable)) found → IsHeard setup.session.block outlets source
    led cable source None e h = absurd (none-some source e)
    led cable source (Some other) e h = subst (IsHeard setup.session.block outlets) (same_Some other source e) h.0

    by : (cable : CableLine) (source : Source) (b : Bool) → (if b then source_of setup port.kind cable else None) ≡ Some source
        → IsHeard setup.session.block outlets source
    by cable source false e = absurd (none-some source e)
    by cable source true e = led cable source (source_of setup port.kind cable) e (cable_heard setup board outlets port.kind cable sounding ready shows)

pub sources_few : (setup : Setup) (inst : ℕ) (port : Port) → IsReady setup → length (sources_to setup inst port) ≤ 256
sources_few setup inst port ready = omega (arith, few_kept (source_to setup inst port) setup.session.cables, ready.session.few_cables)
