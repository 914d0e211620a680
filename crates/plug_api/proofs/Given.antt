-- What an input port is given is what stands at its place.
use Rattle.std.proofs.Common.{◌≡◌, ℕ, Bool, true, false, ◌&&◌, List, Option, Some, None, map, if◌then◌else◌, slice_get, slice_index_or, sym, ◌∙◌, ap, refl, option_map}
use Rattle.std.proofs.lemmas.Bool.{false≢true}
use Rattle.std.proofs.lemmas.Option.{slice_get-map, get_or_from_slice_get}
use Rattle.plugin_decl.specs.declared.declaration.Port.{Port}
use Rattle.plugin_decl.specs.declared.declaration.PortKind.{PortKind}
use Rattle.plugin_decl.specs.declared.declaration.PortKind.TheVariants.{Audio, Cv, Control, Atom, Unsupported}
use Rattle.plug_api.specs.Signal.{Signal, nothing, samples_in, value_in, events_in}
use Rattle.plug_api.specs.Buffers.{Given, block_at, fixed_at, forge_at, event_bytes}
use Rattle.plug_api.specs.Roles.{is_sound, is_control, is_atom, port_is, has, has_sound, has_control, has_atom, AreNumbered}
use Rattle.plug_api.specs.Ports.{kind_given, port_given}

sound_of_kind : (ins : Given) (input : Bool) (kind : PortKind) (i : ℕ) → (input && is_sound kind) ≡ true
    → samples_in (if input then kind_given kind ins i else nothing) ≡ block_at ins.blocks i
sound_of_kind ins true Audio i h = refl
sound_of_kind ins true Cv i h = refl
sound_of_kind ins true Control i h = absurd (false≢true h)
sound_of_kind ins true Atom i h = absurd (false≢true h)
sound_of_kind ins true Unsupported i h = absurd (false≢true h)
sound_of_kind ins false kind i h = absurd (false≢true h)

value_of_kind : (ins : Given) (input : Bool) (kind : PortKind) (i : ℕ) → (input && is_control kind) ≡ true
    → value_in (if input then kind_given kind ins i else nothing) ≡ fixed_at ins.values i
value_of_kind ins true Control i h = refl
value_of_kind ins true Audio i h = absurd (false≢true h)
value_of_kind ins true Cv i h = absurd (false≢true h)
value_of_kind ins true Atom i h = absurd (false≢true h)
value_of_kind ins true Unsupported i h = absurd (false≢true h)
value_of_kind ins false kind i h = absurd (false≢true h)

events_of_kind : (ins : Given) (input : Bool) (kind : PortKind) (i : ℕ) → (input && is_atom kind) ≡ true
    → events_in (if input then kind_given kind ins i else nothing) ≡ event_bytes (forge_at ins.events i)
events_of_kind ins true Atom i h = refl
events_of_kind ins true Audio i h = absurd (false≢true h)
events_of_kind ins true Cv i h = absurd (false≢true h)
events_of_kind ins true Control i h = absurd (false≢true h)
events_of_kind ins true Unsupported i h = absurd (false≢true h)
events_of_kind ins false kind i h = absurd (false≢true h)

-- what is seen of the signal at port i, where it is seen of the port that stands there
seen_given : {R : Type 0} (see : Signal → R) (kind : PortKind → Bool) (ins : Given) (ports : List Port) (i : ℕ) (value : R)
    → ((port : Port) → slice_get ports i ≡ Some port → port_is kind true (Some port) ≡ true → see (port_given ins port) ≡ value)
    → has kind true ports i ≡ true → see (slice_index_or (map (port_given ins) ports) i nothing) ≡ value
seen_given see kind ins ports i value at h = by (slice_get ports i) refl
  where
    by : (found : Option Port) → slice_get ports i ≡ found → see (slice_index_or (map (port_given ins) ports) i nothing) ≡ value
    by None e = absurd (false≢true (sym (ap (port_is kind true) e) ∙ h))
    by (Some port) e =
        let here : slice_get (map (port_given ins) ports) i ≡ Some (port_given ins port) =
        slice_get-map (port_given ins) ports i ∙ ap (option_map (port_given ins)) e in
        ap see (get_or_from_slice_get _ i _ nothing here) ∙ at port e (sym (ap (port_is kind true) e) ∙ h)

pub samples_given : (ins : Given) (ports : List Port) (i : ℕ) → AreNumbered ports → has_sound true ports i ≡ true
    → samples_in (slice_index_or (map (port_given ins) ports) i nothing) ≡ block_at ins.blocks i
samples_given ins ports i numbered h =
    seen_given samples_in is_sound ins ports i (block_at ins.blocks i)
    (λ port e is. sound_of_kind ins port.input port.kind port.index is ∙ ap (λ k. block_at ins.blocks k) (numbered i port e)) h

pub value_given : (ins : Given) (ports : List Port) (i : ℕ) → AreNumbered ports → has_control true ports i ≡ true
    → value_in (slice_index_or (map (port_given ins) ports) i nothing) ≡ fixed_at ins.values i
value_given ins ports i numbered h =
    seen_given value_in is_control ins ports i (fixed_at ins.values i)
    (λ port e is. value_of_kind ins port.input port.kind port.index is ∙ ap (λ k. fixed_at ins.values k) (numbered i port e)) h

pub events_given : (ins : Given) (ports : List Port) (i : ℕ) → AreNumbered ports → has_atom true ports i ≡ true
    → events_in (slice_index_or (map (port_given ins) ports) i nothing) ≡ event_bytes (forge_at ins.events i)
events_given ins ports i numbered h =
    seen_given events_in is_atom ins ports i (event_bytes (forge_at ins.events i))
    (λ port e is. events_of_kind ins port.input port.kind port.index is ∙ ap (λ k. event_bytes (forge_at ins.events k)) (numbered i port e)) h
