-- The events that a run wrote stand at the places of its outputs.
use Rattle.std.proofs.Common.{◌≡◌, ℕ, ◌<◌, ◌≤◌, Bool, true, false, eqb, if◌then◌else◌, List, [], ◌∷◌, ◌++◌, length, get_or, set, refl, sym, ap, ◌∙◌, length-append, arith}
use Rattle.std.specs.Prelude.{slice_index}
use Rattle.std.proofs.lemmas.Bool.{false≢true, eqb-true, eqb-false}
use Rattle.std.proofs.lemmas.List.{length-set, get_or-set_same, get_or-set_other, drop-append-le}
use Rattle.plugin_decl.specs.declared.declaration.Port.{Port}
use Rattle.plugin_decl.specs.declared.declaration.PortKind.{PortKind}
use Rattle.plugin_decl.specs.declared.declaration.PortKind.TheVariants.{Audio, Cv, Control, Atom, Unsupported}
use Rattle.atom_core.specs.Value.{none as no_parts}
use Rattle.atom_forge.specs.Forged.{Forged, with_piece}
use Rattle.plug_api.specs.Buffers.{Left, forge_at, empty_forge, event_bytes, with_block, with_value, with_forge}
use Rattle.plug_api.specs.Inputs.{Outputs, signal_after}
use Rattle.plug_api.specs.Roles.{is_sound, is_control, is_atom, has_atom}
use Rattle.plug_api.specs.Running.{with_outputs, names, IsOutput, AreOutputs}
use Rattle.plug_api.specs.Sequences.{AreEventBytes}
use Rattle.plug_api.specs.Signal.{Signal, sound, control, events, nothing, events_in}
use Rattle.block_signals.proofs.Written.{sound_or_atom, two_ports, Apart}

-- ---- a port is in one list alone

atom_or_sound : (kind : PortKind) → is_atom kind ≡ true → is_sound kind ≡ true → Unit {0} → ⊥
atom_or_sound kind h k u = sound_or_atom kind k h u

atom_or_control : (kind : PortKind) → is_atom kind ≡ true → is_control kind ≡ true → Unit {0} → ⊥
atom_or_control Audio h k u = false≢true h
atom_or_control Cv h k u = false≢true h
atom_or_control Control h k u = false≢true h
atom_or_control Atom h k u = false≢true k
atom_or_control Unsupported h k u = false≢true h

-- ---- outputs of events

-- what is known of a forge to which a run writes: its events, and that they stand after 16 bytes
pub record Has (forge : Forged) (bytes : List ℕ) : Type 0 where
  pub long : 16 ≤ length forge.bytes
  pub events : event_bytes forge ≡ bytes

has_more : (forge : Forged) (bytes : List ℕ) → 16 ≤ length forge.bytes → event_bytes forge ≡ [] → Has (with_piece forge bytes false) bytes
has_more forge bytes long none = record {
  long = omega (arith, length-append forge.bytes bytes, long);
  events = drop-append-le 16 forge.bytes bytes long ∙ ap (λ (front : List ℕ). front ++ bytes) none;
}

-- a forge that stands at the place of port i has its events, and had none if they are written
pub events_written : (ports : List Port) (frames : ℕ) (places : List ℕ) (i : ℕ) → Apart is_atom ports places i → has_atom false ports i ≡ true
    → (outs : Left) (writes : Outputs) (bytes : List ℕ) → AreOutputs ports frames writes → slice_index places i < length outs.forges
    → Has (forge_at outs.forges (slice_index places i)) bytes → (names writes i ≡ true → bytes ≡ [])
    → Has (forge_at (with_outputs places outs writes).forges (slice_index places i)) (events_in (signal_after (events bytes) writes i))
events_written ports frames places i apart here outs [] bytes fit there has none = has
events_written ports frames places i apart here outs ((j, sound block) ∷ writes) bytes fit there has none =
    let other : eqb j i ≡ false = two_ports is_atom is_sound atom_or_sound ports i j here fit.0.0 in
    rw other (events_written ports frames places i apart here (with_block outs (slice_index places j) block) writes bytes fit.2 there has
    (λ named. none (ap (λ (b : Bool). if b then true else names writes i) other ∙ named)))
events_written ports frames places i apart here outs ((j, control value) ∷ writes) bytes fit there has none =
    let other : eqb j i ≡ false = two_ports is_atom is_control atom_or_control ports i j here fit.0 in
    rw other (events_written ports frames places i apart here (with_value outs (slice_index places j) value) writes bytes fit.2 there has
    (λ named. none (ap (λ (b : Bool). if b then true else names writes i) other ∙ named)))
events_written ports frames places i apart here outs ((j, events text) ∷ writes) bytes fit there has none =
    by (eqb j i) refl
    (λ given known. events_written ports frames places i apart here (with_forge outs (slice_index places j) forge) writes given fit.2
    (let long : length (set outs.forges (slice_index places j) forge) ≡ length outs.forges = length-set outs.forges (slice_index places j) forge in
    omega (arith, long, there)) known)
  where
    forge : Forged
    forge = with_piece (forge_at outs.forges (slice_index places j)) text false

    After : Signal → Type 0
    After signal = Has (forge_at (with_outputs places (with_forge outs (slice_index places j) forge) writes).forges (slice_index places i)) (events_in (signal_after signal writes i))

    by : (b : Bool) → eqb j i ≡ b
        → ((given : List ℕ) → Has (forge_at (set outs.forges (slice_index places j) forge) (slice_index places i)) given → (names writes i ≡ true → given ≡ []) → After (events given))
        → After (if eqb j i then events text else events bytes)
    by true e rest =
        let same : j ≡ i = eqb-true j i e in
        let empty : bytes ≡ [] = none (ap (λ (b : Bool). if b then true else names writes i) e) in
        let stands : forge_at (set outs.forges (slice_index places j) forge) (slice_index places i) ≡ with_piece (forge_at outs.forges (slice_index places i)) text false =
        (λ t. get_or (set outs.forges (slice_index places (same t)) (with_piece (forge_at outs.forges (slice_index places (same t))) text false)) (slice_index places i) (empty_forge 0))
        ∙ get_or-set_same outs.forges (slice_index places i) (with_piece (forge_at outs.forges (slice_index places i)) text false) (empty_forge 0) there in
        rw e (rest text (rw stands (has_more (forge_at outs.forges (slice_index places i)) text has.long (has.events ∙ empty)))
        (λ named. absurd (false≢true (sym fit.1 ∙ ap (names writes) same ∙ named))))
    by false e rest =
        let stands : forge_at (set outs.forges (slice_index places j) forge) (slice_index places i) ≡ forge_at outs.forges (slice_index places i) =
        get_or-set_other outs.forges (slice_index places j) (slice_index places i) forge (empty_forge 0) (λ same. eqb-false j i e (apart j fit.0.0 (sym same))) in
        rw e (rest bytes (rw stands has) (λ named. none (ap (λ (b : Bool). if b then true else names writes i) e ∙ named)))
events_written ports frames places i apart here outs ((j, nothing) ∷ writes) bytes fit there has none = absurd fit.0

-- ---- where there are none

-- at a port that is no output of events none come
pub no_events : (ports : List Port) (frames i : ℕ) → has_atom false ports i ≡ false → (before : Signal) (writes : Outputs) → AreOutputs ports frames writes
    → events_in before ≡ [] → events_in (signal_after before writes i) ≡ []
no_events ports frames i none before [] fit quiet = quiet
no_events ports frames i none before ((j, signal) ∷ writes) fit quiet = by (eqb j i) refl (λ (it : Signal) q. no_events ports frames i none it writes fit.2 q)
  where
    unheard : (it : Signal) → IsOutput ports frames j it → j ≡ i → events_in it ≡ []
    unheard (events bytes) is same = absurd (false≢true (sym none ∙ ap (has_atom false ports) (sym same) ∙ is.0))
    unheard (control value) is same = refl
    unheard (sound block) is same = refl
    unheard nothing is same = refl

    by : (b : Bool) → eqb j i ≡ b → ((it : Signal) → events_in it ≡ [] → events_in (signal_after it writes i) ≡ [])
        → events_in (signal_after (if eqb j i then signal else before) writes i) ≡ []
    by true e rest = rw e (rest signal (unheard signal fit.0 (eqb-true j i e)))
    by false e rest = rw e (rest before quiet)

-- ---- they lie in the block

pub none_timed : (frames : ℕ) → AreEventBytes frames []
none_timed frames = ∣ (no_parts, (tt, refl), tt) ∣₁

one_timed : (ports : List Port) (frames j : ℕ) (signal : Signal) → IsOutput ports frames j signal → AreEventBytes frames (events_in signal)
one_timed ports frames j (events bytes) is = is.2
one_timed ports frames j (sound block) is = none_timed frames
one_timed ports frames j (control value) is = none_timed frames
one_timed ports frames j nothing is = none_timed frames

pub events_timed : (ports : List Port) (frames i : ℕ) (before : Signal) (writes : Outputs) → AreOutputs ports frames writes → AreEventBytes frames (events_in before)
    → AreEventBytes frames (events_in (signal_after before writes i))
events_timed ports frames i before [] fit are = are
events_timed ports frames i before ((j, signal) ∷ writes) fit are =
    by (eqb j i) (λ (it : Signal) k. events_timed ports frames i it writes fit.2 k)
  where
    by : (b : Bool) → ((it : Signal) → AreEventBytes frames (events_in it) → AreEventBytes frames (events_in (signal_after it writes i)))
        → AreEventBytes frames (events_in (signal_after (if b then signal else before) writes i))
    by true rest = rest signal (one_timed ports frames j signal fit.0)
    by false rest = rest before are
