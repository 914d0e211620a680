-- What a run wrote stands at the places of its outputs.
use Rattle.std.proofs.Common.{◌≡◌, ℕ, ◌<◌, ◌≤◌, Bool, true, false, eqb, if◌then◌else◌, List, [], ◌∷◌, length, get_or, set, Option, Some, None, slice_get, refl, sym, ap, ◌∙◌, ◌⊎◌, inl, inr, arith}
use Rattle.std.specs.Prelude.{slice_index}
use Rattle.std.proofs.lemmas.Bool.{false≢true, eqb-true, eqb-false, cases_lt}
use Rattle.std.proofs.lemmas.List.{length-set, length-replicate, get_or-replicate, get_or_past, get_or-set_same, get_or-set_other}
use Rattle.lv_base.specs.declared.number.Sample.{Sample}
use Rattle.plugin_decl.specs.declared.declaration.Port.{Port}
use Rattle.plugin_decl.specs.declared.declaration.PortKind.{PortKind}
use Rattle.plugin_decl.specs.declared.declaration.PortKind.TheVariants.{Audio, Cv, Control, Atom, Unsupported}
use Rattle.atom_forge.specs.Forged.{with_piece}
use Rattle.plug_api.specs.Buffers.{Left, block_at, forge_at, with_block, with_value, with_forge}
use Rattle.plug_api.specs.Inputs.{Outputs, signal_after}
use Rattle.plug_api.specs.Roles.{is_sound, is_control, is_atom, port_is, has, has_sound}
use Rattle.plug_api.specs.Running.{with_outputs, IsOutput, AreOutputs}
use Rattle.plug_api.specs.Signal.{Signal, sound, control, events, nothing, samples_in}
use Rattle.plug_api.specs.Sound.{silent, silence}
use Rattle.session_play.specs.Signals.{quiet}
use Rattle.block_signals.proofs.Places.{own_kind}

-- ---- a port is in one list alone

sound_or_control : (kind : PortKind) → is_sound kind ≡ true → is_control kind ≡ true → Unit {0} → ⊥
sound_or_control Audio h k u = false≢true k
sound_or_control Cv h k u = false≢true k
sound_or_control Control h k u = false≢true h
sound_or_control Atom h k u = false≢true h
sound_or_control Unsupported h k u = false≢true h

pub sound_or_atom : (kind : PortKind) → is_sound kind ≡ true → is_atom kind ≡ true → Unit {0} → ⊥
sound_or_atom Audio h k u = false≢true k
sound_or_atom Cv h k u = false≢true k
sound_or_atom Control h k u = false≢true h
sound_or_atom Atom h k u = false≢true h
sound_or_atom Unsupported h k u = false≢true h

-- so two ports of two lists are two
pub two_ports : (one other : PortKind → Bool) → ((kind : PortKind) → one kind ≡ true → other kind ≡ true → Unit {0} → ⊥) → (ports : List Port) (i j : ℕ)
    → has one false ports i ≡ true → has other false ports j ≡ true → eqb j i ≡ false
two_ports one other apart ports i j here there = by (eqb j i) refl
  where
    at : (found : Option Port) → port_is one false found ≡ true → port_is other false found ≡ true → ⊥
    at None h k = false≢true h
    at (Some port) h k = apart port.kind (own_kind port.input (one port.kind) h) (own_kind port.input (other port.kind) k) tt

    by : (b : Bool) → eqb j i ≡ b → eqb j i ≡ false
    by false e = e
    by true e = absurd (at (slice_get ports i) here (ap (has other false ports) (sym (eqb-true j i e)) ∙ there))

-- ---- outputs of sound

-- no other output of a list has the place of port i
abbrev pub Apart : (PortKind → Bool) → List Port → List ℕ → ℕ → Type 0
Apart kind ports places i = (j : ℕ) → has kind false ports j ≡ true → slice_index places j ≡ slice_index places i → j ≡ i

pub sound_written : (ports : List Port) (frames : ℕ) (places : List ℕ) (i : ℕ) → Apart is_sound ports places i → has_sound false ports i ≡ true
    → (outs : Left) (writes : Outputs) → AreOutputs ports frames writes → slice_index places i < length outs.blocks
    → block_at (with_outputs places outs writes).blocks (slice_index places i)
    ≡ samples_in (signal_after (sound (block_at outs.blocks (slice_index places i))) writes i)
sound_written ports frames places i apart here outs [] fit there = refl
sound_written ports frames places i apart here outs ((j, sound block) ∷ writes) fit there =
    by (eqb j i) refl
    (sound_written ports frames places i apart here (with_block outs (slice_index places j) block) writes fit.2
    (let long : length (set outs.blocks (slice_index places j) block) ≡ length outs.blocks = length-set outs.blocks (slice_index places j) block in
    omega (arith, long, there)))
  where
    by : (b : Bool) → eqb j i ≡ b
        → block_at (with_outputs places (with_block outs (slice_index places j) block) writes).blocks (slice_index places i)
        ≡ samples_in (signal_after (sound (block_at (set outs.blocks (slice_index places j) block) (slice_index places i))) writes i)
        → block_at (with_outputs places (with_block outs (slice_index places j) block) writes).blocks (slice_index places i)
        ≡ samples_in (signal_after (if eqb j i then sound block else sound (block_at outs.blocks (slice_index places i))) writes i)
    by true e rest =
        rw e (rest ∙ ap (λ (it : List Sample). samples_in (signal_after (sound it) writes i))
        (ap (λ (n : ℕ). get_or (set outs.blocks (slice_index places n) block) (slice_index places i) []) (eqb-true j i e)
        ∙ get_or-set_same outs.blocks (slice_index places i) block [] there))
    by false e rest =
        rw e (rest ∙ ap (λ (it : List Sample). samples_in (signal_after (sound it) writes i))
        (get_or-set_other outs.blocks (slice_index places j) (slice_index places i) block [] (λ same. eqb-false j i e (apart j fit.0.0 (sym same)))))
sound_written ports frames places i apart here outs ((j, control value) ∷ writes) fit there =
    let other : eqb j i ≡ false = two_ports is_sound is_control sound_or_control ports i j here fit.0 in
    rw other (sound_written ports frames places i apart here (with_value outs (slice_index places j) value) writes fit.2 there)
sound_written ports frames places i apart here outs ((j, events bytes) ∷ writes) fit there =
    let other : eqb j i ≡ false = two_ports is_sound is_atom sound_or_atom ports i j here fit.0.0 in
    rw other (sound_written ports frames places i apart here
    (with_forge outs (slice_index places j) (with_piece (forge_at outs.forges (slice_index places j)) bytes false)) writes fit.2 there)
sound_written ports frames places i apart here outs ((j, nothing) ∷ writes) fit there = absurd fit.0

-- ---- where nothing can be heard

-- a signal in which every frame is silent
abbrev pub IsSilent : List Sample → Type 0
IsSilent part = (frame : ℕ) → get_or part frame silent ≡ silent

silence_silent : (frames : ℕ) → IsSilent (silence frames)
silence_silent frames = λ frame. by frame (cases_lt frame frames)
  where
    by : (frame : ℕ) → (frame < frames) ⊎ (frames ≤ frame) → get_or (silence frames) frame silent ≡ silent
    by frame (inl h) = get_or-replicate frames frame silent silent h
    by frame (inr h) = let long : length (silence frames) ≡ frames = length-replicate frames silent in get_or_past (silence frames) frame silent (omega (arith, h, long))

pub quiet_silent : (frames : ℕ) (kind : PortKind) → IsSilent (samples_in (quiet frames kind))
quiet_silent frames Audio = silence_silent frames
quiet_silent frames Cv = silence_silent frames
quiet_silent frames Control = λ frame. refl
quiet_silent frames Atom = λ frame. refl
quiet_silent frames Unsupported = λ frame. refl

-- at a port that is no output of sound nothing is heard
pub nothing_heard : (ports : List Port) (frames i : ℕ) → has_sound false ports i ≡ false → (before : Signal) (writes : Outputs) → AreOutputs ports frames writes
    → IsSilent (samples_in before) → IsSilent (samples_in (signal_after before writes i))
nothing_heard ports frames i none before [] fit quiet = quiet
nothing_heard ports frames i none before ((j, signal) ∷ writes) fit quiet =
    by (eqb j i) refl (λ (it : Signal) q. nothing_heard ports frames i none it writes fit.2 q)
  where
    unheard : (it : Signal) → IsOutput ports frames j it → j ≡ i → IsSilent (samples_in it)
    unheard (sound block) is same = absurd (false≢true (sym none ∙ ap (has_sound false ports) (sym same) ∙ is.0))
    unheard (control value) is same = λ frame. refl
    unheard (events bytes) is same = λ frame. refl
    unheard nothing is same = λ frame. refl

    by : (b : Bool) → eqb j i ≡ b → ((it : Signal) → IsSilent (samples_in it) → IsSilent (samples_in (signal_after it writes i)))
        → IsSilent (samples_in (signal_after (if eqb j i then signal else before) writes i))
    by true e rest = rw e (rest signal (unheard signal fit.0 (eqb-true j i e)))
    by false e rest = rw e (rest before quiet)
