-- What a code wrote so far in a run, and what it finds at the outputs that it hasn't written yet.
use Rattle.std.proofs.Common.{◌≡◌, ℕ, ◌+◌, ◌<◌, ◌≤◌, Bool, true, false, IsTrue, eqb, List, [], ◌∷◌, ◌++◌, length, get_or, set, slice_get, sym, ◌∙◌, ap, refl, subst, arith, if◌then◌else◌}
use Rattle.std.proofs.lemmas.Bool.{eqb-true, eqb-false, eq-eqb, ne_eqb, false≢true, cases_eq}
use Rattle.std.proofs.lemmas.List.{length-set, get_or-set_other}
use Rattle.std.specs.Prelude.{slice_index, ◌⊎◌}
use Rattle.interaction.specs.Interaction.{Interaction, done}
use Rattle.interaction.specs.Attempts.{Attempt, Plays}
use Rattle.lv_base.specs.declared.number.Fixed.{Fixed}
use Rattle.lv_base.specs.declared.number.Sample.{Sample}
use Rattle.atom_forge.specs.Forged.{with_piece}
use Rattle.plugin_decl.specs.declared.declaration.Port.{Port}
use Rattle.plugin_decl.specs.declared.declaration.PortKind.{PortKind}
use Rattle.plug_api.specs.declared.ports.Ports.{Ports}
use Rattle.plug_api.specs.Chains.{ChainsAttempts}
use Rattle.plug_api.specs.Sound.{silence}
use Rattle.plug_api.specs.Signal.{Signal, sound, control, events, nothing, nought}
use Rattle.plug_api.specs.Inputs.{Inputs, Outputs}
use Rattle.plug_api.specs.Buffers.{Left, block_at, fixed_at, forge_at, with_block, with_value, with_forge, begun_forge}
use Rattle.plug_api.specs.Roles.{has, has_sound, has_control, has_atom, is_sound, is_control, is_atom}
use Rattle.plug_api.specs.Sequences.{AreEventBytes}
use Rattle.plug_api.specs.Ports.{ports_of, ins_of, places_of, outs_of, place_of, room_of, inputs_of, IsLent, IsSameLoan}
use Rattle.plug_api.specs.Running.{with_signal, with_outputs, IsOutput, names, AreOutputs, Runs}
use Rattle.plug_api.proofs.Lent.{has_place}

-- since the ports were lent these outputs were written, and nothing else
pub record Wrote (lent new : Ports) (outputs : Outputs) : Type 0 where
  pub loan : IsSameLoan lent new
  pub fit : AreOutputs (ports_of lent) (ins_of lent).frames outputs
  pub outs : outs_of new ≡ with_outputs (places_of lent) (outs_of lent) outputs

-- a port is written whose place no other port of its kind has
abbrev Apart : (PortKind → Bool) → List Port → List ℕ → ℕ → Type 0
Apart kind ports places i = (j : ℕ) → has kind false ports j ≡ true → slice_index places j ≡ slice_index places i → j ≡ i

-- no list of buffers gets longer or shorter
blocks_after : (places : List ℕ) (outs : Left) (writes : Outputs) → length (with_outputs places outs writes).blocks ≡ length outs.blocks
blocks_after places outs [] = refl
blocks_after places outs ((i, sound block) ∷ writes) =
    blocks_after places (with_block outs (slice_index places i) block) writes ∙ length-set outs.blocks (slice_index places i) block
blocks_after places outs ((i, control value) ∷ writes) = blocks_after places (with_value outs (slice_index places i) value) writes
blocks_after places outs ((i, events bytes) ∷ writes) =
    blocks_after places (with_forge outs (slice_index places i) (with_piece (forge_at outs.forges (slice_index places i)) bytes false)) writes
blocks_after places outs ((i, nothing) ∷ writes) = blocks_after places outs writes

values_after : (places : List ℕ) (outs : Left) (writes : Outputs) → length (with_outputs places outs writes).values ≡ length outs.values
values_after places outs [] = refl
values_after places outs ((i, sound block) ∷ writes) = values_after places (with_block outs (slice_index places i) block) writes
values_after places outs ((i, control value) ∷ writes) =
    values_after places (with_value outs (slice_index places i) value) writes ∙ length-set outs.values (slice_index places i) value
values_after places outs ((i, events bytes) ∷ writes) =
    values_after places (with_forge outs (slice_index places i) (with_piece (forge_at outs.forges (slice_index places i)) bytes false)) writes
values_after places outs ((i, nothing) ∷ writes) = values_after places outs writes

forges_after : (places : List ℕ) (outs : Left) (writes : Outputs) → length (with_outputs places outs writes).forges ≡ length outs.forges
forges_after places outs [] = refl
forges_after places outs ((i, sound block) ∷ writes) = forges_after places (with_block outs (slice_index places i) block) writes
forges_after places outs ((i, control value) ∷ writes) = forges_after places (with_value outs (slice_index places i) value) writes
forges_after places outs ((i, events bytes) ∷ writes) =
    forges_after places (with_forge outs (slice_index places i) (with_piece (forge_at outs.forges (slice_index places i)) bytes false)) writes
    ∙ length-set outs.forges (slice_index places i) (with_piece (forge_at outs.forges (slice_index places i)) bytes false)
forges_after places outs ((i, nothing) ∷ writes) = forges_after places outs writes

-- a port that no write names is another than the first, and isn't named by the others
unnamed : (same later : Bool) → (if same then true else later) ≡ false → (same ≡ false) × (later ≡ false)
unnamed false later e = (refl, e)
unnamed true later e = absurd (false≢true (sym e))

-- so its place is another one
elsewhere : (kind : PortKind → Bool) (ports : List Port) (places : List ℕ) (i j : ℕ) → Apart kind ports places i
    → has kind false ports j ≡ true → eqb j i ≡ false → slice_index places i ≡ slice_index places j → ⊥
elsewhere kind ports places i j apart is other same = eqb-false j i other (apart j is (sym same))

block_stays : (ports : List Port) (frames : ℕ) (places : List ℕ) (i : ℕ) → Apart is_sound ports places i → (outs : Left) (writes : Outputs)
    → AreOutputs ports frames writes → names writes i ≡ false
    → block_at (with_outputs places outs writes).blocks (slice_index places i) ≡ block_at outs.blocks (slice_index places i)
block_stays ports frames places i apart outs [] fit new = refl
block_stays ports frames places i apart outs ((j, sound block) ∷ writes) fit new =
    let rest = unnamed (eqb j i) (names writes i) new in
    block_stays ports frames places i apart (with_block outs (slice_index places j) block) writes fit.2 rest.1
    ∙ get_or-set_other outs.blocks (slice_index places j) (slice_index places i) block []
    (elsewhere is_sound ports places i j apart fit.0.0 rest.0)
block_stays ports frames places i apart outs ((j, control value) ∷ writes) fit new =
    block_stays ports frames places i apart (with_value outs (slice_index places j) value) writes fit.2 (unnamed (eqb j i) (names writes i) new).1
block_stays ports frames places i apart outs ((j, events bytes) ∷ writes) fit new =
    block_stays ports frames places i apart
    (with_forge outs (slice_index places j) (with_piece (forge_at outs.forges (slice_index places j)) bytes false)) writes fit.2
    (unnamed (eqb j i) (names writes i) new).1
block_stays ports frames places i apart outs ((j, nothing) ∷ writes) fit new = absurd fit.0

forge_stays : (ports : List Port) (frames : ℕ) (places : List ℕ) (i : ℕ) → Apart is_atom ports places i → (outs : Left) (writes : Outputs)
    → AreOutputs ports frames writes → names writes i ≡ false
    → forge_at (with_outputs places outs writes).forges (slice_index places i) ≡ forge_at outs.forges (slice_index places i)
forge_stays ports frames places i apart outs [] fit new = refl
forge_stays ports frames places i apart outs ((j, sound block) ∷ writes) fit new =
    forge_stays ports frames places i apart (with_block outs (slice_index places j) block) writes fit.2 (unnamed (eqb j i) (names writes i) new).1
forge_stays ports frames places i apart outs ((j, control value) ∷ writes) fit new =
    forge_stays ports frames places i apart (with_value outs (slice_index places j) value) writes fit.2 (unnamed (eqb j i) (names writes i) new).1
forge_stays ports frames places i apart outs ((j, events bytes) ∷ writes) fit new =
    let rest = unnamed (eqb j i) (names writes i) new in
    forge_stays ports frames places i apart
    (with_forge outs (slice_index places j) (with_piece (forge_at outs.forges (slice_index places j)) bytes false)) writes fit.2 rest.1
    ∙ get_or-set_other outs.forges (slice_index places j) (slice_index places i)
    (with_piece (forge_at outs.forges (slice_index places j)) bytes false) _
    (elsewhere is_atom ports places i j apart fit.0.0 rest.0)
forge_stays ports frames places i apart outs ((j, nothing) ∷ writes) fit new = absurd fit.0

-- one more write, at a port that wasn't named
after_more : (places : List ℕ) (outs : Left) (writes : Outputs) (i : ℕ) (signal : Signal)
    → with_outputs places outs (writes ++ (i, signal) ∷ []) ≡ with_signal places (with_outputs places outs writes) i signal
after_more places outs [] i signal = refl
after_more places outs (write ∷ writes) i signal = after_more places (with_signal places outs write.0 write.1) writes i signal

named_more : (writes : Outputs) (i j : ℕ) (signal : Signal) → names writes i ≡ false → eqb j i ≡ false → names (writes ++ (j, signal) ∷ []) i ≡ false
named_more [] i j signal new other = rw other refl
named_more (write ∷ writes) i j signal new other =
    let rest = unnamed (eqb write.0 i) (names writes i) new in
    rw rest.0 (named_more writes i j signal rest.1 other)

apart_numbers : (i j : ℕ) → eqb i j ≡ false → eqb j i ≡ false
apart_numbers i j e = ne_eqb j i (λ same. eqb-false i j e (sym same))

fit_more : (ports : List Port) (frames : ℕ) (writes : Outputs) (i : ℕ) (signal : Signal) → AreOutputs ports frames writes
    → names writes i ≡ false → IsOutput ports frames i signal → AreOutputs ports frames (writes ++ (i, signal) ∷ [])
fit_more ports frames [] i signal fit new is = (is, refl, tt)
fit_more ports frames (write ∷ writes) i signal fit new is =
    let rest = unnamed (eqb write.0 i) (names writes i) new in
    (fit.0, named_more writes write.0 i signal fit.1 (apart_numbers write.0 i rest.0), fit_more ports frames writes i signal fit.2 rest.1 is)

-- before anything is written
pub wrote_none : (lent : Ports) → Wrote lent lent []
wrote_none lent = record { loan = record { ports = refl; ins = refl; places = refl; reference = refl }; fit = tt; outs = refl }

-- the inputs stay as they were
pub inputs_stay : (lent new : Ports) → IsSameLoan lent new → inputs_of new ≡ inputs_of lent
inputs_stay lent new loan = rw (loan.ports, loan.ins) refl

place_stays : (lent new : Ports) (i : ℕ) → IsSameLoan lent new → place_of new i ≡ place_of lent i
place_stays lent new i loan = ap (λ (places : List ℕ). slice_index places i) loan.places

-- an output port has a place
pub place_there : {lent new : Ports} {outputs : Outputs} (kind : PortKind → Bool) (i : ℕ) → IsLent lent → Wrote lent new outputs
    → has kind false (ports_of lent) i ≡ true → i < length (places_of new)
place_there {lent} {new} kind i is wrote h = rw wrote.loan.places (has_place lent kind i is h)

-- and something stands there
pub block_there : {lent new : Ports} {outputs : Outputs} (i : ℕ) → IsLent lent → Wrote lent new outputs
    → has_sound false (ports_of lent) i ≡ true → place_of new i < length (outs_of new).blocks
block_there {lent} {new} {outputs} i is wrote h =
    rw (place_stays lent new i wrote.loan, wrote.outs, blocks_after (places_of lent) (outs_of lent) outputs) (is.outputs.sounds i h).there

pub value_there : {lent new : Ports} {outputs : Outputs} (i : ℕ) → IsLent lent → Wrote lent new outputs
    → has_control false (ports_of lent) i ≡ true → place_of new i < length (outs_of new).values
value_there {lent} {new} {outputs} i is wrote h =
    rw (place_stays lent new i wrote.loan, wrote.outs, values_after (places_of lent) (outs_of lent) outputs) (is.outputs.controls i h)

pub forge_there : {lent new : Ports} {outputs : Outputs} (i : ℕ) → IsLent lent → Wrote lent new outputs
    → has_atom false (ports_of lent) i ≡ true → place_of new i < length (outs_of new).forges
forge_there {lent} {new} {outputs} i is wrote h =
    rw (place_stays lent new i wrote.loan, wrote.outs, forges_after (places_of lent) (outs_of lent) outputs) (is.outputs.atoms i h)

-- at a port that isn't written yet stands silence, or a sequence without events
pub block_silent : {lent new : Ports} {outputs : Outputs} (i : ℕ) → IsLent lent → Wrote lent new outputs
    → has_sound false (ports_of lent) i ≡ true → names outputs i ≡ false
    → block_at (outs_of new).blocks (place_of new i) ≡ silence (ins_of lent).frames
block_silent {lent} {new} {outputs} i is wrote h free =
    rw (place_stays lent new i wrote.loan, wrote.outs)
    (block_stays (ports_of lent) (ins_of lent).frames (places_of lent) i (λ j there same. is.sounds_apart j i there h same) (outs_of lent) outputs
    wrote.fit free ∙ is.outputs.silent i h)

pub forge_begun : {lent new : Ports} {outputs : Outputs} (i : ℕ) → IsLent lent → Wrote lent new outputs
    → has_atom false (ports_of lent) i ≡ true → names outputs i ≡ false
    → forge_at (outs_of new).forges (place_of new i) ≡ begun_forge (room_of (ports_of lent) i)
forge_begun {lent} {new} {outputs} i is wrote h free =
    rw (place_stays lent new i wrote.loan, wrote.outs)
    (forge_stays (ports_of lent) (ins_of lent).frames (places_of lent) i (λ j there same. is.atoms_apart j i there h same) (outs_of lent) outputs
    wrote.fit free ∙ is.outputs.begun i h)

loan_then : (lent mid new : Ports) → IsSameLoan lent mid → IsSameLoan mid new → IsSameLoan lent new
loan_then lent mid new first second = record {
  ports = second.ports ∙ first.ports;
  ins = second.ins ∙ first.ins;
  places = second.places ∙ first.places;
  reference = second.reference ∙ first.reference;
}

-- one more port is written
wrote_more : {lent mid new : Ports} {outputs : Outputs} (i : ℕ) (signal : Signal) → Wrote lent mid outputs → names outputs i ≡ false
    → IsOutput (ports_of lent) (ins_of lent).frames i signal → IsSameLoan mid new → outs_of new ≡ with_signal (places_of mid) (outs_of mid) i signal
    → Wrote lent new (outputs ++ (i, signal) ∷ [])
wrote_more {lent} {mid} {new} {outputs} i signal wrote free is loan outs = record {
  loan = loan_then lent mid new wrote.loan loan;
  fit = fit_more (ports_of lent) (ins_of lent).frames outputs i signal wrote.fit free is;
  outs = outs ∙ ap (λ (places : List ℕ). with_signal places (outs_of mid) i signal) wrote.loan.places
      ∙ ap (λ (left : Left). with_signal (places_of lent) left i signal) wrote.outs
      ∙ sym (after_more (places_of lent) (outs_of lent) outputs i signal);
}

pub wrote_sound : {lent mid new : Ports} {outputs : Outputs} (i : ℕ) (block : List Sample) → Wrote lent mid outputs → names outputs i ≡ false
    → has_sound false (ports_of lent) i ≡ true → length block ≡ (ins_of lent).frames → IsSameLoan mid new
    → outs_of new ≡ with_block (outs_of mid) (place_of mid i) block → Wrote lent new (outputs ++ (i, sound block) ∷ [])
wrote_sound i block wrote free h whole loan outs = wrote_more i (sound block) wrote free (h, whole) loan outs

pub wrote_control : {lent mid new : Ports} {outputs : Outputs} (i : ℕ) (value : Fixed) → Wrote lent mid outputs → names outputs i ≡ false
    → has_control false (ports_of lent) i ≡ true → IsSameLoan mid new
    → outs_of new ≡ with_value (outs_of mid) (place_of mid i) value → Wrote lent new (outputs ++ (i, control value) ∷ [])
wrote_control i value wrote free h loan outs = wrote_more i (control value) wrote free h loan outs

pub wrote_events : {lent mid new : Ports} {outputs : Outputs} (i : ℕ) (bytes : List ℕ) → Wrote lent mid outputs → names outputs i ≡ false
    → has_atom false (ports_of lent) i ≡ true → 16 + length bytes ≤ room_of (ports_of lent) i → AreEventBytes (ins_of lent).frames bytes
    → IsSameLoan mid new
    → outs_of new ≡ with_forge (outs_of mid) (place_of mid i) (with_piece (forge_at (outs_of mid).forges (place_of mid i)) bytes false)
    → Wrote lent new (outputs ++ (i, events bytes) ∷ [])
wrote_events i bytes wrote free h fits spelled loan outs = wrote_more i (events bytes) wrote free (h, fits, spelled) loan outs

-- a run is over: it made these attempts and wrote these outputs
pub ran : {F S : Type 0} (run : F → Inputs → Interaction (F × Outputs)) (went : S → List Attempt → S → Type 0) (front new_front : F)
    {lent new : Ports} {sched new_sched : S} (attempts : List Attempt) (outputs : Outputs) → went sched attempts new_sched
    → Plays (run front (inputs_of lent)) attempts (new_front, outputs) → Wrote lent new outputs
    → Runs run went front lent sched new_front new new_sched
ran run went front new_front attempts outputs goes plays wrote = (attempts, outputs, goes, plays, wrote.fit, wrote.outs)

-- a run that makes no attempts and writes one signal
pub ran_sound : {F S : Type 0} (run : F → Inputs → Interaction (F × Outputs)) (went : S → List Attempt → S → Type 0) (front new_front : F)
    {lent new : Ports} {sched : S} (i : ℕ) (block : List Sample) → ChainsAttempts went
    → run front (inputs_of lent) ≡ done (new_front, (i, sound block) ∷ [])
    → has_sound false (ports_of lent) i ≡ true → length block ≡ (ins_of lent).frames → IsSameLoan lent new
    → outs_of new ≡ with_block (outs_of lent) (place_of lent i) block → Runs run went front lent sched new_front new sched
ran_sound {F} run went front new_front {lent} {new} {sched} i block chains is h whole loan outs =
    ran run went front new_front [] ((i, sound block) ∷ []) (chains.none sched)
    (subst (λ (call : Interaction (F × Outputs)). Plays call [] (new_front, (i, sound block) ∷ [])) (sym is) refl)
    (wrote_sound i block (wrote_none lent) refl h whole loan outs)
