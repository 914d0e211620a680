-- A run is what it means.
use Rattle.std.proofs.Common.{◌≡◌, ℕ, ◌-◌, ◌^◌, ◌<◌, ◌≤◌, true, false, List, [], ◌∷◌, ◌++◌, length, map, pos, FitsSigned, sym, ap, ◌∙◌, subst, refl, arith}
use Rattle.std.specs.Int.{w64}
use Rattle.std.proofs.Math.Logic.{∥∥₁_map}
use Rattle.std.proofs.lemmas.List.{set-get_or}
use Rattle.interaction.specs.Attempts.{Attempt, Plays}
use Rattle.lv_base.specs.declared.number.Fixed.{Fixed}
use Rattle.lv_base.specs.declared.number.Sample.{Sample}
use Rattle.lv_base.specs.Number.{sample_of}
use Rattle.atom_core.proofs.OneValue.{part_long}
use Rattle.atom_core.specs.Value.{timed}
use Rattle.atom_forge.specs.Forged.{Forged, left, with_piece}
use Rattle.atom_forge.proofs.Pieces.{opening-length}
use Rattle.atom_sequence.specs.Event.{Event, as_parts}
use Rattle.plug_api.specs.declared.ports.Ports.{Ports}
use Rattle.plug_api.specs.Signal.{sound}
use Rattle.plug_api.specs.Inputs.{Outputs, room_at}
use Rattle.plug_api.specs.Buffers.{Left, block_at, empty_forge, begun_forge, with_block, with_forge}
use Rattle.plug_api.specs.Roles.{has_audio, has_atom}
use Rattle.plug_api.specs.Sequences.{AreEventBytes}
use Rattle.plug_api.specs.Ports.{ports_of, ins_of, places_of, outs_of, place_of, room_of, inputs_of, IsLent, IsSameLoan}
use Rattle.plug_api.specs.Running.{with_outputs, AreOutputs, Runs}
use Rattle.plug_api.proofs.Lent.{audio_sounds}
use Rattle.stock_tank.specs.declared.front.TankFront.{TankFront}
use Rattle.stock_tank.specs.Requests.{Request}
use Rattle.stock_tank.specs.Levels.{sets_in, jobs_for, heard_from}
use Rattle.stock_tank.specs.Answers.{answers_to, fitting, event_bytes}
use Rattle.stock_tank.specs.Tank.{attempting, told, tank_outputs, tank_after, tank_asked, tank_run}
use Rattle.stock_tank.specs.Playing.{Playing, filled, steps, AreTimed, block_of, forge_of, playing, HasPlayed, Told}
use Rattle.stock_tank.proofs.Ends.{steps_level, nothing_more, steps_forge, steps_block, heard-length}
use Rattle.stock_tank.proofs.Outputs.{place_same, as_block, with_then}
use Rattle.stock_tank.proofs.Spelled.{told_fit, told_ordered, fitting_room}
use Rattle.stock_tank.proofs.Given.{Reads, timed_given, requests_given, fit_given}

-- jobs are attempted, whatever their answers
plays_attempts : {R : Type 0} (attempts : List Attempt) (end : R) → Plays (attempting (map (λ (it : Attempt). it.body) attempts) end) attempts end
plays_attempts [] end = refl
plays_attempts (attempt ∷ attempts) end = (refl, plays_attempts attempts end)

-- the outputs are what is written
outputs_are : (lent : Ports) (events : List Event) (heard : List Sample) → (forge_of lent).waits ≡ false
    → with_block (with_forge (outs_of lent) (place_of lent 1) (with_piece (forge_of lent) (event_bytes events) false)) (place_of lent 2) heard
    ≡ with_outputs (places_of lent) (outs_of lent) (told events ++ (2, sound heard) ∷ [])
outputs_are lent (e ∷ events) heard still = refl
outputs_are lent [] heard still =
    ap (λ (f : Forged). with_block (with_forge (outs_of lent) (place_of lent 1) f) (place_of lent 2) heard) (nothing_more (forge_of lent) still)
    ∙ ap (λ (forges : List Forged). with_block (record (outs_of lent) { forges = forges }) (place_of lent 2) heard)
    (set-get_or (outs_of lent).forges (place_of lent 1) (empty_forge 0))

-- and such that the ports can have them
outputs_fit : (lent : Ports) (events : List Event) (heard : List Sample) → has_atom false (ports_of lent) 1 ≡ true
    → has_audio false (ports_of lent) 2 ≡ true → length heard ≡ (ins_of lent).frames
    → length (event_bytes events) ≤ room_of (ports_of lent) 1 - 16 → AreEventBytes (ins_of lent).frames (event_bytes events)
    → AreOutputs (ports_of lent) (ins_of lent).frames (told events ++ (2, sound heard) ∷ [])
outputs_fit lent [] heard atom audio whole room spelled = ((audio_sounds false (ports_of lent) 2 audio, whole), refl, tt)
outputs_fit lent (e ∷ events) heard atom audio whole room spelled =
    let some = part_long (timed e.time) e.value (event_bytes events) in
    ((atom, omega (arith, room, some), spelled), refl, ((audio_sounds false (ports_of lent) 2 audio, whole), refl, tt))

-- what a run of tank found
pub record Found (lent : Ports) (front : TankFront) (bytes : List ℕ) (requests : List Request) : Type 0 where
  pub reads : Reads lent front.key bytes requests
  pub tells : has_atom false (ports_of lent) 1 ≡ true
  pub heard : has_audio false (ports_of lent) 2 ≡ true
  pub small : front.key < 2 ^ 32
  pub level : FitsSigned w64 front.level.0

pub begun_at : (lent : Ports) → IsLent lent → has_atom false (ports_of lent) 1 ≡ true → forge_of lent ≡ begun_forge (room_of (ports_of lent) 1)
begun_at lent is atom = is.outputs.begun 1 atom

pub room_left : (lent : Ports) → IsLent lent → has_atom false (ports_of lent) 1 ≡ true → left (forge_of lent) ≡ room_at (inputs_of lent) 1 - 16
room_left lent is atom =
    ap (λ (f : Forged). left f) (begun_at lent is atom) ∙ ap (λ n. room_of (ports_of lent) 1 - n) (opening-length 10 0 0)

fit : (lent : Ports) (front : TankFront) (bytes : List ℕ) (requests : List Request) → Found lent front bytes requests
    → AreOutputs (ports_of lent) (ins_of lent).frames (tank_outputs front (inputs_of lent) requests)
fit lent front bytes requests found =
    let room = room_at (inputs_of lent) 1 - 16 in
    let frames = (ins_of lent).frames in
    let events = fitting room (answers_to front.key front.level requests) in
    let times = timed_given lent front.key bytes requests found.reads in
    outputs_fit lent events (heard_from frames 0 front.level (sets_in requests)) found.tells found.heard
    (let whole : frames - 0 ≡ frames = omega arith in heard-length frames 0 front.level requests (omega arith) times ∙ whole)
    (fitting_room room (answers_to front.key front.level requests))
    (∥∥₁_map (fit_given lent front.key bytes requests found.reads) (λ are.
    (as_parts events, (told_fit front.key room front.level requests found.small found.level are, refl), told_ordered front.key room front.level (pos 0) frames requests times)))

asked_ran : {S : Type 0} (went : S → List Attempt → S → Type 0) (front new_front : TankFront) (lent new : Ports) (sched new_sched : S)
    (bytes : List ℕ) (requests : List Request) → Found lent front bytes requests → new_front ≡ tank_after front requests
    → Told went sched (jobs_for (sets_in requests)) new_sched
    → outs_of new ≡ with_outputs (places_of lent) (outs_of lent) (tank_outputs front (inputs_of lent) requests)
    → Runs tank_run went front lent sched new_front new new_sched
asked_ran went front new_front lent new sched new_sched bytes requests found after jobs outs =
    let given = inputs_of lent in
    let outputs = tank_outputs front given requests in
    let end : TankFront × Outputs = (tank_after front requests, outputs) in
    let plays : Plays {R = TankFront × Outputs} (tank_asked front given requests) jobs.0 (new_front, outputs) =
    subst (λ (f : TankFront). Plays {R = TankFront × Outputs} (tank_asked front given requests) jobs.0 (f, outputs)) (sym after)
    (subst (λ (bodies : List (List ℕ)). Plays (attempting bodies end) jobs.0 end) jobs.2 (plays_attempts jobs.0 end)) in (
      jobs.0,
      outputs,
      jobs.1,
      subst (λ (rs : List Request). Plays {R = TankFront × Outputs} (tank_asked front given rs) jobs.0 (new_front, outputs)) (requests_given lent front.key bytes requests found.reads)
          plays,
      fit lent front bytes requests found,
      outs,
    )

-- the last frames are written, and all that was told stands in the forge
pub record Wrote (lent mid new : Ports) (front last : TankFront) (from to : ℕ) (requests : List Request) (sample : Sample) : Type 0 where
  pub played : HasPlayed lent mid (steps front.key (playing front.level 0 lent) requests)
  pub level : last ≡ record front { level = (steps front.key (playing front.level 0 lent) requests).level }
  pub reached : from ≡ (steps front.key (playing front.level 0 lent) requests).from
  pub whole : to ≡ length (block_of mid)
  pub sample_is : sample ≡ sample_of last.level
  pub outputs : outs_of new ≡ with_block (outs_of mid) (place_of mid 2) (filled (block_of mid) from to sample)

-- ports that were looked at are as they were
pub heard_through : (mid seen new : Ports) (from to : ℕ) (sample : Sample) → outs_of seen ≡ outs_of mid → IsSameLoan mid seen
    → outs_of new ≡ with_block (outs_of seen) (place_of seen 2) (filled (block_of seen) from to sample)
    → outs_of new ≡ with_block (outs_of mid) (place_of mid 2) (filled (block_of mid) from to sample)
heard_through mid seen new from to sample same loan outputs =
    outputs
    ∙ ap (λ (left : Left). with_block left (place_of seen 2) (filled (block_at left.blocks (place_of seen 2)) from to sample)) same
    ∙ ap (λ i. with_block (outs_of mid) i (filled (block_at (outs_of mid).blocks i) from to sample)) (place_same mid seen 2 loan)

after_is : (lent mid new : Ports) (front last : TankFront) (from to : ℕ) (requests : List Request) (sample : Sample)
    → Wrote lent mid new front last from to requests sample → last ≡ tank_after front requests
after_is lent mid new front last from to requests sample wrote =
    wrote.level ∙ ap (λ (level : Fixed). record front { level = level }) (steps_level front.key (playing front.level 0 lent) requests)

heard_is : (lent mid new : Ports) (front last : TankFront) (from to frames : ℕ) (requests : List Request) (sample : Sample)
    → Wrote lent mid new front last from to requests sample → frames ≡ length (block_of lent) → AreTimed (pos 0) frames requests
    → filled (block_of mid) from to sample ≡ heard_from frames 0 front.level (sets_in requests)
heard_is lent mid new front last from to frames requests sample wrote same times =
    let now : Playing = playing front.level 0 lent in
    let end : Playing = steps front.key now requests in
    let ends : to ≡ frames = wrote.whole ∙ ap length wrote.played.block ∙ wrote.played.frames ∙ sym same in
    let heard : sample ≡ sample_of end.level = wrote.sample_is ∙ ap (λ (f : TankFront). sample_of f.level) wrote.level in
    ap (λ (b : List Sample). filled b from to sample) wrote.played.block
    ∙ ap (λ n. filled end.block n to sample) wrote.reached
    ∙ ap (λ n. filled end.block end.from n sample) ends
    ∙ ap (filled end.block end.from frames) heard
    ∙ steps_block front.key frames now requests (sym same) (omega arith) times

told_is : (lent mid : Ports) (front : TankFront) (requests : List Request) → HasPlayed lent mid (steps front.key (playing front.level 0 lent) requests)
    → (forge_of lent).waits ≡ false
    → forge_of mid ≡ with_piece (forge_of lent) (event_bytes (fitting (left (forge_of lent)) (answers_to front.key front.level requests))) false
told_is lent mid front requests played still = played.forge ∙ steps_forge front.key (playing front.level 0 lent) requests still

wrote_outputs : (lent mid new : Ports) (front last : TankFront) (from to : ℕ) (bytes : List ℕ) (requests : List Request) (sample : Sample)
    → Found lent front bytes requests → Wrote lent mid new front last from to requests sample
    → outs_of new ≡ with_outputs (places_of lent) (outs_of lent) (tank_outputs front (inputs_of lent) requests)
wrote_outputs lent mid new front last from to bytes requests sample found wrote =
    let is = found.reads.lends in
    let frames = (ins_of lent).frames in
    let events = answers_to front.key front.level requests in
    let block = filled (block_of mid) from to sample in
    let next : Playing = record { level = last.level; from = to; block = block; forge = forge_of mid } in
    let still : (forge_of lent).waits ≡ false = ap (λ (f : Forged). f.waits) (begun_at lent is found.tells) in
    let whole : frames ≡ length (block_of lent) = sym (is.outputs.sounds 2 (audio_sounds false (ports_of lent) 2 found.heard)).whole in
    let heard = heard_is lent mid new front last from to frames requests sample wrote whole (timed_given lent front.key bytes requests found.reads) in
    wrote.outputs
    ∙ as_block mid last.level to block
    ∙ with_then lent mid (steps front.key (playing front.level 0 lent) requests) next wrote.played.loan wrote.played.outputs
    ∙ ap (λ (b : List Sample). with_block (with_forge (outs_of lent) (place_of lent 1) (forge_of mid)) (place_of lent 2) b) heard
    ∙ ap (λ (f : Forged). with_block (with_forge (outs_of lent) (place_of lent 1) f) (place_of lent 2) (heard_from frames 0 front.level (sets_in requests)))
    (told_is lent mid front requests wrote.played still
    ∙ ap (λ n. with_piece (forge_of lent) (event_bytes (fitting n events)) false) (room_left lent is found.tells))
    ∙ outputs_are lent (fitting (room_at (inputs_of lent) 1 - 16) events) (heard_from frames 0 front.level (sets_in requests)) still

pub tank_ran : {S : Type 0} (went : S → List Attempt → S → Type 0) (front last : TankFront) (lent mid new : Ports) (sched new_sched : S) (from to : ℕ)
    (bytes : List ℕ) (requests : List Request) (sample : Sample) → Found lent front bytes requests → Wrote lent mid new front last from to requests sample
    → Told went sched (jobs_for (sets_in requests)) new_sched → Runs tank_run went front lent sched last new new_sched
tank_ran went front last lent mid new sched new_sched from to bytes requests sample found wrote jobs =
    asked_ran went front last lent new sched new_sched bytes requests found (after_is lent mid new front last from to requests sample wrote) jobs
    (wrote_outputs lent mid new front last from to bytes requests sample found wrote)
