-- The sound of a play: PCM of 16 bits, block by block and frame by frame, the channels side by side.
use Rattle.std.specs.Prelude.{ℕ, if◌then◌else◌, List, [], ◌∷◌, ◌++◌, flat_map, map, slice_index_or}
use Rattle.std.specs.Int.{w16, cast_unsigned, to_le_bytes}
use Rattle.std.specs.List.{range_with_len}
use Rattle.std.specs.Option.{option_map_or}
use Rattle.lv_base.specs.declared.number.Sample.{Sample}
use Rattle.lv_base.specs.Number.{pcm_of}
use Rattle.session_script.specs.declared.session.OutLine.{OutLine}
use Rattle.graph_order.specs.Ports.{port_at}
use Rattle.step_law.specs.declared.actor.Actor.TheVariants.{Audio}
use Rattle.step_law.specs.declared.entry.Kind.TheVariants.{Done}
use Rattle.plug_api.specs.Sound.{silent}
use Rattle.plug_api.specs.Signal.{nothing, samples_in}
use Rattle.record_law.specs.Entries.{is_kind}
use Rattle.session_play.specs.Looking.{doings, in_block}
use Rattle.graph_order.specs.declared.setup.Setup.{Setup}
use Rattle.session_play.specs.Signals.{output_in}
use Rattle.session_play.specs.Value.{Play}

-- a sample in two bytes, the low one first
abbrev pub sample_bytes : Sample → List ℕ
sample_bytes sample = to_le_bytes w16 (cast_unsigned w16 (pcm_of sample))

-- what a channel has in a block
abbrev pub channel_in : {F B : Type 0} → Setup → Play F B → OutLine → List Sample
channel_in setup block out = samples_in (option_map_or (output_in setup block out.inst) (port_at setup.decls out.inst out.symbol) nothing)

abbrev pub frame_bytes : List (List Sample) → ℕ → List ℕ
frame_bytes channels frame = flat_map (λ channel. sample_bytes (slice_index_or channel frame silent)) channels

-- a block, by what audio did in it
abbrev pub block_bytes : {F B : Type 0} → Setup → Play F B → List ℕ
block_bytes setup block = flat_map (frame_bytes (map (channel_in setup block) setup.session.outs)) (range_with_len 0 setup.session.block)

-- all blocks that have ended
abbrev pub sound_of : {F B : Type 0} → Setup → Play F B → List ℕ
sound_of setup [] = []
sound_of setup (x ∷ p) =
    let earlier = sound_of setup p in if is_kind Done x.step.entry then earlier ++ block_bytes setup (in_block (doings Audio p)) else earlier
