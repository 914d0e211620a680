use Rattle.std.proofs.Common.{ℕ, List, All, Option, sym, subst, ◌∙◌, map, flat_map}
use Rattle.std.specs.List.{range_with_len}
use Rattle.play_outcome.specs.Pcm.{frame_bytes}
use Rattle.block_signals.specs.declared.source.Source.{Source}
use Rattle.block_signals.specs.Channels.{channel_of, channel_heard, IsOpen}
use Rattle.block_signals.proofs.Hearing.{channels_open, block_same}
use Rattle.block_signals.proofs.channels.Channels.put.Goals as goal

pub put_frames-requires-clause-heard : goal.put_frames-requires-clause-heard
put_frames-requires-clause-heard c =
    let known = c.requires.known in
    let all : All (IsOpen known.0.session.block c.args.outlets.now) (map (channel_of known.0) known.0.session.outs) =
    channels_open known.0 known.1 c.args.outlets.now known.2 known.3 in
    subst (λ (frames : ℕ). All (IsOpen frames c.args.outlets.now) c.as_slice.result.now) (sym known.4.frames)
    (subst (λ (each : List (Option Source)). All (IsOpen known.0.session.block c.args.outlets.now) each) (sym (c.as_slice.ensures ∙ known.4.each)) all)

pub returns : goal.returns
returns c = λ setup board ready shows are.
    c.put_frames.ensures
    ∙ (λ t. flat_map (frame_bytes (map (channel_heard c.args.outlets.now) ((c.as_slice.ensures ∙ are.each) t))) (range_with_len 0 (are.frames t)))
    ∙ block_same setup board c.args.outlets.now ready shows
