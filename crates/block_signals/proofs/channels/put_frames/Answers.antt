use Rattle.std.proofs.Common.{◌≡◌, ℕ, ◌+◌, ◌*◌, List, ap, ◌∙◌, ◌++◌, length, map, arith}
use Rattle.play_outcome.specs.Pcm.{frame_bytes}
use Rattle.block_signals.specs.Channels.{channel_heard}
use Rattle.block_signals.proofs.Hearing.{frames_more}
use Rattle.block_signals.proofs.channels.put_frames.Goals as goal

next_at : (n frame at : ℕ) → at ≡ 2 * n * frame → at + 2 * n ≡ 2 * n * (frame + 1)
next_at n frame at is = grind arith

pub loop-frame-preserved : goal.loop-frame-preserved
loop-frame-preserved c =
    let bytes = frame_bytes (map (channel_heard c.args.outlets.now) c.args.channels.now) in
    record {
      at = next_at (length c.args.channels.now) c.loop-frame.frame c.loop-frame.at c.loop-frame.invariant.at;
      put = c.put_frame.ensures ∙ ap (λ (before : List ℕ). before ++ bytes c.loop-frame.frame) c.loop-frame.invariant.put ∙ frames_more bytes c.loop-frame.frame;
    }
