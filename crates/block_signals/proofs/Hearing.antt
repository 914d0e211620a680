-- What the channels have is the PCM of the block.
use Rattle.std.proofs.Common.{◌≡◌, ℕ, ◌+◌, List, [], ◌∷◌, ◌++◌, All, get_or, map, flat_map, Option, Some, None, refl, sym, ap, ◌∙◌, arith}
use Rattle.std.specs.List.{range_with_len}
use Rattle.std.proofs.lemmas.List.{map-id, flat_map_more}
use Rattle.std.proofs.lemmas.List.Elements.{All-map}
use Rattle.std.proofs.lemmas.List.Folds.{flat_map-map}
use Rattle.std.proofs.lemmas.List.FromFn.{map-range_with_len_more}
use Rattle.lv_base.specs.declared.number.Sample.{Sample}
use Rattle.plugin_decl.specs.declared.declaration.PortKind.TheVariants.{Audio}
use Rattle.session_script.specs.declared.session.OutLine.{OutLine}
use Rattle.graph_order.specs.declared.setup.Setup.{Setup}
use Rattle.graph_order.specs.Setup.{IsReady}
use Rattle.plug_api.specs.Sound.{silent}
use Rattle.play_outcome.specs.Pcm.{sample_bytes, frame_bytes}
use Rattle.block_signals.specs.declared.outlets.Outlets.{Outlets}
use Rattle.block_signals.specs.declared.source.Source.{Source}
use Rattle.block_signals.specs.Board.{Board}
use Rattle.block_signals.specs.Channels.{as_cable, channel_given, block_given, channel_of, channel_heard, IsOpen}
use Rattle.block_signals.specs.Outlets.{ShowsOutputs}
use Rattle.block_signals.specs.Sources.{source_of}
use Rattle.block_signals.proofs.Heard.{CableHeard, cable_heard}

-- one frame more
range_more : (n : ℕ) → range_with_len 0 (n + 1) ≡ range_with_len 0 n ++ n ∷ []
range_more n =
    sym (map-id (range_with_len 0 (n + 1))) ∙ map-range_with_len_more (λ (k : ℕ). k) 0 n n (omega arith) ∙ ap (λ ks. ks ++ n ∷ []) (map-id (range_with_len 0 n))

pub frames_more : (f : ℕ → List ℕ) (n : ℕ) → flat_map f (range_with_len 0 n) ++ f n ≡ flat_map f (range_with_len 0 (n + 1))
frames_more f n = flat_map_more f [] (range_with_len 0 n) n ∙ ap (flat_map f) (sym (range_more n))

-- what is heard of a channel, in one frame
channel_same : (setup : Setup) (board : Board) (outlets : Outlets) (frame : ℕ) (out : OutLine) → IsReady setup → ShowsOutputs setup board outlets
    → get_or (channel_heard outlets (channel_of setup out)) frame silent ≡ get_or (channel_given setup board out) frame silent
channel_same setup board outlets frame out ready shows =
    by (source_of setup Audio (as_cable out)) (cable_heard setup board outlets Audio (as_cable out) refl ready shows)
  where
    by : (found : Option Source) → CableHeard setup.session.block outlets (channel_given setup board out) found
        → get_or (channel_heard outlets found) frame silent ≡ get_or (channel_given setup board out) frame silent
    by None h = sym (h frame)
    by (Some source) h = ap (λ (part : List Sample). get_or part frame silent) h.1

frame_same : (setup : Setup) (board : Board) (outlets : Outlets) (frame : ℕ) → IsReady setup → ShowsOutputs setup board outlets
    → frame_bytes (map (channel_heard outlets) (map (channel_of setup) setup.session.outs)) frame ≡ frame_bytes (map (channel_given setup board) setup.session.outs) frame
frame_same setup board outlets frame ready shows =
    let put = λ (part : List Sample). sample_bytes (get_or part frame silent) in
    flat_map-map put (channel_heard outlets) (map (channel_of setup) setup.session.outs)
    ∙ flat_map-map (λ (channel : Option Source). put (channel_heard outlets channel)) (channel_of setup) setup.session.outs
    ∙ (λ t. flat_map (λ (out : OutLine). sample_bytes (channel_same setup board outlets frame out ready shows t)) setup.session.outs)
    ∙ sym (flat_map-map put (channel_given setup board) setup.session.outs)

pub block_same : (setup : Setup) (board : Board) (outlets : Outlets) → IsReady setup → ShowsOutputs setup board outlets
    → flat_map (frame_bytes (map (channel_heard outlets) (map (channel_of setup) setup.session.outs))) (range_with_len 0 setup.session.block) ≡ block_given setup board
block_same setup board outlets ready shows =
    λ t. flat_map (λ frame. frame_same setup board outlets frame ready shows t) (range_with_len 0 setup.session.block)

-- each channel can be heard
pub channels_open : (setup : Setup) (board : Board) (outlets : Outlets) → IsReady setup → ShowsOutputs setup board outlets
    → All (IsOpen setup.session.block outlets) (map (channel_of setup) setup.session.outs)
channels_open setup board outlets ready shows =
    All-map (IsOpen setup.session.block outlets) (channel_of setup) setup.session.outs
    (λ k d h. one (get_or setup.session.outs k d))
  where
    by : (out : OutLine) (found : Option Source) → CableHeard setup.session.block outlets (channel_given setup board out) found → IsOpen setup.session.block outlets found
    by out None h = tt
    by out (Some source) h = h.0

    one : (out : OutLine) → IsOpen setup.session.block outlets (channel_of setup out)
    one out = by out (channel_of setup out) (cable_heard setup board outlets Audio (as_cable out) refl ready shows)
