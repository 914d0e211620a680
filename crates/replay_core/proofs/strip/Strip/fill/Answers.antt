use Rattle.std.proofs.Common.{◌≡◌, Some, length, map, ap, sym, ◌∙◌}
use Rattle.std.specs.Str.{bytes_eq}
use Rattle.audio_api.specs.declared.stock.StockPorts.{StockPorts}
use Rattle.audio_api.specs.Inputs.{Inputs, samples_at, with_samples}
use Rattle.audio_api.specs.Stock.{const_uri}
use Rattle.replay_core.specs.Signals.{uri_at, ports_at, value_of, signal_at, sources_of}
use Rattle.replay_core.proofs.DeskLemmas.{length-mixed, samples_at-with_audio, with_samples-with_audio}
use Rattle.replay_core.proofs.strip.Strip.fill.Goals as goal

pub set_block-requires-clause-whole : goal.set_block-requires-clause-whole
set_block-requires-clause-whole c =
    let s = c.args.session.now in
    let i = c.args.inst in
    let strip = c.requires.strip in
    let port : (ports_at s i).audio_in ≡ Some c.in-Some.port = ap (λ (ports : StockPorts). ports.audio_in) (sym strip.ports) ∙ c.in-Some.is in
    let signal = ap (λ (ins : Inputs). samples_at ins c.in-Some.port) strip.ins ∙ samples_at-with_audio (bytes_eq (uri_at s i) const_uri) s.block c.in-Some.port (value_of s i) strip.signal port in
    ap length (c.as_slice.ensures ∙ c.mix.ensures) ∙ length-mixed (length c.args.mixer.now) (map (signal_at c.args.outs.now.blocks) (sources_of c.args.session.now c.args.inst)) ∙ c.requires.room ∙ sym (ap length signal ∙ strip.whole)

pub returns-in-Some-clause-strip : goal.returns-in-Some-clause-strip
returns-in-Some-clause-strip c =
    let s = c.args.session.now in
    let i = c.args.inst in
    let strip = c.requires.strip in
    let port : (ports_at s i).audio_in ≡ Some c.in-Some.port = ap (λ (ports : StockPorts). ports.audio_in) (sym strip.ports) ∙ c.in-Some.is in
    let mixed = c.as_slice.result.now in
    record {
      ports = strip.ports;
      signal = mixed;
      whole = ap length (c.as_slice.ensures ∙ c.mix.ensures) ∙ length-mixed (length c.args.mixer.now) (map (signal_at c.args.outs.now.blocks) (sources_of c.args.session.now c.args.inst)) ∙ c.requires.room;
      ins = c.set_block.ensures ∙ ap (λ (ins : Inputs). with_samples ins c.in-Some.port mixed) strip.ins ∙ with_samples-with_audio (bytes_eq (uri_at s i) const_uri) s.block c.in-Some.port (value_of s i) strip.signal mixed port;
    }

pub returns-in-Some-clause-room : goal.returns-in-Some-clause-room
returns-in-Some-clause-room c = ap length c.mix.ensures ∙ length-mixed (length c.args.mixer.now) (map (signal_at c.args.outs.now.blocks) (sources_of c.args.session.now c.args.inst)) ∙ c.requires.room
