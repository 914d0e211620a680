use Rattle.std.proofs.Common.{◌≡◌, List, [], get_or, ap, sym, ◌∙◌}
use Rattle.std.specs.Str.{bytes_eq}
use Rattle.std.proofs.lemmas.List.{get_or-map, length-replicate}
use Rattle.session_script.specs.declared.session.Inst.{Inst}
use Rattle.audio_api.specs.Sound.{silence, silent}
use Rattle.audio_api.specs.Stock.{const_uri}
use Rattle.audio_api.specs.StockPorts.{stock_ports}
use Rattle.replay_core.specs.Signals.{uri_at, ports_at, value_of}
use Rattle.replay_core.proofs.DeskLemmas.{with_audio-silence}
use Rattle.replay_core.proofs.strip.Strip.new.Goals as goal

pub returns : goal.returns
returns c =
    let s = c.args.session.now in
    let i = c.args.inst in
    let inst = c.index-as_slice-inst.result in
    let ports : c.of-ports.result ≡ ports_at s i = c.of-ports.ensures ∙ ap (λ (insts : List Inst). stock_ports (get_or insts i inst).uri) c.as_slice.ensures ∙ ap stock_ports (sym (get_or-map (λ (inst : Inst). inst.uri) s.insts i inst [] c.requires.there)) in
    record {
      ports = ports;
      signal = silence s.block;
      whole = length-replicate s.block silent;
      ins = rw (c.set_value.ensures, c.in_ok-ins.ensures, c.value.ensures, ports) (sym (with_audio-silence (bytes_eq (uri_at s i) const_uri) s.block (value_of s i)));
    }
