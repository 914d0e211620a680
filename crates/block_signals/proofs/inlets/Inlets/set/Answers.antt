use Rattle.std.proofs.Common.{◌≡◌, ℕ, ◌<◌, [], List, refl, ap, sym, ◌∙◌, length, get_or, if◌then◌else◌, slice_get, Some, arith}
use Rattle.std.specs.Str.{bytes_eq}
use Rattle.std.proofs.lemmas.List.{length-map, get_or_read}
use Rattle.std.proofs.lemmas.Option.{slice_get_read}
use Rattle.plugin_decl.specs.declared.declaration.Port.{Port}
use Rattle.plug_api.specs.Buffers.{fixed_at}
use Rattle.session_play.specs.Setup.{ports_of}
use Rattle.block_signals.specs.declared.inlet.Inlet.{Inlet}
use Rattle.block_signals.specs.Given.{value_given}
use Rattle.block_signals.proofs.Given.{ports_few}
use Rattle.block_signals.proofs.Setting.{values_after, set_all}
use Rattle.block_signals.proofs.inlets.Inlets.set.Goals as goal

pub bounds-symbols-port : goal.bounds-symbols-port
bounds-symbols-port c =
    let known = c.requires.known in
    let inlet : Inlet = c.index_mut-inlet.result.now in
    let is = (known.3.kept c.args.inst inlet (slice_get_read c.args.self.now.each.items _ c.args.inst _ refl c.requires.there c.index_mut-inlet.ensures.value)).0 in
    omega (arith, known.4, ap length c.as_slice-symbols.ensures, ap length is.symbols, length-map (ports_of known.0 c.args.inst) (λ (it : Port). it.symbol))

pub set-requires-clause-few : goal.set-requires-clause-few
set-requires-clause-few c =
    let known = c.requires.known in
    let inlet : Inlet = c.index_mut-inlet.result.now in
    let is = (known.3.kept c.args.inst inlet (slice_get_read c.args.self.now.each.items _ c.args.inst _ refl c.requires.there c.index_mut-inlet.ensures.value)).0 in
    omega (
      arith,
      ports_few known.0 c.args.inst known.2,
      ap length c.as_slice-symbols.ensures,
      ap length is.symbols,
      length-map (ports_of known.0 c.args.inst) (λ (it : Port). it.symbol),
    )

pub set-requires-clause-there : goal.set-requires-clause-there
set-requires-clause-there c =
    let known = c.requires.known in
    let inlet : Inlet = c.index_mut-inlet.result.now in
    let both = known.3.kept c.args.inst inlet (slice_get_read c.args.self.now.each.items _ c.args.inst _ refl c.requires.there c.index_mut-inlet.ensures.value) in
    ap length both.1 ∙ length-map (ports_of known.0 c.args.inst) (value_given known.0 known.1 c.args.inst)
    ∙ sym (length-map (ports_of known.0 c.args.inst) (λ (it : Port). it.symbol)) ∙ sym (ap length both.0.symbols) ∙ sym (ap length c.as_slice-symbols.ensures)

pub returns : goal.returns
returns c = λ setup board urids action ready holds sets.
    let inlet : Inlet = c.index_mut-inlet.result.now in
    let here : slice_get c.args.self.now.each.items c.args.inst ≡ Some inlet =
    slice_get_read c.args.self.now.each.items _ c.args.inst _ refl c.requires.there c.index_mut-inlet.ensures.value in
    let both = holds.kept c.args.inst inlet here in
    let symbols : List (List ℕ) = c.as_slice-symbols.result.now in
    let known = c.requires.known in
    let is = (known.3.kept c.args.inst inlet here).0 in
    let within : c.args.port < length symbols =
    omega (arith, known.4, ap length c.as_slice-symbols.ensures, ap length is.symbols, length-map (ports_of known.0 c.args.inst) (λ (it : Port). it.symbol)) in
    let port : c.index-symbols-port.result ≡ get_or symbols c.args.port [] = get_or_read symbols c.args.port _ within c.index-symbols-port.is [] in
    set_all urids setup board c.args.self.now _ c.args.inst c.args.port c.args.value action inlet c.set.new.ins holds sets c.requires.there here c.set.ensures.others
    (values_after urids setup board c.args.inst c.args.port c.args.value action inlet.ins c.set.new.ins symbols ready sets
    (c.as_slice-symbols.ensures ∙ both.0.symbols) both.1 c.set.ensures.count
    (λ k h. c.set.ensures.values k h ∙ ap (λ symbol. if bytes_eq symbol (get_or symbols k []) then c.args.value else fixed_at inlet.ins.values k) port))
    refl refl
