use Rattle.std.proofs.Common.{◌≡◌, List, ap, ◌∙◌, length, get_or, [], map}
use Rattle.std.proofs.lemmas.List.{length-map}
use Rattle.lv_base.specs.declared.number.Fixed.{Fixed}
use Rattle.plugin_decl.specs.declared.declaration.Port.{Port}
use Rattle.plug_api.specs.Buffers.{Given, fixed_at}
use Rattle.session_play.specs.Setup.{ports_of}
use Rattle.block_signals.specs.Inlets.{value_set}
use Rattle.block_signals.proofs.Given.{values_first}
use Rattle.block_signals.proofs.inlet.first_ins.Goals as goal

pub returns-clause-others : goal.returns-clause-others
returns-clause-others c =
    let values : List Fixed = c.set_lines.new.ins.values in
    c.set_lines.ensures.others ∙ ap (λ (ins : Given). record ins { values = values }) c.begin_values.ensures
    ∙ ap (λ (ins : Given). record ins { values = values }) c.in_ok-ins.ensures

pub returns-clause-values : goal.returns-clause-values
returns-clause-values c = λ ports.
    let first = λ (port : Port). port.first in
    values_first c.args.setup.now c.args.inst c.set_lines.new.ins c.args.symbols.now
    (c.requires.named ∙ ap (map (λ (port : Port). port.symbol)) ports)
    (c.set_lines.ensures.count ∙ ap (λ (ins : Given). length ins.values) c.begin_values.ensures ∙ length-map c.args.ports.now first ∙ ap length ports)
    (λ k h.
    let before : fixed_at c.begin_values.new.ins.values k ≡ fixed_at (map first (ports_of c.args.setup.now c.args.inst)) k =
    ap (λ (ins : Given). fixed_at ins.values k) c.begin_values.ensures ∙ ap (λ (all : List Port). fixed_at (map first all) k) ports in
    c.set_lines.ensures.values k h
    ∙ (λ t. value_set (c.as_slice.ensures t) c.args.inst (get_or c.args.symbols.now k []) (before t)))
