use Rattle.std.proofs.Common.{◌≡◌, ℕ, refl, ap, sym, subst, ◌∙◌, slice_get, Some, arith}
use Rattle.std.proofs.lemmas.Option.{slice_get_read, slice_get_within}
use Rattle.plug_api.specs.Buffers.{Given}
use Rattle.block_signals.specs.Inlets.{CanPut, with_input}
use Rattle.block_signals.proofs.Filling.{fills_none, can_next, fills_more}
use Rattle.block_signals.proofs.inlet.fill.Goals as goal

pub fill_one-requires-clause-can : goal.fill_one-requires-clause-can
fill_one-requires-clause-can c =
    let at : slice_get c.args.inputs.now c.loop-port.port ≡ Some c.index-inputs-port.result =
    slice_get_read c.args.inputs.now _ c.loop-port.port _ refl c.loop-port-test.true c.index-inputs-port.is in
    let can = can_next c.args.ins.now.frames c.args.ins.now c.loop-port.ins c.args.outlets.now c.args.inputs.now c.loop-port.port c.index-inputs-port.result
    c.loop-port.invariant.fills (c.requires.can c.loop-port.port c.index-inputs-port.result at) in
    subst (λ (frames : ℕ). CanPut frames c.loop-port.ins c.args.outlets.now c.loop-port.port c.index-inputs-port.result)
    (sym (ap (λ (ins : Given). ins.frames) c.loop-port.invariant.fills.others)) can

pub loop-port-init : goal.loop-port-init
loop-port-init c = record { room = c.requires.room; fills = fills_none _ _ _ _ }

pub loop-port-preserved : goal.loop-port-preserved
loop-port-preserved c =
    let at : slice_get c.args.inputs.now c.loop-port.port ≡ Some c.index-inputs-port.result =
    slice_get_read c.args.inputs.now _ c.loop-port.port _ refl c.loop-port-test.true c.index-inputs-port.is in
    let can = can_next c.args.ins.now.frames c.args.ins.now c.loop-port.ins c.args.outlets.now c.args.inputs.now c.loop-port.port c.index-inputs-port.result
    c.loop-port.invariant.fills (c.requires.can c.loop-port.port c.index-inputs-port.result at) in
    record {
      room = c.fill_one.ensures.room ∙ c.loop-port.invariant.room;
      fills = fills_more c.args.ins.now.frames c.args.ins.now c.loop-port.ins c.fill_one.new.ins c.args.outlets.now c.args.inputs.now c.loop-port.port
          c.index-inputs-port.result c.loop-port.invariant.fills at can
          (c.fill_one.ensures.input
          ∙ ap (λ (frames : ℕ). with_input frames c.loop-port.ins c.args.outlets.now c.loop-port.port c.index-inputs-port.result)
          (ap (λ (ins : Given). ins.frames) c.loop-port.invariant.fills.others));
    }

pub returns-clause-put : goal.returns-clause-put
returns-clause-put c = λ i input at. let within = slice_get_within _ i input at in c.loop-port.invariant.fills.put i input (omega (arith, within)) at
