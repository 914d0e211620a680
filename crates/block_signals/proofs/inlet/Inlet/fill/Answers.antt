use Rattle.std.proofs.Common.{◌≡◌, ap, sym, ◌∙◌, length, map, slice_get, arith}
use Rattle.std.proofs.lemmas.List.{length-map}
use Rattle.plug_api.specs.Buffers.{Given}
use Rattle.atom_forge.specs.Forged.{Forged}
use Rattle.session_play.specs.Setup.{ports_of}
use Rattle.block_signals.specs.Sources.{input_of}
use Rattle.block_signals.proofs.Filled.{HaveRooms, IsMergedFrom, can_take, is_filled}
use Rattle.block_signals.proofs.Given.{IsFilledFrom, ports_few, can_put}
use Rattle.block_signals.proofs.inlet.Inlet.fill.Goals as goal

pub fill-requires-clause-few : goal.fill-requires-clause-few
fill-requires-clause-few c =
    let known = c.requires.known in
    omega (arith, ap length c.as_slice.ensures, ap length known.5.0.inputs, length-map (ports_of known.0 known.2) (input_of known.0 known.2), ports_few known.0 known.2 known.3)

pub fill-requires-clause-can : goal.fill-requires-clause-can
fill-requires-clause-can c = λ i input e.
    let known = c.requires.known in
    can_put known.0 known.1 c.args.outlets.now known.2 c.args.self.now known.3 known.4 known.5.0 i input (ap (λ inputs. slice_get inputs i) (sym c.as_slice.ensures) ∙ e)

pub merge_all-requires-clause-can : goal.merge_all-requires-clause-can
merge_all-requires-clause-can c = λ i input e.
    let known = c.requires.known in
    let is = known.5.0 in
    let frames : c.fill.new.ins.frames ≡ known.0.session.block = ap (λ (it : Given). it.frames) c.fill.ensures.others ∙ is.frames in
    let rooms : HaveRooms known.0 known.2 c.fill.new.ins = ap (λ (it : Given). map (λ (forge : Forged). forge.room) it.events) c.fill.ensures.others ∙ is.rooms in
    can_take known.0 known.1 c.args.outlets.now known.2 c.args.self.now c.fill.new.ins known.3 known.4 is known.5.2 frames rooms i input
    (ap (λ inputs. slice_get inputs i) (sym c.as_slice-2.ensures) ∙ e)

pub returns-clause-filled : goal.returns-clause-filled
returns-clause-filled c = λ setup board inst ready shows holds.
    let filled : IsFilledFrom c.args.outlets.now c.args.self.now c.fill.new.ins = record {
      others = c.fill.ensures.others;
      count = c.fill.ensures.count;
      put = λ i input e. c.fill.ensures.put i input (ap (λ inputs. slice_get inputs i) c.as_slice.ensures ∙ e);
    } in
    let merges : IsMergedFrom c.args.outlets.now c.args.self.now c.fill.new.ins c.merge_all.new.ins = record {
      others = c.merge_all.ensures.others;
      rooms = c.merge_all.ensures.rooms;
      put = λ i input e. c.merge_all.ensures.put i input (ap (λ inputs. slice_get inputs i) c.as_slice-2.ensures ∙ e);
    } in
    is_filled setup board c.args.outlets.now inst c.args.self.now c.fill.new.ins c.merge_all.new.ins ready shows holds filled merges
