use Rattle.std.proofs.Common.{sym, ap, subst, ◌∙◌}
use Rattle.state_file.specs.Reading.{stored}
use Rattle.state_file.specs.Ready.{AreReady, HaveRoom}
use Rattle.state_file.proofs.Room.{room-here, room-next}
use Rattle.state_file.proofs.reader.store_all.Goals as goal

pub store_property-requires-clause-room : goal.store_property-requires-clause-room
store_property-requires-clause-room c =
    room-here c.args.store.now c.args.urids.now c.loop-property.shelf.rows c.in-Some.property.now c.next.new.self
    (subst (λ left. HaveRoom c.args.store.now c.loop-property.shelf.rows left) c.in-Some.ensures.steps c.loop-property.invariant.3)

pub loop-property-preserved : goal.loop-property-preserved
loop-property-preserved c =
    let store = c.args.store.now in
    let urids = c.args.urids.now in
    let rows = c.loop-property.shelf.rows in
    let ready = subst (λ left. AreReady store urids left) c.in-Some.ensures.steps c.loop-property.invariant.2 in
    let room = subst (λ left. HaveRoom store rows left) c.in-Some.ensures.steps c.loop-property.invariant.3 in (
      tt,
      tt,
      ready.1,
      subst (λ r. HaveRoom store r c.next.new.self) (sym c.in_ok-store_property.ensures.rows) (room-next store urids rows c.in-Some.property.now c.next.new.self room),
      c.in_ok-store_property.ensures.mapped ∙ c.loop-property.invariant.4,
      ap (λ r. stored store urids r c.next.new.self) c.in_ok-store_property.ensures.rows ∙ (sym (ap (λ left. stored store urids rows left) c.in-Some.ensures.steps) ∙ c.loop-property.invariant.5),
    )
