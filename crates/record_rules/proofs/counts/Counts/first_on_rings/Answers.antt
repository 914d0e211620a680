use Rattle.std.proofs.Common.{[], ◌∷◌}
use Rattle.record_law.specs.declared.shape.Broken.TheVariants.{Ring, Full, Room, Look, Holder, Class, End}
use Rattle.record_rules.proofs.Finding.{here, past}
use Rattle.record_rules.proofs.counts.Counts.first_on_rings.Goals as goal

pub returns-then-not-finds_message : goal.returns-then-not-finds_message
returns-then-not-finds_message c h told asked =
    here c.args.shape.now h c.args.entry Ring (Full ∷ Room ∷ Look ∷ Holder ∷ Class ∷ End ∷ []) c.finds_message.result (c.finds_message.ensures c.args.shape.now h told.rings asked.form) c.if-not-finds_message.true

pub returns-then-not-is_really_full : goal.returns-then-not-is_really_full
returns-then-not-is_really_full c h told asked =
    past c.args.shape.now h c.args.entry Ring (Full ∷ Room ∷ Look ∷ Holder ∷ Class ∷ End ∷ []) c.finds_message.result _ (c.finds_message.ensures c.args.shape.now h told.rings asked.form) c.if-not-finds_message.false
    (here c.args.shape.now h c.args.entry Full (Room ∷ Look ∷ Holder ∷ Class ∷ End ∷ []) c.is_really_full.result (c.is_really_full.ensures h told.rings asked.form) c.if-not-is_really_full.true)

pub returns-then-not-has_room : goal.returns-then-not-has_room
returns-then-not-has_room c h told asked =
    past c.args.shape.now h c.args.entry Ring (Full ∷ Room ∷ Look ∷ Holder ∷ Class ∷ End ∷ []) c.finds_message.result _ (c.finds_message.ensures c.args.shape.now h told.rings asked.form) c.if-not-finds_message.false
    (past c.args.shape.now h c.args.entry Full (Room ∷ Look ∷ Holder ∷ Class ∷ End ∷ []) c.is_really_full.result _ (c.is_really_full.ensures h told.rings asked.form) c.if-not-is_really_full.false
    (here c.args.shape.now h c.args.entry Room (Look ∷ Holder ∷ Class ∷ End ∷ []) c.has_room.result (c.has_room.ensures h told.rings asked.form) c.if-not-has_room.true))

pub returns-else-not-has_room : goal.returns-else-not-has_room
returns-else-not-has_room c h told asked =
    past c.args.shape.now h c.args.entry Ring (Full ∷ Room ∷ Look ∷ Holder ∷ Class ∷ End ∷ []) c.finds_message.result _ (c.finds_message.ensures c.args.shape.now h told.rings asked.form) c.if-not-finds_message.false
    (past c.args.shape.now h c.args.entry Full (Room ∷ Look ∷ Holder ∷ Class ∷ End ∷ []) c.is_really_full.result _ (c.is_really_full.ensures h told.rings asked.form) c.if-not-is_really_full.false
    (past c.args.shape.now h c.args.entry Room (Look ∷ Holder ∷ Class ∷ End ∷ []) c.has_room.result _ (c.has_room.ensures h told.rings asked.form) c.if-not-has_room.false
    (c.first_of_rest.ensures h told asked)))
