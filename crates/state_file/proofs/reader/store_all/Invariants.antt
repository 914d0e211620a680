use Rattle.std.proofs.Common.{◌≡◌, length}
use Rattle.std.specs.Prelude.{Some}
use Rattle.state_file.specs.Reading.{stored}
use Rattle.state_file.specs.Ready.{AreReady, HaveRoom}
use Rattle.state_file.specs.States.{about}
use Rattle.state_file.proofs.reader.store_all.Given as goal

-- the properties that are left can be stored, and make up the whole
abbrev pub invariant-loop-property : goal.invariant-loop-property
invariant-loop-property l = (goal.iterator-loop-property).can_next l.property-iterator × (goal.iterator-loop-property).is_finite l.property-iterator
    × AreReady l.store l.urids l.property-iterator × HaveRoom l.store l.shelf.rows l.property-iterator × (l.shelf.mapped ≡ length l.urids)
    × (stored l.store l.urids l.shelf.rows l.property-iterator ≡ stored l.store l.urids l.fn.shelf.rows (about l.store (Some l.node)))
