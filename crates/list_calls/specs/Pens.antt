-- A pen over a log, as a value: when it can mark an entry, and what marking one does.
use Rattle.std.specs.Prelude.{◌≡◌, ℕ, ◌≤◌, List}
use Rattle.step_law.specs.declared.entry.Entry.{Entry}
use Rattle.step_record.specs.declared.pen.Pen.{Pen}
use Rattle.step_record.specs.Log.{Writes}

abbrev pub pen_can_mark : {T : Type 0} → (left : T → ℕ) → Pen T → Type 0
pen_can_mark left pen = (1 ≤ left pen.tickets.now) × (1 ≤ pen.log.now.spare)

abbrev pub pen_marked : {T R : Type 0} → (left : T → ℕ) → (drawn : T → List ℕ) → (rest : T → R) → Pen T → Entry → ℕ → Pen T → Type 0
pen_marked left drawn rest pen entry ticket after =
    Writes left drawn rest pen.tickets.now pen.log.now entry ticket after.tickets.now after.log.now
    × (after.actor ≡ pen.actor) × (after.tickets.ghost_name ≡ pen.tickets.ghost_name) × (after.log.ghost_name ≡ pen.log.ghost_name)
