use Rattle.std.proofs.Common.{rules, ap, ◌∙◌, ◌≡◌, ℕ, List, length, map, Vec, Global}
use Rattle.std.specs.Mem.Slots.{slots_items}
use Rattle.cable_ring.specs.Planned.{plan_of}
use Rattle.cable_ring.specs.Steps.{Seated}
use Rattle.cable_ring.specs.Tables.{plan_at}
use Rattle.cable_ring.proofs.Closing.{closed_kept, closed_next, closed_left}
use Rattle.cable_ring.proofs.Emptying.{map_length}
use Rattle.cable_ring.proofs.cable.Cable.close.Goals as goal

pub returns-clause-left : goal.returns-clause-left
returns-clause-left g c =
    let items : Vec g.row.M.Denot Global → List g.row.M.Denot = λ v. v.items in
    let count : length (map items c.empty_all.new.rows.items) ≡ length (plan_at c.args.self).rings =
    map_length items c.empty_all.new.rows.items ∙ c.empty_all.ensures.count ∙ c.len-count.ensures ∙ c.args.self.layout.rings.ok.0 in
    closed_left (plan_of c.args.self.table.shared.key) (plan_at c.args.self) c.args.self.ruled (slots_items c.close_with-closed.result.words) (slots_items c.close_with-closed.result.slots)
    c.gather.new.desk.id c.gather.new.desk.me.0 c.close_with-closed.ensures.values.2 c.args.passes.items (ap (λ (m : Seated g.row.M.Denot). m.0) c.gather.ensures.desk) c.requires.all (map items c.empty_all.new.rows.items) count c.empty_all.ensures.rows

pub returns-clause-next : goal.returns-clause-next
returns-clause-next g c =
    closed_next (plan_of c.args.self.table.shared.key) (plan_at c.args.self) c.args.self.ruled (slots_items c.close_with-closed.result.words) (slots_items c.close_with-closed.result.slots)
    c.gather.new.desk.id c.gather.new.desk.me.0 c.close_with-closed.ensures.values.2 c.args.passes.items (ap (λ (m : Seated g.row.M.Denot). m.0) c.gather.ensures.desk) c.requires.all
    c.word-next.result c.word-next.ensures

pub returns-clause-kept : goal.returns-clause-kept
returns-clause-kept g c =
    closed_kept (plan_of c.args.self.table.shared.key) (plan_at c.args.self) c.args.self.ruled (slots_items c.close_with-closed.result.words) (slots_items c.close_with-closed.result.slots)
    c.gather.new.desk.id c.gather.new.desk.me.0 c.close_with-closed.ensures.values.2 c.args.passes.items (ap (λ (m : Seated g.row.M.Denot). m.0) c.gather.ensures.desk) c.requires.all
    c.word-next.result c.word-next.ensures
