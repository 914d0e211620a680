use Rattle.std.proofs.Common.{◌≤◌, length, sym, subst}
use Rattle.triple_store.proofs.Kept.{kept-cut}
use Rattle.triple_store.proofs.Lates.{late-cut}
use Rattle.triple_store.proofs.store.Store.cut.Goals as goal

pub invariant_of-self : goal.invariant_of-self
invariant_of-self c =
    let within = subst (λ l. c.args.rows ≤ length l) (sym c.self.view_is) c.requires in
    kept-cut c.self.inside.rows.items c.as_slice.result.now c.truncate.new.self.items c.args.rows c.self.inside.blanks.items c.truncate-2.new.self.items c.self.inside.subjects c.drop_from.new.subjects c.self.inside.late c.cut.new.self
    c.self.invariant within c.as_slice.ensures.value c.truncate.ensures.items c.truncate-2.ensures.items c.drop_from.ensures
    (late-cut c.self.inside.late c.cut.new.self c.self.inside.rows.items c.args.rows c.self.invariant.late within c.cut.ensures.counts c.cut.ensures.rows)
