use Rattle.std.proofs.Common.{◌<◌, Contains, length, refl, subst, sym}
use Rattle.triple_store.specs.Index.{AreIndexed}
use Rattle.triple_store.specs.Late.{AreLate}
use Rattle.triple_store.specs.declared.fault.TheConstants.{MOST_ROWS}
use Rattle.triple_store.proofs.Kept.{kept-push}
use Rattle.triple_store.proofs.store.Store.append.Goals as goal

pub invariant_of-self-in_default : goal.invariant_of-self-in_default
invariant_of-self-in_default c =
    let room = subst (λ l. length l < MOST_ROWS) (sym c.self.view_is) c.requires.room in
    let is_new = subst (λ l. ¬ Contains l c.args.triple) (sym c.self.view_is) c.requires.new.0 in
    kept-push c.self.inside.rows.items c.push.new.rows.items c.args.triple c.self.inside.blanks.items c.keep.new.blanks.items c.self.inside.subjects c.keep.new.subjects c.self.inside.late c.keep.new.late c.max-blanks.result
    c.self.invariant c.in_ok-push.ensures.ok room is_new
    (rw (c.max-blanks.ensures, c.blanks.ensures, c.blanks_of.ensures, ← c.self.view_is) refl)
    c.in_default.ensures.blanks (subst (AreIndexed c.keep.new.subjects) c.as_slice-rows.ensures.value c.in_default.ensures.subjects)
    (subst (AreLate c.keep.new.late) c.as_slice-rows.ensures.value c.in_default.ensures.late)
