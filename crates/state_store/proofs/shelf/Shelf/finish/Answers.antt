use Rattle.std.proofs.Common.{sym, ap, subst, ◌∙◌}
use Rattle.state_store.specs.Properties.{AreRising}
use Rattle.state_store.specs.Slots.{rows_of}
use Rattle.state_store.proofs.shelf.Shelf.finish.Goals as goal

pub from_rows-requires : goal.from_rows-requires
from_rows-requires c =
    subst AreRising
    (sym (c.in_ok-rows.ensures ∙ (ap (λ slots. rows_of slots c.as_slice-2.result.now) c.as_slice.ensures.value ∙ ap (rows_of c.self.inside.slots.items) c.as_slice-2.ensures.value)))
    c.self.invariant.0.rising
