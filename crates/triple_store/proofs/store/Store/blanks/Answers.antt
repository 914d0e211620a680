use Rattle.std.proofs.Common.{◌∙◌, ap, unwrap_or, slice_get, ◌-◌, length}
use Rattle.triple_store.specs.Triples.{blanks_of}
use Rattle.triple_store.proofs.Blanks.{blanks_of-last}
use Rattle.triple_store.proofs.store.Store.blanks.Goals as goal

pub returns : goal.returns
returns c =
    c.unwrap_or.ensures ∙ ap (λ o. unwrap_or o 0) (c.copied.ensures ∙ c.last.ensures.value)
    ∙ ap (λ l. unwrap_or (slice_get l (length l - 1)) 0) c.deref.ensures.value
    ∙ blanks_of-last c.self.inside.rows.items c.self.inside.blanks.items c.self.invariant.counted ∙ ap blanks_of c.self.view_is
