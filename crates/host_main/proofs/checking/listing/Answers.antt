use Rattle.host_main.proofs.Listed.{listed, unlisted}
use Rattle.host_main.proofs.checking.listing.Goals as goal

pub returns-clause-ok : goal.returns-clause-ok
returns-clause-ok g c = listed _ _ _ _ c.in_ok-store.ensures.ok c.listing_of.ensures.declared c.listing_of.ensures.lines

pub returns-clause-err : goal.returns-clause-err
returns-clause-err g c = unlisted _ _ _ _ _ c.in_ok-store.ensures.ok c.listing_of.ensures.err
