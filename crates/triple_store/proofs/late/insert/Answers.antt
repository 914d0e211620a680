use Rattle.triple_store.proofs.SameTerm.{adds}
use Rattle.triple_store.proofs.late.insert.Goals as goal

pub returns-clause-ok : goal.returns-clause-ok
returns-clause-ok c =
    let e = c.in_ok-is_new.ensures in
    adds c.args.rows.now.keys _ c.args.triple _ e.added e.keys
