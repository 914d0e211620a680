use Rattle.judged_log.specs.Followed.{entries_of}
use Rattle.told_entries.proofs.Going.{take_if_ok}
use Rattle.told_entries.proofs.take.mark_take.Goals as goal

pub returns-in-Take-clause-goes_on : goal.returns-in-Take-clause-goes_on
returns-in-Take-clause-goes_on g c =
    take_if_ok g.row.F.Denot g.row.B.Denot c.args.shape.now (entries_of c.args.log.now.log.items) (entries_of c.mark.new.self.log.items) c.args.entry
    c.mark.new.self.follower c.mark.result c.in-Take.is c.mark.ensures.entries c.mark.ensures.followed c.mark.ensures.about
