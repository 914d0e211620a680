use Rattle.std.proofs.Common.{refl, false}
use Rattle.judged_log.proofs.Following.{followed_none}
use Rattle.judged_log.proofs.follower.Follower.new.Goals as goal

pub returns : goal.returns
returns c = followed_none c.args.shape.now (record { judge = c.in_ok-new.field-0; ended = false }) c.in_ok-new.ensures.judge c.in_ok-new.ensures.judged refl
