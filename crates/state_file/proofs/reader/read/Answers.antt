use Rattle.std.proofs.Common.{refl}
use Rattle.state_file.specs.Rules.{uris_in}
use Rattle.state_file.proofs.Mapping.{part_none}
use Rattle.state_file.proofs.Readiness.{can_read}
use Rattle.state_file.proofs.reader.read.Goals as goal

pub returns-in_err-judge-clause-part : goal.returns-in_err-judge-clause-part
returns-in_err-judge-clause-part c = part_none c.args.urids.now (uris_in c.args.store.now) c.args.urids.now refl

pub saves-requires : goal.saves-requires
saves-requires c = can_read c.args.store.now c.args.urids.now c.map_all.new.urids c.in_ok-judge.ensures.ok c.in_ok-map_all.ensures.ok
