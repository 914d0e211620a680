use Rattle.std.proofs.Common.{refl}
use Rattle.told_entries.proofs.notice.tells.Goals as goal

pub returns-then-entry-eq0-clause-tries : goal.returns-then-entry-eq0-clause-tries
returns-then-entry-eq0-clause-tries c = c.tries.ensures.tries c.args.entry refl
