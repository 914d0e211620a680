use Rattle.session_script.proofs.Bounds.{few_frames, few_blocks}
use Rattle.session_script.proofs.reader.finish.Goals as goal

pub passed-requires-clause-block : goal.passed-requires-clause-block
passed-requires-clause-block c = rw c.session_from-session.ensures (few_frames c.args.draft.numbers c.requires)

pub passed-requires-clause-blocks : goal.passed-requires-clause-blocks
passed-requires-clause-blocks c = rw c.session_from-session.ensures (few_blocks c.args.draft.numbers c.requires)
