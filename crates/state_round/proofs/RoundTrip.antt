-- Reading back what was written gives the same.
use Rattle.std.proofs.Common.{[], subst}
use Rattle.state_file.specs.StateText.{state_text}
use Rattle.turtle_document.proofs.OneOutcome.{one_outcome}
use Rattle.turtle_document.specs.Answer.Outcome.{document}
use Rattle.state_round.specs.RoundTrip.{ReadsAgain, WrittenIsRead, ReadIsWritten}
use Rattle.state_round.proofs.Rows.{states_rows}
use Rattle.state_round.proofs.Filed.{file_is_read}
use Rattle.state_round.proofs.Again.{says_again}

pub written_is_read : WrittenIsRead
written_is_read base urids saves are = (document (states_rows base 0 0 urids saves), file_is_read base urids saves are, says_again base urids saves are)

pub read_is_written : ReadIsWritten
read_is_written base urids saves o are read =
    subst (ReadsAgain urids saves) (one_outcome base [] (state_text urids saves) (document (states_rows base 0 0 urids saves)) o (file_is_read base urids saves are) read) (says_again base urids saves are)
