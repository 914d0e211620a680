use Rattle.record_law.proofs.Pieces.{pieces_compose, piece_holds_before, piece_fits}
use Rattle.record_law.proofs.laws.pieces_compose.Goals as goal

pub returns-clause-compose : goal.returns-clause-compose
returns-clause-compose c = pieces_compose

pub returns-clause-before : goal.returns-clause-before
returns-clause-before c = piece_holds_before

pub returns-clause-fits : goal.returns-clause-fits
returns-clause-fits c = piece_fits
