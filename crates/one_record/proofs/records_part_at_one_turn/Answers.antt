use Rattle.one_record.proofs.Parting.{are_parted_by_turn}
use Rattle.one_record.proofs.records_part_at_one_turn.Goals as goal

pub returns : goal.returns
returns g c = are_parted_by_turn
