use Rattle.session_load.proofs.Inside.{all_inside}
use Rattle.session_load.proofs.bundle_files.stays_inside.Goals as goal

pub returns : goal.returns
returns c = all_inside
