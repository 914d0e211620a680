-- A text is of one record.
use Rattle.step_record.proofs.Unique.{reads_back}
use Rattle.step_record.proofs.reader.read.Goals as goal

pub returns-clause-back : goal.returns-clause-back
returns-clause-back c = λ steps formed same few.
    reads_back c.read_few.result c.args.bytes.now steps formed same few c.read_few.ensures.ok c.read_few.ensures.err
