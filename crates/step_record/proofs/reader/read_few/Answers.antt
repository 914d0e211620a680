-- Where the lines aren't too many, what was read of the text.
use Rattle.std.proofs.Common.{◌≤◌, arith}
use Rattle.step_record.specs.Reading.{lines_after}
use Rattle.step_record.proofs.Lines.{read_ok, read_err}
use Rattle.step_record.proofs.reader.read_few.Goals as goal

pub returns-clause-ok : goal.returns-clause-ok
returns-clause-ok c =
    let few : lines_after c.args.bytes.now ≤ 4718592 = omega (arith, c.count_lines-count.ensures, c.if-count-gt-MOST_LINES.false) in
    read_ok c.read_text.result c.args.bytes.now few c.read_text.ensures.ok

pub returns-clause-err : goal.returns-clause-err
returns-clause-err c =
    let few : lines_after c.args.bytes.now ≤ 4718592 = omega (arith, c.count_lines-count.ensures, c.if-count-gt-MOST_LINES.false) in
    read_err c.read_text.result c.args.bytes.now few c.read_text.ensures.err
