use Rattle.std.proofs.Common.{◌≡◌, ◌+◌, ◌<◌, [], length, drop, ap, subst, ◌∙◌, arith}
use Rattle.std.specs.Str.Iter.{lines_steps, lines_rest}
use Rattle.std.specs.Str.Lines.{lines}
use Rattle.std.proofs.lemmas.Iterator.{YieldsList}
use Rattle.std.proofs.lemmas.Iterator.Splits.{YieldsList-from_lines}
use Rattle.std.proofs.lemmas.List.{drop-drop, length-drop}
use Rattle.session_script.specs.Words.{words}
use Rattle.session_script.specs.Line.{line_of, lines_of}
use Rattle.session_script.specs.Script.{line_at}
use Rattle.session_script.proofs.Reading.{read_none, read_more, read_fault, read_all, TakesErr, TakesOk, passed_on, passed_bounds, yields_some, yields_none, next_line, length-lines, length-lines_of}
use Rattle.session_script.proofs.reader.read_lines.Goals as goal

pub loop-line-init : goal.loop-line-init
loop-line-init c =
    let text = c.args.text.now in
    record {
      read = read_none (lines_of text) c.new-draft.result c.new-draft.ensures;
      left = YieldsList-from_lines text (ap lines_rest c.into_iter-line-iterator.ensures.into_iter_gives ∙ c.lines-line-items.ensures.rest);
    }

pub overflow_add-number : goal.overflow_add-number
overflow_add-number c =
    let text = c.args.text.now in
    let n = c.loop-line.number in
    let came = yields_some lines_steps (λ line. line.now) [] c.loop-line.line-iterator c.next.new.self c.in-Some.line (drop n (lines text)) c.loop-line.invariant.left c.in-Some.ensures.steps in
    omega (arith, came.0, length-drop n (lines text), length-lines text)

pub read_line-requires : goal.read_line-requires
read_line-requires c =
    let few = c.loop-line.invariant.read.few in
    record { few = omega arith; bounds = c.loop-line.invariant.read.bounds }

pub loop-line-preserved : goal.loop-line-preserved
loop-line-preserved c =
    let text = c.args.text.now in
    let n = c.loop-line.number in
    let came = yields_some lines_steps (λ line. line.now) [] c.loop-line.line-iterator c.next.new.self c.in-Some.line (drop n (lines text)) c.loop-line.invariant.left c.in-Some.ensures.steps in
    let low : n < length (lines text) = omega (arith, came.0, length-drop n (lines text)) in
    let low_of : n < length (lines_of text) = omega (arith, length-lines_of text) in
    let line : line_of (words c.in-Some.line.now) ≡ line_at (lines_of text) n = next_line text n c.in-Some.line.now low came.1 in
    let took = subst (λ l. TakesOk c.loop-line.draft (n + 1) l c.read_line.new.draft) line c.in_ok-read_line.ensures in
    record {
      read = read_more (lines_of text) n c.loop-line.draft c.read_line.new.draft c.loop-line.invariant.read low_of took.0 took.1;
      left = subst (YieldsList lines_steps (λ line. line.now) c.next.new.self) (drop-drop 1 n (lines text)) came.2;
    }

pub returns-in_err-read_line : goal.returns-in_err-read_line
returns-in_err-read_line c =
    let text = c.args.text.now in
    let n = c.loop-line.number in
    let came = yields_some lines_steps (λ line. line.now) [] c.loop-line.line-iterator c.next.new.self c.in-Some.line (drop n (lines text)) c.loop-line.invariant.left c.in-Some.ensures.steps in
    let low : n < length (lines text) = omega (arith, came.0, length-drop n (lines text)) in
    let low_of : n < length (lines_of text) = omega (arith, length-lines_of text) in
    let line : line_of (words c.in-Some.line.now) ≡ line_at (lines_of text) n = next_line text n c.in-Some.line.now low came.1 in
    let fell = subst (λ l. TakesErr c.loop-line.draft (n + 1) l c.in_err-read_line.field-0.0 c.read_line.new.draft) line c.in_err-read_line.ensures in
    record {
      reads = passed_on (lines_of text) c.from_residual.result c.in_err-read_line.field-0.0 c.from_residual.ensures.1
          (read_fault (lines_of text) n c.loop-line.draft c.read_line.new.draft c.in_err-read_line.field-0.0 c.loop-line.invariant.read low_of fell);
      bounds = passed_bounds c.from_residual.result c.in_err-read_line.field-0.0 c.from_residual.ensures.1;
    }

pub returns : goal.returns
returns c =
    let text = c.args.text.now in
    let n = c.loop-line.number in
    let none = yields_none lines_steps (λ line. line.now) c.loop-line.line-iterator c.next.new.self (drop n (lines text)) c.loop-line.invariant.left c.in-None.ensures.steps in
    record {
      reads = read_all (lines_of text) n c.loop-line.draft c.loop-line.invariant.read (omega (arith, none, length-drop n (lines text), length-lines_of text));
      bounds = c.loop-line.invariant.read.bounds;
    }
