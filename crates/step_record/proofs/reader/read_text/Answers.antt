-- The first line, and what was read of the others.
use Rattle.std.proofs.Common.{◌≡◌, ℕ, List, ◌++◌, refl, sym, ap, inl, ◌∙◌}
use Rattle.step_record.specs.Reading.{first_line}
use Rattle.step_record.proofs.Lines.{text_ok, text_err}
use Rattle.step_record.proofs.LinesFound.{prefix_text, no_prefix}
use Rattle.step_record.proofs.reader.read_text.Goals as goal

pub returns-in-Some-clause-ok : goal.returns-in-Some-clause-ok
returns-in-Some-clause-ok c =
    let lines = c.in-Some.lines.now in
    let begins : c.args.bytes.now ≡ first_line ++ lines =
    prefix_text c.args.bytes.now c.as_bytes.result.now lines c.in-Some.ensures.cases.0 c.in-Some.ensures.cases.1
    ∙ ap (λ (front : List ℕ). front ++ lines) c.as_bytes.ensures.value in
    text_ok c.read_lines.result c.args.bytes.now lines begins c.read_lines.ensures.ok

pub returns-in-Some-clause-err : goal.returns-in-Some-clause-err
returns-in-Some-clause-err c =
    let lines = c.in-Some.lines.now in
    let begins : c.args.bytes.now ≡ first_line ++ lines =
    prefix_text c.args.bytes.now c.as_bytes.result.now lines c.in-Some.ensures.cases.0 c.in-Some.ensures.cases.1
    ∙ ap (λ (front : List ℕ). front ++ lines) c.as_bytes.ensures.value in
    text_err c.read_lines.result c.args.bytes.now lines begins c.read_lines.ensures.err

pub returns-in-None-clause-err : goal.returns-in-None-clause-err
returns-in-None-clause-err c = inl (
  refl,
  λ lines begins.
      no_prefix c.args.bytes.now c.as_bytes.result.now lines c.in-None.ensures.cases (begins ∙ ap (λ (front : List ℕ). front ++ lines) (sym c.as_bytes.ensures.value)),
)
