use Rattle.std.proofs.Common.{sym}
use Rattle.host_main.proofs.NoSession.{refused, passed_on}
use Rattle.host_main.proofs.reading.session_in.Goals as goal

pub returns-in_err-session-clause-err : goal.returns-in_err-session-clause-err
returns-in_err-session-clause-err c =
    passed_on c.args.bytes.now c.from_residual.result _ c.from_residual.ensures.1 (refused c.args.bytes.now c.in_err-session.field-0.0 c.in_err-session.ensures.err)

pub returns-in-Some-clause-err : goal.returns-in-Some-clause-err
returns-in-Some-clause-err c = record {
  s = c.in_ok-session.session;
  session = c.in_ok-session.ensures.ok;
  first = sym c.in-Some.ensures.line;
}
