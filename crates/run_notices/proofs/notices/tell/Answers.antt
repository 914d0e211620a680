use Rattle.std.proofs.Common.{◌≡◌, ◌<◌, length, arith}
use Rattle.run_notices.specs.Answers.{answers_in}
use Rattle.run_notices.proofs.Heard.{told_on}
use Rattle.run_notices.proofs.notices.tell.Goals as goal

pub loop-events-preserved : goal.loop-events-preserved
loop-events-preserved c =
    told_on c.loop-events.notices.items c.push.new.self.items (answers_in c.loop-events.events) (answers_in c.next_answer.new.events) c.in-Some.answer.now c.notice_of.result _
    (omega (arith, c.loop-events-test.true, c.len.ensures.value)) c.loop-events.invariant c.in-Some.ensures.some c.notice_of.ensures c.push.ensures.items
