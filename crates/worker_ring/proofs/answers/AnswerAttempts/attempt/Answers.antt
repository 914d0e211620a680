-- An attempt is one step.
use Rattle.std.proofs.Common.{◌≡◌, pred, ◌||◌, nat_lt, refl, sym, ◌∙◌, ap, arith}
use Rattle.std.proofs.lemmas.List.{nil_from_length}
use Rattle.step_record.specs.Log.{with_entry}
use Rattle.worker_ring.specs.Attempting.{on_ring}
use Rattle.worker_ring.specs.AnswerGuard.{origin_of, answering_in}
use Rattle.worker_ring.proofs.AnswerRooms.{unanswered_step, answered_step, unanswered_is}
use Rattle.worker_ring.proofs.answers.AnswerAttempts.attempt.Goals.{then-self, else-self}
use Rattle.worker_ring.proofs.answers.AnswerAttempts.attempt.Goals as goal

pub returns-in_default : goal.returns-in_default
returns-in_default g c =
    let s = c.args.self.now in
    let t = g.T.Tickets in
    let less : c.saturating_sub-self.result ≡ pred s.room = omega (arith, c.saturating_sub-self.ensures) in
    let noted : c.if-self.self ≡ (s.surplus || nat_lt 0 s.room) =
    elim c.if-self.branch [
      | then-self w ↦ w.self-is ∙ w.if-self.true ∙ sym (ap (λ b. b || nat_lt 0 s.room) w.if-self.true)
      | else-self w ↦ w.self-is ∙ sym (ap (λ b. b || nat_lt 0 s.room) w.if-self.false)
    ] in
    record {
      steps = (
        _,
        unanswered_step t.left t.drawn t.rest (origin_of s) s.answers.now (answering_in s) _ (record { body = c.args.body.now; answer = 1 })
            (nil_from_length s.answers.now c.in_default.ensures.cases) refl
            (unanswered_is (answering_in s) (record { body = c.args.body.now; answer = 1 }) c.keep.new.made.items c.saturating_sub-self.result c.if-self.self
            c.keep.ensures less noted),
        refl,
      );
      origin = refl;
      same = refl;
    }

pub returns : goal.returns
returns g c =
    let s = c.args.self.now in
    let t = g.T.Tickets in
    record {
      steps = (
        _,
        answered_step t.left t.drawn t.rest (origin_of s) s.answers.now c.in-Some.answer.now c.in-Some.rest.now (answering_in s) _ _ c.in-Some.ensures.cases.0
            (record {
              ticket = c.draw-ticket.result;
              writes = record {
                draws = c.draw-ticket.ensures.draws;
                above = c.draw-ticket.ensures.above;
                puts = c.put.ensures ∙ ap (λ kind. with_entry s.log.now c.draw-ticket.result (on_ring s.actor s.ring kind)) c.kind_by.ensures;
              };
              answer_is = refl;
              answers_are = refl;
              made_are = c.keep-2.ensures;
              room_is = omega (arith, c.saturating_sub-self.ensures);
              same = refl;
            }),
        refl,
      );
      origin = refl;
      same = refl;
    }
