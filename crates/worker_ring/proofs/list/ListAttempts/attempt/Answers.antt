-- An attempt is one step.
use Rattle.std.proofs.Common.{refl, ◌∙◌, ap}
use Rattle.step_record.specs.Log.{with_entry}
use Rattle.worker_ring.specs.Attempting.{on_ring}
use Rattle.worker_ring.specs.Guard.{target_of, listed_in}
use Rattle.worker_ring.proofs.Rooms.{unknown_step, marked_step}
use Rattle.worker_ring.proofs.list.ListAttempts.attempt.Goals as goal

pub returns-then-self-eq0 : goal.returns-then-self-eq0
returns-then-self-eq0 g c =
    let s = c.args.self.now in
    let t = g.T.Tickets in
    record {
      steps = (_, unknown_step t.left t.drawn t.rest (target_of s) s.room (listed_in s) (listed_in s) _ c.if-self-eq0.true refl refl, refl);
      target = refl;
      same = refl;
    }

pub returns : goal.returns
returns g c =
    let s = c.args.self.now in
    let t = g.T.Tickets in
    record {
      steps = (
        _,
        marked_step t.left t.drawn t.rest (target_of s) s.room (listed_in s) _ _ c.if-self-eq0.false
            (record {
              ticket = c.draw-ticket.result;
              writes = record {
                draws = c.draw-ticket.ensures.draws;
                above = c.draw-ticket.ensures.above;
                puts = c.put.ensures ∙ ap (λ kind. with_entry s.log.now c.draw-ticket.result (on_ring s.actor s.ring kind)) c.put-kind.ensures.kind;
              };
              answer = c.put-kind.ensures.status;
              waiting = c.put-kind.ensures.list;
            })
            refl,
        refl,
      );
      target = refl;
      same = refl;
    }
