-- A scheduler with room for two entries more than its attempts may have can mark a call.
use Rattle.std.proofs.Common.{◌≡◌, ◌+◌, ◌<◌, ◌∙◌, ap, arith}
use Rattle.plug_api.specs.Calls.{CanCall}
use Rattle.step_record.specs.declared.tickets.Tickets.{Ghosts}
use Rattle.worker_ring.specs.declared.list.ListAttempts.{ListAttempts}
use Rattle.worker_ring.specs.Guard.{target_of, listed_in, list_can_mark, list_marked, list_went}
use Rattle.worker_ring.proofs.Rooms.{written, steps_keep}

pub can_call : {T : Type 0} {t : Ghosts T} (sched : ListAttempts T t) → sched.room + 1 < t.left sched.tickets.now
    → sched.room + 1 < sched.log.now.spare
    → CanCall (λ (s : ListAttempts T t). s.actor) list_can_mark list_marked list_went sched
can_call {T} {t} sched l s = record {
  now = (omega (arith, l), omega (arith, s));
  actor = λ entry ticket called tried attempts marks goes. ap (λ g. g.actor) goes.target ∙ ap (λ g. g.actor) marks.target;
  again =
      λ entry ticket called tried attempts marks goes.
      let both =
      written t.left t.drawn t.rest sched.tickets.now called.tickets.now sched.log.now called.log.now entry ticket sched.room marks.writes
      (omega (arith, l)) (omega (arith, s)) in
      let same : called.room ≡ sched.room = marks.room in
      steps_keep t.left t.drawn t.rest (target_of called) (listed_in called) (listed_in tried) attempts goes.steps
      (omega (arith, same, both.0), omega (arith, same, both.1));
}
