-- A scheduler over recorded answers, as a value: whose its attempts are, what it was lent, and what that holds.
use Rattle.std.specs.Prelude.{ℕ, ◌<◌, List, length}
use Rattle.interaction.specs.Attempts.{Attempt}
use Rattle.step_law.specs.declared.entry.Entry.{Entry}
use Rattle.plug_api.specs.Chains.{ChainsAttempts}
use Rattle.step_record.specs.declared.tickets.Tickets.{Ghosts}
use Rattle.worker_ring.specs.declared.answers.AnswerAttempts.{AnswerAttempts}
use Rattle.worker_ring.specs.Answering.{Origin, Answering, Borrowed, AnswerWent, AnswerMarks, AnswerWent-none, AnswerWent-more}

abbrev pub origin_of : {T : Type 0} {t : Ghosts T} → AnswerAttempts T t → Origin
origin_of sched = record { actor = sched.actor; ring = sched.ring }

abbrev pub borrowed_by : {T : Type 0} {t : Ghosts T} → AnswerAttempts T t → Borrowed
borrowed_by sched = record { tickets = sched.tickets.ghost_name; log = sched.log.ghost_name }

abbrev pub answering_in : {T : Type 0} {t : Ghosts T} → AnswerAttempts T t → Answering T
answering_in sched = record {
  answers = sched.answers.now;
  made = sched.made.items;
  tickets = sched.tickets.now;
  log = sched.log.now;
  room = sched.room;
  surplus = sched.surplus;
}

-- it has a ticket and a place for one entry more than answers
abbrev pub answer_can_mark : {T : Type 0} {t : Ghosts T} → AnswerAttempts T t → Type 0
answer_can_mark {T} {t} sched = (length sched.answers.now < t.left sched.tickets.now) × (length sched.answers.now < sched.log.now.spare)

-- it made these attempts and became this
abbrev pub answer_went : {T : Type 0} {t : Ghosts T} → AnswerAttempts T t → List Attempt → AnswerAttempts T t → Type 0
answer_went {T} {t} old attempts new =
    AnswerWent t.left t.drawn t.rest (origin_of old) (borrowed_by old) (answering_in old) attempts (origin_of new) (borrowed_by new) (answering_in new)

-- it marked an entry with a ticket and became this
abbrev pub answer_marked : {T : Type 0} {t : Ghosts T} → AnswerAttempts T t → Entry → ℕ → AnswerAttempts T t → Type 0
answer_marked {T} {t} old entry ticket new =
    AnswerMarks t.left t.drawn t.rest (origin_of old) (borrowed_by old) (answering_in old) entry ticket (origin_of new) (borrowed_by new) (answering_in new)

pub answer_chains : {T : Type 0} (t : Ghosts T) → ChainsAttempts {S = AnswerAttempts T t} answer_went
answer_chains {T} t = record {
  none = λ s. AnswerWent-none t.left t.drawn t.rest (origin_of s) (borrowed_by s) (answering_in s);
  more =
      λ s m u first second begun goes. AnswerWent-more t.left t.drawn t.rest (origin_of s) (origin_of m) (origin_of u) (borrowed_by s) (borrowed_by m)
      (borrowed_by u) (answering_in s) (answering_in m) (answering_in u) first second begun goes;
}
