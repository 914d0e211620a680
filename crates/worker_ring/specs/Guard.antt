-- A scheduler over a list, as a value: where its attempts go, what it was lent, and what that holds.
use Rattle.std.specs.Prelude.{ℕ, ◌<◌, List}
use Rattle.interaction.specs.Attempts.{Attempt}
use Rattle.step_law.specs.declared.entry.Entry.{Entry}
use Rattle.plug_api.specs.Chains.{ChainsAttempts}
use Rattle.step_record.specs.declared.tickets.Tickets.{Ghosts}
use Rattle.worker_ring.specs.declared.list.ListAttempts.{ListAttempts}
use Rattle.worker_ring.specs.Listing.{Target, Listed, Lent, ListWent, ListMarks, ListWent-none, ListWent-more}

abbrev pub target_of : {T : Type 0} {t : Ghosts T} → ListAttempts T t → Target
target_of sched = record { actor = sched.actor; ring = sched.ring; cells = sched.cells }

abbrev pub lent_to : {T : Type 0} {t : Ghosts T} → ListAttempts T t → Lent
lent_to sched = record { list = sched.list.ghost_name; tickets = sched.tickets.ghost_name; log = sched.log.ghost_name }

abbrev pub listed_in : {T : Type 0} {t : Ghosts T} → ListAttempts T t → Listed T
listed_in sched = record { waiting = sched.list.now.items; tickets = sched.tickets.now; log = sched.log.now; room = sched.room }

-- it has a ticket and a place for one entry more than its attempts may have
abbrev pub list_can_mark : {T : Type 0} {t : Ghosts T} → ListAttempts T t → Type 0
list_can_mark {T} {t} sched = (sched.room < t.left sched.tickets.now) × (sched.room < sched.log.now.spare)

-- it made these attempts and became this
abbrev pub list_went : {T : Type 0} {t : Ghosts T} → ListAttempts T t → List Attempt → ListAttempts T t → Type 0
list_went {T} {t} old attempts new =
    ListWent t.left t.drawn t.rest (target_of old) (lent_to old) (listed_in old) attempts (target_of new) (lent_to new) (listed_in new)

-- it marked an entry with a ticket and became this
abbrev pub list_marked : {T : Type 0} {t : Ghosts T} → ListAttempts T t → Entry → ℕ → ListAttempts T t → Type 0
list_marked {T} {t} old entry ticket new =
    ListMarks t.left t.drawn t.rest (target_of old) (lent_to old) (listed_in old) entry ticket (target_of new) (lent_to new) (listed_in new)

pub list_chains : {T : Type 0} (t : Ghosts T) → ChainsAttempts {S = ListAttempts T t} list_went
list_chains {T} t = record {
  none = λ s. ListWent-none t.left t.drawn t.rest (target_of s) (lent_to s) (listed_in s);
  more =
      λ s m u first second begun goes. ListWent-more t.left t.drawn t.rest (target_of s) (target_of m) (target_of u) (lent_to s) (lent_to m) (lent_to u)
      (listed_in s) (listed_in m) (listed_in u) first second begun goes;
}
