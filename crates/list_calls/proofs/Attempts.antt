-- What attempts on a list leave.
use Rattle.std.proofs.Common.{◌≡◌, ℕ, zero, suc, ◌==◌, nat_lt, Bool, true, false, not, ◌&&◌, ◌||◌, if◌then◌else◌, All, List, [], ◌∷◌, ◌++◌, map, take, drop, length, refl, sym, ap, subst, subst₂, ◌∙◌, append_assoc}
use Rattle.std.proofs.lemmas.List.{map-append, append-nil}
use Rattle.std.proofs.lemmas.List.Elements.{All-nil, All-cons}
use Rattle.interaction.specs.Attempts.{Attempt}
use Rattle.step_law.specs.declared.call.Call.{Call}
use Rattle.step_law.specs.declared.entry.Entry.{Entry}
use Rattle.step_law.specs.declared.entry.Kind.{Kind}
use Rattle.step_law.specs.declared.entry.Kind.TheVariants.{Send, Full, Long}
use Rattle.step_law.specs.Actor.{actor_at}
use Rattle.step_law.specs.Entry.{begin_of, end_of}
use Rattle.step_law.proofs.EventLaws.{actor_same}
use Rattle.step_record.specs.declared.tickets.Tickets.{Ghosts}
use Rattle.step_record.specs.Log.{Logged, with_entry}
use Rattle.plug_api.specs.Calls.{Called}
use Rattle.worker_ring.specs.declared.list.ListAttempts.{ListAttempts}
use Rattle.worker_ring.specs.Answering.{kind_by}
use Rattle.worker_ring.specs.Attempting.{on_ring, kind_of, status_of}
use Rattle.worker_ring.specs.Guard.{target_of, listed_in, list_marked, list_went}
use Rattle.worker_ring.specs.Listing.{Target, Listed, Marked, ListStep, ListSteps}
use Rattle.play_known.specs.Calling.{is_answered}
use Rattle.play_known.specs.InCall.{sent_among}
use Rattle.list_calls.specs.declared.caller.Caller.{Caller}
use Rattle.list_calls.specs.Leaving.{entries_of, most_told, told_of, try_of, Leaves}

-- ---- one attempt, by whether its body is too long and whether there is room

abbrev kind_if : Bool → Bool → Kind
kind_if long room = if long then Long else if room then Send else Full

abbrev status_if : Bool → Bool → ℕ
status_if long room = if long then 2 else if room then 0 else 2

same_kind : (body : List ℕ) (long room : Bool) → nat_lt 256 (length body) ≡ long → kind_if long room ≡ kind_by (status_if long room) body
same_kind body true room is = sym (ap (λ b. if b then Long else Full) is)
same_kind body false true is = refl
same_kind body false false is = sym (ap (λ b. if b then Long else Full) is)

answered_so : (long room : Bool) → ((status_if long room == 0) && not long || (status_if long room == 2)) ≡ true
answered_so true room = refl
answered_so false true = refl
answered_so false false = refl

waits_so : (waiting : List (List ℕ)) (body : List ℕ) (later : List Attempt) (long room : Bool)
    → (if long then waiting else if room then waiting ++ body ∷ [] else waiting) ++ sent_among later
    ≡ waiting ++ sent_among (record { body = body; answer = status_if long room } ∷ later)
waits_so waiting body later true room = refl
waits_so waiting body later false true = append_assoc waiting (body ∷ []) (sent_among later)
waits_so waiting body later false false = refl

-- an attempt with the answer of the ring
abbrev answered_by : ℕ → List (List ℕ) → List ℕ → Attempt
answered_by cells waiting body = record { body = body; answer = status_of cells waiting body }

abbrev try_at : Target → Attempt → Entry
try_at at attempt = on_ring at.actor at.ring (kind_by attempt.answer attempt.body)

entry_more : (log log_then : Logged) (ticket : ℕ) (entry : Entry) → log_then ≡ with_entry log ticket entry → entries_of log_then ≡ entries_of log ++ entry ∷ []
entry_more log log_then ticket entry puts = ap entries_of puts ∙ map-append (λ it. it.1) log.items ((ticket, entry) ∷ [])

-- what it leaves, and what attempts after it add
record Left {S : Type 0} (at : Target) (room : ℕ) (attempts : List Attempt) (old new : Listed S) : Type 0 where
  entries : entries_of new.log ≡ entries_of old.log ++ map (try_at at) (take room attempts)
  waits : new.waiting ≡ old.waiting ++ sent_among (take room attempts)
  answered : All (λ attempt. is_answered attempt ≡ true) (take room attempts)
  refused : All (λ (attempt : Attempt). attempt.answer ≡ 1) (drop room attempts)

module _ {S R : Type 0} (left : S → ℕ) (drawn : S → List ℕ) (rest : S → R) (at : Target) where
  refused_more : (attempt : Attempt) (attempts : List Attempt) (old next new : Listed S) → attempt.answer ≡ 1 → next ≡ old
      → Left at 0 attempts next new → Left at 0 (attempt ∷ attempts) old new
  refused_more attempt attempts old next new is same later = record {
    entries = later.entries ∙ ap (λ (it : Listed S). entries_of it.log ++ []) same;
    waits = later.waits ∙ ap (λ (it : Listed S). it.waiting ++ []) same;
    answered = later.answered;
    refused = All-cons (λ (it : Attempt). it.answer ≡ 1) attempt attempts is later.refused;
  }

  marked_more : (attempt : Attempt) (attempts : List Attempt) (room : ℕ) (old next new : Listed S) → Marked left drawn rest at old attempt next
      → Left at room attempts next new → Left at (suc room) (attempt ∷ attempts) old new
  marked_more attempt attempts room old next new marked later =
      let body = attempt.body in
      let long = nat_lt 256 (length body) in
      let fits = nat_lt (length old.waiting) at.cells in
      let told = take room attempts in
      let is : answered_by at.cells old.waiting body ≡ attempt = λ t. record { body = body; answer = sym marked.answer t } in
      let entry : entries_of next.log ≡ entries_of old.log ++ try_at at attempt ∷ [] =
      entry_more old.log next.log marked.ticket (on_ring at.actor at.ring (kind_of at.cells old.waiting body)) marked.writes.puts
      ∙ ap (λ kind. entries_of old.log ++ on_ring at.actor at.ring kind ∷ []) (same_kind body long fits refl)
      ∙ ap (λ (it : Attempt). entries_of old.log ++ try_at at it ∷ []) is in
      record {
        entries =
            later.entries ∙ ap (λ (it : List Entry). it ++ map (try_at at) told) entry
            ∙ append_assoc (entries_of old.log) (try_at at attempt ∷ []) (map (try_at at) told);
        waits =
            later.waits ∙ ap (λ (it : List (List ℕ)). it ++ sent_among told) marked.waiting ∙ waits_so old.waiting body told long fits
            ∙ ap (λ (it : Attempt). old.waiting ++ sent_among (it ∷ told)) is;
        answered =
            All-cons (λ (it : Attempt). is_answered it ≡ true) attempt told (subst (λ (it : Attempt). is_answered it ≡ true) is (answered_so long fits)) later.answered;
        refused = later.refused;
      }

  steps_leave : (attempts : List Attempt) (room : ℕ) (old new : Listed S) → old.room ≡ room → ListSteps left drawn rest at old attempts new
      → Left at room attempts old new
  steps_leave [] zero old new is steps = record {
    entries = ap (λ (it : Listed S). entries_of it.log) steps ∙ sym (append-nil (entries_of old.log));
    waits = ap (λ (it : Listed S). it.waiting) steps ∙ sym (append-nil old.waiting);
    answered = All-nil (λ (it : Attempt). is_answered it ≡ true);
    refused = All-nil (λ (it : Attempt). it.answer ≡ 1);
  }
  steps_leave [] (suc room) old new is steps = record {
    entries = ap (λ (it : Listed S). entries_of it.log) steps ∙ sym (append-nil (entries_of old.log));
    waits = ap (λ (it : Listed S). it.waiting) steps ∙ sym (append-nil old.waiting);
    answered = All-nil (λ (it : Attempt). is_answered it ≡ true);
    refused = All-nil (λ (it : Attempt). it.answer ≡ 1);
  }
  steps_leave (attempt ∷ attempts) zero old new is steps =
      let here : ListStep left drawn rest at 0 old attempt steps.0 = subst (λ n. ListStep left drawn rest at n old attempt steps.0) is steps.1 in
      refused_more attempt attempts old steps.0 new here.0 here.1
      (steps_leave attempts 0 steps.0 new (ap (λ (it : Listed S). it.room) here.1 ∙ is) steps.2)
  steps_leave (attempt ∷ attempts) (suc room) old new is steps =
      let here : ListStep left drawn rest at (suc room) old attempt steps.0 =
      subst (λ n. ListStep left drawn rest at n old attempt steps.0) is steps.1 in
      marked_more attempt attempts room old steps.0 new here.0 (steps_leave attempts room steps.0 new here.1 steps.2)

-- ---- a whole call

joined : (log begun tried ended : List Entry) (first last : Entry) (between : List Entry) → begun ≡ log ++ first ∷ [] → tried ≡ begun ++ between
    → ended ≡ tried ++ last ∷ [] → ended ≡ log ++ (first ∷ (between ++ last ∷ []))
joined log begun tried ended first last between begins goes ends =
    ends ∙ ap (λ it. it ++ last ∷ []) goes ∙ append_assoc begun between (last ∷ []) ∙ ap (λ it. it ++ (between ++ last ∷ [])) begins
    ∙ append_assoc log (first ∷ []) (between ++ last ∷ [])

same_tries : (actor ring : ℕ) (caller : Caller) → actor ≡ caller.actor → ring ≡ caller.ring → (attempt : Attempt)
    → on_ring actor ring (kind_by attempt.answer attempt.body) ≡ try_of caller attempt
same_tries actor ring caller by on attempt = λ t. on_ring ((by ∙ sym (actor_same caller.actor)) t) (on t) (kind_by attempt.answer attempt.body)

pub leaves : {T : Type 0} {t : Ghosts T} (caller : Caller) (call : Call) (inst : ℕ) (old new : ListAttempts T t) (attempts : List Attempt)
    → old.actor ≡ caller.actor → old.ring ≡ caller.ring → old.room ≡ most_told caller.works
    → Called (λ (s : ListAttempts T t). s.actor) list_marked list_went call inst old attempts new
    → Leaves caller call inst attempts old.list.now.items old.log.now new.list.now.items new.log.now
leaves {T} {t} caller call inst old new attempts by on room made =
    let at = target_of made.called in
    let actor : at.actor ≡ caller.actor = ap (λ (it : Target). it.actor) made.begins.target ∙ by in
    let ring : at.ring ≡ caller.ring = ap (λ (it : Target). it.ring) made.begins.target ∙ on in
    let left = steps_leave t.left t.drawn t.rest at attempts (most_told caller.works) (listed_in made.called) (listed_in made.tried)
    (made.begins.room ∙ room) made.goes.steps in
    let tries : (attempt : Attempt) → try_at at attempt ≡ try_of caller attempt = same_tries at.actor at.ring caller actor ring in
    let begun : entries_of made.called.log.now ≡ entries_of old.log.now ++ begin_of (actor_at caller.actor) call inst ∷ [] =
    entry_more old.log.now made.called.log.now made.first (begin_of (actor_at old.actor) call inst) made.begins.writes.puts
    ∙ ap (λ (n : ℕ). entries_of old.log.now ++ begin_of (actor_at n) call inst ∷ []) by in
    let ended : entries_of new.log.now ≡ entries_of made.tried.log.now ++ end_of (actor_at caller.actor) call inst ∷ [] =
    entry_more made.tried.log.now new.log.now made.last (end_of (actor_at old.actor) call inst) made.ends.writes.puts
    ∙ ap (λ (n : ℕ). entries_of made.tried.log.now ++ end_of (actor_at n) call inst ∷ []) by in
    record {
      entries =
          joined (entries_of old.log.now) (entries_of made.called.log.now) (entries_of made.tried.log.now) (entries_of new.log.now)
          (begin_of (actor_at caller.actor) call inst) (end_of (actor_at caller.actor) call inst) (map (try_of caller) (told_of caller attempts))
          begun (left.entries ∙ (λ i. entries_of made.called.log.now ++ map (λ attempt. tries attempt i) (told_of caller attempts))) ended;
      waits = made.ends.waiting ∙ left.waits ∙ ap (λ (it : List (List ℕ)). it ++ sent_among (told_of caller attempts)) made.begins.waiting;
      answered = left.answered;
      refused = left.refused;
    }

-- over a list and a log that a scheduler was lent
pub leaves_lent : {T : Type 0} {t : Ghosts T} (caller : Caller) (call : Call) (inst : ℕ) (old new : ListAttempts T t) (attempts : List Attempt)
    (waiting : List (List ℕ)) (log : Logged) → old.actor ≡ caller.actor → old.ring ≡ caller.ring → old.room ≡ most_told caller.works
    → old.list.now.items ≡ waiting → old.log.now ≡ log → Called (λ (s : ListAttempts T t). s.actor) list_marked list_went call inst old attempts new
    → Leaves caller call inst attempts waiting log new.list.now.items new.log.now
leaves_lent {T} {t} caller call inst old new attempts waiting log by on room lent logged made =
    subst₂ (λ w l. Leaves caller call inst attempts w l new.list.now.items new.log.now) lent logged (leaves caller call inst old new attempts by on room made)
