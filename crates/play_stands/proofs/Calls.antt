-- A record goes on with a whole call.
use Rattle.std.proofs.Common.{◌≡◌, ℕ, zero, suc, nat_lt, Bool, true, false, if◌then◌else◌, List, [], ◌∷◌, ◌++◌, map, length, refl, sym, ap, subst, ◌∙◌}
use Rattle.interaction.specs.Attempts.{Attempt}
use Rattle.step_law.specs.declared.entry.Kind.TheVariants.{Full, Long}
use Rattle.record_law.specs.Message.{History}
use Rattle.record_law.specs.Protocol.{history_of}
use Rattle.record_law.specs.Room.{finds_message}
use Rattle.session_play.specs.Looking.{steps_of}
use Rattle.session_play.specs.Playing.{playing, play_of}
use Rattle.session_play.specs.SessionShape.{shape_of}
use Rattle.session_play.specs.Value.{Play}
use Rattle.session_play.proofs.Plays.{goes_on}
use Rattle.play_known.specs.Calling.{WholeCall, begin_step, try_step, end_step, steps_in, entries_in, AreTold, IsCall}
use Rattle.play_known.specs.InCall.{then_steps, known_in_call}
use Rattle.play_known.specs.Known.{Known, known_of}
use Rattle.play_known.specs.Rings.{TakesAreSent}
use Rattle.play_known.proofs.CallKept.{call_keeps_values}
use Rattle.play_known.proofs.CallKnown.{call_is_known}
use Rattle.play_known.proofs.Keeping.{values_go_on, both_are_all}
use Rattle.play_known.proofs.Takes.{takes_stay_sent}
use Rattle.worker_ring.specs.Answering.{kind_by}
use Rattle.play_stands.specs.Laws.{CallStands, StandingIsLawful}
use Rattle.play_stands.proofs.Entries.{history_is}

-- ---- no step of a call takes a message

finds_by : (h : History) (long : Bool) (a : ℕ) → finds_message h (if long then Long else Full) a ≡ true
finds_by h true a = refl
finds_by h false a = refl

finds : (h : History) (answer : ℕ) (body : List ℕ) (a : ℕ) → finds_message h (kind_by answer body) a ≡ true
finds h zero body a = refl
finds h (suc answer) body a = finds_by h (nat_lt 256 (length body)) a

sent_by_tries : {F B : Type 0} → (it : WholeCall F B) (told : List Attempt) (h : History) → TakesAreSent h
    → TakesAreSent (then_steps h (map (try_step it) told ++ end_step it ∷ []))
sent_by_tries it [] h sent = takes_stay_sent h (end_step it) sent refl
sent_by_tries it (attempt ∷ told) h sent =
    sent_by_tries it told (try_step it attempt ∷ h) (takes_stay_sent h (try_step it attempt) sent (finds h attempt.answer attempt.body it.ring))

sent_by_call : {F B : Type 0} → (it : WholeCall F B) (h : History) → TakesAreSent h → TakesAreSent (then_steps h (steps_in it))
sent_by_call it h sent = sent_by_tries it it.told (begin_step it ∷ h) (takes_stay_sent h (begin_step it) sent refl)

pub call_stands : {F B : Type 0} → CallStands F B
call_stands {F} {B} run names steps k it stands call told =
    let shape = shape_of run.setup in
    let p : Play F B = play_of run steps in
    let entries = entries_in it in
    let sent : TakesAreSent (steps_of p) = subst TakesAreSent (sym (history_is run steps)) stands.sent in
    let call_then : IsCall run names (known_of run names p) it = subst (λ (it_known : Known F B). IsCall run names it_known it) (sym stands.known) call in
    let told_then : AreTold shape (steps_of p) (steps_in it) = subst (λ h. AreTold shape h (steps_in it)) (sym (history_is run steps)) told in
    let known = call_is_known run names it p sent call_then told_then in
    let played : play_of run (steps ++ entries) ≡ playing run p entries = goes_on run [] steps entries in
    let history : history_of shape (steps ++ entries) ≡ then_steps (steps_of p) (steps_in it) =
    sym (history_is run (steps ++ entries)) ∙ ap (λ (q : Play F B). steps_of q) played ∙ ap (λ (it_known : Known F B). it_known.history) known in
    record {
      kept = values_go_on run [] steps entries stands.kept (call_keeps_values run names it p call_then told_then);
      sent = subst TakesAreSent (sym history) (sent_by_call it (steps_of p) sent);
      known = ap (known_of run names) played ∙ known ∙ ap (known_in_call run.setup it) stands.known;
    }

pub standing_is_lawful : {F B : Type 0} → StandingIsLawful F B
standing_is_lawful run names steps k stands lawful = both_are_all run steps lawful stands.kept
