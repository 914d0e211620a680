-- The values of a whole call, step by step.
use Rattle.std.proofs.Common.{◌≡◌, ℕ, zero, suc, nat_lt, ◌==◌, eqb, Bool, true, false, not, ◌&&◌, ◌||◌, if◌then◌else◌, cond, All, List, [], ◌∷◌, ◌++◌, map, length, Some, refl, sym, ap, subst, ◌∙◌, eqb-true, eq-eqb}
use Rattle.std.proofs.Math.Dec.{eqb-suc-zero}
use Rattle.std.proofs.lemmas.List.Elements.{All-head, All-tail}
use Rattle.interaction.specs.Answers.{result_of}
use Rattle.interaction.specs.Attempts.{Attempt, Plays}
use Rattle.interaction.specs.Interaction.{Interaction, done, ask}
use Rattle.step_law.specs.declared.actor.Actor.{Actor}
use Rattle.step_law.specs.declared.actor.Actor.TheVariants.{Audio}
use Rattle.step_law.specs.declared.call.Call.{Call}
use Rattle.step_law.specs.declared.call.Call.TheVariants as calls
use Rattle.step_law.specs.declared.entry.Entry.{Entry}
use Rattle.step_law.specs.declared.entry.Kind.TheVariants.{Full, Long}
use Rattle.step_law.specs.Actor.{actor_number, actor_at}
use Rattle.step_law.specs.Entry.{begin_of}
use Rattle.record_law.specs.Message.{Message, Step}
use Rattle.record_law.specs.Message.Message.{body}
use Rattle.record_law.specs.Protocol.{follow_in, about_in}
use Rattle.session_play.specs.Calls.{ending_by, on_part, ran_as, worked_as}
use Rattle.session_play.specs.Hand.{Hand, hand_at}
use Rattle.session_play.specs.Looking.{steps_of, doings, open_call, front_of, back_of, urids_of, taken_body}
use Rattle.session_play.specs.Playing.{attempt_by, ended_value, value_by, value_at, step_at, playing}
use Rattle.session_play.specs.Run.{Run, with_properties}
use Rattle.session_play.specs.SessionShape.{shape_of}
use Rattle.session_play.specs.Signals.{inputs_of}
use Rattle.session_play.specs.Value.{Ending, begun, tried, gave, changed, Moment, Play}
use Rattle.session_play.specs.ValueRule.{keeps_values}
use Rattle.block_signals.specs.Board.{board_of}
use Rattle.block_signals.specs.Given.{inputs_from}
use Rattle.block_signals.proofs.Boards.{board_gives_inputs}
use Rattle.play_known.specs.Calling.{WholeCall, begin_step, try_step, end_step, AreTold, is_answered, call_known}
use Rattle.play_known.specs.Keeping.{KeepValues}
use Rattle.play_known.specs.Known.{known_of}

-- ---- steps in place of entries

-- a step after a play, with its value
abbrev pub moment_at : {F B : Type 0} → Run F B → Play F B → Step → Moment F B
moment_at run p x = record { step = x; value = value_at run p x }

-- what was played with steps, in order, after a play
abbrev pub stepping : {F B : Type 0} → Run F B → Play F B → List Step → Play F B
stepping run p [] = p
stepping run p (x ∷ later) = stepping run (moment_at run p x ∷ p) later

-- these steps keep the rule on values
abbrev pub KeptIn : {F B : Type 0} → Run F B → Play F B → List Step → Type 0
KeptIn run p [] = Unit {0}
KeptIn run p (x ∷ later) = (keeps_values run p x ≡ true) × KeptIn run (moment_at run p x ∷ p) later

step_same : {F B : Type 0} → (run : Run F B) (p : Play F B) (x : Step) → about_in (follow_in (shape_of run.setup) (steps_of p) x.entry) ≡ x.about
    → step_at run p x.entry ≡ x
step_same run p x is = λ t. record { entry = x.entry; about = is t }

pub played_so : {F B : Type 0} → (run : Run F B) (p : Play F B) (steps : List Step) → AreTold (shape_of run.setup) (steps_of p) steps
    → playing run p (map (λ (x : Step). x.entry) steps) ≡ stepping run p steps
played_so run p [] told = refl
played_so run p (x ∷ later) told =
    ap (λ it. playing run (moment_at run p it ∷ p) (map (λ (x : Step). x.entry) later)) (step_same run p x told.0)
    ∙ played_so run (moment_at run p x ∷ p) later told.1

pub kept_so : {F B : Type 0} → (run : Run F B) (p : Play F B) (steps : List Step) → AreTold (shape_of run.setup) (steps_of p) steps
    → KeptIn run p steps → KeepValues run p (map (λ (x : Step). x.entry) steps)
kept_so run p [] told kept = tt
kept_so run p (x ∷ later) told kept =
    let same : step_at run p x.entry ≡ x = step_same run p x told.0 in (
      ap (keeps_values run p) same ∙ kept.0,
      subst (λ it. KeepValues run (moment_at run p it ∷ p) (map (λ (x : Step). x.entry) later)) (sym same)
          (kept_so run (moment_at run p x ∷ p) later told.1 kept.1),
    )

-- ---- the caller's own moments

-- the actor of a call's entries
abbrev pub caller : {F B : Type 0} → WholeCall F B → Actor
caller it = actor_at (actor_number it.actor)

pub by_caller : {F B : Type 0} → (it : WholeCall F B) → caller it ≡ it.actor → (eqb (actor_number it.actor) (actor_number (caller it))) ≡ true
by_caller it is = eq-eqb (actor_number it.actor) (actor_number (caller it)) (sym (ap actor_number is))

-- its moments are its own
own_more : {F B : Type 0} → (it : WholeCall F B) (x : Moment F B) (q : Play F B) → caller it ≡ it.actor → x.step.entry.actor ≡ actor_number it.actor
    → doings (caller it) (x ∷ q) ≡ x ∷ doings (caller it) q
own_more it x q is by =
    let mine : eqb x.step.entry.actor (actor_number (caller it)) ≡ true = ap (λ n. eqb n (actor_number (caller it))) by ∙ by_caller it is in
    ap (λ b. cond b (x ∷ doings (caller it) q) (doings (caller it) q)) mine

-- what a moment of it makes of what the caller's own moments say
pub own_says : {F B X : Type 0} → (it : WholeCall F B) (x : Moment F B) (q : Play F B) (says : Play F B → X) → caller it ≡ it.actor
    → x.step.entry.actor ≡ actor_number it.actor → says (doings (caller it) (x ∷ q)) ≡ says (x ∷ doings (caller it) q)
own_says it x q says is by = ap says (own_more it x q is by)

-- ---- the begin

-- what a call does by the caller's own moments is what it does by what is known
called : {F B : Type 0} → (run : Run F B) (names : List (List ℕ)) (p : Play F B) (actor : Actor) (call : Call) (about : Message) (inst : ℕ)
    → actor_at (actor_number actor) ≡ actor → (call ≡ calls.Run → (actor ≡ Audio) × (names ≡ with_properties run.setup (urids_of run.held p)))
    → value_at run p (record { entry = begin_of actor call inst; about = about }) ≡ begun (call_known run (known_of run names p) actor call about inst)
called run names p actor calls.Make about inst is by = refl
called run names p actor calls.Activate about inst is by = refl
called run names p actor calls.Run about inst is by =
    let so : (actor ≡ Audio) × (names ≡ with_properties run.setup (urids_of run.held p)) = by refl in
    let own : actor_at (actor_number actor) ≡ Audio = is ∙ so.0 in
    let inputs : inputs_of run.setup (with_properties run.setup (urids_of run.held p)) (doings (actor_at (actor_number actor)) p) inst
    ≡ inputs_from run.setup (board_of run.setup names (doings Audio p)) inst =
    (λ t. inputs_of run.setup (sym so.1 t) (doings (own t) p) inst) ∙ board_gives_inputs run.setup names (doings Audio p) inst in
    ap (λ given. begun (on_part (λ front. ending_by ran_as (run.fronts.run front given)) (front_of inst p))) inputs
called run names p actor calls.Response about inst is by =
    λ t. begun (on_part (λ front. done (changed (run.fronts.response front (taken_body (doings (is t) p))))) (front_of inst p))
called run names p actor calls.EndRun about inst is by = refl
called run names p actor calls.Work about inst is by =
    λ t. begun (on_part (λ back. ending_by worked_as (run.backs.work back (taken_body (doings (is t) p)))) (back_of inst p))
called run names p actor calls.Save about inst is by = refl
called run names p actor calls.RestoreSafe about inst is by = refl
called run names p actor calls.Restore about inst is by = refl
called run names p actor calls.Deactivate about inst is by = refl
called run names p actor calls.Cleanup about inst is by = refl

pub begun_as_known : {F B : Type 0} → (run : Run F B) (names : List (List ℕ)) (p : Play F B) (it : WholeCall F B) → caller it ≡ it.actor
    → (it.call ≡ calls.Run → (it.actor ≡ Audio) × (names ≡ with_properties run.setup (urids_of run.held p)))
    → value_at run p (begin_step it) ≡ begun (call_known run (known_of run names p) it.actor it.call it.about it.inst)
begun_as_known run names p it is by = called run names p it.actor it.call it.about it.inst is by

-- ---- an attempt

-- a refusal is answered 2, whether the body was too long or not
refused_value : {F B : Type 0} → (run : Run F B) (long : Bool) (e : Entry) (hand : Hand F B)
    → value_by run (if long then Long else Full) (record { entry = e; about = body }) hand ≡ attempt_by 2 (open_call hand.own)
refused_value run true e hand = refl
refused_value run false e hand = refl

answered_two : (answer : ℕ) (short : Bool) → ((suc answer == 0) && short || (suc answer == 2)) ≡ true → suc answer ≡ 2
answered_two answer short is =
    eqb-true (suc answer) 2 (sym (ap (λ none. none && short || (suc answer == 2)) (eqb-suc-zero answer)) ∙ is)

-- it has the answer that is kept of it
tried_as_kept : {F B : Type 0} → (run : Run F B) (q : Play F B) (it : WholeCall F B) (said asked : List ℕ) (answer : ℕ) (next : ℕ → Interaction (Ending F B))
    → open_call (doings (caller it) q) ≡ Some (ask asked next) → said ≡ asked → is_answered (record { body = said; answer = answer }) ≡ true
    → value_at run q (try_step it (record { body = said; answer = answer })) ≡ tried said (next answer)
tried_as_kept run q it said asked zero next here same so = ap (attempt_by 0) here ∙ (λ t. tried (sym same t) (next 0))
tried_as_kept run q it said asked (suc answer) next here same so =
    let two : suc answer ≡ 2 = answered_two answer (not (nat_lt 256 (length said))) so in
    let x : Step = try_step it (record { body = said; answer = suc answer }) in
    refused_value run (nat_lt 256 (length said)) x.entry (hand_at run.held q x) ∙ ap (attempt_by 2) here ∙ (λ t. tried (sym same t) (next (sym two t)))

-- ---- all attempts

abbrev pub try_moment : {F B : Type 0} → WholeCall F B → Attempt → Interaction (Ending F B) → Moment F B
try_moment it attempt rest = record { step = try_step it attempt; value = tried attempt.body rest }

-- what was played with the attempts of a call that have an entry, after a play
abbrev pub attempting : {F B : Type 0} → WholeCall F B → Interaction (Ending F B) → List Attempt → Play F B → Play F B
attempting it (done ending) told q = q
attempting it (ask asked next) [] q = q
attempting it (ask asked next) (attempt ∷ told) q = attempting it (next attempt.answer) told (try_moment it attempt (next attempt.answer) ∷ q)

-- what is still to come of it then
abbrev pub left_of : {R : Type 0} → Interaction R → List Attempt → Interaction R
left_of (done ending) told = done ending
left_of (ask asked next) [] = ask asked next
left_of (ask asked next) (attempt ∷ told) = left_of (next attempt.answer) told

-- the call that the caller is in
abbrev pub IsIn : {F B : Type 0} → WholeCall F B → Interaction (Ending F B) → Play F B → Type 0
IsIn it call q = open_call (doings (caller it) q) ≡ Some call

abbrev pub AreAnswered : List Attempt → Type 0
AreAnswered told = All (λ attempt. is_answered attempt ≡ true) told

pub tried_goes : {F B : Type 0} → (run : Run F B) (it : WholeCall F B) (attempt : Attempt) (asked : List ℕ) (next : ℕ → Interaction (Ending F B)) (q : Play F B)
    → IsIn it (ask asked next) q → attempt.body ≡ asked → is_answered attempt ≡ true
    → moment_at run q (try_step it attempt) ≡ try_moment it attempt (next attempt.answer)
tried_goes run it attempt asked next q here same so =
    λ t. record { step = try_step it attempt; value = tried_as_kept run q it attempt.body asked attempt.answer next here same so t }

pub in_rest : {F B : Type 0} → (it : WholeCall F B) (attempt : Attempt) (rest : Interaction (Ending F B)) (q : Play F B) → caller it ≡ it.actor
    → IsIn it rest (try_moment it attempt rest ∷ q)
in_rest it attempt rest q is = own_says it (try_moment it attempt rest) q open_call is refl

pub attempts_go : {F B : Type 0} → (run : Run F B) (it : WholeCall F B) → caller it ≡ it.actor → (call : Interaction (Ending F B)) (told left : List Attempt)
    (q : Play F B) (later : List Step) → IsIn it call q → Plays call (told ++ left) it.ending → AreAnswered told
    → stepping run q (map (try_step it) told ++ later) ≡ stepping run (attempting it call told q) later
attempts_go run it is (done ending) [] left q later here plays so = refl
attempts_go run it is (done ending) (attempt ∷ told) left q later here plays so = absurd plays
attempts_go run it is (ask asked next) [] left q later here plays so = refl
attempts_go run it is (ask asked next) (attempt ∷ told) left q later here plays so =
    let rest = next attempt.answer in
    ap (λ x. stepping run (x ∷ q) (map (try_step it) told ++ later))
    (tried_goes run it attempt asked next q here plays.0 (All-head (λ it. is_answered it ≡ true) attempt told so))
    ∙ attempts_go run it is rest told left (try_moment it attempt rest ∷ q) later (in_rest it attempt rest q is) plays.1
    (All-tail (λ it. is_answered it ≡ true) attempt told so)

-- what is left of it
pub in_left : {F B : Type 0} → (it : WholeCall F B) → caller it ≡ it.actor → (call : Interaction (Ending F B)) (told left : List Attempt)
    (q : Play F B) → IsIn it call q → Plays call (told ++ left) it.ending
    → IsIn it (left_of call told) (attempting it call told q) × Plays (left_of call told) left it.ending
in_left it is (done ending) [] left q here plays = (here, plays)
in_left it is (done ending) (attempt ∷ told) left q here plays = absurd plays
in_left it is (ask asked next) [] left q here plays = (here, plays)
in_left it is (ask asked next) (attempt ∷ told) left q here plays =
    let rest = next attempt.answer in
    in_left it is rest told left (try_moment it attempt rest ∷ q) (in_rest it attempt rest q is) plays.1

-- ---- the end

-- later attempts are all answered 1
ends_as : {R : Type 0} → (call : Interaction R) (left : List Attempt) (ending : R) → Plays call left ending → All (λ (attempt : Attempt). attempt.answer ≡ 1) left
    → result_of call [] ≡ ending
ends_as (done result) [] ending plays refused = plays
ends_as (done result) (attempt ∷ left) ending plays refused = absurd plays
ends_as (ask asked next) [] ending plays refused = absurd plays
ends_as (ask asked next) (attempt ∷ left) ending plays refused =
    let one : attempt.answer ≡ 1 = All-head (λ (it : Attempt). it.answer ≡ 1) attempt left refused in
    ap (λ answer. result_of (next answer) []) (sym one)
    ∙ ends_as (next attempt.answer) left ending plays.1 (All-tail (λ (it : Attempt). it.answer ≡ 1) attempt left refused)

pub ended_as_told : {F B : Type 0} → (run : Run F B) (it : WholeCall F B) (call : Interaction (Ending F B)) (left : List Attempt) (q : Play F B)
    → IsIn it call q → Plays call left it.ending → All (λ (attempt : Attempt). attempt.answer ≡ 1) left → value_at run q (end_step it) ≡ gave it.ending
ended_as_told run it call left q here plays refused = ap ended_value here ∙ ap gave (ends_as call left it.ending plays refused)
