-- What is known after a whole call.
use Rattle.std.proofs.Common.{◌≡◌, ℕ, zero, suc, ◌≤◌, ◌==◌, eqb, nat_lt, Bool, true, false, cond, ◌&&◌, if◌then◌else◌, List, [], ◌∷◌, ◌++◌, drop, length, map, filter, Option, Some, None, refl, sym, ap, subst, ◌∙◌, unwrap_or, append_assoc, append-nil, eq-eqb, eqb-true, true≢false}
use Rattle.std.proofs.Math.Dec.{eqb-suc-zero}
use Rattle.std.proofs.lemmas.List.{drop-append-le, take-append-drop}
use Rattle.interaction.specs.Attempts.{Attempt, Plays}
use Rattle.interaction.specs.Interaction.{Interaction, done, ask}
use Rattle.graph_order.specs.declared.setup.Setup.{Setup}
use Rattle.step_law.specs.declared.actor.Actor.TheVariants.{Audio, Control}
use Rattle.step_law.specs.declared.call.Call.TheVariants as calls
use Rattle.step_law.specs.declared.entry.Kind.{Kind}
use Rattle.step_law.specs.declared.entry.Kind.TheVariants.{Take, Send, Full, Long, Done, End}
use Rattle.step_law.specs.declared.ring.Ring.TheVariants.{ControlToAudio, AudioToControl}
use Rattle.step_law.specs.Actor.{actor_number, actor_at}
use Rattle.step_law.specs.Call.{call_number}
use Rattle.step_law.specs.Entry.{end_of}
use Rattle.step_law.specs.Ring.{ring_number}
use Rattle.record_law.specs.Entries.{kind_number, is_by, is_kind, is_on, same_entry}
use Rattle.record_law.specs.History.{count, one_more}
use Rattle.record_law.specs.Message.{Step, History}
use Rattle.record_law.specs.Message.Message.{body}
use Rattle.record_law.specs.Room.{finds_message}
use Rattle.plug_api.specs.Inputs.{Outputs}
use Rattle.session_play.specs.Looking.{steps_of, doings, in_block, open_call, is_block, newer, if_so, front_of, back_of, outputs_of, urids_of, bodies_on, taken_body}
use Rattle.session_play.specs.Notices.{is_notice, told_by, untold}
use Rattle.session_play.specs.Run.{Run}
use Rattle.session_play.specs.Signals.{action_in, action_taken}
use Rattle.session_play.specs.Value.{Ending, begun, tried, gave, Moment, Play, given_in, front_ended, back_ended, outputs_ended, urids_ended, body_in}
use Rattle.play_outcome.specs.Counts.{failures, has_failed, is_failure}
use Rattle.play_outcome.specs.Endings.{made_for, saved_by, status_of, is_save_of, is_restore_of, properties_saved, status_restored}
use Rattle.play_outcome.specs.Pcm.{sound_of, block_bytes}
use Rattle.play_outcome.specs.Summary.{notice_line, notice_lines, taken_line}
use Rattle.block_signals.specs.Board.{Board, board_of}
use Rattle.block_signals.proofs.Boards.{nothing_else_counts}
use Rattle.worker_ring.specs.Attempting.{on_ring}
use Rattle.play_known.specs.Calling.{WholeCall, begin_step, try_step, end_step, steps_in, IsCall, call_known, most_told}
use Rattle.play_known.specs.InCall.{is_audio, is_call, then_steps, known_on, is_taken, sent_among, board_with, untold_by, known_in_call}
use Rattle.play_known.specs.Known.{Known, known_of, waiting_on}
use Rattle.play_known.specs.Laws.{CallIsKnown}
use Rattle.play_known.specs.Rings.{TakesAreSent}
use Rattle.play_known.proofs.CallPlayed.{moment_at, stepping, played_so, caller, by_caller, own_says, begun_as_known, try_moment, attempting, left_of, IsIn, attempts_go, in_left, ended_as_told}
use Rattle.play_known.proofs.Moments.{sends_have_bodies}
use Rattle.play_known.proofs.Takes.{takes_stay_sent}

-- ---- a moment within a call

-- what an actor's own moments say stays, where a moment of its own changes nothing of it
skip : {X Y : Type 0} → (b : Bool) (says : List X → Y) (x : X) (own : List X) → (b ≡ true → says (x ∷ own) ≡ says own) → says (cond b (x ∷ own) own) ≡ says own
skip true says x own same = same refl
skip false says x own same = refl

no_action : {F B : Type 0} → (setup : Setup) (x : Moment F B) → is_kind Take x.step.entry ≡ false → action_taken setup x ≡ None
no_action setup x take = λ t. if take t && (x.step.entry.a == ring_number ControlToAudio) then action_in setup x.step.about else None

-- audio has told all, and still has
all_told : (inform same : Bool) (setup : Setup) (inst : ℕ) (given : Option Outputs) (left : List (List ℕ)) → left ≡ [] → given ≡ None
    → (if inform then drop 1 left else told_by setup inst (if same then given else None)) ≡ left
all_told true same setup inst given left none quiet = ap (drop 1) none ∙ sym none
all_told false true setup inst given left none quiet = ap (told_by setup inst) quiet ∙ sym none
all_told false false setup inst given left none quiet = sym none

no_line : (mine on : Bool) (text : List ℕ) → on ≡ false → (if mine && on then text else []) ≡ []
no_line true on text is = ap (λ it. if it then text else []) is
no_line false on text is = refl

-- no line on a notice
no_lines : {F B : Type 0} → (setup : Setup) (names : List (List ℕ)) (x : Moment F B) (p : Play F B) → is_kind Take x.step.entry ≡ false
    → notice_lines setup names (x ∷ p) ≡ notice_lines setup names p
no_lines setup names x p take =
    let off : is_on Take AudioToControl x.step.entry ≡ false = ap (λ is. is && (x.step.entry.a == ring_number AudioToControl)) take in
    let none : taken_line setup names x ≡ [] =
    no_line (is_by Control x.step.entry) (is_on Take AudioToControl x.step.entry) (notice_line setup names x.step.about (body_in x.value)) off in
    ap (λ line. notice_lines setup names p ++ line) none ∙ append-nil (notice_lines setup names p)

-- nor a notice to tell
still_told : {F B : Type 0} → (run : Run F B) (x : Moment F B) (p : Play F B) → given_in outputs_ended x.value ≡ None
    → (is_by Audio x.step.entry ≡ true → untold run.setup (doings Audio p) ≡ []) → untold run.setup (doings Audio (x ∷ p)) ≡ untold run.setup (doings Audio p)
still_told run x p outputs silent =
    skip (is_by Audio x.step.entry) (untold run.setup) x (doings Audio p)
    (λ by. all_told (is_notice x.step.about) (same_entry (end_of Audio calls.Run x.step.entry.b) x.step.entry) run.setup x.step.entry.b
    (given_in outputs_ended x.value) (untold run.setup (doings Audio p)) (silent by) outputs)

-- a moment that ends no call, and is no block, no take and no done, changes only the history, the bodies on a ring, and what calls are made for
stays_known : {F B : Type 0} → (run : Run F B) (names : List (List ℕ)) (x : Moment F B) (p : Play F B) → is_block x ≡ false → is_kind Take x.step.entry ≡ false
    → is_kind Done x.step.entry ≡ false → is_kind End x.step.entry ≡ false → given_in urids_ended x.value ≡ None → given_in outputs_ended x.value ≡ None
    → (is_by Audio x.step.entry ≡ true → untold run.setup (doings Audio p) ≡ [])
    → known_of run names (x ∷ p) ≡ record (known_of run names p) {
      history = x.step ∷ steps_of p;
      waiting = λ ring. waiting_on ring (x ∷ p);
      made = λ actor. made_for (doings actor (x ∷ p));
    }
stays_known run names x p block take finished ends urids outputs silent = λ t. record {
  history = x.step ∷ steps_of p;
  fronts = λ inst. newer (if_so (ends t && (x.step.entry.b == inst)) (given_in front_ended x.value)) (front_of inst p);
  backs = λ inst. newer (if_so (ends t && (x.step.entry.b == inst)) (given_in back_ended x.value)) (back_of inst p);
  urids = unwrap_or (urids t) (urids_of run.held p);
  waiting = λ ring. waiting_on ring (x ∷ p);
  taken = λ actor.
      skip (is_by actor x.step.entry) taken_body x (doings actor p)
      (λ by. ap (λ is. if is then body_in x.value else taken_body (doings actor p)) take) t;
  made = λ actor. made_for (doings actor (x ∷ p));
  board =
      skip (is_by Audio x.step.entry) (board_of run.setup names) x (doings Audio p)
      (λ by. nothing_else_counts run.setup names x (doings Audio p) block outputs (no_action run.setup x take)) t;
  untold = still_told run x p outputs silent t;
  given = λ inst. newer (if_so (ends t && (x.step.entry.b == inst)) (given_in outputs_ended x.value)) (outputs_of inst p);
  sound = if finished t then sound_of run.setup p ++ block_bytes run.setup (in_block (doings Audio p)) else sound_of run.setup p;
  saved = λ action.
      newer (if_so (ends t && is_save_of action (made_for (doings (actor_at x.step.entry.actor) p))) (given_in properties_saved x.value)) (saved_by p action);
  statuses = λ action.
      newer (if_so (ends t && is_restore_of action (made_for (doings (actor_at x.step.entry.actor) p))) (given_in status_restored x.value)) (status_of p action);
  failures = λ inst. one_more (ends t && (x.step.entry.a == call_number calls.Work) && (x.step.entry.b == inst) && has_failed x.value) (failures inst p);
  lines = no_lines run.setup names x p take t;
}

-- ---- it begins

abbrev pub Silent : {F B : Type 0} → Run F B → WholeCall F B → Play F B → Type 0
Silent run it p = (is_audio it.actor ≡ true) → untold run.setup (doings Audio p) ≡ []

abbrev pub begin_moment : {F B : Type 0} → WholeCall F B → Interaction (Ending F B) → Moment F B
begin_moment it call = record { step = begin_step it; value = begun call }

abbrev with_begin : {F B : Type 0} → WholeCall F B → Known F B → Known F B
with_begin it k = record k {
  history = begin_step it ∷ k.history;
  made = λ actor. if actor_number it.actor == actor_number actor then it.about else k.made actor;
}

made_by : {F B : Type 0} → (b : Bool) (it : WholeCall F B) (call : Interaction (Ending F B)) (own : Play F B)
    → made_for (cond b (begin_moment it call ∷ own) own) ≡ (if b then it.about else made_for own)
made_by true it call own = refl
made_by false it call own = refl

begun_known : {F B : Type 0} → (run : Run F B) (names : List (List ℕ)) (it : WholeCall F B) (call : Interaction (Ending F B)) (p : Play F B) → Silent run it p
    → known_of run names (begin_moment it call ∷ p) ≡ with_begin it (known_of run names p)
begun_known run names it call p silent =
    stays_known run names (begin_moment it call) p refl refl refl refl refl refl silent
    ∙ (λ t. record (known_of run names p) {
      history = begin_step it ∷ steps_of p;
      made = λ actor. made_by (actor_number it.actor == actor_number actor) it call (doings actor p) t;
    })

pub begun_silent : {F B : Type 0} → (run : Run F B) (it : WholeCall F B) (call : Interaction (Ending F B)) (p : Play F B) → Silent run it p
    → Silent run it (begin_moment it call ∷ p)
begun_silent run it call p silent by = still_told run (begin_moment it call) p refl silent ∙ silent by

pub tried_silent : {F B : Type 0} → (run : Run F B) (it : WholeCall F B) (attempt : Attempt) (rest : Interaction (Ending F B)) (p : Play F B) → Silent run it p
    → Silent run it (try_moment it attempt rest ∷ p)
tried_silent run it attempt rest p silent by = still_told run (try_moment it attempt rest) p refl silent ∙ silent by

-- ---- an attempt

waits : (on sends : Bool) (n : ℕ) (bodies : List (List ℕ)) (said : List ℕ) → n ≤ length bodies
    → drop n (if sends && on then bodies ++ said ∷ [] else bodies) ≡ (if on then drop n bodies ++ cond sends (said ∷ []) [] else drop n bodies)
waits true true n bodies said le = drop-append-le n bodies (said ∷ []) le
waits false true n bodies said le = refl
waits true false n bodies said le = sym (append-nil (drop n bodies))
waits false false n bodies said le = refl

-- with attempts that have entries
abbrev with_attempts : {F B : Type 0} → WholeCall F B → List Attempt → Known F B → Known F B
with_attempts it told k = record k {
  history = then_steps k.history (map (try_step it) told);
  waiting = λ ring. if it.ring == ring_number ring then k.waiting ring ++ sent_among told else k.waiting ring;
}

abbrev tried_of : {F B : Type 0} → WholeCall F B → Kind → List ℕ → Interaction (Ending F B) → Moment F B
tried_of it kind said rest = record { step = record { entry = on_ring (actor_number it.actor) it.ring kind; about = body }; value = tried said rest }

-- by its kind
tried_as : {F B : Type 0} → (run : Run F B) (names : List (List ℕ)) (it : WholeCall F B) (kind : Kind) (said : List ℕ) (rest : Interaction (Ending F B)) (p : Play F B)
    (sends : Bool) → eqb (kind_number kind) 0 ≡ false → eqb (kind_number kind) 2 ≡ false → eqb (kind_number kind) 6 ≡ false → eqb (kind_number kind) 9 ≡ false
    → eqb (kind_number kind) 8 ≡ false → eqb (kind_number kind) 3 ≡ sends → TakesAreSent (steps_of p) → Silent run it p
    → known_of run names (tried_of it kind said rest ∷ p) ≡ record (known_of run names p) {
      history = (tried_of it kind said rest).step ∷ steps_of p;
      waiting = λ ring. if it.ring == ring_number ring then waiting_on ring p ++ cond sends (said ∷ []) [] else waiting_on ring p;
    }
tried_as run names it kind said rest p sends block take finished ends begins is sent silent =
    let x = tried_of it kind said rest in
    stays_known run names x p block take finished ends refl refl silent
    ∙ (λ t. record (known_of run names p) {
      history = x.step ∷ steps_of p;
      waiting = λ ring.
          ((λ i. drop (one_more (take i && (it.ring == ring_number ring)) (count Take ring (steps_of p)))
          (if is i && (it.ring == ring_number ring) then bodies_on ring p ++ said ∷ [] else bodies_on ring p))
          ∙ waits (it.ring == ring_number ring) sends (count Take ring (steps_of p)) (bodies_on ring p) said
          (subst (λ n. count Take ring (steps_of p) ≤ n) (sym (sends_have_bodies ring p)) (sent ring))) t;
      made = λ actor.
          skip (is_by actor x.step.entry) made_for x (doings actor p) (λ by. ap (λ is. if is then body else made_for (doings actor p)) begins) t;
    })

tried_refused : {F B : Type 0} → (run : Run F B) (names : List (List ℕ)) (it : WholeCall F B) (long : Bool) (said : List ℕ) (rest : Interaction (Ending F B)) (p : Play F B)
    → TakesAreSent (steps_of p) → Silent run it p
    → known_of run names (tried_of it (if long then Long else Full) said rest ∷ p) ≡ record (known_of run names p) {
      history = (tried_of it (if long then Long else Full) said rest).step ∷ steps_of p;
      waiting = λ ring. if it.ring == ring_number ring then waiting_on ring p ++ [] else waiting_on ring p;
    }
tried_refused run names it true said rest p sent silent = tried_as run names it Long said rest p false refl refl refl refl refl refl sent silent
tried_refused run names it false said rest p sent silent = tried_as run names it Full said rest p false refl refl refl refl refl refl sent silent

tried_by : {F B : Type 0} → (run : Run F B) (names : List (List ℕ)) (it : WholeCall F B) (answer : ℕ) (said : List ℕ) (rest : Interaction (Ending F B)) (p : Play F B)
    → TakesAreSent (steps_of p) → Silent run it p
    → known_of run names (try_moment it (record { body = said; answer = answer }) rest ∷ p)
    ≡ with_attempts it (record { body = said; answer = answer } ∷ []) (known_of run names p)
tried_by run names it zero said rest p sent silent = tried_as run names it Send said rest p true refl refl refl refl refl refl sent silent
tried_by run names it (suc answer) said rest p sent silent =
    let attempt : Attempt = record { body = said; answer = suc answer } in
    tried_refused run names it (nat_lt 256 (length said)) said rest p sent silent
    ∙ (λ t. record (known_of run names p) {
      history = try_step it attempt ∷ steps_of p;
      waiting = λ ring.
          if it.ring == ring_number ring then waiting_on ring p ++ map (λ (it : Attempt). it.body) (cond (sym (eqb-suc-zero answer) t) (attempt ∷ []) [])
          else waiting_on ring p;
    })

tried_known : {F B : Type 0} → (run : Run F B) (names : List (List ℕ)) (it : WholeCall F B) (attempt : Attempt) (rest : Interaction (Ending F B)) (p : Play F B)
    → TakesAreSent (steps_of p) → Silent run it p
    → known_of run names (try_moment it attempt rest ∷ p) ≡ with_attempts it (attempt ∷ []) (known_of run names p)
tried_known run names it attempt rest p sent silent = tried_by run names it attempt.answer attempt.body rest p sent silent

-- ---- all attempts

none_more : (on : Bool) (waiting : List (List ℕ)) → waiting ≡ (if on then waiting ++ [] else waiting)
none_more true waiting = sym (append-nil waiting)
none_more false waiting = refl

sent_first : (b : Bool) (attempt : Attempt) (told : List Attempt)
    → map (λ (it : Attempt). it.body) (cond b (attempt ∷ []) []) ++ sent_among told ≡ map (λ (it : Attempt). it.body) (cond b (attempt ∷ filter is_taken told) (filter is_taken told))
sent_first true attempt told = refl
sent_first false attempt told = refl

more_wait : (on : Bool) (waiting first later both : List (List ℕ)) → first ++ later ≡ both
    → (if on then (if on then waiting ++ first else waiting) ++ later else (if on then waiting ++ first else waiting)) ≡ (if on then waiting ++ both else waiting)
more_wait true waiting first later both is = append_assoc waiting first later ∙ ap (λ it. waiting ++ it) is
more_wait false waiting first later both is = refl

no_attempts : {F B : Type 0} → (it : WholeCall F B) (k : Known F B) → k ≡ with_attempts it [] k
no_attempts it k = λ t. record k { waiting = λ ring. none_more (it.ring == ring_number ring) (k.waiting ring) t }

more_attempts : {F B : Type 0} → (it : WholeCall F B) (attempt : Attempt) (told : List Attempt) (k : Known F B)
    → with_attempts it told (with_attempts it (attempt ∷ []) k) ≡ with_attempts it (attempt ∷ told) k
more_attempts it attempt told k = λ t. record k {
  history = then_steps (try_step it attempt ∷ k.history) (map (try_step it) told);
  waiting = λ ring.
      more_wait (it.ring == ring_number ring) (k.waiting ring) (sent_among (attempt ∷ [])) (sent_among told) (sent_among (attempt ∷ told))
      (sent_first (is_taken attempt) attempt told) t;
}

-- no attempt takes
takes_none : {F B : Type 0} → (it : WholeCall F B) (h : History) (answer : ℕ) (said : List ℕ)
    → (let e = (try_step it (record { body = said; answer = answer })).entry in finds_message h e.kind e.a) ≡ true
takes_none it h zero said = refl
takes_none it h (suc answer) said = by (nat_lt 256 (length said))
  where
    by : (long : Bool) → finds_message h (if long then Long else Full) it.ring ≡ true
    by true = refl
    by false = refl

attempts_known : {F B : Type 0} → (run : Run F B) (names : List (List ℕ)) (it : WholeCall F B) (call : Interaction (Ending F B)) (told left : List Attempt) (p : Play F B)
    → Plays call (told ++ left) it.ending → TakesAreSent (steps_of p) → Silent run it p
    → known_of run names (attempting it call told p) ≡ with_attempts it told (known_of run names p)
attempts_known run names it (done ending) [] left p plays sent silent = no_attempts it (known_of run names p)
attempts_known run names it (done ending) (attempt ∷ told) left p plays sent silent = absurd plays
attempts_known run names it (ask asked next) [] left p plays sent silent = no_attempts it (known_of run names p)
attempts_known run names it (ask asked next) (attempt ∷ told) left p plays sent silent =
    let rest = next attempt.answer in
    let one : known_of run names (try_moment it attempt rest ∷ p) ≡ with_attempts it (attempt ∷ []) (known_of run names p) =
    tried_known run names it attempt rest p sent silent in
    attempts_known run names it rest told left (try_moment it attempt rest ∷ p) plays.1
    (takes_stay_sent (steps_of p) (try_step it attempt) sent (takes_none it (steps_of p) attempt.answer attempt.body)) (tried_silent run it attempt rest p silent)
    ∙ ap (with_attempts it told) one ∙ more_attempts it attempt told (known_of run names p)

-- ---- it has ended

abbrev end_moment : {F B : Type 0} → WholeCall F B → Moment F B
end_moment it = record { step = end_step it; value = gave it.ending }

abbrev with_end : {F B : Type 0} → Setup → WholeCall F B → Known F B → Known F B
with_end setup it k = record k {
  history = end_step it ∷ k.history;
  fronts = λ inst. known_on it inst (front_ended it.ending) (k.fronts inst);
  backs = λ inst. known_on it inst (back_ended it.ending) (k.backs inst);
  urids = unwrap_or (urids_ended it.ending) k.urids;
  board = if is_audio it.actor then board_with it.inst (outputs_ended it.ending) k.board else k.board;
  untold = if is_audio it.actor then untold_by setup it else k.untold;
  given = λ inst. known_on it inst (outputs_ended it.ending) (k.given inst);
  saved = λ action. newer (if_so (is_save_of action it.about) (properties_saved it.ending)) (k.saved action);
  statuses = λ action. newer (if_so (is_restore_of action it.about) (status_restored it.ending)) (k.statuses action);
  failures = λ inst. one_more (is_call calls.Work it.call && (it.inst == inst) && is_failure it.ending) (k.failures inst);
}

-- the signals of audio's call
none_given : (b : Bool) (older : Option Outputs) → newer (if_so b None) older ≡ older
none_given true older = refl
none_given false older = refl

some_given : (b : Bool) (outputs : Outputs) (older : Option Outputs) → newer (if_so b (Some outputs)) older ≡ (if b then Some outputs else older)
some_given true outputs older = refl
some_given false outputs older = refl

board_given : (inst : ℕ) (outputs : Option Outputs) (board : Board)
    → record board { now = λ other. newer (if_so (inst == other) outputs) (board.now other) } ≡ board_with inst outputs board
board_given inst None board = λ t. record board { now = λ other. none_given (inst == other) (board.now other) t }
board_given inst (Some outputs) board = λ t. record board { now = λ other. some_given (inst == other) outputs (board.now other) t }

board_ended : {F B : Type 0} → (b : Bool) (run : Run F B) (names : List (List ℕ)) (it : WholeCall F B) (own : Play F B)
    → board_of run.setup names (cond b (end_moment it ∷ own) own)
    ≡ (if b then board_with it.inst (outputs_ended it.ending) (board_of run.setup names own) else board_of run.setup names own)
board_ended true run names it own = board_given it.inst (outputs_ended it.ending) (board_of run.setup names own)
board_ended false run names it own = refl

-- the notices of its run
and_same : (run inst : ℕ) → ((run == 0) && (inst == inst)) ≡ (run == 0)
and_same run inst = by (run == 0)
  where
    by : (b : Bool) → (b && (inst == inst)) ≡ b
    by true = eq-eqb inst inst refl
    by false = refl

untold_ended : {F B : Type 0} → (n : ℕ) (run : Run F B) (it : WholeCall F B) (own : Play F B) → actor_number it.actor ≡ n
    → untold run.setup (cond (n == 0) (end_moment it ∷ own) own) ≡ (if n == 0 then untold_by run.setup it else untold run.setup own)
untold_ended zero run it own is =
    (λ t. told_by run.setup it.inst
    (if same_entry (end_of Audio calls.Run it.inst) (record { actor = is t; kind = End; a = call_number it.call; b = it.inst }) then outputs_ended it.ending else None))
    ∙ (λ t. told_by run.setup it.inst (if and_same (call_number it.call) it.inst t then outputs_ended it.ending else None))
untold_ended (suc n) run it own is = by (suc n == 0) (eqb-suc-zero n)
  where
    by : (b : Bool) → b ≡ false → untold run.setup (cond b (end_moment it ∷ own) own) ≡ (if b then untold_by run.setup it else untold run.setup own)
    by true off = absurd (true≢false off)
    by false off = refl

ended_known : {F B : Type 0} → (run : Run F B) (names : List (List ℕ)) (it : WholeCall F B) (p : Play F B) → made_for (doings (caller it) p) ≡ it.about
    → known_of run names (end_moment it ∷ p) ≡ with_end run.setup it (known_of run names p)
ended_known run names it p about = λ t. record (with_end run.setup it (known_of run names p)) {
  taken = λ actor. skip (is_by actor (end_step it).entry) taken_body (end_moment it) (doings actor p) (λ by. refl) t;
  made = λ actor. skip (is_by actor (end_step it).entry) made_for (end_moment it) (doings actor p) (λ by. refl) t;
  board = board_ended (is_audio it.actor) run names it (doings Audio p) t;
  untold = untold_ended (actor_number it.actor) run it (doings Audio p) refl t;
  saved = λ action. newer (if_so (is_save_of action (about t)) (properties_saved it.ending)) (saved_by p action);
  statuses = λ action. newer (if_so (is_restore_of action (about t)) (status_restored it.ending)) (status_of p action);
  lines = no_lines run.setup names (end_moment it) p refl t;
}

-- ---- the whole call

history_whole : (h : History) (first : List Step) (x : Step) → x ∷ then_steps h first ≡ then_steps h (first ++ x ∷ [])
history_whole h [] x = refl
history_whole h (y ∷ first) x = history_whole (y ∷ h) first x

whole_known : {F B : Type 0} → (setup : Setup) (it : WholeCall F B) (k : Known F B)
    → with_end setup it (with_attempts it it.told (with_begin it k)) ≡ known_in_call setup it k
whole_known setup it k = λ t. record (known_in_call setup it k) {
  history = history_whole (begin_step it ∷ k.history) (map (try_step it) it.told) (end_step it) t;
}

-- the attempts that have an entry, and then the others
attempts_split : {F B : Type 0} → (run : Run F B) (names : List (List ℕ)) (k : Known F B) (it : WholeCall F B) → (c : IsCall run names k it)
    → it.told ++ drop (most_told run it.inst) c.attempts ≡ c.attempts
attempts_split run names k it c =
    ap (λ told. told ++ drop (most_told run it.inst) c.attempts) c.told ∙ take-append-drop (most_told run it.inst) c.attempts

pub plays_split : {F B : Type 0} → (run : Run F B) (names : List (List ℕ)) (k : Known F B) (it : WholeCall F B) → (c : IsCall run names k it)
    → Plays (call_known run k it.actor it.call it.about it.inst) (it.told ++ drop (most_told run it.inst) c.attempts) it.ending
plays_split run names k it c =
    subst (λ attempts. Plays (call_known run k it.actor it.call it.about it.inst) attempts it.ending) (sym (attempts_split run names k it c)) c.plays

pub silent_of : {F B : Type 0} → (run : Run F B) (names : List (List ℕ)) (it : WholeCall F B) (p : Play F B) → (c : IsCall run names (known_of run names p) it)
    → Silent run it p
silent_of run names it p c by = c.silent (sym c.actor ∙ ap actor_at (eqb-true (actor_number it.actor) 0 by))

-- its begin, with its value
pub begins : {F B : Type 0} → (run : Run F B) (names : List (List ℕ)) (it : WholeCall F B) (p : Play F B) → (c : IsCall run names (known_of run names p) it)
    → moment_at run p (begin_step it) ≡ begin_moment it (call_known run (known_of run names p) it.actor it.call it.about it.inst)
begins run names it p c = λ t. record { step = begin_step it; value = begun_as_known run names p it c.actor c.run_by t }

pub in_begun : {F B : Type 0} → (it : WholeCall F B) (call : Interaction (Ending F B)) (p : Play F B) → caller it ≡ it.actor → IsIn it call (begin_moment it call ∷ p)
in_begun it call p is = own_says it (begin_moment it call) p open_call is refl

-- what it is made for
made_whole : {F B : Type 0} → (run : Run F B) (names : List (List ℕ)) (it : WholeCall F B) (p q : Play F B) → caller it ≡ it.actor
    → known_of run names q ≡ with_attempts it it.told (with_begin it (known_of run names p)) → made_for (doings (caller it) q) ≡ it.about
made_whole run names it p q is known =
    ap (λ k. k.made (caller it)) known ∙ ap (λ b. if b then it.about else made_for (doings (caller it) p)) (by_caller it is)

pub call_is_known : {F B : Type 0} → CallIsKnown F B
call_is_known run names it p sent c told =
    let k = known_of run names p in
    let call = call_known run k it.actor it.call it.about it.inst in
    let left = drop (most_told run it.inst) c.attempts in
    let after = begin_moment it call ∷ p in
    let made = attempting it call it.told after in
    let plays : Plays call (it.told ++ left) it.ending = plays_split run names k it c in
    let silent : Silent run it p = silent_of run names it p c in
    let inside : IsIn it call after = in_begun it call p c.actor in
    let ends = in_left it c.actor call it.told left after inside plays in
    let begun_as : known_of run names after ≡ with_begin it k = begun_known run names it call p silent in
    let tried_as : known_of run names made ≡ with_attempts it it.told (with_begin it k) =
    attempts_known run names it call it.told left after plays (takes_stay_sent (steps_of p) (begin_step it) sent refl) (begun_silent run it call p silent)
    ∙ ap (with_attempts it it.told) begun_as in
    ap (known_of run names) (played_so run p (steps_in it) told)
    ∙ ap (λ x. known_of run names (stepping run (x ∷ p) (map (try_step it) it.told ++ end_step it ∷ []))) (begins run names it p c)
    ∙ ap (known_of run names) (attempts_go run it c.actor call it.told left after (end_step it ∷ []) inside plays c.answered)
    ∙ (λ t. known_of run names (record { step = end_step it; value = ended_as_told run it (left_of call it.told) left made ends.0 ends.1 c.refused t } ∷ made))
    ∙ ended_known run names it made (made_whole run names it p made c.actor tried_as)
    ∙ ap (with_end run.setup it) tried_as
    ∙ whole_known run.setup it k
