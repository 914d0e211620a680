-- What is known goes on entry by entry.
use Rattle.std.proofs.Common.{◌≡◌, ℕ, suc, ◌+◌, ◌≤◌, ◌==◌, Bool, true, false, ◌&&◌, if◌then◌else◌, List, [], ◌∷◌, ◌++◌, drop, length, None, option_and_then, refl, sym, ap, subst, ◌∙◌, arith, eqb-true, true≢false}
use Rattle.std.proofs.lemmas.List.{length-append, drop-append-le, drop-drop}
use Rattle.graph_order.specs.declared.setup.Setup.{Setup}
use Rattle.step_law.specs.declared.actor.Actor.TheVariants.{Audio}
use Rattle.step_law.specs.declared.entry.Kind.TheVariants.{Take, Send, Begin}
use Rattle.step_law.specs.declared.ring.Ring.{Ring}
use Rattle.step_law.specs.Ring.{ring_number}
use Rattle.record_law.specs.Entries.{kind_number, is_by, is_kind, is_on}
use Rattle.record_law.specs.History.{count, one_more}
use Rattle.session_play.specs.Looking.{steps_of, doings, is_block, in_block, before_block, ends_on, newer, if_so, outputs_of, bodies_on, taken_body}
use Rattle.session_play.specs.Notices.{untold}
use Rattle.session_play.specs.Signals.{set_at, message_to, put_event, action_taken, value_taken, messages_taken}
use Rattle.session_play.specs.Value.{Moment, Play, given_in, outputs_ended, body_in}
use Rattle.play_outcome.specs.Endings.{made_for}
use Rattle.block_signals.specs.Board.{board_of}
use Rattle.play_known.specs.Known.{known_of, known_after, waiting_on, waiting_after, board_after, untold_after}
use Rattle.play_known.specs.Laws.{KnownGoesOn}
use Rattle.play_known.specs.Rings.{TakesAreSent}

-- ---- the bodies that wait

bodies_grow : (b : Bool) (sent : List (List ℕ)) (body : List ℕ) → length (if b then sent ++ body ∷ [] else sent) ≡ one_more b (length sent)
bodies_grow true sent body = length-append sent (body ∷ []) ∙ omega arith
bodies_grow false sent body = refl

-- each send has its body
pub sends_have_bodies : {F B : Type 0} → (ring : Ring) (p : Play F B) → length (bodies_on ring p) ≡ count Send ring (steps_of p)
sends_have_bodies ring [] = refl
sends_have_bodies ring (x ∷ p) =
    bodies_grow (is_on Send ring x.step.entry) (bodies_on ring p) (body_in x.value) ∙ ap (one_more (is_on Send ring x.step.entry)) (sends_have_bodies ring p)

first_of : (a b : Bool) → (a && b) ≡ true → a ≡ true
first_of true b is = refl
first_of false b is = absurd (true≢false (sym is))

-- a send is no take
no_take : (kind : ℕ) (on : Bool) → ((kind == 3) && on) ≡ true → ((kind == 2) && on) ≡ false
no_take kind on is = subst (λ n. ((n == 2) && on) ≡ false) (sym (eqb-true kind 3 (first_of (kind == 3) on is))) refl

wait_on : (sends takes : Bool) (taken : ℕ) (sent : List (List ℕ)) (body : List ℕ) → (sends ≡ true → takes ≡ false) → taken ≤ length sent
    → drop (one_more takes taken) (if sends then sent ++ body ∷ [] else sent)
    ≡ (if sends then drop taken sent ++ body ∷ [] else if takes then drop 1 (drop taken sent) else drop taken sent)
wait_on true true taken sent body apart few = absurd (true≢false (apart refl))
wait_on true false taken sent body apart few = drop-append-le taken sent (body ∷ []) few
wait_on false true taken sent body apart few = let more : suc taken ≡ taken + 1 = omega arith in ap (λ n. drop n sent) more ∙ sym (drop-drop 1 taken sent)
wait_on false false taken sent body apart few = refl

waiting_goes_on : {F B : Type 0} → (ring : Ring) (x : Moment F B) (p : Play F B) → TakesAreSent (steps_of p)
    → waiting_on ring (x ∷ p) ≡ waiting_after x ring (waiting_on ring p)
waiting_goes_on ring x p sent =
    wait_on (is_on Send ring x.step.entry) (is_on Take ring x.step.entry) (count Take ring (steps_of p)) (bodies_on ring p) (body_in x.value)
    (no_take (kind_number x.step.entry.kind) (x.step.entry.a == ring_number ring)) (subst (λ n. count Take ring (steps_of p) ≤ n) (sym (sends_have_bodies ring p)) (sent ring))

-- ---- an actor's own moments

taken_goes_on : {F B : Type 0} → (b : Bool) (x : Moment F B) (own : Play F B)
    → taken_body (if b then x ∷ own else own) ≡ (if b && is_kind Take x.step.entry then body_in x.value else taken_body own)
taken_goes_on true x own = refl
taken_goes_on false x own = refl

made_goes_on : {F B : Type 0} → (b : Bool) (x : Moment F B) (own : Play F B)
    → made_for (if b then x ∷ own else own) ≡ (if b && is_kind Begin x.step.entry then x.step.about else made_for own)
made_goes_on true x own = refl
made_goes_on false x own = refl

untold_goes_on : {F B : Type 0} → (b : Bool) (setup : Setup) (x : Moment F B) (own : Play F B)
    → untold setup (if b then x ∷ own else own) ≡ (if b then untold_after setup x (untold setup own) else untold setup own)
untold_goes_on true setup x own = refl
untold_goes_on false setup x own = refl

-- ---- the signals

now_by : {F B : Type 0} → (b : Bool) (x : Moment F B) (block : Play F B) (inst : ℕ)
    → outputs_of inst (if b then [] else x ∷ block)
    ≡ (if b then None else newer (if_so (ends_on inst x.step.entry) (given_in outputs_ended x.value)) (outputs_of inst block))
now_by true x block inst = refl
now_by false x block inst = refl

before_by : {F B : Type 0} → (b : Bool) (own : Play F B) (inst : ℕ)
    → outputs_of inst (in_block (if b then own else before_block own)) ≡ (if b then outputs_of inst (in_block own) else outputs_of inst (in_block (before_block own)))
before_by true own inst = refl
before_by false own inst = refl

messages_by : {F B : Type 0} → (b : Bool) (setup : Setup) (names : List (List ℕ)) (x : Moment F B) (block : Play F B) (inst : ℕ)
    → messages_taken setup names (if b then [] else x ∷ block) inst
    ≡ (if b then [] else put_event (option_and_then (message_to names inst) (action_taken setup x)) (messages_taken setup names block inst))
messages_by true setup names x block inst = refl
messages_by false setup names x block inst = refl

pub board_goes_on : {F B : Type 0} → (setup : Setup) (names : List (List ℕ)) (x : Moment F B) (own : Play F B)
    → board_of setup names (x ∷ own) ≡ board_after setup names x (board_of setup names own)
board_goes_on setup names x own = λ t. record {
  now = λ inst. now_by (is_block x) x (in_block own) inst t;
  before = λ inst. before_by (is_block x) own inst t;
  values = λ inst port. newer (option_and_then (set_at inst port) (action_taken setup x)) (value_taken setup own inst port);
  messages = λ inst. messages_by (is_block x) setup names x (in_block own) inst t;
}

board_if : {F B : Type 0} → (b : Bool) (setup : Setup) (names : List (List ℕ)) (x : Moment F B) (own : Play F B)
    → board_of setup names (if b then x ∷ own else own) ≡ (if b then board_after setup names x (board_of setup names own) else board_of setup names own)
board_if true setup names x own = board_goes_on setup names x own
board_if false setup names x own = refl

-- ---- all that is known

pub known_goes_on : {F B : Type 0} → KnownGoesOn F B
known_goes_on run names x p sent =
    let before = known_of run names p in
    let after = known_after run.setup names x before in
    λ t. record {
      history = after.history;
      fronts = after.fronts;
      backs = after.backs;
      urids = after.urids;
      waiting = λ ring. waiting_goes_on ring x p sent t;
      taken = λ actor. taken_goes_on (is_by actor x.step.entry) x (doings actor p) t;
      made = λ actor. made_goes_on (is_by actor x.step.entry) x (doings actor p) t;
      board = board_if (is_by Audio x.step.entry) run.setup names x (doings Audio p) t;
      untold = untold_goes_on (is_by Audio x.step.entry) run.setup x (doings Audio p) t;
      given = after.given;
      sound = after.sound;
      saved = after.saved;
      statuses = after.statuses;
      failures = after.failures;
      lines = after.lines;
    }
