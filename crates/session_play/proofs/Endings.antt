-- An open call ends with what it gives under the answers that the record tells of.
use Rattle.std.proofs.Common.{◌≡◌, ◌⊎◌, ℕ, Bool, true, false, cond, List, [], ◌∷◌, ◌++◌, Option, Some, None, refl, sym, ap, subst, ◌∙◌, inl, inr, eqb-true}
use Rattle.std.proofs.lemmas.Option.{none-some, same_Some}
use Rattle.interaction.specs.Interaction.{Interaction, done, ask}
use Rattle.interaction.specs.Answers.{result_of}
use Rattle.step_law.specs.declared.actor.Actor.{Actor}
use Rattle.step_law.specs.declared.entry.Kind.{Kind}
use Rattle.step_law.specs.declared.entry.Kind.TheVariants.{Block, Look, Take, Send, Full, Long, Done, Stop, Begin, End, Beat, Join, Late, Last}
use Rattle.step_law.specs.Actor.{actor_number, actor_at}
use Rattle.record_law.specs.Entries.{is_by}
use Rattle.record_law.specs.Message.{Message, Step}
use Rattle.record_law.specs.Message.Message.{nothing, body, notice, input, lend, part, give, save, restore, answer, close}
use Rattle.session_play.specs.Hand.{Hand, hand_at}
use Rattle.session_play.specs.Looking.{doings, open_call, call_after}
use Rattle.session_play.specs.Notices.{untold}
use Rattle.session_play.specs.Playing.{attempt_by, first_told, sent_value, taken_value, ended_value, value_by, value_at, IsPlayed}
use Rattle.session_play.specs.Run.{Run}
use Rattle.session_play.specs.Value.{Ending, Value, Moment, Play}
use Rattle.session_play.specs.ValueLaws.{answer_of, begun_after, begun_call, answers_after, answers_told, EndsByAnswers}

-- ---- what is still to come of a call after answers

abbrev after_answers : {R : Type 0} → Interaction R → List ℕ → Interaction R
after_answers (done result) answers = done result
after_answers (ask asked next) [] = ask asked next
after_answers (ask asked next) (given ∷ later) = after_answers (next given) later

abbrev goes_on : {R : Type 0} → ℕ → Interaction R → Interaction R
goes_on given (done result) = done result
goes_on given (ask asked next) = next given

after_none : {R : Type 0} → (call : Interaction R) → after_answers call [] ≡ call
after_none (done result) = refl
after_none (ask asked next) = refl

after_more : {R : Type 0} → (call : Interaction R) (answers : List ℕ) (given : ℕ) → after_answers call (answers ++ given ∷ []) ≡ goes_on given (after_answers call answers)
after_more (done result) answers given = refl
after_more (ask asked next) [] given = after_none (next given)
after_more (ask asked next) (first ∷ later) given = after_more (next first) later given

result_after : {R : Type 0} → (call : Interaction R) (answers : List ℕ) → result_of (after_answers call answers) [] ≡ result_of call answers
result_after (done result) answers = refl
result_after (ask asked next) [] = refl
result_after (ask asked next) (first ∷ later) = result_after (next first) later

-- ---- what an actor's own moments say of the call that it is in

abbrev State : {R : Type 0} → Option (Interaction R) → Option (Interaction R) → List ℕ → Type 0
State {R = R} rest begun answers = (rest ≡ None) ⊎ ((call : Interaction R) × (begun ≡ Some call) × (rest ≡ Some (after_answers call answers)))

tried_goes : {F B : Type 0} → (kind : Kind) (rest begun : Option (Interaction (Ending F B))) (answers : List ℕ) → State rest begun answers
    → State (call_after (attempt_by (answer_of kind) rest) rest) (begun_after (attempt_by (answer_of kind) rest) begun) (answers_after (attempt_by (answer_of kind) rest) kind answers)
tried_goes kind None begun answers s = inl refl
tried_goes kind (Some call) begun answers (inl none) = absurd (none-some call (sym none))
tried_goes kind (Some (done ending)) begun answers (inr it) =
    inr (it.0, it.1, ap Some (ap (goes_on (answer_of kind)) (same_Some (done ending) (after_answers it.0 answers) it.2) ∙ sym (after_more it.0 answers (answer_of kind))))
tried_goes kind (Some (ask asked next)) begun answers (inr it) =
    inr (it.0, it.1, ap Some (ap (goes_on (answer_of kind)) (same_Some (ask asked next) (after_answers it.0 answers) it.2) ∙ sym (after_more it.0 answers (answer_of kind))))

abbrev Goes : {F B : Type 0} → Kind → Value F B → Option (Interaction (Ending F B)) → Option (Interaction (Ending F B)) → List ℕ → Type 0
Goes kind value rest begun answers = State (call_after value rest) (begun_after value begun) (answers_after value kind answers)

told_goes : {F B : Type 0} → (kind : Kind) (left : List (List ℕ)) (rest begun : Option (Interaction (Ending F B))) (answers : List ℕ) → State rest begun answers
    → Goes kind (first_told left) rest begun answers
told_goes kind [] rest begun answers s = s
told_goes kind (told ∷ later) rest begun answers s = s

sent_goes : {F B : Type 0} → (run : Run F B) (kind : Kind) (about : Message) (hand : Hand F B) (begun : Option (Interaction (Ending F B))) (answers : List ℕ)
    → State (open_call hand.own) begun answers → Goes kind (sent_value run (answer_of kind) about hand) (open_call hand.own) begun answers
sent_goes run kind body hand begun answers s = tried_goes kind (open_call hand.own) begun answers s
sent_goes run kind (notice inst) hand begun answers s = told_goes kind (untold run.setup hand.own) (open_call hand.own) begun answers s
sent_goes run kind nothing hand begun answers s = s
sent_goes run kind (input action) hand begun answers s = s
sent_goes run kind (lend inst) hand begun answers s = s
sent_goes run kind (part inst) hand begun answers s = s
sent_goes run kind (give inst) hand begun answers s = s
sent_goes run kind (save action inst) hand begun answers s = s
sent_goes run kind (restore action inst) hand begun answers s = s
sent_goes run kind (answer action) hand begun answers s = s
sent_goes run kind close hand begun answers s = s

taken_goes : {F B : Type 0} → (kind : Kind) (about : Message) (hand : Hand F B) (begun : Option (Interaction (Ending F B))) (answers : List ℕ)
    → State (open_call hand.own) begun answers → Goes kind (taken_value about hand) (open_call hand.own) begun answers
taken_goes kind body hand begun answers s = s
taken_goes kind (notice inst) hand begun answers s = s
taken_goes kind nothing hand begun answers s = s
taken_goes kind (input action) hand begun answers s = s
taken_goes kind (lend inst) hand begun answers s = s
taken_goes kind (part inst) hand begun answers s = s
taken_goes kind (give inst) hand begun answers s = s
taken_goes kind (save action inst) hand begun answers s = s
taken_goes kind (restore action inst) hand begun answers s = s
taken_goes kind (answer action) hand begun answers s = s
taken_goes kind close hand begun answers s = s

ended_goes : {F B : Type 0} → (kind : Kind) (rest begun : Option (Interaction (Ending F B))) (answers : List ℕ) → Goes kind (ended_value rest) rest begun answers
ended_goes kind None begun answers = inl refl
ended_goes kind (Some call) begun answers = inl refl

begun_goes : {F B : Type 0} → (call : Interaction (Ending F B)) → State (Some call) (Some call) []
begun_goes call = inr (call, refl, ap Some (sym (after_none call)))

value_goes : {F B : Type 0} → (run : Run F B) (kind : Kind) (x : Step) (hand : Hand F B) (begun : Option (Interaction (Ending F B))) (answers : List ℕ)
    → State (open_call hand.own) begun answers → Goes kind (value_by run kind x hand) (open_call hand.own) begun answers
value_goes run Begin x hand begun answers s = begun_goes _
value_goes run End x hand begun answers s = ended_goes End (open_call hand.own) begun answers
value_goes run Send x hand begun answers s = sent_goes run Send x.about hand begun answers s
value_goes run Full x hand begun answers s = sent_goes run Full x.about hand begun answers s
value_goes run Long x hand begun answers s = sent_goes run Long x.about hand begun answers s
value_goes run Take x hand begun answers s = taken_goes Take x.about hand begun answers s
value_goes run Block x hand begun answers s = s
value_goes run Look x hand begun answers s = s
value_goes run Done x hand begun answers s = s
value_goes run Stop x hand begun answers s = s
value_goes run Beat x hand begun answers s = s
value_goes run Join x hand begun answers s = s
value_goes run Late x hand begun answers s = s
value_goes run Last x hand begun answers s = s

-- ---- all moments

abbrev StateOf : {F B : Type 0} → Play F B → Type 0
StateOf own = State (open_call own) (begun_call own) (answers_told own)

one_goes : {F B : Type 0} → (run : Run F B) (p own : Play F B) (x : Moment F B) → doings (actor_at x.step.entry.actor) p ≡ own → x.value ≡ value_at run p x.step
    → StateOf own → StateOf (x ∷ own)
one_goes run p own x same value s =
    let hand = hand_at run.held p x.step in
    let mine = subst StateOf (sym same) s in
    let more : Goes x.step.entry.kind (value_by run x.step.entry.kind x.step hand) (open_call hand.own) (begun_call hand.own) (answers_told hand.own) =
    value_goes run x.step.entry.kind x.step hand (begun_call hand.own) (answers_told hand.own) mine in
    let here : Goes x.step.entry.kind x.value (open_call hand.own) (begun_call hand.own) (answers_told hand.own) =
    subst (λ v. Goes x.step.entry.kind v (open_call hand.own) (begun_call hand.own) (answers_told hand.own)) (sym value) more in
    subst (λ o. Goes x.step.entry.kind x.value (open_call o) (begun_call o) (answers_told o)) same here

state_of : {F B : Type 0} → (run : Run F B) (actor : Actor) (p : Play F B) → actor_at (actor_number actor) ≡ actor → IsPlayed run p → StateOf (doings actor p)
state_of run actor [] is k = inl refl
state_of run actor (x ∷ p) is k = by_actor run actor p x is k.0 (state_of run actor p is k.1) (is_by actor x.step.entry) refl
  where
    by_actor : {F B : Type 0} → (run : Run F B) (actor : Actor) (p : Play F B) (x : Moment F B) → actor_at (actor_number actor) ≡ actor → x.value ≡ value_at run p x.step
        → StateOf (doings actor p) → (b : Bool) → is_by actor x.step.entry ≡ b → StateOf (cond b (x ∷ doings actor p) (doings actor p))
    by_actor run actor p x is value s true e =
        let whose : actor_at x.step.entry.actor ≡ actor = ap actor_at (eqb-true x.step.entry.actor (actor_number actor) e) ∙ is in
        one_goes run p (doings actor p) x (ap (λ it. doings it p) whose) value s
    by_actor run actor p x is value s false e = s

ends_by : {F B : Type 0} → (own : Play F B) (rest : Interaction (Ending F B)) → StateOf own → open_call own ≡ Some rest
    → (call : Interaction (Ending F B)) × (begun_call own ≡ Some call) × (result_of rest [] ≡ result_of call (answers_told own))
ends_by own rest (inl none) so = absurd (none-some rest (sym none ∙ so))
ends_by own rest (inr it) so =
    (it.0, it.1, ap (λ call. result_of call []) (same_Some rest (after_answers it.0 (answers_told own)) (sym so ∙ it.2)) ∙ result_after it.0 (answers_told own))

pub ends_by_answers : {F B : Type 0} → EndsByAnswers F B
ends_by_answers run actor p rest is k so = ends_by (doings actor p) rest (state_of run actor p is k) so
