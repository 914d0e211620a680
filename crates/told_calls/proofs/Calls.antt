-- A record that stands goes on by a call.
use Rattle.std.proofs.Common.{◌≡◌, ◌⊎◌, inl, inr, ℕ, zero, suc, ◌==◌, nat_lt, Bool, true, false, true≢false, if◌then◌else◌, All, List, [], ◌∷◌, ◌++◌, map, take, drop, length, Option, Some, Result, Ok, Err, OnOk, refl, sym, ap, subst, subst₂, ◌∙◌}
use Rattle.std.specs.Prelude.{is_ok}
use Rattle.std.proofs.lemmas.List.Elements.{All-nil}
use Rattle.interaction.specs.Attempts.{Attempt, Plays}
use Rattle.interaction.specs.Interaction.{Interaction, done, ask}
use Rattle.step_law.specs.declared.actor.Actor.TheVariants.{Audio}
use Rattle.step_law.specs.declared.call.Call.{Call}
use Rattle.step_law.specs.declared.call.Call.TheVariants as calls
use Rattle.step_law.specs.declared.entry.Entry.{Entry}
use Rattle.step_law.specs.declared.entry.Kind.TheVariants.{Full, Long}
use Rattle.step_law.specs.Actor.{actor_number, actor_at}
use Rattle.step_law.specs.Call.{call_number}
use Rattle.step_law.specs.Entry.{begin_of, end_of}
use Rattle.step_law.proofs.EventLaws.{actor_same}
use Rattle.record_law.specs.declared.shape.Shape.{Shape}
use Rattle.record_law.specs.Message.{Message, Step}
use Rattle.record_law.specs.Message.Message.{body}
use Rattle.record_law.specs.Protocol.{history_of}
use Rattle.session_play.specs.Calls.{ending_by, on_part, ran_as, worked_as, saved_as, restored_as}
use Rattle.session_play.specs.Run.{Run, with_properties}
use Rattle.session_play.specs.SessionShape.{shape_of, works}
use Rattle.session_play.specs.Value.{Ending, began, changed, ran, worked, saved, restored}
use Rattle.state_store.specs.declared.prop.Prop.{Prop}
use Rattle.plug_api.specs.Inputs.{Outputs}
use Rattle.plug_api.specs.Meaning.{Making, made, refused, IsMade}
use Rattle.plugin_decl.specs.declared.declaration.Decl.{Decl}
use Rattle.worker_ring.specs.Answering.{kind_by}
use Rattle.play_known.specs.Calling.{WholeCall, try_step, end_step, steps_in, entries_in, most_told, is_answered, AreTold, IsCall, call_known}
use Rattle.play_known.specs.InCall.{known_in_call}
use Rattle.play_known.specs.Known.{Known}
use Rattle.play_stands.specs.Standing.{Stands}
use Rattle.play_stands.proofs.Calls.{call_stands}
use Rattle.list_calls.specs.declared.caller.Caller.{Caller}
use Rattle.list_calls.specs.Leaving as leaving
use Rattle.told_calls.specs.Steps.{message_in, later_step, steps_for}
use Rattle.judged_log.specs.Followed.{entries_of}
use Rattle.told_calls.specs.GoingOn.{IsSilent, quiet_call, trying_call}
use Rattle.told_calls.proofs.Judged.{stood, added}

-- ---- a call without attempts

none_taken : (n : ℕ) → (let none : List Attempt = [] in none ≡ take n none)
none_taken zero = refl
none_taken (suc n) = refl

none_dropped : {X : Type 0} → (P : X → Type 0) (n : ℕ) → All P (drop n [])
none_dropped P zero = All-nil P
none_dropped P (suc n) = All-nil P

-- the actor of a call is one that has a number
pub numbered : (n : ℕ) → actor_at (actor_number (actor_at n)) ≡ actor_at n
numbered n = ap actor_at (actor_same n)

pub quiet_stands : {F B : Type 0} → (run : Run F B) (names : List (List ℕ)) (k : Known F B) (shape : Shape) (before after : List Entry)
    (n : ℕ) (call : Call) (inst : ℕ) (about : Message) (ending : Ending F B) → shape ≡ shape_of run.setup → Stands run names before k
    → after ≡ before ++ begin_of (actor_at n) call inst ∷ end_of (actor_at n) call inst ∷ []
    → AreTold shape (history_of shape before) (steps_for about (begin_of (actor_at n) call inst ∷ end_of (actor_at n) call inst ∷ []))
    → Plays (call_known run k (actor_at n) call about inst) [] ending → IsSilent (actor_at n) k → (call ≡ calls.Run → ⊥)
    → Stands run names after (known_in_call run.setup (quiet_call (actor_at n) call inst about ending) k)
quiet_stands run names k shape before after n call inst about ending of stands goes told plays silent other =
    let it : WholeCall _ _ = quiet_call (actor_at n) call inst about ending in
    let is_call : IsCall run names k it = record {
      actor = numbered n;
      attempts = [];
      plays = plays;
      told = none_taken (most_told run inst);
      answered = All-nil (λ attempt. is_answered attempt ≡ true);
      refused = none_dropped (λ (attempt : Attempt). attempt.answer ≡ 1) (most_told run inst);
      silent = silent;
      run_by = λ is. absurd (other is);
    } in
    subst (λ l. Stands run names l (known_in_call run.setup it k)) (sym goes)
    (call_stands run names before k it stands is_call (subst (λ s. AreTold s (history_of s before) (steps_in it)) of told))

-- ---- one with attempts

tells_body : (long : Bool) → message_in (if long then Long else Full) ≡ body
tells_body true = refl
tells_body false = refl

-- an attempt is about its body
about_body : (answer : ℕ) (bytes : List ℕ) → message_in (kind_by answer bytes) ≡ body
about_body zero bytes = refl
about_body (suc answer) bytes = tells_body (nat_lt 256 (length bytes))

module _ {F B : Type 0} (caller : Caller) (call : Call) (inst : ℕ) (about : Message) (ending : Ending F B) (told : List Attempt) where
  -- the call
  abbrev pub made_by : WholeCall F B
  made_by = trying_call caller call inst about told ending

  tries_told : (some : List Attempt) → map later_step (map (leaving.try_of caller) some ++ end_of (actor_at caller.actor) call inst ∷ [])
      ≡ map (try_step made_by) some ++ end_step made_by ∷ []
  tries_told [] = refl
  tries_told (attempt ∷ some) =
      λ t. record {
        entry = leaving.try_of caller attempt;
        about = about_body attempt.answer attempt.body t;
      } ∷ tries_told some t

  entries_tried : (some : List Attempt) → map (λ (x : Step). x.entry) (map (try_step made_by) some ++ end_step made_by ∷ [])
      ≡ map (leaving.try_of caller) some ++ end_of (actor_at caller.actor) call inst ∷ []
  entries_tried [] = refl
  entries_tried (attempt ∷ some) = ap (λ (l : List Entry). leaving.try_of caller attempt ∷ l) (entries_tried some)

  -- its entries and its steps are those that it left
  pub same_entries : entries_in made_by ≡ leaving.entries_by caller call inst told
  same_entries = ap (λ (l : List Entry). begin_of (actor_at caller.actor) call inst ∷ l) (entries_tried told)

  pub same_steps : steps_for about (leaving.entries_by caller call inst told) ≡ steps_in made_by
  same_steps = ap (λ (l : List Step). record { entry = begin_of (actor_at caller.actor) call inst; about = about } ∷ l) (tries_told told)

-- a call that goes on as another, and ends otherwise
pub plays_by : {R S : Type 0} → (end : R → S) (call : Interaction R) (attempts : List Attempt) (result : R) → Plays call attempts result
    → Plays (ending_by end call) attempts (end result)
plays_by end (done it) [] result plays = ap end plays
plays_by end (done it) (attempt ∷ attempts) result plays = plays
plays_by end (ask asked next) [] result plays = plays
plays_by end (ask asked next) (attempt ∷ attempts) result plays = (plays.0, plays_by end (next attempt.answer) attempts result plays.1)

same_most : (here there : Bool) → here ≡ there → leaving.most_told here ≡ leaving.most_told there
same_most here there is = ap leaving.most_told is

pub trying_stands : {F B : Type 0} → (run : Run F B) (names : List (List ℕ)) (k : Known F B) (shape : Shape) (before after : List Entry)
    (caller : Caller) (call : Call) (inst : ℕ) (about : Message) (ending : Ending F B) (attempts : List Attempt) → shape ≡ shape_of run.setup
    → Stands run names before k → after ≡ before ++ leaving.entries_by caller call inst (leaving.told_of caller attempts)
    → AreTold shape (history_of shape before) (steps_for about (leaving.entries_by caller call inst (leaving.told_of caller attempts)))
    → Plays (call_known run k (actor_at caller.actor) call about inst) attempts ending → caller.works ≡ works run.setup inst
    → All (λ attempt. is_answered attempt ≡ true) (leaving.told_of caller attempts)
    → All (λ (attempt : Attempt). attempt.answer ≡ 1) (drop (leaving.most_told caller.works) attempts) → IsSilent (actor_at caller.actor) k
    → (call ≡ calls.Run → (actor_at caller.actor ≡ Audio) × (names ≡ with_properties run.setup k.urids))
    → Stands run names after (known_in_call run.setup (made_by caller call inst about ending (leaving.told_of caller attempts)) k)
trying_stands {F} {B} run names k shape before after caller call inst about ending attempts of stands goes told plays working answered others silent by =
    let some = leaving.told_of caller attempts in
    let it : WholeCall F B = made_by caller call inst about ending some in
    let most : leaving.most_told caller.works ≡ most_told run inst = same_most caller.works (works run.setup inst) working in
    let is_call : IsCall run names k it = record {
      actor = numbered caller.actor;
      attempts = attempts;
      plays = plays;
      told = ap (λ n. take n attempts) most;
      answered = answered;
      refused = subst (λ n. All (λ (attempt : Attempt). attempt.answer ≡ 1) (drop n attempts)) most others;
      silent = silent;
      run_by = by;
    } in
    let entries : entries_in it ≡ leaving.entries_by caller call inst some = same_entries caller call inst about ending some in
    let steps : steps_for about (leaving.entries_by caller call inst some) ≡ steps_in it = same_steps caller call inst about ending some in
    subst (λ l. Stands run names l (known_in_call run.setup it k)) (ap (λ (l : List Entry). before ++ l) entries ∙ sym goes)
    (call_stands run names before k it stands is_call
    (subst (λ s. AreTold s (history_of s before) (steps_in it)) of (subst (λ l. AreTold shape (history_of shape before) l) steps told)))

-- ---- what calls give

pub not_run : (call : Call) → (call_number call == call_number calls.Run) ≡ false → call ≡ calls.Run → ⊥
not_run call other is = true≢false (sym (ap (λ it. call_number it == call_number calls.Run) is) ∙ other)

pub front_plays : (F B : Type 0) → (does : F → F) (there : Option F) (front left : F) → there ≡ Some front → does front ≡ left
    → Plays (on_part {F = F} {B = B} (λ it. done (changed (does it))) there) [] (changed left)
front_plays F B does there front left is gives =
    subst (λ o. Plays (on_part {F = F} {B = B} (λ it. done (changed (does it))) o) [] (changed left)) (sym is) (ap changed gives)

pub back_plays : (F B : Type 0) → (does : B → Interaction (B × ℕ)) (there : Option B) (back left : B) (status : ℕ) (attempts : List Attempt) → there ≡ Some back
    → Plays (does back) attempts (left, status) → Plays (on_part {F = F} {B = B} (λ it. ending_by worked_as (does it)) there) attempts (worked left status)
back_plays F B does there back left status attempts is plays =
    subst (λ o. Plays (on_part {F = F} {B = B} (λ it. ending_by worked_as (does it)) o) attempts (worked left status)) (sym is)
    (plays_by worked_as (does back) attempts (left, status) plays)

pub run_plays : (F B : Type 0) → (does : F → Interaction (F × Outputs)) (there : Option F) (front left : F) (outputs : Outputs) (attempts : List Attempt)
    → there ≡ Some front → Plays (does front) attempts (left, outputs)
    → Plays (on_part {F = F} {B = B} (λ it. ending_by ran_as (does it)) there) attempts (ran left outputs)
run_plays F B does there front left outputs attempts is plays =
    subst (λ o. Plays (on_part {F = F} {B = B} (λ it. ending_by ran_as (does it)) o) attempts (ran left outputs)) (sym is)
    (plays_by ran_as (does front) attempts (left, outputs) plays)

pub save_plays : (F B : Type 0) → (does : B → ℕ × List (ℕ × Prop)) (there : Option B) (back : B) (status : ℕ) (rows : List (ℕ × Prop)) → there ≡ Some back
    → status ≡ (does back).0 → rows ≡ (does back).1 → Plays (on_part {F = F} {B = B} (λ it. done (saved_as (does it))) there) [] (saved status rows)
save_plays F B does there back status rows is first second =
    subst (λ o. Plays (on_part {F = F} {B = B} (λ it. done (saved_as (does it))) o) [] (saved status rows)) (sym is) (λ t. saved (sym first t) (sym second t))

pub restore_plays : (F B : Type 0) → (does : F → B → F × B × ℕ) (fronts : Option F) (backs : Option B) (front new_front : F) (back new_back : B) (status : ℕ)
    → fronts ≡ Some front → backs ≡ Some back → (new_front, new_back, status) ≡ does front back
    → Plays (on_part {F = F} {B = B} (λ f. on_part {F = F} {B = B} (λ b. done (restored_as (does f b))) backs) fronts) [] (restored new_front new_back status)
restore_plays F B does fronts backs front new_front back new_back status front_is back_is gives =
    subst (λ o. Plays (on_part {F = F} {B = B} (λ f. on_part {F = F} {B = B} (λ b. done (restored_as (does f b))) backs) o) [] (restored new_front new_back status)) (sym front_is)
    (subst (λ o. Plays (on_part {F = F} {B = B} (λ b. done (restored_as (does front b))) o) [] (restored new_front new_back status)) (sym back_is)
    (ap restored_as (sym gives)))

made_is : {F B : Type 0} → (making : Making F B) (front : F) (back : B) (urids : List (List ℕ)) → IsMade making (Ok (front, back)) urids
    → making ≡ made front back urids
made_is (made front' back' urids') front back urids is = λ t. made ((sym is.0 t).0) ((sym is.0 t).1) (sym is.1 t)
made_is (refused number) front back urids is = absurd is

pub make_plays : (F B : Type 0) → (does : Decl → Making F B) (there : Option Decl) (decl : Decl) (front : F) (back : B) (urids : List (List ℕ)) → there ≡ Some decl
    → IsMade (does decl) (Ok (front, back)) urids
    → Plays (on_part {F = F} {B = B} (λ (it : Decl). done (began (does it))) there) [] (began (made front back urids))
make_plays F B does there decl front back urids is gives =
    subst (λ o. Plays (on_part {F = F} {B = B} (λ (it : Decl). done (began (does it))) o) [] (began (made front back urids))) (sym is)
    (ap began (made_is (does decl) front back urids gives))

-- ---- answers

pub on_ok : {T E : Type 0} {P Q : Type 0} → (r : Result T E) → (P → Q) → OnOk r P → OnOk r Q
on_ok (Ok x) go p = go p
on_ok (Err e) go p = tt

-- what was judged of a log's new entries is told of the old ones and what was added
pub told_after : (shape : Shape) (old new : List (ℕ × Entry)) (from : ℕ) (about : Message) (more : List Entry) → from ≡ length old
    → entries_of new ≡ entries_of old ++ more
    → AreTold shape (history_of shape (take from (entries_of new))) (steps_for about (drop from (entries_of new)))
    → AreTold shape (history_of shape (entries_of old)) (steps_for about more)
told_after shape old new from about more is goes told =
    subst₂ (λ front back. AreTold shape (history_of shape front) (steps_for about back))
    (ap (λ n. take n (entries_of new)) is ∙ stood old new more goes) (ap (λ n. drop n (entries_of new)) is ∙ added old new more goes) told

-- what was made isn't a fault
pub no_fault : {T E : Type 0} → (it : T) (fault : E) → Ok it ≡ Err fault → ⊥
no_fault it fault is = true≢false (ap (λ r. is_ok r) is)

-- the first of two, where the second can't be
pub the_first : {X Y : Type 0} → X ⊎ Y → (Y → ⊥) → X
the_first (inl x) never = x
the_first (inr y) never = absurd (never y)
