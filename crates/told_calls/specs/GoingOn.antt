-- A record that goes on by a whole call.
use Rattle.std.specs.Prelude.{◌≡◌, ℕ, List, [], length, Some}
use Rattle.interaction.specs.Attempts.{Attempt}
use Rattle.plug_api.specs.Meaning.{FrontMeaning, BackMeaning, CodesMeaning}
use Rattle.plug_api.specs.Inputs.{Inputs}
use Rattle.plugin_decl.specs.declared.declaration.Decl.{Decl}
use Rattle.plugin_decl.specs.declared.options.Options.{Options}
use Rattle.state_store.specs.declared.prop.Prop.{Prop}
use Rattle.step_law.specs.declared.actor.Actor.{Actor}
use Rattle.step_law.specs.declared.actor.Actor.TheVariants.{Audio}
use Rattle.step_law.specs.declared.call.Call.{Call}
use Rattle.step_law.specs.declared.entry.Entry.{Entry}
use Rattle.step_law.specs.Actor.{actor_at}
use Rattle.record_law.specs.declared.shape.Shape.{Shape}
use Rattle.record_law.specs.Message.{Message}
use Rattle.session_play.specs.Calls.{state_of}
use Rattle.session_play.specs.Run.{Run, options_for, with_properties}
use Rattle.session_play.specs.SessionShape.{shape_of, works}
use Rattle.session_play.specs.Setup.{decl_of}
use Rattle.session_play.specs.Value.{Ending}
use Rattle.block_signals.specs.Given.{inputs_from}
use Rattle.list_calls.specs.declared.caller.Caller.{Caller}
use Rattle.play_known.specs.Calling.{WholeCall}
use Rattle.play_known.specs.InCall.{known_in_call}
use Rattle.play_known.specs.Known.{Known}
use Rattle.play_stands.specs.Standing.{Stands}

-- what a call needs of a run and of what is known
abbrev pub Needs : Type 0 → Type 0 → Type 1
Needs F B = Run F B → List (List ℕ) → Known F B → Type 0

-- Wherever a record stands and has what the call needs, it stands with the call's entries, too, and the call has changed what is known.
abbrev pub GoesOnBy : (F B : Type 0) → Needs F B → Shape → List Entry → List Entry → WholeCall F B → Type 0
GoesOnBy F B needs shape before after it = (run : Run F B) (names : List (List ℕ)) (k : Known F B) → shape ≡ shape_of run.setup
    → Stands run names before k → needs run names k → Stands run names after (known_in_call run.setup it k)

-- ---- calls

-- one without attempts
abbrev pub quiet_call : {F B : Type 0} → Actor → Call → ℕ → Message → Ending F B → WholeCall F B
quiet_call actor call inst about ending =
    record { actor = actor; call = call; inst = inst; about = about; ring = 0; told = []; ending = ending }

-- one whose attempts go to a ring
abbrev pub trying_call : {F B : Type 0} → Caller → Call → ℕ → Message → List Attempt → Ending F B → WholeCall F B
trying_call caller call inst about told ending =
    record { actor = actor_at caller.actor; call = call; inst = inst; about = about; ring = caller.ring; told = told; ending = ending }

-- ---- what calls need

-- audio told all notices
abbrev pub IsSilent : {F B : Type 0} → Actor → Known F B → Type 0
IsSilent actor k = actor ≡ Audio → k.untold ≡ []

-- the front or the back of an instance is this one, and fronts and backs mean this
pub record HasFront {F B : Type 0} (meaning : FrontMeaning F) (inst : ℕ) (front : F) (run : Run F B) (k : Known F B) : Type 0 where
  pub fronts : run.fronts ≡ meaning
  pub is_front : k.fronts inst ≡ Some front

pub record HasBack {F B : Type 0} (meaning : BackMeaning B) (inst : ℕ) (back : B) (run : Run F B) (k : Known F B) : Type 0 where
  pub backs : run.backs ≡ meaning
  pub is_back : k.backs inst ≡ Some back

-- nothing: the end of an instance
abbrev pub PlainCall : (F B : Type 0) → Actor → Needs F B
PlainCall F B actor run names k = IsSilent actor k

-- to make an instance: the codes, what it declares, and what it is told
pub record MakeCall {F B : Type 0} (codes : CodesMeaning F B) (actor : Actor) (inst : ℕ) (decl : Decl) (rate : ℕ) (options : Options) (urids : List (List ℕ)) (run : Run F B) (names : List (List ℕ)) (k : Known F B) : Type 0 where
  pub are_codes : run.codes ≡ codes
  pub is_decl : decl_of run.setup inst ≡ Some decl
  pub is_rate : run.setup.session.rate ≡ rate
  pub are_options : options_for run.setup ≡ options
  pub are_urids : k.urids ≡ urids
  pub silent : IsSilent actor k

-- a call on the front
pub record FrontCall {F B : Type 0} (meaning : FrontMeaning F) (actor : Actor) (inst : ℕ) (front : F) (run : Run F B) (names : List (List ℕ)) (k : Known F B) : Type 0 where
  pub has : HasFront meaning inst front run k
  pub silent : IsSilent actor k

-- a response, too: the body that its actor took last
pub record ResponseCall {F B : Type 0} (meaning : FrontMeaning F) (actor : Actor) (inst : ℕ) (front : F) (body : List ℕ) (run : Run F B) (names : List (List ℕ)) (k : Known F B) : Type 0 where
  pub has : HasFront meaning inst front run k
  pub silent : IsSilent actor k
  pub took : k.taken actor ≡ body

-- a run: it is audio's, once the properties that actions name have their numbers, and it is given these inputs
pub record RunCall {F B : Type 0} (meaning : FrontMeaning F) (caller : Caller) (inst : ℕ) (front : F) (inputs : Inputs) (run : Run F B) (names : List (List ℕ)) (k : Known F B) : Type 0 where
  pub has : HasFront meaning inst front run k
  pub silent : IsSilent (actor_at caller.actor) k
  pub by_audio : actor_at caller.actor ≡ Audio
  pub numbered : names ≡ with_properties run.setup k.urids
  pub working : caller.works ≡ works run.setup inst
  pub given : inputs_from run.setup k.board inst ≡ inputs

-- a job: the body that its actor took last
pub record WorkCall {F B : Type 0} (meaning : BackMeaning B) (caller : Caller) (inst : ℕ) (back : B) (body : List ℕ) (run : Run F B) (names : List (List ℕ)) (k : Known F B) : Type 0 where
  pub has : HasBack meaning inst back run k
  pub silent : IsSilent (actor_at caller.actor) k
  pub working : caller.works ≡ works run.setup inst
  pub took : k.taken (actor_at caller.actor) ≡ body

-- a save, where so many URIs have numbers
pub record SaveCall {F B : Type 0} (meaning : BackMeaning B) (actor : Actor) (inst : ℕ) (back : B) (mapped : ℕ) (run : Run F B) (names : List (List ℕ)) (k : Known F B) : Type 0 where
  pub has : HasBack meaning inst back run k
  pub silent : IsSilent actor k
  pub are_mapped : length (with_properties run.setup k.urids) ≡ mapped

-- a restore beside the runs, for a message that brings this state
pub record RestoreSafeCall {F B : Type 0} (meaning : BackMeaning B) (caller : Caller) (inst : ℕ) (back : B) (about : Message) (state : List (ℕ × Prop)) (run : Run F B) (names : List (List ℕ)) (k : Known F B) : Type 0 where
  pub has : HasBack meaning inst back run k
  pub silent : IsSilent (actor_at caller.actor) k
  pub working : caller.works ≡ works run.setup inst
  pub is_state : state_of run about ≡ state

-- a restore of both parts
pub record RestoreCall {F B : Type 0} (codes : CodesMeaning F B) (actor : Actor) (inst : ℕ) (front : F) (back : B) (about : Message) (state : List (ℕ × Prop)) (run : Run F B) (names : List (List ℕ)) (k : Known F B) : Type 0 where
  pub are_codes : run.codes ≡ codes
  pub is_front : k.fronts inst ≡ Some front
  pub is_back : k.backs inst ≡ Some back
  pub silent : IsSilent actor k
  pub is_state : state_of run about ≡ state
