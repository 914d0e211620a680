-- What a play says of its actors, of parts, of rings and of calls. The newest moment stands first.
use Rattle.std.specs.Prelude.{ℕ, suc, ◌==◌, Bool, true, false, ◌&&◌, if◌then◌else◌, List, [], ◌∷◌, ◌++◌, filter, slice_index_or, Option, Some, None, unwrap_or}
use Rattle.interaction.specs.Interaction.{Interaction}
use Rattle.step_law.specs.declared.actor.Actor.{Actor}
use Rattle.step_law.specs.declared.entry.Entry.{Entry}
use Rattle.step_law.specs.declared.entry.Kind.TheVariants.{Block, Take, Send, End}
use Rattle.step_law.specs.declared.ring.Ring.{Ring}
use Rattle.plug_api.specs.Inputs.{Outputs}
use Rattle.record_law.specs.Entries.{is_by, is_kind, is_on}
use Rattle.record_law.specs.Message.{History}
use Rattle.record_law.specs.History.{count}
use Rattle.session_play.specs.Value.{Ending, Value, begun, tried, gave, Moment, Play, front_ended, back_ended, urids_ended, outputs_ended, given_in, body_in}

-- its history
abbrev pub steps_of : {F B : Type 0} → Play F B → History
steps_of [] = []
steps_of (x ∷ p) = x.step ∷ steps_of p

-- an actor's own moments
abbrev pub doings : {F B : Type 0} → Actor → Play F B → Play F B
doings actor p = filter (λ x. is_by actor x.step.entry) p

-- ---- blocks, in audio's own moments

abbrev pub is_block : {F B : Type 0} → Moment F B → Bool
is_block x = is_kind Block x.step.entry

-- what was done since the latest block began
abbrev pub in_block : {F B : Type 0} → Play F B → Play F B
in_block [] = []
in_block (x ∷ p) = let earlier = in_block p in if is_block x then [] else x ∷ earlier

-- what was done before it
abbrev pub before_block : {F B : Type 0} → Play F B → Play F B
before_block [] = []
before_block (x ∷ p) = let earlier = before_block p in if is_block x then p else earlier

-- ---- parts

-- the newer of two, if there is one
abbrev pub newer : {X : Type 0} → Option X → Option X → Option X
newer None older = older
newer (Some x) older = Some x

abbrev pub if_so : {X : Type 0} → Bool → Option X → Option X
if_so true found = found
if_so false found = None

-- a call on an instance ends
abbrev pub ends_on : ℕ → Entry → Bool
ends_on inst e = is_kind End e && (e.b == inst)

-- what the latest call on an instance that has it gave
abbrev pub latest : {F B X : Type 0} → (Ending F B → Option X) → ℕ → Play F B → Option X
latest part inst [] = None
latest part inst (x ∷ p) = newer (if_so (ends_on inst x.step.entry) (given_in part x.value)) (latest part inst p)

-- the front and the back of an instance, as the latest call on them left them
abbrev pub front_of : {F B : Type 0} → ℕ → Play F B → Option F
front_of = latest front_ended

abbrev pub back_of : {F B : Type 0} → ℕ → Play F B → Option B
back_of = latest back_ended

-- what the latest run of an instance gave
abbrev pub outputs_of : {F B : Type 0} → ℕ → Play F B → Option Outputs
outputs_of = latest outputs_ended

-- the URIs that have numbers, where these had them at first: each make may give numbers to more
abbrev pub urids_of : {F B : Type 0} → List (List ℕ) → Play F B → List (List ℕ)
urids_of held [] = held
urids_of held (x ∷ p) = unwrap_or (given_in urids_ended x.value) (urids_of held p)

-- ---- rings

-- the bodies that were sent on a ring, in order
abbrev pub bodies_on : {F B : Type 0} → Ring → Play F B → List (List ℕ)
bodies_on ring [] = []
bodies_on ring (x ∷ p) = let earlier = bodies_on ring p in if is_on Send ring x.step.entry then earlier ++ body_in x.value ∷ [] else earlier

-- the body of the next take: the k-th take has that of the k-th send
abbrev pub next_body : {F B : Type 0} → Ring → Play F B → List ℕ
next_body ring p = slice_index_or (bodies_on ring p) (count Take ring (steps_of p)) []

-- ---- calls, in an actor's own moments

abbrev pub call_after : {F B : Type 0} → Value F B → Option (Interaction (Ending F B)) → Option (Interaction (Ending F B))
call_after (begun call) before = Some call
call_after (tried body rest) before = Some rest
call_after (gave ending) before = None
call_after value before = before

-- what is still to come of the call that it is in
abbrev pub open_call : {F B : Type 0} → Play F B → Option (Interaction (Ending F B))
open_call [] = None
open_call (x ∷ p) = call_after x.value (open_call p)

abbrev pub tries_after : {F B : Type 0} → Value F B → ℕ → ℕ
tries_after (begun call) before = 0
tries_after (tried body rest) before = suc before
tries_after value before = before

-- how many attempts it has made in it
abbrev pub tries : {F B : Type 0} → Play F B → ℕ
tries [] = 0
tries (x ∷ p) = tries_after x.value (tries p)

-- the body that it took last
abbrev pub taken_body : {F B : Type 0} → Play F B → List ℕ
taken_body [] = []
taken_body (x ∷ p) = let earlier = taken_body p in if is_kind Take x.step.entry then body_in x.value else earlier
