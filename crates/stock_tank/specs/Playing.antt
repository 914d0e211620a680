-- How far a run has come. No public clause rests on it.
use Rattle.std.specs.Prelude.{◌≡◌, ℕ, ◌-◌, ◌<◌, ◌≤◌, nat_le, if◌then◌else◌, false, List, [], ◌∷◌, ◌++◌, length, take, drop, replicate, map, ℤ, pos, ◌≤ℤ◌, ◌<ℤ◌}
use Rattle.lv_base.specs.declared.number.Fixed.{Fixed}
use Rattle.lv_base.specs.declared.number.Sample.{Sample}
use Rattle.lv_base.specs.Number.{sample_of}
use Rattle.interaction.specs.Attempts.{Attempt}
use Rattle.atom_core.specs.Value.{timed}
use Rattle.atom_core.specs.Spelling.{part_of}
use Rattle.atom_forge.specs.Forged.{Forged, left, with_piece}
use Rattle.atom_sequence.specs.Event.{Event, size_of}
use Rattle.atom_sequence.specs.Views.{AwaitsEvent}
use Rattle.plug_api.specs.declared.ports.Ports.{Ports}
use Rattle.plug_api.specs.Buffers.{Left, block_at, forge_at, with_block, with_forge}
use Rattle.plug_api.specs.Ports.{places_of, outs_of, place_of, IsSameLoan}
use Rattle.stock_tank.specs.declared.ask.Ask.TheVariants.{Set, Get, Nothing}
use Rattle.stock_tank.specs.Requests.{Request}
use Rattle.stock_tank.specs.Levels.{frame_of}
use Rattle.stock_tank.specs.Answers.{answer_to}

-- the level, the frame from which on it isn't written yet, the block and what the forge holds
pub record Playing : Type 0 where
  pub level : Fixed
  pub from : ℕ
  pub block : List Sample
  pub forge : Forged

-- some frames of a block have one sample
abbrev pub filled : List Sample → ℕ → ℕ → Sample → List Sample
filled block from to sample = take from block ++ (replicate (to - from) sample ++ drop to block)

-- an event after what a forge holds, if it has room
abbrev pub with_event : Forged → Event → Forged
with_event forge e = if nat_le (size_of e) (left forge) then with_piece forge (part_of (timed e.time) e.value) false else forge

-- one request more
abbrev pub step : ℕ → Playing → Request → Playing
step key now (time, Set level) = record {
  level = level;
  from = frame_of time;
  block = filled now.block now.from (frame_of time) (sample_of now.level);
  forge = now.forge;
}
step key now (time, Get wanted) = record {
  level = now.level;
  from = now.from;
  block = now.block;
  forge = with_event now.forge (record { time = time; value = answer_to key now.level wanted });
}
step key now (time, Nothing) = now

abbrev pub steps : ℕ → Playing → List Request → Playing
steps key now [] = now
steps key now (request ∷ requests) = steps key (step key now request) requests

-- the times don't fall from here on, and lie in the block
abbrev pub AreTimed : ℤ → ℕ → List Request → Type 0
AreTimed from frames [] = Unit {0}
AreTimed from frames (request ∷ requests) = (from ≤ℤ request.0) × (request.0 <ℤ pos frames) × AreTimed request.0 frames requests

-- where a run writes
abbrev pub block_of : Ports → List Sample
block_of lent = block_at (outs_of lent).blocks (place_of lent 2)

abbrev pub forge_of : Ports → Forged
forge_of lent = forge_at (outs_of lent).forges (place_of lent 1)

abbrev pub playing : Fixed → ℕ → Ports → Playing
playing level from lent = record { level = level; from = from; block = block_of lent; forge = forge_of lent }

-- the outputs with what is played
abbrev pub with_played : Ports → Playing → Left
with_played lent now = with_block (with_forge (outs_of lent) (place_of lent 1) now.forge) (place_of lent 2) now.block

-- the outputs have their places
pub record CanPlay (lent : Ports) : Type 0 where
  pub answers : 1 < length (places_of lent)
  pub forge : place_of lent 1 < length (outs_of lent).forges
  pub awaits : AwaitsEvent (forge_of lent)
  pub sounds : 2 < length (places_of lent)
  pub block : place_of lent 2 < length (outs_of lent).blocks

-- the outputs have what is played, and nothing else has changed
pub record HasPlayed (lent new : Ports) (now : Playing) : Type 0 where
  pub loan : IsSameLoan lent new
  pub outputs : outs_of new ≡ with_played lent now
  pub block : block_of new ≡ now.block
  pub forge : forge_of new ≡ now.forge
  pub frames : length now.block ≡ length (block_of lent)
  pub can : CanPlay new

-- a time is one of the frames that aren't written yet
pub record IsAhead (lent : Ports) (from : ℕ) (time : ℤ) : Type 0 where
  pub late : pos 0 ≤ℤ time
  pub from_here : from ≤ frame_of time
  pub within : frame_of time ≤ length (block_of lent)

-- a scheduler took these jobs in order, each with some answer
abbrev pub Told : {S : Type 0} → (S → List Attempt → S → Type 0) → S → List (List ℕ) → S → Type 0
Told went sched jobs new_sched = (attempts : List Attempt) × went sched attempts new_sched × (map (λ (it : Attempt). it.body) attempts ≡ jobs)
