-- What an actor has at hand for an entry. The moments are its own; the parts, the URIs and the body come to it from the other actors.
use Rattle.std.specs.Prelude.{ℕ, List, Option}
use Rattle.step_law.specs.Actor.{actor_at}
use Rattle.step_law.specs.Ring.{ring_at}
use Rattle.record_law.specs.Message.{Step}
use Rattle.session_play.specs.Looking.{doings, front_of, back_of, urids_of, next_body}
use Rattle.session_play.specs.Value.{Play}

pub record Hand (F B : Type 0) : Type 0 where
  -- its own moments
  pub own : Play F B
  -- the parts of the instance that the entry names
  pub front : Option F
  pub back : Option B
  -- the URIs that have numbers
  pub urids : List (List ℕ)
  -- the body that is next on the ring that the entry names
  pub body : List ℕ

-- what is at hand for a step after a play
abbrev pub hand_at : {F B : Type 0} → List (List ℕ) → Play F B → Step → Hand F B
hand_at held p x = record {
  own = doings (actor_at x.entry.actor) p;
  front = front_of x.entry.b p;
  back = back_of x.entry.b p;
  urids = urids_of held p;
  body = next_body (ring_at x.entry.a) p;
}
