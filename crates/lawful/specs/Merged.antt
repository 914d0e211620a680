-- The list of all entries by ticket keeps the rules of a record on takes, on full rings, on sends and on looks.
use Rattle.std.specs.Prelude.{◌≡◌, ℕ, true, List, ◌∷◌, ◌++◌, map, All}
use Rattle.step_law.specs.declared.actor.Actor.TheVariants.{Audio, Control}
use Rattle.step_law.specs.declared.entry.Entry.{Entry}
use Rattle.step_law.specs.Actor.{actor_number}
use Rattle.step_law.specs.Ring.{ring_at}
use Rattle.cable_trace.specs.Merged.{KeepsRing}
use Rattle.cable_trace.specs.MergedBeat.{is_beat, KeepsBeat}
use Rattle.record_law.specs.declared.shape.Broken.TheVariants.{Look}
use Rattle.record_law.specs.declared.shape.Shape.{Shape}
use Rattle.record_law.specs.Message.{History}
use Rattle.record_law.specs.Shape.{sender}
use Rattle.record_law.specs.Room.{finds_message, is_really_full, has_room}
use Rattle.record_law.specs.Rules.{keeps}
use Rattle.record_law.specs.Protocol.{history_of}

-- the entries of a list with tickets
abbrev pub entries_in : List (ℕ × Entry) → List Entry
entries_in marks = map (λ mark. mark.1) marks

-- each ring keeps its rules, with the actors that send on it and look at it
abbrev pub KeepsRings : Shape → (source target : ℕ → ℕ) → List (ℕ × Entry) → Type 0
KeepsRings s source target marks = (ring : ℕ) → KeepsRing s.cells ring (source ring) (target ring) marks

-- an entry after a history keeps the rules on takes, on full rings and on sends
pub record KeepsRingRules (s : Shape) (h : History) (e : Entry) : Type 0 where
  pub finds : finds_message h e.kind e.a ≡ true
  pub full : is_really_full s h e.kind e.a ≡ true
  pub room : has_room s h e.kind e.a ≡ true

abbrev pub RingsKeepRules : Type 0
RingsKeepRules = (s : Shape) (source target : ℕ → ℕ) (marks before after : List (ℕ × Entry)) (mark : ℕ × Entry) → KeepsRings s source target marks
    → marks ≡ before ++ mark ∷ after → KeepsRingRules s (history_of s (entries_in before)) mark.1

-- The rings and the beat keep their rules. On each ring sends its sender in the session; audio alone stores the beat, and control alone loads it.
pub record KeepRules (s : Shape) (source target : ℕ → ℕ) (marks : List (ℕ × Entry)) : Type 0 where
  pub rings : KeepsRings s source target marks
  pub senders : (ring : ℕ) → source ring ≡ actor_number (sender s (ring_at ring))
  pub beat : KeepsBeat s.blocks (actor_number Audio) (actor_number Control) marks
  pub beats : All (λ mark. is_beat mark.1.kind ≡ true → mark.1.actor ≡ actor_number Control) marks

-- Each look, at a ring or at the beat, then shows at least what its sender has gone on from, and at most what there is at the looker's next entry.
abbrev pub LooksKeepRules : Type 0
LooksKeepRules = (s : Shape) (source target : ℕ → ℕ) (marks before after : List (ℕ × Entry)) (mark : ℕ × Entry) → KeepRules s source target marks
    → marks ≡ before ++ mark ∷ after → keeps s (history_of s (entries_in before)) mark.1 Look ≡ true
