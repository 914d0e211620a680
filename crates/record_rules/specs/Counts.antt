-- What a judge has counted after a history that broke no rule, and what it is told of the next entry.
use Rattle.std.specs.Prelude.{◌≡◌, Bool, true, Option}
use Rattle.std.specs.Option.{option_map}
use Rattle.step_law.specs.declared.entry.Entry.{Entry}
use Rattle.record_law.specs.declared.shape.Shape.{Shape}
use Rattle.record_law.specs.Message.{History}
use Rattle.record_law.specs.Protocol.{Follows, follow_in, about_in}
use Rattle.record_law.specs.Rules as rules
use Rattle.record_law.specs.There.{has_form}
use Rattle.record_terms.specs.declared.message.Message.{Message}
use Rattle.record_counts.specs.Calls.{TellsCalls}
use Rattle.record_counts.specs.Kept.{IsKept}
use Rattle.record_counts.specs.Looks.{TellsLooks}
use Rattle.record_terms.specs.Message.{meaning_of}
use Rattle.record_counts.specs.Owners.{TellsOwners}
use Rattle.record_counts.specs.Rings.{CountsRings}
use Rattle.record_counts.specs.Waits.{TellsWaits}
use Rattle.record_rules.specs.declared.counts.Counts.{Counts}

pub record TellsCounts (s : Shape) (h : History) (counts : Counts) : Type 0 where
  pub kept : IsKept s h
  pub rings : CountsRings s h counts.rings
  pub looks : TellsLooks s h counts.looks
  pub owners : TellsOwners s h counts.owners
  pub calls : TellsCalls s h counts.calls
  pub waits : TellsWaits s h counts.waits

-- what an entry is about, where the order of work of its actor lets it follow
abbrev pub IsFollowing : Shape → History → Entry → Option Message → Type 0
IsFollowing s h e follows = option_map meaning_of follows ≡ option_map (λ (it : Follows). it.about) (follow_in s h e)

-- an entry that has a form, with what it is about and whether it may come next
pub record IsAsked (s : Shape) (h : History) (e : Entry) (message : Message) (is_next : Bool) : Type 0 where
  pub form : has_form s e ≡ true
  pub about : meaning_of message ≡ about_in (follow_in s h e)
  pub next : is_next ≡ rules.is_next s h e
