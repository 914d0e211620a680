-- Who owns the parts of each instance, as a table.
use Rattle.std.specs.Prelude.{◌≡◌, ℕ, ◌<◌, ◌||◌, if◌then◌else◌, List, [], ◌∷◌, length, Bool, true, false, Option, Some, None, All}
use Rattle.step_law.specs.declared.actor.Actor.{Actor}
use Rattle.step_law.specs.declared.actor.Actor.TheVariants as actor
use Rattle.step_law.specs.declared.call.Call.TheVariants.{Activate}
use Rattle.step_law.specs.declared.entry.Kind.{Kind}
use Rattle.step_law.specs.declared.entry.Kind.TheVariants.{Take, Send}
use Rattle.step_law.specs.Entry.{end_of, join}
use Rattle.record_law.specs.declared.shape.Shape.{Shape}
use Rattle.record_law.specs.Entries.{same_entry}
use Rattle.record_law.specs.Message.{Message, Step, History}
use Rattle.record_law.specs.Owners.{Part, front, back, inst_of, home_of, ring_away, ring_home, carries, insts_in}
use Rattle.record_counts.specs.declared.owners.Owner.{Owner}
use Rattle.record_counts.specs.declared.owners.Owner.TheVariants.{Home, Control, Nobody}
use Rattle.record_counts.specs.declared.owners.Part.{Part as Named}
use Rattle.record_counts.specs.declared.owners.Part.TheVariants.{Front, Back}
use Rattle.record_counts.specs.declared.owners.PartOwners.{PartOwners}
use Rattle.record_counts.specs.Table.{IsTable}

abbrev pub part_of : Named → Part
part_of (Front inst) = front inst
part_of (Back inst) = back inst

-- an owner of a part is an actor, or none where a message carries it
abbrev pub actor_of : Shape → Part → Owner → Option Actor
actor_of s it Home = Some (home_of s it)
actor_of s it Control = Some actor.Control
actor_of s it Nobody = None

-- an entry of one of these kinds may carry a part
abbrev pub is_carrying : Kind → Bool
is_carrying Take = true
is_carrying Send = true
is_carrying kind = false

-- what a step makes of the owner
abbrev pub next_owner : Shape → Part → Step → Owner → Owner
next_owner s it x before =
    if carries Send (ring_away s it) (inst_of it) x || carries Send (ring_home s it) (inst_of it) x then Nobody
    else if carries Take (ring_away s it) (inst_of it) x || same_entry join x.entry then Control
    else if carries Take (ring_home s it) (inst_of it) x || same_entry (end_of actor.Control Activate (inst_of it)) x.entry then Home else before

abbrev pub owner_at : Shape → Part → History → Owner
owner_at s it [] = Control
owner_at s it (x ∷ h) = next_owner s it x (owner_at s it h)

-- the owners of both parts of an instance
abbrev pub owners_at : Shape → History → ℕ → PartOwners
owners_at s h inst = record { front = owner_at s (front inst) h; back = owner_at s (back inst) h }

abbrev pub next_owners : Shape → Step → ℕ → PartOwners → PartOwners
next_owners s x inst before = record { front = next_owner s (front inst) x before.front; back = next_owner s (back inst) x before.back }

pub record TellsOwners (s : Shape) (h : History) (owners : List PartOwners) : Type 0 where
  pub each : IsTable (owners_at s h) owners
  pub all : length owners ≡ length s.insts

-- the instance of whose part a message tells is there
abbrev pub IsAboutThere : Shape → Message → Type 0
IsAboutThere s about = All (λ inst. inst < length s.insts) (insts_in about)
