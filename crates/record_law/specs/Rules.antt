-- The rules of a record, but for those about values, as tests of an entry that comes after a history.
use Rattle.std.specs.Prelude.{Bool, true, not, ◌&&◌, ◌||◌, List, [], ◌∷◌, Option, is_some, find}
use Rattle.step_law.specs.declared.entry.Entry.{Entry}
use Rattle.step_law.specs.declared.entry.Kind.TheVariants.{Last}
use Rattle.step_law.specs.Actor.{actor_at}
use Rattle.record_law.specs.declared.shape.Broken.{Broken}
use Rattle.record_law.specs.declared.shape.Broken.TheVariants.{Syntax, Order, Ring, Full, Room, Look, Holder, Class, Value, End}
use Rattle.record_law.specs.declared.shape.Shape.{Shape}
use Rattle.record_law.specs.Entries.{is_kind}
use Rattle.record_law.specs.Message.{History}
use Rattle.record_law.specs.History.{own}
use Rattle.record_law.specs.Protocol.{follow_in, about_in}
use Rattle.record_law.specs.Waits.{may_come}
use Rattle.record_law.specs.There.{has_form}
use Rattle.record_law.specs.Room.{finds_message, is_really_full, has_room}
use Rattle.record_law.specs.Looks.{shows_enough, last_shows_no_more}
use Rattle.record_law.specs.Owners.{owns_all}
use Rattle.record_law.specs.Lasting.{keeps_class}

-- the order of work lets its actor make it next
abbrev pub is_next : Shape → History → Entry → Bool
is_next s h e = is_some (follow_in s h e) && may_come s h e

-- an entry after a history keeps a rule
abbrev pub keeps : Shape → History → Entry → Broken → Bool
keeps s h e Syntax = has_form s e
keeps s h e Order = is_kind Last e || is_next s h e
keeps s h e Ring = finds_message h e.kind e.a
keeps s h e Full = is_really_full s h e.kind e.a
keeps s h e Room = has_room s h e.kind e.a
keeps s h e Look = shows_enough s h e.kind e.a e.b && last_shows_no_more s h (own (actor_at e.actor) h)
keeps s h e Holder = owns_all s h e (about_in (follow_in s h e))
keeps s h e Class = keeps_class h e.kind e.a e.b
keeps s h e Value = true
keeps s h e End = not (is_kind Last e) || is_next s h e

-- the rules in the order in which they are tried; that of values needs the code
abbrev pub rules : List Broken
rules =
    Syntax ∷ Order ∷ Ring ∷ Full ∷ Room ∷ Look ∷ Holder ∷ Class ∷ End ∷ []

-- the first rule that an entry breaks
abbrev pub first_broken : Shape → History → Entry → Option Broken
first_broken s h e = find (λ broken. not (keeps s h e broken)) rules
