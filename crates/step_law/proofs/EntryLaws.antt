-- What an entry tells of makes that entry again.
use Rattle.std.proofs.Common.{◌≡◌, true, ℕ, zero, suc, ◌+◌, Option, Some, None, IfSome, refl, sym, ap, subst, arith}
use Rattle.std.proofs.lemmas.Option.{same_Some, none-some, cond_some}
use Rattle.step_law.specs.declared.actor.Actor.{Actor}
use Rattle.step_law.specs.declared.call.Call.{Call}
use Rattle.step_law.specs.declared.call.Call.TheVariants.{Run, Response, EndRun, Work, Save, RestoreSafe, Make, Activate, Deactivate, Cleanup, Restore}
use Rattle.step_law.specs.declared.entry.Entry.{Entry}
use Rattle.step_law.specs.declared.entry.Kind.{Kind}
use Rattle.step_law.specs.declared.entry.Kind.TheVariants.{Block, Look, Take, Send, Full, Long, Done, Stop, Begin, End, Beat, Join, Late, Last}
use Rattle.step_law.specs.declared.event.Event.{Event}
use Rattle.step_law.specs.declared.event.Event.TheVariants as event
use Rattle.step_law.specs.Actor.{actor_at}
use Rattle.step_law.specs.Call.{call_number, call_at}
use Rattle.step_law.specs.Entry.{entry_of}
use Rattle.step_law.specs.Event.{entry_from}
use Rattle.step_law.specs.Form.{tells, IsFormOf}
use Rattle.step_law.specs.Ring.{ring_number, ring_at}
use Rattle.step_law.specs.Told.{if_zero, called, event_at, if_told, event_of}
use Rattle.step_law.proofs.EventLaws.{actor_same, ring_same}

-- an entry by its four parts
abbrev entry : ℕ → Kind → ℕ → ℕ → Entry
entry actor kind a b = record { actor = actor; kind = kind; a = a; b = b }

-- the parts of an entry, each told in another way
parts : (n : ℕ) (kind : Kind) (a b c d : ℕ) → a ≡ c → b ≡ d → entry n kind a b ≡ entry_of (actor_at n) kind c d
parts n kind a b c d p q = λ i. entry (sym (actor_same n) i) kind (p i) (q i)

-- the call with a number has that number
call_same : (n : ℕ) (call : Call) → call_at n ≡ Some call → call_number call ≡ n
call_same zero call e = ap call_number (sym (same_Some Run call e))
call_same (suc zero) call e = ap call_number (sym (same_Some Response call e))
call_same (suc (suc zero)) call e = ap call_number (sym (same_Some EndRun call e))
call_same (suc (suc (suc zero))) call e = ap call_number (sym (same_Some Work call e))
call_same (suc (suc (suc (suc zero)))) call e = ap call_number (sym (same_Some Save call e))
call_same (suc (suc (suc (suc (suc zero))))) call e = ap call_number (sym (same_Some RestoreSafe call e))
call_same (suc (suc (suc (suc (suc (suc zero)))))) call e = ap call_number (sym (same_Some Make call e))
call_same (suc (suc (suc (suc (suc (suc (suc zero))))))) call e = ap call_number (sym (same_Some Activate call e))
call_same (suc (suc (suc (suc (suc (suc (suc (suc zero)))))))) call e = ap call_number (sym (same_Some Deactivate call e))
call_same (suc (suc (suc (suc (suc (suc (suc (suc (suc zero))))))))) call e = ap call_number (sym (same_Some Cleanup call e))
call_same (suc (suc (suc (suc (suc (suc (suc (suc (suc (suc zero)))))))))) call e = ap call_number (sym (same_Some Restore call e))
call_same (suc (suc (suc (suc (suc (suc (suc (suc (suc (suc (suc n))))))))))) call e = absurd (none-some call e)

-- what holds of an event, if its entry leaves a place 0, or has a call's number
module _ (P : Event → Type 0) where
  alone_gives : (rest : ℕ) (told told_of : Event) → if_zero rest told ≡ Some told_of → (rest ≡ 0 → P told) → P told_of
  alone_gives zero told told_of e p = subst P (same_Some told told_of e) (p refl)
  alone_gives (suc n) told told_of e p = absurd (none-some told_of e)

  called_gives : (f : Call → Event) (call : Option Call) (told_of : Event) → called f call ≡ Some told_of → ((c : Call) → call ≡ Some c → P (f c)) → P told_of
  called_gives f None told_of e p = absurd (none-some told_of e)
  called_gives f (Some c) told_of e p = subst P (same_Some (f c) told_of e) (p c refl)

-- an entry is that of the event
abbrev Makes : ℕ → Kind → ℕ → ℕ → Event → Type 0
Makes n kind a b told = entry n kind a b ≡ entry_from (actor_at n) told

told_same : (n : ℕ) (kind : Kind) (a b : ℕ) (told : Event) → event_at kind a b ≡ Some told → Makes n kind a b told
told_same n Block a b told e = alone_gives (Makes n Block a b) b (event.Block a) told e (λ z. parts n Block a b a 0 refl z)
told_same n Done a b told e = alone_gives (Makes n Done a b) b (event.Done a) told e (λ z. parts n Done a b a 0 refl z)
told_same n Beat a b told e = alone_gives (Makes n Beat a b) b (event.Beat a) told e (λ z. parts n Beat a b a 0 refl z)
told_same n Late a b told e = alone_gives (Makes n Late a b) b (event.Late a) told e (λ z. parts n Late a b a 0 refl z)
told_same n Look a b told e = subst (Makes n Look a b) (same_Some (event.Look (ring_at a) b) told e) (parts n Look a b (ring_number (ring_at a)) b (sym (ring_same a)) refl)
told_same n Take a b told e = alone_gives (Makes n Take a b) b (event.Take (ring_at a)) told e (λ z. parts n Take a b (ring_number (ring_at a)) 0 (sym (ring_same a)) z)
told_same n Send a b told e = alone_gives (Makes n Send a b) b (event.Send (ring_at a)) told e (λ z. parts n Send a b (ring_number (ring_at a)) 0 (sym (ring_same a)) z)
told_same n Full a b told e = alone_gives (Makes n Full a b) b (event.Full (ring_at a)) told e (λ z. parts n Full a b (ring_number (ring_at a)) 0 (sym (ring_same a)) z)
told_same n Long a b told e = alone_gives (Makes n Long a b) b (event.Long (ring_at a)) told e (λ z. parts n Long a b (ring_number (ring_at a)) 0 (sym (ring_same a)) z)
told_same n Stop a b told e = alone_gives (Makes n Stop a b) (a + b) event.Stop told e (λ z. parts n Stop a b 0 0 (omega arith) (omega arith))
told_same n Join a b told e = alone_gives (Makes n Join a b) (a + b) event.Join told e (λ z. parts n Join a b 0 0 (omega arith) (omega arith))
told_same n Last a b told e = alone_gives (Makes n Last a b) (a + b) event.Last told e (λ z. parts n Last a b 0 0 (omega arith) (omega arith))
told_same n Begin a b told e = called_gives (Makes n Begin a b) (λ (call : Call). event.Begin call b) (call_at a) told e (λ c known. parts n Begin a b (call_number c) b (sym (call_same a c known)) refl)
told_same n End a b told e = called_gives (Makes n End a b) (λ (call : Call). event.End call b) (call_at a) told e (λ c known. parts n End a b (call_number c) b (sym (call_same a c known)) refl)

-- the event of an entry is told by its actor
if_told_gives : (actor : Actor) (o : Option Event) (told : Event) → if_told actor o ≡ Some told → (o ≡ Some told) × (tells actor told ≡ true)
if_told_gives actor None told e = absurd (none-some told e)
if_told_gives actor (Some other) told e =
    let known = cond_some (tells actor other) other told e in
    (ap (λ (x : Event). Some x) known.1, subst (λ (x : Event). tells actor x ≡ true) known.1 known.0)

-- an entry that tells of an event is a form of it
pub told_form : (told : Event) (e : Entry) → event_of e ≡ Some told → IsFormOf told e
told_form told e known =
    let both = if_told_gives (actor_at e.actor) (event_at e.kind e.a e.b) told known in
    record { told = both.1; same = told_same e.actor e.kind e.a e.b told both.0 }

-- the same of an answer
pub told_forms : (e : Entry) (o : Option Event) → o ≡ event_of e → IfSome o (λ told. IsFormOf told e)
told_forms e None same = tt
told_forms e (Some told) same = told_form told e (sym same)
