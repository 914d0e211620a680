-- What an entry that has a form names is there.
use Rattle.std.proofs.Common.{◌≡◌, ℕ, zero, suc, ◌+◌, ◌-◌, ◌*◌, ◌/◌, ◌%◌, ◌<◌, ◌≤◌, nat_lt, nat_le, Bool, true, false, cond, length, Option, Some, None, slice_get, List, [], ◌∷◌, refl, sym, subst, ◌∙◌, ⊎_elim, arith, true≢false, le-ltb, leb-true}
use Rattle.std.specs.Option.{option_map_or}
use Rattle.std.proofs.lemmas.Bool.{and_parts, cond-false, cases_lt}
use Rattle.step_law.specs.declared.actor.Actor.{Actor}
use Rattle.step_law.specs.declared.call.Call.{Call}
use Rattle.step_law.specs.declared.entry.Entry.{Entry}
use Rattle.step_law.specs.declared.entry.Kind.{Kind}
use Rattle.step_law.specs.declared.entry.Kind.TheVariants.{Look, Take, Send, Full, Long, Begin, End}
use Rattle.step_law.specs.declared.event.Event.{Event}
use Rattle.step_law.specs.declared.event.Event.TheVariants as event
use Rattle.step_law.specs.Actor.{actor_at}
use Rattle.step_law.specs.Call.{call_at}
use Rattle.step_law.specs.Form.{tells}
use Rattle.step_law.specs.Ring.{ring_at, actor_ring_at, inst_ring_at}
use Rattle.step_law.specs.Told.{called, event_at, if_told, event_of}
use Rattle.record_law.specs.declared.shape.Shape.{Shape}
use Rattle.record_law.specs.declared.shape.ShapeInst.{ShapeInst}
use Rattle.record_law.specs.Shape.{works}
use Rattle.record_law.specs.There.{is_actor_there, is_inst_there, is_ring_there, names_what_is_there, has_form}

-- ---- numbers

get_within : {A : Type 0} (f : A → Bool) (xs : List A) (i : ℕ) → option_map_or f (slice_get xs i) false ≡ true → i < length xs
get_within f [] i k = absurd (true≢false (sym k))
get_within f (x ∷ xs) zero k = omega arith
get_within f (x ∷ xs) (suc i) k = omega (arith, get_within f xs i k)

-- an instance that schedules work is there
pub works_within : (s : Shape) (inst : ℕ) → works s inst ≡ true → inst < length s.insts
works_within s inst k = get_within (λ (it : ShapeInst). it.works) s.insts inst k

inst_ring_there : (s : Shape) (inst place : ℕ) → is_ring_there s (inst_ring_at inst place) ≡ true → inst < length s.insts
inst_ring_there s inst zero k = works_within s inst k
inst_ring_there s inst (suc zero) k = works_within s inst k
inst_ring_there s inst (suc (suc place)) k = works_within s inst k

pub ring_within : (s : Shape) (n : ℕ) → is_ring_there s (ring_at n) ≡ true → n < 18 + 3 * length s.insts
ring_within s n there =
    ⊎_elim
    (λ (low : n < 18). omega (arith, low))
    (λ (high : 18 ≤ n).
    let of_inst : ring_at n ≡ inst_ring_at ((n - 18) / 3) ((n - 18) % 3) =
    cond-false (nat_lt n 18) (actor_ring_at n) (inst_ring_at ((n - 18) / 3) ((n - 18) % 3)) (le-ltb n 18 high) in
    let less : (n - 18) / 3 < length s.insts =
    inst_ring_there s ((n - 18) / 3) ((n - 18) % 3) (subst (λ ring. is_ring_there s ring ≡ true) of_inst there) in
    omega (arith, less, high))
    (cases_lt n 18)

-- ---- what an entry names

-- an entry of one of these kinds is on a ring
abbrev pub is_on_ring : Kind → Bool
is_on_ring Look = true
is_on_ring Take = true
is_on_ring Send = true
is_on_ring Full = true
is_on_ring Long = true
is_on_ring kind = false

abbrev named : Shape → Actor → Option Event → Bool
named s actor o = option_map_or (names_what_is_there s) (if_told actor o) false

told_names : (s : Shape) (actor : Actor) (it : Event) → named s actor (Some it) ≡ true → names_what_is_there s it ≡ true
told_names s actor it = by (tells actor it)
  where
    by : (b : Bool) → option_map_or (names_what_is_there s) (cond b (Some it) None) false ≡ true → names_what_is_there s it ≡ true
    by true k = k
    by false k = absurd (true≢false (sym k))

ring_named : (s : Shape) (actor : Actor) (kind : Kind) (a b : ℕ) → is_on_ring kind ≡ true → named s actor (event_at kind a b) ≡ true → is_ring_there s (ring_at a) ≡ true
ring_named s actor Look a b is k = told_names s actor (event.Look (ring_at a) b) k
ring_named s actor Take a zero is k = told_names s actor (event.Take (ring_at a)) k
ring_named s actor Take a (suc b) is k = absurd (true≢false (sym k))
ring_named s actor Send a zero is k = told_names s actor (event.Send (ring_at a)) k
ring_named s actor Send a (suc b) is k = absurd (true≢false (sym k))
ring_named s actor Full a zero is k = told_names s actor (event.Full (ring_at a)) k
ring_named s actor Full a (suc b) is k = absurd (true≢false (sym k))
ring_named s actor Long a zero is k = told_names s actor (event.Long (ring_at a)) k
ring_named s actor Long a (suc b) is k = absurd (true≢false (sym k))
ring_named s actor kind a b is k = absurd (true≢false (sym is))

pub form_ring : (s : Shape) (e : Entry) → has_form s e ≡ true → is_on_ring e.kind ≡ true → is_ring_there s (ring_at e.a) ≡ true
form_ring s e form is =
    ring_named s (actor_at e.actor) e.kind e.a e.b is
    (and_parts (is_actor_there s (actor_at e.actor)) (option_map_or (names_what_is_there s) (event_of e) false) form).1

pub form_ring_within : (s : Shape) (e : Entry) → has_form s e ≡ true → is_on_ring e.kind ≡ true → e.a < 18 + 3 * length s.insts
form_ring_within s e form is = ring_within s e.a (form_ring s e form is)

actor_there_within : (s : Shape) (actor : ℕ) → is_actor_there s (actor_at actor) ≡ true → actor < 2 + s.workers
actor_there_within s zero k = omega arith
actor_there_within s (suc zero) k = omega arith
actor_there_within s (suc (suc n)) k = omega (arith, leb-true (suc n) s.workers (and_parts (nat_le 1 (suc n)) (nat_le (suc n) s.workers) k).1)

pub form_actor_within : (s : Shape) (e : Entry) → has_form s e ≡ true → e.actor < 2 + s.workers
form_actor_within s e form =
    actor_there_within s e.actor (and_parts (is_actor_there s (actor_at e.actor)) (option_map_or (names_what_is_there s) (event_of e) false) form).0

-- ---- calls

-- an entry of a call names a call and an instance
inst_named : (s : Shape) (actor : Actor) (o : Option Call) (b : ℕ) (told : Call → Event) → ((call : Call) → names_what_is_there s (told call) ≡ is_inst_there s b)
    → named s actor (called told o) ≡ true → ((call : Call) × (o ≡ Some call)) × (is_inst_there s b ≡ true)
inst_named s actor None b told same k = absurd (true≢false (sym k))
inst_named s actor (Some call) b told same k = ((call, refl), sym (same call) ∙ told_names s actor (told call) k)

pub form_begin : (s : Shape) (e : Entry) → has_form s e ≡ true → e.kind ≡ Begin → ((call : Call) × (call_at e.a ≡ Some call)) × (is_inst_there s e.b ≡ true)
form_begin s e form is =
    inst_named s (actor_at e.actor) (call_at e.a) e.b (λ call. event.Begin call e.b) (λ call. refl)
    (subst (λ kind. named s (actor_at e.actor) (event_at kind e.a e.b) ≡ true) is
    (and_parts (is_actor_there s (actor_at e.actor)) (option_map_or (names_what_is_there s) (event_of e) false) form).1)

pub form_end : (s : Shape) (e : Entry) → has_form s e ≡ true → e.kind ≡ End → ((call : Call) × (call_at e.a ≡ Some call)) × (is_inst_there s e.b ≡ true)
form_end s e form is =
    inst_named s (actor_at e.actor) (call_at e.a) e.b (λ call. event.End call e.b) (λ call. refl)
    (subst (λ kind. named s (actor_at e.actor) (event_at kind e.a e.b) ≡ true) is
    (and_parts (is_actor_there s (actor_at e.actor)) (option_map_or (names_what_is_there s) (event_of e) false) form).1)
