-- The answers are events of the block.
use Rattle.std.proofs.Common.{◌≡◌, ℕ, ◌+◌, ◌-◌, ◌^◌, ◌<◌, ◌≤◌, cond, nat_le, true, false, List, [], ◌∷◌, length, ℤ, ◌≤ℤ◌, FitsSigned, inl, inr, ap, ◌∙◌, refl, arith}
use Rattle.std.specs.Int.{w64}
use Rattle.std.proofs.lemmas.Int.{ints}
use Rattle.std.proofs.lemmas.Bool.{cases_lt, le-leb, lt-leb}
use Rattle.std.proofs.lemmas.List.{length-append}
use Rattle.lv_base.specs.declared.number.Fixed.{Fixed}
use Rattle.atom_core.specs.declared.form.Form.TheVariants.{Sequence}
use Rattle.atom_core.specs.Form.{form_of}
use Rattle.atom_core.specs.Value.{timed, keyed, bare, Parts, none, part}
use Rattle.atom_core.specs.Spelling.{u32, i64, body_of, part_of}
use Rattle.atom_core.specs.Fits.{Fits, PartsFit}
use Rattle.atom_core.specs.Answer.{most_containers}
use Rattle.atom_core.proofs.Numbers.{u32-length, i64-length}
use Rattle.atom_core.proofs.Firsts.{fits_more}
use Rattle.atom_sequence.specs.Event.{Event, as_parts, size_of}
use Rattle.patch_control.specs.declared.value.Value.TheVariants.{Fixed as number}
use Rattle.patch_control.specs.Written.{body_with}
use Rattle.plug_api.specs.Sequences.{AreInOrder}
use Rattle.stock_tank.specs.declared.ask.Ask.TheVariants.{Set, Get, Nothing}
use Rattle.stock_tank.specs.declared.ask.Wanted.{Wanted}
use Rattle.stock_tank.specs.declared.ask.Wanted.TheVariants.{Level, All}
use Rattle.stock_tank.specs.Requests.{Request, requests_of}
use Rattle.stock_tank.specs.Answers.{answer_to, answers_to, fitting, event_bytes}
use Rattle.stock_tank.specs.Playing.{AreTimed}
use Rattle.stock_tank.proofs.Asking.{SetFits, ask_fits}

-- the bodies of answers have 56 bytes
body-length : (key : ℕ) (level : Fixed) (wanted : Wanted) → length (body_of (answer_to key level wanted)) ≡ 56
unfolding u32 i64
body-length key level Level = refl
body-length key level All = refl

inner-length : (key : ℕ) (level : Fixed) → length (body_of (body_with ((key, number level) ∷ []))) ≡ 32
unfolding u32 i64
inner-length key level = refl

answer_fits : (key : ℕ) (level : Fixed) (wanted : Wanted) → key < 2 ^ 32 → FitsSigned w64 level.0 → Fits 15 (answer_to key level wanted)
unfolding form_of
answer_fits key level Level small fits =
    let long = body-length key level Level in (
      (omega arith, omega arith),
      omega (arith, long),
      (
        omega arith,
        (omega arith, omega arith),
        (small, omega (arith, u32-length key)),
        (omega arith, (omega arith, omega arith), (fits, omega (arith, i64-length level.0)), tt),
      ),
    )
answer_fits key level All small fits =
    let long = body-length key level All in (
      (omega arith, omega arith),
      omega (arith, long),
      (
        omega arith,
        (omega arith, omega arith),
        ((omega arith, omega arith), omega (arith, inner-length key level), (omega arith, (small, omega arith), (fits, omega (arith, i64-length level.0)), tt)),
        tt,
      ),
    )

-- the numbers of what is asked are of 64 bits
abbrev pub AreFit : List Request → Type 0
AreFit [] = Unit {0}
AreFit (request ∷ requests) = FitsSigned w64 request.0 × SetFits request.1 × AreFit requests

pub requests_fit : (key : ℕ) (parts : Parts) → PartsFit most_containers Sequence parts → AreFit (requests_of key parts)
requests_fit key none fits = tt
requests_fit key (part (timed time) value parts) fits =
    (fits.1, ask_fits key value (fits_more 15 16 value (omega arith) fits.2), requests_fit key parts fits.3)
requests_fit key (part bare value parts) fits = absurd fits.1
requests_fit key (part (keyed k context) value parts) fits = absurd fits.1

abbrev EventsFit : List Event → Type 0
EventsFit events = PartsFit most_containers Sequence (as_parts events)

answers_fit : (key : ℕ) (level : Fixed) (requests : List Request) → key < 2 ^ 32 → FitsSigned w64 level.0 → AreFit requests
    → EventsFit (answers_to key level requests)
answers_fit key level [] small fits are = tt
answers_fit key level ((time, Set new) ∷ requests) small fits are = answers_fit key new requests small are.1 are.2
answers_fit key level ((time, Get wanted) ∷ requests) small fits are =
    (omega arith, are.0, answer_fits key level wanted small fits, answers_fit key level requests small fits are.2)
answers_fit key level ((time, Nothing) ∷ requests) small fits are = answers_fit key level requests small fits are.2

fitting_fit : (room : ℕ) (events : List Event) → EventsFit events → EventsFit (fitting room events)
fitting_fit room [] fits = tt
fitting_fit room (e ∷ events) fits =
    elim (nat_le (size_of e) room) as (λ one. EventsFit (cond one (e ∷ fitting (room - size_of e) events) (fitting room events))) [
      | true ↦ (fits.0, fits.1, fits.2, fitting_fit (room - size_of e) events fits.3)
      | false ↦ fitting_fit room events fits.3
    ]

pub told_fit : (key room : ℕ) (level : Fixed) (requests : List Request) → key < 2 ^ 32 → FitsSigned w64 level.0 → AreFit requests
    → EventsFit (fitting room (answers_to key level requests))
told_fit key room level requests small fits are = fitting_fit room (answers_to key level requests) (answers_fit key level requests small fits are)

abbrev EventsOrdered : ℤ → ℕ → List Event → Type 0
EventsOrdered from frames events = AreInOrder from frames (as_parts events)

ordered_from : (a b : ℤ) (frames : ℕ) (events : List Event) → b ≤ℤ a → EventsOrdered a frames events → EventsOrdered b frames events
ordered_from a b frames [] before ordered = tt
ordered_from a b frames (e ∷ events) before ordered = (omega (arith, ints, before, ordered.0), ordered.1, ordered.2)

answers_ordered : (key : ℕ) (level : Fixed) (from : ℤ) (frames : ℕ) (requests : List Request) → AreTimed from frames requests
    → EventsOrdered from frames (answers_to key level requests)
answers_ordered key level from frames [] times = tt
answers_ordered key level from frames ((time, Set new) ∷ requests) times =
    ordered_from time from frames (answers_to key new requests) times.0 (answers_ordered key new time frames requests times.2)
answers_ordered key level from frames ((time, Get wanted) ∷ requests) times =
    (times.0, times.1, answers_ordered key level time frames requests times.2)
answers_ordered key level from frames ((time, Nothing) ∷ requests) times =
    ordered_from time from frames (answers_to key level requests) times.0 (answers_ordered key level time frames requests times.2)

fitting_ordered : (room : ℕ) (from : ℤ) (frames : ℕ) (events : List Event) → EventsOrdered from frames events
    → EventsOrdered from frames (fitting room events)
fitting_ordered room from frames [] ordered = tt
fitting_ordered room from frames (e ∷ events) ordered =
    elim (nat_le (size_of e) room) as (λ one. EventsOrdered from frames (cond one (e ∷ fitting (room - size_of e) events) (fitting room events))) [
      | true ↦ (ordered.0, ordered.1, fitting_ordered (room - size_of e) e.time frames events ordered.2)
      | false ↦ fitting_ordered room from frames events (ordered_from e.time from frames events ordered.0 ordered.2)
    ]

pub told_ordered : (key room : ℕ) (level : Fixed) (from : ℤ) (frames : ℕ) (requests : List Request) → AreTimed from frames requests
    → EventsOrdered from frames (fitting room (answers_to key level requests))
told_ordered key room level from frames requests times =
    fitting_ordered room from frames (answers_to key level requests) (answers_ordered key level from frames requests times)

-- those that fit have no more bytes than there is room for
pub fitting_room : (room : ℕ) (events : List Event) → length (event_bytes (fitting room events)) ≤ room
fitting_room room [] = omega arith
fitting_room room (e ∷ events) =
    elim (cases_lt room (size_of e)) [
      | inr fits ↦
          let both : fitting room (e ∷ events) ≡ e ∷ fitting (room - size_of e) events = rw (le-leb (size_of e) room fits) refl in
          let rest = fitting_room (room - size_of e) events in
          let long : length (event_bytes (fitting room (e ∷ events))) ≡ size_of e + length (event_bytes (fitting (room - size_of e) events)) =
          ap (λ (es : List Event). length (event_bytes es)) both
          ∙ length-append (part_of (timed e.time) e.value) (event_bytes (fitting (room - size_of e) events)) in
          omega (arith, fits, rest, long)
      | inl full ↦
          let same : fitting room (e ∷ events) ≡ fitting room events = rw (lt-leb (size_of e) room full) refl in
          let rest = fitting_room room events in
          let long : length (event_bytes (fitting room (e ∷ events))) ≡ length (event_bytes (fitting room events)) =
          ap (λ (es : List Event). length (event_bytes es)) same in
          omega (arith, rest, long)
    ]
