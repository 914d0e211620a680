-- The merge of events of a block is events of the block, in order.
use Rattle.std.proofs.Common.{◌≡◌, ℕ, ◌-◌, ◌≤◌, Bool, true, false, if◌then◌else◌, List, [], ◌∷◌, ◌++◌, length, ℤ, pos, ◌≤ℤ◌, ◌<ℤ◌, int_le, nat_le, FitsSigned, refl, sym, subst, arith}
use Rattle.std.specs.Int.{w64}
use Rattle.std.specs.Borrow.{Bor}
use Rattle.std.proofs.lemmas.Int.{ints}
use Rattle.std.proofs.lemmas.Bool.{leb-true}
use Rattle.std.proofs.lemmas.List.{length-append}
use Rattle.std.proofs.Math.Logic.{∥∥₁_elim, ∥∥₁_map, ∥∥₁_prop}
use Rattle.atom_core.specs.declared.form.Form.TheVariants.{Sequence}
use Rattle.atom_core.specs.Value.{timed}
use Rattle.atom_core.specs.Spelling.{part_of}
use Rattle.atom_core.specs.Fits.{Fits, PartsFit}
use Rattle.atom_core.specs.Atoms.{SpellEvents}
use Rattle.atom_sequence.specs.Event.{Event, as_parts, size_of, NeverFall}
use Rattle.atom_sequence.specs.Lists.{HoldLists}
use Rattle.atom_sequence.specs.Merge.{joined, put_in, in_order, cut, merged}
use Rattle.atom_sequence.specs.Cursors.{EachNeverFalls}
use Rattle.atom_sequence.proofs.Listing.{events_in}
use Rattle.atom_sequence.proofs.Orders.{BeginsFrom}
use Rattle.atom_sequence.proofs.Stable.{stable_order}
use Rattle.atom_sequence.proofs.Times.{From, from_first, all_head, all_tail}
use Rattle.plug_api.specs.Sequences.{AreInOrder}
use Rattle.session_play.specs.EventBytes.{bytes_of}
use Rattle.event_signals.specs.Merging.{IsTimed, AreTimed}

-- ---- each event of a list

abbrev pub Each : (Event → Type 0) → List Event → Type 0
Each P [] = Unit {0}
Each P (e ∷ events) = P e × Each P events

abbrev pub EachList : (Event → Type 0) → List (List Event) → Type 0
EachList P [] = Unit {0}
EachList P (events ∷ all) = Each P events × EachList P all

each_append : (P : Event → Type 0) (a b : List Event) → Each P a → Each P b → Each P (a ++ b)
each_append P [] b h k = k
each_append P (e ∷ a) b h k = (h.0, each_append P a b h.1 k)

pub each_joined : (P : Event → Type 0) (all : List (List Event)) → EachList P all → Each P (joined all)
each_joined P [] h = tt
each_joined P (events ∷ all) h = each_append P events (joined all) h.0 (each_joined P all h.1)

each_put : (P : Event → Type 0) (e : Event) (events : List Event) → P e → Each P events → Each P (put_in e events)
each_put P e [] p h = (p, tt)
each_put P e (f ∷ events) p h = by (int_le e.time f.time) (each_put P e events p h.1)
  where
    by : (b : Bool) → Each P (put_in e events) → Each P (if b then e ∷ (f ∷ events) else f ∷ put_in e events)
    by true rest = (p, h)
    by false rest = (h.0, rest)

pub each_order : (P : Event → Type 0) (events : List Event) → Each P events → Each P (in_order events)
each_order P [] h = tt
each_order P (e ∷ events) h = each_put P e (in_order events) h.0 (each_order P events h.1)

each_cut : (P : Event → Type 0) (room : ℕ) (events : List Event) → Each P events → Each P (cut room events)
each_cut P room [] h = tt
each_cut P room (e ∷ events) h = by (nat_le (size_of e) room) (each_cut P (room - size_of e) events h.1)
  where
    by : (b : Bool) → Each P (cut (room - size_of e) events) → Each P (if b then e ∷ cut (room - size_of e) events else [])
    by true rest = (h.0, rest)
    by false rest = tt

-- ---- events of a block

-- an event that lies in the block and may stand in a sequence
pub record InBlock (frames : ℕ) (e : Event) : Type 0 where
  pub from : pos 0 ≤ℤ e.time
  pub within : e.time <ℤ pos frames
  pub time : FitsSigned w64 e.time
  pub value : Fits 15 e.value

pub parts_fit : (frames : ℕ) (events : List Event) → Each (InBlock frames) events → PartsFit 16 Sequence (as_parts events)
parts_fit frames [] h = tt
parts_fit frames (e ∷ events) h = (omega arith, h.0.time, h.0.value, parts_fit frames events h.1)

begins : (time : ℤ) (events : List Event) → From time events → BeginsFrom time events
begins time [] h = tt
begins time (e ∷ events) h = all_head (λ (f : Event). time ≤ℤ f.time) e events h

order_of : (from : ℤ) (frames : ℕ) (events : List Event) → Each (InBlock frames) events → NeverFall events → BeginsFrom from events
    → AreInOrder from frames (as_parts events)
order_of from frames [] h falls b = tt
order_of from frames (e ∷ events) h falls b = (b, h.0.within, order_of e.time frames events h.1 falls.1 (begins e.time events falls.0))

begins_each : (frames : ℕ) (events : List Event) → Each (InBlock frames) events → BeginsFrom (pos 0) events
begins_each frames [] h = tt
begins_each frames (e ∷ events) h = h.0.from

order_cut : (from : ℤ) (frames room : ℕ) (events : List Event) → AreInOrder from frames (as_parts events) → AreInOrder from frames (as_parts (cut room events))
order_cut from frames room [] h = tt
order_cut from frames room (e ∷ events) h = by (nat_le (size_of e) room) (order_cut e.time frames (room - size_of e) events h.2)
  where
    by : (b : Bool) → AreInOrder e.time frames (as_parts (cut (room - size_of e) events))
        → AreInOrder from frames (as_parts (if b then e ∷ cut (room - size_of e) events else []))
    by true rest = (h.0, h.1, rest)
    by false rest = tt

pub order_merged : (frames room : ℕ) (all : List (List Event)) → EachList (InBlock frames) all → AreInOrder (pos 0) frames (as_parts (merged room all))
order_merged frames room all h =
    let each = each_order (InBlock frames) (joined all) (each_joined (InBlock frames) all h) in
    order_cut (pos 0) frames room (in_order (joined all))
    (order_of (pos 0) frames (in_order (joined all)) each (stable_order.some (joined all)).rises (begins_each frames (in_order (joined all)) each))

pub fit_merged : (frames room : ℕ) (all : List (List Event)) → EachList (InBlock frames) all → PartsFit 16 Sequence (as_parts (merged room all))
fit_merged frames room all h =
    parts_fit frames (merged room all)
    (each_cut (InBlock frames) room (in_order (joined all)) (each_order (InBlock frames) (joined all) (each_joined (InBlock frames) all h)))

-- they take no more room than there is
pub cut_within : (room : ℕ) (events : List Event) → length (bytes_of (cut room events)) ≤ room
cut_within room [] = omega arith
cut_within room (e ∷ events) = by (nat_le (size_of e) room) refl (cut_within (room - size_of e) events)
  where
    by : (b : Bool) → nat_le (size_of e) room ≡ b → length (bytes_of (cut (room - size_of e) events)) ≤ room - size_of e
        → length (bytes_of (if b then e ∷ cut (room - size_of e) events else [])) ≤ room
    by true h rest =
        let less : size_of e ≤ room = leb-true (size_of e) room h in
        omega (arith, length-append (part_of (timed e.time) e.value) (bytes_of (cut (room - size_of e) events)), rest, less)
    by false h rest = omega arith

-- ---- those that lists have

falls_of : (from : ℤ) (frames : ℕ) (events : List Event) → AreInOrder from frames (as_parts events) → NeverFall events × From from events
falls_of from frames [] h = (tt, λ k d lt. absurd (omega (arith, lt)))
falls_of from frames (e ∷ events) h =
    let rest = falls_of e.time frames events h.2 in
    let falls : NeverFall (e ∷ events) = (rest.1, rest.0) in (falls, from_first from e events falls h.0)

later : (a b : ℤ) (events : List Event) → a ≤ℤ b → From b events → From a events
later a b events le h = λ k d lt. let more = h k d lt in omega (arith, ints, more, le)

pub each_of : (frames : ℕ) (from : ℤ) (events : List Event) → pos 0 ≤ℤ from → PartsFit 16 Sequence (as_parts events) → AreInOrder from frames (as_parts events)
    → Each (InBlock frames) events
each_of frames from [] low fits h = tt
each_of frames from (e ∷ events) low fits h =
    let first : pos 0 ≤ℤ e.time = let step = h.0 in omega (arith, ints, low, step) in
    (record { from = first; within = h.1; time = fits.1; value = fits.2 }, each_of frames e.time events first fits.3 h.2)

pub record HeldIn (frames : ℕ) (lists : List (Bor (List ℕ))) : Type 0 where
  pub all : List (List Event)
  pub hold : HoldLists lists all
  pub fall : EachNeverFalls all
  pub each : EachList (InBlock frames) all

pub some_held : (frames : ℕ) (lists : List (Bor (List ℕ))) → AreTimed frames lists → ∥ HeldIn frames lists ∥₁
some_held frames [] are = ∣ record { all = []; hold = tt; fall = tt; each = tt } ∣₁
some_held frames (list ∷ lists) are =
    ∥∥₁_elim (all_head (IsTimed frames) list lists are) ∥∥₁_prop (λ x.
    ∥∥₁_map (some_held frames lists (all_tail (IsTimed frames) list lists are)) (λ rest.
    let found = events_in 16 x.0 x.1.0 in
    let spells : SpellEvents list.now (as_parts found.0) = subst (SpellEvents list.now) (sym found.1) x.1 in
    let order : AreInOrder (pos 0) frames (as_parts found.0) = subst (AreInOrder (pos 0) frames) (sym found.1) x.2 in
    record {
      all = found.0 ∷ rest.all;
      hold = (spells, rest.hold);
      fall = ((falls_of (pos 0) frames found.0 order).0, rest.fall);
      each = (each_of frames (pos 0) found.0 (omega (arith, ints)) spells.0 order, rest.each);
    }))
