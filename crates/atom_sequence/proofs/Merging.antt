-- What the merge comes to, one event after the other.
use Rattle.std.proofs.Common.{◌≡◌, ℕ, ◌+◌, ◌-◌, ◌≤◌, ◌<◌, Bool, true, false, if◌then◌else◌, nat_le, List, [], ◌∷◌, ◌++◌, length, set, ℤ, sym, ap, ◌∙◌, append_assoc, length-append, arith}
use Rattle.std.proofs.lemmas.Bool.Decides.{nat_tests}
use Rattle.std.proofs.lemmas.List.{append-nil}
use Rattle.atom_core.specs.Value.{timed}
use Rattle.atom_core.specs.Spelling.{part_of, parts_of}
use Rattle.atom_forge.specs.Forged.{Forged, left, with_piece}
use Rattle.atom_sequence.specs.declared.cursor.Cursor.{Cursor}
use Rattle.atom_sequence.specs.Event.{Event, as_parts, size_of}
use Rattle.atom_sequence.specs.Merge.{joined, in_order, cut, merged}
use Rattle.atom_sequence.specs.Views.{with_events}
use Rattle.atom_sequence.specs.Cursors.{HasLeft, IsMerging}
use Rattle.atom_sequence.proofs.Picks.{Picked}

pub cut_fits : (room : ℕ) (e : Event) (events : List Event) → size_of e ≤ room → cut room (e ∷ events) ≡ e ∷ cut (room - size_of e) events
cut_fits room e events h =
    let fits : nat_le (size_of e) room ≡ true = grind (arith, nat_tests) in
    ap (λ (b : Bool). if b then e ∷ cut (room - size_of e) events else []) fits

pub cut_full : (room : ℕ) (e : Event) (events : List Event) → room < size_of e → cut room (e ∷ events) ≡ []
cut_full room e events h =
    let fits : nat_le (size_of e) room ≡ false = grind (arith, nat_tests) in
    ap (λ (b : Bool). if b then e ∷ cut (room - size_of e) events else []) fits

parts_more : (done : List Event) (e : Event) → parts_of (as_parts done) ++ part_of (timed e.time) e.value ≡ parts_of (as_parts (done ++ e ∷ []))
parts_more [] e = sym (append-nil (part_of (timed e.time) e.value))
parts_more (d ∷ done) e =
    append_assoc (part_of (timed d.time) d.value) (parts_of (as_parts done)) (part_of (timed e.time) e.value)
    ∙ ap (λ (l : List ℕ). part_of (timed d.time) d.value ++ l) (parts_more done e)

put_more : (start forge new : Forged) (done : List Event) (e : Event) → forge ≡ with_events start done → new ≡ with_piece forge (part_of (timed e.time) e.value) false
    → new ≡ with_events start (done ++ e ∷ [])
put_more start forge new done e is more =
    let piece = part_of (timed e.time) e.value in
    more ∙ ap (λ (f : Forged). with_piece f piece false) is
    ∙ ap (λ (b : List ℕ). record { room = start.room; bytes = b; levels = start.levels; waits = false })
    (append_assoc start.bytes (parts_of (as_parts done)) piece ∙ ap (λ (l : List ℕ). start.bytes ++ l) (parts_more done e))

pub left_less : (forge new : Forged) (piece : List ℕ) → new ≡ with_piece forge piece false → left new ≡ left forge - length piece
left_less forge new piece is =
    let bytes : length new.bytes ≡ length forge.bytes + length piece = ap (λ (f : Forged). length f.bytes) is ∙ length-append forge.bytes piece in
    let room : new.room ≡ forge.room = ap (λ (f : Forged). f.room) is in
    omega (arith, bytes, room)

pub merge_more : (all : List (List Event)) (start forge new : Forged) (cursors : List Cursor) (written place : ℕ) (time : ℤ) (c : Cursor)
    → (m : IsMerging all start forge cursors written) → (p : Picked cursors m.lists place time) → HasLeft c p.others → size_of p.event ≤ left forge
    → new ≡ with_piece forge (part_of (timed p.event.time) p.event.value) false → IsMerging all start new (set cursors place c) (written + 1)
merge_more all start forge new cursors written place time c m p here fits more =
    let e = p.event in
    let rest = in_order (joined p.after) in
    let piece = part_of (timed e.time) e.value in
    record {
      lists = p.after;
      done = m.done ++ e ∷ [];
      have = p.goes c here;
      fall = p.falls;
      merge =
          m.merge
          ∙ ap (λ (l : List Event). m.done ++ cut (left forge) l) p.order
          ∙ ap (λ (l : List Event). m.done ++ l) (cut_fits (left forge) e rest fits)
          ∙ ap (λ n. m.done ++ (e ∷ cut n rest)) (sym (left_less forge new piece more))
          ∙ sym (append_assoc m.done (e ∷ []) (cut (left new) rest));
      forge_is = put_more start forge new m.done e m.forge_is more;
      count = omega (arith, m.count, length-append m.done (e ∷ []));
    }

-- nothing more has room
pub record IsMerged (all : List (List Event)) (start forge : Forged) (written : ℕ) : Type 0 where
  pub forge_is : forge ≡ with_events start (merged (left start) all)
  pub count : written ≡ length (merged (left start) all)

pub end_merging : (all : List (List Event)) (start forge : Forged) (cursors : List Cursor) (written : ℕ) → (m : IsMerging all start forge cursors written)
    → cut (left forge) (in_order (joined m.lists)) ≡ [] → IsMerged all start forge written
end_merging all start forge cursors written m none =
    let whole : merged (left start) all ≡ m.done = m.merge ∙ ap (λ (l : List Event). m.done ++ l) none ∙ append-nil m.done in
    record {
      forge_is = m.forge_is ∙ ap (with_events start) (sym whole);
      count = m.count ∙ ap length (sym whole);
    }
