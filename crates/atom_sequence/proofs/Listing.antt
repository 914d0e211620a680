-- Lists of events that are given as their bytes.
use Rattle.std.proofs.Common.{◌≡◌, ◌≢◌, ℕ, suc, ◌+◌, ◌<◌, List, [], ◌∷◌, length, get_or, set, All, refl, ap, sym, ◌∙◌, subst, below_more, get_or-set_other, get_or-set_same, arith}
use Rattle.std.proofs.lemmas.List.{get_or_default}
use Rattle.std.proofs.Math.Logic.{∥∥₁_elim, ∥∥₁_map, ∥∥₁_prop}
use Rattle.std.specs.Borrow.{Bor}
use Rattle.atom_core.specs.declared.form.Form.TheVariants.{Sequence}
use Rattle.atom_core.specs.Value.{timed, keyed, bare, Parts, none, part}
use Rattle.atom_core.specs.Fits.{PartsFit}
use Rattle.atom_core.specs.Atoms.{SpellEvents}
use Rattle.atom_sequence.specs.declared.cursor.Cursor.{Cursor}
use Rattle.atom_sequence.specs.Event.{Event, as_parts}
use Rattle.atom_sequence.specs.Lists.{IsList, HoldLists}
use Rattle.atom_sequence.specs.Cursors.{HasLeft, HaveLeft}
use Rattle.atom_sequence.proofs.Times.{all_head, all_tail}

-- the parts of a sequence are events
pub events_in : (n : ℕ) (parts : Parts) → PartsFit n Sequence parts → (events : List Event) × (as_parts events ≡ parts)
events_in n none fits = ([], refl)
events_in n (part (timed time) value parts) fits =
    let rest = events_in n parts fits.3 in (record { time = time; value = value } ∷ rest.0, ap (part (timed time) value) rest.1)
events_in n (part bare value parts) fits = absurd fits.1
events_in n (part (keyed key context) value parts) fits = absurd fits.1

pub some_events : (lists : List (Bor (List ℕ))) → All IsList lists → ∥ ((all : List (List Event)) × HoldLists lists all) ∥₁
some_events [] each = ∣ ([], tt) ∣₁
some_events (bytes ∷ lists) each =
    let rest = some_events lists (all_tail IsList bytes lists each) in
    ∥∥₁_elim (all_head IsList bytes lists each) ∥∥₁_prop (λ x.
    let found = events_in 16 x.0 x.1.0 in
    ∥∥₁_map rest (λ y. (found.0 ∷ y.0, (subst (SpellEvents bytes.now) (sym found.1) x.1, y.1))))

-- a cursor stands at the first event of its list
abbrev pub Begins : List (Bor (List ℕ)) → List Cursor → ℕ → Type 0
Begins lists cursors k =
    (b : Bor (List ℕ)) (d : Cursor) (events : List Event) → SpellEvents (get_or lists k b).now (as_parts events) → HasLeft (get_or cursors k d) events

pub begins_more : (lists : List (Bor (List ℕ))) (cursors : List Cursor) (place : ℕ) (bytes : Bor (List ℕ)) (c : Cursor) → bytes ≡ get_or lists place bytes
    → place < length lists → length cursors ≡ length lists → ((k : ℕ) → k < place → Begins lists cursors k)
    → ((events : List Event) → SpellEvents bytes.now (as_parts events) → HasLeft c events) → (k : ℕ) → k < place + 1 → Begins lists (set cursors place c) k
begins_more lists cursors place bytes c is lt same each here =
    below_more (Begins lists (set cursors place c)) place
    (λ k less b d events spells.
    let other : k ≢ place = omega (arith, less) in
    subst (λ (x : Cursor). HasLeft x events) (sym (get_or-set_other cursors place k c d other)) (each k less b d events spells))
    (λ b d events spells.
    let at : get_or lists place b ≡ bytes = get_or_default lists place b bytes lt ∙ sym is in
    subst (λ (x : Cursor). HasLeft x events) (sym (get_or-set_same cursors place c d (omega (arith, lt, same))))
    (here events (subst (λ (x : Bor (List ℕ)). SpellEvents x.now (as_parts events)) at spells)))

pub begins_all : (lists : List (Bor (List ℕ))) (cursors : List Cursor) → length cursors ≡ length lists → ((k : ℕ) → k < length lists → Begins lists cursors k)
    → (all : List (List Event)) → HoldLists lists all → HaveLeft cursors all
begins_all [] [] same each [] hold = tt
begins_all [] [] same each (events ∷ all) hold = absurd hold
begins_all [] (c ∷ cursors) same each all hold = absurd (omega (arith, same))
begins_all (b ∷ lists) [] same each all hold = absurd (omega (arith, same))
begins_all (b ∷ lists) (c ∷ cursors) same each [] hold = absurd hold
begins_all (b ∷ lists) (c ∷ cursors) same each (events ∷ all) hold =
    (each 0 (omega arith) b c events hold.0, begins_all lists cursors (omega (arith, same)) (λ k lt. each (suc k) (omega (arith, lt))) all hold.1)
