-- What the views of a merger hold.
use Rattle.std.proofs.Common.{◌≡◌, ◌≢◌, ℕ, suc, ◌+◌, ◌<◌, ◌≤◌, List, [], ◌∷◌, length, map, take, get_or, set, All, ap, sym, ◌∙◌, subst, below_more, get_or-set_other, get_or-set_same, arith}
use Rattle.std.proofs.lemmas.List.{get_or_default, length-map, length-take}
use Rattle.std.proofs.Math.Logic.{∥∥₁_elim, ∥∥₁_map, ∥∥₁_prop}
use Rattle.atom_core.specs.declared.view.AtomView.{AtomView}
use Rattle.atom_sequence.specs.declared.cursor.Cursor.{Cursor}
use Rattle.atom_sequence.specs.Event.{Event, SpellSequence}
use Rattle.atom_sequence.specs.Views.{IsSequence, IsInOrder, HoldEvents}
use Rattle.atom_sequence.specs.Cursors.{bytes_of, HasLeft, HaveLeft, EachNeverFalls}
use Rattle.atom_sequence.proofs.Times.{all_head, all_tail}

-- each cursor stands at the first event of its view
pub begin_left : (views : List AtomView) (cursors : List Cursor) → length cursors ≡ length views
    → ((k : ℕ) → k < length views → (v : AtomView) (d : Cursor) (events : List Event) → SpellSequence (bytes_of (get_or views k v)) events → HasLeft (get_or cursors k d) events)
    → (lists : List (List Event)) → HoldEvents (map bytes_of views) lists → HaveLeft cursors lists
begin_left [] [] same each [] hold = tt
begin_left [] [] same each (events ∷ lists) hold = absurd hold
begin_left [] (c ∷ cursors) same each lists hold = absurd (omega (arith, same))
begin_left (v ∷ views) [] same each lists hold = absurd (omega (arith, same))
begin_left (v ∷ views) (c ∷ cursors) same each [] hold = absurd hold
begin_left (v ∷ views) (c ∷ cursors) same each (events ∷ lists) hold = (
  each 0 (omega arith) v c events (hold.0),
  begin_left views cursors (omega (arith, same)) (λ k lt. each (suc k) (omega (arith, lt))) lists (hold.1),
)

pub some_lists : (views : List (List ℕ)) → All IsSequence views → ∥ ((lists : List (List Event)) × HoldEvents views lists) ∥₁
some_lists [] all = ∣ ([], tt) ∣₁
some_lists (bytes ∷ views) all =
    let first : IsSequence bytes = all_head IsSequence bytes views all in
    let rest = some_lists views (all_tail IsSequence bytes views all) in
    ∥∥₁_elim first ∥∥₁_prop (λ x. ∥∥₁_map rest (λ y. (x.0 ∷ y.0, (x.1, y.1))))

pub each_falls : (views : List (List ℕ)) (lists : List (List Event)) → HoldEvents views lists → All IsInOrder views → EachNeverFalls lists
each_falls [] [] hold all = tt
each_falls [] (events ∷ lists) hold all = absurd hold
each_falls (bytes ∷ views) [] hold all = absurd hold
each_falls (bytes ∷ views) (events ∷ lists) hold all = (all_head IsInOrder bytes views all events (hold.0), each_falls views lists (hold.1) (all_tail IsInOrder bytes views all))

-- one more cursor stands at the first event of its view
abbrev pub Begin : List AtomView → List Cursor → ℕ → Type 0
Begin views cursors k = (v : AtomView) (d : Cursor) (events : List Event) → SpellSequence (bytes_of (get_or views k v)) events → HasLeft (get_or cursors k d) events

pub begin_more : (views : List AtomView) (cursors : List Cursor) (place : ℕ) (view : AtomView) (c : Cursor) → view ≡ get_or views place view
    → place < length views → length cursors ≡ length views → ((k : ℕ) → k < place → Begin views cursors k)
    → ((events : List Event) → SpellSequence (bytes_of view) events → HasLeft c events) → (k : ℕ) → k < place + 1 → Begin views (set cursors place c) k
begin_more views cursors place view c is lt same each here =
    below_more (Begin views (set cursors place c)) place
    (λ k less v d events spells.
    let other : k ≢ place = omega (arith, less) in
    subst (λ (x : Cursor). HasLeft x events) (sym (get_or-set_other cursors place k c d other)) (each k less v d events spells))
    (λ v d events spells.
    let at : get_or views place v ≡ view = get_or_default views place v view lt ∙ sym is in
    subst (λ (x : Cursor). HasLeft x events) (sym (get_or-set_same cursors place c d (omega (arith, lt, same))))
    (here events (subst (λ (x : AtomView). SpellSequence (bytes_of x) events) at spells)))

-- the views that are held, by the places that they take
pub hold_at : (views : List AtomView) (n m : ℕ) (all : List (List ℕ)) (lists : List (List Event)) → map bytes_of (take n views) ≡ all → m ≡ n → HoldEvents all lists
    → HoldEvents (map bytes_of (take m views)) lists
hold_at views n m all lists is same hold =
    subst (λ (l : List (List ℕ)). HoldEvents l lists) (sym (ap (λ k. map bytes_of (take k views)) same ∙ is)) hold

pub held_count : (views : List AtomView) (n : ℕ) → n ≤ length views → length (map bytes_of (take n views)) ≡ n
held_count views n le = omega (arith, length-map (take n views) bytes_of, length-take n views, le)
