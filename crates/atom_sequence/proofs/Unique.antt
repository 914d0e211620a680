-- No bytes are a sequence of two lists of events.
use Rattle.std.proofs.Common.{◌≡◌, ℕ, List, [], ◌∷◌, ◌++◌, ℤ, refl, sym, ap, ◌∙◌, subst}
use Rattle.atom_core.specs.Value.{sequence, Value, holding, Parts}
use Rattle.atom_core.proofs.OneValue.{one_atom}
use Rattle.atom_sequence.specs.Event.{Event, as_parts, SpellSequence, NeverFall}
use Rattle.atom_sequence.specs.Views.{IsInOrder}
use Rattle.atom_sequence.specs.Laws.{OneList}

parts_inner : (p q : Parts) → holding sequence p ≡ holding sequence q → p ≡ q
parts_inner p q e = cc

one_events : (a b : List Event) → as_parts a ≡ as_parts b → a ≡ b
one_events [] [] e = refl
one_events [] (f ∷ b) e = absurd cc
one_events (d ∷ a) [] e = absurd cc
one_events (d ∷ a) (f ∷ b) e =
    let time : d.time ≡ f.time = cc in
    let value : d.value ≡ f.value = cc in
    let rest : as_parts a ≡ as_parts b = cc in
    ap (λ (t : ℤ). record { time = t; value = d.value } ∷ a) time
    ∙ ap (λ (v : Value). record { time = f.time; value = v } ∷ a) value
    ∙ ap (λ (l : List Event). f ∷ l) (one_events a b rest)

pub one_list : OneList
one_list bytes a b h k =
    one_events a b (parts_inner (as_parts a) (as_parts b)
    ((one_atom 16 16 (holding sequence (as_parts a)) (holding sequence (as_parts b)) [] [] h.fits k.fits (ap (λ (l : List ℕ). l ++ []) (sym h.bytes_are ∙ k.bytes_are))).0))

-- so the times of one list tell those of all
pub in_order_by : (bytes : List ℕ) (events : List Event) → SpellSequence bytes events → NeverFall events → IsInOrder bytes
in_order_by bytes events h falls others k = subst NeverFall (one_list bytes events others h k) falls
