-- A container that is filled and closed is its atom; what stands up to a mark is what stood when it was given.
use Rattle.std.proofs.Common.{◌≡◌, ℕ, ◌+◌, ◌-◌, Bool, false, if◌then◌else◌, List, [], ◌∷◌, ◌++◌, length, take, drop, refl, sym, ap, ◌∙◌, arith, length-append, ◌<◌}
use Rattle.std.proofs.lemmas.Bool.{ne_eqb}
use Rattle.std.proofs.lemmas.List.{take-append-le, drop_at, take_all, append_assoc}
use Rattle.atom_core.specs.Value.{sequence, Parts, holding}
use Rattle.atom_core.specs.Spelling.{u32, framed, atom_of, parts_of, lead_bytes, part_of, with_padding}
use Rattle.atom_core.proofs.Numbers.{u32-length}
use Rattle.atom_forge.specs.declared.level.Holds.{Holds}
use Rattle.atom_forge.specs.declared.level.Holds.TheVariants.{Properties, Events}
use Rattle.atom_forge.specs.declared.level.Level.{Level}
use Rattle.atom_forge.specs.Forged.{Forged, opening, with_piece, with_container, begins, sized, closed, laid}
use Rattle.atom_forge.specs.Laws.{filled, ContainerIsAtom, BackIsBefore, PartIsPut}
use Rattle.atom_forge.proofs.Levels.{begins-last}

pub front : {A : Type 0} (n : ℕ) (xs ys : List A) → length xs ≡ n → take n (xs ++ ys) ≡ xs
front n xs ys e = take-append-le n xs ys (omega (arith, e)) ∙ take_all n xs (omega (arith, e))

-- a header put after some bytes gets the size of what stands after it
pub sized_is : (before body : List ℕ) (kind : ℕ) → sized (before ++ (u32 0 ++ (u32 kind ++ body))) (length before) ≡ before ++ framed kind body
sized_is before body kind =
    let rest = u32 kind ++ body in
    let all = before ++ (u32 0 ++ rest) in
    let count : length all - length before - 8 ≡ length body =
    omega (arith, length-append before (u32 0 ++ rest), length-append (u32 0) rest, length-append (u32 kind) body, u32-length 0, u32-length kind) in
    let first : take (length before) all ≡ before = front (length before) before (u32 0 ++ rest) refl in
    let four : length (before ++ u32 0) ≡ length before + 4 = omega (arith, length-append before (u32 0), u32-length 0) in
    let last : drop (length before + 4) all ≡ rest =
    ap (λ (l : List ℕ). drop (length before + 4) l) (sym (append_assoc before (u32 0) rest)) ∙ drop_at (before ++ u32 0) rest (length before + 4) four in
    ap (λ (l : List ℕ). l ++ (u32 (length all - length before - 8) ++ drop (length before + 4) all)) first
    ∙ ap (λ n. before ++ (u32 n ++ drop (length before + 4) all)) count
    ∙ ap (λ (l : List ℕ). before ++ (u32 (length body) ++ l)) last

-- the header, the two numbers and the parts, in one
regroup : (kind first second : ℕ) (parts : List ℕ) → opening kind first second ++ parts ≡ u32 0 ++ (u32 kind ++ ((u32 first ++ u32 second) ++ parts))
unfolding u32
regroup kind first second parts = refl

filled_is : (forge : Forged) (holds : Holds) (kind first second : ℕ) (parts : List ℕ)
    → closed (with_piece (with_container forge holds (opening kind first second)) parts false) ≡ with_piece forge (framed kind ((u32 first ++ u32 second) ++ parts)) false
filled_is forge holds kind first second parts =
    let level : Level = record { holds = holds; at = length forge.bytes } in
    let begun = opening kind first second in
    let body = (u32 first ++ u32 second) ++ parts in
    let place : begins (forge.levels ++ level ∷ []) ≡ length forge.bytes = begins-last forge.levels level in
    let whole : (forge.bytes ++ begun) ++ parts ≡ forge.bytes ++ (u32 0 ++ (u32 kind ++ body)) =
    append_assoc forge.bytes begun parts ∙ ap (λ (l : List ℕ). forge.bytes ++ l) (regroup kind first second parts) in
    let bytes : sized ((forge.bytes ++ begun) ++ parts) (begins (forge.levels ++ level ∷ [])) ≡ forge.bytes ++ framed kind body =
    ap (λ n. sized ((forge.bytes ++ begun) ++ parts) n) place ∙ ap (λ (l : List ℕ). sized l (length forge.bytes)) whole ∙ sized_is forge.bytes body kind in
    let count : length forge.levels ≡ length (forge.levels ++ level ∷ []) - 1 = omega (arith, length-append forge.levels (level ∷ [])) in
    let levels : take (length (forge.levels ++ level ∷ []) - 1) (forge.levels ++ level ∷ []) ≡ forge.levels =
    front (length (forge.levels ++ level ∷ []) - 1) forge.levels (level ∷ []) count in
    ap (λ (b : List ℕ). record { room = forge.room; bytes = b; levels = take (length (forge.levels ++ level ∷ []) - 1) (forge.levels ++ level ∷ []); waits = false }) bytes
    ∙ ap (λ (ls : List Level). record { room = forge.room; bytes = forge.bytes ++ framed kind body; levels = ls; waits = false }) levels

sequence_filled : (forge : Forged) (parts : Parts) → filled forge Events (opening 10 0 0) parts ≡ with_piece forge (atom_of (holding sequence parts)) false
unfolding u32
sequence_filled forge parts = filled_is forge Events 10 0 0 (parts_of parts)

pub container_is_atom : ContainerIsAtom
container_is_atom = record {
  object_is = λ forge id kind parts. filled_is forge Properties 9 id kind (parts_of parts);
  sequence_is = sequence_filled;
}

pub back_is_before : BackIsBefore
back_is_before mark forge bytes levels waits h =
    ap (λ (b : List ℕ). record { room = forge.room; bytes = b; levels = take mark.levels (forge.levels ++ levels); waits = mark.waits }) (front mark.len forge.bytes bytes (sym h.len))
    ∙ ap (λ (ls : List Level). record { room = forge.room; bytes = forge.bytes; levels = ls; waits = mark.waits }) (front mark.levels forge.levels levels (sym h.levels))
    ∙ ap (λ (w : Bool). record { room = forge.room; bytes = forge.bytes; levels = forge.levels; waits = w }) h.waits

pub inner_laid : (levels : List Level) (bytes : List ℕ) → 0 < length levels → laid levels bytes ≡ with_padding bytes
inner_laid levels bytes lt =
    ap (λ (outer : Bool). if outer then bytes else with_padding bytes) (ne_eqb (length levels) 0 (λ e. omega (arith, lt, e)))

pub part_is_put : PartIsPut
part_is_put forge lead value within =
    let bytes : (forge.bytes ++ lead_bytes lead) ++ laid forge.levels (atom_of value) ≡ forge.bytes ++ part_of lead value =
    ap (λ (l : List ℕ). (forge.bytes ++ lead_bytes lead) ++ l) (inner_laid forge.levels (atom_of value) within)
    ∙ append_assoc forge.bytes (lead_bytes lead) (with_padding (atom_of value)) in
    ap (λ (b : List ℕ). record { room = forge.room; bytes = b; levels = forge.levels; waits = false }) bytes
