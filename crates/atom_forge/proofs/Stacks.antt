-- What each call makes of the containers that are open.
use Rattle.std.proofs.Common.{◌≡◌, ℕ, zero, suc, pred, ◌+◌, ◌-◌, ◌<◌, ◌≤◌, ◌^◌, ◌==◌, Bool, true, false, List, [], ◌∷◌, ◌++◌, length, take, Option, Some, None, IfSome, IsSome, is_some, ◌⊎◌, inl, inr, refl, sym, ap, ◌∙◌, subst, arith, length-append, append_assoc, replicate, MatchBool}
use Rattle.std.proofs.lemmas.Bool.{ne_eqb}
use Rattle.std.proofs.lemmas.List.{append-nil}
use Rattle.std.proofs.Math.Logic.{∥∥₁_map, ∥∥₁_elim, ∥∥₁_prop}
use Rattle.std.proofs.Math.Bridge.{le_prop}
use Rattle.atom_core.specs.declared.form.Form.{Form}
use Rattle.atom_core.specs.Form.{form_of}
use Rattle.atom_core.specs.Value.{Container, tuple, object, sequence, Lead, Value, holding, Parts, none, part}
use Rattle.atom_core.specs.Place.{padded}
use Rattle.atom_core.specs.Spelling.{u32, lead_bytes, parts_of, part_of, atom_of, with_padding, container_kind, container_head, framed, body_of}
use Rattle.atom_core.specs.Fits.{Fits, PartsFit, LeadFits, ContainerFits}
use Rattle.atom_core.specs.Answer.{IsAtom, most_containers}
use Rattle.atom_core.proofs.Numbers.{u32-length}
use Rattle.atom_core.proofs.Padding.{container_unpadded}
use Rattle.atom_forge.specs.declared.level.Holds.{Holds}
use Rattle.atom_forge.specs.declared.level.Holds.TheVariants.{Properties, Events}
use Rattle.atom_forge.specs.declared.level.Level.{Level}
use Rattle.atom_forge.specs.declared.mark.Mark.{Mark}
use Rattle.atom_forge.specs.Laws.{IsMarkOf}
use Rattle.atom_forge.specs.Opened.{Opened, OpensAs, form_in, IsOpened, AreOpened, AwaitsAtom, waits_in, waiting_bytes, beginning, opened_bytes, stack_bytes, stack_levels}
use Rattle.atom_forge.specs.Forged.{Forged, IsFinished, HasOpened, IsForged, TakesAtom, TakesLead, IsComplete, IsBodyOf, IsLead, Begins, opening, innermost, with_piece, with_container, laid, begins, sized, closed, up_to}
use Rattle.atom_forge.proofs.Levels.{begins-last, innermost-last}
use Rattle.atom_forge.proofs.Containers.{front, sized_is, inner_laid, back_is_before}

-- one part more
abbrev pub extended : Parts → Lead → Value → Parts
extended none lead value = part lead value none
extended (part l v parts) lead value = part l v (extended parts lead value)

extended_is : (parts : Parts) (lead : Lead) (value : Value) → parts_of (extended parts lead value) ≡ parts_of parts ++ part_of lead value
extended_is none lead value = append-nil (part_of lead value)
extended_is (part l v parts) lead value =
    ap (λ (b : List ℕ). part_of l v ++ b) (extended_is parts lead value) ∙ sym (append_assoc (part_of l v) (parts_of parts) (part_of lead value))

extended_fits : (n : ℕ) (form : Form) (parts : Parts) (lead : Lead) (value : Value) → PartsFit n form parts → 0 < n → LeadFits form lead → Fits (pred n) value
    → PartsFit n form (extended parts lead value)
extended_fits n form none lead value fits some l v = (some, l, v, tt)
extended_fits n form (part m w parts) lead value fits some l v = (fits.0, fits.1, fits.2, extended_fits n form parts lead value fits.3 some l v)

awaited : (waiting : Option Lead) → IsSome waiting → (lead : Lead) × (waiting ≡ Some lead)
awaited None is = absurd cc
awaited (Some lead) is = (lead, refl)

nothing_waits : (waiting : Option Lead) → is_some waiting ≡ false → waiting ≡ None
nothing_waits None is = refl
nothing_waits (Some lead) is = absurd cc

one_less : (k : ℕ) → k - 1 ≡ pred k
one_less zero = refl
one_less (suc k) = omega arith

pred_is : (m n : ℕ) → m - suc n ≡ pred (m - n)
pred_is m n = let less : m - suc n ≡ (m - n) - 1 = omega arith in less ∙ one_less (m - n)

stack-length : (stack : List Opened) → length (stack_levels stack) ≡ length stack
stack-length [] = refl
stack-length (o ∷ outer) =
    omega (arith, length-append (stack_levels outer) (record { holds = o.holds; at = length (stack_bytes outer) } ∷ []), stack-length outer)

-- a container whose waiting part has its atom
abbrev grown : Opened → Lead → Value → Opened
grown o lead value = record { holds = o.holds; container = o.container; parts = extended o.parts lead value; waiting = None }

-- its bytes are those before it, and then the padded atom
grown_bytes : (outer : List ℕ) (o : Opened) (lead : Lead) (value : Value) → o.waiting ≡ Some lead
    → (outer ++ opened_bytes o) ++ with_padding (atom_of value) ≡ outer ++ opened_bytes (grown o lead value)
grown_bytes outer o lead value waits =
    let begun = beginning o.container in
    let parts = parts_of o.parts in
    let first = lead_bytes lead in
    let atom = with_padding (atom_of value) in
    let inner : (parts ++ first) ++ atom ≡ parts_of (extended o.parts lead value) ++ [] =
    append_assoc parts first atom ∙ sym (extended_is o.parts lead value) ∙ sym (append-nil (parts_of (extended o.parts lead value))) in
    ap (λ (w : Option Lead). (outer ++ (begun ++ (parts ++ waiting_bytes w))) ++ atom) waits
    ∙ append_assoc outer (begun ++ (parts ++ first)) atom
    ∙ ap (λ (b : List ℕ). outer ++ b) (append_assoc begun (parts ++ first) atom)
    ∙ ap (λ (b : List ℕ). outer ++ (begun ++ b)) inner

grown_are : (o : Opened) (outer : List Opened) (lead : Lead) (value : Value) → AreOpened (o ∷ outer) → length outer < most_containers → o.waiting ≡ Some lead
    → Fits (most_containers - suc (length outer)) value → AreOpened (grown o lead value ∷ outer)
grown_are o outer lead value are less waits fits =
    let n = most_containers - length outer in
    let form = form_in o.holds in
    let l : LeadFits form lead = subst (λ (w : Option Lead). IfSome w (LeadFits form)) waits are.1.waiting in
    let v : Fits (pred n) value = subst (λ k. Fits k value) (pred_is most_containers (length outer)) fits in
    (are.0, record { opens = are.1.opens; parts = extended_fits n form o.parts lead value are.1.parts (omega (arith, less)) l v; waiting = tt }, are.2, are.3)

-- an atom in the innermost container
atom_within : (old : Forged) (stack : List Opened) (value : Value) → HasOpened old stack → 0 < length old.levels → old.waits ≡ true → length old.levels ≤ 16
    → Fits (most_containers - length old.levels) value → (new : List Opened) × HasOpened (with_piece old (with_padding (atom_of value)) false) new
atom_within old [] value has some waits few fits = absurd (omega (arith, some, ap length has.levels))
atom_within old (o ∷ outer) value has some waits few fits =
    let lead = awaited o.waiting (sym has.waits ∙ waits) in
    let count : length old.levels ≡ suc (length outer) = ap length has.levels ∙ stack-length (o ∷ outer) in (
      grown o lead.0 value ∷ outer,
      record {
        are = grown_are o outer lead.0 value has.are (omega (arith, few, count)) lead.1 (subst (λ n. Fits (most_containers - n) value) count fits);
        bytes = ap (λ (b : List ℕ). b ++ with_padding (atom_of value)) has.bytes ∙ grown_bytes (stack_bytes outer) o lead.0 value lead.1;
        levels = has.levels;
        waits = refl;
      },
    )

pub empty_forged : (room : ℕ) → IsForged (record { room = room; bytes = []; levels = []; waits = false })
empty_forged room = ∣ inr ([], record { are = tt; bytes = refl; levels = refl; waits = refl }) ∣₁

inner_takes : (old : Forged) → 0 < length old.levels → TakesAtom old → (old.waits ≡ true) × (length old.levels ≤ 16)
inner_takes old some takes =
    subst (λ (b : Bool). MatchBool b (old.bytes ≡ []) ((old.waits ≡ true) × (length old.levels ≤ 16))) (ne_eqb (length old.levels) 0 (λ e. omega (arith, some, e))) takes

-- an atom, the only one or in the innermost container
atom_put : (room : ℕ) (bytes : List ℕ) (levels : List Level) (waits : Bool) (value : Value)
    → TakesAtom (record { room = room; bytes = bytes; levels = levels; waits = waits }) → Fits (most_containers - length levels) value
    → IsForged (record { room = room; bytes = bytes; levels = levels; waits = waits })
    → IsForged (record { room = room; bytes = bytes ++ laid levels (atom_of value); levels = levels; waits = false })
atom_put room bytes [] waits value takes fits is =
    ∣ inl (record { levels = refl; waits = refl; atom = (value, record { fits = fits; bytes_are = ap (λ (b : List ℕ). b ++ atom_of value) takes }) }) ∣₁
atom_put room bytes (l ∷ levels) waits value takes fits is =
    let old : Forged = record { room = room; bytes = bytes; levels = l ∷ levels; waits = waits } in
    ∥∥₁_map is (λ either. elim either [
      | inl whole ↦ absurd (omega (arith, ap length whole.levels))
      | inr x ↦
          let t = inner_takes old (omega arith) takes in
          let padding : laid (l ∷ levels) (atom_of value) ≡ with_padding (atom_of value) = inner_laid (l ∷ levels) (atom_of value) (omega arith) in
          inr (subst (λ (b : List ℕ). (new : List Opened) × HasOpened (with_piece old b false) new) (sym padding) (atom_within old x.0 value x.1 (omega arith) t.0 t.1 fits))
    ])

pub atom_forged : (old : Forged) (kind : ℕ) (body : List ℕ) → TakesAtom old → IsBodyOf (most_containers - length old.levels) kind body → IsForged old
    → IsForged (with_piece old (laid old.levels (framed kind body)) false)
atom_forged old kind body takes is forged =
    ∥∥₁_elim is ∥∥₁_prop (λ v.
    subst (λ (text : List ℕ). IsForged (with_piece old (laid old.levels text) false)) (ap (λ n. framed n (body_of v.0)) v.1 ∙ ap (framed kind) v.2)
    (atom_put old.room old.bytes old.levels old.waits v.0 takes v.3 forged))

-- a container that has nothing yet
abbrev fresh : Holds → Container → Opened
fresh holds container = record { holds = holds; container = container; parts = none; waiting = None }

opened_with : (old : Forged) (holds : Holds) (container : Container) (stack : List Opened) → HasOpened old stack → OpensAs holds container
    → length stack ≤ most_containers → AwaitsAtom stack → HasOpened (with_container old holds (beginning container)) (fresh holds container ∷ stack)
opened_with old holds container stack has opens few awaits = record {
  are = (few, record { opens = opens; parts = tt; waiting = tt }, awaits, has.are);
  bytes = ap (λ (b : List ℕ). b ++ beginning container) has.bytes ∙ ap (λ (b : List ℕ). stack_bytes stack ++ b) (sym (append-nil (beginning container)));
  levels = ap (λ (ls : List Level). ls ++ record { holds = holds; at = length old.bytes } ∷ []) has.levels
      ∙ ap (λ (b : List ℕ). stack_levels stack ++ record { holds = holds; at = length b } ∷ []) has.bytes;
  waits = refl;
}

await_in : (stack : List Opened) → waits_in stack ≡ true → AwaitsAtom stack
await_in [] waits = tt
await_in (o ∷ outer) waits = waits

container_put : (room : ℕ) (bytes : List ℕ) (levels : List Level) (waits : Bool) (holds : Holds) (container : Container)
    → TakesAtom (record { room = room; bytes = bytes; levels = levels; waits = waits }) → OpensAs holds container
    → IsForged (record { room = room; bytes = bytes; levels = levels; waits = waits })
    → IsForged (with_container (record { room = room; bytes = bytes; levels = levels; waits = waits }) holds (beginning container))
container_put room bytes [] waits holds container takes opens is =
    let old : Forged = record { room = room; bytes = bytes; levels = []; waits = false } in
    ∣ inr (fresh holds container ∷ [], opened_with old holds container [] (record { are = tt; bytes = takes; levels = refl; waits = refl }) opens (omega arith) tt) ∣₁
container_put room bytes (l ∷ levels) waits holds container takes opens is =
    let old : Forged = record { room = room; bytes = bytes; levels = l ∷ levels; waits = waits } in
    ∥∥₁_map is (λ either. elim either [
      | inl whole ↦ absurd (omega (arith, ap length whole.levels))
      | inr x ↦
          let t = inner_takes old (omega arith) takes in
          let count : length (l ∷ levels) ≡ length x.0 = ap length x.1.levels ∙ stack-length x.0 in
          inr (fresh holds container ∷ x.0, opened_with old holds container x.0 x.1 opens (omega (arith, t.1, count)) (await_in x.0 (sym x.1.waits ∙ t.0)))
    ])

pub container_forged : (old : Forged) (holds : Holds) (container : Container) → TakesAtom old → OpensAs holds container → IsForged old
    → IsForged (with_container old holds (beginning container))
container_forged old holds container takes opens forged = container_put old.room old.bytes old.levels old.waits holds container takes opens forged

form_is : (holds : Holds) (container : Container) → OpensAs holds container → form_of (container_kind container) ≡ form_in holds
unfolding form_of
form_is Properties tuple opens = absurd opens
form_is Properties (object id kind) opens = refl
form_is Properties sequence opens = absurd opens
form_is Events tuple opens = absurd opens
form_is Events (object id kind) opens = absurd opens
form_is Events sequence opens = refl

-- a container in which a key or a time waits
abbrev waiting_in : Opened → Lead → Opened
waiting_in o lead = record { holds = o.holds; container = o.container; parts = o.parts; waiting = Some lead }

lead_within : (old : Forged) (holds : Holds) (stack : List Opened) (lead : Lead) → HasOpened old stack → TakesLead old holds → LeadFits (form_in holds) lead
    → (new : List Opened) × HasOpened (with_piece old (lead_bytes lead) true) new
lead_within old holds [] lead has takes fits = let no : innermost [] ≡ Some holds = ap innermost (sym has.levels) ∙ takes.0 in absurd cc
lead_within old holds (o ∷ outer) lead has takes fits =
    let none = nothing_waits o.waiting (sym has.waits ∙ takes.1) in
    let last : Some o.holds ≡ Some holds =
    sym (innermost-last (stack_levels outer) (record { holds = o.holds; at = length (stack_bytes outer) })) ∙ ap innermost (sym has.levels) ∙ takes.0 in
    let same : holds ≡ o.holds = cc in
    let begun = beginning o.container in
    let parts = parts_of o.parts in
    let bytes : (stack_bytes outer ++ opened_bytes o) ++ lead_bytes lead ≡ stack_bytes outer ++ opened_bytes (waiting_in o lead) =
    ap (λ (w : Option Lead). (stack_bytes outer ++ (begun ++ (parts ++ waiting_bytes w))) ++ lead_bytes lead) none
    ∙ ap (λ (b : List ℕ). (stack_bytes outer ++ (begun ++ b)) ++ lead_bytes lead) (append-nil parts)
    ∙ append_assoc (stack_bytes outer) (begun ++ parts) (lead_bytes lead)
    ∙ ap (λ (b : List ℕ). stack_bytes outer ++ b) (append_assoc begun parts (lead_bytes lead)) in (
      waiting_in o lead ∷ outer,
      record {
        are = (has.are.0, record { opens = has.are.1.opens; parts = has.are.1.parts; waiting = subst (λ h. LeadFits (form_in h) lead) same fits }, has.are.2, has.are.3);
        bytes = ap (λ (b : List ℕ). b ++ lead_bytes lead) has.bytes ∙ bytes;
        levels = has.levels;
        waits = refl;
      },
    )

pub lead_forged : (old : Forged) (holds : Holds) (lead : Lead) → TakesLead old holds → LeadFits (form_in holds) lead → IsForged old
    → IsForged (with_piece old (lead_bytes lead) true)
lead_forged old holds lead takes fits forged =
    ∥∥₁_map forged (λ either. elim either [
      | inl whole ↦ let no : innermost [] ≡ Some holds = ap innermost (sym whole.levels) ∙ takes.0 in absurd cc
      | inr x ↦ inr (lead_within old holds x.0 lead x.1 takes fits)
    ])

-- one atom that is finished, or none, where no container is open
pub finished_is_atom : (forge : Forged) → forge.levels ≡ [] → 0 < length forge.bytes → IsForged forge → ∥ IsAtom forge.bytes ∥₁
finished_is_atom forge closed some forged =
    ∥∥₁_map forged (λ either. elim either [
      | inl whole ↦ whole.atom
      | inr x ↦ nothing x.0 x.1
    ])
  where
    nothing : (stack : List Opened) → HasOpened forge stack → IsAtom forge.bytes
    nothing [] has = absurd (omega (arith, some, ap length has.bytes))
    nothing (o ∷ outer) has = absurd (omega (arith, stack-length (o ∷ outer), ap length (sym has.levels ∙ closed)))

beginning-length : (o : Opened) (outer : List ℕ) → OpensAs o.holds o.container → length outer + 16 ≤ length (outer ++ opened_bytes o)
beginning-length o outer opens =
    let rest = parts_of o.parts ++ waiting_bytes o.waiting in
    let head = container_head o.container in
    let kind = u32 (container_kind o.container) in
    omega (
      arith,
      length-append outer (beginning o.container ++ rest),
      length-append (beginning o.container) rest,
      length-append (u32 0) (kind ++ head),
      length-append kind head,
      u32-length 0,
      u32-length (container_kind o.container),
      head-length o.holds o.container opens,
    )
  where
    head-length : (holds : Holds) (container : Container) → OpensAs holds container → length (container_head container) ≡ 8
    head-length Properties tuple opens = absurd opens
    head-length Properties (object id kind) opens = omega (arith, length-append (u32 id) (u32 kind), u32-length id, u32-length kind)
    head-length Properties sequence opens = absurd opens
    head-length Events tuple opens = absurd opens
    head-length Events (object id kind) opens = absurd opens
    head-length Events sequence opens = refl

-- the body of a container is no longer than all that is written
sized-length : (outer : List ℕ) (o : Opened) → o.waiting ≡ None → length (body_of (holding o.container o.parts)) ≤ length (outer ++ opened_bytes o)
sized-length outer o nothing =
    let rest = parts_of o.parts ++ waiting_bytes o.waiting in
    let head = container_head o.container in
    let kind = u32 (container_kind o.container) in
    omega (
      arith,
      length-append outer (beginning o.container ++ rest),
      length-append (beginning o.container) rest,
      length-append (u32 0) (kind ++ head),
      length-append kind head,
      length-append (parts_of o.parts) (waiting_bytes o.waiting),
      length-append head (parts_of o.parts),
    )

fits_whole : (n : ℕ) (o : Opened) → IsOpened n o → length (body_of (holding o.container o.parts)) < 2 ^ 32 → Fits n (holding o.container o.parts)
fits_whole n o is small = (container_fits o.holds o.container is.opens, small, subst (λ f. PartsFit n f o.parts) (sym (form_is o.holds o.container is.opens)) is.parts)
  where
    container_fits : (holds : Holds) (container : Container) → OpensAs holds container → ContainerFits container
    container_fits holds tuple opens = tt
    container_fits Properties (object id kind) opens = opens
    container_fits Events (object id kind) opens = absurd opens
    container_fits holds sequence opens = tt

-- the bytes of containers with the size of the innermost one, which is finished, are those of the others and its atom
sized_stack : (outer : List ℕ) (o : Opened) → o.waiting ≡ None
    → sized (outer ++ opened_bytes o) (length outer) ≡ outer ++ atom_of (holding o.container o.parts)
sized_stack outer o nothing =
    let kind = u32 (container_kind o.container) in
    let head = container_head o.container in
    let parts = parts_of o.parts in
    let body : (u32 0 ++ (kind ++ head)) ++ (parts ++ waiting_bytes o.waiting) ≡ u32 0 ++ (kind ++ (head ++ parts)) =
    ap (λ (w : Option Lead). (u32 0 ++ (kind ++ head)) ++ (parts ++ waiting_bytes w)) nothing
    ∙ ap (λ (b : List ℕ). (u32 0 ++ (kind ++ head)) ++ b) (append-nil parts)
    ∙ append_assoc (u32 0) (kind ++ head) parts
    ∙ ap (λ (b : List ℕ). u32 0 ++ b) (append_assoc kind head parts) in
    ap (λ (b : List ℕ). sized (outer ++ b) (length outer)) body ∙ sized_is outer (head ++ parts) (container_kind o.container)

-- which needs no padding
unpadded : (o : Opened) → with_padding (atom_of (holding o.container o.parts)) ≡ atom_of (holding o.container o.parts)
unpadded o =
    let atom = atom_of (holding o.container o.parts) in
    let nothing : padded (length atom) - length atom ≡ 0 = omega (arith, container_unpadded o.container o.parts (container_kind o.container)) in
    ap (λ n. atom ++ replicate n 0) nothing ∙ append-nil atom

popped : (old : Forged) (stack : List Opened) → HasOpened old stack → IsComplete old → length old.bytes < 2 ^ 32
    → IsFinished (closed old) ⊎ ((new : List Opened) × HasOpened (closed old) new)
popped old [] has complete small = absurd (omega (arith, complete.0, ap length has.levels))
popped old (o ∷ []) has complete small =
    let none = nothing_waits o.waiting (sym has.waits ∙ complete.1) in
    let place : begins old.levels ≡ 0 = ap begins has.levels in
    let bytes : sized old.bytes (begins old.levels) ≡ atom_of (holding o.container o.parts) =
    ap (λ n. sized old.bytes n) place ∙ ap (λ (b : List ℕ). sized b 0) has.bytes ∙ sized_stack [] o none in
    let body : length (body_of (holding o.container o.parts)) < 2 ^ 32 = omega (arith, small, sized-length [] o none, ap length has.bytes) in
    inl (record {
      levels = ap (λ (ls : List Level). take (length ls - 1) ls) has.levels;
      waits = refl;
      atom = (holding o.container o.parts, record { fits = fits_whole 16 o has.are.1 body; bytes_are = bytes });
    })
popped old (o ∷ (p ∷ outer)) has complete small =
    let none = nothing_waits o.waiting (sym has.waits ∙ complete.1) in
    let others = stack_bytes (p ∷ outer) in
    let level : Level = record { holds = o.holds; at = length others } in
    let rest = stack_levels (p ∷ outer) in
    let place : begins old.levels ≡ length others = ap begins has.levels ∙ begins-last rest level in
    let value = holding o.container o.parts in
    let lead = awaited p.waiting has.are.2 in
    let bytes : sized old.bytes (begins old.levels) ≡ stack_bytes outer ++ opened_bytes (grown p lead.0 value) =
    ap (λ n. sized old.bytes n) place ∙ ap (λ (b : List ℕ). sized b (length others)) has.bytes ∙ sized_stack others o none
    ∙ ap (λ (b : List ℕ). others ++ b) (sym (unpadded o)) ∙ grown_bytes (stack_bytes outer) p lead.0 value lead.1 in
    let body : length (body_of value) < 2 ^ 32 = omega (arith, small, sized-length others o none, ap length has.bytes) in
    let count : length (rest ++ level ∷ []) - 1 ≡ length rest = omega (arith, length-append rest (level ∷ [])) in
    inr (
      grown p lead.0 value ∷ outer,
      record {
        are = grown_are p outer lead.0 value has.are.3 (omega (arith, has.are.0)) lead.1 (fits_whole (most_containers - suc (length outer)) o has.are.1 body);
        bytes = bytes;
        levels = ap (λ (ls : List Level). take (length ls - 1) ls) has.levels ∙ front (length (rest ++ level ∷ []) - 1) rest (level ∷ []) (sym count);
        waits = refl;
      },
    )

-- the innermost container is closed
pub pop_forged : (old : Forged) → IsComplete old → length old.bytes < 2 ^ 32 → IsForged old → IsForged (closed old)
pop_forged old complete small forged =
    ∥∥₁_map forged (λ either. elim either [
      | inl whole ↦ absurd (omega (arith, complete.0, ap length whole.levels))
      | inr x ↦ popped old x.0 x.1 complete small
    ])

-- the header of the innermost container is there
pub header_there : (old : Forged) (rest : List Level) (l : Level) → old.levels ≡ rest ++ l ∷ [] → IsForged old → l.at + 16 ≤ length old.bytes
header_there old rest l split forged =
    ∥∥₁_elim forged le_prop (λ either. elim either [
      | inl whole ↦ absurd (omega (arith, some, ap length whole.levels))
      | inr x ↦ there x.0 x.1
    ])
  where
    some : 0 < length old.levels
    some = omega (arith, ap length split, length-append rest (l ∷ []))

    there : (stack : List Opened) → HasOpened old stack → l.at + 16 ≤ length old.bytes
    there [] has = absurd (omega (arith, some, ap length has.levels))
    there (o ∷ outer) has =
        let level : Level = record { holds = o.holds; at = length (stack_bytes outer) } in
        omega (
          arith,
          ap begins split,
          begins-last rest l,
          ap begins has.levels,
          begins-last (stack_levels outer) level,
          ap length has.bytes,
          beginning-length o (stack_bytes outer) has.are.1.opens,
        )

-- a key or a time in the innermost container
pub lead_put : (old : Forged) (bytes : List ℕ) → IsLead old bytes → IsForged old → IsForged (with_piece old bytes true)
lead_put old bytes is forged =
    subst (λ (b : List ℕ). IsForged (with_piece old b true)) (sym is.4) (lead_forged old is.0 is.1 is.2 is.3 forged)

-- the beginning of a container
pub container_begun : (old : Forged) (holds : Holds) (bytes : List ℕ) → TakesAtom old → Begins holds bytes → IsForged old → IsForged (with_container old holds bytes)
container_begun old holds bytes takes is forged =
    subst (λ (b : List ℕ). IsForged (with_container old holds b)) (sym is.2) (container_forged old holds is.0 takes is.1 forged)

-- an object and a sequence
pub object_begins : (id kind : ℕ) → id < 2 ^ 32 → kind < 2 ^ 32 → Begins Properties (opening 9 id kind)
object_begins id kind i k = (object id kind, (i, k), refl)

pub sequence_begins : Begins Events (opening 10 0 0)
unfolding u32
sequence_begins = (sequence, tt, refl)

few_here : (bytes : List ℕ) (levels : List Level) (waits : Bool)
    → MatchBool (length levels == 0) (bytes ≡ []) ((waits ≡ true) × (length levels ≤ 16)) → length levels < 17
few_here bytes [] waits takes = omega arith
few_here bytes (l ∷ levels) waits takes =
    let inner : (waits ≡ true) × (length (l ∷ levels) ≤ 16) =
    subst (λ (b : Bool). MatchBool b (bytes ≡ []) ((waits ≡ true) × (length (l ∷ levels) ≤ 16))) (ne_eqb (length (l ∷ levels)) 0 (λ e. omega (arith, e))) takes in
    omega (arith, inner.1)

-- one container more may be opened
pub few_levels : (old : Forged) (count : ℕ) → count ≡ length old.levels → TakesAtom old → count < 17
few_levels old count is takes = omega (arith, is, few_here old.bytes old.levels old.waits takes)

-- what was put after what a forge held
pub record Extends (old new : Forged) : Type 0 where
  pub bytes : List ℕ
  pub levels : List Level
  pub is : new ≡ record { room = old.room; bytes = old.bytes ++ bytes; levels = old.levels ++ levels; waits = new.waits }

pub extends_itself : (old new : Forged) → new ≡ old → Extends old new
extends_itself old new same = record {
  bytes = [];
  levels = [];
  is = same
      ∙ ap (λ (b : List ℕ). record { room = old.room; bytes = b; levels = old.levels; waits = old.waits }) (sym (append-nil old.bytes))
      ∙ ap (λ (ls : List Level). record { room = old.room; bytes = old.bytes ++ []; levels = ls; waits = old.waits }) (sym (append-nil old.levels))
      ∙ ap (λ (f : Forged). record { room = old.room; bytes = old.bytes ++ []; levels = old.levels ++ []; waits = f.waits }) (sym same);
}

pub extends_piece : (old now new : Forged) (piece : List ℕ) (waits : Bool) → Extends old now → new ≡ with_piece now piece waits → Extends old new
extends_piece old now new piece waits e put = record {
  bytes = e.bytes ++ piece;
  levels = e.levels;
  is = put
      ∙ ap (λ (f : Forged). with_piece f piece waits) e.is
      ∙ ap (λ (b : List ℕ). record { room = old.room; bytes = b; levels = old.levels ++ e.levels; waits = waits }) (append_assoc old.bytes e.bytes piece)
      ∙ ap (λ (w : Bool). record { room = old.room; bytes = old.bytes ++ (e.bytes ++ piece); levels = old.levels ++ e.levels; waits = w }) (sym (ap (λ (f : Forged). f.waits) put));
}

pub extends_container : (old now new : Forged) (holds : Holds) (piece : List ℕ) → Extends old now → new ≡ with_container now holds piece → Extends old new
extends_container old now new holds piece e put =
    let level : Level = record { holds = holds; at = length now.bytes } in
    record {
      bytes = e.bytes ++ piece;
      levels = e.levels ++ level ∷ [];
      is = put
          ∙ ap (λ (f : Forged). record { room = f.room; bytes = f.bytes ++ piece; levels = f.levels ++ level ∷ []; waits = false }) e.is
          ∙ ap (λ (b : List ℕ). record { room = old.room; bytes = b; levels = (old.levels ++ e.levels) ++ level ∷ []; waits = false }) (append_assoc old.bytes e.bytes piece)
          ∙ ap (λ (ls : List Level). record { room = old.room; bytes = old.bytes ++ (e.bytes ++ piece); levels = ls; waits = false }) (append_assoc old.levels e.levels (level ∷ []))
          ∙ ap (λ (w : Bool). record { room = old.room; bytes = old.bytes ++ (e.bytes ++ piece); levels = old.levels ++ (e.levels ++ level ∷ []); waits = w }) (sym (ap (λ (f : Forged). f.waits) put));
    }

-- what stood at a mark is whole, whatever was put since
pub back_forged : (mark : Mark) (old new : Forged) → IsMarkOf mark old → IsForged old → Extends old new → IsForged (up_to mark new)
back_forged mark old new is forged e = subst IsForged (sym (ap (up_to mark) e.is ∙ back_is_before mark old e.bytes e.levels new.waits is)) forged
