-- What is left of a walk over the parts of an outer atom: of the innermost open container, and then of those around it.
use Rattle.std.proofs.Common.{◌≡◌, ◌≢◌, ℕ, zero, suc, pred, ◌-◌, ◌<◌, ◌≤◌, true, List, length, get_or, set, Option, None, Some, ◌⊎◌, inl, inr, refl, sym, subst, arith, get_or-set_other, get_or-set_same}
use Rattle.atom_core.specs.declared.fault.AtomFault.{AtomFault}
use Rattle.atom_core.specs.declared.form.Form.{Form}
use Rattle.atom_core.specs.declared.form.Form.TheVariants.{Any}
use Rattle.atom_core.specs.declared.part.Open.{Open}
use Rattle.atom_core.specs.Form.{is_container}
use Rattle.atom_core.specs.Value.{none, part}
use Rattle.atom_core.specs.Spelling.{parts_of, part_of}
use Rattle.atom_core.specs.Parts.{Judge, Inner, PartFault, PartsFault, PartsFaultBy}
use Rattle.atom_core.specs.Steps.{ArePartsThere, IsPartThere, Enters}
use Rattle.atom_core.proofs.Ranges.{nothing, behind}

-- parts stand there, or they have this fault
abbrev pub AnswerOf : ℕ → List ℕ → Form → ℕ → ℕ → Option AtomFault → Type 0
AnswerOf n bytes form from to None = ArePartsThere n bytes form from to
AnswerOf n bytes form from to (Some fault) = PartsFault n bytes form from to fault

abbrev pub no_open : Open
no_open = record { form = Any; end = 0 }

-- the container that was opened as the k-th
abbrev pub nth : List Open → ℕ → Open
nth stack k = get_or stack k no_open

-- of one container: its parts have a fault from this place on, or they stand there, and then comes the rest
abbrev pub LeftBy : (ℕ → Type 0) → ℕ → List ℕ → Open → ℕ → Option AtomFault → Type 0
LeftBy rest n bytes container at answer =
    ((fault : AtomFault) × (answer ≡ Some fault) × PartsFault n bytes container.form at container.end fault)
    ⊎ (ArePartsThere n bytes container.form at container.end × rest container.end)

-- with d containers open, from this place on
abbrev pub Left : List ℕ → List Open → ℕ → ℕ → Option AtomFault → Type 0
Left bytes stack zero at answer = answer ≡ None
Left bytes stack (suc d) at answer = LeftBy (λ to. Left bytes stack d to answer) (16 - d) bytes (nth stack d) at answer

-- the open containers lie within each other
abbrev pub Nested : List Open → ℕ → ℕ → ℕ → Type 0
Nested stack zero at most = at ≤ most
Nested stack (suc d) at most = (at ≤ (nth stack d).end) × (is_container (nth stack d).form ≡ true) × Nested stack d (nth stack d).end most

pub nested_most : (stack : List Open) (d at most : ℕ) → Nested stack d at most → at ≤ most
nested_most stack zero at most h = h
nested_most stack (suc d) at most h = omega (arith, h.0, nested_most stack d (nth stack d).end most h.2)

-- an outer container stays as it was when one further in is written
same_outer : (stack : List Open) (i d : ℕ) (x : Open) → d < i → nth (set stack i x) d ≡ nth stack d
same_outer stack i d x lt = let other : d ≢ i = omega arith in get_or-set_other stack i d x no_open other

pub left_outer : (bytes : List ℕ) (stack : List Open) (i : ℕ) (x : Open) (d at : ℕ) (answer : Option AtomFault) → d ≤ i
    → Left bytes (set stack i x) d at answer → Left bytes stack d at answer
left_outer bytes stack i x zero at answer le h = h
left_outer bytes stack i x (suc d) at answer le h =
    let P : Open → Type 0 = λ container. LeftBy (λ to. Left bytes (set stack i x) d to answer) (16 - d) bytes container at answer in
    let moved : P (nth stack d) = subst P (same_outer stack i d x le) h in
    elim moved [
      | inl fault ↦ inl fault
      | inr rest ↦ inr (rest.0, left_outer bytes stack i x d (nth stack d).end answer (omega arith) rest.1)
    ]

pub nested_outer : (stack : List Open) (i : ℕ) (x : Open) (d at most : ℕ) → d ≤ i → Nested stack d at most → Nested (set stack i x) d at most
nested_outer stack i x zero at most le h = h
nested_outer stack i x (suc d) at most le h =
    let P : Open → Type 0 = λ container. (at ≤ container.end) × (is_container container.form ≡ true) × Nested (set stack i x) d container.end most in
    subst P (sym (same_outer stack i d x le)) (h.0, h.1, nested_outer stack i x d (nth stack d).end most (omega arith) h.2)

-- a part before others
more_there : (n : ℕ) (bytes : List ℕ) (form : Form) (at next end : ℕ) → 0 < n → IsPartThere n bytes form at next → ArePartsThere n bytes form next end
    → ArePartsThere n bytes form at end
more_there n bytes form at next end deep one rest =
    (part one.0 one.1 rest.0, (deep, one.2, one.3, rest.1), behind bytes at next end (part_of one.0 one.1) (parts_of rest.0) one.4 rest.2)

more_fault_by : (inner : Judge) (n : ℕ) (bytes : List ℕ) (form : Form) (at next end : ℕ) (fault : AtomFault) → 0 < n → IsPartThere n bytes form at next
    → PartsFaultBy inner n bytes form next end fault → PartsFaultBy inner n bytes form at end fault
more_fault_by inner n bytes form at next end fault deep one rest = (
  part one.0 one.1 rest.0,
  rest.1,
  (deep, one.2, one.3, rest.2),
  behind bytes at next rest.1 (part_of one.0 one.1) (parts_of rest.0) one.4 rest.3,
  rest.4,
  rest.5,
)

more_fault : (n : ℕ) (bytes : List ℕ) (form : Form) (at next end : ℕ) (fault : AtomFault) → 0 < n → IsPartThere n bytes form at next
    → PartsFault n bytes form next end fault → PartsFault n bytes form at end fault
more_fault zero bytes form at next end fault deep one rest = absurd (omega arith)
more_fault (suc n) bytes form at next end fault deep one rest = more_fault_by (PartsFault n bytes) (suc n) bytes form at next end fault deep one rest

-- the fault of the first part
pub first_fault : (n : ℕ) (bytes : List ℕ) (form : Form) (at end : ℕ) (fault : AtomFault) → at < end → PartFault n bytes form at end fault
    → PartsFault n bytes form at end fault
first_fault zero bytes form at end fault lt h = (none, at, tt, nothing bytes at, lt, h)
first_fault (suc n) bytes form at end fault lt h = (none, at, tt, nothing bytes at, lt, h)

-- at a container's end
pub closes : (bytes : List ℕ) (stack : List Open) (d at : ℕ) (answer : Option AtomFault) → at ≡ (nth stack d).end
    → Left bytes stack d at answer → Left bytes stack (suc d) at answer
closes bytes stack d at answer e rest =
    let P : ℕ → Type 0 = λ to. ArePartsThere (16 - d) bytes (nth stack d).form at to × Left bytes stack d to answer in
    inr (subst P e ((none, tt, nothing bytes at), rest))

-- past a part that is whole
pub passes : (bytes : List ℕ) (stack : List Open) (d at next : ℕ) (answer : Option AtomFault) → 0 < 16 - d
    → IsPartThere (16 - d) bytes (nth stack d).form at next → Left bytes stack (suc d) next answer → Left bytes stack (suc d) at answer
passes bytes stack d at next answer deep one left =
    elim left [
      | inl fault ↦ inl (fault.0, fault.1, more_fault (16 - d) bytes (nth stack d).form at next (nth stack d).end fault.0 deep one fault.2)
      | inr rest ↦ inr (more_there (16 - d) bytes (nth stack d).form at next (nth stack d).end deep one rest.0, rest.1)
    ]

inner_of : (n m : ℕ) (bytes : List ℕ) (form : Form) (from end : ℕ) (fault : AtomFault) → n ≡ suc m → PartsFault m bytes form from end fault → Inner n bytes form from end fault
inner_of n m bytes form from end fault e h =
    let P : ℕ → Type 0 = λ k. Inner k bytes form from end fault in
    subst P (sym e) h

-- into a container
pub goes_in : (bytes : List ℕ) (stack : List Open) (d at first : ℕ) (x : Open) (answer : Option AtomFault) → suc d < length stack → at < (nth stack d).end
    → Enters (16 - d) bytes (nth stack d).form at (nth stack d).end x.form first x.end
    → Left bytes (set stack (suc d) x) (suc (suc d)) first answer → Left bytes stack (suc d) at answer
goes_in bytes stack d at first x answer room lt step left =
    let stack' = set stack (suc d) x in
    let P : Open → Type 0 = λ container. LeftBy (λ to. Left bytes stack' (suc d) to answer) (16 - suc d) bytes container first answer in
    let here : P x = subst P (get_or-set_same stack (suc d) x no_open room) left in
    let n : 16 - d ≡ suc (16 - suc d) = omega (arith, step.deep) in
    let m : pred (16 - d) ≡ 16 - suc d = omega (arith, step.deep) in
    elim here [
      | inl fault ↦ inl (
        fault.0,
        fault.1,
        first_fault (16 - d) bytes (nth stack d).form at (nth stack d).end fault.0 lt
            (step.fault fault.0 (inner_of (16 - d) (16 - suc d) bytes x.form first x.end fault.0 n fault.2)),
      )
      | inr rest ↦
          passes bytes stack d at x.end answer step.deep
          (step.whole (subst (λ k. ArePartsThere k bytes x.form first x.end) (sym m) rest.0))
          (left_outer bytes stack (suc d) x (suc d) x.end answer (omega arith) rest.1)
    ]

-- with no container open nothing is left
pub left_none : (bytes : List ℕ) (stack : List Open) (d at : ℕ) → d ≡ 0 → Left bytes stack d at None
left_none bytes stack zero at e = refl
left_none bytes stack (suc d) at e = absurd cc

pub nested_in : (stack : List Open) (d at first most : ℕ) (x : Open) → suc d < length stack → first ≤ x.end → x.end ≤ (nth stack d).end
    → is_container x.form ≡ true → Nested stack (suc d) at most → Nested (set stack (suc d) x) (suc (suc d)) first most
nested_in stack d at first most x room ends inside holds nested =
    let P : Open → Type 0 = λ container. (first ≤ container.end) × (is_container container.form ≡ true) × Nested (set stack (suc d) x) (suc d) container.end most in
    subst P (sym (get_or-set_same stack (suc d) x no_open room))
    (ends, holds, nested_outer stack (suc d) x (suc d) x.end most (omega arith) (inside, nested.1, nested.2))
