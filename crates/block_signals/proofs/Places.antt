-- The places of outputs: different for different ports, and within the list of their kind.
use Rattle.std.proofs.Common.{◌≡◌, ℕ, zero, suc, ◌+◌, ◌-◌, ◌<◌, ◌≤◌, Bool, true, false, not, ◌&&◌, cond, List, [], ◌∷◌, length, get_or, filter, take, Option, Some, None, slice_get, refl, sym, ap, subst, ◌∙◌, ◌⊎◌, inl, inr, arith}
use Rattle.std.specs.Prelude.{slice_index}
use Rattle.std.proofs.lemmas.Bool.{false≢true, cases_lt}
use Rattle.std.proofs.lemmas.List.{get_or-map, take_all}
use Rattle.std.proofs.lemmas.List.Filters.{length-filter_more}
use Rattle.std.proofs.lemmas.Option.{none-some, same_Some, get_or_from_slice_get, slice_get_within}
use Rattle.plugin_decl.specs.declared.declaration.Port.{Port}
use Rattle.plugin_decl.specs.declared.declaration.PortKind.{PortKind}
use Rattle.plugin_decl.specs.declared.declaration.PortKind.TheVariants.{Audio, Cv, Control, Atom, Unsupported}
use Rattle.plug_api.specs.Roles.{is_sound, is_control, is_atom, port_is, has, AreNumbered}
use Rattle.plug_api.specs.Signal.{sound}
use Rattle.plug_api.specs.Sound.{silence}
use Rattle.session_play.specs.Signals.{quiet}
use Rattle.block_signals.specs.Places.{beside, is_output_of, outputs_among, place_in, places_of}

-- ---- how many of the first items pass a test

abbrev pub count_in : {X : Type 0} → (X → Bool) → List X → ℕ → ℕ
count_in p xs i = length (filter p (take i xs))

one_or_none : (b : Bool) → 0 ≤ cond b 1 0
one_or_none true = omega arith
one_or_none false = omega arith

count_steps : {X : Type 0} → (p : X → Bool) (xs : List X) (i k : ℕ) (d : X) → i + k ≤ length xs → count_in p xs i ≤ count_in p xs (i + k)
count_steps p xs i zero d h = let same : i + zero ≡ i = omega arith in rw same (omega arith)
count_steps p xs i (suc k) d h =
    let rest : count_in p xs i ≤ count_in p xs (i + k) = count_steps p xs i k d (omega arith) in
    let more : count_in p xs (i + k + 1) ≡ count_in p xs (i + k) + cond (p (get_or xs (i + k) d)) 1 0 = length-filter_more p xs (i + k) d (omega arith) in
    let same : i + suc k ≡ i + k + 1 = omega arith in
    rw same (omega (arith, rest, more, one_or_none (p (get_or xs (i + k) d))))

-- an item that passes is counted after it, and not before
pub count_grows : {X : Type 0} → (p : X → Bool) (xs : List X) (i j : ℕ) (x : X) → slice_get xs i ≡ Some x → p x ≡ true → i < j → j ≤ length xs
    → count_in p xs i < count_in p xs j
count_grows p xs i j x here passes lower within =
    let at : get_or xs i x ≡ x = get_or_from_slice_get xs i x x here in
    let more : count_in p xs (i + 1) ≡ count_in p xs i + cond (p (get_or xs i x)) 1 0 = length-filter_more p xs i x (omega arith) in
    let one : ◌≡◌ {A = ℕ} (cond (p (get_or xs i x)) 1 0) 1 = ap (λ it. cond (p it) 1 0) at ∙ ap (λ (b : Bool). cond b 1 0) passes in
    let same : i + 1 + (j - (i + 1)) ≡ j = omega arith in
    let rest : count_in p xs (i + 1) ≤ count_in p xs j = subst (λ (n : ℕ). count_in p xs (i + 1) ≤ count_in p xs n) same (count_steps p xs (i + 1) (j - (i + 1)) x (omega arith)) in
    omega (arith, more, one, rest)

-- so two of them that are counted alike are one
pub count_apart : {X : Type 0} → (p : X → Bool) (xs : List X) (i j : ℕ) (x y : X) → slice_get xs i ≡ Some x → slice_get xs j ≡ Some y → p x ≡ true → p y ≡ true
    → count_in p xs i ≡ count_in p xs j → i ≡ j
count_apart p xs i j x y at_i at_j here there same = by (cases_lt i j) (cases_lt j i)
  where
    by : (i < j) ⊎ (j ≤ i) → (j < i) ⊎ (i ≤ j) → i ≡ j
    by (inl h) other = absurd (omega (arith, same, count_grows p xs i j x at_i here h (omega (arith, slice_get_within xs j y at_j))))
    by (inr h) (inl k) = absurd (omega (arith, same, count_grows p xs j i y at_j there k (omega (arith, slice_get_within xs i x at_i))))
    by (inr h) (inr k) = omega (arith, h, k)

-- and those before an item that passes are fewer than all
pub count_within : {X : Type 0} → (p : X → Bool) (xs : List X) (i : ℕ) (x : X) → slice_get xs i ≡ Some x → p x ≡ true → count_in p xs i < length (filter p xs)
count_within p xs i x here passes =
    let all : take (length xs) xs ≡ xs = take_all (length xs) xs (omega arith) in
    subst (λ (ys : List _). count_in p xs i < length (filter p ys)) all
    (count_grows p xs i (length xs) x here passes (slice_get_within xs i x here) (omega arith))

-- the item stands there among those that pass
pub counted_at : {X : Type 0} → (p : X → Bool) (xs : List X) (i : ℕ) (x d : X) → slice_get xs i ≡ Some x → p x ≡ true
    → get_or (filter p xs) (count_in p xs i) d ≡ x
counted_at p [] i x d here passes = absurd (none-some x here)
counted_at p (y ∷ xs) zero x d here passes =
    let same : y ≡ x = same_Some y x here in
    let first : p y ≡ true = ap p same ∙ passes in rw first same
counted_at p (y ∷ xs) (suc i) x d here passes = by (p y) refl (counted_at p xs i x d here passes)
  where
    by : (b : Bool) → p y ≡ b → get_or (filter p xs) (count_in p xs i) d ≡ x → get_or (filter p (y ∷ xs)) (count_in p (y ∷ xs) (suc i)) d ≡ x
    by true e rest = rw e rest
    by false e rest = rw e rest

-- ---- the places of ports

-- the port that stands where there is one of a kind
pub port_of : (kind : PortKind → Bool) (ports : List Port) (i : ℕ) → has kind false ports i ≡ true
    → (port : Port) × (slice_get ports i ≡ Some port) × (is_output_of kind port ≡ true)
port_of kind ports i h = by (slice_get ports i) refl
  where
    by : (found : Option Port) → slice_get ports i ≡ found → (port : Port) × (slice_get ports i ≡ Some port) × (is_output_of kind port ≡ true)
    by None e = absurd (false≢true (sym (ap (port_is kind false) e) ∙ h))
    by (Some port) e = (port, e, sym (ap (port_is kind false) e) ∙ h)

-- in which list a port of a kind stands
pub sound_beside : (kind : PortKind) → is_sound kind ≡ true → beside kind ≡ is_sound
sound_beside Audio h = refl
sound_beside Cv h = refl
sound_beside Control h = absurd (false≢true h)
sound_beside Atom h = absurd (false≢true h)
sound_beside Unsupported h = absurd (false≢true h)

control_beside : (kind : PortKind) → is_control kind ≡ true → beside kind ≡ is_control
control_beside Control h = refl
control_beside Audio h = absurd (false≢true h)
control_beside Cv h = absurd (false≢true h)
control_beside Atom h = absurd (false≢true h)
control_beside Unsupported h = absurd (false≢true h)

atom_beside : (kind : PortKind) → is_atom kind ≡ true → beside kind ≡ is_atom
atom_beside Atom h = refl
atom_beside Audio h = absurd (false≢true h)
atom_beside Cv h = absurd (false≢true h)
atom_beside Control h = absurd (false≢true h)
atom_beside Unsupported h = absurd (false≢true h)

-- kinds that have a list of their own
pub record IsList (kind : PortKind → Bool) : Type 0 where
  pub own : (other : PortKind) → kind other ≡ true → beside other ≡ kind

pub sounds : IsList is_sound
sounds = record { own = sound_beside }

pub controls : IsList is_control
controls = record { own = control_beside }

pub atoms : IsList is_atom
atoms = record { own = atom_beside }

pub own_kind : (side own : Bool) → (not side && own) ≡ true → own ≡ true
own_kind false own h = h
own_kind true own h = absurd (false≢true h)

-- before a run an output of sound is silent
pub quiet_sound : (frames : ℕ) (kind : PortKind) → is_sound kind ≡ true → quiet frames kind ≡ sound (silence frames)
quiet_sound frames Audio h = refl
quiet_sound frames Cv h = refl
quiet_sound frames Control h = absurd (false≢true h)
quiet_sound frames Atom h = absurd (false≢true h)
quiet_sound frames Unsupported h = absurd (false≢true h)

-- as many outputs of its kinds stand before a port
pub place_is : (kind : PortKind → Bool) (ports : List Port) (i : ℕ) (port : Port) → IsList kind → AreNumbered ports → slice_get ports i ≡ Some port
    → is_output_of kind port ≡ true → slice_index (places_of ports) i ≡ count_in (is_output_of kind) ports i
place_is kind ports i port list numbered here is =
    get_or-map (place_in ports) ports i port 0 (slice_get_within ports i port here)
    ∙ ap (place_in ports) (get_or_from_slice_get ports i port port here)
    ∙ (λ t. count_in (is_output_of (list.own port.kind (own_kind port.input (kind port.kind) is) t)) ports (numbered i port here t))

-- different ports of a list have different places
pub places_apart : (kind : PortKind → Bool) (ports : List Port) (i j : ℕ) → IsList kind → AreNumbered ports
    → has kind false ports i ≡ true → has kind false ports j ≡ true → slice_index (places_of ports) i ≡ slice_index (places_of ports) j → i ≡ j
places_apart kind ports i j list numbered here there same =
    let a = port_of kind ports i here in
    let b = port_of kind ports j there in
    count_apart (is_output_of kind) ports i j a.0 b.0 a.1 b.1 a.2 b.2
    (sym (place_is kind ports i a.0 list numbered a.1 a.2) ∙ same ∙ place_is kind ports j b.0 list numbered b.1 b.2)

-- and each is below the number of outputs of that list
pub place_within : (kind : PortKind → Bool) (ports : List Port) (i : ℕ) → IsList kind → AreNumbered ports → has kind false ports i ≡ true
    → slice_index (places_of ports) i < length (outputs_among kind ports)
place_within kind ports i list numbered here =
    let a = port_of kind ports i here in
    rw (place_is kind ports i a.0 list numbered a.1 a.2) (count_within (is_output_of kind) ports i a.0 a.1 a.2)
