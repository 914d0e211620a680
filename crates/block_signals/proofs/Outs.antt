-- The outputs of an instance, before a run and after it.
use Rattle.std.proofs.Common.{◌≡◌, ℕ, zero, suc, ◌<◌, ◌≤◌, Bool, true, false, nat_le, if◌then◌else◌, List, [], ◌∷◌, length, get_or, set, map, replicate, Option, unwrap_or, refl, sym, ap, ◌∙◌, ◌⊎◌, inl, inr, arith, All}
use Rattle.std.proofs.lemmas.Bool.{false≢true, le-leb, cases_lt}
use Rattle.std.proofs.lemmas.List.{length-set, length-map, length-replicate, map-set, set-get_or, set_past, get_or-map, get_or-replicate}
use Rattle.std.proofs.lemmas.List.Elements.{All-nil, All-cons, All-head, All-tail}
use Rattle.lv_base.specs.declared.number.Sample.{Sample}
use Rattle.atom_forge.specs.Forged.{Forged, with_piece}
use Rattle.plugin_decl.specs.declared.declaration.Port.{Port}
use Rattle.plugin_decl.specs.declared.declaration.PortKind.{PortKind}
use Rattle.plugin_decl.specs.declared.declaration.PortKind.TheVariants.{Audio, Cv, Control, Atom, Unsupported}
use Rattle.plugin_decl.specs.Valid.{FitsKind, HasRoom}
use Rattle.plug_api.specs.Buffers.{Left, block_at, forge_at, empty_forge, begun_forge, begun, silenced, fresh_outputs}
use Rattle.plug_api.specs.Inputs.{Outputs}
use Rattle.plug_api.specs.Roles.{is_sound, is_control, is_atom}
use Rattle.plug_api.specs.Running.{with_signal, with_outputs, IsOutput, AreOutputs}
use Rattle.plug_api.specs.Signal.{Signal, sound, control, events, nothing, nought}
use Rattle.plug_api.specs.Sound.{silent, silence, hushed}
use Rattle.std.specs.Prelude.{slice_index}
use Rattle.block_signals.specs.declared.outlet.Outlet.{Outlet}
use Rattle.block_signals.specs.Places.{is_output_of, outputs_among, places_of, quiet_outs, outs_after}
use Rattle.block_signals.proofs.Places.{own_kind}

-- an instance's outputs once a block began
abbrev pub begun_outlet : Outlet → Outlet
begun_outlet outlet = record { now = silenced outlet.before; before = outlet.now }

-- ---- whatever is written, its form stays

-- an item replaced by one that is seen alike
pub map_set_same : {X Y : Type 0} → (f : X → Y) (xs : List X) (i : ℕ) (x d : X) → (i < length xs → f x ≡ f (get_or xs i d)) → map f (set xs i x) ≡ map f xs
map_set_same f xs i x d same = by (cases_lt i (length xs))
  where
    by : (i < length xs) ⊎ (length xs ≤ i) → map f (set xs i x) ≡ map f xs
    by (inl h) =
        map-set f xs i x ∙ ap (λ y. set (map f xs) i y) (same h ∙ sym (get_or-map f xs i d (f d) h)) ∙ set-get_or (map f xs) i (f d)
    by (inr h) = ap (map f) (set_past xs i x h)

-- outputs of these ports, whatever they have
abbrev pub AreFormed : ℕ → List Port → Left → Type 0
AreFormed frames ports outs = silenced outs ≡ quiet_outs frames ports

-- a block among them has so many frames
pub block_formed : (frames : ℕ) (ports : List Port) (outs : Left) (place : ℕ) → AreFormed frames ports outs → place < length outs.blocks
    → hushed (block_at outs.blocks place) ≡ silence frames
block_formed frames ports outs place formed h =
    let n = length (outputs_among is_sound ports) in
    let blocks : map hushed outs.blocks ≡ replicate n (silence frames) = ap (λ (left : Left). left.blocks) formed in
    let count : length outs.blocks ≡ n = sym (length-map outs.blocks hushed) ∙ ap length blocks ∙ length-replicate n (silence frames) in
    sym (get_or-map hushed outs.blocks place [] [] h) ∙ ap (λ (ls : List (List Sample)). get_or ls place []) blocks
    ∙ get_or-replicate n place (silence frames) [] (omega (arith, count))

formed_more : (frames : ℕ) (ports : List Port) (places : List ℕ) (outs : Left) (i : ℕ) (signal : Signal) → AreFormed frames ports outs
    → IsOutput ports frames i signal → AreFormed frames ports (with_signal places outs i signal)
formed_more frames ports places outs i (sound block) formed fit =
    let place = slice_index places i in
    let same : map hushed (set outs.blocks place block) ≡ map hushed outs.blocks =
    map_set_same hushed outs.blocks place block [] (λ h. ap silence fit.1 ∙ sym (block_formed frames ports outs place formed h)) in
    (λ t. record { blocks = same t; values = replicate (length outs.values) nought; forges = map begun outs.forges }) ∙ formed
formed_more frames ports places outs i (control value) formed fit =
    let place = slice_index places i in
    (λ t. record { blocks = map hushed outs.blocks; values = replicate (length-set outs.values place value t) nought; forges = map begun outs.forges }) ∙ formed
formed_more frames ports places outs i (events bytes) formed fit =
    let place = slice_index places i in
    let same : map begun (set outs.forges place (with_piece (forge_at outs.forges place) bytes false)) ≡ map begun outs.forges =
    map_set_same begun outs.forges place (with_piece (forge_at outs.forges place) bytes false) (empty_forge 0) (λ h. refl) in
    (λ t. record { blocks = map hushed outs.blocks; values = replicate (length outs.values) nought; forges = same t }) ∙ formed
formed_more frames ports places outs i nothing formed fit = absurd fit

formed_all : (frames : ℕ) (ports : List Port) (places : List ℕ) (outs : Left) (writes : Outputs) → AreFormed frames ports outs
    → AreOutputs ports frames writes → AreFormed frames ports (with_outputs places outs writes)
formed_all frames ports places outs [] formed fit = formed
formed_all frames ports places outs (write ∷ writes) formed fit =
    formed_all frames ports places (with_signal places outs write.0 write.1) writes (formed_more frames ports places outs write.0 write.1 formed fit.0) fit.2

-- ---- at first

map_replicate : {X Y : Type 0} → (f : X → Y) (n : ℕ) (x : X) → map f (replicate n x) ≡ replicate n (f x)
map_replicate f zero x = refl
map_replicate f (suc n) x = ap (λ ys. f x ∷ ys) (map_replicate f n x)

hushed_silence : (frames : ℕ) → hushed (silence frames) ≡ silence frames
hushed_silence frames = ap silence (length-replicate frames silent)

-- an output of events has room for a sequence
abbrev HasSpace : Port → Type 0
HasSpace port = 16 ≤ port.room

begun_is : (forge : Forged) (room : ℕ) → forge.room ≡ room → 16 ≤ room → begun forge ≡ begun_forge room
begun_is forge room same space =
    ap (λ (r : ℕ). if nat_le 16 r then begun_forge r else empty_forge r) same
    ∙ ap (λ (b : Bool). if b then begun_forge room else empty_forge room) (le-leb 16 room space)

begun_again : (ports : List Port) → All HasSpace ports
    → map begun (map (λ (port : Port). begun_forge port.room) ports) ≡ map (λ (port : Port). begun_forge port.room) ports
begun_again [] rooms = refl
begun_again (port ∷ ports) rooms = λ t.
    begun_is (begun_forge port.room) port.room refl (All-head HasSpace port ports rooms) t ∷ begun_again ports (All-tail HasSpace port ports rooms) t

begun_first : (ports : List Port) → All HasSpace ports
    → map begun (map empty_forge (map (λ (port : Port). port.room) ports)) ≡ map (λ (port : Port). begun_forge port.room) ports
begun_first [] rooms = refl
begun_first (port ∷ ports) rooms = λ t.
    begun_is (empty_forge port.room) port.room refl (All-head HasSpace port ports rooms) t ∷ begun_first ports (All-tail HasSpace port ports rooms) t

kind_space : (kind : PortKind) (room : ℕ) → is_atom kind ≡ true → FitsKind kind room → 16 ≤ room
kind_space Atom room h fits = omega (arith, fits.least)
kind_space Audio room h fits = absurd (false≢true h)
kind_space Cv room h fits = absurd (false≢true h)
kind_space Control room h fits = absurd (false≢true h)
kind_space Unsupported room h fits = absurd (false≢true h)

pub space_among : (ports : List Port) → All HasRoom ports → All HasSpace (outputs_among is_atom ports)
space_among [] rooms = All-nil HasSpace
space_among (port ∷ ports) rooms = by (is_output_of is_atom port) refl (space_among ports (All-tail HasRoom port ports rooms))
  where
    by : (b : Bool) → is_output_of is_atom port ≡ b → All HasSpace (outputs_among is_atom ports) → All HasSpace (outputs_among is_atom (port ∷ ports))
    by true e rest =
        rw e (All-cons HasSpace port (outputs_among is_atom ports)
        (kind_space port.kind port.room (own_kind port.input (is_atom port.kind) e) (All-head HasRoom port ports rooms)) rest)
    by false e rest = rw e rest

pub quiet_formed : (frames : ℕ) (ports : List Port) → All HasRoom ports → AreFormed frames ports (quiet_outs frames ports)
quiet_formed frames ports rooms =
    let n = length (outputs_among is_sound ports) in
    let blocks : map hushed (replicate n (silence frames)) ≡ replicate n (silence frames) =
    map_replicate hushed n (silence frames) ∙ ap (λ block. replicate n block) (hushed_silence frames) in
    λ t. record {
      blocks = blocks t;
      values = replicate (length-replicate (length (outputs_among is_control ports)) nought t) nought;
      forges = begun_again (outputs_among is_atom ports) (space_among ports rooms) t;
    }

pub fresh_quiet : (frames : ℕ) (ports : List Port) → All HasRoom ports
    → silenced (fresh_outputs (length (outputs_among is_sound ports)) frames (length (outputs_among is_control ports)) (map (λ (port : Port). port.room) (outputs_among is_atom ports)))
    ≡ quiet_outs frames ports
fresh_quiet frames ports rooms =
    let n = length (outputs_among is_sound ports) in
    let blocks : map hushed (replicate n (silence frames)) ≡ replicate n (silence frames) =
    map_replicate hushed n (silence frames) ∙ ap (λ block. replicate n block) (hushed_silence frames) in
    λ t. record {
      blocks = blocks t;
      values = replicate (length-replicate (length (outputs_among is_control ports)) nought t) nought;
      forges = begun_first (outputs_among is_atom ports) (space_among ports rooms) t;
    }

-- outputs that were quiet before a run keep their form
pub formed_after : (frames : ℕ) (ports : List Port) (given : Option Outputs) → All HasRoom ports → AreOutputs ports frames (unwrap_or given [])
    → AreFormed frames ports (outs_after frames ports given)
formed_after frames ports given rooms fit =
    formed_all frames ports (places_of ports) (quiet_outs frames ports) (unwrap_or given []) (quiet_formed frames ports rooms) fit
