-- Buffers that are fresh, and inputs that were set, are those of a bench.
use Rattle.std.proofs.Common.{◌≡◌, ℕ, suc, zero, ◌<◌, ◌≤◌, Bool, true, false, ◌&&◌, List, [], ◌∷◌, length, map, replicate, get_or, set, Option, Some, None, slice_get, if◌then◌else◌, inl, inr, sym, ◌∙◌, ap, subst, refl, arith, option_map}
use Rattle.std.proofs.lemmas.Bool.{false≢true, le-leb, cases_eq}
use Rattle.std.proofs.lemmas.List.{length-replicate, length-set, get_or-replicate, get_or-set_same, get_or-set_other}
use Rattle.std.proofs.lemmas.List.Elements.{All-get_or}
use Rattle.std.proofs.lemmas.Option.{slice_get-map, get_or_from_slice_get, slice_get_within}
use Rattle.lv_base.specs.declared.number.Fixed.{Fixed}
use Rattle.lv_base.specs.declared.number.Sample.{Sample}
use Rattle.plugin_decl.specs.declared.declaration.Decl.{Decl}
use Rattle.plugin_decl.specs.declared.declaration.Port.{Port}
use Rattle.plugin_decl.specs.declared.declaration.PortKind.{PortKind}
use Rattle.plugin_decl.specs.declared.declaration.PortKind.TheVariants.{Audio, Cv, Control, Atom, Unsupported}
use Rattle.plugin_decl.specs.MessagePorts.{faces}
use Rattle.plugin_decl.specs.Valid.{FitsKind, HasRoom, IsValid}
use Rattle.plugin_decl.proofs.Ordering.{length-map}
use Rattle.plug_api.specs.Sound.{silence, hushed, silent}
use Rattle.plug_api.specs.Signal.{nought}
use Rattle.plug_api.specs.Buffers.{Given, block_at, forge_at, given_block, given_value, fresh_outputs, silenced, empty_forge, begun, begun_forge}
use Rattle.plug_api.specs.Fresh.{input_frames, fresh_block, fresh_forge, fresh_inputs}
use Rattle.plug_api.specs.Roles.{is_sound, is_atom, port_is, has_sound, has_atom}
use Rattle.plug_api.specs.Ports.{room_of}
use Rattle.stock_tests.specs.Bench.{frames, AreIns, AreOuts}

input_whole : (input : Bool) (kind : PortKind) → (input && is_sound kind) ≡ true → (if input && is_sound kind then frames else 0) ≡ frames
input_whole input kind h = rw h refl

-- what stands at the place of a port
at_port : {R : Type 0} (f : Port → R) (ports : List Port) (i : ℕ) (port : Port) (d : R) → slice_get ports i ≡ Some port → get_or (map f ports) i d ≡ f port
at_port f ports i port d e = get_or_from_slice_get _ i _ d (slice_get-map f ports i ∙ ap (option_map f) e)

sound_whole : (ports : List Port) (i : ℕ) → has_sound true ports i ≡ true → length (block_at (map (fresh_block frames) ports) i) ≡ frames
sound_whole ports i h = by (slice_get ports i) refl
  where
    by : (found : Option Port) → slice_get ports i ≡ found → length (block_at (map (fresh_block frames) ports) i) ≡ frames
    by None e = absurd (false≢true (sym (ap (port_is is_sound true) e) ∙ h))
    by (Some port) e =
        let is : (port.input && is_sound port.kind) ≡ true = sym (ap (port_is is_sound true) e) ∙ h in
        ap length (at_port (fresh_block frames) ports i port [] e) ∙ length-replicate (input_frames port frames) silent
        ∙ input_whole port.input port.kind is

pub fresh_ins : (ports : List Port) → AreIns ports (fresh_inputs ports frames)
fresh_ins ports = record {
  frames_are = refl;
  blocks = length-map (fresh_block frames) ports;
  values = length-replicate (length ports) nought;
  events = length-map fresh_forge ports;
  whole = λ i h. sound_whole ports i h;
}

-- a value or samples were put at a port
pub value_put : (ports : List Port) (ins : Given) (i : ℕ) (value : Fixed) → AreIns ports ins → AreIns ports (given_value ins i value)
value_put ports ins i value are = record {
  frames_are = are.frames_are;
  blocks = are.blocks;
  values = length-set ins.values i value ∙ are.values;
  events = are.events;
  whole = are.whole;
}

same_length : (blocks : List (List Sample)) (i j : ℕ) (samples : List Sample) → i < length blocks → length samples ≡ length (block_at blocks i)
    → length (block_at (set blocks i samples) j) ≡ length (block_at blocks j)
same_length blocks i j samples there whole =
    elim (cases_eq j i) [
      | inl same ↦
          ap (λ k. length (block_at (set blocks i samples) k)) same
          ∙ ap length (get_or-set_same blocks i samples [] there)
          ∙ whole
          ∙ ap (λ k. length (block_at blocks k)) (sym same)
      | inr other ↦ ap length (get_or-set_other blocks i j samples [] other)
    ]

pub samples_put : (ports : List Port) (ins : Given) (i : ℕ) (samples : List Sample) → AreIns ports ins → i < length ins.blocks
    → length samples ≡ length (block_at ins.blocks i) → AreIns ports (given_block ins i samples)
samples_put ports ins i samples are there whole = record {
  frames_are = are.frames_are;
  blocks = length-set ins.blocks i samples ∙ are.blocks;
  values = are.values;
  events = are.events;
  whole = λ j h. same_length ins.blocks i j samples there whole ∙ are.whole j h;
}

map-replicate : {A B : Type 0} (f : A → B) (n : ℕ) (x : A) → map f (replicate n x) ≡ replicate n (f x)
map-replicate f zero x = refl
map-replicate f (suc n) x = ap (λ ys. f x ∷ ys) (map-replicate f n x)

room_enough : (kind : PortKind) (room : ℕ) → is_atom kind ≡ true → FitsKind kind room → 16 ≤ room
room_enough Atom room is fits = omega (arith, fits.least)
room_enough Audio room is fits = absurd (false≢true is)
room_enough Cv room is fits = absurd (false≢true is)
room_enough Control room is fits = absurd (false≢true is)
room_enough Unsupported room is fits = absurd (false≢true is)

atom_of_side : (side : Bool) (kind : PortKind) → (side && is_atom kind) ≡ true → is_atom kind ≡ true
atom_of_side true kind h = h
atom_of_side false kind h = absurd (false≢true h)

begun_room : (room : ℕ) → 16 ≤ room → begun (empty_forge room) ≡ begun_forge room
begun_room room fits = rw (le-leb 16 room fits) refl

begun_at : (decl : Decl) (i : ℕ) → IsValid decl → has_atom false decl.ports i ≡ true
    → forge_at (map begun (map empty_forge (map (λ (port : Port). port.room) decl.ports))) i ≡ begun_forge (room_of decl.ports i)
begun_at decl i valid h = by (slice_get decl.ports i) refl
  where
    rooms : List ℕ
    rooms = map (λ (port : Port). port.room) decl.ports

    by : (found : Option Port) → slice_get decl.ports i ≡ found
        → forge_at (map begun (map empty_forge (map (λ (port : Port). port.room) decl.ports))) i ≡ begun_forge (room_of decl.ports i)
    by None e = absurd (false≢true (sym (ap (port_is is_atom false) e) ∙ h))
    by (Some port) e =
        let is : is_atom port.kind ≡ true = atom_of_side (faces false port) port.kind (sym (ap (port_is is_atom false) e) ∙ h) in
        let here : get_or decl.ports i port ≡ port = get_or_from_slice_get decl.ports i port port e in
        let fits : HasRoom port = subst HasRoom here (All-get_or HasRoom decl.ports i port (slice_get_within decl.ports i port e) valid.rooms) in
        let room : slice_get (map (λ (p : Port). p.room) decl.ports) i ≡ Some port.room = slice_get-map (λ (p : Port). p.room) decl.ports i ∙ ap (option_map (λ (p : Port). p.room)) e in
        let empty : slice_get (map empty_forge (map (λ (p : Port). p.room) decl.ports)) i ≡ Some (empty_forge port.room) =
        slice_get-map empty_forge (map (λ (p : Port). p.room) decl.ports) i ∙ ap (option_map empty_forge) room in
        get_or_from_slice_get _ i _ (empty_forge 0) (slice_get-map begun (map empty_forge (map (λ (p : Port). p.room) decl.ports)) i ∙ ap (option_map begun) empty)
        ∙ begun_room port.room (room_enough port.kind port.room is fits)
        ∙ ap begun_forge (sym (get_or_from_slice_get _ i _ 0 room))

pub fresh_outs : (decl : Decl) → IsValid decl
    → AreOuts decl.ports (silenced (fresh_outputs (length decl.ports) frames (length decl.ports) (map (λ (port : Port). port.room) decl.ports)))
fresh_outs decl valid =
    let n = length decl.ports in
    let rooms : List ℕ = map (λ (port : Port). port.room) decl.ports in
    let blocks : map hushed (replicate n (silence frames)) ≡ replicate n (silence frames) =
    map-replicate hushed n (silence frames) ∙ ap (λ k. replicate n (silence k)) (length-replicate frames silent) in
    let values : length (replicate n nought) ≡ n = length-replicate n nought in
    record {
      blocks = ap length blocks ∙ length-replicate n (silence frames);
      values = length-replicate (length (replicate n nought)) nought ∙ values;
      forges = length-map begun (map empty_forge rooms) ∙ length-map empty_forge rooms ∙ length-map (λ (port : Port). port.room) decl.ports;
      silent = λ i lt. ap (λ (bs : List (List Sample)). get_or bs i []) blocks ∙ get_or-replicate n i (silence frames) [] lt;
      noughts = λ i lt. get_or-replicate (length (replicate n nought)) i nought nought (omega (arith, lt, values));
      begun = λ i h. begun_at decl i valid h;
    }
