-- The first fault of an atom, of the parts of a container and of a part, in order of place.
use Rattle.std.specs.Prelude.{◌≡◌, ℕ, zero, suc, pred, ◌+◌, ◌-◌, ◌<◌, ◌==◌, nat_lt, true, List, MatchBool, ◌⊎◌}
use Rattle.atom_core.specs.declared.fault.AtomFault.{AtomFault}
use Rattle.atom_core.specs.declared.fault.AtomFault.TheVariants.{BadSize, Depth}
use Rattle.atom_core.specs.declared.form.Form.{Form}
use Rattle.atom_core.specs.Form.{lead_len, is_container}
use Rattle.atom_core.specs.Place.{size_at, padded, Stands}
use Rattle.atom_core.specs.Value.{Value, Parts}
use Rattle.atom_core.specs.Spelling.{atom_of, parts_of}
use Rattle.atom_core.specs.Fits.{Fits, PartsFit}
use Rattle.atom_core.specs.Content.{IsOwn, OwnFault, ZeroFault, form_at, end_at}

-- a fault of parts of this form from one place up to another
abbrev pub Judge : Type 1
Judge = Form → ℕ → ℕ → AtomFault → Type 0

-- an atom's own bytes come first, then those of the atoms in it
abbrev pub AtomFaultBy : Judge → List ℕ → ℕ → AtomFault → Type 0
AtomFaultBy inner bytes at fault =
    OwnFault bytes at fault
    ⊎ (IsOwn bytes at (form_at bytes at)
    × (is_container (form_at bytes at) ≡ true)
    × inner (form_at bytes at) (at + 8 + lead_len (form_at bytes at)) (end_at bytes at) fault)

-- an atom stands here that has no more than n containers within each other
abbrev pub StandsAtom : ℕ → List ℕ → ℕ → ℕ → Type 0
StandsAtom n bytes at end = (value : Value) × Fits n value × Stands bytes at end (atom_of value)

-- The part that begins at `at` has no room for its header; its atom stands too deep; its atom has no room; its atom is wrong; or what
-- pads it isn't zero. Each counts where those before it don't hold.
abbrev pub PartFaultBy : Judge → ℕ → List ℕ → Form → ℕ → ℕ → AtomFault → Type 0
PartFaultBy inner n bytes form at end fault =
    MatchBool (nat_lt (end - at) (lead_len form + 8)) (fault ≡ BadSize at)
    (MatchBool (n == 0) (fault ≡ Depth)
    (MatchBool (nat_lt end (at + lead_len form + padded (8 + size_at bytes (at + lead_len form)))) (fault ≡ BadSize (at + lead_len form))
    (AtomFaultBy inner bytes (at + lead_len form) fault
    ⊎ (StandsAtom (pred n) bytes (at + lead_len form) (end_at bytes (at + lead_len form))
    × ZeroFault bytes (end_at bytes (at + lead_len form)) (at + lead_len form + padded (8 + size_at bytes (at + lead_len form))) fault))))

-- the first parts are whole, and the next one has a fault
abbrev pub PartsFaultBy : Judge → ℕ → List ℕ → Form → ℕ → ℕ → AtomFault → Type 0
PartsFaultBy inner n bytes form from end fault =
    (parts : Parts) × (at : ℕ) × PartsFit n form parts × Stands bytes from at (parts_of parts) × (at < end) × PartFaultBy inner n bytes form at end fault

-- no more than n containers may stand within each other, the one of these parts among them
abbrev pub PartsFault : ℕ → List ℕ → Judge
PartsFault zero bytes form from end fault = PartsFaultBy (λ form from end fault. ⊥) zero bytes form from end fault
PartsFault (suc n) bytes form from end fault = PartsFaultBy (PartsFault n bytes) (suc n) bytes form from end fault

-- a part's fault, with the parts of its atom judged
abbrev pub Inner : ℕ → List ℕ → Judge
Inner zero bytes form from end fault = ⊥
Inner (suc n) bytes form from end fault = PartsFault n bytes form from end fault

abbrev pub PartFault : ℕ → List ℕ → Form → ℕ → ℕ → AtomFault → Type 0
PartFault n bytes form at end fault = PartFaultBy (Inner n bytes) n bytes form at end fault
