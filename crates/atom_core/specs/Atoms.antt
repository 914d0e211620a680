-- The atoms of a tuple, one after the other.
use Rattle.std.specs.Prelude.{◌≡◌, ℕ, List, Option, None, Some}
use Rattle.atom_core.specs.declared.form.Form.TheVariants.{Tuple, Object, Sequence}
use Rattle.atom_core.specs.Value.{Value, holding, tuple, object, sequence, Parts}
use Rattle.atom_core.specs.Spelling.{parts_of}
use Rattle.atom_core.specs.Fits.{PartsFit}
use Rattle.atom_core.specs.Answer.{most_containers}

-- the bytes spell these atoms
abbrev pub SpellAtoms : List ℕ → Parts → Type 0
SpellAtoms bytes parts = PartsFit most_containers Tuple parts × (bytes ≡ parts_of parts)

-- the bytes spell atoms
abbrev pub AreAtoms : List ℕ → Type 0
AreAtoms bytes = (parts : Parts) × SpellAtoms bytes parts

-- a value's atoms, if it is a tuple
abbrev pub parts_in : Value → Option Parts
parts_in (holding tuple parts) = Some parts
parts_in value = None

-- an iterator over these atoms, or none where there are none
abbrev pub HoldsAtoms : Option (List ℕ) → Option Parts → Type 0
HoldsAtoms None None = Unit {0}
HoldsAtoms (Some bytes) (Some parts) = SpellAtoms bytes parts
HoldsAtoms None (Some parts) = ⊥
HoldsAtoms (Some bytes) None = ⊥

-- the bytes spell these properties
abbrev pub SpellProperties : List ℕ → Parts → Type 0
SpellProperties bytes parts = PartsFit most_containers Object parts × (bytes ≡ parts_of parts)

-- the bytes spell properties
abbrev pub AreProperties : List ℕ → Type 0
AreProperties bytes = (parts : Parts) × SpellProperties bytes parts

-- a value's properties, if it is an object
abbrev pub properties_in : Value → Option Parts
properties_in (holding (object id kind) parts) = Some parts
properties_in value = None

-- an iterator over these properties, or none where there are none
abbrev pub HoldsProperties : Option (List ℕ) → Option Parts → Type 0
HoldsProperties None None = Unit {0}
HoldsProperties (Some bytes) (Some parts) = SpellProperties bytes parts
HoldsProperties None (Some parts) = ⊥
HoldsProperties (Some bytes) None = ⊥

-- the bytes spell these events
abbrev pub SpellEvents : List ℕ → Parts → Type 0
SpellEvents bytes parts = PartsFit most_containers Sequence parts × (bytes ≡ parts_of parts)

-- the bytes spell events
abbrev pub AreEvents : List ℕ → Type 0
AreEvents bytes = (parts : Parts) × SpellEvents bytes parts

-- a value's events, if it is a sequence
abbrev pub events_in : Value → Option Parts
events_in (holding sequence parts) = Some parts
events_in value = None

-- an iterator over these events, or none where there are none
abbrev pub HoldsEvents : Option (List ℕ) → Option Parts → Type 0
HoldsEvents None None = Unit {0}
HoldsEvents (Some bytes) (Some parts) = SpellEvents bytes parts
HoldsEvents None (Some parts) = ⊥
HoldsEvents (Some bytes) None = ⊥
