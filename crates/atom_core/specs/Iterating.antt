-- What one call of an iterator over a container's parts gives.
use Rattle.std.specs.Prelude.{◌≡◌, ℕ, List, [], Option, None, Some, ℤ}
use Rattle.atom_core.specs.declared.view.AtomView.{AtomView}
use Rattle.atom_core.specs.Value.{keyed, Parts, none, part, timed}
use Rattle.atom_core.specs.Spelling.{atom_of}
use Rattle.atom_core.specs.Atoms.{SpellAtoms, SpellProperties, SpellEvents}

-- one call, of an iterator that has these atoms left: it gives the first and leaves the others
abbrev pub TakesFirst : Parts → Option AtomView → List ℕ → Type 0
TakesFirst none None after = after ≡ []
TakesFirst none (Some view) after = ⊥
TakesFirst (part lead value parts) None after = ⊥
TakesFirst (part lead value parts) (Some view) after = (view.bytes.now ≡ atom_of value) × SpellAtoms after parts

abbrev pub NextAtom : List ℕ → Option AtomView → List ℕ → Type 0
NextAtom before view after = (parts : Parts) → SpellAtoms before parts → TakesFirst parts view after

-- a property: its key, its context and its atom
abbrev pub Property : Type 0
Property = ℕ × ℕ × AtomView

-- the same of an iterator that has these properties left
abbrev pub TakesProperty : Parts → Option Property → List ℕ → Type 0
TakesProperty none None after = after ≡ []
TakesProperty none (Some found) after = ⊥
TakesProperty (part lead value parts) None after = ⊥
TakesProperty (part lead value parts) (Some found) after =
    (lead ≡ keyed found.0 found.1) × (found.2.bytes.now ≡ atom_of value) × SpellProperties after parts

abbrev pub NextProperty : List ℕ → Option Property → List ℕ → Type 0
NextProperty before found after = (parts : Parts) → SpellProperties before parts → TakesProperty parts found after

-- an event: its time and its atom
abbrev pub Event : Type 0
Event = ℤ × AtomView

-- the same of an iterator that has these events left
abbrev pub TakesEvent : Parts → Option Event → List ℕ → Type 0
TakesEvent none None after = after ≡ []
TakesEvent none (Some found) after = ⊥
TakesEvent (part lead value parts) None after = ⊥
TakesEvent (part lead value parts) (Some found) after =
    (lead ≡ timed found.0) × (found.1.bytes.now ≡ atom_of value) × SpellEvents after parts

abbrev pub NextEvent : List ℕ → Option Event → List ℕ → Type 0
NextEvent before found after = (parts : Parts) → SpellEvents before parts → TakesEvent parts found after
