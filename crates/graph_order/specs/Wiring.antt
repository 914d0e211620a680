-- Which instance feeds which within a block: the cables without delay.
use Rattle.std.specs.Prelude.{ℕ, ◌<◌, ◌==◌, Bool, not, ◌&&◌, All, List, [], ◌∷◌}
use Rattle.std.specs.List.{list_any}
use Rattle.session_script.specs.declared.session.CableLine.{CableLine}

-- a cable without delay from an instance to one of some others
abbrev pub leads_into : (ℕ → Bool) → ℕ → CableLine → Bool
leads_into targets source cable = not cable.delayed && (cable.source == source && targets cable.target)

-- an instance feeds one of some others
unfoldable pub feeds_some : List CableLine → (ℕ → Bool) → ℕ → Bool
feeds_some cables targets source = list_any (leads_into targets source) cables

-- an instance feeds another
abbrev pub feeds : List CableLine → ℕ → ℕ → Bool
feeds cables source target = feeds_some cables (λ one. one == target) source

-- from an instance through some others, in order, to a last: each feeds the next
abbrev pub leads : List CableLine → ℕ → List ℕ → ℕ → Bool
leads cables from [] to = feeds cables from to
leads cables from (via ∷ rest) to = feeds cables from via && leads cables via rest to

-- both ends of each cable are there
abbrev pub AreWithin : ℕ → List CableLine → Type 0
AreWithin count cables = All (λ (cable : CableLine). (cable.source < count) × (cable.target < count)) cables
