-- What a forge holds, and what its calls make of it.
use Rattle.std.specs.Prelude.{◌≡◌, ℕ, ◌+◌, ◌-◌, ◌<◌, ◌≤◌, ◌==◌, MatchBool, ◌⊎◌, if◌then◌else◌, Bool, true, false, List, [], ◌∷◌, ◌++◌, length, take, drop, Option, Some, None, Result, MatchResult}
use Rattle.atom_core.specs.Value.{Container, Lead, Value}
use Rattle.atom_core.specs.Fits.{Fits, LeadFits}
use Rattle.atom_core.specs.Spelling.{u32, lead_bytes, framed, with_padding, kind_of, body_of}
use Rattle.atom_core.specs.Answer.{IsAtom}
use Rattle.atom_forge.specs.declared.level.Holds.{Holds}
use Rattle.atom_forge.specs.declared.level.Level.{Level}
use Rattle.atom_forge.specs.declared.mark.Mark.{Mark}
use Rattle.atom_forge.specs.declared.room.NoRoom.{NoRoom}
use Rattle.atom_forge.specs.Opened.{Opened, OpensAs, AreOpened, form_in, beginning, stack_bytes, stack_levels, waits_in}

-- how many bytes there may be, those that are finished, the containers that are open, outermost first, and whether a key or an event waits
-- for its atom
pub record Forged : Type 0 where
  pub room : ℕ
  pub bytes : List ℕ
  pub levels : List Level
  pub waits : Bool

abbrev pub left : Forged → ℕ
left forge = forge.room - length forge.bytes

-- an atom follows a key or an event where a container is open, in at most 16 containers, and is the first one where none is
abbrev pub TakesAtom : Forged → Type 0
TakesAtom forge = MatchBool (length forge.levels == 0) (forge.bytes ≡ []) ((forge.waits ≡ true) × (length forge.levels ≤ 16))

-- what the innermost of some containers holds
abbrev pub innermost : List Level → Option Holds
innermost [] = None
innermost (l ∷ []) = Some l.holds
innermost (l ∷ (m ∷ levels)) = innermost (m ∷ levels)

-- a key stands in an object and an event in a sequence, where none waits for its atom
abbrev pub TakesLead : Forged → Holds → Type 0
TakesLead forge holds = (innermost forge.levels ≡ Some holds) × (forge.waits ≡ false)

-- a container is open, and no key or event waits for its atom
abbrev pub IsComplete : Forged → Type 0
IsComplete forge = (0 < length forge.levels) × (forge.waits ≡ false)

-- an atom within a container is padded, an outer one isn't
abbrev pub laid : List Level → List ℕ → List ℕ
laid levels bytes = if length levels == 0 then bytes else with_padding bytes

-- how a container begins: its size is zero while it is open
abbrev pub opening : ℕ → ℕ → ℕ → List ℕ
opening kind first second = u32 0 ++ (u32 kind ++ (u32 first ++ u32 second))

abbrev pub with_piece : Forged → List ℕ → Bool → Forged
with_piece forge piece waits = record { room = forge.room; bytes = forge.bytes ++ piece; levels = forge.levels; waits = waits }

abbrev pub with_container : Forged → Holds → List ℕ → Forged
with_container forge holds piece = record {
  room = forge.room;
  bytes = forge.bytes ++ piece;
  levels = forge.levels ++ record { holds = holds; at = length forge.bytes } ∷ [];
  waits = false;
}

-- where the innermost of some containers begins
abbrev pub begins : List Level → ℕ
begins [] = 0
begins (l ∷ []) = l.at
begins (l ∷ (m ∷ levels)) = begins (m ∷ levels)

-- the header that begins here has the size of all that stands after it
abbrev pub sized : List ℕ → ℕ → List ℕ
sized bytes at = take at bytes ++ (u32 (length bytes - at - 8) ++ drop (at + 4) bytes)

-- the innermost container is closed; each of its parts is padded, so it is too
abbrev pub closed : Forged → Forged
closed forge = record {
  room = forge.room;
  bytes = sized forge.bytes (begins forge.levels);
  levels = take (length forge.levels - 1) forge.levels;
  waits = false;
}

-- one atom is finished, and no container is open
pub record IsFinished (forge : Forged) : Type 0 where
  pub levels : forge.levels ≡ []
  pub waits : forge.waits ≡ false
  pub atom : IsAtom forge.bytes

-- these containers are open, innermost first, and nothing else is there
pub record HasOpened (forge : Forged) (stack : List Opened) : Type 0 where
  pub are : AreOpened stack
  pub bytes : forge.bytes ≡ stack_bytes stack
  pub levels : forge.levels ≡ stack_levels stack
  pub waits : forge.waits ≡ waits_in stack

-- what a forge holds at every moment: one finished atom, or containers that are open within each other, perhaps none
abbrev pub IsForged : Forged → Type 0
IsForged forge = ∥ (IsFinished forge ⊎ ((stack : List Opened) × HasOpened forge stack)) ∥₁

-- what a forge held where its mark is
abbrev pub up_to : Mark → Forged → Forged
up_to mark forge = record { room = forge.room; bytes = take mark.len forge.bytes; levels = take mark.levels forge.levels; waits = mark.waits }

-- this is the body of a value of this type, with no more than n containers within each other
abbrev pub IsBodyOf : ℕ → ℕ → List ℕ → Type 0
IsBodyOf n kind body = ∥ ((value : Value) × (kind_of value ≡ kind) × (body_of value ≡ body) × Fits n value) ∥₁

-- these bytes are a key or a time that the innermost container takes
abbrev pub IsLead : Forged → List ℕ → Type 0
IsLead forge bytes = (holds : Holds) × (lead : Lead) × TakesLead forge holds × LeadFits (form_in holds) lead × (bytes ≡ lead_bytes lead)

-- these bytes begin a container that holds this
abbrev pub Begins : Holds → List ℕ → Type 0
Begins holds bytes = (container : Container) × OpensAs holds container × (bytes ≡ beginning container)

-- a call puts a piece, if there is room for it, and else changes nothing
abbrev pub Puts : Forged → List ℕ → Forged → Result (Unit {0}) NoRoom → Forged → Type 0
Puts old piece with_it result new =
    MatchResult result (λ _. (length piece ≤ left old) × (new ≡ with_it)) (λ _. (left old < length piece) × (new ≡ old))

abbrev pub PutsBody : Forged → ℕ → List ℕ → Result (Unit {0}) NoRoom → Forged → Type 0
PutsBody old kind body result new = Puts old (laid old.levels (framed kind body)) (with_piece old (laid old.levels (framed kind body)) false) result new

-- a call puts the atom of a value
abbrev pub PutsAtom : Forged → Value → Result (Unit {0}) NoRoom → Forged → Type 0
PutsAtom old value result new = PutsBody old (kind_of value) (body_of value) result new
