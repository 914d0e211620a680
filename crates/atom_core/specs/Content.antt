-- What is wrong with an atom's own bytes, or well with them, before one looks at the atoms in it.
use Rattle.std.specs.Prelude.{◌≡◌, ℕ, ◌+◌, List, true, slice_range, MatchBool}
use Rattle.atom_core.specs.declared.fault.AtomFault.{AtomFault}
use Rattle.atom_core.specs.declared.fault.AtomFault.TheVariants.{BadSize, BadText, BadPad}
use Rattle.atom_core.specs.declared.form.Form.{Form}
use Rattle.atom_core.specs.declared.form.Form.TheVariants.{Text, Literal, Sequence}
use Rattle.atom_core.specs.Form.{form_of, allows_size}
use Rattle.atom_core.specs.Place.{number_at, size_at, kind_at, AreZero, IsFirstOther}
use Rattle.atom_core.specs.Spelling.{ended}
use Rattle.atom_core.specs.Fits.{IsText}

-- a text and its zero
abbrev pub IsEndedText : List ℕ → Type 0
IsEndedText body = (text : List ℕ) × IsText text × (body ≡ ended text)

abbrev pub TextFault : List ℕ → ℕ → ℕ → AtomFault → Type 0
TextFault bytes from to fault = (¬ IsEndedText (slice_range bytes from to)) × (fault ≡ BadText from)

abbrev pub ZeroFault : List ℕ → ℕ → ℕ → AtomFault → Type 0
ZeroFault bytes from to fault = (place : ℕ) × IsFirstOther bytes from to place × (fault ≡ BadPad place)

-- the body of the atom whose header is at `at`, of a size that its form allows, which ends at `end`
abbrev pub IsContent : Form → List ℕ → ℕ → ℕ → Type 0
IsContent Text bytes at end = IsEndedText (slice_range bytes (at + 8) end)
IsContent Literal bytes at end = IsEndedText (slice_range bytes (at + 16) end)
IsContent Sequence bytes at end = AreZero bytes (at + 8) (at + 16)
IsContent form bytes at end = Unit {0}

abbrev pub ContentFault : Form → List ℕ → ℕ → ℕ → AtomFault → Type 0
ContentFault Text bytes at end fault = TextFault bytes (at + 8) end fault
ContentFault Literal bytes at end fault = TextFault bytes (at + 16) end fault
ContentFault Sequence bytes at end fault = ZeroFault bytes (at + 8) (at + 16) fault
ContentFault form bytes at end fault = ⊥

-- the form of the atom whose header is at a place, and where it ends
abbrev pub form_at : List ℕ → ℕ → Form
form_at bytes at = form_of (kind_at bytes at)

abbrev pub end_at : List ℕ → ℕ → ℕ
end_at bytes at = at + 8 + size_at bytes at

pub record IsOwn (bytes : List ℕ) (at : ℕ) (form : Form) : Type 0 where
  pub form_is : form ≡ form_at bytes at
  pub allowed : allows_size form (size_at bytes at) (number_at bytes (at + 8)) ≡ true
  pub content : IsContent form bytes at (end_at bytes at)

-- its size isn't one of its type, or else its content is wrong
abbrev pub OwnFault : List ℕ → ℕ → AtomFault → Type 0
OwnFault bytes at fault =
    MatchBool (allows_size (form_at bytes at) (size_at bytes at) (number_at bytes (at + 8)))
    (ContentFault (form_at bytes at) bytes at (end_at bytes at) fault)
    (fault ≡ BadSize at)
