-- What a run tells, as it is kept (LV2 patch: the messages at the port that is designated for answers).
use Rattle.std.specs.Prelude.{ℕ, nat_le, if◌then◌else◌, List, length, map, filter, Option, Some, None}
use Rattle.atom_core.specs.Spelling.{atom_of}
use Rattle.atom_sequence.specs.Event.{Event}
use Rattle.session_play.specs.EventBytes.{events_at}
use Rattle.session_play.specs.Notices.{is_answer}

-- the answers among the events of a port: the bytes of each atom
unfoldable pub answers_in : List ℕ → List (List ℕ)
answers_in bytes = map (λ (it : Event). atom_of it.value) (filter (λ (it : Event). is_answer it.value) (events_at bytes))

-- a notice as a message, unless it is too long for one
abbrev pub kept : List ℕ → Option (List ℕ)
kept bytes = if nat_le (length bytes) 256 then Some bytes else None
