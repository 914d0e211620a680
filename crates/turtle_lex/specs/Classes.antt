-- The classes of characters of which a token or a gap has whole runs, and the bytes of such a run.
use Rattle.std.specs.Prelude.{◌≡◌, ◌≤◌, ◌<◌, ℕ, Bool, true, false, not, nat_lt, nat_eq, if◌then◌else◌, List, length, slice_index, bit_and}
use Rattle.turtle_grammar.specs.Characters.{is_white, is_line_end, is_name_char}
use Rattle.turtle_lex.specs.declared.class.Class.{Class}
use Rattle.turtle_lex.specs.declared.class.Class.TheVariants.{White, Comment, Name, LocalName, Plain, Alphanumeric}
use Rattle.turtle_lex.specs.declared.groups.TheConstants.{GROUPS}
use Rattle.turtle_lex.specs.Enclosure.{plain}
use Rattle.turtle_lex.specs.Names.{is_local_char}
use Rattle.turtle_lex.specs.Run.{run_class}

-- the characters of a class
abbrev pub class_of : Class → ℕ → Bool
class_of White c = is_white c
class_of Comment c = not (is_line_end c)
class_of Name c = is_name_char c
class_of LocalName c = is_local_char c
class_of (Plain enclosure) c = plain enclosure c
class_of (Alphanumeric run) c = run_class run c

-- whether all characters above 127 are of the class
abbrev pub is_wide : Class → Bool
is_wide White = false
is_wide Comment = true
is_wide Name = false
is_wide LocalName = false
is_wide (Plain enclosure) = true
is_wide (Alphanumeric run) = false

-- a byte by which a run goes on: an ASCII character of the class, or a byte above 127 where all characters above 127 are of it
abbrev pub class_byte : Class → ℕ → Bool
class_byte class b = if nat_lt b 128 then class_of class b else is_wide class

-- whether a byte is of one of these groups
abbrev pub is_among : ℕ → ℕ → Bool
is_among groups b = not (nat_eq (bit_and (slice_index GROUPS b) groups) 0)

-- the bytes of these groups are those of the class
abbrev pub AreGroupsOf : Class → ℕ → Type 0
AreGroupsOf class groups = (b : ℕ) → b < 256 → is_among groups b ≡ class_byte class b

-- from one place to another all bytes pass a test, and the next byte, if there is one, doesn't
pub record IsByteRun (test : ℕ → Bool) (bytes : List ℕ) (from upto : ℕ) : Type 0 where
  pub inside : upto ≤ length bytes
  pub further : from ≤ upto
  pub each : (k : ℕ) → from ≤ k → k < upto → test (slice_index bytes k) ≡ true
  pub stops : upto < length bytes → test (slice_index bytes upto) ≡ false
