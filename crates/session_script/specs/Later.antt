-- Which line of a session's script is the first that can't be played yet.
use Rattle.std.specs.Prelude.{Bool, true, false, not, ◌&&◌, nat_lt, nat_le, ◌+◌, ℕ, List, [], Option, slice_get, position, is_none, codes}
use Rattle.std.specs.Option.{option_map, option_map_or}
use Rattle.std.specs.Str.{bytes_eq}
use Rattle.session_script.specs.declared.session.Inst.{Inst}
use Rattle.session_script.specs.declared.session.Session.{Session}
use Rattle.session_script.specs.declared.keyword.Setting.{Setting}
use Rattle.session_script.specs.declared.keyword.Setting.TheVariants.{Block, Blocks}
use Rattle.session_script.specs.Line.{Line, lines_of}
use Rattle.session_script.specs.Line.Line.{skipped, header, setting, inst, set, cable, out}
use Rattle.session_script.specs.Places.{place}
use Rattle.session_script.specs.Stock.{amp_uri, is_stock_uri, control_of}
use Rattle.session_script.specs.Words.{value_of}

-- of the settings only the frames of a block, and up to 1024 blocks
abbrev pub plays_setting : Setting → List ℕ → Bool
plays_setting Block number = true
plays_setting Blocks number = nat_le (value_of number) 1024
plays_setting _ number = false

-- the URI of instance k
abbrev pub uri_at : List Inst → ℕ → List ℕ
uri_at insts k = option_map_or (λ (one : Inst). one.uri) (slice_get insts k) []

-- the control input of an instance
abbrev pub is_control : List Inst → List ℕ → List ℕ → Bool
is_control insts name symbol = bytes_eq symbol (control_of (uri_at insts (place insts name)))

-- the target is an amplifier that stands after the source
abbrev pub stands_behind : List Inst → List ℕ → List ℕ → Bool
stands_behind insts source target = nat_lt (place insts source) (place insts target) && bytes_eq (uri_at insts (place insts target)) amp_uri

-- from the `out` of an instance to the `in` of an amplifier that stands after it
abbrev pub leads_on : List Inst → (source output target input : List ℕ) → Bool
leads_on insts source output target input = bytes_eq output (codes "out") && bytes_eq input (codes "in") && stands_behind insts source target

-- whether a line of a session with these instances can be played
abbrev pub is_playable : List Inst → Line → Bool
is_playable insts skipped = true
is_playable insts header = true
is_playable insts (setting kind number) = plays_setting kind number
is_playable insts (inst name uri worker) = is_none worker && is_stock_uri uri
is_playable insts (set name symbol decimal) = is_control insts name symbol
is_playable insts (cable source output target input delayed) = is_none delayed && leads_on insts source output target input
is_playable insts (out name symbol) = bytes_eq symbol (codes "out")
is_playable insts _ = false

-- the first line of a session's script that can't be played, counted from 1
abbrev pub first_later : List ℕ → Session → Option ℕ
first_later script session = option_map (λ before. before + 1) (position (λ line. not (is_playable session.insts line)) (lines_of script))
