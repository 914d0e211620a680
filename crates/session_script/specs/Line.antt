-- What one line of a session script says by itself: its kind, and its words.
use Rattle.std.specs.Prelude.{ℕ, List, [], ◌∷◌, map, codes, Option, Some, None, if◌then◌else◌}
use Rattle.std.specs.Option.{option_map_or}
use Rattle.std.specs.Str.{bytes_eq}
use Rattle.std.specs.Str.Lines.{lines}
use Rattle.session_script.specs.declared.keyword.Setting.{Setting}
use Rattle.session_script.specs.declared.keyword.Setting.TheVariants.{Rate, Block, Blocks, Workers, Cells, Record}
use Rattle.session_script.specs.declared.keyword.Keyword.{Keyword}
use Rattle.session_script.specs.declared.keyword.Keyword.TheVariants.{Number, Bundle, Inst, Set, Cable, Out, At}
use Rattle.session_script.specs.Words.{words, is_comment}

-- what a line `at` does to an instance
pub data Act : Type 0 where
  set_value : (symbol decimal : List ℕ) → Act
  patch_set : (property form value : List ℕ) → Act
  patch_get : (property : Option (List ℕ)) → Act
  save : Act
  restore : (path place : List ℕ) → Act

-- a line without a word or with a comment; `lv2fx 1`; each kind of line; one with a wrong number of words; one whose first
-- word or action is unknown
pub data Line : Type 0 where
  skipped : Line
  header : Line
  setting : Setting → (number : List ℕ) → Line
  bundle : (path : List ℕ) → Line
  inst : (name uri : List ℕ) → (worker : Option (List ℕ)) → Line
  set : (name symbol decimal : List ℕ) → Line
  cable : (source output target input : List ℕ) → (delayed : Option (List ℕ)) → Line
  out : (name symbol : List ℕ) → Line
  at : (block name : List ℕ) → Act → Line
  miscounted : Keyword → Line
  unknown : Line

-- `lv2fx 1`
abbrev pub header_of : List (List ℕ) → Line
header_of (version ∷ []) = if bytes_eq version (codes "1") then header else unknown
header_of _ = unknown

-- `rate N`, and so on
abbrev pub setting_of : Setting → List (List ℕ) → Line
setting_of kind (number ∷ []) = setting kind number
setting_of kind _ = miscounted (Number kind)

-- `bundle PATH`
abbrev pub bundle_of : List (List ℕ) → Line
bundle_of (path ∷ []) = bundle path
bundle_of _ = miscounted Bundle

-- `inst NAME URI [WORKER]`
abbrev pub inst_of : List (List ℕ) → Line
inst_of (name ∷ uri ∷ []) = inst name uri None
inst_of (name ∷ uri ∷ worker ∷ []) = inst name uri (Some worker)
inst_of _ = miscounted Inst

-- `set NAME SYMBOL DECIMAL`
abbrev pub set_of : List (List ℕ) → Line
set_of (name ∷ symbol ∷ decimal ∷ []) = set name symbol decimal
set_of _ = miscounted Set

-- `cable NAME SYMBOL NAME SYMBOL [delayed]`
abbrev pub cable_of : List (List ℕ) → Line
cable_of (source ∷ output ∷ target ∷ input ∷ []) = cable source output target input None
cable_of (source ∷ output ∷ target ∷ input ∷ delayed ∷ []) = cable source output target input (Some delayed)
cable_of _ = miscounted Cable

-- `out NAME SYMBOL`
abbrev pub out_of : List (List ℕ) → Line
out_of (name ∷ symbol ∷ []) = out name symbol
out_of _ = miscounted Out

-- `at BLOCK set NAME SYMBOL DECIMAL`
abbrev pub at_set_of : List ℕ → List (List ℕ) → Line
at_set_of block (name ∷ symbol ∷ decimal ∷ []) = at block name (set_value symbol decimal)
at_set_of block _ = miscounted At

-- `at BLOCK patch-set NAME IRI fixed DECIMAL`, or `int NUMBER`
abbrev pub at_patch_set_of : List ℕ → List (List ℕ) → Line
at_patch_set_of block (name ∷ property ∷ form ∷ value ∷ []) = at block name (patch_set property form value)
at_patch_set_of block _ = miscounted At

-- `at BLOCK patch-get NAME [IRI]`
abbrev pub at_patch_get_of : List ℕ → List (List ℕ) → Line
at_patch_get_of block (name ∷ []) = at block name (patch_get None)
at_patch_get_of block (name ∷ property ∷ []) = at block name (patch_get (Some property))
at_patch_get_of block _ = miscounted At

-- `at BLOCK save NAME`
abbrev pub at_save_of : List ℕ → List (List ℕ) → Line
at_save_of block (name ∷ []) = at block name save
at_save_of block _ = miscounted At

-- `at BLOCK restore NAME PATH K`
abbrev pub at_restore_of : List ℕ → List (List ℕ) → Line
at_restore_of block (name ∷ path ∷ place ∷ []) = at block name (restore path place)
at_restore_of block _ = miscounted At

abbrev pub act_by : List ℕ → List ℕ → List (List ℕ) → Line
act_by block action rest =
    if bytes_eq action (codes "set") then at_set_of block rest
    else (if bytes_eq action (codes "patch-set") then at_patch_set_of block rest
    else (if bytes_eq action (codes "patch-get") then at_patch_get_of block rest
    else (if bytes_eq action (codes "save") then at_save_of block rest
    else (if bytes_eq action (codes "restore") then at_restore_of block rest
    else unknown))))

-- `at BLOCK ACTION ..`
abbrev pub at_of : List (List ℕ) → Line
at_of (block ∷ action ∷ rest) = act_by block action rest
at_of _ = miscounted At

-- the setting that a word names
abbrev pub setting_named : List ℕ → Option Setting
setting_named word =
    if bytes_eq word (codes "rate") then Some Rate
    else (if bytes_eq word (codes "block") then Some Block
    else (if bytes_eq word (codes "blocks") then Some Blocks
    else (if bytes_eq word (codes "workers") then Some Workers
    else (if bytes_eq word (codes "cells") then Some Cells
    else (if bytes_eq word (codes "record") then Some Record
    else None)))))

-- a line that begins with a word which names no setting, and goes on with these
abbrev pub other_by : List ℕ → List (List ℕ) → Line
other_by keyword rest =
    if bytes_eq keyword (codes "lv2fx") then header_of rest
    else (if bytes_eq keyword (codes "bundle") then bundle_of rest
    else (if bytes_eq keyword (codes "inst") then inst_of rest
    else (if bytes_eq keyword (codes "set") then set_of rest
    else (if bytes_eq keyword (codes "cable") then cable_of rest
    else (if bytes_eq keyword (codes "out") then out_of rest
    else (if bytes_eq keyword (codes "at") then at_of rest
    else unknown))))))

-- a line that begins with this word, which is no comment, and goes on with these
abbrev pub line_by : List ℕ → List (List ℕ) → Line
line_by keyword rest = option_map_or (λ kind. setting_of kind rest) (setting_named keyword) (other_by keyword rest)

abbrev pub line_of : List (List ℕ) → Line
line_of [] = skipped
line_of (keyword ∷ rest) = if is_comment keyword then skipped else line_by keyword rest

-- what the lines of a script say, each by itself
abbrev pub lines_of : List ℕ → List Line
lines_of script = map (λ line. line_of (words line)) (lines script)
