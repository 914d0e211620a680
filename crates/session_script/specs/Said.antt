-- What the code holds of a line, as a line of the definitions.
use Rattle.std.specs.Prelude.{ℕ, List, [], ◌∷◌, Option, None, Some, ◌≡◌, ◌<◌, length}
use Rattle.std.specs.Option.{option_copied}
use denote.Ref.{Bor}
use Rattle.session_script.specs.declared.statement.Deeds.{Deeds}
use Rattle.session_script.specs.declared.statement.Deeds.TheVariants.{SetValue, PatchSet, PatchGet, Save, Restore}
use Rattle.session_script.specs.declared.statement.Statement.{Statement}
use Rattle.session_script.specs.declared.statement.Statement.TheVariants.{Skipped, Header, Setting, Bundle, Inst, Set, Cable, Out, At, Miscounted, Unknown}
use Rattle.session_script.specs.Line.{Line, Act}
use Rattle.session_script.specs.Line.Act.{set_value, patch_set, patch_get, save, restore}
use Rattle.session_script.specs.Line.Line.{skipped, header, setting, bundle, inst, set, cable, out, at, miscounted, unknown}

abbrev pub act_said : Deeds → Act
act_said (SetValue symbol decimal) = set_value symbol.now decimal.now
act_said (PatchSet property form value) = patch_set property.now form.now value.now
act_said (PatchGet property) = patch_get (option_copied property)
act_said Save = save
act_said (Restore path place) = restore path.now place.now

abbrev pub said : Statement → Line
said Skipped = skipped
said Header = header
said (Setting kind number) = setting kind number.now
said (Bundle path) = bundle path.now
said (Inst name uri worker) = inst name.now uri.now (option_copied worker)
said (Set name symbol decimal) = set name.now symbol.now decimal.now
said (Cable source output target input delayed) = cable source.now output.now target.now input.now (option_copied delayed)
said (Out name symbol) = out name.now symbol.now
said (At block name act) = at block.now name.now (act_said act)
said (Miscounted keyword) = miscounted keyword
said Unknown = unknown

-- a line, or what stands for one that has another number of words
abbrev pub said_or : Line → Option Statement → Line
said_or other (Some statement) = said statement
said_or other None = other

-- the one word of a line that has one
abbrev pub IsOnlyWord : List (List ℕ) → Option (Bor (List ℕ)) → Type 0
IsOnlyWord ws (Some word) = ws ≡ word.now ∷ []
IsOnlyWord ws None = (length ws ≡ 1) → ⊥

-- what a line of at most one word has
abbrev pub IsRest : List (List ℕ) → Option (Option (Bor (List ℕ))) → Type 0
IsRest ws (Some None) = ws ≡ []
IsRest ws (Some (Some word)) = ws ≡ word.now ∷ []
IsRest ws None = 1 < length ws
