-- The rule on values: calls make the attempts, and runs the notices, that a record tells of, and long is exactly what is too long.
use Rattle.std.specs.Prelude.{ℕ, nat_lt, nat_le, Bool, true, false, not, ◌&&◌, ◌||◌, List, [], ◌∷◌, length, Option, Some}
use Rattle.interaction.specs.Interaction.{Interaction, ask}
use Rattle.step_law.specs.declared.actor.Actor.TheVariants.{Audio}
use Rattle.step_law.specs.declared.entry.Kind.{Kind}
use Rattle.step_law.specs.declared.entry.Kind.TheVariants.{Send, Full, Long, End}
use Rattle.step_law.specs.Actor.{actor_at}
use Rattle.record_law.specs.Entries.{is_by}
use Rattle.record_law.specs.Message.{Message, Step}
use Rattle.record_law.specs.Message.Message.{body, notice}
use Rattle.session_play.specs.Looking.{doings, open_call, tries}
use Rattle.session_play.specs.Notices.{is_notice, untold}
use Rattle.session_play.specs.Run.{Run}
use Rattle.session_play.specs.SessionShape.{works}
use Rattle.session_play.specs.Value.{Ending, Play}

-- a cell of a ring holds 256 bytes
abbrev pub is_long : List ℕ → Bool
is_long bytes = nat_lt 256 (length bytes)

abbrev pub same : Bool → Bool → Bool
same true other = other
same false other = not other

-- a call attempts a body, which is too long exactly where the record says so
abbrev pub attempts_so : {F B : Type 0} → (long : Bool) → Option (Interaction (Ending F B)) → Bool
attempts_so long (Some (ask asked next)) = same long (is_long asked)
attempts_so long call = false

-- there is a notice to tell, which is too long exactly where the record says so
abbrev pub tells_so : (long : Bool) → List (List ℕ) → Bool
tells_so long [] = false
tells_so long (told ∷ later) = same long (is_long told)

-- a send, or a refusal
abbrev pub sends_so : {F B : Type 0} → Run F B → (long : Bool) → Message → Play F B → Bool
sends_so run long body own = attempts_so long (open_call own)
sends_so run long (notice inst) own = tells_so long (untold run.setup own)
sends_so run long about own = true

-- a call attempts nothing more
abbrev pub is_over : {F B : Type 0} → Option (Interaction (Ending F B)) → Bool
is_over (Some (ask asked next)) = false
is_over call = true

-- a call ends once it attempts nothing more, or has attempted 16 times; where its instance declares no worker, no attempt is told of
abbrev pub ends_so : {F B : Type 0} → Run F B → ℕ → Play F B → Bool
ends_so run inst own = is_over (open_call own) || nat_le 16 (tries own) || not (works run.setup inst)

abbrev pub value_keeps : {F B : Type 0} → Run F B → Kind → Step → Play F B → Bool
value_keeps run Send x own = sends_so run false x.about own
value_keeps run Full x own = sends_so run false x.about own
value_keeps run Long x own = sends_so run true x.about own
value_keeps run End x own = ends_so run x.entry.b own
value_keeps run kind x own = true

abbrev pub is_none : List (List ℕ) → Bool
is_none [] = true
is_none (told ∷ later) = false

-- audio goes on once it has told all notices
abbrev pub has_told : {F B : Type 0} → Run F B → Step → Play F B → Bool
has_told run x own = not (is_by Audio x.entry) || is_notice x.about || is_none (untold run.setup own)

-- a step after a play keeps the rule
abbrev pub keeps_values : {F B : Type 0} → Run F B → Play F B → Step → Bool
keeps_values run p x = let own = doings (actor_at x.entry.actor) p in value_keeps run x.entry.kind x own && has_told run x own
