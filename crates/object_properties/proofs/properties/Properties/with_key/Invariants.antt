use Rattle.std.proofs.Common.{◌≡◌, ◌==◌, length}
use Rattle.std.specs.Prelude.{find}
use Rattle.session_play.specs.Patch.{Property as Seen}
use Rattle.object_properties.proofs.properties.Properties.with_key.Given as goal

-- the one that is looked for is among those that are left
abbrev pub invariant-loop-property : goal.invariant-loop-property
invariant-loop-property l = find (λ (it : Seen). it.key == l.key) l.self ≡ find (λ (it : Seen). it.key == l.key) l.fn.self

abbrev pub decreases-loop-property : goal.decreases-loop-property
decreases-loop-property l = length l.self
