use Rattle.std.proofs.Common.{◌≡◌, ◌++◌}
use Rattle.std.specs.Prelude.{flat_map}
use Rattle.play_outcome.specs.Messages.{pair_text}
use Rattle.notice_text.proofs.message.push_pairs.Given as goal

-- the properties so far, and those that are left
abbrev pub invariant-loop-it : goal.invariant-loop-it
invariant-loop-it l =
    l.text ++ flat_map (pair_text l.urids) l.properties ≡ l.initial.text ++ flat_map (pair_text l.urids) l.initial.properties
