use Rattle.std.proofs.Common.{◌≡◌, map}
use Rattle.triple_store.specs.declared.term.Triple.{Triple}
use Rattle.state_file.specs.Rules.{each_once}
use Rattle.state_file.specs.States.{about}
use Rattle.std.specs.Prelude.{Some}
use Rattle.state_file.proofs.Keys.{are_new}
use Rattle.state_file.proofs.rules.each_once.Given as goal

-- the keys so far stand each once if those that are left are new
abbrev pub invariant-loop-property : goal.invariant-loop-property
invariant-loop-property l = (goal.iterator-loop-property).can_next l.property-iterator × (goal.iterator-loop-property).is_finite l.property-iterator
    × (are_new l.keys.keys (map (λ (property : Triple). property.p) l.property-iterator) ≡ each_once (map (λ (property : Triple). property.p) (about l.store (Some l.node))))
