use Rattle.std.proofs.Common.{◌≡◌, ◌≤◌, ◌-◌, map, take, length}
use Rattle.lv_base.specs.Number.{gained}
use Rattle.sound_block.proofs.gain.gain_by_small.Given as goal

-- the samples that are done
abbrev pub invariant-loop-done : goal.invariant-loop-done
invariant-loop-done l = record {
  within : l.done ≤ length l.x;
  samples : take l.done l.out ≡ map (λ sample. gained sample (record { 0 = l.factor })) (take l.done l.x);
}

abbrev pub decreases-loop-done : goal.decreases-loop-done
decreases-loop-done l = length l.x - l.done
