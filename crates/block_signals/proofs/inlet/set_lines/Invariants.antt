use Rattle.std.proofs.Common.{◌≡◌, ℕ, ◌<◌, [], length, take}
use Rattle.std.specs.Prelude.{slice_index_or}
use Rattle.plug_api.specs.Buffers.{fixed_at}
use Rattle.block_signals.specs.Inlets.{value_set}
use Rattle.block_signals.proofs.inlet.set_lines.Given as goal

abbrev pub invariant-loop-line : goal.invariant-loop-line
invariant-loop-line l = record {
  others : l.ins ≡ record l.initial.ins { values = l.ins.values };
  count : length l.ins.values ≡ length l.initial.ins.values;
  values : (k : ℕ) → k < length l.symbols → fixed_at l.ins.values k
      ≡ value_set (take l.line-index l.sets) l.inst (slice_index_or l.symbols k []) (fixed_at l.initial.ins.values k);
}
