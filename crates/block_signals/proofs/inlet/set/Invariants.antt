use Rattle.std.proofs.Common.{◌≡◌, ℕ, ◌<◌, ◌≤◌, [], length, if◌then◌else◌}
use Rattle.std.specs.Prelude.{slice_index_or}
use Rattle.std.specs.Str.{bytes_eq}
use Rattle.plug_api.specs.Buffers.{fixed_at}
use Rattle.block_signals.proofs.inlet.set.Given as goal

abbrev pub invariant-loop-port : goal.invariant-loop-port
invariant-loop-port l = record {
  others : l.ins ≡ record l.initial.ins { values = l.ins.values };
  count : length l.ins.values ≡ length l.initial.ins.values;
  set : (k : ℕ) → k < l.port → fixed_at l.ins.values k
      ≡ (if bytes_eq l.symbol (slice_index_or l.symbols k []) then l.value else fixed_at l.initial.ins.values k);
  rest : (k : ℕ) → l.port ≤ k → fixed_at l.ins.values k ≡ fixed_at l.initial.ins.values k;
}
