use Rattle.std.proofs.Common.{◌≡◌, ◌+◌, ◌∷◌, length, map, take}
use Rattle.block_signals.specs.Merging.{bytes_in, events_heard}
use Rattle.block_signals.proofs.events.put_lists.Given as goal

abbrev pub invariant-loop-place : goal.invariant-loop-place
invariant-loop-place l = record {
  long : length l.lists ≡ length l.initial.lists;
  put : map bytes_in (take (1 + l.place) l.lists) ≡ l.first ∷ map (events_heard l.outlets) (take l.place l.sources);
}
