-- A sink in memory.
use Rattle.std.specs.Prelude.{ℕ, List, ◌++◌, Bool, true, ◌==◌}
use Rattle.std.specs.List.{list_any}
use Rattle.lv_outside.specs.declared.answer.Put.{Put}
use Rattle.lv_outside.specs.declared.answer.Put.TheVariants.{Done, Failed}
use Rattle.lv_outside.specs.Count.{next_count}
use Rattle.lv_outside.specs.World.{SinkState}

-- what it has taken, the numbers of the calls that are to fail, and the counts of calls and of faults
pub record MemSinkState : Type 0 where
  pub taken : List ℕ
  pub fails : List ℕ
  pub calls : ℕ
  pub faults : ℕ

-- what is known of it: all
abbrev pub known_sink : MemSinkState → SinkState
known_sink sink = record { tells = true; taken = sink.taken; faults = sink.faults }

-- the next call is one of those that are to fail
abbrev pub is_sink_due : MemSinkState → Bool
is_sink_due sink = list_any (λ n. n == sink.calls) sink.fails

-- the sink after a call with this answer: a failure takes nothing
abbrev pub after_put : MemSinkState → List ℕ → Put → MemSinkState
after_put sink bytes Done = record sink { taken = sink.taken ++ bytes; calls = next_count sink.calls }
after_put sink bytes Failed = record sink { calls = next_count sink.calls; faults = next_count sink.faults }
