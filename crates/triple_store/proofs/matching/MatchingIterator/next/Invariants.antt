use Rattle.std.proofs.Common.{◌≡◌, filter, None, length}
use Rattle.std.specs.Option.{option_copied}
use Rattle.triple_store.specs.Triples.{agrees}
use Rattle.triple_store.specs.Candidates.{candidates_of}
use Rattle.triple_store.proofs.matching.MatchingIterator.next.Given as goal

abbrev pub invariant-loop-row : goal.invariant-loop-row
invariant-loop-row l = filter (agrees None (option_copied l.self-inside.p) (option_copied l.self-inside.o)) (candidates_of l.self-inside.candidates) ≡ l.fn.self

abbrev pub decreases-loop-row : goal.decreases-loop-row
decreases-loop-row l = length (candidates_of l.self-inside.candidates)
