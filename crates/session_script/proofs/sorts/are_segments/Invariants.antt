use Rattle.std.proofs.Common.{◌≡◌, ◌+◌, length}
use Rattle.std.specs.List.{list_all, slice_split}
use Rattle.std.specs.Option.{option_copied, option_map_or}
use Rattle.session_script.specs.Judged.{segments_in}
use Rattle.session_script.specs.Sorts.{is_segment, is_slash}
use Rattle.session_script.proofs.sorts.are_segments.Given as goal

abbrev pub invariant-loop-left : goal.invariant-loop-left
invariant-loop-left l = list_all is_segment (segments_in (option_copied l.left)) ≡ list_all is_segment (slice_split is_slash l.fn.path)

abbrev pub decreases-loop-left : goal.decreases-loop-left
decreases-loop-left l = option_map_or (λ rest. length rest.now + 1) l.left 0
