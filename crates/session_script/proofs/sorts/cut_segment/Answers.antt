use Rattle.std.proofs.Common.{◌≡◌, Some, None, sym, ◌∙◌}
use Rattle.std.specs.List.{position}
use Rattle.session_script.specs.Sorts.{is_slash}
use Rattle.session_script.proofs.Segments.{cut_some, last_segment, shorter}
use Rattle.session_script.proofs.sorts.cut_segment.Goals as goal

pub returns-in-Some-clause-cut : goal.returns-in-Some-clause-cut
returns-in-Some-clause-cut c =
    let at : position is_slash c.args.path.now ≡ Some c.in-Some.end = sym c.slash_in.ensures ∙ c.in-Some.is in
    cut_some c.args.path.now c.in-Some.end at

pub returns-in-Some-clause-shorter : goal.returns-in-Some-clause-shorter
returns-in-Some-clause-shorter c =
    let at : position is_slash c.args.path.now ≡ Some c.in-Some.end = sym c.slash_in.ensures ∙ c.in-Some.is in
    shorter c.args.path.now c.in-Some.end at

pub returns-in-None-clause-cut : goal.returns-in-None-clause-cut
returns-in-None-clause-cut c =
    let none : position is_slash c.args.path.now ≡ None = sym c.slash_in.ensures ∙ c.in-None.is in
    last_segment c.args.path.now none
