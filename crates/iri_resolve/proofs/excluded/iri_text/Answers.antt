use Rattle.std.proofs.Common.{◌≡◌, ◌≤◌, length, arith}
use Rattle.std.specs.List.{position_or_len}
use Rattle.std.specs.Str.Lossy.{utf8_valid_len}
use Rattle.std.proofs.lemmas.List.Sums.{prefix_len-le-length}
use Rattle.std.proofs.lemmas.Str.{utf8_valid_len-IsUtf8}
use Rattle.iri_resolve.specs.Excluded.{is_excluded}
use Rattle.iri_resolve.proofs.excluded.iri_text.Goals as goal

pub returns-in-Ok-clause-place : goal.returns-in-Ok-clause-place
returns-in-Ok-clause-place c =
    let whole : utf8_valid_len c.args.text.now ≡ length c.args.text.now = utf8_valid_len-IsUtf8 c.args.text.now c.in-Ok.ensures.cases.1 in
    omega arith

pub returns-in-Ok-2-clause-place : goal.returns-in-Ok-2-clause-place
returns-in-Ok-2-clause-place c =
    let whole : utf8_valid_len c.args.text.now ≡ length c.args.text.now = utf8_valid_len-IsUtf8 c.args.text.now c.in-Ok-2.ensures.cases.1 in
    let within : position_or_len is_excluded c.args.text.now ≤ length c.args.text.now = prefix_len-le-length _ c.args.text.now in
    omega arith
