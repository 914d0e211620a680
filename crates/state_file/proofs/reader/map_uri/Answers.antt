use Rattle.std.proofs.Common.{◌∷◌, [], ap, sym, ◌∙◌}
use Rattle.std.specs.Prelude.{Err}
use Rattle.state_file.specs.Ready.{IsStopped}
use Rattle.state_file.proofs.Held.{mapped-one}
use Rattle.state_file.proofs.Mapping.{passed-on, stopped-at}
use Rattle.state_file.proofs.reader.map_uri.Goals as goal

pub returns-in_err-map-clause-err : goal.returns-in_err-map-clause-err
returns-in_err-map-clause-err c =
    passed-on (λ fault. IsStopped c.args.urids.now (c.args.uri.now ∷ []) fault c.map.new.self) c.from_residual.result c.in_err-map.field-0.0 c.from_residual.ensures.1
    (stopped-at c.args.urids.now c.map.new.self c.args.uri.now c.in_err-map.field-0.0 c.in_err-map.ensures.err (λ e. c.in_err-map.ensures.full.0 (ap Err e)))

pub returns-clause-ok : goal.returns-clause-ok
returns-clause-ok c = c.in_ok-map.ensures.urids ∙ sym (mapped-one c.args.urids.now c.args.uri.now)
