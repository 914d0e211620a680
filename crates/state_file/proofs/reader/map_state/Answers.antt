use Rattle.std.proofs.Common.{sym, ap, ◌∙◌}
use Rattle.urid_map.specs.Numbers.{with_uris}
use Rattle.state_file.specs.States.{about, properties_in}
use Rattle.state_file.specs.Rules.{uris_of}
use Rattle.state_file.proofs.Held.{mapped_none}
use Rattle.state_file.proofs.reader.map_state.Goals as goal

pub returns-in-None-clause-ok : goal.returns-in-None-clause-ok
unfolding properties_in
returns-in-None-clause-ok c =
    sym (mapped_none c.args.urids.now) ∙ ap (λ n. with_uris c.args.urids.now (uris_of c.args.store.now (about c.args.store.now n))) c.in-None.ensures
