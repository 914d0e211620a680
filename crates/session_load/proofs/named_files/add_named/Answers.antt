use Rattle.session_load.proofs.Once.{all_named}
use Rattle.session_load.proofs.Plugins.{then-ok}
use Rattle.session_load.proofs.named_files.add_named.Goals as goal

pub returns : goal.returns
returns c =
    then-ok _ _ c.add_see_also.result
    (all_named c.args.number c.args.store.now c.in_ok-plugins.plugins.keys c.in_ok-folder.folder c.args.files.now.keys c.add_see_also.new.files.keys
    c.in_ok-folder.ensures c.in_ok-plugins.ensures c.requires)
    c.add_see_also.ensures
