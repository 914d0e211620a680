use Rattle.std.proofs.Common.{◌∙◌}
use Rattle.session_load.proofs.Plugins.{finds, plugins_among, then-ok}
use Rattle.session_load.proofs.named_files.add_plugins.Goals as goal

pub returns : goal.returns
returns c =
    then-ok _ _ c.add_subjects.result
    (λ h s. h s ∙ ((λ i. finds (c.requires i) (c.matching.ensures i) s) ∙ plugins_among c.args.store.now _ _ c.in_ok-is_a.ensures c.in_ok-class.ensures s))
    c.add_subjects.ensures
