use Rattle.std.proofs.Common.{◌++◌, sym, ap, ◌∙◌}
use Rattle.std.specs.String.{string_bytes}
use Rattle.turtle_value.proofs.Plain.{plain_filter}
use Rattle.turtle_value.proofs.name.push_local.Goals as goal

pub returns-in_ok-push_str-in-None : goal.returns-in_ok-push_str-in-None
returns-in_ok-push_str-in-None c =
    c.in_ok-push_str-in-None.ensures.bytes ∙ ap (λ x. string_bytes c.args.into.now ++ x) (sym (plain_filter c.args.local.now c.utf8.local c.in-None.ensures.cases))
