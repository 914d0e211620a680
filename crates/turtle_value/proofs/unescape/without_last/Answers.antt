use Rattle.std.proofs.Common.{◌-◌, length, take, sym, ap, ◌∙◌}
use Rattle.std.proofs.lemmas.List.{nil_from_length}
use Rattle.std.proofs.lemmas.Str.{chars-nil}
use Rattle.std.specs.Str.{chars}
use Rattle.turtle_value.proofs.unescape.without_last.Goals as goal

pub returns-in-None : goal.returns-in-None
returns-in-None c =
    let none = ap chars (sym c.chars.ensures.rest ∙ nil_from_length _ c.in-None.ensures.steps.0) ∙ chars-nil in
    none ∙ sym (ap (λ x. take (length x - 1) x) none)
