use Rattle.std.proofs.Common.{sym, ap, ◌∙◌}
use Rattle.session_script.specs.Places.{place}
use Rattle.session_script.proofs.Rosters.{place_none}
use Rattle.session_script.proofs.roster.Roster.place.Goals as goal

pub returns-in-None : goal.returns-in-None
returns-in-None c =
    c.len.ensures ∙ place_none c.self.inside.insts c.args.name.now (sym (c.self.invariant c.args.name.now) ∙ sym c.in-None.ensures.value)
    ∙ ap (λ insts. place insts c.args.name.now) c.self.view_is
