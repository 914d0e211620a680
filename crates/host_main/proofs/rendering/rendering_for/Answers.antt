use Rattle.std.proofs.Common.{subst, sym}
use Rattle.std.proofs.lemmas.Result.{IfOk-weaker}
use Rattle.host_main.specs.Files.{AreApart}
use Rattle.host_main.proofs.Apart.{apart}
use Rattle.host_main.proofs.rendering.rendering_for.Goals as goal

pub returns-clause-apart : goal.returns-clause-apart
returns-clause-apart g c =
    IfOk-weaker _ _ _ (λ made is. subst AreApart (sym is) (apart c.args.name.now _ _ _)) c.of.ensures
