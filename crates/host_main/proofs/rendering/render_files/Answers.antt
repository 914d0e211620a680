use Rattle.std.proofs.Common.{◌∙◌, ap}
use Rattle.host_main.specs.declared.files.Rendering.{Rendering}
use Rattle.host_main.proofs.Apart.{stands}
use Rattle.host_main.proofs.Lawful.{lawful}
use Rattle.host_main.proofs.rendering.render_files.Goals as goal

pub returns-in-Ok-clause-ok : goal.returns-in-Ok-clause-ok
returns-in-Ok-clause-ok g c =
    let made = c.in_ok-rendering.ensures in
    record {
      bytes = made.ok.0;
      s = made.ok.1;
      read = made.ok.2;
      files = λ known. stands _ _ _ _ _ made.ok.3 (made.files known) (c.in-Ok.ensures.ok (made.goes_on.told known));
      told = c.into_summary.ensures ∙ ap (λ (w : Rendering). w.summary) made.ok.3;
      lawful = lawful _ _;
    }
