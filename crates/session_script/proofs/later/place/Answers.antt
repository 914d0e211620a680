use Rattle.std.proofs.Common.{length, ap, ◌∙◌}
use Rattle.std.specs.Option.{unwrap_or}
use Rattle.std.specs.Str.{bytes_eq}
use Rattle.session_script.specs.declared.session.Inst.{Inst}
use Rattle.session_script.proofs.Cuts.{or_length}
use Rattle.session_script.proofs.later.place.Goals as goal

pub returns : goal.returns
returns c =
    let insts = c.args.insts.now in
    c.unwrap_or.ensures ∙ ap (λ o. unwrap_or o (length insts)) c.position.ensures ∙ or_length (λ (one : Inst). bytes_eq one.name c.args.name.now) insts
