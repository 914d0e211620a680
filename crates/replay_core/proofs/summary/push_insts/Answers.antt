use Rattle.std.proofs.Common.{◌<◌, ℕ, List, [], length, sym, ap, ◌∙◌, arith}
use Rattle.std.proofs.lemmas.List.{get_or-map}
use Rattle.session_script.specs.declared.session.Inst.{Inst}
use Rattle.replay_core.proofs.EachLemmas.{each-grown}
use Rattle.replay_core.specs.Summary.{inst_line}
use Rattle.replay_core.proofs.summary.push_insts.Goals as goal

pub loop-i-preserved : goal.loop-i-preserved
loop-i-preserved c =
    let insts = c.args.session.now.insts in
    let there : c.loop-i.i < length insts = omega arith in
    let is = rw c.as_slice.ensures at c.index-as_slice-i.is in
    let named = ap (λ (inst : Inst). inst.name) is ∙ sym (get_or-map (λ (inst : Inst). inst.name) insts c.loop-i.i c.index-as_slice-i.result [] there) in
    each-grown _ _ _ _ c.loop-i.i _ c.loop-i.invariant c.in_ok-push_inst.ensures (ap (λ (name : List ℕ). inst_line name c.loop-i.i c.args.steps.now) named)
