use Rattle.std.specs.Option.{option_copied}
use Rattle.session_script.specs.Said.{act_said}
use Rattle.session_script.proofs.Bounds.{setting_small, new_name, worker_small, block_small, act_well}
use Rattle.session_script.proofs.draft.Draft.add.Goals as goal

pub add_setting-requires : goal.add_setting-requires
add_setting-requires c =
    let well = rw c.in-Setting.is at c.requires.well in
    setting_small c.args.self.now c.in-Setting.kind c.in-Setting.number.now well

pub add_inst-requires-clause-new : goal.add_inst-requires-clause-new
add_inst-requires-clause-new c =
    let well = rw c.in-Inst.is at c.requires.well in
    new_name c.args.self.now c.in-Inst.name.now c.in-Inst.uri.now (option_copied c.in-Inst.worker) well

pub add_inst-requires-clause-worker : goal.add_inst-requires-clause-worker
add_inst-requires-clause-worker c =
    let well = rw c.in-Inst.is at c.requires.well in
    worker_small c.args.self.now c.in-Inst.name.now c.in-Inst.uri.now (option_copied c.in-Inst.worker) c.requires.bounds well

pub add_action-requires-clause-block : goal.add_action-requires-clause-block
add_action-requires-clause-block c =
    let well = rw c.in-At.is at c.requires.well in
    block_small c.args.self.now c.in-At.block.now c.in-At.name.now (act_said c.in-At.act) c.requires.bounds well

pub add_action-requires-clause-act : goal.add_action-requires-clause-act
add_action-requires-clause-act c =
    let well = rw c.in-At.is at c.requires.well in
    act_well c.args.self.now c.in-At.block.now c.in-At.name.now (act_said c.in-At.act) well

pub returns-in-Setting : goal.returns-in-Setting
returns-in-Setting c = rw c.in-Setting.is (c.add_setting.ensures c.args.line)

pub returns-in-Bundle : goal.returns-in-Bundle
returns-in-Bundle c = rw c.in-Bundle.is (c.add_bundle.ensures c.args.line)
