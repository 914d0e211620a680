use Rattle.std.proofs.Common.{rules, ◌≡◌}
use Rattle.lv_outside.specs.MemoryVault.{put}
use Rattle.lv_outside.proofs.Written.{holds_put}
use Rattle.lv_outside.proofs.memory_vault.MemVaultVault.write.Goals as goal

pub returns-then-is_ok-clause-done : goal.returns-then-is_ok-clause-done
returns-then-is_ok-clause-done c =
    let written : c.keep.new.self.files ≡ put c.args.path.now c.args.bytes.now c.args.self.now.files = search rules in
    λ _. holds_put c.args.self.now _ _ c.keep.new.self written

pub returns-then-is_ok-clause-others : goal.returns-then-is_ok-clause-others
returns-then-is_ok-clause-others c =
    let written : c.keep.new.self.files ≡ put c.args.path.now c.args.bytes.now c.args.self.now.files = search rules in
    (holds_put c.args.self.now c.args.path.now c.args.bytes.now c.keep.new.self written).others
