use Rattle.std.proofs.Common.{◌≡◌, drop, bytes_eq}
use Rattle.std.specs.Map.{lookup}
use Rattle.lv_outside.specs.MemoryVault.{file_of}
use Rattle.lv_outside.proofs.memory_vault.MemVault.file.Given as goal

abbrev pub invariant-loop-file : goal.invariant-loop-file
invariant-loop-file l = lookup (bytes_eq l.path) (drop l.file-index l.self.files) ≡ file_of l.self l.path
