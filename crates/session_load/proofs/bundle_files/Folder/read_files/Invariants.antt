use Rattle.std.proofs.Common.{take}
use Rattle.turtle_document.specs.Numbers.{HaveFewNumbers}
use Rattle.session_load.specs.Bundle.{IsLater, AddAll, place}
use Rattle.session_load.proofs.bundle_files.Folder.read_files.Given as goal

-- the files so far have been read, the vault is a later one, and numbers are few
abbrev pub invariant-loop-name : goal.invariant-loop-name
invariant-loop-name g l =
    let at = g.V.Vault.state in
    IsLater (at l.initial.vault) (at l.vault)
    × AddAll (at l.initial.vault) (place l.self.number l.self.path.now) (take l.name-index l.names) l.initial.store l.store
    × HaveFewNumbers l.store
