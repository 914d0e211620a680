use Rattle.std.proofs.Common.{take, Ok}
use Rattle.session_load.specs.Bundle.{IsLater}
use Rattle.session_setup.specs.Loading.{ReadsAll}
use Rattle.session_setup.proofs.bundles.add_bundles.Given as goal

-- the bundles so far have been read, and the vault is a later one
abbrev pub invariant-loop-number : goal.invariant-loop-number
invariant-loop-number g l =
    let at = g.V.Vault.state in
    IsLater (at l.initial.vault) (at l.vault) × ReadsAll (at l.initial.vault) (take l.number l.folders) (Ok l.bundles)
