use Rattle.session_load.specs.Bundle.{IsLater}
use Rattle.session_states.specs.Files.{GiveStates}
use Rattle.session_states.proofs.reading.add_files.Given as goal

-- the files so far gave these states, and the vault is a later one
abbrev pub invariant-loop-number : goal.invariant-loop-number
invariant-loop-number g l =
    let at = g.V.Vault.state in
    IsLater (at l.initial.vault) (at l.vault)
    × GiveStates (at l.initial.vault) l.restores l.paths l.initial.urids l.number l.files l.urids
