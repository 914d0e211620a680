use Rattle.session_states.proofs.Earlier.{gives, refuses}
use Rattle.session_states.proofs.one_file.StateFile.read_states.Goals as goal

pub returns-clause-ok : goal.returns-clause-ok
returns-clause-ok g c =
    gives _ c.args.restores.now c.args.self.now.number c.args.self.now.path.now c.read_rows.new.store c.args.urids.now c.judge.new.urids c.judge.result
    c.in_ok-read_rows.ensures.ok c.judge.ensures.ok

pub returns-clause-err : goal.returns-clause-err
returns-clause-err g c =
    refuses (g.V.Vault.state c.args.vault.now) (g.V.Vault.state c.read_rows.new.vault) c.args.restores.now c.args.self.now.number c.args.self.now.path.now c.read_rows.new.store c.args.urids.now c.judge.result
    c.in_ok-read_rows.ensures.ok c.judge.ensures.err
