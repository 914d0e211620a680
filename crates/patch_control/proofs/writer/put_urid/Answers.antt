use Rattle.std.proofs.lemmas.Result.{err_from_is_err_and}
use Rattle.atom_core.specs.Value.{keyed}
use Rattle.atom_core.specs.Spelling.{part_of}
use Rattle.patch_control.specs.Written.{urid_value}
use Rattle.patch_control.proofs.Filling.{tries_fail, lead_fails, lead_within, atom_follows}
use Rattle.patch_control.proofs.writer.put_urid.Goals as goal

pub returns-in_err-key : goal.returns-in_err-key
returns-in_err-key c =
    let lead = keyed c.args.key 0 in
    let value = urid_value c.args.number in
    let p = err_from_is_err_and c.from_residual.result c.from_residual.ensures.1 in
    tries_fail c.args.f.now c.key.new.self (part_of lead value) c.from_residual.result _ p.1
    (lead_fails c.args.f.now c.key.new.self lead value c.in_err-key.ensures.0 c.in_err-key.ensures.1)

pub returns : goal.returns
returns c =
    atom_follows c.args.f.now c.key.new.self c.urid.new.self (keyed c.args.key 0) (urid_value c.args.number) c.urid.result (lead_within c.args.f.now c.requires.lead)
    c.in_ok-key.ensures.0 c.in_ok-key.ensures.1 c.urid.ensures
