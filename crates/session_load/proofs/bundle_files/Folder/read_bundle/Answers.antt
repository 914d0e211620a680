use Rattle.std.proofs.Common.{ap, drop, ◌∙◌}
use Rattle.std.proofs.lemmas.List.{take_rest}
use Rattle.std.proofs.lemmas.Result.{err_from_is_err_and}
use Rattle.session_load.proofs.Loading.{later-then, unloaded-first, rows-of, fault-of}
use Rattle.session_load.proofs.bundle_files.Folder.read_bundle.Goals as goal

pub returns-in_err-read_manifest-clause-err : goal.returns-in_err-read_manifest-clause-err
returns-in_err-read_manifest-clause-err g c =
    let p = err_from_is_err_and c.from_residual.result c.from_residual.ensures.1 in
    rw (p.1, p.2)
    (unloaded-first _ _ c.args.self.now.path.now c.args.self.now.number c.args.store.now c.in_err-read_manifest.field-0.0 c.requires c.in_err-read_manifest.ensures.err)

pub returns-clause-ok : goal.returns-clause-ok
returns-clause-ok g c =
    let named = take_rest c.as_slice.result.now 1 ∙ ap (drop 1) (c.as_slice.ensures.keys ∙ c.in_ok-files.ensures) in
    rows-of _ _ c.args.self.now.path.now c.args.self.now.number _ c.args.store.now c.read_manifest.new.store _ c.read_files.result
    (record { later = c.read_manifest.ensures.later; begins = c.requires; manifest = c.in_ok-read_manifest.ensures.ok; named = named })
    c.read_files.ensures.ok

pub returns-clause-err : goal.returns-clause-err
returns-clause-err g c =
    let named = take_rest c.as_slice.result.now 1 ∙ ap (drop 1) (c.as_slice.ensures.keys ∙ c.in_ok-files.ensures) in
    fault-of _ _ _ c.args.self.now.path.now c.args.self.now.number _ c.args.store.now c.read_manifest.new.store c.read_files.result
    (record { later = c.read_manifest.ensures.later; begins = c.requires; manifest = c.in_ok-read_manifest.ensures.ok; named = named })
    c.read_files.ensures.err

pub returns-clause-later : goal.returns-clause-later
returns-clause-later g c = later-then _ _ _ c.read_manifest.ensures.later c.read_files.ensures.later
