use Rattle.std.proofs.lemmas.Result.{err_from_is_err_and}
use Rattle.session_setup.proofs.Judged.{declares-more, declares-stop, valid-more, length-more}
use Rattle.session_setup.proofs.declaring.add_declarations.Goals as goal

pub loop-inst-preserved : goal.loop-inst-preserved
loop-inst-preserved g c = (
  declares-more (g.C.Codes.meaning c.args.codes.now).text c.args.bundles.now c.args.block c.args.insts.now c.loop-inst.inst-index c.inst-item.result c.loop-inst.decls c.push.new.self c.in_ok-decl.decl
      c.loop-inst-test.true c.inst-item.is c.in_ok-push.ensures.ok c.loop-inst.invariant.0 c.in_ok-decl.ensures.ok,
  length-more c.loop-inst.decls c.push.new.self c.in_ok-decl.decl c.loop-inst.inst-index c.in_ok-push.ensures.ok c.loop-inst.invariant.1,
  valid-more c.loop-inst.decls c.push.new.self c.in_ok-decl.decl c.in_ok-push.ensures.ok c.loop-inst.invariant.2 c.in_ok-decl.ensures.valid,
)

pub returns-in_err-decl-clause-err : goal.returns-in_err-decl-clause-err
returns-in_err-decl-clause-err g c =
    let p = err_from_is_err_and c.from_residual.result c.from_residual.ensures.1 in
    rw (p.1, p.2)
    (declares-stop (g.C.Codes.meaning c.args.codes.now).text c.args.bundles.now c.args.block c.args.insts.now c.loop-inst.inst-index c.inst-item.result c.loop-inst.decls c.in_err-decl.field-0.0
    c.loop-inst-test.true c.inst-item.is c.loop-inst.invariant.0 c.in_err-decl.ensures.err)
