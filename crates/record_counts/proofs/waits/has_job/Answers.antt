use Rattle.std.proofs.Common.{◌<◌, length, sym, arith}
use Rattle.record_counts.specs.Waits.{has_job_of}
use Rattle.record_counts.proofs.Ranges.{any_some, any_none}
use Rattle.record_counts.proofs.waits.has_job.Goals as goal

pub returns-then-has_job_of : goal.returns-then-has_job_of
returns-then-has_job_of c h counted =
    let within : c.loop-inst.inst < length c.args.shape.now.insts = omega arith in
    sym
    (any_some (has_job_of c.args.shape.now h c.args.actor) 0 (length c.args.shape.now.insts) c.loop-inst.inst (omega arith) (omega (arith, within))
    (sym (c.if-has_job_of.ensures h counted within)))

pub returns : goal.returns
returns c h counted =
    sym
    (any_none (has_job_of c.args.shape.now h c.args.actor) 0 (length c.args.shape.now.insts) (λ i least most. c.loop-inst.invariant h counted i (omega arith)))
