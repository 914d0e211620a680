use Rattle.patch_control.proofs.Gathered.{one_more}
use Rattle.patch_control.proofs.found.Found.fill.Goals as goal

pub loop-key-preserved : goal.loop-key-preserved
loop-key-preserved c = λ all spells gathers.
    let l = c.loop-key.invariant all spells gathers in
    one_more all c.loop-key.properties c.next.new.self c.loop-key.self c.add.new.self (c.in-Some.key, c.in-Some.field-0-1, c.in-Some.atom) l
    (c.in-Some.ensures.steps l.rest l.spells) c.add.ensures
