use Rattle.std.specs.Prelude.{Err}
use Rattle.turtle_read.specs.States.{state_of}
use Rattle.turtle_read.specs.Moves.{add}
use Rattle.turtle_read.proofs.Adds.{triple, added, refused, not_full, full_at}
use Rattle.std.proofs.Common.{arith}
use Rattle.turtle_read.proofs.environment.Environment.add.Goals as goal

pub returns-in-Ok-clause-value : goal.returns-in-Ok-clause-value
unfolding add
returns-in-Ok-clause-value c =
    added c.args.at c.args.s c.args.p c.args.o (state_of c.args.self.now) c.add.new.self c.in-Ok.field-0 c.in-Ok.ensures.ok
    (λ e. not_full c.args.self.now.store c.add.new.self (triple c.args.s c.args.p c.args.o) c.in-Ok.field-0 c.in-Ok.ensures.ok e c.args.self.now.room
    (λ most absent. let bad = c.in-Ok.ensures.full.1 (most, absent) in absurd (cc (bad, c.in-Ok.is))))

pub returns-in-Err-Full-clause-value : goal.returns-in-Err-Full-clause-value
unfolding add
returns-in-Err-Full-clause-value c =
    let full = c.in-Err-Full.ensures.full.0 (λ i. Err (c.in-Err-Full.field-0-is i)) in
    refused c.args.at c.args.s c.args.p c.args.o (state_of c.args.self.now) full.1 (full_at c.args.self.now.store full.0)

pub add-requires : goal.add-requires
add-requires c = let s = c.requires.s in let p = c.requires.p in let o = c.requires.o in omega (arith, s, p, o)
