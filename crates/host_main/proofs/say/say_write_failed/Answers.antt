use Rattle.std.proofs.Common.{append_assoc}
use Rattle.host_main.proofs.say.say_write_failed.Goals as goal

pub returns-in-Record-clause-said : goal.returns-in-Record-clause-said
returns-in-Record-clause-said g c = λ session.
    rw (c.in-Record.is, append_assoc, ← c.as_str.ensures) c.put_line.ensures.said

pub returns-in-Sound-clause-said : goal.returns-in-Sound-clause-said
returns-in-Sound-clause-said g c = λ session.
    rw (c.in-Sound.is, append_assoc, ← c.as_str-in-Sound.ensures) c.put_line-in-Sound.ensures.said

pub returns-in-State-clause-said : goal.returns-in-State-clause-said
returns-in-State-clause-said g c = λ session.
    rw (c.in-State.is, append_assoc, ← c.as_str-in-State.ensures) c.put_line-in-State.ensures.said

pub returns-in-Summary-clause-said : goal.returns-in-Summary-clause-said
returns-in-Summary-clause-said g c = λ session. rw c.in-Summary.is c.put_line-in-Summary.ensures.said
