use Rattle.host_main.proofs.checking.say.say_load.Goals as goal

pub returns-in-Missing-clause-said : goal.returns-in-Missing-clause-said
returns-in-Missing-clause-said g c = rw (c.in-Missing.is, ← c.as_str.ensures) c.put_line.ensures.said

pub returns-in-ReadFailed-clause-said : goal.returns-in-ReadFailed-clause-said
returns-in-ReadFailed-clause-said g c = rw (c.in-ReadFailed.is, ← c.as_str-in-ReadFailed.ensures) c.put_line-in-ReadFailed.ensures.said

pub returns-in-TooLong-clause-said : goal.returns-in-TooLong-clause-said
returns-in-TooLong-clause-said g c = rw c.in-TooLong.is c.put_line-in-TooLong.ensures.said
