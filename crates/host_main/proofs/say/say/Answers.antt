use Rattle.host_main.proofs.say.say.Goals as goal

pub returns-in-Missing-clause-said : goal.returns-in-Missing-clause-said
returns-in-Missing-clause-said g c =
    rw (c.in-Missing.is, ← c.as_str.ensures) c.put_line.ensures.said

pub returns-in-ReadFailed-clause-said : goal.returns-in-ReadFailed-clause-said
returns-in-ReadFailed-clause-said g c =
    rw (c.in-ReadFailed.is, ← c.as_str-in-ReadFailed.ensures) c.put_line-in-ReadFailed.ensures.said

pub returns-in-WriteFailed-clause-said : goal.returns-in-WriteFailed-clause-said
returns-in-WriteFailed-clause-said g c =
    rw c.in-WriteFailed.is (c.say_write_failed.ensures.said c.args.session.now)

pub returns-in-Script-clause-said : goal.returns-in-Script-clause-said
returns-in-Script-clause-said g c =
    rw (c.in-Script.is, ← c.format.ensures.text, ← c.rule_end.ensures) c.put_line-in-Script.ensures.said

pub returns-in-Later-clause-said : goal.returns-in-Later-clause-said
returns-in-Later-clause-said g c =
    rw (c.in-Later.is, ← c.format-in-Later.ensures.text) c.put_line-in-Later.ensures.said

pub returns-in-Past-clause-said : goal.returns-in-Past-clause-said
returns-in-Past-clause-said g c =
    let said = rw (c.format-in-Past.ensures.text, c.limit_front.ensures) at c.put_line-in-Past.ensures.said in
    rw c.in-Past.is said

pub returns-in-TooLong-clause-said : goal.returns-in-TooLong-clause-said
returns-in-TooLong-clause-said g c = rw c.in-TooLong.is c.put_line-in-TooLong.ensures.said

pub returns-in-NoMemory-clause-said : goal.returns-in-NoMemory-clause-said
returns-in-NoMemory-clause-said g c = rw c.in-NoMemory.is c.say_no_memory.ensures.said
