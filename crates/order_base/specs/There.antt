-- Messages that name what is there in a session.
use Rattle.std.specs.Prelude.{◌<◌, length}
use Rattle.record_law.specs.declared.shape.Shape.{Shape}
use Rattle.record_terms.specs.declared.message.Message.{Message}
use Rattle.record_terms.specs.declared.message.Message.TheVariants.{Nothing, Body, Notice, Input, Lend, Part, Give, Save, Restore, Answer, Close}

-- the instance that a message names is there
abbrev pub IsThere : Shape → Message → Type 0
IsThere s Nothing = Unit {0}
IsThere s Body = Unit {0}
IsThere s (Notice inst) = inst < length s.insts
IsThere s (Input action) = Unit {0}
IsThere s (Lend inst) = inst < length s.insts
IsThere s (Part inst) = inst < length s.insts
IsThere s (Give inst) = inst < length s.insts
IsThere s (Save action inst) = inst < length s.insts
IsThere s (Restore action inst) = inst < length s.insts
IsThere s (Answer action) = Unit {0}
IsThere s Close = Unit {0}
