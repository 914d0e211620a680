-- What a message of the program means.
use Rattle.record_law.specs.Message.{Message as Meant}
use Rattle.record_law.specs.Message.Message.{nothing, body, notice, input, lend, part, give, save, restore, answer, close}
use Rattle.record_terms.specs.declared.message.Message.{Message}
use Rattle.record_terms.specs.declared.message.Message.TheVariants.{Nothing, Body, Notice, Input, Lend, Part, Give, Save, Restore, Answer, Close}

abbrev pub meaning_of : Message → Meant
meaning_of Nothing = nothing
meaning_of Body = body
meaning_of (Notice inst) = notice inst
meaning_of (Input action) = input action
meaning_of (Lend inst) = lend inst
meaning_of (Part inst) = part inst
meaning_of (Give inst) = give inst
meaning_of (Save action inst) = save action inst
meaning_of (Restore action inst) = restore action inst
meaning_of (Answer action) = answer action
meaning_of Close = close
