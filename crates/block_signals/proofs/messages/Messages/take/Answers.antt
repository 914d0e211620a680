use Rattle.std.proofs.Common.{◌∙◌, arith}
use Rattle.atom_core.proofs.Firsts.{fits_more}
use Rattle.session_play.specs.Signals.{at_start}
use Rattle.block_signals.proofs.Keeping.{keeps_full, keeps_next, message_is}
use Rattle.block_signals.proofs.messages.Messages.take.Goals as goal

pub over-requires : goal.over-requires
over-requires c =
    let are = c.requires.atom in ∣ (are.0, record { fits = fits_more 15 16 are.0 (omega arith) are.1.0; bytes_are = are.1.1 }) ∣₁

pub returns-then-not-self-clause-kept : goal.returns-then-not-self-clause-kept
returns-then-not-self-clause-kept c = λ room messages value keeps are.
    keeps_next room messages c.args.self.now c.put_event.new.into c.is_err-self.result (at_start value) c.put_event.result keeps c.if-not-self.true
    (message_is c.args.atom.now value are) (c.put_event.ensures.event value (are.0, c.over.ensures ∙ are.1)) c.is_err-self.ensures.value

pub returns-else-not-self-clause-kept : goal.returns-else-not-self-clause-kept
returns-else-not-self-clause-kept c = λ room messages value keeps are.
    keeps_full room messages c.args.self.now (at_start value) keeps c.if-not-self.false (message_is c.args.atom.now value are)
