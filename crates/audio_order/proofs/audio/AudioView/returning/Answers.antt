use Rattle.std.proofs.Common.{◌≡◌, ◌+◌, ◌-◌, ◌<◌, ◌≤◌, ◌||◌, Bool, length, take, drop, ap, ◌∙◌, arith}
use Rattle.std.specs.List.{position_or_len}
use Rattle.std.proofs.lemmas.List.{take_rest}
use Rattle.step_law.specs.declared.actor.Actor.TheVariants.{Audio}
use Rattle.step_law.specs.declared.ring.Ring.TheVariants.{AudioToControl}
use Rattle.step_law.specs.Entry.{send_of, full_of}
use Rattle.record_law.specs.Entries.{same_entry}
use Rattle.record_law.specs.Message.{History}
use Rattle.audio_order.specs.declared.audio_stage.AudioStage.TheVariants.{Returning}
use Rattle.record_terms.specs.declared.message.Message.TheVariants.{Part}
use Rattle.audio_order.specs.Fronts.{is_wanted}
use Rattle.record_terms.specs.Message.{meaning_of}
use Rattle.audio_order.proofs.AudioTasks.{send_next, send_none, made_goes}
use Rattle.audio_order.proofs.audio.AudioView.returning.Goals as goal

pub returns-then-inst-len-clause-judged : goal.returns-then-inst-len-clause-judged
returns-then-inst-len-clause-judged c =
    let v = c.args.self.now in
    let from = c.args.from in
    let n = c.first_wanted.result in
    let fronts = c.as_slice.result.now in
    let same : fronts ≡ v.fronts.now = c.as_slice.ensures in
    let rest : take (length fronts - from) (drop from fronts) ≡ drop from v.fronts.now = take_rest fronts from ∙ ap (drop from) same in
    let is_n : n ≡ position_or_len is_wanted (drop from v.fronts.now) = c.first_wanted.ensures.value ∙ ap (position_or_len is_wanted) rest in
    let less : from + n < length v.shape.now.insts = omega arith in
    let sent : Bool = same_entry (send_of Audio AudioToControl) v.entry || same_entry (full_of Audio AudioToControl) v.entry in
    λ (h : History) are.
    send_next v.shape.now h (meaning_of v.brought) v.entry v.fronts.now c.args.block from n are c.requires.view.count is_n less
    ∙ made_goes v.shape.now sent (Part (from + n)) (Returning c.args.block (from + n + 1)) c.sent.result c.sent.ensures.value

pub returns-else-inst-len-clause-judged : goal.returns-else-inst-len-clause-judged
returns-else-inst-len-clause-judged c =
    let v = c.args.self.now in
    let from = c.args.from in
    let n = c.first_wanted.result in
    let fronts = c.as_slice.result.now in
    let same : fronts ≡ v.fronts.now = c.as_slice.ensures in
    let rest : take (length fronts - from) (drop from fronts) ≡ drop from v.fronts.now = take_rest fronts from ∙ ap (drop from) same in
    let is_n : n ≡ position_or_len is_wanted (drop from v.fronts.now) = c.first_wanted.ensures.value ∙ ap (position_or_len is_wanted) rest in
    let past : length v.shape.now.insts ≤ from + n = omega arith in
    λ (h : History) are.
    send_none v.shape.now h (meaning_of v.brought) v.entry v.fronts.now c.args.block from n are c.requires.view.count is_n past ∙ c.running.ensures.judged h are
