use Rattle.std.proofs.Common.{◌≡◌, ◌+◌, ◌-◌, ◌<◌, ◌≤◌, List, ℕ, length, take, drop, get_or, ap, subst, ◌∙◌}
use Rattle.std.specs.List.{position_or_len}
use Rattle.std.proofs.lemmas.List.{take_rest}
use Rattle.step_law.specs.Entry.{done_of}
use Rattle.record_law.specs.Entries.{same_entry}
use Rattle.record_law.specs.Message.{History}
use Rattle.audio_order.specs.declared.audio_stage.AudioStage.TheVariants.{Before}
use Rattle.record_terms.specs.declared.message.Message.TheVariants.{Nothing}
use Rattle.audio_order.specs.Audio.{audio_goes}
use Rattle.audio_order.specs.Fronts.{has_front}
use Rattle.record_terms.specs.Message.{meaning_of}
use Rattle.audio_order.proofs.AudioTasks.{run_next, run_none, wanted}
use Rattle.audio_order.proofs.audio.AudioView.running.Goals as goal

pub returns-then-place-plan-clause-judged : goal.returns-then-place-plan-clause-judged
returns-then-place-plan-clause-judged c =
    let v = c.args.self.now in
    let from = c.args.from in
    let n = c.first_present.result in
    let plan = c.as_slice-plan.result.now in
    let same : plan ≡ v.shape.now.plan = c.as_slice-plan.ensures in
    let rest : take (length plan - from) (drop from plan) ≡ drop from v.shape.now.plan = take_rest plan from ∙ ap (drop from) same in
    let is_n : n ≡ position_or_len (has_front v.fronts.now) (drop from v.shape.now.plan) = c.first_present.ensures.value ∙ ap (position_or_len (has_front v.fronts.now)) rest in
    let less : from + n < length v.shape.now.plan = subst (λ (xs : List ℕ). from + n < length xs) same c.if-place-plan.true in
    let is : get_or plan (from + n) 0 ≡ get_or v.shape.now.plan (from + n) 0 = ap (λ xs. get_or xs (from + n) 0) same in
    λ (h : History) are.
    run_next v.shape.now h (meaning_of v.brought) v.entry v.fronts.now c.args.block from n (get_or plan (from + n) 0) are c.requires.view.count c.requires.view.limits.plan is_n less is
    ∙ c.begin.ensures.judged h are

pub returns-else-place-plan-clause-judged : goal.returns-else-place-plan-clause-judged
returns-else-place-plan-clause-judged c =
    let v = c.args.self.now in
    let from = c.args.from in
    let n = c.first_present.result in
    let block = c.args.block in
    let plan = c.as_slice-plan.result.now in
    let same : plan ≡ v.shape.now.plan = c.as_slice-plan.ensures in
    let rest : take (length plan - from) (drop from plan) ≡ drop from v.shape.now.plan = take_rest plan from ∙ ap (drop from) same in
    let is_n : n ≡ position_or_len (has_front v.fronts.now) (drop from v.shape.now.plan) = c.first_present.ensures.value ∙ ap (position_or_len (has_front v.fronts.now)) rest in
    let past : length v.shape.now.plan ≤ from + n = subst (λ (xs : List ℕ). length xs ≤ from + n) same c.if-place-plan.false in
    let answer = c.expect.ensures.value ∙ ap (λ it. audio_goes (same_entry it v.entry) Nothing (Before (block + 1))) c.done.ensures in
    λ (h : History) are.
    run_none v.shape.now h (meaning_of v.brought) v.entry v.fronts.now block from n are c.requires.view.count c.requires.view.limits.plan is_n past
    ∙ wanted v.shape.now (same_entry (done_of block) v.entry) Nothing (Before (block + 1)) _ c.expect.result answer
