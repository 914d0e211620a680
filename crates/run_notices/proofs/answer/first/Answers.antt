use Rattle.std.proofs.Common.{◌≡◌, ◌+◌, ◌≤◌, ℕ, List, length, slice_range, ap, ◌∙◌, subst, arith}
use Rattle.atom_core.specs.Atoms.{AreEvents}
use Rattle.run_notices.proofs.Heard.{event_heard, event_room, none_heard}
use Rattle.run_notices.proofs.answer.first.Goals as goal

pub returns-in_err-atom-clause-none : goal.returns-in_err-atom-clause-none
returns-in_err-atom-clause-none c =
    rw c.from_residual.ensures
    (none_heard c.args.events.now c.next.new.self (subst (λ (b : List ℕ). ∥ AreEvents b ∥₁) c.bytes-bytes.ensures.value c.bytes-bytes.ensures.spelled)
    c.in_err-atom.ensures.steps)

pub atom_in-whole-requires : goal.atom_in-whole-requires
atom_in-whole-requires c =
    let room : 16 + length c.body.result.now ≤ length c.args.events.now =
    event_room c.args.events.now c.next.new.self (c.in_ok-atom.field-0-0, c.in_ok-atom.atom) c.body.result.now
    (subst (λ (b : List ℕ). ∥ AreEvents b ∥₁) c.bytes-bytes.ensures.value c.bytes-bytes.ensures.spelled) c.in_ok-atom.ensures.steps c.body.ensures.value in
    omega (arith, room, ap length c.bytes-bytes.ensures.value)

pub returns-clause-some : goal.returns-clause-some
returns-clause-some c =
    event_heard c.args.events.now c.next.new.self (c.in_ok-atom.field-0-0, c.in_ok-atom.atom) c.is_answer.result c.atom_in-whole.result.now c.body.result.now
    (subst (λ (b : List ℕ). ∥ AreEvents b ∥₁) c.bytes-bytes.ensures.value c.bytes-bytes.ensures.spelled) c.in_ok-atom.ensures.steps c.is_answer.ensures
    c.body.ensures.value (c.atom_in-whole.ensures ∙ ap (λ (b : List ℕ). slice_range b 8 (16 + length c.body.result.now)) c.bytes-bytes.ensures.value)
