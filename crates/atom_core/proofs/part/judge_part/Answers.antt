use Rattle.std.proofs.Common.{◌≡◌, ◌≤◌, ◌+◌, ◌-◌, true, false, arith, sym, ap, subst, ◌∙◌}
use Rattle.std.proofs.lemmas.Result.{err_from_is_err_and}
use Rattle.atom_core.specs.Form.{lead_len, is_container}
use Rattle.atom_core.specs.Place.{number_at, size_at, padded}
use Rattle.atom_core.specs.Content.{IsOwn, OwnFault, end_at}
use Rattle.atom_core.specs.Steps.{IsPartThere, Enters}
use Rattle.atom_core.proofs.Numbers.{IsBytes}
use Rattle.atom_core.proofs.Entering.{own_fault, pad_fault, past, enters, zero_fault_at, zero_at}
use Rattle.atom_core.proofs.part.judge_part.Goals as goal

pub returns-in_err-form : goal.returns-in_err-form
returns-in_err-form c =
    let form = c.args.inside.form in
    let bytes = c.args.bytes.now in
    let h : IsBytes bytes = λ i. omega (arith, c.type_inv.bytes i) in
    let lead : c.lead_len-lead.result ≡ lead_len form = c.lead_len-lead.ensures in
    let size : c.u32_at-size.result ≡ size_at bytes (c.args.at + lead_len form) = c.u32_at-size.ensures ∙ ap (λ k. number_at bytes (c.args.at + k)) lead in
    let room : lead_len form + 8 ≤ c.args.inside.end - c.args.at = omega (arith, c.if-inside-at.false, lead) in
    let fits : c.args.at + lead_len form + padded (8 + size_at bytes (c.args.at + lead_len form)) ≤ c.args.inside.end =
    omega (arith, c.if-inside-next.false, c.padded.ensures, size, lead) in
    let p = err_from_is_err_and c.from_residual.result c.from_residual.ensures.1 in
    rw (p.1, p.2)
    (own_fault c.args.levels bytes form c.args.at c.args.inside.end h c.requires.ends c.requires.container room (omega (arith, c.if-levels-eq0.false)) fits
    c.in_err-form.field-0.0 (subst (λ k. OwnFault bytes (c.args.at + k) c.in_err-form.field-0.0) lead c.in_err-form.ensures))

pub returns-then-is_container : goal.returns-then-is_container
returns-then-is_container c =
    let form = c.args.inside.form in
    let bytes = c.args.bytes.now in
    let inner = c.in_ok-form.form in
    let h : IsBytes bytes = λ i. omega (arith, c.type_inv.bytes i) in
    let lead : c.lead_len-lead.result ≡ lead_len form = c.lead_len-lead.ensures in
    let size : c.u32_at-size.result ≡ size_at bytes (c.args.at + lead_len form) = c.u32_at-size.ensures ∙ ap (λ k. number_at bytes (c.args.at + k)) lead in
    let room : lead_len form + 8 ≤ c.args.inside.end - c.args.at = omega (arith, c.if-inside-at.false, lead) in
    let fits : c.args.at + lead_len form + padded (8 + size_at bytes (c.args.at + lead_len form)) ≤ c.args.inside.end =
    omega (arith, c.if-inside-next.false, c.padded.ensures, size, lead) in
    let own : IsOwn bytes (c.args.at + lead_len form) inner = subst (λ k. IsOwn bytes (c.args.at + k) inner) lead c.in_ok-form.ensures in
    let holds : is_container inner ≡ true = sym c.is_container.ensures ∙ c.if-is_container.true in
    let found = enters c.args.levels bytes form c.args.at c.args.inside.end h c.requires.ends c.requires.container room (omega (arith, c.if-levels-eq0.false)) fits inner own holds in
    let first : c.args.at + lead_len form + 8 + lead_len inner ≡ c.args.at + c.lead_len-lead.result + 8 + c.lead_len.result = omega (arith, lead, c.lead_len.ensures) in
    let last : end_at bytes (c.args.at + lead_len form) ≡ c.args.at + c.lead_len-lead.result + 8 + c.u32_at-size.result = omega (arith, lead, size) in
    let moved : Enters c.args.levels bytes form c.args.at c.args.inside.end inner (c.args.at + c.lead_len-lead.result + 8 + c.lead_len.result) (end_at bytes (c.args.at + lead_len form)) =
    subst (λ k. Enters c.args.levels bytes form c.args.at c.args.inside.end inner k (end_at bytes (c.args.at + lead_len form))) first found in
    subst (λ k. Enters c.args.levels bytes form c.args.at c.args.inside.end inner (c.args.at + c.lead_len-lead.result + 8 + c.lead_len.result) k) last moved

pub returns-in_err-judge_zeros : goal.returns-in_err-judge_zeros
returns-in_err-judge_zeros c =
    let form = c.args.inside.form in
    let bytes = c.args.bytes.now in
    let inner = c.in_ok-form.form in
    let header = c.args.at + lead_len form in
    let fault = c.in_err-judge_zeros.field-0.0 in
    let h : IsBytes bytes = λ i. omega (arith, c.type_inv.bytes i) in
    let lead : c.lead_len-lead.result ≡ lead_len form = c.lead_len-lead.ensures in
    let size : c.u32_at-size.result ≡ size_at bytes (c.args.at + lead_len form) = c.u32_at-size.ensures ∙ ap (λ k. number_at bytes (c.args.at + k)) lead in
    let room : lead_len form + 8 ≤ c.args.inside.end - c.args.at = omega (arith, c.if-inside-at.false, lead) in
    let fits : c.args.at + lead_len form + padded (8 + size_at bytes (c.args.at + lead_len form)) ≤ c.args.inside.end =
    omega (arith, c.if-inside-next.false, c.padded.ensures, size, lead) in
    let own : IsOwn bytes (c.args.at + lead_len form) inner = subst (λ k. IsOwn bytes (c.args.at + k) inner) lead c.in_ok-form.ensures in
    let leaf : is_container inner ≡ false = sym c.is_container.ensures ∙ c.if-is_container.false in
    let p = err_from_is_err_and c.from_residual-in_err-judge_zeros.result c.from_residual-in_err-judge_zeros.ensures.1 in
    rw (p.1, p.2)
    (pad_fault c.args.levels bytes form c.args.at c.args.inside.end h c.requires.ends c.requires.container room (omega (arith, c.if-levels-eq0.false)) fits inner own leaf fault
    (zero_fault_at bytes _ _ (end_at bytes header) (header + padded (8 + size_at bytes header)) fault (omega (arith, lead, size)) (omega (arith, lead, size, c.padded.ensures)) c.in_err-judge_zeros.ensures))

pub returns : goal.returns
returns c =
    let form = c.args.inside.form in
    let bytes = c.args.bytes.now in
    let inner = c.in_ok-form.form in
    let header = c.args.at + lead_len form in
    let h : IsBytes bytes = λ i. omega (arith, c.type_inv.bytes i) in
    let lead : c.lead_len-lead.result ≡ lead_len form = c.lead_len-lead.ensures in
    let size : c.u32_at-size.result ≡ size_at bytes (c.args.at + lead_len form) = c.u32_at-size.ensures ∙ ap (λ k. number_at bytes (c.args.at + k)) lead in
    let room : lead_len form + 8 ≤ c.args.inside.end - c.args.at = omega (arith, c.if-inside-at.false, lead) in
    let fits : c.args.at + lead_len form + padded (8 + size_at bytes (c.args.at + lead_len form)) ≤ c.args.inside.end =
    omega (arith, c.if-inside-next.false, c.padded.ensures, size, lead) in
    let own : IsOwn bytes (c.args.at + lead_len form) inner = subst (λ k. IsOwn bytes (c.args.at + k) inner) lead c.in_ok-form.ensures in
    let leaf : is_container inner ≡ false = sym c.is_container.ensures ∙ c.if-is_container.false in
    let next : header + padded (8 + size_at bytes header) ≡ c.args.at + c.lead_len-lead.result + c.padded.result = omega (arith, lead, size, c.padded.ensures) in
    let there = past c.args.levels bytes form c.args.at c.args.inside.end h c.requires.ends c.requires.container room (omega (arith, c.if-levels-eq0.false)) fits inner own leaf
    (zero_at bytes _ _ (end_at bytes header) (header + padded (8 + size_at bytes header)) (omega (arith, lead, size)) (omega (arith, lead, size, c.padded.ensures)) c.in_ok-judge_zeros.ensures) in
    (omega (arith, c.padded.ensures), omega (arith, c.if-inside-next.false), omega (arith, c.if-levels-eq0.false), subst (λ k. IsPartThere c.args.levels bytes form c.args.at k) next there)
