use Rattle.std.proofs.Common.{◌≡◌, ◌≤◌, ◌+◌, length, arith, sym, subst, ◌∙◌}
use Rattle.std.proofs.lemmas.Result.{err_from_is_err_and}
use Rattle.atom_core.specs.declared.fault.AtomFault.TheVariants.{BadSize}
use Rattle.atom_core.specs.Form.{lead_len}
use Rattle.atom_core.specs.Content.{end_at}
use Rattle.atom_core.specs.Parts.{PartsFault, StandsAtom}
use Rattle.atom_core.specs.Steps.{ArePartsThere}
use Rattle.atom_core.specs.Answer.{HasFault}
use Rattle.atom_core.proofs.Numbers.{IsBytes}
use Rattle.atom_core.proofs.Wholes.{parts_wrong, plain_there, holding_there, followed, alone}
use Rattle.atom_core.proofs.outer.check.Goals as goal
use Rattle.atom_core.proofs.outer.check.Goals.{then-is_container+in_ok-judge_parts, else-is_container}

pub returns-in_err-judge_parts : goal.returns-in_err-judge_parts
returns-in_err-judge_parts c =
    let bytes = c.args.bytes.now in
    let form = c.in_ok-form.form in
    let fault = c.in_err-judge_parts.field-0.0 in
    let h : IsBytes bytes = λ i. omega (arith, c.type_inv.bytes i) in
    let last : 8 + c.u32_at.result ≡ end_at bytes 0 = omega (arith, c.u32_at.ensures) in
    let inside : end_at bytes 0 ≤ length bytes = omega (arith, c.if-bytes-end.false, last) in
    let wrong : PartsFault 16 bytes form (8 + c.lead_len.result) (8 + c.u32_at.result) fault = c.in_err-judge_parts.ensures in
    let first : PartsFault 16 bytes form (8 + lead_len form) (8 + c.u32_at.result) fault =
    subst (λ k. PartsFault 16 bytes form (8 + k) (8 + c.u32_at.result) fault) c.lead_len.ensures wrong in
    let p = err_from_is_err_and c.from_residual-in_err-judge_parts.result c.from_residual-in_err-judge_parts.ensures.1 in
    rw (p.1, p.2)
    (parts_wrong bytes h c.if-bytes-lt8.false inside form c.in_ok-form.ensures (sym c.is_container.ensures ∙ c.if-is_container.true) fault
    (subst (λ k. PartsFault 16 bytes form (8 + lead_len form) k fault) last first))

pub returns-then-end-bytes : goal.returns-then-end-bytes
returns-then-end-bytes c =
    let bytes = c.args.bytes.now in
    let form = c.in_ok-form.form in
    let h : IsBytes bytes = λ i. omega (arith, c.type_inv.bytes i) in
    let last : 8 + c.u32_at.result ≡ end_at bytes 0 = omega (arith, c.u32_at.ensures) in
    let inside : end_at bytes 0 ≤ length bytes = omega (arith, c.if-bytes-end.false, last) in
    let atom : StandsAtom 16 bytes 0 (end_at bytes 0) =
    elim c.if-is_container.branch [
      | then-is_container+in_ok-judge_parts w ↦
          let there : ArePartsThere 16 bytes form (8 + w.lead_len.result) (8 + c.u32_at.result) = w.in_ok-judge_parts.ensures in
          let first : ArePartsThere 16 bytes form (8 + lead_len form) (8 + c.u32_at.result) =
          subst (λ k. ArePartsThere 16 bytes form (8 + k) (8 + c.u32_at.result)) w.lead_len.ensures there in
          holding_there bytes h c.if-bytes-lt8.false inside form c.in_ok-form.ensures (sym c.is_container.ensures ∙ w.if-is_container.true)
          (subst (λ k. ArePartsThere 16 bytes form (8 + lead_len form) k) last first)
      | else-is_container w ↦ plain_there bytes h c.if-bytes-lt8.false inside form c.in_ok-form.ensures (sym c.is_container.ensures ∙ w.if-is_container.false)
    ] in
    subst (λ k. HasFault bytes (BadSize k)) (sym last) (followed bytes h c.if-bytes-lt8.false inside atom (omega (arith, c.if-end-bytes.true, last)))

pub returns : goal.returns
returns c =
    let bytes = c.args.bytes.now in
    let form = c.in_ok-form.form in
    let h : IsBytes bytes = λ i. omega (arith, c.type_inv.bytes i) in
    let last : 8 + c.u32_at.result ≡ end_at bytes 0 = omega (arith, c.u32_at.ensures) in
    let inside : end_at bytes 0 ≤ length bytes = omega (arith, c.if-bytes-end.false, last) in
    let atom : StandsAtom 16 bytes 0 (end_at bytes 0) =
    elim c.if-is_container.branch [
      | then-is_container+in_ok-judge_parts w ↦
          let there : ArePartsThere 16 bytes form (8 + w.lead_len.result) (8 + c.u32_at.result) = w.in_ok-judge_parts.ensures in
          let first : ArePartsThere 16 bytes form (8 + lead_len form) (8 + c.u32_at.result) =
          subst (λ k. ArePartsThere 16 bytes form (8 + k) (8 + c.u32_at.result)) w.lead_len.ensures there in
          holding_there bytes h c.if-bytes-lt8.false inside form c.in_ok-form.ensures (sym c.is_container.ensures ∙ w.if-is_container.true)
          (subst (λ k. ArePartsThere 16 bytes form (8 + lead_len form) k) last first)
      | else-is_container w ↦ plain_there bytes h c.if-bytes-lt8.false inside form c.in_ok-form.ensures (sym c.is_container.ensures ∙ w.if-is_container.false)
    ] in
    alone bytes h c.if-bytes-lt8.false inside atom (omega (arith, c.if-end-bytes.false, last))
