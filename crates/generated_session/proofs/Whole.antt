-- A generated text is a session.
use Rattle.std.proofs.Common.{◌≡◌, ℕ, ◌≤◌, Bool, true, false, cond, List, [], ◌∷◌, length, map, filter, None, refl, sym, ap, subst, ◌∙◌, arith}
use Rattle.std.specs.Prelude.{nat_lt}
use Rattle.std.specs.Option.{option_map}
use Rattle.std.proofs.lemmas.Bool.Decides.{nat_tests}
use Rattle.session_script.specs.declared.session.Session.{Session}
use Rattle.session_script.specs.Limits.{Count, counts, passed, is_save}
use Rattle.session_script.specs.Script.{IsSessionOf, session_of}
use Rattle.session_generate.specs.Lines.{Written, value_line}
use Rattle.session_generate.specs.Generated.{IsGenerated, first_values, outs}
use Rattle.generated_session.specs.Shape.{IsOfShape, uri_of}
use Rattle.generated_session.proofs.Holding.{session_held}
use Rattle.generated_session.proofs.Stages.{begun_by}
use Rattle.generated_session.proofs.Tables.{many_insts, plugins}
use Rattle.generated_session.proofs.Steps.{IsUp, head_up, value_up, outs_up}
use Rattle.generated_session.proofs.Turns.{IsActed, cables_up, actions_up}
use Rattle.generated_session.proofs.Unbroken.{not_found}

fewer : {X : Type 0} (p : X → Bool) (xs : List X) → length (filter p xs) ≤ length xs
fewer p [] = omega arith
fewer p (x ∷ xs) =
    let rest = fewer p xs in
    elim (p x) as (λ b. length (cond b (x ∷ filter p xs) (filter p xs)) ≤ length (x ∷ xs)) [ true ↦ omega arith | false ↦ omega arith ]

within : (n m : ℕ) → n ≤ m → nat_lt m n ≡ false
within n m h = grind (arith, nat_tests)

-- these counts are within the limits
none_passed : (s : Session) → length s.bundles ≡ 0 → length s.insts ≡ 16 → length s.cables ≡ 8 → length s.outs ≡ 2 → length s.actions ≡ 64 → s.block ≡ 64 → s.blocks ≡ 512 → passed s ≡ None
none_passed s bundles insts cables outs actions block blocks =
    let saves : nat_lt 128 (length (filter is_save s.actions)) ≡ false = within (length (filter is_save s.actions)) 128 (omega (arith, fewer is_save s.actions)) in
    ap (option_map (λ (count : Count). (count.which, count.number)))
    (not_found (λ (count : Count). nat_lt count.limit count.number) (counts s) (rw (bundles, insts, cables, outs, actions, block, blocks, saves) refl))

first_up : (it : Written) → IsUp it.text 3 0 0 0 0 → IsUp (first_values it).text 4 0 0 0 0
first_up it up =
    value_up (value_line 0 it) 8 4 0 0 0 0 (omega arith) refl (record { begun = refl; timely = refl; low = refl })
    (value_up it 0 3 0 0 0 0 (omega arith) refl (record { begun = refl; timely = refl; low = refl }) up)

all_up : (seed : ℕ) (text : List ℕ) → IsGenerated seed text → IsActed text 8 2 64
all_up seed text is =
    let insts = head_up seed is.lines.with_insts is.lines.insts in
    let cables = cables_up (first_values is.lines.with_insts) is.lines.with_cables is.lines.cables (first_up is.lines.with_insts insts) in
    let heard = outs_up is.lines.with_cables 5 8 0 0 (record { begun = refl; timely = refl; low = refl }) cables in
    let acted = actions_up (outs is.lines.with_cables) is.last 6 8 2 is.lines.actions (record { begun = refl; timely = refl; low = refl }) heard in
    subst (λ t. IsActed t 8 2 64) (sym is.is) acted

pub is_session : (seed : ℕ) (text : List ℕ) → IsGenerated seed text → (session : Session) × IsSessionOf text session × IsOfShape session
is_session seed text generated =
    let acted = all_up seed text generated in
    let ls = acted.up.ls in
    let is = acted.up.is in
    let shape : IsOfShape (session_of ls) = record {
      block = is.block;
      blocks = is.blocks;
      insts = ap (map uri_of) is.insts ∙ plugins;
      sets = is.sets;
      count_cables = is.count_cables;
      cables = is.leads;
      count_outs = is.count_outs;
      outs = is.heard;
      in_blocks = is.in_blocks;
      actions = is.drawn;
    } in
    (session_of ls, session_held text ls acted.up.holds (begun_by ls acted.section 7 8 2 64 acted.last is acted.goes) (none_passed (session_of ls) is.bundles (ap length is.insts ∙ many_insts) is.count_cables is.count_outs is.count_actions is.block is.blocks), shape)
