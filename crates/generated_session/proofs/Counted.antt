-- Each number has one text.
use Rattle.std.proofs.Common.{◌≡◌, ℕ, List, [], fold, refl, sym, ap, ◌∙◌}
use Rattle.std.specs.List.{range_with_len}
use Rattle.session_generate.specs.Lines.{Written, inst_line, cable_lines, action_line}
use Rattle.session_generate.specs.Generated.{WritesEach, WritesAll, IsGenerated, settings, first_values, outs}

-- what lines make of a text and a state. Not an abbrev, so that no proof computes it
after : (lines : Written → ℕ → Written) (count : ℕ) (old : Written) → Written
after lines count old = fold lines old (range_with_len 0 count)

writes : (lines : Written → ℕ → Written) (count : ℕ) (old : Written) → WritesEach lines count old (after lines count old)
unfolding after
writes lines count old = record { each = refl }

same_each : (lines : Written → ℕ → Written) (count : ℕ) (old other a b : Written) → old ≡ other → WritesEach lines count old a → WritesEach lines count other b → a ≡ b
same_each lines count old other a b e x y = x.each ∙ ap (λ it. fold lines it (range_with_len 0 count)) e ∙ sym y.each

same_all : (old a b : Written) → WritesAll old a → WritesAll old b → a ≡ b
same_all old a b x y =
    let insts = same_each inst_line 16 (settings old) (settings old) x.with_insts y.with_insts refl x.insts y.insts in
    let cables = same_each cable_lines 16 (first_values x.with_insts) (first_values y.with_insts) x.with_cables y.with_cables (ap first_values insts) x.cables y.cables in
    same_each action_line 64 (outs x.with_cables) (outs y.with_cables) a b (ap outs cables) x.actions y.actions

pub one_text : (seed : ℕ) (a b : List ℕ) → IsGenerated seed a → IsGenerated seed b → a ≡ b
one_text seed a b x y = x.is ∙ ap (λ (it : Written). it.text) (same_all (record { state = seed; text = [] }) x.last y.last x.lines y.lines) ∙ sym y.is

pub some_text : (seed : ℕ) → (text : List ℕ) × IsGenerated seed text
some_text seed =
    let old : Written = record { state = seed; text = [] } in
    let with_insts = after inst_line 16 (settings old) in
    let with_cables = after cable_lines 16 (first_values with_insts) in
    let last = after action_line 64 (outs with_cables) in (
      last.text,
      record {
        last = last;
        lines = record {
          with_insts = with_insts;
          with_cables = with_cables;
          insts = writes inst_line 16 (settings old);
          cables = writes cable_lines 16 (first_values with_insts);
          actions = writes action_line 64 (outs with_cables);
        };
        is = refl;
      },
    )
