-- How long a generated text is at most.
use Rattle.std.proofs.Common.{◌≡◌, ℕ, zero, suc, ◌+◌, ◌*◌, ◌%◌, ◌<◌, ◌≤◌, true, List, [], ◌++◌, length, fold, refl, sym, ap, subst, arith, length-append, mod-lt, leb-true}
use Rattle.std.specs.Prelude.{codes, decimal, nat_le}
use Rattle.std.specs.Fmt.{digits}
use Rattle.std.specs.List.{range_with_len}
use Rattle.session_generate.specs.Draws.{next, drawn}
use Rattle.session_generate.specs.Lines.{Written, write, after_draw, fraction, inst_line, value_line, cable_line, cable_lines, action_line}
use Rattle.session_generate.specs.Generated.{WritesEach, IsGenerated, settings, first_values, outs}
use Rattle.generated_session.proofs.Steps.{head_written}
use Rattle.generated_session.proofs.Tables.{head, inst_name, block_word}
use Rattle.generated_session.proofs.Texts.{script_text}
use Rattle.generated_session.proofs.Turns.{chosen}

-- a text with at most n bytes more than another
abbrev IsGrown : List ℕ → ℕ → List ℕ → Type 0
IsGrown old n new = length new ≤ length old + n

-- ---- settings and instances

head_short : nat_le (length (script_text head)) 512 ≡ true
unfolding head digits
head_short = refl

head_length : (seed : ℕ) (new : Written) → WritesEach inst_line 16 (settings (record { state = seed; text = [] })) new → length new.text ≤ 512
head_length seed new written =
    let same : length new.text ≡ length (script_text head) = ap length (head_written seed new written) in
    omega (arith, same, leb-true (length (script_text head)) 512 head_short)

-- ---- first values

value_length : (it : Written) (inst : ℕ) → inst < 16 → IsGrown it.text 32 (value_line inst it).text
value_length it inst low =
    let begun = codes "set n" ++ decimal inst in
    let ended = codes " value " ++ fraction (drawn (next it.state)) ++ codes "\n" in
    omega (arith, length-append it.text begun, length-append (it.text ++ begun) ended, (inst_name inst low).short)

-- ---- cables

cable_length : (it : Written) (inst : ℕ) (symbol : List ℕ) → 0 < inst → inst < 16 → length symbol ≤ 2 → IsGrown it.text 32 (cable_line inst it symbol).text
cable_length it inst symbol some low short =
    let source = drawn (next it.state) % inst in
    let below : source < inst = mod-lt (drawn (next it.state)) some in
    let a = codes "cable n" ++ decimal source in
    let b = a ++ codes " out n" in
    let c = b ++ decimal inst in
    let d = c ++ codes " " in
    let e = d ++ symbol in
    omega (
      arith,
      (inst_name source (omega arith)).short,
      (inst_name inst low).short,
      length-append a (codes " out n"),
      length-append b (decimal inst),
      length-append c (codes " "),
      length-append d symbol,
      length-append e (codes "\n"),
      length-append it.text (e ++ codes "\n"),
    )

eight : (it a b c d e f g h : ℕ) → a ≤ it + 32 → b ≤ a + 32 → c ≤ b + 32 → d ≤ c + 32 → e ≤ d + 32 → f ≤ e + 32 → g ≤ f + 32 → h ≤ g + 32 → h ≤ it + 256
eight it a b c d e f g h p q r s t u v w = omega arith

cables_length : (it new : Written) → WritesEach cable_lines 16 it new → IsGrown it.text 256 new.text
cables_length it new written =
    let a = cable_line 1 it (codes "in") in
    let b = cable_line 2 a (codes "a") in
    let c = cable_line 2 b (codes "b") in
    let d = cable_line 3 c (codes "in") in
    let e = cable_line 9 d (codes "in") in
    let f = cable_line 10 e (codes "a") in
    let g = cable_line 10 f (codes "b") in
    let h = cable_line 11 g (codes "in") in
    let grown_a = cable_length it 1 (codes "in") (omega arith) (omega arith) (omega arith) in
    let grown_b = cable_length a 2 (codes "a") (omega arith) (omega arith) (omega arith) in
    let grown_c = cable_length b 2 (codes "b") (omega arith) (omega arith) (omega arith) in
    let grown_d = cable_length c 3 (codes "in") (omega arith) (omega arith) (omega arith) in
    let grown_e = cable_length d 9 (codes "in") (omega arith) (omega arith) (omega arith) in
    let grown_f = cable_length e 10 (codes "a") (omega arith) (omega arith) (omega arith) in
    let grown_g = cable_length f 10 (codes "b") (omega arith) (omega arith) (omega arith) in
    let grown_h = cable_length g 11 (codes "in") (omega arith) (omega arith) (omega arith) in
    subst (λ (w : Written). IsGrown it.text 256 w.text) (sym written.each) (eight _ _ _ _ _ _ _ _ _ grown_a grown_b grown_c grown_d grown_e grown_f grown_g grown_h)

-- ---- actions

-- what an action writes after the beginning of its line
abbrev begun : Written → ℕ → Written
begun it number = write (codes "at " ++ decimal (8 * number)) (after_draw it)

begun_length : (it : Written) (number : ℕ) → number < 64 → IsGrown it.text 6 (begun it number).text
begun_length it number low = omega (arith, length-append it.text (codes "at " ++ decimal (8 * number)), (block_word number low).short)

ended : (old text more : List ℕ) → IsGrown old 6 text → length more ≤ 50 → IsGrown old 56 (text ++ more)
ended old text more h short = omega (arith, length-append text more)

action_length : (it : Written) (number : ℕ) → number < 64 → IsGrown it.text 56 (action_line it number).text
action_length it number low =
    let first = begun_length it number low in
    let text = (begun it number).text in
    let n = drawn (next (begun it number).state) in
    chosen (λ (w : Written). IsGrown it.text 56 w.text) (drawn (next it.state) % 4) (begun it number)
    (ended it.text text (codes " set n0 value " ++ fraction n ++ codes "\n") first (omega arith))
    (ended it.text text (codes " patch-set n7 urn:lv2fx:level fixed " ++ fraction n ++ codes "\n") first (omega arith))
    (ended it.text text (codes " save n15\n") first (omega arith))
    (ended it.text text (codes " patch-get n7\n") first (omega arith))

each_length : (count from : ℕ) (it : Written) → from + count ≤ 64 → IsGrown it.text (56 * count) (fold action_line it (range_with_len from count)).text
each_length zero from it low = omega arith
each_length (suc count) from it low =
    let one = action_length it from (omega arith) in
    let rest = each_length count (from + 1) (action_line it from) (omega arith) in
    omega (arith, one, rest)

acted_length : (count : ℕ) (it new : Written) → count ≤ 64 → WritesEach action_line count it new → IsGrown it.text (56 * count) new.text
acted_length count it new low written = subst (λ (w : Written). IsGrown it.text (56 * count) w.text) (sym written.each) (each_length count 0 it (omega arith))

actions_length : (it new : Written) → WritesEach action_line 64 it new → IsGrown it.text 3584 new.text
actions_length it new written = acted_length 64 it new (omega arith) written

-- ---- the whole

pub at_most : (seed : ℕ) (text : List ℕ) → IsGenerated seed text → length text ≤ 4608
at_most seed text is =
    let insts = is.lines.with_insts in
    let first = value_line 0 insts in
    let cables = is.lines.with_cables in
    let a = head_length seed insts is.lines.insts in
    let b = value_length insts 0 (omega arith) in
    let c = value_length first 8 (omega arith) in
    let d = cables_length (first_values insts) cables is.lines.cables in
    let e = length-append cables.text (codes "out n14 out\nout n15 out\n") in
    let f = actions_length (outs cables) is.last is.lines.actions in
    let same = ap length is.is in
    omega (arith, a, b, c, d, e, f, same)
