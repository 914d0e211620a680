-- What the cables and the actions, all of them, add to a text whose lines break no rule.
use Rattle.std.proofs.Common.{◌≡◌, ℕ, zero, suc, ◌+◌, ◌*◌, ◌%◌, ◌<◌, ◌≤◌, Bool, true, false, cond, List, [], ◌∷◌, ◌++◌, fold, None, refl, sym, ap, subst, subst₂, arith, append_assoc}
use Rattle.std.specs.Prelude.{codes, decimal, ◌==◌}
use Rattle.std.specs.Fmt.{digits}
use Rattle.std.specs.List.{list_all, range_with_len}
use Rattle.std.proofs.lemmas.Bool.{and_from}
use Rattle.session_script.specs.Draft.{deed_of, draft_of, insts_of}
use Rattle.session_script.specs.Places.{place}
use Rattle.session_script.specs.Line.{Line, Act, line_of}
use Rattle.session_script.specs.Line.Act.{set_value, patch_set, patch_get, save}
use Rattle.session_script.specs.Line.Line.{at}
use Rattle.session_script.specs.Rules.{broken_rule}
use Rattle.session_generate.specs.Draws.{next, drawn}
use Rattle.session_generate.specs.Lines.{Written, write, after_draw, fraction, drawn_value, cable_line, cable_lines, action_by, action_line}
use Rattle.session_generate.specs.Generated.{WritesEach}
use Rattle.generated_session.specs.Shape.{IsDoneTo}
use Rattle.generated_session.proofs.Fractions.{fraction_value, fraction_fits, fraction_plain}
use Rattle.generated_session.proofs.Holding.{Holds, holds_more}
use Rattle.generated_session.proofs.Stages.{Goes, may_follow, name_there, name_place, in_turn, at_more}
use Rattle.generated_session.proofs.Steps.{IsUp, cable_up}
use Rattle.generated_session.proofs.Tables.{name, inst_name, block_word}
use Rattle.generated_session.proofs.Texts.{is_plain, line_text}
use Rattle.generated_session.proofs.Unbroken.{MayFollow, IsInTurn, IsThere, set_at_unbroken, patch_at_unbroken, save_at_unbroken, get_at_unbroken}

-- ---- cables

goes_on : Goes 5 5
goes_on = record { begun = refl; timely = refl; low = refl }

-- eight, to the inputs of the instances 1, 2, 3, 9, 10 and 11
pub cables_up : (it new : Written) → WritesEach cable_lines 16 it new → IsUp it.text 4 0 0 0 0 → IsUp new.text 5 8 0 0 0
cables_up it new written up =
    let a = cable_line 1 it (codes "in") in
    let b = cable_line 2 a (codes "a") in
    let c = cable_line 2 b (codes "b") in
    let d = cable_line 3 c (codes "in") in
    let e = cable_line 9 d (codes "in") in
    let f = cable_line 10 e (codes "a") in
    let g = cable_line 10 f (codes "b") in
    let h = cable_line 11 g (codes "in") in
    let up_a = cable_up it 1 (codes "in") 4 0 0 0 0 (omega arith) (omega arith) refl refl (0, omega arith, refl) (record { begun = refl; timely = refl; low = refl }) up in
    let up_b = cable_up a 2 (codes "a") 5 1 0 0 0 (omega arith) (omega arith) refl refl (0, omega arith, refl) goes_on up_a in
    let up_c = cable_up b 2 (codes "b") 5 2 0 0 0 (omega arith) (omega arith) refl refl (1, omega arith, refl) goes_on up_b in
    let up_d = cable_up c 3 (codes "in") 5 3 0 0 0 (omega arith) (omega arith) refl refl (0, omega arith, refl) goes_on up_c in
    let up_e = cable_up d 9 (codes "in") 5 4 0 0 0 (omega arith) (omega arith) refl refl (0, omega arith, refl) goes_on up_d in
    let up_f = cable_up e 10 (codes "a") 5 5 0 0 0 (omega arith) (omega arith) refl refl (0, omega arith, refl) goes_on up_e in
    let up_g = cable_up f 10 (codes "b") 5 6 0 0 0 (omega arith) (omega arith) refl refl (1, omega arith, refl) goes_on up_f in
    let up_h = cable_up g 11 (codes "in") 5 7 0 0 0 (omega arith) (omega arith) refl refl (0, omega arith, refl) goes_on up_g in
    subst (λ (w : Written). IsUp w.text 5 8 0 0 0) (sym written.each) up_h

-- ---- an action

-- a text that an action may be added to at a block of the run
record IsDue (text : List ℕ) (cables outs actions : ℕ) : Type 0 where
  pub section : ℕ
  pub last : ℕ
  pub goes : Goes section 7
  pub early : last ≤ 8 * actions
  pub within : actions < 64
  pub up : IsUp text section cables outs actions last

-- a line that is added to it
added_up : (text : List ℕ) (cables outs actions : ℕ) (due : IsDue text cables outs actions) (word : List ℕ) (act : Act) (verb : List ℕ) (rest : List (List ℕ))
    → line_of (codes "at" ∷ decimal (8 * actions) ∷ verb ∷ rest) ≡ at (decimal (8 * actions)) word act → list_all is_plain (verb ∷ rest) ≡ true
    → IsDoneTo (place (insts_of due.up.ls) word) (deed_of act) → broken_rule (draft_of due.up.ls) (at (decimal (8 * actions)) word act) ≡ None
    → IsUp (text ++ (codes "at " ++ decimal (8 * actions)) ++ 32 ∷ line_text (verb ∷ rest)) 7 cables outs (actions + 1) (8 * actions)
added_up text cables outs actions due word act verb rest says plain drawn unbroken =
    let up = due.up in
    let block = decimal (8 * actions) in
    let known = block_word actions due.within in
    let ws = codes "at" ∷ block ∷ verb ∷ rest in
    let line : Line = at block word act in
    let here : broken_rule (draft_of up.ls) (line_of ws) ≡ None = subst (λ l. broken_rule (draft_of up.ls) l ≡ None) (sym says) unbroken in
    let all : list_all is_plain ws ≡ true = and_from (is_plain block) (list_all is_plain (verb ∷ rest)) known.plain plain in
    let same : text ++ line_text ws ≡ text ++ (codes "at " ++ block) ++ 32 ∷ line_text (verb ∷ rest) = sym (append_assoc text (codes "at " ++ block) (32 ∷ line_text (verb ∷ rest))) in
    let lines : up.ls ++ line_of ws ∷ [] ≡ up.ls ++ line ∷ [] = ap (λ l. up.ls ++ l ∷ []) says in
    record {
      ls = up.ls ++ line ∷ [];
      holds = subst₂ Holds same lines (holds_more text up.ls ws up.holds all here);
      is = at_more up.ls block word act due.section cables outs actions due.last up.is due.goes known.value drawn unbroken;
    }

follows : (text : List ℕ) (cables outs actions : ℕ) (due : IsDue text cables outs actions) → MayFollow due.up.ls 7
follows text cables outs actions due = may_follow due.up.ls 7 due.section cables outs actions due.last due.up.is due.goes

turn : (text : List ℕ) (cables outs actions : ℕ) (due : IsDue text cables outs actions) → IsInTurn due.up.ls (decimal (8 * actions))
turn text cables outs actions due =
    let within = due.within in
    in_turn due.up.ls (decimal (8 * actions)) (8 * actions) due.section cables outs actions due.last due.up.is (block_word actions due.within) due.early (omega arith)

there : (text : List ℕ) (cables outs actions : ℕ) (due : IsDue text cables outs actions) (inst : ℕ) → inst < 16 → IsThere due.up.ls (name inst)
there text cables outs actions due inst low = name_there due.up.ls (name inst) inst due.section cables outs actions due.last due.up.is (inst_name inst low)

at_place : (text : List ℕ) (cables outs actions : ℕ) (due : IsDue text cables outs actions) (inst : ℕ) → inst < 16 → place (insts_of due.up.ls) (name inst) ≡ inst
at_place text cables outs actions due inst low = name_place due.up.ls (name inst) inst due.section cables outs actions due.last due.up.is (inst_name inst low)

-- the text of the beginning of an action's line
abbrev begun : List ℕ → ℕ → List ℕ
begun text actions = text ++ (codes "at " ++ decimal (8 * actions))

set_up : (text : List ℕ) (cables outs actions n : ℕ) → IsDue text cables outs actions → IsUp (begun text actions ++ (codes " set n0 value " ++ fraction n ++ codes "\n")) 7 cables outs (actions + 1) (8 * actions)
unfolding digits
set_up text cables outs actions n due =
    let unbroken = set_at_unbroken due.up.ls (decimal (8 * actions)) (name 0) (codes "value") (fraction n) (fraction_value n) (follows text cables outs actions due)
    (turn text cables outs actions due) (there text cables outs actions due 0 (omega arith)) refl (fraction_fits n) in
    added_up text cables outs actions due (name 0) (set_value (codes "value") (fraction n)) (codes "set") (name 0 ∷ codes "value" ∷ fraction n ∷ []) refl (rw (fraction_plain n) refl)
    (at_place text cables outs actions due 0 (omega arith), refl) unbroken

patch_up : (text : List ℕ) (cables outs actions n : ℕ) → IsDue text cables outs actions
    → IsUp (begun text actions ++ (codes " patch-set n7 urn:lv2fx:level fixed " ++ fraction n ++ codes "\n")) 7 cables outs (actions + 1) (8 * actions)
unfolding digits
patch_up text cables outs actions n due =
    let unbroken = patch_at_unbroken due.up.ls (decimal (8 * actions)) (name 7) (fraction n) (fraction_value n) (follows text cables outs actions due)
    (turn text cables outs actions due) (there text cables outs actions due 7 (omega arith)) (fraction_fits n) in
    added_up text cables outs actions due (name 7) (patch_set (codes "urn:lv2fx:level") (codes "fixed") (fraction n)) (codes "patch-set")
    (name 7 ∷ codes "urn:lv2fx:level" ∷ codes "fixed" ∷ fraction n ∷ []) refl (rw (fraction_plain n) refl) (at_place text cables outs actions due 7 (omega arith), refl) unbroken

save_up : (text : List ℕ) (cables outs actions : ℕ) → IsDue text cables outs actions → IsUp (begun text actions ++ codes " save n15\n") 7 cables outs (actions + 1) (8 * actions)
unfolding digits
save_up text cables outs actions due =
    let unbroken = save_at_unbroken due.up.ls (decimal (8 * actions)) (name 15) (follows text cables outs actions due)
    (turn text cables outs actions due) (there text cables outs actions due 15 (omega arith)) in
    added_up text cables outs actions due (name 15) save (codes "save") (name 15 ∷ []) refl refl (at_place text cables outs actions due 15 (omega arith)) unbroken

get_up : (text : List ℕ) (cables outs actions : ℕ) → IsDue text cables outs actions → IsUp (begun text actions ++ codes " patch-get n7\n") 7 cables outs (actions + 1) (8 * actions)
unfolding digits
get_up text cables outs actions due =
    let unbroken = get_at_unbroken due.up.ls (decimal (8 * actions)) (name 7) (follows text cables outs actions due)
    (turn text cables outs actions due) (there text cables outs actions due 7 (omega arith)) in
    added_up text cables outs actions due (name 7) (patch_get None) (codes "patch-get") (name 7 ∷ []) refl refl (at_place text cables outs actions due 7 (omega arith), refl) unbroken

-- whichever is drawn
either : (P : Written → Type 0) (test : Bool) (a b : Written) → P a → P b → P (cond test a b)
either P true a b x y = x
either P false a b x y = y

pub chosen : (P : Written → Type 0) (choice : ℕ) (it : Written) → P (drawn_value (codes " set n0 value ") it) → P (drawn_value (codes " patch-set n7 urn:lv2fx:level fixed ") it)
    → P (write (codes " save n15\n") it) → P (write (codes " patch-get n7\n") it) → P (action_by choice it)
chosen P choice it a b c d = either P (choice == 0) _ _ a (either P (choice == 1) _ _ b (either P (choice == 2) _ _ c d))

action_up : (it : Written) (cables outs actions : ℕ) → IsDue it.text cables outs actions → IsUp (action_line it actions).text 7 cables outs (actions + 1) (8 * actions)
action_up it cables outs actions due =
    let later = write (codes "at " ++ decimal (8 * actions)) (after_draw it) in
    let n = drawn (next later.state) in
    chosen (λ (w : Written). IsUp w.text 7 cables outs (actions + 1) (8 * actions)) (drawn (next it.state) % 4) later
    (set_up it.text cables outs actions n due) (patch_up it.text cables outs actions n due) (save_up it.text cables outs actions due) (get_up it.text cables outs actions due)

-- ---- the actions

-- a text that actions were added to
pub record IsActed (text : List ℕ) (cables outs actions : ℕ) : Type 0 where
  pub section : ℕ
  pub last : ℕ
  pub goes : Goes section 7
  pub early : last ≤ 8 * actions
  pub up : IsUp text section cables outs actions last

one_more : (it : Written) (cables outs actions : ℕ) → actions < 64 → IsActed it.text cables outs actions → IsActed (action_line it actions).text cables outs (actions + 1)
one_more it cables outs actions low acted = record {
  section = 7;
  last = 8 * actions;
  goes = record { begun = refl; timely = refl; low = refl };
  early = omega arith;
  up = action_up it cables outs actions (record {
    section = acted.section;
    last = acted.last;
    goes = acted.goes;
    early = acted.early;
    within = low;
    up = acted.up;
  });
}

each_more : (count : ℕ) (it : Written) (cables outs actions : ℕ) → actions + count ≤ 64 → IsActed it.text cables outs actions
    → IsActed (fold action_line it (range_with_len actions count)).text cables outs (actions + count)
each_more zero it cables outs actions low acted = subst (IsActed it.text cables outs) (omega arith) acted
each_more (suc count) it cables outs actions low acted =
    let rest = each_more count (action_line it actions) cables outs (actions + 1) (omega arith) (one_more it cables outs actions (omega arith) acted) in
    subst (IsActed (fold action_line (action_line it actions) (range_with_len (actions + 1) count)).text cables outs) (omega arith) rest

-- as many as are written
acted_by : (count : ℕ) (it new : Written) (k cables outs : ℕ) → count ≤ 64 → WritesEach action_line count it new → Goes k 7 → IsUp it.text k cables outs 0 0 → IsActed new.text cables outs (0 + count)
acted_by count it new k cables outs low written goes up =
    subst (λ (w : Written). IsActed w.text cables outs (0 + count)) (sym written.each)
    (each_more count it cables outs 0 (omega arith) (record { section = k; last = 0; goes = goes; early = omega arith; up = up }))

pub actions_up : (it new : Written) (k cables outs : ℕ) → WritesEach action_line 64 it new → Goes k 7 → IsUp it.text k cables outs 0 0 → IsActed new.text cables outs 64
actions_up it new k cables outs written goes up = acted_by 64 it new k cables outs (omega arith) written goes up
