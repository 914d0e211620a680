-- What each step of writing adds to a text whose lines break no rule.
use Rattle.std.proofs.Common.{◌≡◌, ℕ, ◌+◌, ◌%◌, ◌<◌, true, List, [], ◌∷◌, ◌++◌, None, refl, sym, ap, subst, ◌∙◌, arith, append_assoc, mod-lt}
use Rattle.std.specs.Prelude.{Contains, codes, decimal}
use Rattle.std.specs.Fmt.{digits}
use Rattle.std.specs.List.{list_all}
use Rattle.session_script.specs.Draft.{draft_of}
use Rattle.session_script.specs.Line.{Line}
use Rattle.session_script.specs.Line.Line.{set, cable, out}
use Rattle.session_script.specs.Rules.{broken_rule}
use Rattle.session_script.specs.Words.{is_name}
use Rattle.session_generate.specs.Draws.{next, drawn}
use Rattle.session_generate.specs.Lines.{inputs_of, Written, fraction, inst_line, value_line, cable_line}
use Rattle.session_generate.specs.Generated.{WritesEach, settings, outs}
use Rattle.generated_session.proofs.Fractions.{fraction_value, fraction_fits, fraction_plain}
use Rattle.generated_session.proofs.Holding.{Holds, holds_more}
use Rattle.generated_session.proofs.Stages.{IsAt, Goes, head_at, may_follow, name_there, name_place, set_more, cable_more, out_more}
use Rattle.generated_session.proofs.Tables.{head, head_lines, head_plain, head_says, head_well, name, inst_name}
use Rattle.generated_session.proofs.Texts.{is_plain, line_text, script_text}
use Rattle.generated_session.proofs.Unbroken.{set_unbroken, cable_unbroken, out_unbroken}

-- the text so far, by its lines
pub record IsUp (text : List ℕ) (section cables outs actions last : ℕ) : Type 0 where
  pub ls : List Line
  pub holds : Holds text ls
  pub is : IsAt ls section cables outs actions last

-- ---- settings and instances

pub head_written : (seed : ℕ) (new : Written) → WritesEach inst_line 16 (settings (record { state = seed; text = [] })) new → new.text ≡ script_text head
unfolding head digits
head_written seed new written = ap (λ (it : Written). it.text) written.each

pub head_up : (seed : ℕ) (new : Written) → WritesEach inst_line 16 (settings (record { state = seed; text = [] })) new → IsUp new.text 3 0 0 0 0
head_up seed new written = record {
  ls = head_lines;
  holds = record { raw = head; is = head_written seed new written; plain = head_plain; says = head_says; well = head_well };
  is = head_at;
}

-- ---- first values

pub value_up : (it : Written) (inst k cables outs actions last : ℕ) → inst < 16 → inst % 8 ≡ 0 → Goes k 4 → IsUp it.text k cables outs actions last → IsUp (value_line inst it).text 4 cables outs actions last
value_up it inst k cables outs actions last low constant goes up =
    let n = drawn (next it.state) in
    let ws = codes "set" ∷ name inst ∷ codes "value" ∷ fraction n ∷ [] in
    let line = set (name inst) (codes "value") (fraction n) in
    let known = inst_name inst low in
    let there = name_there up.ls (name inst) inst k cables outs actions last up.is known in
    let at_inst = name_place up.ls (name inst) inst k cables outs actions last up.is known in
    let unbroken : broken_rule (draft_of up.ls) line ≡ None =
    set_unbroken up.ls (name inst) (codes "value") (fraction n) (fraction_value n) (may_follow up.ls 4 k cables outs actions last up.is goes) there refl (fraction_fits n) in
    let plain : list_all is_plain ws ≡ true = rw (known.plain, fraction_plain n) refl in
    let text : (value_line inst it).text ≡ it.text ++ line_text ws = append_assoc it.text (codes "set n" ++ decimal inst) (codes " value " ++ fraction n ++ codes "\n") in
    record {
      ls = up.ls ++ line ∷ [];
      holds = subst (λ t. Holds t (up.ls ++ line ∷ [])) (sym text) (holds_more it.text up.ls ws up.holds plain unbroken);
      is = set_more up.ls (name inst) (codes "value") (fraction n) k cables outs actions last up.is goes
          (omega (arith, at_inst, low), ap (λ n. n % 8) at_inst ∙ constant, refl) unbroken;
    }

-- ---- cables

-- five parts after one
regrouped : (x a b c d e : List ℕ) → x ++ a ++ b ++ c ++ d ++ e ≡ x ++ (a ++ (b ++ (c ++ (d ++ e))))
regrouped x a b c d e =
    append_assoc (x ++ a ++ b ++ c) d e ∙ append_assoc (x ++ a ++ b) c (d ++ e) ∙ append_assoc (x ++ a) b (c ++ (d ++ e)) ∙ append_assoc x a (b ++ (c ++ (d ++ e)))

pub cable_up : (it : Written) (inst : ℕ) (symbol : List ℕ) (k cables outs actions last : ℕ) → 0 < inst → inst < 16 → is_plain symbol ≡ true → is_name symbol ≡ true → Contains (inputs_of (inst % 8)) symbol → Goes k 5
    → IsUp it.text k cables outs actions last → IsUp (cable_line inst it symbol).text 5 (cables + 1) outs actions last
cable_up it inst symbol k cables outs actions last some low symbol_plain symbol_is input goes up =
    let source = drawn (next it.state) % inst in
    let below : source < inst = mod-lt (drawn (next it.state)) some in
    let ws = codes "cable" ∷ name source ∷ codes "out" ∷ name inst ∷ symbol ∷ [] in
    let line = cable (name source) (codes "out") (name inst) symbol None in
    let from = inst_name source (omega arith) in
    let to = inst_name inst low in
    let at_source = name_place up.ls (name source) source k cables outs actions last up.is from in
    let at_inst = name_place up.ls (name inst) inst k cables outs actions last up.is to in
    let unbroken : broken_rule (draft_of up.ls) line ≡ None =
    cable_unbroken up.ls (name source) (codes "out") (name inst) symbol (may_follow up.ls 5 k cables outs actions last up.is goes)
    (name_there up.ls (name source) source k cables outs actions last up.is from) refl (name_there up.ls (name inst) inst k cables outs actions last up.is to) symbol_is in
    let plain : list_all is_plain ws ≡ true = rw (from.plain, to.plain, symbol_plain) refl in
    let text : (cable_line inst it symbol).text ≡ it.text ++ line_text ws =
    ap (λ t. it.text ++ (codes "cable n" ++ t)) (regrouped (decimal source) (codes " out n") (decimal inst) (codes " ") symbol (codes "\n")) in
    record {
      ls = up.ls ++ line ∷ [];
      holds = subst (λ t. Holds t (up.ls ++ line ∷ [])) (sym text) (holds_more it.text up.ls ws up.holds plain unbroken);
      is = cable_more up.ls (name source) (codes "out") (name inst) symbol k cables outs actions last up.is goes
          (omega (arith, below, at_source, at_inst), omega (arith, at_inst, low), refl, subst (λ n. Contains (inputs_of (n % 8)) symbol) (sym at_inst) input) unbroken;
    }

-- ---- outs

out_up : (text : List ℕ) (inst k cables outs actions last : ℕ) → inst < 16 → Goes k 6 → IsUp text k cables outs actions last
    → IsUp (text ++ line_text (codes "out" ∷ name inst ∷ codes "out" ∷ [])) 6 cables (outs + 1) actions last
out_up text inst k cables outs actions last low goes up =
    let ws = codes "out" ∷ name inst ∷ codes "out" ∷ [] in
    let line = out (name inst) (codes "out") in
    let known = inst_name inst low in
    let at_inst = name_place up.ls (name inst) inst k cables outs actions last up.is known in
    let unbroken : broken_rule (draft_of up.ls) line ≡ None =
    out_unbroken up.ls (name inst) (codes "out") (may_follow up.ls 6 k cables outs actions last up.is goes) (name_there up.ls (name inst) inst k cables outs actions last up.is known) refl in
    record {
      ls = up.ls ++ line ∷ [];
      holds = holds_more text up.ls ws up.holds (rw known.plain refl) unbroken;
      is = out_more up.ls (name inst) (codes "out") k cables outs actions last up.is goes (omega (arith, at_inst, low), refl) unbroken;
    }

pub outs_up : (it : Written) (k cables actions last : ℕ) → Goes k 6 → IsUp it.text k cables 0 actions last → IsUp (outs it).text 6 cables 2 actions last
unfolding digits
outs_up it k cables actions last goes up =
    let one = line_text (codes "out" ∷ name 14 ∷ codes "out" ∷ []) in
    let two = line_text (codes "out" ∷ name 15 ∷ codes "out" ∷ []) in
    let first = out_up it.text 14 k cables 0 actions last (omega arith) goes up in
    let both = out_up (it.text ++ one) 15 6 cables 1 actions last (omega arith) (record { begun = refl; timely = refl; low = refl }) first in
    subst (λ t. IsUp t 6 cables 2 actions last) (append_assoc it.text one two) both
