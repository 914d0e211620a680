-- Texts of a list's places, from one on.
use Rattle.std.proofs.Common.{◌≡◌, ℕ, zero, suc, ◌+◌, ◌<◌, ◌≤◌, Bool, true, false, cond, List, [], ◌∷◌, ◌++◌, length, get_or, drop, filter, refl, sym, ap, ◌∙◌, append_assoc, append-nil, drop-cons, add-one, arith}
use Rattle.lv_base.specs.declared.number.Fixed.{Fixed}
use Rattle.plugin_decl.specs.declared.declaration.Port.{Port}
use Rattle.session_script.specs.declared.session.Action.{Action}
use Rattle.session_script.specs.declared.session.Inst.{Inst}
use Rattle.graph_order.specs.declared.setup.Setup.{Setup}
use Rattle.record_law.specs.History.{one_more}
use Rattle.play_outcome.specs.Summary.{is_shown, restore_line}
use Rattle.run_summary.specs.declared.report.Report.{Report}
use Rattle.run_summary.specs.declared.tally.Tally.{Tally}
use Rattle.run_summary.specs.Parts.{value_line, value_lines, shown_line, values_after, inst_lines, lines_from, status_at, restores_from, is_late, late_from}

-- a list from a place on
pub from_here : {A : Type 0} (xs : List A) (n : ℕ) (x : A) → n < length xs → x ≡ get_or xs n x → drop n xs ≡ x ∷ drop (n + 1) xs
from_here {A} xs n x within here =
    drop-cons xs n x within ∙ (ap (λ (it : A). it ∷ drop (suc n) xs) (sym here) ∙ ap (λ (k : ℕ). x ∷ drop k xs) (let same : suc n ≡ n + 1 = omega arith in same))

-- ---- instances

lines_here : (setup : Setup) (tally : Tally) (report : Report) (xs : List Inst) (n k : ℕ) → n < length xs
    → lines_from setup tally report k (drop n xs) ≡ inst_lines setup tally report k ++ lines_from setup tally report (suc k) (drop (suc n) xs)
lines_here setup tally report [] n k within = absurd (omega (arith, within))
lines_here setup tally report (x ∷ xs) zero k within = refl
lines_here setup tally report (x ∷ xs) (suc n) k within = lines_here setup tally report xs n k (omega (arith, within))

-- the lines of one instance more
pub lines_more : (setup : Setup) (tally : Tally) (report : Report) (xs : List Inst) (n : ℕ) (before after : List ℕ) → n < length xs
    → after ≡ before ++ inst_lines setup tally report n
    → after ++ lines_from setup tally report (n + 1) (drop (n + 1) xs) ≡ before ++ lines_from setup tally report n (drop n xs)
lines_more setup tally report xs n before after within grown =
    ap (λ (text : List ℕ). text ++ lines_from setup tally report (n + 1) (drop (n + 1) xs)) grown
    ∙ append_assoc before (inst_lines setup tally report n) (lines_from setup tally report (n + 1) (drop (n + 1) xs))
    ∙ ap (λ (k : ℕ). before ++ (inst_lines setup tally report n ++ lines_from setup tally report k (drop k xs))) (add-one n)
    ∙ ap (λ (text : List ℕ). before ++ text) (sym (lines_here setup tally report xs n n within))

-- ---- values

no_values : (name : List ℕ) (ports : List Port) → value_lines name ports [] ≡ []
no_values name [] = refl
no_values name (port ∷ ports) = refl

-- the lines of one port more
shown_more : (name : List ℕ) (port : Port) (ports : List Port) (values : List Fixed)
    → value_lines name (filter is_shown (port ∷ ports)) values ≡ shown_line name port values ++ value_lines name (filter is_shown ports) (values_after port values)
shown_more name port ports values = by (is_shown port) values
  where
    line : Bool → List Fixed → List ℕ
    line b [] = []
    line b (value ∷ values) = cond b (value_line name port.symbol value) []

    by : (b : Bool) (values : List Fixed)
        → value_lines name (cond b (port ∷ filter is_shown ports) (filter is_shown ports)) values
        ≡ line b values ++ value_lines name (filter is_shown ports) (cond b (drop 1 values) values)
    by true [] = sym (no_values name (filter is_shown ports))
    by true (value ∷ values) = refl
    by false [] = refl
    by false (value ∷ values) = refl

pub values_more : (name : List ℕ) (ports : List Port) (n : ℕ) (port : Port) (values left : List Fixed) (before after : List ℕ) → n < length ports → port ≡ get_or ports n port
    → after ≡ before ++ shown_line name port values → left ≡ values_after port values
    → after ++ value_lines name (filter is_shown (drop (n + 1) ports)) left ≡ before ++ value_lines name (filter is_shown (drop n ports)) values
values_more name ports n port values left before after within here grown is =
    ap (λ (text : List ℕ). text ++ value_lines name (filter is_shown (drop (n + 1) ports)) left) grown
    ∙ append_assoc before (shown_line name port values) (value_lines name (filter is_shown (drop (n + 1) ports)) left)
    ∙ ap (λ (it : List Fixed). before ++ (shown_line name port values ++ value_lines name (filter is_shown (drop (n + 1) ports)) it)) is
    ∙ ap (λ (text : List ℕ). before ++ text) (sym (shown_more name port (drop (n + 1) ports) values))
    ∙ ap (λ (it : List Port). before ++ value_lines name (filter is_shown it) values) (sym (from_here ports n port within here))

-- ---- actions

pub restores_more : (setup : Setup) (report : Report) (xs : List Action) (n : ℕ) (x : Action) (before after : List ℕ) → n < length xs → x ≡ get_or xs n x
    → after ≡ before ++ restore_line setup x.inst (status_at report n)
    → after ++ restores_from setup report (n + 1) (drop (n + 1) xs) ≡ before ++ restores_from setup report n (drop n xs)
restores_more setup report xs n x before after within here grown =
    ap (λ (text : List ℕ). text ++ restores_from setup report (n + 1) (drop (n + 1) xs)) grown
    ∙ append_assoc before (restore_line setup x.inst (status_at report n)) (restores_from setup report (n + 1) (drop (n + 1) xs))
    ∙ ap (λ (k : ℕ). before ++ (restore_line setup x.inst (status_at report n) ++ restores_from setup report k (drop (n + 1) xs))) (add-one n)
    ∙ ap (λ (it : List Action). before ++ restores_from setup report n it) (sym (from_here xs n x within here))

late_sum : (b : Bool) (late rest : ℕ) → one_more b late + rest ≡ late + one_more b rest
late_sum true late rest = omega arith
late_sum false late rest = refl

pub late_more : (tally : Tally) (xs : List Action) (n : ℕ) (x : Action) (before after : ℕ) → n < length xs → x ≡ get_or xs n x
    → after ≡ one_more (is_late tally n x) before
    → after + late_from tally (n + 1) (drop (n + 1) xs) ≡ before + late_from tally n (drop n xs)
late_more tally xs n x before after within here grown =
    ap (λ (late : ℕ). late + late_from tally (n + 1) (drop (n + 1) xs)) grown
    ∙ late_sum (is_late tally n x) before (late_from tally (n + 1) (drop (n + 1) xs))
    ∙ ap (λ (it : List Action). before + late_from tally n it) (sym (from_here xs n x within here))

pub late_most : (b : Bool) (late after n : ℕ) → late ≤ n → after ≡ one_more b late → after ≤ n + 1
late_most true late after n most is = omega (arith, most, is)
late_most false late after n most is = omega (arith, most, is)
