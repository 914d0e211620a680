-- What one more line adds to what lines say together.
use Rattle.std.proofs.Common.{◌≡◌, ℕ, ◌+◌, ◌≤◌, false, cond, Option, Some, None, List, [], ◌∷◌, ◌++◌, length, fold, refl, sym, ap, ◌∙◌, ◌⊎◌, inl, inr, ⊎_elim, arith, add-zero}
use Rattle.std.specs.List.{All, filter_map, cons_option, enumerate_from}
use Rattle.std.specs.Prelude.{slice_get, nat_lt}
use Rattle.std.specs.Option.{option_map_or}
use Rattle.std.proofs.lemmas.Bool.{ltb-false}
use Rattle.std.proofs.lemmas.Bool.Decides.{leb_tells}
use Rattle.std.proofs.lemmas.List.{append-nil}
use Rattle.std.proofs.lemmas.List.Elements.{filter_map-append, All-nil, All-cons, All-head, All-tail}
use Rattle.std.proofs.lemmas.List.Sums.{fold_push}
use Rattle.session_script.specs.declared.session.Inst.{Inst}
use Rattle.session_script.specs.declared.numbers.Numbers.{Numbers}
use Rattle.session_script.specs.declared.draft.Draft.{Draft}
use Rattle.session_script.specs.declared.keyword.Section.{Section}
use Rattle.session_script.specs.declared.keyword.Section.TheVariants.{Start, Insts}
use Rattle.session_script.specs.Line.{Line}
use Rattle.session_script.specs.Line.Line.{inst, set, cable, out, at}
use Rattle.session_script.specs.Sections.{order, section_of}
use Rattle.session_script.specs.Draft.{latest, reached, given, rate_in, block_in, blocks_in, workers_in, cells_in, reserve_in, numbers_of, bundle_in, inst_in, set_in, cable_in, out_in, action_in, numbered, insts_of, draft_of}
use Rattle.session_script.specs.Rules.{is_late}
use Rattle.session_script.specs.Step.{added, or_given, moved, with_number, with_line}

-- ---- lists with one more

enumerate_from-push : {X : Type 0} (n : ℕ) (xs : List X) (x : X) → enumerate_from n (xs ++ x ∷ []) ≡ enumerate_from n xs ++ (n + length xs, x) ∷ []
enumerate_from-push n [] x = ap (λ k. (k, x) ∷ []) (sym (add-zero n))
enumerate_from-push n (y ∷ xs) x =
    let next : n + 1 + length xs ≡ n + length (y ∷ xs) = omega arith in
    ap (λ rest. (n, y) ∷ rest) (enumerate_from-push (n + 1) xs x ∙ ap (λ k. enumerate_from (n + 1) xs ++ (k, x) ∷ []) next)

added_by : {X : Type 0} (xs : List X) (o : Option X) → xs ++ cons_option o [] ≡ added xs o
added_by xs None = append-nil xs
added_by xs (Some x) = refl

-- what is gathered from lines
gathered : {Y : Type 0} (h : Line → Option Y) (ls : List Line) (line : Line) → filter_map h (ls ++ line ∷ []) ≡ added (filter_map h ls) (h line)
gathered h ls line = filter_map-append h ls (line ∷ []) ∙ added_by (filter_map h ls) (h line)

-- the same of numbered lines
gathered_numbered : {Y : Type 0} (h : ℕ × Line → Option Y) (ls : List Line) (line : Line) → filter_map h (numbered (ls ++ line ∷ [])) ≡ added (filter_map h (numbered ls)) (h (length ls + 1, line))
gathered_numbered h ls line =
    let count : 1 + length ls ≡ length ls + 1 = omega arith in
    ap (filter_map h) (enumerate_from-push 1 ls line ∙ ap (λ k. enumerate_from 1 ls ++ (k, line) ∷ []) count)
    ∙ filter_map-append h (numbered ls) ((length ls + 1, line) ∷ []) ∙ added_by (filter_map h (numbered ls)) (h (length ls + 1, line))

given_by : (xs : List ℕ) (o : Option ℕ) → slice_get (added xs o) 0 ≡ or_given (slice_get xs 0) o
given_by [] None = refl
given_by [] (Some n) = refl
given_by (x ∷ xs) None = refl
given_by (x ∷ xs) (Some n) = refl

given_more : (f : Line → Option ℕ) (ls : List Line) (line : Line) → given f (ls ++ line ∷ []) ≡ or_given (given f ls) (f line)
given_more f ls line = ap (λ xs. slice_get xs 0) (gathered f ls line) ∙ given_by (filter_map f ls) (f line)

moved_by : (xs : List Section) (o : Option Section) → fold latest Start (added xs o) ≡ moved (fold latest Start xs) o
moved_by xs None = refl
moved_by xs (Some section) = fold_push latest Start xs section

reached_more : (ls : List Line) (line : Line) → reached (ls ++ line ∷ []) ≡ moved (reached ls) (section_of line)
reached_more ls line = ap (fold latest Start) (gathered section_of ls line) ∙ moved_by (filter_map section_of ls) (section_of line)

-- ---- sections

abbrev rank : Option Section → ℕ
rank o = option_map_or order o 0

latest-bounds : (a b : Section) → (order a ≤ order (latest a b)) × (order b ≤ order (latest a b))
latest-bounds a b = ⊎_elim
    (λ t. let e = ap (λ v. order (cond v b a)) t.0 in (omega (arith, e, t.1), omega (arith, e)))
    (λ t. let e = ap (λ v. order (cond v b a)) t.0 in (omega (arith, e), omega (arith, e, t.1)))
    (leb_tells (order a) (order b))

-- no section stands after the latest one
sections_within : (from : Section) (ss : List Section) (k : ℕ) → order (fold latest from ss) ≤ k → (order from ≤ k) × All (λ section. order section ≤ k) ss
sections_within from [] k h = (h, All-nil (λ section. order section ≤ k))
sections_within from (section ∷ ss) k h =
    let rest = sections_within (latest from section) ss k h in
    let bounds = latest-bounds from section in
    (omega (arith, rest.0, bounds.0), All-cons (λ s. order s ≤ k) section ss (omega (arith, rest.0, bounds.1)) rest.1)

lines_within : (ls : List Line) (k : ℕ) → All (λ section. order section ≤ k) (filter_map section_of ls) → All (λ line. rank (section_of line) ≤ k) ls
lines_within [] k all = All-nil (λ line. rank (section_of line) ≤ k)
lines_within (line ∷ ls) k all =
    let P : Section → Type 0 = λ section. order section ≤ k in
    let Q : Line → Type 0 = λ l. rank (section_of l) ≤ k in
    let parts : (o : Option Section) → All P (cons_option o (filter_map section_of ls)) → (rank o ≤ k) × All P (filter_map section_of ls) =
    λ o. elim o as (λ o. All P (cons_option o (filter_map section_of ls)) → (rank o ≤ k) × All P (filter_map section_of ls)) [ None ↦ λ a. (omega arith, a) | Some section ↦ λ a. (All-head P section (filter_map section_of ls) a, All-tail P section (filter_map section_of ls) a) ] in
    let here = parts (section_of line) all in
    All-cons Q line ls here.0 (lines_within ls k here.1)

-- what only lines of later sections give is not there
nothing : {Y : Type 0} (h : ℕ × Line → Option Y) (k : ℕ) → ((n : ℕ) (line : Line) → rank (section_of line) ≤ k → h (n, line) ≡ None) → (n : ℕ) (ls : List Line) → All (λ line. rank (section_of line) ≤ k) ls → filter_map h (enumerate_from n ls) ≡ []
nothing h k none n [] all = refl
nothing h k none n (line ∷ ls) all =
    let P : Line → Type 0 = λ l. rank (section_of l) ≤ k in
    ap (λ o. cons_option o (filter_map h (enumerate_from (n + 1) ls))) (none n line (All-head P line ls all)) ∙ nothing h k none (n + 1) ls (All-tail P line ls all)

none_set : (insts : List Inst) (n : ℕ) (line : Line) → rank (section_of line) ≤ 3 → set_in insts (n, line) ≡ None
none_set insts n (set name symbol decimal) h = absurd (omega arith)
none_set insts n line h = refl

none_cable : (insts : List Inst) (n : ℕ) (line : Line) → rank (section_of line) ≤ 3 → cable_in insts (n, line) ≡ None
none_cable insts n (cable source output target input delayed) h = absurd (omega arith)
none_cable insts n line h = refl

none_out : (insts : List Inst) (n : ℕ) (line : Line) → rank (section_of line) ≤ 3 → out_in insts (n, line) ≡ None
none_out insts n (out name symbol) h = absurd (omega arith)
none_out insts n line h = refl

none_action : (insts : List Inst) (n : ℕ) (line : Line) → rank (section_of line) ≤ 3 → action_in insts (n, line) ≡ None
none_action insts n (at block name act) h = absurd (omega arith)
none_action insts n line h = refl

-- a line makes no instance, or belongs to the section of those that do
inst_or_none : (n : ℕ) (line : Line) → (inst_in (n, line) ≡ None) ⊎ (section_of line ≡ Some Insts)
inst_or_none n (inst name uri worker) = inr refl
inst_or_none n line = inl refl

-- ---- the draft

insts_more : (ls : List Line) (line : Line) → insts_of (ls ++ line ∷ []) ≡ added (insts_of ls) (inst_in (length ls + 1, line))
insts_more ls line = gathered_numbered inst_in ls line

-- what is gathered with the instances: they stay, or nothing is there yet
gathered_with : {Y : Type 0} (h : List Inst → ℕ × Line → Option Y) → ((insts : List Inst) (n : ℕ) (line : Line) → rank (section_of line) ≤ 3 → h insts (n, line) ≡ None)
    → (ls : List Line) (line : Line) → is_late (draft_of ls) line ≡ false
    → filter_map (h (insts_of (ls ++ line ∷ []))) (numbered (ls ++ line ∷ [])) ≡ added (filter_map (h (insts_of ls)) (numbered ls)) (h (insts_of ls) (length ls + 1, line))
gathered_with h none ls line timely = ⊎_elim
    (λ e. let same : insts_of (ls ++ line ∷ []) ≡ insts_of ls = insts_more ls line ∙ ap (added (insts_of ls)) e in
    gathered_numbered (h (insts_of (ls ++ line ∷ []))) ls line
    ∙ ap (λ insts. added (filter_map (h insts) (numbered ls)) (h insts (length ls + 1, line))) same)
    (λ e. let more = insts_of (ls ++ line ∷ []) in
    let early : order (reached ls) ≤ 3 = ltb-false 3 (order (reached ls)) (sym (ap (λ o. option_map_or (λ section. nat_lt (order section) (order (reached ls))) o false) e) ∙ timely) in
    let low : rank (section_of line) ≤ 3 = let r = ap rank e in omega (arith, r) in
    let all = lines_within ls 3 (sections_within Start (filter_map section_of ls) 3 early).1 in
    gathered_numbered (h more) ls line ∙ ap (added (filter_map (h more) (numbered ls))) (none more (length ls + 1) line low)
    ∙ nothing (h more) 3 (none more) 1 ls all ∙ sym (nothing (h (insts_of ls)) 3 (none (insts_of ls)) 1 ls all)
    ∙ sym (ap (added (filter_map (h (insts_of ls)) (numbered ls))) (none (insts_of ls) (length ls + 1) line low)))
    (inst_or_none (length ls + 1) line)

same_numbers : (a b : Numbers) → a.rate ≡ b.rate → a.block ≡ b.block → a.blocks ≡ b.blocks → a.workers ≡ b.workers → a.cells ≡ b.cells → a.reserve ≡ b.reserve → a ≡ b
same_numbers a b e1 e2 e3 e4 e5 e6 = λ i. record { rate = e1 i; block = e2 i; blocks = e3 i; workers = e4 i; cells = e5 i; reserve = e6 i }

same_draft : (a b : Draft) → a.section ≡ b.section → a.numbers ≡ b.numbers → a.bundles ≡ b.bundles → a.insts ≡ b.insts → a.sets ≡ b.sets → a.cables ≡ b.cables → a.outs ≡ b.outs → a.actions ≡ b.actions → a ≡ b
same_draft a b e1 e2 e3 e4 e5 e6 e7 e8 = λ i. record { section = e1 i; numbers = e2 i; bundles = e3 i; insts = e4 i; sets = e5 i; cables = e6 i; outs = e7 i; actions = e8 i }

numbers_more : (ls : List Line) (line : Line) → numbers_of (ls ++ line ∷ []) ≡ with_number (numbers_of ls) line
numbers_more ls line = same_numbers _ _ (given_more rate_in ls line) (given_more block_in ls line) (given_more blocks_in ls line) (given_more workers_in ls line) (given_more cells_in ls line) (given_more reserve_in ls line)

-- what lines say with one more, which doesn't come late
pub draft_of-push : (ls : List Line) (line : Line) → is_late (draft_of ls) line ≡ false → draft_of (ls ++ line ∷ []) ≡ with_line (draft_of ls) (length ls + 1) line
draft_of-push ls line timely = same_draft _ _ (reached_more ls line) (numbers_more ls line) (gathered bundle_in ls line) (insts_more ls line)
    (gathered_with set_in none_set ls line timely) (gathered_with cable_in none_cable ls line timely) (gathered_with out_in none_out ls line timely) (gathered_with action_in none_action ls line timely)
