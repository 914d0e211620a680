-- What the lines so far say of a generated session's sections and counts, and what one more adds to it.
use Rattle.std.proofs.Common.{◌≡◌, ℕ, zero, suc, ◌+◌, ◌-◌, ◌≤◌, true, false, eqb, List, [], ◌∷◌, ◌++◌, length, Some, None, refl, sym, ap, subst, ◌∙◌, arith, add-one, ◌*◌, ◌<◌}
use Rattle.std.specs.Prelude.{Contains, codes, ◌%◌, All, map, nat_lt, nat_le, slice_get}
use Rattle.std.specs.Option.{option_map_or}
use Rattle.std.specs.List.{range_with_len}
use Rattle.std.specs.Fmt.{digits}
use Rattle.std.proofs.lemmas.Bool.Decides.{nat_tests}
use Rattle.std.proofs.lemmas.List.{length_push, map_push}
use Rattle.std.proofs.lemmas.List.Elements.{All-nil, All-push}
use Rattle.session_script.specs.declared.session.Session.{Session}
use Rattle.session_script.specs.declared.session.Inst.{Inst}
use Rattle.session_script.specs.declared.session.Action.{Action}
use Rattle.session_script.specs.Draft.{deed_of, draft_of, reached, insts_of, numbers_of}
use Rattle.session_script.specs.Limits.{blocks_or_default}
use Rattle.session_script.specs.Line.{Line, Act}
use Rattle.session_script.specs.Line.Line.{set, cable, out, at}
use Rattle.session_script.specs.Places.{is_there, place}
use Rattle.session_script.specs.Rules.{broken_rule, block_reached}
use Rattle.session_script.specs.Script.{session_of, session_from}
use Rattle.session_script.specs.Sections.{order}
use Rattle.session_script.specs.Step.{with_line}
use Rattle.session_script.specs.Words.{value_of}
use Rattle.session_script.proofs.Adding.{draft_of-push}
use Rattle.session_script.proofs.Finds.{not_late}
use Rattle.session_script.specs.Valid.{block_of}
use Rattle.generated_session.specs.Shape.{SetsConstant, LeadsOn, IsHeard, IsDoneTo, IsDrawn}
use Rattle.session_generate.specs.Lines.{inputs_of}
use Rattle.generated_session.proofs.Tables.{head, head_lines, the_insts, IsInstName, IsBlockWord}
use Rattle.generated_session.proofs.Unbroken.{MayFollow, IsThere, IsInTurn}

-- the section of the last line, and how many cables, outs and actions there are, of which none is after a block
pub record IsAt (ls : List Line) (section cables outs actions last : ℕ) : Type 0 where
  pub in_section : order (reached ls) ≡ section
  pub insts : insts_of ls ≡ the_insts
  pub block : (session_of ls).block ≡ 64
  pub blocks : (session_of ls).blocks ≡ 512
  pub bundles : length (session_of ls).bundles ≡ 0
  pub count_cables : length (session_of ls).cables ≡ cables
  pub sets : All SetsConstant (session_of ls).sets
  pub leads : All LeadsOn (session_of ls).cables
  pub heard : All IsHeard (session_of ls).outs
  pub drawn : All IsDrawn (session_of ls).actions
  pub count_outs : length (session_of ls).outs ≡ outs
  pub count_actions : length (session_of ls).actions ≡ actions
  pub in_blocks : map block_of (session_of ls).actions ≡ map (λ number. 8 * number) (range_with_len 0 actions)
  pub not_after : block_reached (session_of ls).actions ≤ last

pub head_at : IsAt head_lines 3 0 0 0 0
unfolding the_insts head_lines head digits
head_at = record {
  in_section = refl;
  insts = refl;
  block = refl;
  blocks = refl;
  bundles = refl;
  count_cables = refl;
  sets = All-nil SetsConstant;
  leads = All-nil LeadsOn;
  heard = All-nil IsHeard;
  drawn = All-nil IsDrawn;
  count_outs = refl;
  count_actions = refl;
  in_blocks = refl;
  not_after = omega arith;
}

-- ---- what may come next

-- a line of section n may come after one of section k
pub record Goes (k n : ℕ) : Type 0 where
  pub begun : eqb k 0 ≡ false
  pub timely : nat_lt n k ≡ false
  pub low : nat_le k n ≡ true

above : (k : ℕ) → eqb k 0 ≡ false → 1 ≤ k
above k h = grind (arith, nat_tests)

pub may_follow : (ls : List Line) (n k cables outs actions last : ℕ) → IsAt ls k cables outs actions last → Goes k n → MayFollow ls n
may_follow ls n k cables outs actions last is goes = record {
  begun = ap (λ s. eqb s 0) is.in_section ∙ goes.begun;
  timely = ap (nat_lt n) is.in_section ∙ goes.timely;
}

pub begun_by : (ls : List Line) (k n cables outs actions last : ℕ) → IsAt ls k cables outs actions last → Goes k n → 1 ≤ order (reached ls)
begun_by ls k n cables outs actions last is goes =
    let section = is.in_section in
    let some : 1 ≤ k = above k goes.begun in
    omega arith

pub name_there : (ls : List Line) (word : List ℕ) (inst k cables outs actions last : ℕ) → IsAt ls k cables outs actions last → IsInstName word inst → IsThere ls word
name_there ls word inst k cables outs actions last is known = record {
  name = known.name;
  there = ap (λ (insts : List Inst). is_there insts word) is.insts ∙ known.there;
}

pub name_place : (ls : List Line) (word : List ℕ) (inst k cables outs actions last : ℕ) → IsAt ls k cables outs actions last → IsInstName word inst → place (insts_of ls) word ≡ inst
name_place ls word inst k cables outs actions last is known = ap (λ (insts : List Inst). place insts word) is.insts ∙ known.is

not_below : (n m : ℕ) → m ≤ n → nat_lt n m ≡ false
not_below n m h = grind (arith, nat_tests)

pub in_turn : (ls : List Line) (word : List ℕ) (block k cables outs actions last : ℕ) → IsAt ls k cables outs actions last → IsBlockWord word block → last ≤ block → block ≤ 512 → IsInTurn ls word
in_turn ls word block k cables outs actions last is known high low =
    let value = known.value in
    let not_after = is.not_after in
    let blocks : blocks_or_default (numbers_of ls) ≡ 512 = is.blocks in
    record {
      number = known.number;
      after = not_below (value_of word) (block_reached (session_of ls).actions) (omega arith);
      within = not_below (blocks_or_default (numbers_of ls)) (value_of word) (omega arith);
    }

-- ---- a line more

-- the session with it
session_more : (ls : List Line) (line : Line) → broken_rule (draft_of ls) line ≡ None → session_of (ls ++ line ∷ []) ≡ session_from (with_line (draft_of ls) (length ls + 1) line)
session_more ls line h = ap session_from (draft_of-push ls line (not_late (draft_of ls) line h))

-- its section
section_more : (ls : List Line) (line : Line) → broken_rule (draft_of ls) line ≡ None → order (reached (ls ++ line ∷ [])) ≡ order (with_line (draft_of ls) (length ls + 1) line).section
section_more ls line h = let e = draft_of-push ls line (not_late (draft_of ls) line h) in λ i. order (e i).section

pub set_more : (ls : List Line) (name symbol word : List ℕ) (k cables outs actions last : ℕ) → IsAt ls k cables outs actions last → Goes k 4
    → (place (insts_of ls) name < 16) × (place (insts_of ls) name % 8 ≡ 0) × (symbol ≡ codes "value") → broken_rule (draft_of ls) (set name symbol word) ≡ None → IsAt (ls ++ set name symbol word ∷ []) 4 cables outs actions last
set_more ls name symbol word k cables outs actions last is goes sets h =
    let line = set name symbol word in
    let here : order (with_line (draft_of ls) (length ls + 1) line).section ≡ 4 = rw (is.in_section, goes.low) refl in
    let more = session_more ls line h in
    record {
      in_section = section_more ls line h ∙ here;
      insts = ap (λ (s : Session). s.insts) more ∙ is.insts;
      block = ap (λ (s : Session). s.block) more ∙ is.block;
      blocks = ap (λ (s : Session). s.blocks) more ∙ is.blocks;
      bundles = ap (λ (s : Session). length s.bundles) more ∙ is.bundles;
      count_cables = ap (λ (s : Session). length s.cables) more ∙ is.count_cables;
      sets = subst (λ (s : Session). All SetsConstant s.sets) (sym more) (All-push SetsConstant (session_of ls).sets _ is.sets (record { there = sets.0; constant = sets.1; symbol = sets.2 }));
      leads = subst (λ (s : Session). All LeadsOn s.cables) (sym more) is.leads;
      heard = subst (λ (s : Session). All IsHeard s.outs) (sym more) is.heard;
      drawn = subst (λ (s : Session). All IsDrawn s.actions) (sym more) is.drawn;
      count_outs = ap (λ (s : Session). length s.outs) more ∙ is.count_outs;
      count_actions = ap (λ (s : Session). length s.actions) more ∙ is.count_actions;
      in_blocks = ap (λ (s : Session). map block_of s.actions) more ∙ is.in_blocks;
      not_after = subst (λ (s : Session). block_reached s.actions ≤ last) (sym more) is.not_after;
    }

pub cable_more : (ls : List Line) (source output target input : List ℕ) (k cables outs actions last : ℕ) → IsAt ls k cables outs actions last → Goes k 5
    → (place (insts_of ls) source < place (insts_of ls) target) × (place (insts_of ls) target < 16) × (output ≡ codes "out") × Contains (inputs_of (place (insts_of ls) target % 8)) input
    → broken_rule (draft_of ls) (cable source output target input None) ≡ None → IsAt (ls ++ cable source output target input None ∷ []) 5 (cables + 1) outs actions last
cable_more ls source output target input k cables outs actions last is goes leads h =
    let line = cable source output target input None in
    let here : order (with_line (draft_of ls) (length ls + 1) line).section ≡ 5 = rw (is.in_section, goes.low) refl in
    let more = session_more ls line h in
    record {
      in_section = section_more ls line h ∙ here;
      insts = ap (λ (s : Session). s.insts) more ∙ is.insts;
      block = ap (λ (s : Session). s.block) more ∙ is.block;
      blocks = ap (λ (s : Session). s.blocks) more ∙ is.blocks;
      bundles = ap (λ (s : Session). length s.bundles) more ∙ is.bundles;
      count_cables = ap (λ (s : Session). length s.cables) more ∙ length_push (session_of ls).cables _ ∙ ap (λ n. n + 1) is.count_cables;
      sets = subst (λ (s : Session). All SetsConstant s.sets) (sym more) is.sets;
      leads = subst (λ (s : Session). All LeadsOn s.cables) (sym more)
          (All-push LeadsOn (session_of ls).cables _ is.leads (record { later = leads.0; there = leads.1; output = leads.2; input = leads.3; at_once = refl }));
      heard = subst (λ (s : Session). All IsHeard s.outs) (sym more) is.heard;
      drawn = subst (λ (s : Session). All IsDrawn s.actions) (sym more) is.drawn;
      count_outs = ap (λ (s : Session). length s.outs) more ∙ is.count_outs;
      count_actions = ap (λ (s : Session). length s.actions) more ∙ is.count_actions;
      in_blocks = ap (λ (s : Session). map block_of s.actions) more ∙ is.in_blocks;
      not_after = subst (λ (s : Session). block_reached s.actions ≤ last) (sym more) is.not_after;
    }

pub out_more : (ls : List Line) (name symbol : List ℕ) (k cables outs actions last : ℕ) → IsAt ls k cables outs actions last → Goes k 6
    → (place (insts_of ls) name < 16) × (symbol ≡ codes "out") → broken_rule (draft_of ls) (out name symbol) ≡ None → IsAt (ls ++ out name symbol ∷ []) 6 cables (outs + 1) actions last
out_more ls name symbol k cables outs actions last is goes heard h =
    let line = out name symbol in
    let here : order (with_line (draft_of ls) (length ls + 1) line).section ≡ 6 = rw (is.in_section, goes.low) refl in
    let more = session_more ls line h in
    record {
      in_section = section_more ls line h ∙ here;
      insts = ap (λ (s : Session). s.insts) more ∙ is.insts;
      block = ap (λ (s : Session). s.block) more ∙ is.block;
      blocks = ap (λ (s : Session). s.blocks) more ∙ is.blocks;
      bundles = ap (λ (s : Session). length s.bundles) more ∙ is.bundles;
      count_cables = ap (λ (s : Session). length s.cables) more ∙ is.count_cables;
      sets = subst (λ (s : Session). All SetsConstant s.sets) (sym more) is.sets;
      leads = subst (λ (s : Session). All LeadsOn s.cables) (sym more) is.leads;
      heard = subst (λ (s : Session). All IsHeard s.outs) (sym more) (All-push IsHeard (session_of ls).outs _ is.heard (record { there = heard.0; symbol = heard.1 }));
      drawn = subst (λ (s : Session). All IsDrawn s.actions) (sym more) is.drawn;
      count_outs = ap (λ (s : Session). length s.outs) more ∙ length_push (session_of ls).outs _ ∙ ap (λ n. n + 1) is.count_outs;
      count_actions = ap (λ (s : Session). length s.actions) more ∙ is.count_actions;
      in_blocks = ap (λ (s : Session). map block_of s.actions) more ∙ is.in_blocks;
      not_after = subst (λ (s : Session). block_reached s.actions ≤ last) (sym more) is.not_after;
    }

-- the last of a list
got : {X : Type 0} (xs : List X) (x : X) (n : ℕ) → length xs ≡ n → slice_get (xs ++ x ∷ []) n ≡ Some x
got [] x zero e = refl
got [] x (suc n) e = absurd (omega arith)
got (y ∷ xs) x zero e = absurd (omega arith)
got (y ∷ xs) x (suc n) e = got xs x n (omega arith)

block_pushed : (actions : List Action) (action : Action) → block_reached (actions ++ action ∷ []) ≡ action.block
block_pushed actions action =
    let place : length actions ≡ length (actions ++ action ∷ []) - 1 = omega (arith, length_push actions action) in
    ap (λ o. option_map_or (λ (a : Action). a.block) o 0) (got actions action (length (actions ++ action ∷ []) - 1) place)

-- the blocks of one action more
range_more : (from count : ℕ) → range_with_len from (suc count) ≡ range_with_len from count ++ (from + count) ∷ []
range_more from zero = ap (λ n. n ∷ []) (omega arith)
range_more from (suc count) =
    let next : from + 1 + count ≡ from + suc count = omega arith in
    ap (λ rest. from ∷ rest) (range_more (from + 1) count) ∙ ap (λ n. from ∷ (range_with_len (from + 1) count ++ n ∷ [])) next

eighths_more : (count : ℕ) → map (λ number. 8 * number) (range_with_len 0 (count + 1)) ≡ map (λ number. 8 * number) (range_with_len 0 count) ++ 8 * count ∷ []
eighths_more count =
    let place : 0 + count ≡ count = omega arith in
    ap (λ n. map (λ number. 8 * number) (range_with_len 0 n)) (add-one count) ∙ ap (map (λ number. 8 * number)) (range_more 0 count)
    ∙ map_push (λ number. 8 * number) (range_with_len 0 count) (0 + count) ∙ ap (λ n. map (λ number. 8 * number) (range_with_len 0 count) ++ 8 * n ∷ []) place

pub at_more : (ls : List Line) (word name : List ℕ) (act : Act) (k cables outs actions last : ℕ) → IsAt ls k cables outs actions last → Goes k 7 → value_of word ≡ 8 * actions
    → IsDoneTo (place (insts_of ls) name) (deed_of act)
    → broken_rule (draft_of ls) (at word name act) ≡ None → IsAt (ls ++ at word name act ∷ []) 7 cables outs (actions + 1) (8 * actions)
at_more ls word name act k cables outs actions last is goes value drawn h =
    let line = at word name act in
    let here : order (with_line (draft_of ls) (length ls + 1) line).section ≡ 7 = rw (is.in_section, goes.low) refl in
    let more = session_more ls line h in
    let pushed : map block_of (session_of ls).actions ++ value_of word ∷ [] ≡ map (λ number. 8 * number) (range_with_len 0 actions) ++ 8 * actions ∷ [] =
    λ i. is.in_blocks i ++ value i ∷ [] in
    let at_block : block_reached (session_of (ls ++ line ∷ [])).actions ≡ 8 * actions = ap (λ (s : Session). block_reached s.actions) more ∙ block_pushed (session_of ls).actions _ ∙ value in
    record {
      in_section = section_more ls line h ∙ here;
      insts = ap (λ (s : Session). s.insts) more ∙ is.insts;
      block = ap (λ (s : Session). s.block) more ∙ is.block;
      blocks = ap (λ (s : Session). s.blocks) more ∙ is.blocks;
      bundles = ap (λ (s : Session). length s.bundles) more ∙ is.bundles;
      count_cables = ap (λ (s : Session). length s.cables) more ∙ is.count_cables;
      sets = subst (λ (s : Session). All SetsConstant s.sets) (sym more) is.sets;
      leads = subst (λ (s : Session). All LeadsOn s.cables) (sym more) is.leads;
      heard = subst (λ (s : Session). All IsHeard s.outs) (sym more) is.heard;
      drawn = subst (λ (s : Session). All IsDrawn s.actions) (sym more) (All-push IsDrawn (session_of ls).actions _ is.drawn drawn);
      count_outs = ap (λ (s : Session). length s.outs) more ∙ is.count_outs;
      count_actions = ap (λ (s : Session). length s.actions) more ∙ length_push (session_of ls).actions _ ∙ ap (λ n. n + 1) is.count_actions;
      in_blocks = ap (λ (s : Session). map block_of s.actions) more ∙ map_push block_of (session_of ls).actions _ ∙ pushed ∙ sym (eighths_more actions);
      not_after = omega (arith, at_block);
    }
