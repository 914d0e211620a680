-- What the words of a line that breaks no rule keep within.
use Rattle.std.proofs.Common.{◌≡◌, ℕ, ◌<◌, ◌≤◌, ◌^◌, Bool, true, false, cond, not, Option, Some, None, List, [], ◌∷◌, length, refl, sym, ap, ◌∙◌, arith}
use Rattle.std.specs.Prelude.{IfSome, nat_le, nat_lt, ◌&&◌, ◌||◌, codes, unwrap_or}
use Rattle.std.specs.Option.{option_or}
use Rattle.std.specs.List.{list_all}
use Rattle.std.specs.Str.{bytes_eq}
use Rattle.std.proofs.lemmas.Bool.{false≢true, ltb-false}
use Rattle.std.proofs.lemmas.List.Sums.{prefix_len-le-length}
use borrow.Author.Tests.{leb-true}
use Rattle.session_script.specs.declared.session.Inst.{Inst}
use Rattle.session_script.specs.declared.numbers.Numbers.{Numbers}
use Rattle.session_script.specs.declared.draft.Draft.{Draft}
use Rattle.session_script.specs.declared.keyword.Setting.{Setting}
use Rattle.session_script.specs.declared.keyword.Setting.TheVariants.{Rate, Block, Blocks, Workers, Cells, Record}
use Rattle.session_script.specs.Words.{value_of}
use Rattle.session_script.specs.Sorts.{fits_i32, fits_fixed}
use Rattle.session_script.specs.Places.{place, is_there}
use Rattle.session_script.specs.Line.{Line, Act}
use Rattle.session_script.specs.Line.Act.{patch_set, restore}
use Rattle.session_script.specs.Line.Line.{setting, inst, at}
use Rattle.session_script.specs.Limits.{least, most, workers_or_default, blocks_or_default, AreInBounds}
use Rattle.session_script.specs.Rules.{broken_rule, is_limited, decimals_in, integers_in, block_reached}
use Rattle.session_script.specs.Step.{with_number, with_setting}
use Rattle.session_script.specs.Judged.{IsActWell, IsWorkerWell}
use Rattle.session_script.proofs.Finds.{not_out_of_range, not_same, not_out_of_blocks, not_malformed}
use Rattle.session_script.proofs.Booleans.{both, not-false}

-- ---- tests

or_false : (a b : Bool) → (a || b) ≡ false → (a ≡ false) × (b ≡ false)
or_false true b h = absurd (false≢true (sym h))
or_false false b h = (refl, h)

or_true : (a b : Bool) → (a || b) ≡ true → a ≡ false → b ≡ true
or_true true b h e = absurd (false≢true (sym e))
or_true false b h e = h

-- ---- the three parts of being in range

limited : (d : Draft) (line : Line) → broken_rule d line ≡ None → is_limited d line ≡ true
limited d line h = (both _ (list_all fits_fixed (decimals_in line)) (both _ (list_all fits_i32 (integers_in line)) (not-false _ (not_out_of_range d line h))).0).0

integers : (d : Draft) (line : Line) → broken_rule d line ≡ None → list_all fits_i32 (integers_in line) ≡ true
integers d line h = (both _ (list_all fits_i32 (integers_in line)) (not-false _ (not_out_of_range d line h))).1

within : (low high n : ℕ) → (nat_le low n && nat_le n high) ≡ true → (low ≤ n) × (n ≤ high)
within low high n h = let t = both (nat_le low n) (nat_le n high) h in (leb-true low n t.0, leb-true n high t.1)

-- ---- settings

setting_within : (d : Draft) (kind : Setting) (word : List ℕ) → broken_rule d (setting kind word) ≡ None → (least kind ≤ value_of word) × (value_of word ≤ most kind)
setting_within d kind word h = within (least kind) (most kind) (value_of word) (limited d (setting kind word) h)

most_small : (kind : Setting) → most kind ≤ 4194304
most_small Rate = omega arith
most_small Block = omega arith
most_small Blocks = omega arith
most_small Workers = omega arith
most_small Cells = omega arith
most_small Record = omega arith

pub setting_small : (d : Draft) (kind : Setting) (word : List ℕ) → broken_rule d (setting kind word) ≡ None → value_of word < 2 ^ 32
setting_small d kind word h = let w = setting_within d kind word h in let m = most_small kind in omega (arith, w.1, m)

or_bounded : (low high : ℕ) (o : Option ℕ) (v : ℕ) → IfSome o (λ n. (low ≤ n) × (n ≤ high)) → low ≤ v → v ≤ high → IfSome (option_or o (Some v)) (λ n. (low ≤ n) × (n ≤ high))
or_bounded low high None v h l m = (l, m)
or_bounded low high (Some n) v h l m = h

set_bounded : (n : Numbers) (k : Setting) (v : ℕ) → AreInBounds n → least k ≤ v → v ≤ most k → AreInBounds (with_setting n k v)
set_bounded n Rate v b low high Rate = or_bounded (least Rate) (most Rate) n.rate v (b Rate) low high
set_bounded n Rate v b low high kind = b kind
set_bounded n Block v b low high Block = or_bounded (least Block) (most Block) n.block v (b Block) low high
set_bounded n Block v b low high kind = b kind
set_bounded n Blocks v b low high Blocks = or_bounded (least Blocks) (most Blocks) n.blocks v (b Blocks) low high
set_bounded n Blocks v b low high kind = b kind
set_bounded n Workers v b low high Workers = or_bounded (least Workers) (most Workers) n.workers v (b Workers) low high
set_bounded n Workers v b low high kind = b kind
set_bounded n Cells v b low high Cells = or_bounded (least Cells) (most Cells) n.cells v (b Cells) low high
set_bounded n Cells v b low high kind = b kind
set_bounded n Record v b low high Record = or_bounded (least Record) (most Record) n.reserve v (b Record) low high
set_bounded n Record v b low high kind = b kind

-- the settings stay within their limits
pub bounds_more : (d : Draft) (line : Line) → broken_rule d line ≡ None → AreInBounds d.numbers → AreInBounds (with_number d.numbers line)
bounds_more d (setting Rate word) h b = let w = setting_within d Rate word h in set_bounded d.numbers Rate (value_of word) b w.0 w.1
bounds_more d (setting Block word) h b = let w = setting_within d Block word h in set_bounded d.numbers Block (value_of word) b w.0 w.1
bounds_more d (setting Blocks word) h b = let w = setting_within d Blocks word h in set_bounded d.numbers Blocks (value_of word) b w.0 w.1
bounds_more d (setting Workers word) h b = let w = setting_within d Workers word h in set_bounded d.numbers Workers (value_of word) b w.0 w.1
bounds_more d (setting Cells word) h b = let w = setting_within d Cells word h in set_bounded d.numbers Cells (value_of word) b w.0 w.1
bounds_more d (setting Record word) h b = let w = setting_within d Record word h in set_bounded d.numbers Record (value_of word) b w.0 w.1
bounds_more d line h b = b

or_default : (low high default : ℕ) (o : Option ℕ) → IfSome o (λ n. (low ≤ n) × (n ≤ high)) → default ≤ high → unwrap_or o default ≤ high
or_default low high default None h d = d
or_default low high default (Some n) h d = h.1

pub few_workers : (n : Numbers) → AreInBounds n → workers_or_default n ≤ 8
few_workers n b = or_default 1 8 1 n.workers (b Workers) (omega arith)

pub few_blocks : (n : Numbers) → AreInBounds n → blocks_or_default n ≤ 65536
few_blocks n b = or_default 0 65536 0 n.blocks (b Blocks) (omega arith)

pub few_frames : (n : Numbers) → AreInBounds n → unwrap_or n.block 256 ≤ 4096
few_frames n b = or_default 1 4096 256 n.block (b Block) (omega arith)

-- ---- instances

not_there : (insts : List Inst) (name : List ℕ) → is_there insts name ≡ false → place insts name ≡ length insts
not_there insts name h =
    let high = ltb-false (place insts name) (length insts) h in
    let low : place insts name ≤ length insts = prefix_len-le-length (λ (one : Inst). not (bytes_eq one.name name)) insts in
    omega arith

pub new_name : (d : Draft) (name uri : List ℕ) (worker : Option (List ℕ)) → broken_rule d (inst name uri worker) ≡ None → place d.insts name ≡ length d.insts
new_name d name uri worker h = not_there d.insts name (not_same d (inst name uri worker) h)

pub worker_within : (d : Draft) (name uri worker : List ℕ) → broken_rule d (inst name uri (Some worker)) ≡ None → (1 ≤ value_of worker) × (value_of worker ≤ workers_or_default d.numbers)
worker_within d name uri worker h = within 1 (workers_or_default d.numbers) (value_of worker) (limited d (inst name uri (Some worker)) h)

pub worker_small : (d : Draft) (name uri : List ℕ) (worker : Option (List ℕ)) → AreInBounds d.numbers → broken_rule d (inst name uri worker) ≡ None → IsWorkerWell worker
worker_small d name uri None b h = tt
worker_small d name uri (Some worker) b h =
    let w = worker_within d name uri worker h in let few = few_workers d.numbers b in omega (arith, w.1, few)

-- ---- actions

pub block_within : (d : Draft) (block name : List ℕ) (act : Act) → broken_rule d (at block name act) ≡ None → (block_reached d.actions ≤ value_of block) × (value_of block ≤ blocks_or_default d.numbers)
block_within d block name act h =
    let t = or_false (nat_lt (value_of block) (block_reached d.actions)) (nat_lt (blocks_or_default d.numbers) (value_of block)) (not_out_of_blocks d (at block name act) h) in
    (ltb-false (value_of block) (block_reached d.actions) t.0, ltb-false (blocks_or_default d.numbers) (value_of block) t.1)

pub block_small : (d : Draft) (block name : List ℕ) (act : Act) → AreInBounds d.numbers → broken_rule d (at block name act) ≡ None → value_of block < 2 ^ 32
block_small d block name act b h =
    let w = block_within d block name act h in let few = few_blocks d.numbers b in omega (arith, w.1, few)

only : (value : List ℕ) (b : Bool) → b ≡ true → list_all fits_i32 (cond b (value ∷ []) []) ≡ true → fits_i32 value ≡ true
only value b e h = (both (fits_i32 value) true (sym (ap (λ t. list_all fits_i32 (cond t (value ∷ []) [])) e) ∙ h)).0

pub act_well : (d : Draft) (block name : List ℕ) (act : Act) → broken_rule d (at block name act) ≡ None → IsActWell act
act_well d block name (patch_set property form value) h = λ e.
    let line = at block name (patch_set property form value) in
    let int = or_true (bytes_eq form (codes "fixed")) (bytes_eq form (codes "int")) (not-false _ (not_malformed d line h)) e in
    only value (bytes_eq form (codes "int")) int (integers d line h)
act_well d block name (restore path place) h =
    let low = leb-true (value_of place) 4294967295 (limited d (at block name (restore path place)) h) in omega arith
act_well d block name act h = tt
