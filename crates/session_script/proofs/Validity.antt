-- Every session that a script says is valid.
use Rattle.std.proofs.Common.{◌≡◌, ℕ, zero, suc, ◌+◌, ◌-◌, ◌*◌, ◌^◌, ◌<◌, ◌≤◌, Bool, true, false, cond, Option, Some, None, List, [], ◌∷◌, ◌++◌, length, take, get_or, refl, sym, ap, subst, ◌∙◌, ⊎_elim, arith, add-one, Result, Ok, Err}
use Rattle.std.specs.Prelude.{IfOk, IfSome, unwrap_or, ◌&&◌, nat_lt, map, filter, slice_get, codes}
use Rattle.std.specs.Option.{option_map, option_map_or}
use Rattle.std.specs.List.{All, find}
use Rattle.std.specs.Str.{bytes_eq}
use Rattle.std.proofs.Math.ListN.{get_or-append}
use Rattle.std.proofs.lemmas.Bool.{cases_lt, ltb-false}
use Rattle.std.proofs.lemmas.List.{take_all, length_push, length-map, map_push, get_or_push}
use Rattle.std.proofs.lemmas.List.Elements.{All-nil, All-push, All-weaker}
use borrow.Author.Tests.{ltb-true}
use Rattle.session_script.specs.declared.session.Inst.{Inst}
use Rattle.session_script.specs.declared.session.SetLine.{SetLine}
use Rattle.session_script.specs.declared.session.CableLine.{CableLine}
use Rattle.session_script.specs.declared.session.OutLine.{OutLine}
use Rattle.session_script.specs.declared.session.Action.{Action}
use Rattle.session_script.specs.declared.session.Session.{Session}
use Rattle.session_script.specs.declared.session.Deed.TheVariants.{PatchFixed, PatchInt}
use Rattle.session_script.specs.declared.fault.Limit.TheVariants.{Bundles}
use Rattle.session_script.specs.declared.numbers.Numbers.{Numbers}
use Rattle.session_script.specs.declared.draft.Draft.{Draft}
use Rattle.session_script.specs.declared.keyword.Setting.TheVariants.{Rate, Block, Blocks, Workers, Cells, Record}
use Rattle.session_script.specs.Words.{value_of, is_name}
use Rattle.session_script.specs.Sorts.{is_iri, fixed_value, integer_value}
use Rattle.session_script.specs.Places.{place, is_there}
use Rattle.session_script.specs.Line.{Line, Act}
use Rattle.session_script.specs.Line.Act.{set_value, patch_set, patch_get, save, restore}
use Rattle.session_script.specs.Line.Line.{inst, set, cable, out, at}
use Rattle.session_script.specs.Draft.{draft_of, deed_of, inst_in, set_in, cable_in, out_in, action_in, workers_in, blocks_in}
use Rattle.session_script.specs.Limits.{AreInBounds, Count, counts, is_save, passed, workers_or_default, blocks_or_default}
use Rattle.session_script.specs.Rules.{broken_rule, block_reached}
use Rattle.session_script.specs.Step.{added, or_given, with_number, with_line}
use Rattle.session_script.specs.Valid.{IsBetween, IsInstValid, IsDeedValid, IsActionValid, Rise, block_of, IsValid}
use Rattle.session_script.specs.Script.{AreWell, IsWhole, line_at, session_from, session_of}
use Rattle.session_script.specs.Answer.{ReadsText}
use Rattle.session_script.specs.declared.fault.ScriptFault.{ScriptFault}
use Rattle.session_script.proofs.Reading.{draft_of-more, none_bounded}
use Rattle.session_script.proofs.Bounds.{bounds_more, worker_within, block_within}
use Rattle.session_script.proofs.Finds.{find_none, not_misnamed, not_unknown, not_iri}
use Rattle.session_script.proofs.Booleans.{both, not-false}

-- ---- what one line keeps

only_true : (b : Bool) → (b && true) ≡ true → b ≡ true
only_true b h = (both b true h).0

there : (insts : List Inst) (name : List ℕ) → is_there insts name ≡ true → place insts name < length insts
there insts name h = ltb-true (place insts name) (length insts) h

inst_valid : (d : Draft) (n : ℕ) (name uri : List ℕ) (worker : Option (List ℕ)) → broken_rule d (inst name uri worker) ≡ None
    → IsInstValid (workers_or_default d.numbers) (record { name = name; uri = uri; worker = option_map value_of worker; line = n })
inst_valid d n name uri None h = record {
  name = only_true (is_name name) (not-false _ (not_misnamed d (inst name uri None) h));
  uri = only_true (is_iri uri) (not-false _ (not_iri d (inst name uri None) h));
  worker = tt;
}
inst_valid d n name uri (Some worker) h = record {
  name = only_true (is_name name) (not-false _ (not_misnamed d (inst name uri (Some worker)) h));
  uri = only_true (is_iri uri) (not-false _ (not_iri d (inst name uri (Some worker)) h));
  worker = worker_within d name uri worker h;
}

patched : (property form value : List ℕ) (b : Bool) → is_iri property ≡ true → IsDeedValid (cond b (PatchFixed property (fixed_value value)) (PatchInt property (integer_value value)))
patched property form value true h = h
patched property form value false h = h

deed_valid : (d : Draft) (block name : List ℕ) (act : Act) → broken_rule d (at block name act) ≡ None → IsDeedValid (deed_of act)
deed_valid d block name (set_value symbol decimal) h = tt
deed_valid d block name (patch_set property form value) h =
    patched property form value (bytes_eq form (codes "fixed")) (only_true (is_iri property) (not-false _ (not_iri d (at block name (patch_set property form value)) h)))
deed_valid d block name (patch_get None) h = tt
deed_valid d block name (patch_get (Some property)) h = only_true (is_iri property) (not-false _ (not_iri d (at block name (patch_get (Some property))) h))
deed_valid d block name save h = tt
deed_valid d block name (restore path place) h = tt

-- ---- what the draft keeps

pub record Keeps (d : Draft) : Type 0 where
  pub bounds : AreInBounds d.numbers
  pub insts : All (IsInstValid (workers_or_default d.numbers)) d.insts
  pub sets : All (λ (one : SetLine). one.inst < length d.insts) d.sets
  pub cables : All (λ (one : CableLine). (one.source < length d.insts) × (one.target < length d.insts)) d.cables
  pub outs : All (λ (one : OutLine). one.inst < length d.insts) d.outs
  pub actions : All (IsActionValid (length d.insts) (blocks_or_default d.numbers)) d.actions
  pub in_order : Rise (map block_of d.actions)

-- a number that is given once stays
default_more : (low high default : ℕ) (o p : Option ℕ) → IfSome (or_given o p) (λ n. (low ≤ n) × (n ≤ high)) → default ≤ low → unwrap_or o default ≤ unwrap_or (or_given o p) default
default_more low high default None None h d = omega arith
default_more low high default None (Some n) h d = omega (arith, h.0)
default_more low high default (Some m) None h d = omega arith
default_more low high default (Some m) (Some n) h d = omega arith

workers_more : (n : Numbers) (line : Line) → AreInBounds (with_number n line) → workers_or_default n ≤ workers_or_default (with_number n line)
workers_more n line b = default_more 1 8 1 n.workers (workers_in line) (b Workers) (omega arith)

blocks_more : (n : Numbers) (line : Line) → AreInBounds (with_number n line) → blocks_or_default n ≤ blocks_or_default (with_number n line)
blocks_more n line b = default_more 0 65536 0 n.blocks (blocks_in line) (b Blocks) (omega arith)

-- a list with what a line adds
All-added : {X : Type 0} (P Q : X → Type 0) (xs : List X) (o : Option X) → ((x : X) → P x → Q x) → All P xs → IfSome o Q → All Q (added xs o)
All-added P Q xs None weaker all h = All-weaker P Q weaker xs all
All-added P Q xs (Some x) weaker all h = All-push Q xs x (All-weaker P Q weaker xs all) h

length-added : {X : Type 0} (xs : List X) (o : Option X) → length xs ≤ length (added xs o)
length-added xs None = omega arith
length-added xs (Some x) = omega (arith, length_push xs x)

some_weaker : {X : Type 0} (P Q : X → Type 0) → ((x : X) → P x → Q x) → (o : Option X) → IfSome o P → IfSome o Q
some_weaker P Q weaker None h = tt
some_weaker P Q weaker (Some x) h = weaker x h

worker_weaker : (m n : ℕ) → m ≤ n → (o : Option ℕ) → IfSome o (IsBetween 1 m) → IfSome o (IsBetween 1 n)
worker_weaker m n l None h = tt
worker_weaker m n l (Some w) h = (h.0, omega (arith, h.1))

inst_weaker : (m n : ℕ) → m ≤ n → (one : Inst) → IsInstValid m one → IsInstValid n one
inst_weaker m n l one h = record { name = h.name; uri = h.uri; worker = worker_weaker m n l one.worker h.worker }

action_weaker : (i j b c : ℕ) → i ≤ j → b ≤ c → (one : Action) → IsActionValid i b one → IsActionValid j c one
action_weaker i j b c l m one h = record { inst = let low = h.inst in omega arith; block = let low = h.block in omega arith; deed = h.deed }

new_inst : (d : Draft) (n : ℕ) (line : Line) → broken_rule d line ≡ None → IfSome (inst_in (n, line)) (IsInstValid (workers_or_default d.numbers))
new_inst d n (inst name uri worker) h = inst_valid d n name uri worker h
new_inst d n line h = tt

new_set : (d : Draft) (n : ℕ) (line : Line) → broken_rule d line ≡ None → IfSome (set_in d.insts (n, line)) (λ one. one.inst < length d.insts)
new_set d n (set name symbol decimal) h = there d.insts name (only_true (is_there d.insts name) (not-false _ (not_unknown d (set name symbol decimal) h)))
new_set d n line h = tt

new_cable : (d : Draft) (n : ℕ) (line : Line) → broken_rule d line ≡ None → IfSome (cable_in d.insts (n, line)) (λ one. (one.source < length d.insts) × (one.target < length d.insts))
new_cable d n (cable source output target input delayed) h =
    let t = both (is_there d.insts source) (is_there d.insts target && true) (not-false _ (not_unknown d (cable source output target input delayed) h)) in
    (there d.insts source t.0, there d.insts target (only_true (is_there d.insts target) t.1))
new_cable d n line h = tt

new_out : (d : Draft) (n : ℕ) (line : Line) → broken_rule d line ≡ None → IfSome (out_in d.insts (n, line)) (λ one. one.inst < length d.insts)
new_out d n (out name symbol) h = there d.insts name (only_true (is_there d.insts name) (not-false _ (not_unknown d (out name symbol) h)))
new_out d n line h = tt

new_action : (d : Draft) (n : ℕ) (line : Line) → broken_rule d line ≡ None → IfSome (action_in d.insts (n, line)) (IsActionValid (length d.insts) (blocks_or_default d.numbers))
new_action d n (at block name act) h = record {
  inst = there d.insts name (only_true (is_there d.insts name) (not-false _ (not_unknown d (at block name act) h)));
  block = (block_within d block name act h).1;
  deed = deed_valid d block name act h;
}
new_action d n line h = tt

-- ---- blocks that don't fall

nth_block : (actions : List Action) (k : ℕ) → option_map_or (λ (action : Action). action.block) (slice_get actions k) 0 ≡ get_or (map block_of actions) k 0
nth_block [] zero = refl
nth_block [] (suc k) = refl
nth_block (action ∷ actions) zero = refl
nth_block (action ∷ actions) (suc k) = nth_block actions k

rise_push : (ns : List ℕ) (n : ℕ) → Rise ns → get_or ns (length ns - 1) 0 ≤ n → Rise (ns ++ n ∷ [])
rise_push ns n rise low = λ k below. ⊎_elim
    (λ l. let before : k < length ns = omega arith in
    let left : get_or (ns ++ n ∷ []) k 0 ≡ get_or ns k 0 = get_or-append ns (n ∷ []) 0 k before in
    let right : get_or (ns ++ n ∷ []) (k + 1) 0 ≡ get_or ns (k + 1) 0 = get_or-append ns (n ∷ []) 0 (k + 1) l in
    let up : get_or ns k 0 ≤ get_or ns (k + 1) 0 = rise k l in
    omega (arith, left, right, up))
    (λ l. let more : length (ns ++ n ∷ []) ≡ length ns + 1 = length_push ns n in
    let end : length ns ≡ k + 1 = omega (arith, more, below) in
    let before : k < length ns = omega arith in
    let last : length ns - 1 ≡ k = omega arith in
    let left : get_or (ns ++ n ∷ []) k 0 ≡ get_or ns k 0 = get_or-append ns (n ∷ []) 0 k before in
    let right : get_or (ns ++ n ∷ []) (k + 1) 0 ≡ n = get_or_push ns n 0 (k + 1) end in
    let high : get_or ns k 0 ≤ n = subst (λ j. get_or ns j 0 ≤ n) last low in
    omega (arith, left, right, high))
    (cases_lt (k + 1) (length ns))

in_order_more : (d : Draft) (n : ℕ) (line : Line) → broken_rule d line ≡ None → Rise (map block_of d.actions) → Rise (map block_of (added d.actions (action_in d.insts (n, line))))
in_order_more d n (at block name act) h rise =
    let new : Action = record { block = value_of block; inst = place d.insts name; deed = deed_of act; line = n } in
    let low = (block_within d block name act h).0 in
    let same : length (map block_of d.actions) ≡ length d.actions = length-map d.actions block_of in
    let last : block_reached d.actions ≡ get_or (map block_of d.actions) (length (map block_of d.actions) - 1) 0 =
    nth_block d.actions (length d.actions - 1) ∙ ap (λ m. get_or (map block_of d.actions) (m - 1) 0) (sym same) in
    let high : get_or (map block_of d.actions) (length (map block_of d.actions) - 1) 0 ≤ value_of block = omega (arith, last, low) in
    subst Rise (sym (map_push block_of d.actions new)) (rise_push (map block_of d.actions) (value_of block) rise high)
in_order_more d n line h rise = rise

keeps_more : (d : Draft) (n : ℕ) (line : Line) → broken_rule d line ≡ None → Keeps d → Keeps (with_line d n line)
keeps_more d n line h k =
    let bounds = bounds_more d line h k.bounds in
    let workers = workers_more d.numbers line bounds in
    let blocks = blocks_more d.numbers line bounds in
    let more = length-added d.insts (inst_in (n, line)) in
    let grown = added d.insts (inst_in (n, line)) in
    record {
      bounds = bounds;
      insts = All-added (IsInstValid (workers_or_default d.numbers)) (IsInstValid (workers_or_default (with_number d.numbers line))) d.insts (inst_in (n, line))
          (inst_weaker (workers_or_default d.numbers) (workers_or_default (with_number d.numbers line)) workers) k.insts (some_weaker (IsInstValid (workers_or_default d.numbers)) (IsInstValid (workers_or_default (with_number d.numbers line))) (inst_weaker (workers_or_default d.numbers) (workers_or_default (with_number d.numbers line)) workers) (inst_in (n, line)) (new_inst d n line h));
      sets = All-added (λ (one : SetLine). one.inst < length d.insts) (λ (one : SetLine). one.inst < length grown) d.sets (set_in d.insts (n, line))
          (λ one low. omega (arith, low, more)) k.sets (some_weaker (λ (one : SetLine). one.inst < length d.insts) (λ (one : SetLine). one.inst < length grown) (λ one low. omega (arith, low, more)) (set_in d.insts (n, line)) (new_set d n line h));
      cables = All-added (λ (one : CableLine). (one.source < length d.insts) × (one.target < length d.insts)) (λ (one : CableLine). (one.source < length grown) × (one.target < length grown)) d.cables (cable_in d.insts (n, line))
          (λ one low. (omega (arith, low.0, more), omega (arith, low.1, more))) k.cables
          (some_weaker (λ (one : CableLine). (one.source < length d.insts) × (one.target < length d.insts)) (λ (one : CableLine). (one.source < length grown) × (one.target < length grown)) (λ one low. (omega (arith, low.0, more), omega (arith, low.1, more))) (cable_in d.insts (n, line)) (new_cable d n line h));
      outs = All-added (λ (one : OutLine). one.inst < length d.insts) (λ (one : OutLine). one.inst < length grown) d.outs (out_in d.insts (n, line))
          (λ one low. omega (arith, low, more)) k.outs (some_weaker (λ (one : OutLine). one.inst < length d.insts) (λ (one : OutLine). one.inst < length grown) (λ one low. omega (arith, low, more)) (out_in d.insts (n, line)) (new_out d n line h));
      actions = All-added (IsActionValid (length d.insts) (blocks_or_default d.numbers)) (IsActionValid (length grown) (blocks_or_default (with_number d.numbers line))) d.actions (action_in d.insts (n, line))
          (action_weaker (length d.insts) (length grown) (blocks_or_default d.numbers) (blocks_or_default (with_number d.numbers line)) more blocks) k.actions
          (some_weaker (IsActionValid (length d.insts) (blocks_or_default d.numbers)) (IsActionValid (length grown) (blocks_or_default (with_number d.numbers line))) (action_weaker (length d.insts) (length grown) (blocks_or_default d.numbers) (blocks_or_default (with_number d.numbers line)) more blocks) (action_in d.insts (n, line)) (new_action d n line h));
      in_order = in_order_more d n line h k.in_order;
    }

none_keeps : Keeps (draft_of [])
none_keeps = record {
  bounds = none_bounded;
  insts = All-nil (IsInstValid 1);
  sets = All-nil (λ (one : SetLine). one.inst < 0);
  cables = All-nil (λ (one : CableLine). (one.source < 0) × (one.target < 0));
  outs = All-nil (λ (one : OutLine). one.inst < 0);
  actions = All-nil (IsActionValid 0 0);
  in_order = λ k below. absurd (omega arith);
}

keeps : (ls : List Line) (n : ℕ) → n ≤ length ls → AreWell ls n → Keeps (draft_of (take n ls))
keeps ls zero l well = none_keeps
keeps ls (suc n) l well =
    let before = keeps ls n (omega arith) (λ k below. well k (omega arith)) in
    let here = well n (omega arith) in
    let e : draft_of (take (suc n) ls) ≡ with_line (draft_of (take n ls)) (n + 1) (line_at ls n) = ap (λ m. draft_of (take m ls)) (sym (add-one n)) ∙ draft_of-more ls n (omega arith) here in
    subst Keeps (sym e) (keeps_more (draft_of (take n ls)) (n + 1) (line_at ls n) here before)

-- ---- the session

or_between : (low high default : ℕ) (o : Option ℕ) → IfSome o (IsBetween low high) → low ≤ default → default ≤ high → IsBetween low high (unwrap_or o default)
or_between low high default None h l m = (l, m)
or_between low high default (Some n) h l m = h

pub mapped_none : {X Y : Type 0} (f : X → Y) (o : Option X) → option_map f o ≡ None → o ≡ None
mapped_none f None h = refl
mapped_none f (Some x) h = absurd (cc)

abbrev is_past : Count → Bool
is_past count = nat_lt count.limit count.number

abbrev no_count : Count
no_count = record { which = Bundles; number = 0; limit = 0 }

-- a session that passes no limit keeps each
limited : (s : Session) → passed s ≡ None → (k : ℕ) → k < 7 → is_past (get_or (counts s) k no_count) ≡ false
limited s h k low = find_none is_past (counts s) no_count (mapped_none (λ (count : Count). (count.which, count.number)) (find is_past (counts s)) h) k low

valid_from : (d : Draft) → Keeps d → passed (session_from d) ≡ None → IsValid (session_from d)
valid_from d k h =
    let s = session_from d in
    let n = d.numbers in
    record {
      rate = or_between 1 1000000 48000 n.rate (k.bounds Rate) (omega arith) (omega arith);
      block = or_between 1 4096 256 n.block (k.bounds Block) (omega arith) (omega arith);
      blocks = (or_between 0 65536 0 n.blocks (k.bounds Blocks) (omega arith) (omega arith)).1;
      workers = or_between 1 8 1 n.workers (k.bounds Workers) (omega arith) (omega arith);
      cells = or_between 1 64 8 n.cells (k.bounds Cells) (omega arith) (omega arith);
      reserve = k.bounds Record;
      few_bundles = ltb-false 64 (length d.bundles) (limited s h 0 (omega arith));
      few_insts = ltb-false 32 (length d.insts) (limited s h 1 (omega arith));
      few_cables = ltb-false 256 (length d.cables) (limited s h 2 (omega arith));
      few_outs = ltb-false 8 (length d.outs) (limited s h 3 (omega arith));
      few_actions = ltb-false 1024 (length d.actions) (limited s h 4 (omega arith));
      few_saves = ltb-false 128 (length (filter is_save d.actions)) (limited s h 5 (omega arith));
      few_samples = ltb-false (2 ^ 25) (s.block * s.blocks * length d.outs) (limited s h 6 (omega arith));
      insts = k.insts;
      sets = k.sets;
      cables = k.cables;
      outs = k.outs;
      actions = k.actions;
      in_order = k.in_order;
    }

-- the session of whole lines is valid
pub valid : (ls : List Line) (session : Session) → IsWhole ls → session ≡ session_of ls → passed session ≡ None → IsValid session
valid ls session whole value limits =
    let all : Keeps (draft_of ls) = subst Keeps (ap draft_of (take_all (length ls) ls (omega arith))) (keeps ls (length ls) (omega arith) whole.well) in
    subst IsValid (sym value) (valid_from (draft_of ls) all (ap passed (sym value) ∙ limits))

-- the session that a text says is valid
pub IsValid-read : (ls : List Line) (r : Result Session ScriptFault) → ReadsText ls r → IfOk r IsValid
IsValid-read ls (Ok session) h = valid ls session h.0 h.1 h.2
IsValid-read ls (Err fault) h = tt
