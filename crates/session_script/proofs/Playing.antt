-- A session whose every line can be played keeps what the program can play.
use Rattle.std.proofs.Common.{◌≡◌, ℕ, ◌+◌, ◌<◌, ◌≤◌, Bool, true, false, not, Option, Some, None, List, [], ◌∷◌, length, get_or, refl, sym, subst, inl, inr, arith}
use Rattle.std.specs.Prelude.{IfSome, ◌&&◌, ◌||◌, nat_lt, is_none, slice_get, unwrap_or, codes}
use Rattle.std.specs.List.{All, filter_map, cons_option, enumerate_from, position, position_or_len}
use Rattle.std.specs.Str.{bytes_eq}
use Rattle.std.proofs.lemmas.List.Elements.{All-nil, All-cons, All-head, All-tail, All-from_get_or}
use Rattle.std.proofs.lemmas.List.Sums.{fails_before_first}
use Rattle.std.proofs.lemmas.Slice.Eq.{bytes_eq-Decides}
use borrow.Author.Tests.{ltb-true, leb-true}
use Rattle.session_script.specs.declared.session.Inst.{Inst}
use Rattle.session_script.specs.declared.session.CableLine.{CableLine}
use Rattle.session_script.specs.declared.session.Session.{Session}
use Rattle.session_script.specs.declared.keyword.Setting.TheVariants.{Blocks}
use Rattle.session_script.specs.Draft.{given, blocks_in, inst_in, cable_in, insts_of}
use Rattle.session_script.specs.Later.{is_playable, leads_on, stands_behind, uri_at, first_later}
use Rattle.session_script.specs.Line.{Line, lines_of}
use Rattle.session_script.specs.Line.Line.{skipped, setting, inst, cable}
use Rattle.session_script.specs.Places.{place}
use Rattle.session_script.specs.Playable.{IsPlayable}
use Rattle.session_script.specs.Script.{IsSessionOf, session_of}
use Rattle.session_script.specs.Stock.{IsStockUri, is_stock_uri, const_uri, amp_uri}
use Rattle.session_script.specs.Valid.{IsValid}
use Rattle.session_script.specs.Words.{value_of}
use Rattle.session_script.proofs.Booleans.{both, not-false}
use Rattle.session_script.proofs.Segments.{lost}
use Rattle.session_script.proofs.Validity.{valid, mapped_none}

abbrev Plays : List Inst → Line → Type 0
Plays insts line = is_playable insts line ≡ true

-- ---- what is gathered from lines

All-cons_option : {Y : Type 0} (Q : Y → Type 0) (o : Option Y) (ys : List Y) → IfSome o Q → All Q ys → All Q (cons_option o ys)
All-cons_option Q None ys h all = all
All-cons_option Q (Some y) ys h all = All-cons Q y ys h all

gathered : {Y : Type 0} (h : ℕ × Line → Option Y) (P : Line → Type 0) (Q : Y → Type 0) → ((n : ℕ) (line : Line) → P line → IfSome (h (n, line)) Q)
    → (n : ℕ) (ls : List Line) → All P ls → All Q (filter_map h (enumerate_from n ls))
gathered h P Q gives n [] all = All-nil Q
gathered h P Q gives n (line ∷ ls) all =
    All-cons_option Q (h (n, line)) (filter_map h (enumerate_from (n + 1) ls)) (gives n line (All-head P line ls all))
    (gathered h P Q gives (n + 1) ls (All-tail P line ls all))

first_some : {Y : Type 0} (Q : Y → Type 0) (o : Option Y) (ys : List Y) → IfSome o Q → IfSome (slice_get ys 0) Q → IfSome (slice_get (cons_option o ys) 0) Q
first_some Q None ys h rest = rest
first_some Q (Some y) ys h rest = h

-- ---- what one line keeps

stock_uri : (uri : List ℕ) → is_stock_uri uri ≡ true → IsStockUri uri
stock_uri uri h = given-const (bytes_eq uri const_uri) refl h
  where
    given-const : (b : Bool) → bytes_eq uri const_uri ≡ b → (b || bytes_eq uri amp_uri) ≡ true → IsStockUri uri
    given-const true e k = inl ((bytes_eq-Decides uri const_uri).0 e)
    given-const false e k = inr ((bytes_eq-Decides uri amp_uri).0 k)

stock_line : (insts : List Inst) (n : ℕ) (line : Line) → Plays insts line → IfSome (inst_in (n, line)) (λ one. IsStockUri one.uri)
stock_line insts n (inst name uri worker) h = stock_uri uri (both (is_none worker) (is_stock_uri uri) h).1
stock_line insts n line h = tt

abbrev Rises : CableLine → Type 0
Rises one = one.source < one.target

rising_line : (insts : List Inst) (n : ℕ) (line : Line) → Plays insts line → IfSome (cable_in insts (n, line)) Rises
rising_line insts n (cable source output target input delayed) h =
    let on = (both (is_none delayed) (leads_on insts source output target input) h).1 in
    let behind = (both (bytes_eq output (codes "out") && bytes_eq input (codes "in")) (stands_behind insts source target) on).1 in
    ltb-true (place insts source) (place insts target) (both (nat_lt (place insts source) (place insts target)) (bytes_eq (uri_at insts (place insts target)) amp_uri) behind).0
rising_line insts n line h = tt

abbrev AreFew : ℕ → Type 0
AreFew blocks = blocks ≤ 1024

blocks_line : (insts : List Inst) (line : Line) → Plays insts line → IfSome (blocks_in line) AreFew
blocks_line insts (setting Blocks number) h = leb-true (value_of number) 1024 h
blocks_line insts line h = tt

blocks_given : (insts : List Inst) (ls : List Line) → All (Plays insts) ls → IfSome (given blocks_in ls) AreFew
blocks_given insts [] all = tt
blocks_given insts (line ∷ ls) all =
    first_some AreFew (blocks_in line) (filter_map blocks_in ls) (blocks_line insts line (All-head (Plays insts) line ls all))
    (blocks_given insts ls (All-tail (Plays insts) line ls all))

or_none : (o : Option ℕ) → IfSome o AreFew → unwrap_or o 0 ≤ 1024
or_none None h = omega arith
or_none (Some n) h = h

-- ---- the session

playable_lines : (ls : List Line) → IsValid (session_of ls) → All (Plays (insts_of ls)) ls → IsPlayable (session_of ls)
playable_lines ls v all =
    let insts = insts_of ls in
    let on : All Rises (session_of ls).cables = gathered (cable_in insts) (Plays insts) Rises (rising_line insts) 1 ls all in
    record {
      some_frames = v.block.0;
      block = v.block.1;
      blocks = or_none (given blocks_in ls) (blocks_given insts ls all);
      few_insts = v.few_insts;
      few_cables = v.few_cables;
      few_outs = v.few_outs;
      stock = gathered inst_in (Plays insts) (λ (one : Inst). IsStockUri one.uri) (stock_line insts) 1 ls all;
      sets = v.sets;
      cables = λ k d low. (on k d low, (v.cables k d low).1);
      outs = v.outs;
    }

-- no line is found that can't be played
all_play : (insts : List Inst) (ls : List Line) → position (λ line. not (is_playable insts line)) ls ≡ None → All (Plays insts) ls
all_play insts ls none =
    let p : Line → Bool = λ line. not (is_playable insts line) in
    let end : length ls ≤ position_or_len p ls = lost (position_or_len p ls) (length ls) (nat_lt (position_or_len p ls) (length ls)) refl none in
    All-from_get_or (Plays insts) ls skipped (λ k low. not-false (is_playable insts (get_or ls k skipped)) (fails_before_first p ls k skipped (omega arith)))

pub playable : (script : List ℕ) (session : Session) → IsSessionOf script session → first_later script session ≡ None → IsPlayable session
playable script session s none =
    let ls = lines_of script in
    let found = mapped_none (λ (before : ℕ). before + 1) (position (λ line. not (is_playable session.insts line)) ls) none in
    subst (λ (one : Session). IsValid one → All (Plays one.insts) ls → IsPlayable one) (sym s.value) (playable_lines ls)
    (valid ls session s.whole s.value s.limited) (all_play session.insts ls found)
