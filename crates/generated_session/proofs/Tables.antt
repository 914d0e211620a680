-- The words of a generated session that depend on a number: each is tried.
use Rattle.std.proofs.Common.{◌≡◌, ℕ, zero, suc, ◌+◌, ◌*◌, ◌<◌, ◌≤◌, ◌⊎◌, inl, inr, Bool, true, eqb, List, [], ◌∷◌, ◌++◌, map, refl, subst, arith, eq-or-lt_of_le, eqb-true, leb-true}
use Rattle.std.specs.Prelude.{◌&&◌, nat_le, codes, decimal, is_none, Some, None, Option, length}
use Rattle.std.specs.Fmt.{digits}
use Rattle.std.specs.List.{list_all, range_with_len}
use Rattle.std.proofs.lemmas.Bool.{and_parts}
use Rattle.turtle_grammar.specs.Characters.{is_excluded}
use Rattle.session_script.specs.declared.session.Inst.{Inst}
use Rattle.session_script.specs.Draft.{insts_of}
use Rattle.session_script.specs.Line.{Line, line_of}
use Rattle.session_script.specs.Places.{is_there, place}
use Rattle.session_script.specs.Script.{AreWell, rule_at}
use Rattle.session_script.specs.Sorts.{is_number}
use Rattle.session_script.specs.Words.{is_name, value_of}
use Rattle.generated_session.specs.Shape.{plugin, uri_of}
use Rattle.generated_session.proofs.Texts.{is_plain}

-- what passes in a whole range passes at each number of it
pub in_range : (p : ℕ → Bool) (from count : ℕ) → list_all p (range_with_len from count) ≡ true → (k : ℕ) → from ≤ k → k < from + count → p k ≡ true
in_range p from zero h k low high = absurd (omega arith)
in_range p from (suc count) h k low high = by_first (in_range p (from + 1) count parts.1) (eq-or-lt_of_le low)
  where
    parts : (p from ≡ true) × (list_all p (range_with_len (from + 1) count) ≡ true)
    parts = and_parts (p from) (list_all p (range_with_len (from + 1) count)) h

    by_first : ((k : ℕ) → from + 1 ≤ k → k < from + 1 + count → p k ≡ true) → (from ≡ k) ⊎ (from < k) → p k ≡ true
    by_first rest (inl same) = subst (λ n. p n ≡ true) same parts.0
    by_first rest (inr more) = rest k (omega arith) (omega arith)

-- ---- names

abbrev pub name : ℕ → List ℕ
name k = codes "n" ++ decimal k

-- ---- the lines of the settings and of the instances

abbrev inst_words : ℕ → List (List ℕ)
inst_words k = codes "inst" ∷ name k ∷ plugin k ∷ []

-- Not an abbrev, as what it says isn't, so that no later proof computes it
unfoldable pub head : List (List (List ℕ))
head =
    (codes "lv2fx" ∷ codes "1" ∷ []) ∷ (codes "block" ∷ codes "64" ∷ []) ∷ (codes "blocks" ∷ codes "512" ∷ []) ∷ (codes "workers" ∷ codes "2" ∷ [])
    ∷ (codes "cells" ∷ codes "4" ∷ []) ∷ map inst_words (range_with_len 0 16)

unfoldable pub head_lines : List Line
unfolding head
head_lines = map line_of head

unfoldable pub the_insts : List Inst
the_insts = insts_of head_lines

pub many_insts : length the_insts ≡ 16
unfolding the_insts head_lines head digits
many_insts = refl

pub plugins : map uri_of the_insts ≡ map plugin (range_with_len 0 16)
unfolding the_insts head_lines head digits
plugins = refl

pub head_plain : list_all (list_all is_plain) head ≡ true
unfolding head digits
head_plain = refl

pub head_says : map line_of head ≡ head_lines
unfolding head_lines
head_says = refl

-- ---- the rules of those lines

is_well : ℕ → Bool
is_well k = is_none (rule_at head_lines k)

all_well : list_all is_well (range_with_len 0 21) ≡ true
unfolding is_well head_lines head digits is_excluded
all_well = refl

none_of : {X : Type 0} (o : Option X) → is_none o ≡ true → o ≡ None
none_of None h = refl
none_of (Some x) h = absurd (cc)

well_at : (k : ℕ) → is_well k ≡ true → rule_at head_lines k ≡ None
unfolding is_well
well_at k h = none_of (rule_at head_lines k) h

many : length head_lines ≡ 21
unfolding head_lines head digits
many = refl

pub head_well : AreWell head_lines (length head_lines)
head_well k low = well_at k (in_range is_well 0 21 all_well k (omega arith) (omega (arith, low, many)))

-- ---- the names of the instances

is_named : ℕ → Bool
is_named k = is_plain (name k) && (is_name (name k) && (is_there the_insts (name k) && (eqb (place the_insts (name k)) k && nat_le (length (name k)) 3)))

all_named : list_all is_named (range_with_len 0 16) ≡ true
unfolding is_named the_insts head_lines head digits
all_named = refl

pub record IsInstName (word : List ℕ) (inst : ℕ) : Type 0 where
  pub plain : is_plain word ≡ true
  pub name : is_name word ≡ true
  pub there : is_there the_insts word ≡ true
  pub is : place the_insts word ≡ inst
  pub short : length word ≤ 3

named : (k : ℕ) → is_named k ≡ true → IsInstName (name k) k
unfolding is_named
named k h =
    let word = name k in
    let short = nat_le (length word) 3 in
    let parts = and_parts (is_plain word) (is_name word && (is_there the_insts word && (eqb (place the_insts word) k && short))) h in
    let more = and_parts (is_name word) (is_there the_insts word && (eqb (place the_insts word) k && short)) parts.1 in
    let rest = and_parts (is_there the_insts word) (eqb (place the_insts word) k && short) more.1 in
    let last = and_parts (eqb (place the_insts word) k) short rest.1 in
    record { plain = parts.0; name = more.0; there = rest.0; is = eqb-true (place the_insts word) k last.0; short = leb-true (length word) 3 last.1 }

pub inst_name : (k : ℕ) → k < 16 → IsInstName (name k) k
inst_name k low = named k (in_range is_named 0 16 all_named k (omega arith) (omega arith))

-- ---- the blocks of the actions

is_block : ℕ → Bool
is_block k = is_plain (decimal (8 * k)) && (is_number (decimal (8 * k)) && (eqb (value_of (decimal (8 * k))) (8 * k) && nat_le (length (decimal (8 * k))) 3))

all_blocks : list_all is_block (range_with_len 0 64) ≡ true
unfolding is_block digits
all_blocks = refl

pub record IsBlockWord (word : List ℕ) (block : ℕ) : Type 0 where
  pub plain : is_plain word ≡ true
  pub number : is_number word ≡ true
  pub value : value_of word ≡ block
  pub short : length word ≤ 3

blocked : (k : ℕ) → is_block k ≡ true → IsBlockWord (decimal (8 * k)) (8 * k)
unfolding is_block
blocked k h =
    let word = decimal (8 * k) in
    let short = nat_le (length word) 3 in
    let parts = and_parts (is_plain word) (is_number word && (eqb (value_of word) (8 * k) && short)) h in
    let more = and_parts (is_number word) (eqb (value_of word) (8 * k) && short) parts.1 in
    let last = and_parts (eqb (value_of word) (8 * k)) short more.1 in
    record { plain = parts.0; number = more.0; value = eqb-true (value_of word) (8 * k) last.0; short = leb-true (length word) 3 last.1 }

pub block_word : (k : ℕ) → k < 64 → IsBlockWord (decimal (8 * k)) (8 * k)
block_word k low = blocked k (in_range is_block 0 64 all_blocks k (omega arith) (omega arith))
