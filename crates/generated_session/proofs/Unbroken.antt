-- The lines of a generated session after its instances break no rule.
use Rattle.std.proofs.Common.{◌≡◌, ℕ, Bool, true, false, cond, not, eqb, List, [], ◌∷◌, Some, None, Ok, refl, ◌∙◌}
use Rattle.std.specs.Prelude.{nat_lt, codes}
use Rattle.std.specs.List.{find, list_all}
use Rattle.std.proofs.lemmas.Bool.{and_parts, false≢true}
use Rattle.turtle_grammar.specs.Characters.{is_excluded}
use Rattle.lv_base.specs.declared.number.Fixed.{Fixed}
use Rattle.lv_base.specs.Decimal.{fixed_of}
use Rattle.session_script.specs.Draft.{draft_of, reached, insts_of, numbers_of}
use Rattle.session_script.specs.Limits.{blocks_or_default}
use Rattle.session_script.specs.Line.{Line}
use Rattle.session_script.specs.Line.Act.{set_value, patch_set, patch_get, save}
use Rattle.session_script.specs.Line.Line.{set, cable, out, at}
use Rattle.session_script.specs.Places.{is_there}
use Rattle.session_script.specs.Rules.{breaks, broken_rule, block_reached, table}
use Rattle.session_script.specs.Script.{session_of}
use Rattle.session_script.specs.Sections.{order}
use Rattle.session_script.specs.Sorts.{is_number}
use Rattle.session_script.specs.Words.{is_name, value_of}

-- nothing is found where nothing passes
pub not_found : {X : Type 0} (p : X → Bool) (xs : List X) → list_all (λ x. not (p x)) xs ≡ true → find p xs ≡ None
not_found p [] h = refl
not_found p (x ∷ xs) h = past (p x) (and_parts (not (p x)) (list_all (λ y. not (p y)) xs) h).0 ∙ not_found p xs (and_parts (not (p x)) (list_all (λ y. not (p y)) xs) h).1
  where
    past : (b : Bool) → not b ≡ true → cond b (Some x) (find p xs) ≡ find p xs
    past true e = absurd (false≢true e)
    past false e = refl

unbroken : (ls : List Line) (line : Line) → list_all (λ rule. not (breaks rule (draft_of ls) line)) table ≡ true → broken_rule (draft_of ls) line ≡ None
unbroken ls line h = not_found (λ rule. breaks rule (draft_of ls) line) table h

-- lines that a line of section n may follow
pub record MayFollow (ls : List Line) (n : ℕ) : Type 0 where
  pub begun : eqb (order (reached ls)) 0 ≡ false
  pub timely : nat_lt n (order (reached ls)) ≡ false

-- a name of an instance
pub record IsThere (ls : List Line) (word : List ℕ) : Type 0 where
  pub name : is_name word ≡ true
  pub there : is_there (insts_of ls) word ≡ true

pub set_unbroken : (ls : List Line) (name symbol word : List ℕ) (value : Fixed) → MayFollow ls 4 → IsThere ls name → is_name symbol ≡ true → fixed_of word ≡ Ok value
    → broken_rule (draft_of ls) (set name symbol word) ≡ None
set_unbroken ls name symbol word value follows there symbol_is fixed =
    unbroken ls (set name symbol word) (rw (follows.begun, follows.timely, there.name, there.there, symbol_is, fixed) refl)

pub cable_unbroken : (ls : List Line) (source output target input : List ℕ) → MayFollow ls 5 → IsThere ls source → is_name output ≡ true → IsThere ls target → is_name input ≡ true
    → broken_rule (draft_of ls) (cable source output target input None) ≡ None
cable_unbroken ls source output target input follows from output_is to input_is =
    unbroken ls (cable source output target input None)
    (rw (follows.begun, follows.timely, from.name, output_is, to.name, input_is, from.there, to.there) refl)

pub out_unbroken : (ls : List Line) (name symbol : List ℕ) → MayFollow ls 6 → IsThere ls name → is_name symbol ≡ true → broken_rule (draft_of ls) (out name symbol) ≡ None
out_unbroken ls name symbol follows there symbol_is =
    unbroken ls (out name symbol) (rw (follows.begun, follows.timely, there.name, there.there, symbol_is) refl)

-- a block may follow the actions so far
pub record IsInTurn (ls : List Line) (block : List ℕ) : Type 0 where
  pub number : is_number block ≡ true
  pub after : nat_lt (value_of block) (block_reached (session_of ls).actions) ≡ false
  pub within : nat_lt (blocks_or_default (numbers_of ls)) (value_of block) ≡ false

pub set_at_unbroken : (ls : List Line) (block name symbol word : List ℕ) (value : Fixed) → MayFollow ls 7 → IsInTurn ls block → IsThere ls name → is_name symbol ≡ true → fixed_of word ≡ Ok value
    → broken_rule (draft_of ls) (at block name (set_value symbol word)) ≡ None
set_at_unbroken ls block name symbol word value follows turn there symbol_is fixed =
    unbroken ls (at block name (set_value symbol word))
    (rw (follows.begun, follows.timely, turn.number, fixed, there.name, symbol_is, there.there, turn.after, turn.within) refl)

pub patch_at_unbroken : (ls : List Line) (block name word : List ℕ) (value : Fixed) → MayFollow ls 7 → IsInTurn ls block → IsThere ls name → fixed_of word ≡ Ok value
    → broken_rule (draft_of ls) (at block name (patch_set (codes "urn:lv2fx:level") (codes "fixed") word)) ≡ None
unfolding is_excluded
patch_at_unbroken ls block name word value follows turn there fixed =
    unbroken ls (at block name (patch_set (codes "urn:lv2fx:level") (codes "fixed") word))
    (rw (follows.begun, follows.timely, turn.number, fixed, there.name, there.there, turn.after, turn.within) refl)

pub save_at_unbroken : (ls : List Line) (block name : List ℕ) → MayFollow ls 7 → IsInTurn ls block → IsThere ls name → broken_rule (draft_of ls) (at block name save) ≡ None
save_at_unbroken ls block name follows turn there =
    unbroken ls (at block name save) (rw (follows.begun, follows.timely, turn.number, there.name, there.there, turn.after, turn.within) refl)

pub get_at_unbroken : (ls : List Line) (block name : List ℕ) → MayFollow ls 7 → IsInTurn ls block → IsThere ls name → broken_rule (draft_of ls) (at block name (patch_get None)) ≡ None
get_at_unbroken ls block name follows turn there =
    unbroken ls (at block name (patch_get None)) (rw (follows.begun, follows.timely, turn.number, there.name, there.there, turn.after, turn.within) refl)
