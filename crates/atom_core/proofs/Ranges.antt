-- Bytes from one place up to another, put together.
use Rattle.std.proofs.Common.{◌≡◌, ℕ, ◌+◌, ◌-◌, ◌≤◌, List, [], ◌++◌, length, take, drop, slice_range, refl, ap, ◌∙◌, subst, arith, length-take, length-drop, take-add}
use Rattle.std.proofs.lemmas.List.{drop-drop, length-append}
use Rattle.std.proofs.lemmas.List.Edits.{between_none}
use Rattle.atom_core.specs.Place.{Stands}

pub range-length : (xs : List ℕ) (a b : ℕ) → a ≤ b → b ≤ length xs → a + length (slice_range xs a b) ≡ b
range-length xs a b le within = omega (arith, length-take (b - a) (drop a xs), length-drop a xs)

pub range_join : (xs : List ℕ) (a b c : ℕ) → a ≤ b → b ≤ c → slice_range xs a c ≡ slice_range xs a b ++ slice_range xs b c
range_join xs a b c h k =
    let whole : c - a ≡ (b - a) + (c - b) = omega arith in
    let place : a + (b - a) ≡ b = omega arith in
    ap (λ n. take n (drop a xs)) whole
    ∙ take-add (b - a) (c - b) (drop a xs)
    ∙ ap (λ l. slice_range xs a b ++ take (c - b) l) (drop-drop (b - a) a xs ∙ ap (λ n. drop n xs) place)

-- what there is stands there
pub itself : (xs : List ℕ) (a b : ℕ) → a ≤ b → b ≤ length xs → Stands xs a b (slice_range xs a b)
itself xs a b le within = record { ends = range-length xs a b le within; text_is = refl }

pub nothing : (xs : List ℕ) (a : ℕ) → Stands xs a a []
nothing xs a = record { ends = omega arith; text_is = between_none xs a }

-- one text after another
pub behind : (xs : List ℕ) (a b c : ℕ) (s t : List ℕ) → Stands xs a b s → Stands xs b c t → Stands xs a c (s ++ t)
behind xs a b c s t h k = record {
  ends = omega (arith, h.ends, k.ends, length-append s t);
  text_is =
      range_join xs a b c (omega (arith, h.ends)) (omega (arith, k.ends))
      ∙ ap (λ l. l ++ slice_range xs b c) h.text_is
      ∙ ap (λ l. s ++ l) k.text_is;
}

-- the same text by another name
pub renamed : (xs : List ℕ) (a b : ℕ) (s t : List ℕ) → s ≡ t → Stands xs a b s → Stands xs a b t
renamed xs a b s t e h = subst (λ (l : List ℕ). Stands xs a b l) e h
