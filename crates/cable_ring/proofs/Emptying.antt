-- The cells of a ring, one after the other from its head on.
use Rattle.std.proofs.Common.{◌≡◌, ◌≢◌, ℕ, zero, suc, ◌+◌, ◌-◌, ◌*◌, ◌%◌, ◌<◌, ◌≤◌, Bool, true, false, List, [], ◌∷◌, ◌++◌, map, take, drop, length, get_or, set, mul-le-mul_right, suc-mul, length-set, Option, Some, None, refl, sym, ap, subst, ◌∙◌, ⊎_elim, ◌⊎◌, inl, inr, arith, mod-eq_of_lt, get_or-set_same, get_or-set_other}
use Rattle.std.proofs.Math.Nat.{add-mod_right, mod-add-mod}
use Rattle.std.proofs.Math.ListN.{drop_of_length-le}
use Rattle.std.proofs.lemmas.List.{append-nil, take_more, length-drop, get_or-drop}
use mathlib.Core.Option as maybe
use mathlib.Core.Option.{some, some-injective, some-ne-none}
use native.Mathlib.Decide.{ℕ_discrete, dec_le}
use lib.ListN.{get_elem?}
use Rattle.std.specs.Mem.Slots.Ownership.{Filled, SameOutside}
use Rattle.std.specs.Option.{option_to_list}
use Rattle.std.specs.List.{All}
use Rattle.atomic_table.proofs.Lists.{at_set, one_turn}
use Rattle.cable_ring.specs.Cells.{slot}
use Rattle.cable_ring.specs.Emptied.{found_in, IsEmptied, IsFoundAt}
use Rattle.cable_ring.specs.Rule.{head_word}

-- what is there is what is read there
pub read_at : {A : Type 0} (xs : List A) (i : ℕ) (d a : A) → get_elem? xs i ≡ some a → get_or xs i d ≡ a
read_at [] i d a e = absurd (some-ne-none a (sym e))
read_at (x ∷ xs) zero d a e = some-injective x a e
read_at (x ∷ xs) (suc i) d a e = read_at xs i d a e

module _ (cells ring first : ℕ) where
  -- the cell of the message with this number after the first
  abbrev pub place_of : ℕ → ℕ
  place_of number = slot cells ring (first + number)

  -- So many of the cells have been emptied, from the first on, and nothing besides.
  pub record IsEmptying (count : ℕ) (old new : List Bool) : Type 0 where
    pub gone : (number : ℕ) → number < count → get_or new (place_of number) false ≡ false
    pub left : (number : ℕ) → count ≤ number → number < cells → get_or new (place_of number) false ≡ true
    pub others : SameOutside false old new (ring * cells) (ring * cells + cells)

module _ (cells ring first : ℕ) (some_cell : 0 < cells) (below : first < cells) where
  abbrev here : ℕ → ℕ
  here number = place_of cells ring first number

  pub place_low : (number : ℕ) → ring * cells ≤ here number
  place_low number = let start : ℕ = ring * cells in let turn : ℕ = (first + number) % cells in omega arith

  pub place_high : (number : ℕ) → here number < ring * cells + cells
  place_high number = let start : ℕ = ring * cells in let lt : (first + number) % cells < cells = omega arith in let turn : ℕ = (first + number) % cells in let lt' : turn < cells = lt in omega arith

  -- two of them are different
  pub places_apart : (one two : ℕ) → one < two → two < cells → here one ≢ here two
  places_apart one two lt within e = let start : ℕ = ring * cells in let a : ℕ = (first + one) % cells in let b : ℕ = (first + two) % cells in let e' : start + a ≡ start + b = e in
      let same : a ≡ b = omega arith in let is = one_turn (first + one) (first + two) cells (omega arith) (omega arith) same in omega arith

  -- each cell of the ring is one of them
  pub place_there : (place : ℕ) → ring * cells ≤ place → place < ring * cells + cells → (number : ℕ) × (number < cells) × (here number ≡ place)
  place_there place low high = go (dec_le first (place - ring * cells))
    where
      at : ℕ
      at = place - ring * cells

      at-lt : at < cells
      at-lt = let start : ℕ = ring * cells in omega arith

      whole : (turn : ℕ) → turn ≡ place - ring * cells → ring * cells + turn ≡ place
      whole turn e = let start : ℕ = ring * cells in let low' : start ≤ place = low in omega arith

      go : Dec (first ≤ place - ring * cells) → (number : ℕ) × (number < cells) × (here number ≡ place)
      go (yes le) = let start : ℕ = ring * cells in let lt : place - start < cells = omega arith in let number : ℕ = (place - start) - first in let sum : first + number ≡ place - start = omega arith in
          (number, omega arith, whole ((first + number) % cells) (ap (λ (k : ℕ). k % cells) sum ∙ mod-eq_of_lt lt))
      go (no gt) = let start : ℕ = ring * cells in let lt : place - start < cells = omega arith in let number : ℕ = (place - start) + cells - first in
          let sum : first + number ≡ (place - start) + cells = omega arith in
          (number, omega arith, whole ((first + number) % cells) (ap (λ (k : ℕ). k % cells) sum ∙ add-mod_right (place - start) cells ∙ mod-eq_of_lt lt))

  pub emptying_none : (old : List Bool) → Filled old (ring * cells) (ring * cells + cells) → IsEmptying cells ring first 0 old old
  emptying_none old filled = record {
    gone = λ number lt. absurd (omega arith);
    left = λ number le lt. filled (here number) (place_low number) (place_high number);
    others = λ place out. refl;
  }

  pub emptying_more : (count : ℕ) (old new : List Bool) → count < cells → IsEmptying cells ring first count old new → IsEmptying cells ring first (count + 1) old (set new (here count) false)
  emptying_more count old new within was = record {
    gone = λ number lt. goes number lt (ℕ_discrete (here number) (here count));
    left = λ number le lt. get_or-set_other new (here count) (here number) false false (λ e. places_apart count number (omega arith) lt (sym e)) ∙ was.left number (omega arith) lt;
    others = λ place out. get_or-set_other new (here count) place false false (λ e. outside place out e) ∙ was.others place out;
  }
    where
      emptied : get_or (set new (here count) false) (here count) false ≡ false
      emptied = go (dec_le (length new) (here count))
        where
          go : Dec (length new ≤ here count) → get_or (set new (here count) false) (here count) false ≡ false
          go (yes le) = past new (here count)
            where
              past : (bits : List Bool) (i : ℕ) → get_or (set bits i false) i false ≡ false
              past [] i = refl
              past (bit ∷ bits) zero = refl
              past (bit ∷ bits) (suc i) = past bits i
          go (no gt) = get_or-set_same new (here count) false false (omega arith)

      goes : (number : ℕ) → number < count + 1 → Dec (here number ≡ here count) → get_or (set new (here count) false) (here number) false ≡ false
      goes number lt (yes e) = ap (λ (k : ℕ). get_or (set new (here count) false) k false) e ∙ emptied
      goes number lt (no ne) = get_or-set_other new (here count) (here number) false false ne ∙ was.gone number (before number lt ne)
        where
          before : (number : ℕ) → number < count + 1 → here number ≢ here count → number < count
          before number lt ne = go (ℕ_discrete number count)
            where
              go : Dec (number ≡ count) → number < count
              go (yes e) = absurd (ne (ap here e))
              go (no other) = omega arith

      outside : (place : ℕ) → (place < ring * cells) ⊎ (ring * cells + cells ≤ place) → place ≡ here count → ⊥
      outside place out e = let low = place_low count in let high = place_high count in let start : ℕ = ring * cells in let at : ℕ = here count in let low' : start ≤ at = low in
          let high' : at < start + cells = high in let e' : place ≡ at = e in ⊎_elim (λ lt. let lt' : place < start = lt in omega arith) (λ le. let le' : start + cells ≤ place = le in omega arith) out

  pub emptying_all : (old new : List Bool) → IsEmptying cells ring first cells old new → IsEmptied cells ring old new
  emptying_all old new was = record {
    here = λ place low high. let found = place_there place low high in ap (λ (k : ℕ). get_or new k false) (sym found.2) ∙ was.gone found.0 found.1;
    others = was.others;
  }

-- one more cell is found
pub found_more : {M : Type 0} (slots : List (Option M)) (cells ring first count : ℕ) (x : Option M) → get_elem? slots (slot cells ring (first + count)) ≡ some x
    → found_in slots cells ring first (count + 1) ≡ found_in slots cells ring first count ++ option_to_list x
found_more {M} slots cells ring first count x at = ap (λ (k : ℕ). found_in slots cells ring first k) plus_one ∙ ap (λ (y : Option M). found_in slots cells ring first count ++ option_to_list y) (read_at slots (slot cells ring (first + count)) None x at)
  where
    plus_one : count + 1 ≡ suc count
    plus_one = omega arith

-- What was sent and not moved out lies in the cells from the head on, and the others are empty.
module _ {M : Type 0} (cells ring head : ℕ) (slots : List (Option M)) (sent : List M)
    (full : (number : ℕ) (message : M) → head ≤ number → get_elem? sent number ≡ some message → get_or slots (slot cells ring number) None ≡ Some message)
    (empty : (number : ℕ) → length sent ≤ number → number < head + cells → get_or slots (slot cells ring number) None ≡ None) where
  same_place : (number : ℕ) → slot cells ring (head % cells + number) ≡ slot cells ring (head + number)
  same_place number = ap (λ (k : ℕ). ring * cells + k) (mod-add-mod head cells number)

  at_below : (xs : List M) (i : ℕ) → i < length xs → (x : M) × (get_elem? xs i ≡ some x) × (get_or xs i x ≡ x)
  at_below [] i lt = absurd (omega arith)
  at_below (x ∷ xs) zero lt = (x, refl, refl)
  at_below (x ∷ xs) (suc i) lt = at_below xs i (omega arith)

  past_end : (xs : List M) (number : ℕ) → length xs ≤ number → take number xs ≡ xs
  past_end [] zero le = refl
  past_end [] (suc number) le = refl
  past_end (x ∷ xs) zero le = absurd (omega arith)
  past_end (x ∷ xs) (suc number) le = ap (λ (l : List M). x ∷ l) (past_end xs number (omega arith))

  one_more : (count : ℕ) → count < cells → found_in slots cells ring (head % cells) count ≡ take count (drop head sent) → Dec (length sent ≤ head + count)
      → found_in slots cells ring (head % cells) (suc count) ≡ take (suc count) (drop head sent)
  one_more count lt before (yes past) =
      let none : get_or slots (slot cells ring (head % cells + count)) None ≡ None = ap (λ (k : ℕ). get_or slots k None) (same_place count) ∙ empty (head + count) past (omega arith) in
      let few : length (drop head sent) ≤ count = omega (arith, length-drop head sent) in
      (λ i. before i ++ option_to_list (none i)) ∙ append-nil (take count (drop head sent)) ∙ past_end (drop head sent) count few ∙ sym (past_end (drop head sent) (suc count) (omega arith))
  one_more count lt before (no within) =
      let next = at_below sent (head + count) (omega arith) in
      let here : get_or slots (slot cells ring (head % cells + count)) None ≡ Some next.0 = ap (λ (k : ℕ). get_or slots k None) (same_place count) ∙ full (head + count) next.0 (omega arith) next.1 in
      let inside : count < length (drop head sent) = omega (arith, length-drop head sent) in
      let last : get_or (drop head sent) count next.0 ≡ next.0 = get_or-drop head sent count next.0 ∙ next.2 in
      (λ i. before i ++ option_to_list (here i)) ∙ (λ i. take count (drop head sent) ++ sym last i ∷ []) ∙ sym (take_more (drop head sent) count next.0 inside) ∙ ap (λ (k : ℕ). take k (drop head sent)) (plus_one count)
    where
      plus_one : (n : ℕ) → n + 1 ≡ suc n
      plus_one n = omega arith

  so_far : (count : ℕ) → count ≤ cells → found_in slots cells ring (head % cells) count ≡ take count (drop head sent)
  so_far zero le = refl
  so_far (suc count) le = one_more count (omega arith) (so_far count (omega arith)) (dec_le (length sent) (head + count))

  pub found_all : length sent ≤ head + cells → found_in slots cells ring (head % cells) cells ≡ drop head sent
  found_all most = so_far cells (omega arith) ∙ past_end (drop head sent) cells (omega (arith, length-drop head sent))

-- the rings one after the other
next_ring : (cells ring : ℕ) → (ring + 1) * cells ≡ ring * cells + cells
next_ring cells ring = ap (λ (k : ℕ). k * cells) plus_one ∙ suc-mul ring cells
  where
    plus_one : ring + 1 ≡ suc ring
    plus_one = omega arith

pub ring_within : (cells ring rings : ℕ) → ring < rings → ring * cells + cells ≤ rings * cells
ring_within cells ring rings lt = let a : suc ring * cells ≤ rings * cells = mul-le-mul_right cells lt in let x : ℕ = ring * cells in let next : suc ring * cells ≡ x + cells = suc-mul ring cells in
    let y : ℕ = rings * cells in let a' : x + cells ≤ y = omega arith in a'

module _ (cells ring : ℕ) (old new : List Bool) (emptied : IsEmptied cells ring old new) where
  pub gone_more : ((place : ℕ) → place < ring * cells → get_or old place false ≡ false) → (place : ℕ) → place < (ring + 1) * cells → get_or new place false ≡ false
  gone_more before place lt = go (dec_le (ring * cells) place)
    where
      high : place < ring * cells + cells
      high = subst (λ (k : ℕ). place < k) (next_ring cells ring) lt

      go : Dec (ring * cells ≤ place) → get_or new place false ≡ false
      go (yes low) = emptied.here place low high
      go (no gt) = let start : ℕ = ring * cells in let lt' : place < start = omega arith in emptied.others place (inl lt') ∙ before place lt'

  pub filled_more : (len : ℕ) → Filled old (ring * cells) len → Filled new ((ring + 1) * cells) len
  filled_more len before place low high = let start : ℕ = ring * cells in let low' : start + cells ≤ place = subst (λ (k : ℕ). k ≤ place) (next_ring cells ring) low in
      emptied.others place (inr low') ∙ before place (omega arith) high

-- one more row is filled
module _ {V M : Type 0} (f : V → List M) where
  map_set : (rows : List V) (i : ℕ) (y : V) → map f (set rows i y) ≡ set (map f rows) i (f y)
  map_set [] i y = refl
  map_set (x ∷ rows) zero y = refl
  map_set (x ∷ rows) (suc i) y = ap (λ (l : List (List M)). f x ∷ l) (map_set rows i y)

  pub rows_more : (P : ℕ → List M → Type 0) (rows : List V) (i : ℕ) (y : V) → ((j : ℕ) (row : List M) → j < i → get_elem? (map f rows) j ≡ some row → P j row) → P i (f y)
      → (j : ℕ) (row : List M) → j < i + 1 → get_elem? (map f (set rows i y)) j ≡ some row → P j row
  rows_more P rows i y before its j row lt e = ⊎_elim (λ here. subst (λ (x : ℕ × List M). P x.0 x.1) (λ k. (sym here.0 k, here.1 k)) its)
      (λ there. let ne = there.0 in before j row (below j lt ne) there.1) (at_set (map f rows) i j (f y) row (sym (ap (λ (l : List (List M)). get_elem? l j) (map_set rows i y)) ∙ e))
    where
      below : (j : ℕ) → j < i + 1 → j ≢ i → j < i
      below j lt ne = go (ℕ_discrete j i)
        where
          go : Dec (j ≡ i) → j < i
          go (yes e) = absurd (ne e)
          go (no other) = omega arith

-- the rows that aren't filled yet
pub rest_kept : {V : Type 0} (P : V → Type 0) (rows : List V) (i : ℕ) (y : V) → All P (drop i rows) → All P (drop (i + 1) (set rows i y))
rest_kept {V} P rows i y all k d lt = subst P (sym step) (all (k + 1) d (omega (arith, length-drop i rows, length-drop (i + 1) (set rows i y), length-set rows i y)))
  where
    step : get_or (drop (i + 1) (set rows i y)) k d ≡ get_or (drop i rows) (k + 1) d
    step = get_or-drop (i + 1) (set rows i y) k d ∙ get_or-set_other rows i (i + 1 + k) y d (λ e. omega arith) ∙ ap (λ (n : ℕ). get_or rows n d) same ∙ sym (get_or-drop i rows (k + 1) d)
      where
        same : i + 1 + k ≡ i + (k + 1)
        same = omega arith

pub rest_first : {V : Type 0} (P : V → Type 0) (rows : List V) (i : ℕ) (d : V) → i < length rows → All P (drop i rows) → P (get_or rows i d)
rest_first {V} P rows i d lt all = subst P (get_or-drop i rows 0 d ∙ ap (λ (n : ℕ). get_or rows n d) same) (all 0 d (omega (arith, length-drop i rows)))
  where
    same : i + 0 ≡ i
    same = omega arith

pub map_length : {V M : Type 0} (f : V → List M) (rows : List V) → length (map f rows) ≡ length rows
map_length f [] = refl
map_length f (x ∷ rows) = ap suc (map_length f rows)

-- a ring's head is in its word
pub found_at_head : {M : Type 0} (words : List ℕ) (slots : List (Option M)) (cells ring head : ℕ) (row : List M) → get_elem? words (head_word ring) ≡ some head
    → row ≡ found_in slots cells ring (head % cells) cells → IsFoundAt words slots cells ring row
found_at_head words slots cells ring head row at is = is ∙ ap (λ (n : ℕ). found_in slots cells ring (n % cells) cells) (sym (read_at words (head_word ring) 0 head at))
