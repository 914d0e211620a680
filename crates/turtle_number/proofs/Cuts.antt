-- A text cut at the first character that passes, by recursion.
use Rattle.std.proofs.Common.{◌≡◌, ℕ, suc, ◌+◌, Bool, true, false, not, ◌&&◌, cond, List, [], ◌∷◌, ◌++◌, length, take, drop, Option, Some, None, nat_lt, refl, sym, ap, ◌∙◌, arith, lt-ltb, ltb-true}
use Rattle.std.specs.List.{list_all}
use Rattle.std.proofs.lemmas.List.Recursion.{is_position_or_len}
use Rattle.lv_base.specs.Decimal.{cut, cut_at}

pub same_bool : (a b : Bool) → (a ≡ true → b ≡ true) → (b ≡ true → a ≡ true) → a ≡ b
same_bool true b there back = sym (there refl)
same_bool false true there back = back refl
same_bool false false there back = refl

less_more : (a b : ℕ) → nat_lt (suc a) (suc b) ≡ nat_lt a b
less_more a b =
    same_bool (nat_lt (suc a) (suc b)) (nat_lt a b)
    (λ h. let less = ltb-true (suc a) (suc b) h in lt-ltb a b (omega (arith, less)))
    (λ h. let less = ltb-true a b h in lt-ltb (suc a) (suc b) (omega (arith, less)))

module _ (p : ℕ → Bool) where
  abbrev first : List ℕ → ℕ
  first [] = 0
  first (c ∷ text) = cond (p c) 0 (suc (first text))

  abbrev pub Pair : Type 0
  Pair = List ℕ × Option (List ℕ)

  abbrev pub pair : List ℕ → Option (List ℕ) → Pair
  pair front later = (front, later)

  abbrev pub parts : List ℕ → List ℕ × Option (List ℕ)
  parts [] = ([], None)
  parts (c ∷ text) = cond (p c) ([], Some text) (c ∷ (parts text).0, (parts text).1)

  abbrev cut_first : List ℕ → List ℕ × Option (List ℕ)
  cut_first text = cut_at text (cond (nat_lt (first text) (length text)) (Some (first text)) None)

  one_more : (c : ℕ) (text : List ℕ) (b : Bool) → cut_at (c ∷ text) (cond b (Some (suc (first text))) None)
      ≡ (c ∷ (cut_at text (cond b (Some (first text)) None)).0, (cut_at text (cond b (Some (first text)) None)).1)
  one_more c text true =
      ap (λ (n : ℕ). (c ∷ take (first text) text, Some (drop n (c ∷ text)))) (let e : suc (first text) + 1 ≡ suc (first text + 1) = omega arith in e)
  one_more c text false = refl

  by_parts : (text : List ℕ) → cut_first text ≡ parts text
  by_parts [] = refl
  by_parts (c ∷ text) = by (p c) (by_parts text)
    where
      by : (b : Bool) → cut_first text ≡ parts text
          → cut_at (c ∷ text) (cond (nat_lt (cond b 0 (suc (first text))) (suc (length text))) (Some (cond b 0 (suc (first text)))) None)
          ≡ cond b (pair [] (Some text)) (pair (c ∷ (parts text).0) (parts text).1)
      by true rest = ap (λ b. cut_at (c ∷ text) (cond b (Some 0) None)) (lt-ltb 0 (suc (length text)) (omega arith))
      by false rest = ap (λ b. cut_at (c ∷ text) (cond b (Some (suc (first text))) None)) (less_more (first text) (length text)) ∙ one_more c text (nat_lt (first text) (length text)) ∙ ap (λ (it : List ℕ × Option (List ℕ)). (c ∷ it.0, it.1)) rest

  pub cut_parts : (text : List ℕ) → cut p text ≡ parts text
  cut_parts text =
      ap (λ n. cut_at text (cond (nat_lt n (length text)) (Some n) None)) (sym (is_position_or_len first p refl (λ c rest. ap (cond (p c) 0) (let e : suc (first rest) ≡ 1 + first rest = omega arith in e)) text)) ∙ by_parts text

  -- what is before the cut, and after it
  pub without : (text : List ℕ) → list_all (λ c. not (p c)) text ≡ true → parts text ≡ pair text None
  without [] none = refl
  without (c ∷ text) none = by (p c) none (without text)
    where
      by : (b : Bool) → not b && list_all (λ c. not (p c)) text ≡ true → (list_all (λ c. not (p c)) text ≡ true → parts text ≡ pair text None)
          → cond b (pair [] (Some text)) (pair (c ∷ (parts text).0) (parts text).1) ≡ pair (c ∷ text) None
      by true none rest = cc
      by false none rest = ap (λ (it : List ℕ × Option (List ℕ)). (c ∷ it.0, it.1)) (rest none)

  pub at_first : (text : List ℕ) (d : ℕ) (later : List ℕ) → list_all (λ c. not (p c)) text ≡ true → p d ≡ true → parts (text ++ d ∷ later) ≡ pair text (Some later)
  at_first [] d later none is = ap (λ b. cond b (pair [] (Some later)) (pair (d ∷ (parts later).0) (parts later).1)) is
  at_first (c ∷ text) d later none is = by (p c) none (λ none. at_first text d later none is)
    where
      by : (b : Bool) → not b && list_all (λ c. not (p c)) text ≡ true → (list_all (λ c. not (p c)) text ≡ true → parts (text ++ d ∷ later) ≡ pair text (Some later))
          → cond b (pair [] (Some (text ++ d ∷ later))) (pair (c ∷ (parts (text ++ d ∷ later)).0) (parts (text ++ d ∷ later)).1) ≡ pair (c ∷ text) (Some later)
      by true none rest = cc
      by false none rest = ap (λ (it : List ℕ × Option (List ℕ)). (c ∷ it.0, it.1)) (rest none)

  -- a cut text is what it was
  abbrev pub Joins : List ℕ → List ℕ → Option (List ℕ) → Type 0
  Joins text front None = text ≡ front
  Joins text front (Some later) = (d : ℕ) × (p d ≡ true) × (text ≡ front ++ d ∷ later)

  joins_more : (c : ℕ) (text front : List ℕ) (o : Option (List ℕ)) → Joins text front o → Joins (c ∷ text) (c ∷ front) o
  joins_more c text front None h = ap (λ it. c ∷ it) h
  joins_more c text front (Some later) h = (h.0, h.1, ap (λ it. c ∷ it) h.2)

  pub parts_join : (text : List ℕ) → Joins text (parts text).0 (parts text).1
  parts_join [] = refl
  parts_join (c ∷ text) = by (p c) refl (parts_join text)
    where
      by : (b : Bool) → p c ≡ b → Joins text (parts text).0 (parts text).1 → Joins (c ∷ text) (cond b (pair [] (Some text)) (pair (c ∷ (parts text).0) (parts text).1)).0 (cond b (pair [] (Some text)) (pair (c ∷ (parts text).0) (parts text).1)).1
      by true is rest = (c, is, refl)
      by false other rest = joins_more c text (parts text).0 (parts text).1 rest
