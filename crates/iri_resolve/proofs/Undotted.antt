-- A path where no segment begins with a dot stays as it is without its dot segments.
use Rattle.std.proofs.Common.{◌≡◌, ◌≢◌, ℕ, zero, suc, ◌+◌, ◌-◌, ◌<◌, ◌≤◌, Bool, true, false, cond, List, [], ◌∷◌, ◌++◌, length, take, drop, get_or, codes, inl, inr, refl, sym, ◌∙◌, ap, arith}
use Rattle.std.specs.List.{position_or_len}
use Rattle.std.proofs.lemmas.Bool.{eqb-true, cases_lt}
use Rattle.std.proofs.lemmas.Bool.Decides.{nat_tests}
use Rattle.std.proofs.lemmas.List.{append-nil, append_assoc, take-append-drop, get_or-drop, get_or_past, length-drop}
use Rattle.std.proofs.lemmas.List.Sums.{passes_at_first}
use Rattle.memchr.specs.Find.{Nowhere, Passes, is_byte}
use Rattle.iri_resolve.specs.Dots.{is_slash, begins, is_whole, segment_len, turn, turns, without_dots}
use Rattle.iri_resolve.proofs.Utf8.{and_true}

-- a path begins with no dot, and none follows a `/`
pub record Undotted (path : List ℕ) : Type 0 where
  pub first : get_or path 0 0 ≢ 46
  pub after : (k : ℕ) → get_or path k 0 ≡ 47 → get_or path (suc k) 0 ≢ 46

-- what a path begins with, by its places
begins_reads : (front path : List ℕ) → begins path front ≡ true → (k : ℕ) → k < length front → get_or path k 0 ≡ get_or front k 0
begins_reads [] path h k low = absurd (omega arith)
begins_reads (f ∷ front) [] h k low = cc
begins_reads (f ∷ front) (c ∷ path) h zero low = sym (eqb-true f c (and_true _ _ h).0)
begins_reads (f ∷ front) (c ∷ path) h (suc k) low = begins_reads front path (and_true _ _ h).1 k (omega arith)

whole_reads : (whole path : List ℕ) → is_whole path whole ≡ true → (k : ℕ) → get_or path k 0 ≡ get_or whole k 0
whole_reads [] [] h k = refl
whole_reads [] (c ∷ path) h k = cc
whole_reads (w ∷ whole) [] h k = cc
whole_reads (w ∷ whole) (c ∷ path) h zero = eqb-true c w (and_true _ _ h).0
whole_reads (w ∷ whole) (c ∷ path) h (suc k) = whole_reads whole path (and_true _ _ h).1 k

otherwise : (test : Bool) (x y : List ℕ × List ℕ) → (test ≡ true → ⊥) → cond test x y ≡ y
otherwise true x y h = absurd (h refl)
otherwise false x y h = refl

-- each turn moves a segment to the output
turn_moves : (path output : List ℕ) → Undotted path → turn path output ≡ (drop (segment_len path) path, output ++ take (segment_len path) path)
turn_moves path output h =
    otherwise (begins path (codes "../")) _ _ (λ e. h.first (begins_reads (codes "../") path e 0 (omega arith)))
    ∙ otherwise (begins path (codes "./")) _ _ (λ e. h.first (begins_reads (codes "./") path e 0 (omega arith)))
    ∙ otherwise (begins path (codes "/./")) _ _ (λ e. h.after 0 (begins_reads (codes "/./") path e 0 (omega arith)) (begins_reads (codes "/./") path e 1 (omega arith)))
    ∙ otherwise (is_whole path (codes "/.")) _ _ (λ e. h.after 0 (whole_reads (codes "/.") path e 0) (whole_reads (codes "/.") path e 1))
    ∙ otherwise (begins path (codes "/../")) _ _ (λ e. h.after 0 (begins_reads (codes "/../") path e 0 (omega arith)) (begins_reads (codes "/../") path e 1 (omega arith)))
    ∙ otherwise (is_whole path (codes "/..")) _ _ (λ e. h.after 0 (whole_reads (codes "/..") path e 0) (whole_reads (codes "/..") path e 1))
    ∙ otherwise (is_whole path (codes ".")) _ _ (λ e. h.first (whole_reads (codes ".") path e 0))
    ∙ otherwise (is_whole path (codes "..")) _ _ (λ e. h.first (whole_reads (codes "..") path e 0))

-- what is left after a segment begins with a `/` or is empty
left_first : (c : ℕ) (rest : List ℕ) → get_or (c ∷ rest) (segment_len (c ∷ rest)) 0 ≢ 46
left_first c rest = elim (cases_lt (position_or_len is_slash rest) (length rest)) [
  | inl less ↦ λ dot. let slash = eqb-true _ 47 (passes_at_first is_slash rest 0 less) in omega (arith, slash, dot)
  | inr past ↦ λ dot. let none = get_or_past rest (position_or_len is_slash rest) 0 past in omega (arith, none, dot)
]

-- a part that begins with no dot
Undotted-drop : (path : List ℕ) (n : ℕ) → get_or path n 0 ≢ 46 → Undotted path → Undotted (drop n path)
Undotted-drop path n first h = record {
  first = λ dot. let same : n + 0 ≡ n = omega arith in first (ap (λ i. get_or path i 0) (sym same) ∙ sym (get_or-drop n path 0 0) ∙ dot);
  after = λ k slash dot.
      let same : suc (n + k) ≡ n + suc k = omega arith in
      h.after (n + k) (sym (get_or-drop n path k 0) ∙ slash) (ap (λ i. get_or path i 0) same ∙ sym (get_or-drop n path (suc k) 0) ∙ dot);
}

-- all turns move the whole input to the output
turns_move : (n : ℕ) (input output : List ℕ) → length input ≤ n → Undotted input → turns n input output ≡ output ++ input
turns_move zero [] output enough h = sym (append-nil output)
turns_move zero (c ∷ rest) output enough h = absurd (omega arith)
turns_move (suc n) [] output enough h = sym (append-nil output)
turns_move (suc n) (c ∷ rest) output enough h =
    let cut = segment_len (c ∷ rest) in
    let size = length-drop cut (c ∷ rest) in
    let shorter : length (drop cut (c ∷ rest)) ≤ n = omega (arith, size) in
    ap (λ (buffers : List ℕ × List ℕ). turns n buffers.0 buffers.1) (turn_moves (c ∷ rest) output h)
    ∙ turns_move n (drop cut (c ∷ rest)) (output ++ take cut (c ∷ rest)) shorter (Undotted-drop (c ∷ rest) cut (left_first c rest) h)
    ∙ append_assoc output (take cut (c ∷ rest)) (drop cut (c ∷ rest))
    ∙ ap (λ back. output ++ back) (take-append-drop cut (c ∷ rest))

pub without_dots-Undotted : (path : List ℕ) → Undotted path → without_dots path ≡ path
without_dots-Undotted path h = turns_move (length path) path [] (omega arith) h

-- below a place, each dot follows another character than a `/`
abbrev pub UndottedTo : List ℕ → ℕ → Type 0
UndottedTo path n = (k : ℕ) → k < n → get_or path k 0 ≡ 46 → (0 < k) × (get_or path (k - 1) 0 ≢ 47)

no_dot : (path : List ℕ) (from n : ℕ) → Nowhere (Passes (is_byte 46) (drop from path)) 0 n → (k : ℕ) → from ≤ k → k < from + n → get_or path k 0 ≢ 46
no_dot path from n none k low high dot =
    let same : from + (k - from) ≡ k = omega arith in
    let there : get_or (drop from path) (k - from) 0 ≡ 46 = get_or-drop from path (k - from) 0 ∙ ap (λ i. get_or path i 0) same ∙ dot in
    none (k - from) (omega arith) (omega arith) (grind (arith, nat_tests))

-- up to the first dot from a place on, and past it
pub UndottedTo-more : (path : List ℕ) (from found : ℕ) → UndottedTo path from → Nowhere (Passes (is_byte 46) (drop from path)) 0 found
    → 0 < from + found → get_or path (from + found - 1) 0 ≢ 47 → UndottedTo path (from + found + 1)
UndottedTo-more path from found before none some apart k high dot = elim (cases_lt k from) [
  | inl less ↦ before k less dot
  | inr low ↦ elim (cases_lt k (from + found)) [
    | inl less ↦ absurd (no_dot path from found none k low less dot)
    | inr last ↦ let same : k ≡ from + found = omega arith in (omega arith, λ slash. apart (ap (λ i. get_or path (i - 1) 0) (sym same) ∙ slash))
  ]
]

-- no more dots
pub Undotted-all : (path : List ℕ) (from : ℕ) → UndottedTo path from → Nowhere (Passes (is_byte 46) (drop from path)) 0 (length (drop from path)) → Undotted path
Undotted-all path from before none =
    let size = length-drop from path in
    let all : UndottedTo path (length path) = λ k high dot. elim (cases_lt k from) [
      | inl less ↦ before k less dot
      | inr low ↦ absurd (no_dot path from (length (drop from path)) none k low (omega (arith, size)) dot)
    ] in
    let within : (k : ℕ) → get_or path k 0 ≡ 46 → k < length path = λ k dot. elim (cases_lt k (length path)) [
      | inl less ↦ less
      | inr past ↦ absurd (let zero_there = get_or_past path k 0 past in omega (arith, zero_there, dot))
    ] in
    record {
      first = λ dot. let none_before : 0 < 0 = (all 0 (within 0 dot) dot).0 in omega arith;
      after = λ k slash dot.
          let same : suc k - 1 ≡ k = omega arith in
          (all (suc k) (within (suc k) dot) dot).1 (ap (λ i. get_or path i 0) same ∙ slash);
    }
