-- What a step does to the cells of a ring.
use Rattle.std.proofs.Common.{◌≡◌, ◌≢◌, ℕ, zero, suc, ◌+◌, ◌*◌, ◌/◌, ◌%◌, ◌<◌, ◌≤◌, List, [], ◌∷◌, ◌++◌, length, set, Option, Some, None, refl, sym, ap, subst, ◌∙◌, arith}
use mathlib.Core.Option as maybe
use mathlib.Core.Option.{some, none, some-injective, some-ne-none}
use mathlib.Core.Logic.{dite}
use native.Mathlib.Decide.{ℕ_discrete}
use lib.ListN.{get_elem?}
use Rattle.atomic_table.proofs.Lists.{set_here, set_else, at_last, at_longer, at_snoc, one_turn}
use native.Mathlib.Nat.{add-mod_right}
use Rattle.std.proofs.lemmas.List.{length-append}
use Rattle.cable_ring.specs.Cells.{slot, AreCells}

-- a place in a list has something only below its length
pub at-lt : {A : Type 0} (l : List A) (i : ℕ) (a : A) → get_elem? l i ≡ some a → i < length l
at-lt [] i a e = absurd (some-ne-none a (sym e))
at-lt (x ∷ xs) zero a e = omega arith
at-lt (x ∷ xs) (suc i) a e = let below = at-lt xs i a e in omega arith

-- and something at each place below it
pub at_short : {A : Type 0} (l : List A) (a b : A) (i : ℕ) → i < length l → get_elem? (l ++ a ∷ []) i ≡ some b → get_elem? l i ≡ some b
at_short [] a b i below e = absurd (omega arith)
at_short (x ∷ xs) a b zero below e = e
at_short (x ∷ xs) a b (suc i) below e = at_short xs a b i (omega arith) e

cons-not-nil : {A : Type 0} (x : A) (xs : List A) → x ∷ xs ≡ [] → ⊥
cons-not-nil x xs e = cc

first-of : {A : Type 0} (x y : A) (xs ys : List A) → x ∷ xs ≡ y ∷ ys → x ≡ y
first-of x y xs ys e = cc

-- cells of one ring with numbers in one turn are one cell only where the numbers are equal
pub same_cell : (cells ring i j : ℕ) → i ≤ j → j < i + cells → slot cells ring i ≡ slot cells ring j → i ≡ j
same_cell cells ring i j le lt e = let base : ℕ = ring * cells in let x : ℕ = i % cells in let y : ℕ = j % cells in let e' : base + x ≡ base + y = e in
    let same : x ≡ y = omega arith in one_turn i j cells le lt same

pub next_turn : (cells ring i : ℕ) → slot cells ring (i + cells) ≡ slot cells ring i
next_turn cells ring i = ap (λ (k : ℕ). ring * cells + k) (add-mod_right i cells)

module _ {M : Type 0} (cells ring head tail : ℕ) (homes : List (maybe.Option (Option M))) (sent shown : List M) (long : length sent ≡ tail) (behind : head ≤ tail)
    (room : tail ≤ head + cells) where
  -- the sender saw room and has the cell at the tail from then on
  pub cells_claimed : (fetches : List M) → tail < head + cells → AreCells cells ring head tail homes sent [] shown fetches
      → AreCells cells ring head tail (set homes (slot cells ring tail) none) sent (head ∷ []) shown fetches
  cells_claimed fetches free old = record {
    full = λ k m le out e. let below : k < tail = subst (λ (n : ℕ). k < n) long (at-lt sent k m e) in
        set_else homes (slot cells ring tail) (slot cells ring k) none (λ same. let same' : k ≡ tail = same_cell cells ring k tail (omega arith) (omega arith) same in omega arith)
        ∙ old.full k m le out e;
    empty = λ k le lt out. set_else homes (slot cells ring tail) (slot cells ring k) none
        (λ same. let same' : tail ≡ k = same_cell cells ring tail k le (omega arith) (sym same) in cons-not-nil head [] (out (sym same')))
        ∙ old.empty k le lt (λ e. refl);
    sees = λ seen e. let same : head ≡ seen = first-of head seen [] [] e in (omega arith, omega arith);
    moves = old.moves;
  }

  -- the sender gives that cell back with the message, and stores the tail
  pub cells_sent : (fetches : List M) (seen : ℕ) (message : M) → slot cells ring tail < length homes → AreCells cells ring head tail homes sent (seen ∷ []) shown fetches
      → AreCells cells ring head (tail + 1) (set homes (slot cells ring tail) (some (Some message))) (sent ++ message ∷ []) [] shown fetches
  cells_sent fetches seen message inside old = record {
    full = λ k m le out e. at k m le out e (ℕ_discrete k tail);
    empty = λ k le lt out. set_else homes (slot cells ring tail) (slot cells ring k) (some (Some message))
        (λ same. let same' : tail ≡ k = same_cell cells ring tail k (omega arith) (omega arith) (sym same) in omega arith)
        ∙ old.empty k (omega arith) lt (λ e. absurd (omega arith));
    sees = λ s e. absurd (cons-not-nil s [] (sym e));
    moves = old.moves;
  }
    where
      at : (k : ℕ) (m : M) → head ≤ k → (k ≡ head → fetches ≡ []) → get_elem? (sent ++ message ∷ []) k ≡ some m → Dec (k ≡ tail)
          → get_elem? (set homes (slot cells ring tail) (some (Some message))) (slot cells ring k) ≡ some (some (Some m))
      at k m le out e (yes here) =
          let is : some message ≡ some m = sym (at_last sent message tail long) ∙ ap (get_elem? (sent ++ message ∷ [])) (sym here) ∙ e in
          ap (λ (i : ℕ). get_elem? (set homes (slot cells ring tail) (some (Some message))) (slot cells ring i)) here
          ∙ set_here homes (slot cells ring tail) (some (Some message)) inside ∙ ap (λ (x : M). some (some (Some x))) (some-injective message m is)
      at k m le out e (no other) =
          let longer : k < length (sent ++ message ∷ []) = at-lt (sent ++ message ∷ []) k m e in
          let total : length (sent ++ message ∷ []) ≡ length sent + 1 = length-append sent (message ∷ []) in let below : k < tail = omega (arith, total, long) in
          let saw = old.sees seen refl in
          let free : tail < head + cells = omega (arith, saw.0, saw.1) in
          let before : get_elem? sent k ≡ some m = at_short sent message m k (omega (arith, long)) e in
          set_else homes (slot cells ring tail) (slot cells ring k) (some (Some message))
          (λ same. other (same_cell cells ring k tail (omega arith) (omega arith) same))
          ∙ old.full k m le out before

  -- the taker has the cell at the head from then on
  pub cells_fetched : (puts : List ℕ) (message : M) → head < tail → get_elem? shown head ≡ some message → AreCells cells ring head tail homes sent puts shown []
      → AreCells cells ring head tail (set homes (slot cells ring head) none) sent puts shown (message ∷ [])
  cells_fetched puts message some_sent is old = record {
    full = λ k m le out e. let below : k < tail = subst (λ (n : ℕ). k < n) long (at-lt sent k m e) in
        set_else homes (slot cells ring head) (slot cells ring k) none
        (λ same. let same' : head ≡ k = same_cell cells ring head k le (omega arith) (sym same) in cons-not-nil message [] (out (sym same')))
        ∙ old.full k m le (λ e'. refl) e;
    empty = λ k le lt out. set_else homes (slot cells ring head) (slot cells ring k) none
        (λ same. let same' : head ≡ k = same_cell cells ring head k (omega arith) lt (sym same) in omega arith)
        ∙ old.empty k le lt out;
    sees = old.sees;
    moves = λ m e. is ∙ ap some (first-of message m [] [] e);
  }

  -- the taker gives that cell back empty, and stores the head
  pub cells_moved : (puts : List ℕ) (message : M) → head < tail → slot cells ring head < length homes → AreCells cells ring head tail homes sent puts shown (message ∷ [])
      → AreCells cells ring (head + 1) tail (set homes (slot cells ring head) (some None)) sent puts shown []
  cells_moved puts message some_sent inside old = record {
    full = λ k m le out e. let below : k < tail = subst (λ (n : ℕ). k < n) long (at-lt sent k m e) in
        set_else homes (slot cells ring head) (slot cells ring k) (some None)
        (λ same. let same' : head ≡ k = same_cell cells ring head k (omega arith) (omega arith) (sym same) in omega arith)
        ∙ old.full k m (omega arith) (λ e'. absurd (omega arith)) e;
    empty = λ k le lt out. at k le lt out (ℕ_discrete k (head + cells));
    sees = λ seen e. let s = old.sees seen e in (omega arith, s.1);
    moves = λ m e. absurd (cons-not-nil m [] (sym e));
  }
    where
      at : (k : ℕ) → tail ≤ k → k < head + 1 + cells → (k ≡ tail → puts ≡ []) → Dec (k ≡ head + cells)
          → get_elem? (set homes (slot cells ring head) (some None)) (slot cells ring k) ≡ some (some None)
      at k le lt out (yes round) = ap (get_elem? (set homes (slot cells ring head) (some None))) (ap (slot cells ring) round ∙ next_turn cells ring head)
          ∙ set_here homes (slot cells ring head) (some None) inside
      at k le lt out (no other) = set_else homes (slot cells ring head) (slot cells ring k) (some None)
          (λ same. let same' : head ≡ k = same_cell cells ring head k (omega arith) (omega arith) (sym same) in omega arith)
          ∙ old.empty k le (omega arith) out

  -- the taker sees what was sent
  pub cells_shown : (puts : List ℕ) (more : List M) → AreCells cells ring head tail homes sent puts shown [] → AreCells cells ring head tail homes sent puts more []
  cells_shown puts more old = record { full = old.full; empty = old.empty; sees = old.sees; moves = λ m e. absurd (cons-not-nil m [] (sym e)) }

  -- the cells of the ring are as they were
  pub cells_kept : (puts : List ℕ) (fetches : List M) (now : List (maybe.Option (Option M)))
      → ((k : ℕ) → get_elem? now (slot cells ring k) ≡ get_elem? homes (slot cells ring k)) → AreCells cells ring head tail homes sent puts shown fetches
      → AreCells cells ring head tail now sent puts shown fetches
  cells_kept puts fetches now same old = record {
    full = λ k m le out e. same k ∙ old.full k m le out e;
    empty = λ k le lt out. same k ∙ old.empty k le lt out;
    sees = old.sees;
    moves = old.moves;
  }
