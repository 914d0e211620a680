-- What audio's steps made known in a history is what its entries are worth in the list that it comes from.
use Rattle.std.proofs.Common.{◌≡◌, ℕ, ◌+◌, ◌≤◌, ◌==◌, nat_le, nat_eq, Bool, true, false, ◌||◌, cond, List, [], ◌∷◌, ◌++◌, All, Option, Some, None, refl, sym, ap, ◌∙◌, le-leb, eq-eqb}
use Rattle.std.specs.Prelude.{IfSome}
use Rattle.std.specs.List.{list_any, list_all, cons_option}
use Rattle.std.proofs.lemmas.Bool.{or_left, or_right, and_from}
use Rattle.std.proofs.lemmas.List.Elements.{All-nil, All-cons, All-head, All-tail, All-append, All-weaker}
use Rattle.step_law.specs.declared.actor.Actor.TheVariants.{Audio}
use Rattle.step_law.specs.declared.entry.Entry.{Entry}
use Rattle.step_law.specs.declared.entry.Kind.{Kind}
use Rattle.step_law.specs.declared.entry.Kind.TheVariants.{Done, Stop}
use Rattle.cable_trace.specs.MergedBeat.{worth_of, worths_in}
use Rattle.record_law.specs.declared.shape.Shape.{Shape}
use Rattle.record_law.specs.Entries.{is_by}
use Rattle.record_law.specs.Message.{Step, History}
use Rattle.record_law.specs.History.{own, progress_of, progress_in}
use Rattle.record_law.specs.Protocol.{about_in, follow_in, done_in, after}
use Rattle.lawful.specs.Merged.{entries_in}

-- the step that an entry adds
abbrev pub newest : Shape → History → Entry → Step
newest s h e = record { entry = e; about = about_in (follow_in s h e) }

worth_holds : (P : ℕ → Type 0) (blocks ticket : ℕ) (kind : Kind) (a : ℕ) → All (λ worth. P worth.1) (worth_of blocks ticket kind a) → IfSome (progress_of blocks kind a) P
worth_holds P blocks ticket Done a all = All-head (λ (worth : ℕ × ℕ). P worth.1) (ticket, a + 1) [] all
worth_holds P blocks ticket Stop a all = All-head (λ (worth : ℕ × ℕ). P worth.1) (ticket, blocks + 1) [] all
worth_holds P blocks ticket kind a all = tt

worth_is : (P : ℕ → Type 0) (blocks ticket : ℕ) (kind : Kind) (a : ℕ) → ((v : ℕ) → progress_of blocks kind a ≡ Some v → P v) → All (λ worth. P worth.1) (worth_of blocks ticket kind a)
worth_is P blocks ticket Done a k = All-cons (λ (worth : ℕ × ℕ). P worth.1) (ticket, a + 1) [] (k (a + 1) refl) (All-nil (λ (worth : ℕ × ℕ). P worth.1))
worth_is P blocks ticket Stop a k = All-cons (λ (worth : ℕ × ℕ). P worth.1) (ticket, blocks + 1) [] (k (blocks + 1) refl) (All-nil (λ (worth : ℕ × ℕ). P worth.1))
worth_is P blocks ticket kind a k = All-nil (λ (worth : ℕ × ℕ). P worth.1)

pub all_first : {X : Type 0} (P : X → Type 0) (xs ys : List X) → All P (xs ++ ys) → All P xs
all_first P [] ys all = All-nil P
all_first P (x ∷ xs) ys all = All-cons P x xs (All-head P x (xs ++ ys) all) (all_first P xs ys (All-tail P x (xs ++ ys) all))

pub all_last : {X : Type 0} (P : X → Type 0) (xs ys : List X) → All P (xs ++ ys) → All P ys
all_last P [] ys all = all
all_last P (x ∷ xs) ys all = all_last P xs ys (All-tail P x (xs ++ ys) all)

module _ (s : Shape) where
  -- the progress that audio's own steps made known
  abbrev pub known : History → List ℕ
  known h = progress_in s (own Audio h)

  -- ---- one of them

  abbrev pub IsKnown : ℕ → History → Type 0
  IsKnown v h = list_any (nat_eq v) (known h) ≡ true

  known_more : (v : ℕ) (h : History) (e : Entry) → IsKnown v h → IsKnown v (done_in s h e)
  known_more v h e k = by (is_by Audio e)
    where
      more : (o : Option ℕ) → list_any (nat_eq v) (cons_option o (known h)) ≡ true
      more None = k
      more (Some w) = or_right (nat_eq v w) (list_any (nat_eq v) (known h)) k

      by : (b : Bool) → list_any (nat_eq v) (progress_in s (cond b (newest s h e ∷ own Audio h) (own Audio h))) ≡ true
      by true = more (progress_of s.blocks e.kind e.a)
      by false = k

  known_after : (v : ℕ) (h : History) (marks : List (ℕ × Entry)) → IsKnown v h → IsKnown v (after s h (entries_in marks))
  known_after v h [] k = k
  known_after v h (m ∷ ms) k = known_after v (done_in s h m.1) ms (known_more v h m.1 k)

  known_now : (v : ℕ) (h : History) (e : Entry) → is_by Audio e ≡ true → progress_of s.blocks e.kind e.a ≡ Some v → IsKnown v (done_in s h e)
  known_now v h e is e_is =
      let first : known (done_in s h e) ≡ cons_option (progress_of s.blocks e.kind e.a) (known h) =
      ap (λ b. progress_in s (cond b (newest s h e ∷ own Audio h) (own Audio h))) is in
      ap (list_any (nat_eq v)) (first ∙ ap (λ o. cons_option o (known h)) e_is) ∙ or_left (nat_eq v v) (list_any (nat_eq v) (known h)) (eq-eqb v v refl)

  -- each worth in the list is known after it
  pub worths_known : (h : History) (marks : List (ℕ × Entry)) → All (λ worth. IsKnown worth.1 (after s h (entries_in marks))) (worths_in s.blocks 0 marks)
  worths_known h [] = All-nil (λ (worth : ℕ × ℕ). IsKnown worth.1 h)
  worths_known h (m ∷ ms) = All-append (λ (worth : ℕ × ℕ). IsKnown worth.1 (after s (done_in s h m.1) (entries_in ms))) _ _ (here (m.1.actor == 0) refl) (worths_known (done_in s h m.1) ms)
    where
      here : (b : Bool) → is_by Audio m.1 ≡ b
          → All (λ worth. IsKnown worth.1 (after s (done_in s h m.1) (entries_in ms))) (cond b (worth_of s.blocks m.0 m.1.kind m.1.a) [])
      here true is =
          worth_is (λ v. IsKnown v (after s (done_in s h m.1) (entries_in ms))) s.blocks m.0 m.1.kind m.1.a
          (λ v e. known_after v (done_in s h m.1) ms (known_now v h m.1 is e))
      here false other = All-nil (λ (worth : ℕ × ℕ). IsKnown worth.1 (after s (done_in s h m.1) (entries_in ms)))

  -- ---- all of them

  abbrev pub AreWithin : ℕ → History → Type 0
  AreWithin seen h = list_all (λ progress. nat_le progress seen) (known h) ≡ true

  pub within_after : (seen : ℕ) (h : History) (marks : List (ℕ × Entry)) → AreWithin seen h → All (λ worth. worth.1 ≤ seen) (worths_in s.blocks 0 marks)
      → AreWithin seen (after s h (entries_in marks))
  within_after seen h [] k all = k
  within_after seen h (m ∷ ms) k all =
      within_after seen (done_in s h m.1) ms
      (here (m.1.actor == 0) (all_first (λ (worth : ℕ × ℕ). worth.1 ≤ seen) _ (worths_in s.blocks 0 ms) all))
      (all_last (λ (worth : ℕ × ℕ). worth.1 ≤ seen) _ (worths_in s.blocks 0 ms) all)
    where
      more : (o : Option ℕ) → IfSome o (λ v. v ≤ seen) → list_all (λ progress. nat_le progress seen) (cons_option o (known h)) ≡ true
      more None less = k
      more (Some v) less = and_from (nat_le v seen) (list_all (λ progress. nat_le progress seen) (known h)) (le-leb v seen less) k

      here : (b : Bool) → All (λ worth. worth.1 ≤ seen) (cond b (worth_of s.blocks m.0 m.1.kind m.1.a) [])
          → list_all (λ progress. nat_le progress seen) (progress_in s (cond b (newest s h m.1 ∷ own Audio h) (own Audio h))) ≡ true
      here true some = more (progress_of s.blocks m.1.kind m.1.a) (worth_holds (λ v. v ≤ seen) s.blocks m.0 m.1.kind m.1.a some)
      here false none = k
