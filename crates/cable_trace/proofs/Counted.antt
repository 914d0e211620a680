-- What stands before a place of a list with rising tickets is what has a lower ticket.
use Rattle.std.proofs.Common.{◌≡◌, ℕ, suc, ◌+◌, ◌<◌, ◌≤◌, Bool, true, false, cond, List, [], ◌∷◌, ◌++◌, map, length, get_or, ap, subst, subst₂, ◌∙◌, arith}
use Rattle.std.specs.List.{All, AllPairs, filter, count_by}
use Rattle.std.proofs.Math.Seq.{get_or-append_seam}
use Rattle.std.proofs.lemmas.List.{get_or_append_left, get_or-append-add, length-append, length-map, map-append}
use Rattle.std.proofs.lemmas.List.Elements.{All-nil, All-cons, All-head, All-tail, filter-append}
use Rattle.std.proofs.lemmas.List.Sums.{length-filter}
use Rattle.cable_trace.specs.Order.{below}
use Rattle.cable_trace.proofs.Below.{below-all, below-append, below-none}
use Rattle.cable_trace.proofs.Tells.{all_firsts}

-- what holds of all holds of those that are kept, and of the one in the middle
pub all_kept : {X : Type 0} (P : X → Type 0) (p : X → Bool) (xs : List X) → All P xs → All P (filter p xs)
all_kept P p [] h = All-nil P
all_kept {X} P p (x ∷ xs) h = by (p x) (all_kept P p xs (All-tail P x xs h))
  where
    by : (b : Bool) → All P (filter p xs) → All P (cond b (x ∷ filter p xs) (filter p xs))
    by true k = All-cons P x (filter p xs) (All-head P x xs h) k
    by false k = k

pub all_middle : {X : Type 0} (P : X → Type 0) (before after : List X) (x : X) → All P (before ++ x ∷ after) → P x
all_middle P [] after x h = All-head P x after h
all_middle P (y ∷ before) after x h = all_middle P before after x (All-tail P y (before ++ x ∷ after) h)

-- the one in the middle is kept where it passes
pub kept_middle : {X : Type 0} (P : X → Type 0) (p : X → Bool) (before after : List X) (x : X) → p x ≡ true → All P (filter p (before ++ x ∷ after)) → P x
kept_middle P p before after x e h =
    all_middle P (filter p before) (filter p after) x
    (subst (All P) (filter-append p before (x ∷ after) ∙ ap (λ l. filter p before ++ l) (ap (λ b. cond b (x ∷ filter p after) (filter p after)) e)) h)

-- from a fact of the first parts
pub firsts_all : {Y : Type 0} (P : ℕ → Type 0) (pairs : List (ℕ × Y)) → All P (map (λ pair. pair.0) pairs) → All (λ pair. P pair.0) pairs
firsts_all P [] h = All-nil (λ pair. P pair.0)
firsts_all P (pair ∷ pairs) h =
    All-cons (λ x. P x.0) pair pairs (All-head P pair.0 (map (λ x. x.0) pairs) h) (firsts_all P pairs (All-tail P pair.0 (map (λ x. x.0) pairs) h))

module _ {Y : Type 0} (marks before after : List (ℕ × Y)) (mark : ℕ × Y) (rises : AllPairs (λ first second. first.0 < second.0) marks) (e : marks ≡ before ++ mark ∷ after) where
  here : (d : ℕ × Y) → get_or marks (length before) d ≡ mark
  here d = ap (λ l. get_or l (length before) d) e ∙ get_or-append_seam before mark after d

  long : length marks ≡ length before + length (mark ∷ after)
  long = ap length e ∙ length-append before (mark ∷ after)

  -- tickets before a place are lower, and tickets after it higher
  pub before_lower : All (λ x. x.0 < mark.0) before
  before_lower k d lt =
      let there : get_or marks k d ≡ get_or before k d = ap (λ l. get_or l k d) e ∙ get_or_append_left before (mark ∷ after) d k lt in
      subst₂ (λ x y. x.0 < y.0) there (here d) (rises k (length before) d lt (omega (arith, long)))

  pub after_higher : All (λ x. mark.0 < x.0) after
  after_higher k d lt =
      let there : get_or marks (length before + suc k) d ≡ get_or after k d = ap (λ l. get_or l (length before + suc k) d) e ∙ get_or-append-add before (mark ∷ after) (suc k) d in
      subst₂ (λ x y. x.0 < y.0) (here d) there (rises (length before) (length before + suc k) d (omega arith) (omega (arith, long)))

  -- the count before a place is the number of lower tickets
  pub count_before : (p : ℕ × Y → Bool) → below mark.0 (map (λ x. x.0) (filter p marks)) ≡ count_by p before
  count_before p =
      let first : List ℕ = map (λ x. x.0) (filter p before) in
      let second : List ℕ = map (λ x. x.0) (filter p (mark ∷ after)) in
      let split : map (λ x. x.0) (filter p marks) ≡ first ++ second =
      ap (λ l. map (λ x. x.0) (filter p l)) e ∙ ap (map (λ x. x.0)) (filter-append p before (mark ∷ after)) ∙ map-append (λ (x : ℕ × Y). x.0) (filter p before) (filter p (mark ∷ after)) in
      let lower : All (λ t. t < mark.0) first = all_firsts (λ t. t < mark.0) (filter p before) (all_kept (λ x. x.0 < mark.0) p before before_lower) in
      let higher : All (λ t. mark.0 ≤ t) second =
      all_firsts (λ t. mark.0 ≤ t) (filter p (mark ∷ after)) (all_kept (λ x. mark.0 ≤ x.0) p (mark ∷ after)
      (All-cons (λ x. mark.0 ≤ x.0) mark after (omega arith) (λ k d lt. omega (arith, after_higher k d lt)))) in
      ap (below mark.0) split ∙ below-append mark.0 first second
      ∙ omega (arith, below-all mark.0 first lower, below-none mark.0 second higher, length-map (filter p before) (λ (x : ℕ × Y). x.0), length-filter p before)
