-- The list of all entries by ticket keeps the rules of the beat.
use Rattle.std.proofs.Common.{◌≡◌, ◌⊎◌, inl, inr, ℕ, zero, suc, ◌+◌, ◌<◌, ◌≤◌, Bool, true, false, ◌==◌, if◌then◌else◌, List, [], ◌∷◌, ◌++◌, length, get_or, sym, ap, subst, ◌∙◌, append_assoc, arith}
use Rattle.std.specs.List.{All, Contains}
use Rattle.std.proofs.lemmas.Grind.{flat_map-append}
use Rattle.std.proofs.lemmas.List.Elements.{All-nil, All-cons, All-head, All-tail, All-contains}
use Rattle.step_law.specs.declared.entry.Entry.{Entry}
use Rattle.step_law.specs.declared.entry.Kind.{Kind}
use Rattle.step_law.specs.declared.entry.Kind.TheVariants.{Done, Stop}
use Rattle.cable_trace.specs.declared.trace.Trace.{Trace}
use Rattle.cable_trace.specs.Trace.{drawn}
use Rattle.cable_trace.specs.Beat.{stores, loads, BeatHolds}
use Rattle.cable_trace.specs.MergedBeat.{is_beat, worth_of, worth_at, worths_in, IsMergedBeat, KeepsBeat}
use Rattle.cable_trace.proofs.Counted.{all_middle, before_lower, after_higher}
use Rattle.cable_trace.proofs.Tells.{told_all}

-- what holds of all holds of the first of two parts
all_first : {X : Type 0} (P : X → Type 0) (first second : List X) → All P (first ++ second) → All P first
all_first P [] second h = All-nil P
all_first P (x ∷ first) second h = All-cons P x first (All-head P x (first ++ second) h) (all_first P first second (All-tail P x (first ++ second) h))

-- what two parts contain is in the first or in the second
one_more : {X : Type 0} (y : X) (first second : List X) (x : X) → Contains first x ⊎ Contains second x → Contains (y ∷ first) x ⊎ Contains second x
one_more y first second x (inl c) = inl (suc c.0, omega (arith, c.1), c.2)
one_more y first second x (inr c) = inr c

parts_at : {X : Type 0} (first second : List X) (x : X) (k : ℕ) → k < length (first ++ second) → get_or (first ++ second) k x ≡ x → Contains first x ⊎ Contains second x
parts_at [] second x k lt e = inr (k, lt, e)
parts_at (y ∷ first) second x zero lt e = inl (zero, omega arith, e)
parts_at (y ∷ first) second x (suc k) lt e = one_more y first second x (parts_at first second x k (omega arith) e)

parts : {X : Type 0} (first second : List X) (x : X) → Contains (first ++ second) x → Contains first x ⊎ Contains second x
parts first second x c = parts_at first second x c.0 c.1 c.2

-- a worth has its entry's ticket
worth_where : (P : ℕ → Type 0) (blocks ticket : ℕ) (kind : Kind) (a : ℕ) → P ticket → All (λ worth. P worth.0) (worth_of blocks ticket kind a)
worth_where P blocks ticket Done a h = let w : ℕ × ℕ = (ticket, a + 1) in All-cons (λ x. P x.0) w [] h (All-nil (λ x. P x.0))
worth_where P blocks ticket Stop a h = let w : ℕ × ℕ = (ticket, blocks + 1) in All-cons (λ x. P x.0) w [] h (All-nil (λ x. P x.0))
worth_where P blocks ticket kind a h = All-nil (λ x. P x.0)

worths_where : (P : ℕ → Type 0) (blocks source : ℕ) (marks : List (ℕ × Entry)) → All (λ mark. P mark.0) marks → All (λ worth. P worth.0) (worths_in blocks source marks)
worths_where P blocks source marks h =
    told_all (λ mark. P mark.0) (λ worth. P worth.0) (worth_at blocks source) (λ mark k. by (mark.1.actor == source) (worth_of blocks mark.0 mark.1.kind mark.1.a) (worth_where P blocks mark.0 mark.1.kind mark.1.a k)) marks h
  where
    by : (b : Bool) (worths : List (ℕ × ℕ)) → All (λ worth. P worth.0) worths → All (λ worth. P worth.0) (if b then worths else [])
    by true worths k = k
    by false worths k = All-nil (λ worth. P worth.0)

module _ {M : Type 0} (blocks source target : ℕ) (writer reader : Trace M) (marks : List (ℕ × Entry)) (h : BeatHolds writer reader) (m : IsMergedBeat blocks source target writer reader marks) where
  module _ (before after : List (ℕ × Entry)) (mark : ℕ × Entry) (e : marks ≡ before ++ mark ∷ after) where
    at_mark : (P : ℕ × Entry → Type 0) → All P marks → P mark
    at_mark P k = all_middle P before after mark (subst (All P) e k)

    -- the stores are the worths before a place and those from there on
    stores_split : stores writer ≡ worths_in blocks source before ++ worths_in blocks source (mark ∷ after)
    stores_split = sym m.stored ∙ ap (worths_in blocks source) e ∙ flat_map-append (worth_at blocks source) before (mark ∷ after)

    -- what holds of all stores holds of the worths before a place, whose tickets are lower
    stored_before : (P : ℕ × ℕ → Type 0) → All (λ store. store.0 < mark.0 → P store) (stores writer) → All P (worths_in blocks source before)
    stored_before P k =
        let first : All (λ store. store.0 < mark.0 → P store) (worths_in blocks source before) =
        all_first (λ store. store.0 < mark.0 → P store) (worths_in blocks source before) (worths_in blocks source (mark ∷ after)) (subst (All (λ store. store.0 < mark.0 → P store)) stores_split k) in
        let lower : All (λ worth. worth.0 < mark.0) (worths_in blocks source before) =
        worths_where (λ t. t < mark.0) blocks source before (before_lower marks before after mark m.rises e) in
        λ i d lt. first i d lt (lower i d lt)

    -- a store with a lower ticket is a worth before a place
    is_before : (store : ℕ × ℕ) → store.0 < mark.0 → Contains (stores writer) store → Contains (worths_in blocks source before) store
    is_before store lower c =
        let higher : All (λ worth. mark.0 ≤ worth.0) (worths_in blocks source (mark ∷ after)) =
        worths_where (λ t. mark.0 ≤ t) blocks source (mark ∷ after)
        (All-cons (λ x. mark.0 ≤ x.0) mark after (omega arith) (λ k d lt. omega (arith, after_higher marks before after mark m.rises e k d lt))) in
        by higher (parts (worths_in blocks source before) (worths_in blocks source (mark ∷ after)) store (subst (λ l. Contains l store) stores_split c))
      where
        by : All (λ worth. mark.0 ≤ worth.0) (worths_in blocks source (mark ∷ after))
            → Contains (worths_in blocks source before) store ⊎ Contains (worths_in blocks source (mark ∷ after)) store → Contains (worths_in blocks source before) store
        by higher (inl c) = c
        by higher (inr c) = absurd (omega (arith, lower, All-contains (λ worth. mark.0 ≤ worth.0) (worths_in blocks source (mark ∷ after)) store higher c))

    -- the load of an entry
    was_loaded : is_beat mark.1.kind ≡ true → Contains (loads reader) (mark.0, mark.1.a)
    was_loaded is = at_mark (λ x. is_beat x.1.kind ≡ true → Contains (loads reader) (x.0, x.1.a)) m.loaded is

    stands : is_beat mark.1.kind ≡ true → (mark.1.a ≡ 0) ⊎ ((ticket : ℕ) × Contains (stores writer) (ticket, mark.1.a) × All (λ next. mark.0 < next → ticket < next) (drawn reader))
    stands is =
        let pair : ℕ × ℕ = (mark.0, mark.1.a) in
        All-contains (λ load. (load.1 ≡ 0) ⊎ ((ticket : ℕ) × Contains (stores writer) (ticket, load.1) × All (λ next. load.0 < next → ticket < next) (drawn reader)))
        (loads reader) pair h.at_most (was_loaded is)

    sees : is_beat mark.1.kind ≡ true → (t : ℕ) → Contains (drawn writer) t → t < mark.0 → All (λ store. store.0 < t → store.1 ≤ mark.1.a) (stores writer)
    sees is t drew lower =
        let pair : ℕ × ℕ = (mark.0, mark.1.a) in
        let all = All-contains (λ load. All (λ x. x < load.0 → All (λ store. store.0 < x → store.1 ≤ load.1) (stores writer)) (drawn writer)) (loads reader) pair h.at_least (was_loaded is) in
        All-contains (λ x. x < mark.0 → All (λ store. store.0 < x → store.1 ≤ mark.1.a) (stores writer)) (drawn writer) t all drew lower

  pub merged_beat_keeps : KeepsBeat blocks source target marks
  merged_beat_keeps = record {
    at_least = λ before between after mark beat e by is.
        let inner : marks ≡ before ++ mark ∷ (between ++ beat ∷ after) = e ∙ append_assoc before (mark ∷ between) (beat ∷ after) in
        let drew : Contains (drawn writer) mark.0 = at_mark before (between ++ beat ∷ after) mark inner (λ x. x.1.actor ≡ source → Contains (drawn writer) x.0) m.by_writer by in
        let lower : mark.0 < beat.0 = all_middle (λ x. x.0 < beat.0) before between mark (before_lower marks (before ++ mark ∷ between) after beat m.rises e) in
        stored_before before (between ++ beat ∷ after) mark inner (λ store. store.1 ≤ beat.1.a) (sees (before ++ mark ∷ between) after beat e is mark.0 drew lower);
    at_most = λ before between after beat mark e is by.
        let inner : marks ≡ before ++ beat ∷ (between ++ mark ∷ after) = e ∙ append_assoc before (beat ∷ between) (mark ∷ after) in
        let drew : Contains (drawn reader) mark.0 = at_mark (before ++ beat ∷ between) after mark e (λ x. x.1.actor ≡ target → Contains (drawn reader) x.0) m.by_reader by in
        let lower : beat.0 < mark.0 = all_middle (λ x. x.0 < mark.0) before between beat (before_lower marks (before ++ beat ∷ between) after mark m.rises e) in
        stood before between after beat mark e drew lower (stands before (between ++ mark ∷ after) beat inner is);
    in_all = λ before after beat e is. anywhere beat (stands before after beat e is);
  }
    where
      stood : (before between after : List (ℕ × Entry)) (beat mark : ℕ × Entry) → marks ≡ (before ++ beat ∷ between) ++ mark ∷ after → Contains (drawn reader) mark.0 → beat.0 < mark.0
          → (beat.1.a ≡ 0) ⊎ ((ticket : ℕ) × Contains (stores writer) (ticket, beat.1.a) × All (λ next. beat.0 < next → ticket < next) (drawn reader))
          → (beat.1.a ≡ 0) ⊎ ((ticket : ℕ) × Contains (worths_in blocks source (before ++ beat ∷ between)) (ticket, beat.1.a))
      stood before between after beat mark e drew lower (inl z) = inl z
      stood before between after beat mark e drew lower (inr x) =
          let store : ℕ × ℕ = (x.0, beat.1.a) in
          inr (x.0, is_before (before ++ beat ∷ between) after mark e store (All-contains (λ next. beat.0 < next → x.0 < next) (drawn reader) mark.0 x.2 drew lower) x.1)

      anywhere : (beat : ℕ × Entry)
          → (beat.1.a ≡ 0) ⊎ ((ticket : ℕ) × Contains (stores writer) (ticket, beat.1.a) × All (λ next. beat.0 < next → ticket < next) (drawn reader))
          → (beat.1.a ≡ 0) ⊎ ((ticket : ℕ) × Contains (worths_in blocks source marks) (ticket, beat.1.a))
      anywhere beat (inl z) = inl z
      anywhere beat (inr x) = inr (x.0, subst (λ l. Contains l (x.0, beat.1.a)) (sym m.stored) x.1)
