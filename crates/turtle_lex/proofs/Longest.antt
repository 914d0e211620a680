-- How the longest token of a text follows from what is after its first character.
use Rattle.std.proofs.Common.{◌≡◌, ◌⊎◌, inl, inr, ⊎_elim, ℕ, suc, ◌<◌, Bool, true, false, Option, Some, None, List, [], ◌∷◌, ◌++◌, length, refl, sym, ap, ◌∙◌, subst, arith}
use Rattle.std.specs.List.{AllByRecursion}
use Rattle.turtle_grammar.specs.Pattern.{Pattern, fails, nothing, one, ◌then◌, ◌or◌, many, Matches, is_empty, after}
use Rattle.turtle_grammar.specs.declared.token.TokenKind.{TokenKind}
use Rattle.turtle_grammar.proofs.Derivatives.{from_after, to_after, to_empty, from_empty}
use Rattle.turtle_lex.specs.Scans.{NoFront}
use Rattle.turtle_lex.specs.Picks.{Candidate, IsOne, IsNoLonger, IsPicked, Picks, all_after, is_failure, kept, alive, listed, accepting, IsSole, better}
use Rattle.turtle_lex.proofs.Opened.{moved, none_behind}

abbrev Tells : Bool → Type 0
Tells b = (b ≡ true) ⊎ (b ≡ false)

tells : (b : Bool) → Tells b
tells true = inl refl
tells false = inr refl

-- Those that fail can be left out.
no_failure : (p : Pattern) (a : List ℕ) → is_failure p ≡ true → Matches p a → ⊥
no_failure fails a e m = m
no_failure nothing a e m = cc
no_failure (one f) a e m = cc
no_failure (p then q) a e m = cc
no_failure (p or q) a e m = cc
no_failure (many p) a e m = cc

none_alive : (rs : List Candidate) (text : List ℕ) → Picks (alive rs) text None → Picks rs text None
none_alive [] text h = tt
none_alive (r ∷ rs) text h =
    ⊎_elim
    (λ e. let P : Bool → Type 0 = λ b. Picks (kept b r (alive rs)) text None in
    (record { none = λ a b w m. no_failure r.wanted a e m }, none_alive rs text (subst P e h)))
    (λ e. let P : Bool → Type 0 = λ b. Picks (kept b r (alive rs)) text None in
    let k : Picks (r ∷ alive rs) text None = subst P e h in (k.0, none_alive rs text k.1))
    (tells (is_failure r.wanted))

one_alive : (rs : List Candidate) (kind : TokenKind) (front : List ℕ) → IsOne (alive rs) kind front → IsOne rs kind front
one_alive [] kind front h = h
one_alive (r ∷ rs) kind front h =
    let P : Bool → Type 0 = λ b. IsOne (kept b r (alive rs)) kind front in
    ⊎_elim
    (λ e. inr (one_alive rs kind front (subst P e h)))
    (λ e. let k : IsOne (r ∷ alive rs) kind front = subst P e h in ⊎_elim (λ x. inl x) (λ x. inr (one_alive rs kind front x)) k)
    (tells (is_failure r.wanted))

longest_alive : (rs : List Candidate) (text front : List ℕ) (kind : TokenKind) → AllByRecursion (IsNoLonger text front kind) (alive rs) → AllByRecursion (IsNoLonger text front kind) rs
longest_alive [] text front kind h = tt
longest_alive (r ∷ rs) text front kind h =
    let P : Bool → Type 0 = λ b. AllByRecursion (IsNoLonger text front kind) (kept b r (alive rs)) in
    ⊎_elim
    (λ e. (record { shorter = λ a b w m. absurd (no_failure r.wanted a e m) }, longest_alive rs text front kind (subst P e h)))
    (λ e. let k : AllByRecursion (IsNoLonger text front kind) (r ∷ alive rs) = subst P e h in (k.0, longest_alive rs text front kind k.1))
    (tells (is_failure r.wanted))

picks_alive : (rs : List Candidate) (text : List ℕ) (found : Option (TokenKind × List ℕ)) → Picks (alive rs) text found → Picks rs text found
picks_alive rs text None h = none_alive rs text h
picks_alive rs text (Some (kind, back)) h = record {
  front = h.front;
  whole = h.whole;
  fits = one_alive rs kind h.front h.fits;
  longest = longest_alive rs text h.front kind h.longest;
}

-- where a token is found further on
one_behind : (c : ℕ) (rs : List Candidate) (kind : TokenKind) (front : List ℕ) → IsOne (all_after c rs) kind front → IsOne rs kind (c ∷ front)
one_behind c [] kind front h = h
one_behind c (r ∷ rs) kind front h = ⊎_elim (λ x. inl (x.0, from_after c r.wanted front x.1)) (λ x. inr (one_behind c rs kind front x)) h

shorter_behind : (c : ℕ) (r : Candidate) (text front : List ℕ) (kind : TokenKind) → IsNoLonger text front kind (record { kind = r.kind; wanted = after c r.wanted })
    → (a b : List ℕ) → c ∷ text ≡ a ++ b → Matches r.wanted a → (length a < suc (length front)) ⊎ ((length a ≡ suc (length front)) × (r.kind ≡ kind))
shorter_behind c r text front kind h [] b w m = inl (omega arith)
shorter_behind c r text front kind h (d ∷ a) b w m =
    let same : d ∷ a ≡ c ∷ a = cc in let rest : text ≡ a ++ b = cc in
    ⊎_elim (λ lt. inl (omega arith)) (λ e. inr (ap suc e.0, e.1)) (h.shorter a b rest (to_after c r.wanted a (moved r.wanted (d ∷ a) (c ∷ a) same m)))

longest_behind : (c : ℕ) (rs : List Candidate) (text front : List ℕ) (kind : TokenKind) → AllByRecursion (IsNoLonger text front kind) (all_after c rs) → AllByRecursion (IsNoLonger (c ∷ text) (c ∷ front) kind) rs
longest_behind c [] text front kind h = tt
longest_behind c (r ∷ rs) text front kind h = (record { shorter = shorter_behind c r text front kind h.0 }, longest_behind c rs text front kind h.1)

some_behind : (c : ℕ) (rs : List Candidate) (text : List ℕ) (kind : TokenKind) (back : List ℕ) → IsPicked (all_after c rs) text kind back → IsPicked rs (c ∷ text) kind back
some_behind c rs text kind back h = record {
  front = c ∷ h.front;
  whole = ap (λ x. c ∷ x) h.whole;
  fits = one_behind c rs kind h.front h.fits;
  longest = longest_behind c rs text h.front kind h.longest;
}

-- where none is found further on
none_next : (c : ℕ) (rs : List Candidate) (text : List ℕ) → accepting rs ≡ [] → Picks (all_after c rs) text None → Picks rs (c ∷ text) None
none_next c [] text e h = tt
none_next c (r ∷ rs) text e h =
    let P : Bool → Type 0 = λ b. listed b r.kind (accepting rs) ≡ [] in
    ⊎_elim
    (λ full. absurd (let k : r.kind ∷ accepting rs ≡ [] = subst P full e in cc))
    (λ full. let k : accepting rs ≡ [] = subst P full e in
    (none_behind c r.wanted (after c r.wanted) text refl full h.0, none_next c rs text k h.1))
    (tells (is_empty r.wanted))

empty_fits : (rs : List Candidate) (kind : TokenKind) → accepting rs ≡ kind ∷ [] → IsOne rs kind []
empty_fits [] kind e = cc
empty_fits (r ∷ rs) kind e =
    let P : Bool → Type 0 = λ b. listed b r.kind (accepting rs) ≡ kind ∷ [] in
    ⊎_elim
    (λ full. let k : r.kind ∷ accepting rs ≡ kind ∷ [] = subst P full e in let same : r.kind ≡ kind = cc in inl (same, from_empty r.wanted full))
    (λ full. inr (empty_fits rs kind (subst P full e)))
    (tells (is_empty r.wanted))

only_empty : (c : ℕ) (p : Pattern) (text : List ℕ) → NoFront (after c p) text → (a b : List ℕ) → c ∷ text ≡ a ++ b → Matches p a → a ≡ []
only_empty c p text h [] b w m = refl
only_empty c p text h (d ∷ a) b w m =
    let same : d ∷ a ≡ c ∷ a = cc in let rest : text ≡ a ++ b = cc in
    absurd (h.none a b rest (to_after c p a (moved p (d ∷ a) (c ∷ a) same m)))

none_longer : (text : List ℕ) (kind : TokenKind) (rs : List Candidate) → Picks rs text None → AllByRecursion (IsNoLonger text [] kind) rs
none_longer text kind [] h = tt
none_longer text kind (r ∷ rs) h = (record { shorter = λ a b w m. absurd (h.0.none a b w m) }, none_longer text kind rs h.1)

empty_longest : (c : ℕ) (rs : List Candidate) (text : List ℕ) (kind : TokenKind) → accepting rs ≡ kind ∷ [] → Picks (all_after c rs) text None → AllByRecursion (IsNoLonger (c ∷ text) [] kind) rs
empty_longest c [] text kind e h = tt
empty_longest c (r ∷ rs) text kind e h =
    let P : Bool → Type 0 = λ b. listed b r.kind (accepting rs) ≡ kind ∷ [] in
    ⊎_elim
    (λ full.
    let k : r.kind ∷ accepting rs ≡ kind ∷ [] = subst P full e in
    let same : r.kind ≡ kind = cc in
    let rest : accepting rs ≡ [] = cc in
    (record { shorter = λ a b w m. inr (ap length (only_empty c r.wanted text h.0 a b w m), same) }, none_longer (c ∷ text) kind rs (none_next c rs text rest h.1)))
    (λ full.
    let k : accepting rs ≡ kind ∷ [] = subst P full e in
    let here = none_behind c r.wanted (after c r.wanted) text refl full h.0 in
    (record { shorter = λ a b w m. absurd (here.none a b w m) }, empty_longest c rs text kind k h.1))
    (tells (is_empty r.wanted))

ends_here : (c : ℕ) (rs : List Candidate) (text : List ℕ) (kind : TokenKind) → accepting rs ≡ kind ∷ [] → Picks (all_after c rs) text None → IsPicked rs (c ∷ text) kind (c ∷ text)
ends_here c rs text kind e h = record { front = []; whole = refl; fits = empty_fits rs kind e; longest = empty_longest c rs text kind e h }

picks_by : (c : ℕ) (rs : List Candidate) (text : List ℕ) (found : Option (TokenKind × List ℕ)) (kinds : List TokenKind) → accepting rs ≡ kinds → IsSole kinds → Picks (all_after c rs) text found → Picks rs (c ∷ text) (better found kinds (c ∷ text))
picks_by c rs text (Some (kind, back)) kinds e sole h = some_behind c rs text kind back h
picks_by c rs text None [] e sole h = none_next c rs text e h
picks_by c rs text None (kind ∷ []) e sole h = ends_here c rs text kind e h
picks_by c rs text None (kind ∷ other ∷ kinds) e sole h = absurd sole

-- One character on: what is picked after it is picked here, or else the kind that ends here.
pub picks_step : (c : ℕ) (rs next : List Candidate) (text : List ℕ) (found : Option (TokenKind × List ℕ)) → alive (all_after c rs) ≡ next → IsSole (accepting rs) → Picks next text found
    → Picks rs (c ∷ text) (better found (accepting rs) (c ∷ text))
picks_step c rs next text found e sole h =
    let P : List Candidate → Type 0 = λ x. Picks x text found in
    picks_by c rs text found (accepting rs) refl sole (picks_alive (all_after c rs) text found (subst P (sym e) h))

-- The end of the text.
at_end_empty : (a b : List ℕ) → [] ≡ a ++ b → a ≡ []
at_end_empty [] b w = refl
at_end_empty (d ∷ a) b w = cc

none_last : (rs : List Candidate) → accepting rs ≡ [] → Picks rs [] None
none_last [] e = tt
none_last (r ∷ rs) e =
    let P : Bool → Type 0 = λ b. listed b r.kind (accepting rs) ≡ [] in
    ⊎_elim
    (λ full. absurd (let k : r.kind ∷ accepting rs ≡ [] = subst P full e in cc))
    (λ full. (record { none = λ a b w m. let there = to_empty r.wanted (moved r.wanted a [] (at_end_empty a b w) m) in cc }, none_last rs (subst P full e)))
    (tells (is_empty r.wanted))

last_longest : (rs : List Candidate) (kind : TokenKind) → accepting rs ≡ kind ∷ [] → AllByRecursion (IsNoLonger [] [] kind) rs
last_longest [] kind e = tt
last_longest (r ∷ rs) kind e =
    let P : Bool → Type 0 = λ b. listed b r.kind (accepting rs) ≡ kind ∷ [] in
    ⊎_elim
    (λ full.
    let k : r.kind ∷ accepting rs ≡ kind ∷ [] = subst P full e in
    let same : r.kind ≡ kind = cc in
    let rest : accepting rs ≡ [] = cc in
    (record { shorter = λ a b w m. inr (ap length (at_end_empty a b w), same) }, none_longer [] kind rs (none_last rs rest)))
    (λ full. (record { shorter = λ a b w m. absurd (let there = to_empty r.wanted (moved r.wanted a [] (at_end_empty a b w) m) in let it : true ≡ false = sym there ∙ full in cc) }, last_longest rs kind (subst P full e)))
    (tells (is_empty r.wanted))

last_by : (rs : List Candidate) (kinds : List TokenKind) → accepting rs ≡ kinds → IsSole kinds → Picks rs [] (better None kinds [])
last_by rs [] e sole = none_last rs e
last_by rs (kind ∷ []) e sole = record { front = []; whole = refl; fits = empty_fits rs kind e; longest = last_longest rs kind e }
last_by rs (kind ∷ other ∷ kinds) e sole = absurd sole

pub picks_last : (rs : List Candidate) → IsSole (accepting rs) → Picks rs [] (better None (accepting rs) [])
picks_last rs sole = last_by rs (accepting rs) refl sole
