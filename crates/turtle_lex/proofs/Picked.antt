-- The longest token with places in a text.
use Rattle.std.proofs.Common.{◌≡◌, inl, inr, ⊎_elim, ℕ, ◌≤◌, Bool, true, false, Option, Some, None, List, [], ◌∷◌, length, refl, sym, ap, ◌∙◌, subst, arith}
use Rattle.turtle_grammar.specs.declared.token.TokenKind.{TokenKind}
use Rattle.turtle_grammar.specs.Pattern.{nothing, is_empty}
use Rattle.turtle_grammar.proofs.Derivatives.{from_empty}
use Rattle.turtle_lex.specs.Places.{IsPlace, chars_from, Reads}
use Rattle.turtle_lex.specs.Picks.{Candidate, Picks, PicksAt, all_after, alive, listed, accepting, IsSole, better, or_here, Loops, Carries, IsRun}
use Rattle.turtle_lex.proofs.Longest.{picks_step, picks_last}

at_text : (rs : List Candidate) (found : Option (TokenKind × List ℕ)) (a b : List ℕ) → a ≡ b → Picks rs b found → Picks rs a found
at_text rs found a b e h = let P : List ℕ → Type 0 = λ x. Picks rs x found in subst P (sym e) h

here_by : (rs : List Candidate) (text : List ℕ) (at : ℕ) (kinds : List TokenKind) → IsPlace text at → Picks rs (chars_from text at) (better None kinds (chars_from text at)) → PicksAt rs text at (or_here None kinds at)
here_by rs text at [] place h = h
here_by rs text at (kind ∷ kinds) place h = (h, place, omega arith)

-- One character on.
pub pick_on : (text : List ℕ) (at c next : ℕ) (rs then_rs : List Candidate) (found : Option (TokenKind × ℕ)) → IsPlace text at → Reads text at c next → alive (all_after c rs) ≡ then_rs → IsSole (accepting rs)
    → PicksAt then_rs text next found → PicksAt rs text at (or_here found (accepting rs) at)
pick_on text at c next rs then_rs None place r e sole h =
    let k = picks_step c rs then_rs (chars_from text next) None e sole h in
    let P : List ℕ → Type 0 = λ x. Picks rs x (better None (accepting rs) x) in
    here_by rs text at (accepting rs) place (subst P (sym r.reads) k)
pick_on text at c next rs then_rs (Some (kind, upto)) place r e sole h =
    (at_text rs (Some (kind, chars_from text upto)) (chars_from text at) (c ∷ chars_from text next) r.reads (picks_step c rs then_rs (chars_from text next) (Some (kind, chars_from text upto)) e sole h.0), h.1, omega (arith, r.further, h.2))

-- No candidate goes on.
pub pick_stuck : (text : List ℕ) (at c next : ℕ) (rs : List Candidate) → IsPlace text at → Reads text at c next → alive (all_after c rs) ≡ [] → IsSole (accepting rs) → PicksAt rs text at (or_here None (accepting rs) at)
pick_stuck text at c next rs place r e sole = pick_on text at c next rs [] None place r e sole tt

-- The text ends.
pub pick_last : (text : List ℕ) (at : ℕ) (rs : List Candidate) → IsPlace text at → chars_from text at ≡ [] → IsSole (accepting rs) → PicksAt rs text at (or_here None (accepting rs) at)
pick_last text at rs place e sole =
    let P : List ℕ → Type 0 = λ x. Picks rs x (better None (accepting rs) x) in
    here_by rs text at (accepting rs) place (subst P (sym e) (picks_last rs sole))

-- where none is picked none is at its end
none_by : (r : Candidate) (rs : List Candidate) (text : List ℕ) (b : Bool) → is_empty r.wanted ≡ b → Picks (r ∷ rs) text None → accepting rs ≡ [] → listed b r.kind (accepting rs) ≡ []
none_by r rs text true e h k = absurd (h.0.none [] text refl (from_empty r.wanted e))
none_by r rs text false e h k = k

none_accepts : (rs : List Candidate) (text : List ℕ) → Picks rs text None → accepting rs ≡ []
none_accepts [] text h = refl
none_accepts (r ∷ rs) text h = none_by r rs text (is_empty r.wanted) refl h (none_accepts rs text h.1)

kept_here : (rs : List Candidate) (text : List ℕ) (at : ℕ) (found : Option (TokenKind × ℕ)) (kinds : List TokenKind) → accepting rs ≡ kinds → (found ≡ None → kinds ≡ []) → PicksAt rs text at (or_here found kinds at) → PicksAt rs text at found
kept_here rs text at (Some x) kinds e none h = h
kept_here rs text at None [] e none h = h
kept_here rs text at None (kind ∷ kinds) e none h = absurd (let k = none refl in cc)

none_then : (rs : List Candidate) (text : List ℕ) (at : ℕ) (found : Option (TokenKind × ℕ)) → PicksAt rs text at found → found ≡ None → accepting rs ≡ []
none_then rs text at None h e = none_accepts rs (chars_from text at) h
none_then rs text at (Some x) h e = cc

-- One more character of a run.
pub run_more : (class : ℕ → Bool) (text : List ℕ) (from at c next : ℕ) → IsPlace text at → Reads text at c next → class c ≡ true → Carries class text from at → Carries class text from next
run_more class text from at c next place r e carries rs loops found h =
    carries rs loops found (kept_here rs text at found (accepting rs) refl (none_then rs text next found h) (pick_on text at c next rs rs found place r (loops.stays c e) loops.sole h))

same_reads : (text : List ℕ) (at c d next upto : ℕ) → Reads text at c next → Reads text at d upto → c ≡ d
same_reads text at c d next upto r s = let e = sym r.reads ∙ s.reads in cc

pub run_stops : (class : ℕ → Bool) (text : List ℕ) (from at c next : ℕ) → IsPlace text at → from ≤ at → Carries class text from at → Reads text at c next → class c ≡ false → IsRun class text from at
run_stops class text from at c next place le carries r e = record {
  place = place;
  further = le;
  stops = λ d upto s. ap class (sym (same_reads text at c d next upto r s)) ∙ e;
  ending = inr (c, next, r);
  carries = carries;
}

pub run_ends : (class : ℕ → Bool) (text : List ℕ) (from at : ℕ) → IsPlace text at → from ≤ at → Carries class text from at → chars_from text at ≡ [] → IsRun class text from at
run_ends class text from at place le carries e = record {
  place = place;
  further = le;
  stops = λ d upto s. let k = sym e ∙ s.reads in cc;
  ending = inl e;
  carries = carries;
}

nothing_here : (found : Option (TokenKind × ℕ)) (at : ℕ) → or_here found [] at ≡ found
nothing_here None at = refl
nothing_here (Some x) at = refl

sole_by : (rs : List Candidate) (kinds : List TokenKind) → accepting rs ≡ kinds → IsSole kinds → IsSole (accepting rs)
sole_by rs kinds e sole = let P : List TokenKind → Type 0 = IsSole in subst P (sym e) sole

-- The same where the candidates end in no token here, or in one.
pub pick_through : (text : List ℕ) (at c next : ℕ) (rs then_rs : List Candidate) (found : Option (TokenKind × ℕ)) → IsPlace text at → Reads text at c next → alive (all_after c rs) ≡ then_rs → accepting rs ≡ []
    → PicksAt then_rs text next found → PicksAt rs text at found
pick_through text at c next rs then_rs found place r e none h =
    let P : List TokenKind → Type 0 = λ kinds. PicksAt rs text at (or_here found kinds at) in
    let Q : Option (TokenKind × ℕ) → Type 0 = PicksAt rs text at in
    subst Q (nothing_here found at) (subst P none (pick_on text at c next rs then_rs found place r e (sole_by rs [] none tt) h))

pub pick_or : (text : List ℕ) (at c next : ℕ) (rs then_rs : List Candidate) (found result : Option (TokenKind × ℕ)) (kind : TokenKind) → IsPlace text at → Reads text at c next → alive (all_after c rs) ≡ then_rs → accepting rs ≡ kind ∷ []
    → PicksAt then_rs text next found → result ≡ or_here found (kind ∷ []) at → PicksAt rs text at result
pick_or text at c next rs then_rs found result kind place r e one h is =
    let P : List TokenKind → Type 0 = λ kinds. PicksAt rs text at (or_here found kinds at) in
    let Q : Option (TokenKind × ℕ) → Type 0 = PicksAt rs text at in
    subst Q (sym is) (subst P one (pick_on text at c next rs then_rs found place r e (sole_by rs (kind ∷ []) one tt) h))

pub pick_none : (text : List ℕ) (at c next : ℕ) (rs : List Candidate) → IsPlace text at → Reads text at c next → alive (all_after c rs) ≡ [] → accepting rs ≡ [] → PicksAt rs text at None
pick_none text at c next rs place r e none = pick_through text at c next rs [] None place r e none tt

pub pick_only : (text : List ℕ) (at c next : ℕ) (rs : List Candidate) (kind : TokenKind) → IsPlace text at → Reads text at c next → alive (all_after c rs) ≡ [] → accepting rs ≡ kind ∷ [] → PicksAt rs text at (Some (kind, at))
pick_only text at c next rs kind place r e one = pick_or text at c next rs [] None (Some (kind, at)) kind place r e one tt refl

pub pick_none_last : (text : List ℕ) (at : ℕ) (rs : List Candidate) → IsPlace text at → chars_from text at ≡ [] → accepting rs ≡ [] → PicksAt rs text at None
pick_none_last text at rs place e none =
    let P : List TokenKind → Type 0 = λ kinds. PicksAt rs text at (or_here None kinds at) in
    subst P none (pick_last text at rs place e (sole_by rs [] none tt))

pub pick_only_last : (text : List ℕ) (at : ℕ) (rs : List Candidate) (kind : TokenKind) → IsPlace text at → chars_from text at ≡ [] → accepting rs ≡ kind ∷ [] → PicksAt rs text at (Some (kind, at))
pick_only_last text at rs kind place e one =
    let P : List TokenKind → Type 0 = λ kinds. PicksAt rs text at (or_here None kinds at) in
    subst P one (pick_last text at rs place e (sole_by rs (kind ∷ []) one tt))

-- A token that is a run to its end.
pub pick_run : (class : ℕ → Bool) (text : List ℕ) (at upto : ℕ) (rs : List Candidate) (kind : TokenKind) → IsRun class text at upto → Loops class rs → accepting rs ≡ kind ∷ []
    → ((c : ℕ) → class c ≡ false → alive (all_after c rs) ≡ []) → PicksAt rs text at (Some (kind, upto))
pick_run class text at upto rs kind run loops one others =
    run.carries rs loops (Some (kind, upto)) (⊎_elim
    (λ e. pick_only_last text upto rs kind run.place e one)
    (λ r. pick_only text upto r.0 r.1 rs kind run.place r.2 (others r.0 (run.stops r.0 r.1 r.2)) one)
    run.ending)

-- Nothing more is wanted.
pub pick_done : (text : List ℕ) (at : ℕ) (kind : TokenKind) → IsPlace text at → PicksAt (record { kind = kind; wanted = nothing } ∷ []) text at (Some (kind, at))
pick_done text at kind place = (
  record {
    front = [];
    whole = refl;
    fits = inl (refl, refl);
    longest = (record { shorter = λ a b w m. inr (ap length m, refl) }, tt);
  },
  place,
  omega arith,
)
