-- What follows each character in a name.
use Rattle.std.proofs.Common.{◌≡◌, ◌≢◌, ◌⊎◌, inl, inr, ℕ, ◌≤◌, true, false, ◌==◌, Option, Some, None, List, [], refl, sym, ◌∙◌, subst, arith}
use Rattle.std.proofs.lemmas.Bool.{ne_eqb}
use Rattle.turtle_grammar.specs.Characters.{is_letter, is_digit, is_name_base, is_name_start, is_name_char}
use Rattle.turtle_grammar.specs.declared.token.TokenKind.{TokenKind}
use Rattle.turtle_grammar.specs.declared.token.TokenKind.TheVariants.{BlankLabel}
use Rattle.turtle_lex.specs.Places.{IsPlace, chars_from, Reads}
use Rattle.turtle_lex.specs.Picks.{all_after, alive, PicksAt}
use Rattle.turtle_lex.specs.Names.{label_start, label, label_dot, prefix, prefix_dot, colon, IsNameEnd, HasDots, HasName}
use Rattle.turtle_lex.proofs.Bodies.{plain_only}
use Rattle.turtle_lex.proofs.Apart.{start_no_digit}
use Rattle.turtle_lex.proofs.Picked.{pick_through, pick_or, pick_none, pick_only, pick_none_last, pick_only_last}

name_no_dot : (c : ℕ) → is_name_char c ≡ true → (c == 46) ≡ false
unfolding is_name_char is_name_start is_name_base is_letter is_digit
name_no_dot c h = plain_only is_name_char c 46 refl h

name_no_colon : (c : ℕ) → is_name_char c ≡ true → (c == 58) ≡ false
unfolding is_name_char is_name_start is_name_base is_letter is_digit
name_no_colon c h = plain_only is_name_char c 58 refl h

label_more_by : (c : ℕ) → is_name_char c ≡ true → (c == 46) ≡ false → alive (all_after c label) ≡ label
label_more_by c h k = rw (h, k) refl

label_dot_more_by : (c : ℕ) → is_name_char c ≡ true → (c == 46) ≡ false → alive (all_after c label_dot) ≡ label
label_dot_more_by c h k = rw (h, k) refl

label_first_dot : alive (all_after 46 label) ≡ label_dot
unfolding is_name_char is_name_start is_name_base is_letter is_digit
label_first_dot = refl

label_next_dot : alive (all_after 46 label_dot) ≡ label_dot
unfolding is_name_char is_name_start is_name_base is_letter is_digit
label_next_dot = refl

label_other : (c : ℕ) → is_name_char c ≡ false → (c == 46) ≡ false → alive (all_after c label) ≡ []
label_other c h k = rw (h, k) refl

label_dot_other : (c : ℕ) → is_name_char c ≡ false → (c == 46) ≡ false → alive (all_after c label_dot) ≡ []
label_dot_other c h k = rw (h, k) refl

prefix_more_by : (c : ℕ) → is_name_char c ≡ true → (c == 46) ≡ false → (c == 58) ≡ false → alive (all_after c prefix) ≡ prefix
prefix_more_by c h k l = rw (h, k, l) refl

prefix_dot_more_by : (c : ℕ) → is_name_char c ≡ true → (c == 46) ≡ false → (c == 58) ≡ false → alive (all_after c prefix_dot) ≡ prefix
prefix_dot_more_by c h k l = rw (h, k) refl

prefix_first_dot : alive (all_after 46 prefix) ≡ prefix_dot
unfolding is_name_char is_name_start is_name_base is_letter is_digit
prefix_first_dot = refl

prefix_next_dot : alive (all_after 46 prefix_dot) ≡ prefix_dot
unfolding is_name_char is_name_start is_name_base is_letter is_digit
prefix_next_dot = refl

prefix_other : (c : ℕ) → is_name_char c ≡ false → (c == 46) ≡ false → (c == 58) ≡ false → alive (all_after c prefix) ≡ []
prefix_other c h k l = rw (h, k, l) refl

prefix_dot_other : (c : ℕ) → is_name_char c ≡ false → (c == 46) ≡ false → alive (all_after c prefix_dot) ≡ []
prefix_dot_other c h k = rw (h, k) refl

pub prefix_colon : alive (all_after 58 prefix) ≡ colon
unfolding is_name_char is_name_start is_name_base is_letter is_digit
prefix_colon = refl

label_begins_by : (c : ℕ) → is_name_start c ≡ true → is_digit c ≡ false → alive (all_after c label_start) ≡ label
label_begins_by c h k = rw (h, k) refl

pub label_begins : (c : ℕ) → is_name_start c ≡ true → alive (all_after c label_start) ≡ label
label_begins c h = label_begins_by c h (start_no_digit c h)

pub label_begins_digit : (c : ℕ) → is_name_start c ≡ false → is_digit c ≡ true → alive (all_after c label_start) ≡ label
label_begins_digit c h k = rw (h, k) refl

pub label_begins_not : (c : ℕ) → is_name_start c ≡ false → is_digit c ≡ false → alive (all_after c label_start) ≡ []
label_begins_not c h k = rw (h, k) refl

-- One more character of a name.
more_found : (text : List ℕ) (last at c next : ℕ) (found : Option (TokenKind × ℕ)) → IsPlace text at → IsPlace text last → Reads text at c next → is_name_char c ≡ true → (last ≡ at) ⊎ HasDots text last at
    → PicksAt prefix text next found → PicksAt prefix text last found
more_found text last at c next found place last_place r h (inl e) k =
    let P : ℕ → Type 0 = λ x. PicksAt prefix text x found in
    subst P (sym e) (pick_through text at c next prefix prefix found place r (prefix_more_by c h (name_no_dot c h) (name_no_colon c h)) refl k)
more_found text last at c next found place last_place r h (inr d) k =
    d.carries found (pick_through text at c next prefix_dot prefix found place r (prefix_dot_more_by c h (name_no_dot c h) (name_no_colon c h)) refl k)

more_label : (text : List ℕ) (last at c next : ℕ) (x : TokenKind × ℕ) → IsPlace text at → Reads text at c next → is_name_char c ≡ true → (last ≡ at) ⊎ HasDots text last at
    → PicksAt label text next (Some x) → PicksAt label text last (Some x)
more_label text last at c next x place r h (inl e) k =
    let P : ℕ → Type 0 = λ y. PicksAt label text y (Some x) in
    subst P (sym e) (pick_or text at c next label label (Some x) (Some x) BlankLabel place r (label_more_by c h (name_no_dot c h)) refl k refl)
more_label text last at c next x place r h (inr d) k =
    d.labels x (pick_through text at c next label_dot label (Some x) place r (label_dot_more_by c h (name_no_dot c h)) refl k)

pub name_more : (text : List ℕ) (from last at c next : ℕ) → HasName text from last at → Reads text at c next → is_name_char c ≡ true → last ≤ at → HasName text from next next
name_more text from last at c next n r h le = record {
  place = r.place;
  last_place = r.place;
  further = omega (arith, r.further, n.further);
  labels = λ x k. n.labels x (more_label text last at c next x n.place r h n.dots k);
  carries = λ found k. n.carries found (more_found text last at c next found n.place n.last_place r h n.dots k);
  dots = inl refl;
}

-- One more dot.
dots_first : (text : List ℕ) (at next : ℕ) → IsPlace text at → Reads text at 46 next → HasDots text at next
dots_first text at next place r = record {
  first = next;
  dot = r;
  label_ends = λ k. pick_or text at 46 next label label_dot None (Some (BlankLabel, at)) BlankLabel place r label_first_dot refl k refl;
  labels = λ x k. pick_or text at 46 next label label_dot (Some x) (Some x) BlankLabel place r label_first_dot refl k refl;
  carries = λ found k. pick_through text at 46 next prefix prefix_dot found place r prefix_first_dot refl k;
}

dots_next : (text : List ℕ) (last at next : ℕ) → IsPlace text at → Reads text at 46 next → HasDots text last at → HasDots text last next
dots_next text last at next place r d = record {
  first = d.first;
  dot = d.dot;
  label_ends = λ k. d.label_ends (pick_through text at 46 next label_dot label_dot None place r label_next_dot refl k);
  labels = λ x k. d.labels x (pick_through text at 46 next label_dot label_dot (Some x) place r label_next_dot refl k);
  carries = λ found k. d.carries found (pick_through text at 46 next prefix_dot prefix_dot found place r prefix_next_dot refl k);
}

dots_more : (text : List ℕ) (last at next : ℕ) → IsPlace text at → Reads text at 46 next → (last ≡ at) ⊎ HasDots text last at → HasDots text last next
dots_more text last at next place r (inl e) = let P : ℕ → Type 0 = λ x. HasDots text x next in subst P (sym e) (dots_first text at next place r)
dots_more text last at next place r (inr d) = dots_next text last at next place r d

pub name_dot : (text : List ℕ) (from last at c next : ℕ) → HasName text from last at → Reads text at c next → c ≡ 46 → HasName text from last next
name_dot text from last at c next n r e =
    let P : ℕ → Type 0 = λ x. Reads text at x next in
    let there : Reads text at 46 next = subst P e r in
    record {
      place = r.place;
      last_place = n.last_place;
      further = n.further;
      labels = n.labels;
      carries = n.carries;
      dots = inr (dots_more text last at next n.place there n.dots);
    }

-- The end of a name.
label_here : (text : List ℕ) (last at : ℕ) → PicksAt label text at (Some (BlankLabel, at)) → PicksAt label_dot text at None → (last ≡ at) ⊎ HasDots text last at → PicksAt label text last (Some (BlankLabel, last))
label_here text last at h k (inl e) = let P : ℕ → Type 0 = λ x. PicksAt label text x (Some (BlankLabel, x)) in subst P (sym e) h
label_here text last at h k (inr d) = d.label_ends k

ends_here : (text : List ℕ) (last at : ℕ) → ((c next : ℕ) → Reads text at c next → c ≢ 58 → PicksAt prefix text at None) → PicksAt prefix_dot text at None → (last ≡ at) ⊎ HasDots text last at
    → (c next : ℕ) → Reads text last c next → c ≢ 58 → PicksAt prefix text last None
ends_here text last at h k (inl e) = let P : ℕ → Type 0 = λ x. (c next : ℕ) → Reads text x c next → c ≢ 58 → PicksAt prefix text x None in subst P (sym e) h
ends_here text last at h k (inr d) = λ c next r no_colon. d.carries None k

same_char : (text : List ℕ) (at c d next upto : ℕ) → Reads text at c next → Reads text at d upto → c ≡ d
same_char text at c d next upto r s = let e = sym r.reads ∙ s.reads in cc

pub name_stops : (text : List ℕ) (from last at c next : ℕ) → HasName text from last at → Reads text at c next → is_name_char c ≡ false → (c == 46) ≡ false → IsNameEnd text from last
name_stops text from last at c next n r h k = record {
  place = n.last_place;
  further = n.further;
  labels = n.labels (BlankLabel, last) (label_here text last at (pick_only text at c next label BlankLabel n.place r (label_other c h k) refl) (pick_none text at c next label_dot n.place r (label_dot_other c h k) refl) n.dots);
  carries = n.carries;
  ends = ends_here text last at
      (λ d upto s no_colon. pick_none text at c next prefix n.place r (prefix_other c h k (ne_eqb c 58 (λ e. no_colon (sym (same_char text at c d next upto r s) ∙ e)))) refl)
      (pick_none text at c next prefix_dot n.place r (prefix_dot_other c h k) refl) n.dots;
}

pub name_ends : (text : List ℕ) (from last at : ℕ) → HasName text from last at → chars_from text at ≡ [] → IsNameEnd text from last
name_ends text from last at n e = record {
  place = n.last_place;
  further = n.further;
  labels = n.labels (BlankLabel, last) (label_here text last at (pick_only_last text at label BlankLabel n.place e refl) (pick_none_last text at label_dot n.place e refl) n.dots);
  carries = n.carries;
  ends = ends_here text last at (λ d upto s no_colon. pick_none_last text at prefix n.place e refl) (pick_none_last text at prefix_dot n.place e refl) n.dots;
}

pub name_begins : (text : List ℕ) (from : ℕ) → IsPlace text from → HasName text from from from
name_begins text from place = record { place = place; last_place = place; further = omega arith; labels = λ x k. k; carries = λ found k. k; dots = inl refl }
