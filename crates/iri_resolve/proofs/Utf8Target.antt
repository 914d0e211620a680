-- The text that a reference names is UTF-8 where the base and the reference are.
use Rattle.std.proofs.Common.{◌≡◌, ℕ, zero, suc, ◌+◌, ◌<◌, ◌≤◌, Bool, true, false, cond, nat_lt, List, [], ◌∷◌, length, drop, get_or, Option, None, Some, IfSome, codes, refl, arith, IsUtf8}
use Rattle.std.specs.Prelude.{◌==◌}
use Rattle.std.specs.List.{position_or_len, list_all}
use Rattle.std.specs.Option.{option_map_or}
use Rattle.std.specs.Str.{IsAscii, IsCharBoundary}
use Rattle.std.proofs.lemmas.Bool.{ltb-true, ltb-false, eqb-true}
use Rattle.std.proofs.lemmas.Bool.Decides.{nat_tests}
use Rattle.std.proofs.lemmas.List.{get_or_past}
use Rattle.std.proofs.lemmas.List.Sums.{passes_at_first, prefix_len-le-length}
use Rattle.std.proofs.lemmas.Str.{IsUtf8-nil, IsUtf8-append, IsUtf8-drop, IsUtf8-take, IsUtf8-between, IsUtf8-from_ascii, IsCharBoundary-start, IsCharBoundary-end, IsCharBoundary-after_ascii, IsCharBoundary-from_rest, IsCharBoundary-from_drop}
use Rattle.iri_resolve.specs.Components.{ends_scheme, ends_authority, ends_path, ends_query, end_from, end_or, scheme_of, after_scheme, authority_from, authority_of, path_start, path_end, query_from, query_of, fragment_from, fragment_of, part_at, Components, components}
use Rattle.iri_resolve.specs.Dots.{is_slash, begins, is_whole, segment_len, turn, turns, without_dots}
use Rattle.iri_resolve.specs.Target.{directory, merged, transformed, marked, scheme_text, recomposed, resolved}
use Rattle.iri_resolve.proofs.Utf8.{IsAsciiTest, boundary, boundary_at_first, and_true, begins-le, IsUtf8-past_front, IsUtf8-directory, IsUtf8-without_last}

-- ASCII characters alone
is_ascii : (text : List ℕ) → list_all (λ c. nat_lt c 128) text ≡ true → IsAscii text
is_ascii [] h i = omega arith
is_ascii (c ∷ text) h zero = ltb-true c 128 (and_true _ _ h).0
is_ascii (c ∷ text) h (suc i) = is_ascii text (and_true _ _ h).1 i

ascii : (text : List ℕ) → list_all (λ c. nat_lt c 128) text ≡ true → IsUtf8 text
ascii text h = IsUtf8-from_ascii text (is_ascii text h)

-- `/` before a text
slash_and : (rest : List ℕ) → IsUtf8 rest → IsUtf8 (47 ∷ rest)
slash_and rest h = IsUtf8-append (47 ∷ []) rest (ascii (47 ∷ []) refl) h

-- 5.2.4: a turn leaves UTF-8 in both buffers
record Both (buffers : List ℕ × List ℕ) : Type 0 where
  input : IsUtf8 buffers.0
  output : IsUtf8 buffers.1

branch : (test : Bool) (x y : List ℕ × List ℕ) → (test ≡ true → Both x) → Both y → Both (cond test x y)
branch true x y left right = left refl
branch false x y left right = right

segment_boundary : (c : ℕ) (rest : List ℕ) → IsCharBoundary (c ∷ rest) (segment_len (c ∷ rest))
segment_boundary c rest =
    let within : position_or_len is_slash rest ≤ length rest = prefix_len-le-length _ rest in
    boundary (c ∷ rest) (suc (position_or_len is_slash rest)) (omega arith)
    (λ less. let e = eqb-true _ 47 (passes_at_first is_slash rest 0 (omega arith)) in omega (arith, e))

turn_utf8 : (c : ℕ) (rest output : List ℕ) → IsUtf8 (c ∷ rest) → IsUtf8 output → Both (turn (c ∷ rest) output)
turn_utf8 c rest output h o =
    branch (begins (c ∷ rest) (codes "../")) _ _ (λ e. record { input = IsUtf8-past_front (codes "../") (c ∷ rest) refl e h; output = o })
    (branch (begins (c ∷ rest) (codes "./")) _ _ (λ e. record { input = IsUtf8-past_front (codes "./") (c ∷ rest) refl e h; output = o })
    (branch (begins (c ∷ rest) (codes "/./")) _ _ (λ e. record { input = slash_and _ (IsUtf8-past_front (codes "/./") (c ∷ rest) refl e h); output = o })
    (branch (is_whole (c ∷ rest) (codes "/.")) _ _ (λ e. record { input = slash_and [] IsUtf8-nil; output = o })
    (branch (begins (c ∷ rest) (codes "/../")) _ _ (λ e. record { input = slash_and _ (IsUtf8-past_front (codes "/../") (c ∷ rest) refl e h); output = IsUtf8-without_last output o })
    (branch (is_whole (c ∷ rest) (codes "/..")) _ _ (λ e. record { input = slash_and [] IsUtf8-nil; output = IsUtf8-without_last output o })
    (branch (is_whole (c ∷ rest) (codes ".")) _ _ (λ e. record { input = IsUtf8-nil; output = o })
    (branch (is_whole (c ∷ rest) (codes "..")) _ _ (λ e. record { input = IsUtf8-nil; output = o })
    (record {
      input = IsUtf8-drop (c ∷ rest) (segment_len (c ∷ rest)) h (segment_boundary c rest);
      output = IsUtf8-append output _ o (IsUtf8-take (c ∷ rest) (segment_len (c ∷ rest)) h (segment_boundary c rest));
    }))))))))

turns_utf8 : (n : ℕ) (input output : List ℕ) → IsUtf8 input → IsUtf8 output → IsUtf8 (turns n input output)
turns_utf8 zero input output h o = o
turns_utf8 (suc n) [] output h o = o
turns_utf8 (suc n) (c ∷ rest) output h o =
    let both = turn_utf8 c rest output h o in
    turns_utf8 n (turn (c ∷ rest) output).0 (turn (c ∷ rest) output).1 both.input both.output

dots_utf8 : (path : List ℕ) → IsUtf8 path → IsUtf8 (without_dots path)
dots_utf8 path h = turns_utf8 (length path) path [] h IsUtf8-nil

-- appendix B: every component is UTF-8
record AreUtf8 (c : Components) : Type 0 where
  scheme : IfSome c.scheme IsUtf8
  authority : IfSome c.authority IsUtf8
  path : IsUtf8 c.path
  query : IfSome c.query IsUtf8
  fragment : IfSome c.fragment IsUtf8

-- a place whose ends are those of characters
record IsCut (text : List ℕ) (span : ℕ × ℕ) : Type 0 where
  order : span.0 ≤ span.1
  start : IsCharBoundary text span.0
  end : IsCharBoundary text span.1

cut_utf8 : (text : List ℕ) → IsUtf8 text → (place : Option (ℕ × ℕ)) → IfSome place (IsCut text) → IfSome (part_at text place) IsUtf8
cut_utf8 text h None cut = tt
cut_utf8 text h (Some span) cut = IsUtf8-between text span.0 span.1 h cut.order cut.start cut.end

cut_if : (text : List ℕ) (test : Bool) (span : ℕ × ℕ) → (test ≡ true → IsCut text span) → IfSome (cond test (Some span) None) (IsCut text)
cut_if text true span h = h refl
cut_if text false span h = tt

end_cut : (text : List ℕ) (place : Option (ℕ × ℕ)) (at : ℕ) → IfSome place (IsCut text) → IsCharBoundary text at → IsCharBoundary text (end_or place at)
end_cut text None at cut b = b
end_cut text (Some span) at cut b = cut.end

from_cut : (test : ℕ → Bool) → IsAsciiTest test → (text : List ℕ) (from : ℕ) → IsCharBoundary text from → IsCharBoundary text (end_from test text from)
from_cut test only text from b = IsCharBoundary-from_rest text from (position_or_len test (drop from text)) b.0 (boundary_at_first test only (drop from text))

-- the tests of the marks
scheme_marks : IsAsciiTest ends_scheme
scheme_marks = record { ascii = λ c h. grind (arith, nat_tests) }

authority_marks : IsAsciiTest ends_authority
authority_marks = record { ascii = λ c h. grind (arith, nat_tests) }

path_marks : IsAsciiTest ends_path
path_marks = record { ascii = λ c h. grind (arith, nat_tests) }

query_marks : IsAsciiTest ends_query
query_marks = record { ascii = λ c h. grind (arith, nat_tests) }

-- after a mark
mark_by : (text : List ℕ) → IsUtf8 text → (i c : ℕ) → get_or text i 0 ≡ c → 0 < c → c < 128 → (found : Bool) → nat_lt i (length text) ≡ found → IsCharBoundary text (i + 1)
mark_by text h i c is some low true e = IsCharBoundary-after_ascii text i h (ltb-true _ _ e) (omega arith)
mark_by text h i c is some low false e = absurd (let past = get_or_past text i 0 (ltb-false _ _ e) in omega (arith, past))

after_mark : (text : List ℕ) → IsUtf8 text → (i c : ℕ) → (get_or text i 0 == c) ≡ true → 0 < c → c < 128 → IsCharBoundary text (i + 1)
after_mark text h i c is some low = mark_by text h i c (eqb-true _ c is) some low (nat_lt i (length text)) refl

scheme_cut : (text : List ℕ) → IsUtf8 text → IfSome (scheme_of text) (IsCut text)
scheme_cut text h =
    cut_if text _ _ (λ e. record { order = omega arith; start = IsCharBoundary-start text h; end = boundary_at_first ends_scheme scheme_marks text })

after_if : (text : List ℕ) (test : Bool) (end : ℕ) → (test ≡ true → IsCharBoundary text (end + 1)) → IsCharBoundary text 0
    → IsCharBoundary text (option_map_or (λ (scheme : ℕ × ℕ). scheme.1 + 1) (cond test (Some (0, end)) None) 0)
after_if text true end h z = h refl
after_if text false end h z = z

after_scheme_cut : (text : List ℕ) → IsUtf8 text → IsCharBoundary text (after_scheme text)
after_scheme_cut text h =
    after_if text _ _ (λ e. after_mark text h (position_or_len ends_scheme text) 58 (and_true _ _ e).1 (omega arith) (omega arith)) (IsCharBoundary-start text h)

authority_cut : (text : List ℕ) (at : ℕ) → IsUtf8 text → IsCharBoundary text at → IfSome (authority_from text at) (IsCut text)
authority_cut text at h b = cut_if text _ _ (λ e.
    let rest = IsUtf8-drop text at h b in
    let start = IsCharBoundary-from_rest text at 2 b.0 (IsCharBoundary-from_drop (drop at text) 2 (begins-le (codes "//") (drop at text) e) (IsUtf8-past_front (codes "//") (drop at text) refl e rest)) in
    record { order = omega arith; start = start; end = from_cut ends_authority authority_marks text (at + 2) start })

path_start_cut : (text : List ℕ) → IsUtf8 text → IsCharBoundary text (path_start text)
path_start_cut text h =
    end_cut text (authority_of text) (after_scheme text) (authority_cut text (after_scheme text) h (after_scheme_cut text h)) (after_scheme_cut text h)

path_end_cut : (text : List ℕ) → IsUtf8 text → IsCharBoundary text (path_end text)
path_end_cut text h = from_cut ends_path path_marks text (path_start text) (path_start_cut text h)

query_cut : (text : List ℕ) (at : ℕ) → IsUtf8 text → IfSome (query_from text at) (IsCut text)
query_cut text at h = cut_if text _ _ (λ e.
    let start = after_mark text h at 63 e (omega arith) (omega arith) in
    record { order = omega arith; start = start; end = from_cut ends_query query_marks text (at + 1) start })

fragment_cut : (text : List ℕ) (at : ℕ) → IsUtf8 text → IfSome (fragment_from text at) (IsCut text)
fragment_cut text at h = cut_if text _ _ (λ e.
    let start = after_mark text h at 35 e (omega arith) (omega arith) in
    record { order = start.0; start = start; end = IsCharBoundary-end text })

components_utf8 : (text : List ℕ) → IsUtf8 text → AreUtf8 (components text)
components_utf8 text h = record {
  scheme = cut_utf8 text h (scheme_of text) (scheme_cut text h);
  authority = cut_utf8 text h (authority_of text) (authority_cut text (after_scheme text) h (after_scheme_cut text h));
  path = IsUtf8-between text (path_start text) (path_end text) h (omega arith) (path_start_cut text h) (path_end_cut text h);
  query = cut_utf8 text h (query_of text) (query_cut text (path_end text) h);
  fragment = cut_utf8 text h (fragment_of text) (fragment_cut text (end_or (query_of text) (path_end text)) h);
}

-- 5.2.3
pick_text : (test : Bool) (x y : List ℕ) → IsUtf8 x → IsUtf8 y → IsUtf8 (cond test x y)
pick_text true x y left right = left
pick_text false x y left right = right

merged_utf8 : (base : Components) (path : List ℕ) → AreUtf8 base → IsUtf8 path → IsUtf8 (merged base path)
merged_utf8 base path b h = pick_text _ _ _ (slash_and path h) (IsUtf8-append (directory base.path) path (IsUtf8-directory base.path b.path) h)

-- 5.2.2
pick_part : (test : Bool) (x y : Option (List ℕ)) → IfSome x IsUtf8 → IfSome y IsUtf8 → IfSome (cond test x y) IsUtf8
pick_part true x y left right = left
pick_part false x y left right = right

pick : (test : Bool) (x y : Components) → AreUtf8 x → AreUtf8 y → AreUtf8 (cond test x y)
pick true x y left right = left
pick false x y left right = right

transformed_utf8 : (base reference : Components) → AreUtf8 base → AreUtf8 reference → AreUtf8 (transformed base reference)
transformed_utf8 base reference b r =
    let own = dots_utf8 reference.path r.path in
    pick _ _ _ (record { scheme = r.scheme; authority = r.authority; path = own; query = r.query; fragment = r.fragment })
    (pick _ _ _ (record { scheme = b.scheme; authority = r.authority; path = own; query = r.query; fragment = r.fragment })
    (pick _ _ _ (record { scheme = b.scheme; authority = b.authority; path = b.path; query = pick_part _ _ _ r.query b.query; fragment = r.fragment })
    (record {
      scheme = b.scheme;
      authority = b.authority;
      path = dots_utf8 _ (pick_text _ _ _ r.path (merged_utf8 base reference.path b r.path));
      query = r.query;
      fragment = r.fragment;
    })))

-- 5.3
marked_utf8 : (mark : List ℕ) (part : Option (List ℕ)) → IsUtf8 mark → IfSome part IsUtf8 → IsUtf8 (marked mark part)
marked_utf8 mark None m h = IsUtf8-nil
marked_utf8 mark (Some part) m h = IsUtf8-append mark part m h

scheme_utf8 : (part : Option (List ℕ)) → IfSome part IsUtf8 → IsUtf8 (scheme_text part)
scheme_utf8 None h = IsUtf8-nil
scheme_utf8 (Some part) h = IsUtf8-append part (codes ":") h (ascii (codes ":") refl)

recomposed_utf8 : (c : Components) → AreUtf8 c → IsUtf8 (recomposed c)
recomposed_utf8 c h =
    IsUtf8-append _ _ (IsUtf8-append _ _ (IsUtf8-append _ _ (IsUtf8-append _ _ (scheme_utf8 c.scheme h.scheme)
    (marked_utf8 (codes "//") c.authority (ascii (codes "//") refl) h.authority)) h.path)
    (marked_utf8 (codes "?") c.query (ascii (codes "?") refl) h.query))
    (marked_utf8 (codes "#") c.fragment (ascii (codes "#") refl) h.fragment)

pub IsUtf8-resolved : (base reference : List ℕ) → IsUtf8 base → IsUtf8 reference → IsUtf8 (resolved base reference)
IsUtf8-resolved base reference b r =
    recomposed_utf8 _ (transformed_utf8 _ _ (components_utf8 base b) (components_utf8 reference r))
