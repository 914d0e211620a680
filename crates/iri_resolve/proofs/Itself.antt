-- A text's components make the text again; with a scheme and a path that keeps its dots they are those of the target.
use Rattle.std.proofs.Common.{◌≡◌, ℕ, ◌+◌, ◌-◌, ◌<◌, ◌≤◌, Bool, true, false, cond, ◌&&◌, nat_lt, List, [], ◌∷◌, ◌++◌, length, take, drop, get_or, Option, None, Some, codes, inl, inr, refl, sym, ◌∙◌, ap, arith}
use Rattle.std.specs.Prelude.{◌==◌, is_some}
use Rattle.std.specs.List.{position_or_len, slice_range}
use Rattle.std.specs.Option.{option_map_or}
use Rattle.std.proofs.lemmas.Bool.{eqb-true, cases_lt}
use Rattle.std.proofs.lemmas.Bool.Decides.{nat_tests}
use Rattle.std.proofs.lemmas.List.{append-nil, append_assoc, take-append-drop, get_or-drop, get_or_past, length-drop, drop_more, drop_all, drop-drop}
use Rattle.std.proofs.lemmas.List.Sums.{passes_at_first}
use Rattle.std.proofs.lemmas.List.Folds.{drop_split}
use Rattle.iri_resolve.specs.Components.{ends_scheme, ends_authority, ends_path, ends_query, end_from, end_or, scheme_of, after_scheme, authority_from, path_start, path_end, query_from, query_of, fragment_from, part_at, Components, components}
use Rattle.iri_resolve.specs.Dots.{begins, without_dots}
use Rattle.iri_resolve.specs.Target.{marked, scheme_text, recomposed, resolved}
use Rattle.iri_resolve.proofs.Utf8.{and_true}

-- a character other than 0 stands in the text, before the rest of it
stands : (text : List ℕ) (at c : ℕ) → 0 < c → get_or text at 0 ≡ c → at < length text
stands text at c some is = elim (cases_lt at (length text)) [
  | inl less ↦ less
  | inr past ↦ absurd (let none = get_or_past text at 0 past in omega (arith, none, is))
]

mark_then : (text : List ℕ) (at c : ℕ) → 0 < c → get_or text at 0 ≡ c → drop at text ≡ c ∷ drop (at + 1) text
mark_then text at c some is = drop_more text at 0 (stands text at c some is) ∙ ap (λ x. x ∷ drop (at + 1) text) is

front_then : (front text : List ℕ) → begins text front ≡ true → text ≡ front ++ drop (length front) text
front_then [] text h = refl
front_then (f ∷ front) [] h = cc
front_then (f ∷ front) (c ∷ text) h =
    ap (λ x. x ∷ text) (sym (eqb-true f c (and_true _ _ h).0)) ∙ ap (λ rest. f ∷ rest) (front_then front text (and_true _ _ h).1)

-- where a search ends, the text ends or the test passes
end_passes : (test : ℕ → Bool) (text : List ℕ) (from : ℕ) → end_from test text from < length text → test (get_or text (end_from test text from) 0) ≡ true
end_passes test text from less =
    let size = length-drop from text in
    let within : position_or_len test (drop from text) < length (drop from text) = omega (arith, size) in
    ap test (sym (get_or-drop from text (position_or_len test (drop from text)) 0)) ∙ passes_at_first test (drop from text) 0 within

-- a part with its mark, before what follows the part
scheme_then : (text : List ℕ) (end : ℕ) (test : Bool) → (test ≡ true → get_or text end 0 ≡ 58)
    → scheme_text (part_at text (cond test (Some (0, end)) None)) ++ drop (option_map_or (λ (scheme : ℕ × ℕ). scheme.1 + 1) (cond test (Some (0, end)) None) 0) text ≡ text
scheme_then text end false mark = refl
scheme_then text end true mark =
    let whole : end - 0 ≡ end = omega arith in
    append_assoc (slice_range text 0 end) (codes ":") (drop (end + 1) text)
    ∙ ap (λ back. slice_range text 0 end ++ back) (sym (mark_then text end 58 (omega arith) (mark refl)))
    ∙ ap (λ n. take n text ++ drop end text) whole
    ∙ take-append-drop end text

part_then : (mark text : List ℕ) (at start end : ℕ) (test : Bool) → (test ≡ true → drop at text ≡ mark ++ drop start text) → (test ≡ true → start ≤ end)
    → marked mark (part_at text (cond test (Some (start, end)) None)) ++ drop (end_or (cond test (Some (start, end)) None) at) text ≡ drop at text
part_then mark text at start end false begin order = refl
part_then mark text at start end true begin order =
    append_assoc mark (slice_range text start end) (drop end text)
    ∙ ap (λ back. mark ++ back) (sym (drop_split text start end (order refl)))
    ∙ sym (begin refl)

-- after the path and the query, a fragment or the end
query_ends : (text : List ℕ) (at : ℕ) (test : Bool) → (get_or text at 0 == 63) ≡ test → (at < length text → ends_path (get_or text at 0) ≡ true)
    → (let end = end_or (cond test (Some (at + 1, end_from ends_query text (at + 1))) None) at in end < length text → get_or text end 0 ≡ 35)
query_ends text at true is ends = λ less. eqb-true _ 35 (end_passes ends_query text (at + 1) less)
query_ends text at false is ends = λ less. let mark = ends less in grind (arith, nat_tests)

fragment_ends : (text : List ℕ) (at : ℕ) (test : Bool) → (get_or text at 0 == 35) ≡ test → (at < length text → get_or text at 0 ≡ 35)
    → drop (end_or (cond test (Some (at + 1, length text)) None) at) text ≡ []
fragment_ends text at true is ends = drop_all (length text) text (omega arith)
fragment_ends text at false is ends = elim (cases_lt at (length text)) [
  | inl less ↦ absurd (let mark = ends less in grind (arith, nat_tests))
  | inr past ↦ drop_all at text past
]

joined : (scheme authority path query fragment first second third fourth text : List ℕ) → scheme ++ first ≡ text → authority ++ second ≡ first
    → path ++ third ≡ second → query ++ fourth ≡ third → fragment ≡ fourth → scheme ++ authority ++ path ++ query ++ fragment ≡ text
joined scheme authority path query fragment first second third fourth text s a p q f =
    ap (λ back. scheme ++ authority ++ path ++ query ++ back) f
    ∙ append_assoc (scheme ++ authority ++ path) query fourth
    ∙ ap (λ back. scheme ++ authority ++ path ++ back) q
    ∙ append_assoc (scheme ++ authority) path third
    ∙ ap (λ back. scheme ++ authority ++ back) p
    ∙ append_assoc scheme authority second
    ∙ ap (λ back. scheme ++ back) a
    ∙ s

-- the parts of a text, each before what follows it
scheme_again : (text : List ℕ) → scheme_text (part_at text (scheme_of text)) ++ drop (after_scheme text) text ≡ text
scheme_again text =
    let end = position_or_len ends_scheme text in
    scheme_then text end (nat_lt 0 end && (get_or text end 0 == 58)) (λ e. eqb-true _ 58 (and_true _ _ e).1)

authority_again : (text : List ℕ) (at : ℕ) → marked (codes "//") (part_at text (authority_from text at)) ++ drop (end_or (authority_from text at) at) text ≡ drop at text
authority_again text at =
    part_then (codes "//") text at (at + 2) (end_from ends_authority text (at + 2)) (begins (drop at text) (codes "//"))
    (λ e. front_then (codes "//") (drop at text) e ∙ ap (λ back. codes "//" ++ back) (drop-drop 2 at text)) (λ e. omega arith)

query_again : (text : List ℕ) (at : ℕ) → marked (codes "?") (part_at text (query_from text at)) ++ drop (end_or (query_from text at) at) text ≡ drop at text
query_again text at =
    part_then (codes "?") text at (at + 1) (end_from ends_query text (at + 1)) (get_or text at 0 == 63)
    (λ e. mark_then text at 63 (omega arith) (eqb-true _ 63 e)) (λ e. omega arith)

fragment_again : (text : List ℕ) (at : ℕ) → (at < length text → get_or text at 0 ≡ 35) → marked (codes "#") (part_at text (fragment_from text at)) ≡ drop at text
fragment_again text at ends =
    sym (append-nil _) ∙ ap (λ back. marked (codes "#") (part_at text (fragment_from text at)) ++ back) (sym (fragment_ends text at _ refl ends))
    ∙ part_then (codes "#") text at (at + 1) (length text) (get_or text at 0 == 35) (λ e. mark_then text at 35 (omega arith) (eqb-true _ 35 e))
    (λ e. let less = stands text at 35 (omega arith) (eqb-true _ 35 e) in omega (arith, less))

-- the components of any text, put together, are the text
pub recomposed-components : (text : List ℕ) → recomposed (components text) ≡ text
recomposed-components text =
    let query_end = end_or (query_of text) (path_end text) in
    joined _ _ _ _ _ (drop (after_scheme text) text) (drop (path_start text) text) (drop (path_end text) text) (drop query_end text) text
    (scheme_again text)
    (authority_again text (after_scheme text))
    (sym (drop_split text (path_start text) (path_end text) (omega arith)))
    (query_again text (path_end text))
    (fragment_again text query_end (query_ends text (path_end text) _ refl (end_passes ends_path text (path_start text))))

-- section 5.2.2 for a reference with a scheme
kept : (test : Bool) (own other : Components) → test ≡ true → cond test own other ≡ own
kept true own other h = refl
kept false own other h = cc

some_part : (text : List ℕ) (place : Option (ℕ × ℕ)) → is_some place ≡ true → is_some (part_at text place) ≡ true
some_part text None h = h
some_part text (Some span) h = refl

-- a reference with a scheme and a path that keeps its dots names itself
pub resolved-itself : (reference : List ℕ) → is_some (scheme_of reference) ≡ true → without_dots (components reference).path ≡ (components reference).path
    → (base : List ℕ) → resolved base reference ≡ reference
resolved-itself reference scheme path base =
    let own = components reference in
    ap recomposed (kept (is_some own.scheme) _ _ (some_part reference (scheme_of reference) scheme) ∙ ap (λ p. record own { path = p }) path)
    ∙ recomposed-components reference
