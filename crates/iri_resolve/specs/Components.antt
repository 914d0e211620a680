-- The components of a URI reference, as the expression of RFC 3986, appendix B, finds them:
--   ^(([^:/?#]+):)?(//([^/?#]*))?([^?#]*)(\?([^#]*))?(#(.*))?
use Rattle.std.specs.Prelude.{ℕ, ◌+◌, ◌≤◌, Bool, ◌||◌, ◌&&◌, ◌==◌, nat_eq, nat_lt, List, length, drop, Option, None, Some, IfSome, codes, slice_index, slice_range, if◌then◌else◌}
use Rattle.std.specs.List.{position_or_len, starts_with}
use Rattle.std.specs.Option.{option_map, option_map_or}
use Rattle.iri_resolve.specs.declared.parts.Parts.{Parts}

-- `:`, `/`, `?` or `#`, at which a scheme ends
abbrev pub ends_scheme : ℕ → Bool
ends_scheme c = c == 58 || c == 47 || c == 63 || c == 35

-- `/`, `?` or `#`, at which an authority ends
abbrev pub ends_authority : ℕ → Bool
ends_authority c = c == 47 || c == 63 || c == 35

-- `?` or `#`, at which a path ends
abbrev pub ends_path : ℕ → Bool
ends_path c = c == 63 || c == 35

-- `#`, at which a query ends
abbrev pub ends_query : ℕ → Bool
ends_query c = c == 35

-- the first place from a place on that passes the test, or the end of the text
abbrev pub end_from : (ℕ → Bool) → List ℕ → ℕ → ℕ
end_from ends text from = from + position_or_len ends (drop from text)

-- `(([^:/?#]+):)?`: what stands before the first `:`, if that isn't empty and has none of the other marks
abbrev pub scheme_of : List ℕ → Option (ℕ × ℕ)
scheme_of text =
    let end = position_or_len ends_scheme text in
    if nat_lt 0 end && (slice_index text end == 58) then Some (0, end) else None

-- `(//([^/?#]*))?`: what follows a `//` at the place
abbrev pub authority_from : List ℕ → ℕ → Option (ℕ × ℕ)
authority_from text at =
    if starts_with nat_eq (drop at text) (codes "//") then Some (at + 2, end_from ends_authority text (at + 2)) else None

-- `(\?([^#]*))?`: what follows a `?` at the place
abbrev pub query_from : List ℕ → ℕ → Option (ℕ × ℕ)
query_from text at = if slice_index text at == 63 then Some (at + 1, end_from ends_query text (at + 1)) else None

-- `(#(.*))?`: all that follows a `#` at the place
abbrev pub fragment_from : List ℕ → ℕ → Option (ℕ × ℕ)
fragment_from text at = if slice_index text at == 35 then Some (at + 1, length text) else None

-- where a component ends, or the place itself if there is none
abbrev pub end_or : Option (ℕ × ℕ) → ℕ → ℕ
end_or part at = option_map_or (λ span. span.1) part at

-- the place after the scheme and its `:`
abbrev pub after_scheme : List ℕ → ℕ
after_scheme text = option_map_or (λ scheme. scheme.1 + 1) (scheme_of text) 0

abbrev pub authority_of : List ℕ → Option (ℕ × ℕ)
authority_of text = authority_from text (after_scheme text)

-- `([^?#]*)`: the path, which is always there and may be empty
abbrev pub path_start : List ℕ → ℕ
path_start text = end_or (authority_of text) (after_scheme text)

abbrev pub path_end : List ℕ → ℕ
path_end text = end_from ends_path text (path_start text)

abbrev pub query_of : List ℕ → Option (ℕ × ℕ)
query_of text = query_from text (path_end text)

abbrev pub fragment_of : List ℕ → Option (ℕ × ℕ)
fragment_of text = fragment_from text (end_or (query_of text) (path_end text))

-- where the components of a text lie
abbrev pub parts_of : List ℕ → Parts
parts_of text = record {
  scheme = scheme_of text;
  authority = authority_of text;
  path = Some (path_start text, path_end text);
  query = query_of text;
  fragment = fragment_of text;
}

-- the bytes of a component, if it is there
abbrev pub part_at : List ℕ → Option (ℕ × ℕ) → Option (List ℕ)
part_at text place = option_map (λ span. slice_range text span.0 span.1) place

-- a component's place lies in the text
abbrev pub IsWithin : List ℕ → Option (ℕ × ℕ) → Type 0
IsWithin text place = IfSome place (λ span. (span.0 ≤ span.1) × (span.1 ≤ length text))

-- the places of all components lie in the text
pub record AreWithin (text : List ℕ) (parts : Parts) : Type 0 where
  pub scheme : IsWithin text parts.scheme
  pub authority : IsWithin text parts.authority
  pub path : IsWithin text parts.path
  pub query : IsWithin text parts.query
  pub fragment : IsWithin text parts.fragment

-- a reference by its components; one that isn't there is undefined, which differs from an empty one (section 5.3)
pub record Components : Type 0 where
  pub scheme : Option (List ℕ)
  pub authority : Option (List ℕ)
  pub path : List ℕ
  pub query : Option (List ℕ)
  pub fragment : Option (List ℕ)

-- the components of a text
abbrev pub components : List ℕ → Components
components text = record {
  scheme = part_at text (scheme_of text);
  authority = part_at text (authority_of text);
  path = slice_range text (path_start text) (path_end text);
  query = part_at text (query_of text);
  fragment = part_at text (fragment_of text);
}
