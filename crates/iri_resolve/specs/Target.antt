-- RFC 3986, section 5: the text that a reference names, seen from a base.
use Rattle.std.specs.Prelude.{ℕ, ◌-◌, ◌&&◌, ◌==◌, not, List, [], ◌∷◌, ◌++◌, length, take, Option, None, Some, is_some, codes, if◌then◌else◌}
use Rattle.std.specs.List.{suffix_len}
use Rattle.iri_resolve.specs.Components.{Components, components}
use Rattle.iri_resolve.specs.Dots.{is_slash, begins, without_dots}

-- a path up to its last `/`, or nothing where it has none
abbrev pub directory : List ℕ → List ℕ
directory path = take (length path - suffix_len (λ c. not (is_slash c)) path) path

-- section 5.2.3: a relative path after the directory of the base
abbrev pub merged : Components → List ℕ → List ℕ
merged base path =
    if is_some base.authority && (length base.path == 0) then 47 ∷ path else directory base.path ++ path

-- section 5.2.2, in its strict form
abbrev pub transformed : Components → Components → Components
transformed base reference =
    if is_some reference.scheme then record reference { path = without_dots reference.path } else
    if is_some reference.authority then record reference { scheme = base.scheme; path = without_dots reference.path } else
    if length reference.path == 0 then record base {
      query = (if is_some reference.query then reference.query else base.query);
      fragment = reference.fragment;
    } else record reference {
      scheme = base.scheme;
      authority = base.authority;
      path = without_dots (if begins reference.path (codes "/") then reference.path else merged base reference.path);
    }

-- a component after its mark, or nothing where it is undefined
abbrev pub marked : List ℕ → Option (List ℕ) → List ℕ
marked mark None = []
marked mark (Some part) = mark ++ part

-- a scheme before its `:`
abbrev pub scheme_text : Option (List ℕ) → List ℕ
scheme_text None = []
scheme_text (Some scheme) = scheme ++ codes ":"

-- section 5.3: the text of the components
abbrev pub recomposed : Components → List ℕ
recomposed c =
    scheme_text c.scheme ++ marked (codes "//") c.authority ++ c.path ++ marked (codes "?") c.query ++ marked (codes "#") c.fragment

-- the text that a reference names, seen from a base
abbrev pub resolved : List ℕ → List ℕ → List ℕ
resolved base reference = recomposed (transformed (components base) (components reference))
