-- The files of a bundle: how they are named, and by whom.
use Rattle.std.specs.Prelude.{ℕ, Bool, ◌&&◌, ◌==◌, not, nat_eq, List, [], ◌∷◌, ◌++◌, drop, length, filter, Option, None, Some, if◌then◌else◌, codes, decimal}
use Rattle.std.specs.List.{list_any, list_all, filter_map, starts_with, slice_split}
use Rattle.std.specs.Str.{is_utf8, bytes_eq}
use Rattle.percent_encoding.specs.Percent.{percent_decode}
use Rattle.plugin_decl.specs.Objects.{is_a}
use Rattle.vocabulary.specs.Words.{iri_of}
use Rattle.vocabulary.specs.declared.word.Word.TheVariants.{Lv2Plugin, RdfsSeeAlso}
use Rattle.triple_store.specs.Triples.{agrees, same_term}
use Rattle.triple_store.specs.declared.term.Term.{Term}
use Rattle.triple_store.specs.declared.term.Term.TheVariants.{Iri}
use Rattle.triple_store.specs.declared.term.Triple.{Triple}

-- the file that every bundle has
abbrev pub manifest : List ℕ
manifest = codes "manifest.ttl"

-- the path of a bundle's file in the vault
abbrev pub path_of : List ℕ → List ℕ → List ℕ
path_of bundle name = bundle ++ (codes "/" ++ name)

-- the IRI of the folder of the bundle with this number, and of a file in it
abbrev pub folder_iri : ℕ → List ℕ
folder_iri number = codes "file:///bundle/" ++ (decimal number ++ codes "/")

abbrev pub file_iri : ℕ → List ℕ → List ℕ
file_iri number name = folder_iri number ++ name

-- a segment of a path that names a file or a folder in the folder before it
abbrev pub is_segment : List ℕ → Bool
is_segment segment = not (bytes_eq segment []) && (not (bytes_eq segment (codes ".")) && not (bytes_eq segment (codes "..")))

-- a name stays within the bundle: it is UTF-8, has no zero byte, and between its `/` no segment leads elsewhere
unfoldable pub is_inside : List ℕ → Bool
is_inside name = is_utf8 name && (not (list_any (λ c. c == 0) name) && list_all is_segment (slice_split (λ c. c == 47) name))

-- a name that stays within the bundle, or none
abbrev pub inside : List ℕ → Option (List ℕ)
inside name = if is_inside name then Some name else None

-- an IRI has neither a query nor a fragment: no `?` and no `#`
abbrev pub is_bare : List ℕ → Bool
is_bare iri = not (list_any (λ c. c == 63) iri) && not (list_any (λ c. c == 35) iri)

-- The file that an IRI names in the folder with this IRI, if it names one: by what stands after the folder's IRI, its escapes
-- decoded (RFC 3986, 2.1).
unfoldable pub file_named : List ℕ → List ℕ → Option (List ℕ)
file_named folder iri =
    if starts_with nat_eq iri folder && is_bare iri then inside (percent_decode (drop (length folder) iri)) else None

abbrev pub see_also : Term
see_also = Iri (iri_of RdfsSeeAlso)

-- the file that an object names
abbrev pub file_by : List ℕ → Term → Option (List ℕ)
file_by folder (Iri iri) = file_named folder iri
file_by folder other = None

-- the subject of a row
abbrev pub subject : Triple → Term
subject row = row.s

-- the file that a row names, if its subject is one of these plug-ins
abbrev pub file_of : List Term → List ℕ → Triple → Option (List ℕ)
file_of plugins folder row = if list_any (same_term row.s) plugins then file_by folder row.o else None

-- the file that a row names, if its subject is a plug-in
abbrev pub file_at : List ℕ → List Triple → Triple → Option (List ℕ)
file_at folder rows row = if is_a rows row.s Lv2Plugin then file_by folder row.o else None

-- a name after those before it, unless it is one of them
abbrev pub joined : List (List ℕ) → Option (List ℕ) → List (List ℕ)
joined before None = before
joined before (Some name) = if list_any (bytes_eq name) before then before else before ++ name ∷ []

-- each name once, but none that was there before
abbrev pub each_once : List (List ℕ) → List (List ℕ) → List (List ℕ)
each_once before [] = []
each_once before (name ∷ names) =
    if list_any (bytes_eq name) before then each_once before names else name ∷ each_once (before ++ name ∷ []) names

-- the files that a manifest's rows name, in this order, each once
unfoldable pub files_named : ℕ → List Triple → List (List ℕ)
files_named number rows =
    each_once (manifest ∷ []) (filter_map (file_at (folder_iri number) rows) (filter (agrees None (Some see_also) None) rows))
