-- What is declared of a plug-in: each field by the triples whose subject is its URI (LV2 core, worker, state and patch; DOAP).
use Rattle.std.specs.Prelude.{ℕ, Bool, ◌&&◌, ◌||◌, nat_eq, List, [], map, length, find, Option, None, Some, unwrap_or, if◌then◌else◌}
use Rattle.std.specs.List.{filter_map, range_with_len}
use Rattle.std.specs.Option.{option_and_then, option_eq}
use Rattle.triple_store.specs.declared.term.Term.{Term}
use Rattle.triple_store.specs.declared.term.Term.TheVariants.{Iri}
use Rattle.triple_store.specs.declared.term.Triple.{Triple}
use Rattle.plugin_decl.specs.declared.declaration.Decl.{Decl}
use Rattle.plugin_decl.specs.declared.declaration.Port.{Port}
use Rattle.plugin_decl.specs.declared.declaration.Version.{Version}
use Rattle.vocabulary.specs.declared.word.Word.{Word}
use Rattle.vocabulary.specs.declared.word.Word.TheVariants.{Lv2Plugin, Lv2Port, Lv2MinorVersion, Lv2MicroVersion, Lv2RequiredFeature, Lv2OptionalFeature, Lv2ExtensionData, WorkInterface, StateInterface, StateThreadSafeRestore, PatchReadable, PatchWritable, DoapName}
use Rattle.plugin_decl.specs.Objects.{objects_of, has, is_a, first}
use Rattle.plugin_decl.specs.Values.{iri_in, name_in, natural_in}
use Rattle.plugin_decl.specs.Ports.{index_of, port_of}

-- the ports of a plug-in, in order of the triples
abbrev pub ports_in_rows : List Triple → Term → List Term
ports_in_rows rows plugin = objects_of rows plugin Lv2Port

-- their indexes, where they have one
abbrev pub indexes_of : List Triple → Term → List (Option ℕ)
indexes_of rows plugin = map (index_of rows) (ports_in_rows rows plugin)

-- an index is this number
abbrev pub is_index : ℕ → Option ℕ → Bool
is_index i index = option_eq nat_eq index (Some i)

-- the port whose index is this number
abbrev pub port_at : List Triple → Term → ℕ → Option Term
port_at rows plugin i = find (λ port. is_index i (index_of rows port)) (ports_in_rows rows plugin)

-- the ports in order of index
unfoldable pub ports_of : List Triple → Term → List Term
ports_of rows plugin = filter_map (port_at rows plugin) (range_with_len 0 (length (ports_in_rows rows plugin)))

-- what is declared of them
abbrev pub declared_ports : List Triple → Term → List Port
declared_ports rows plugin = map (port_of rows) (ports_of rows plugin)

-- the first lv2:minorVersion or lv2:microVersion, if it is an integer from 0 to 4294967295
unfoldable pub stated_version : List Triple → Term → Word → Option ℕ
stated_version rows plugin word = option_and_then (natural_in 4294967295) (first (objects_of rows plugin word))

-- and 0 if not
abbrev pub version : List Triple → Term → Word → ℕ
version rows plugin word = unwrap_or (stated_version rows plugin word) 0

-- the version of a URI, if it is an lv2:Plugin
unfoldable pub version_of : List Triple → List ℕ → Option Version
version_of rows uri =
    if is_a rows (Iri uri) Lv2Plugin then Some (record {
      minor = version rows (Iri uri) Lv2MinorVersion;
      micro = version rows (Iri uri) Lv2MicroVersion;
    }) else None

-- a feature is required or optional
abbrev pub has_feature : List Triple → Term → Word → Bool
has_feature rows plugin feature = has rows plugin Lv2RequiredFeature feature || has rows plugin Lv2OptionalFeature feature

-- it has an extension's interface
abbrev pub extends : List Triple → Term → Word → Bool
extends rows plugin interface = has rows plugin Lv2ExtensionData interface

-- it restores its state beside Audio calls, and ends that by jobs of its worker
abbrev pub is_safe : List Triple → Term → Bool
is_safe rows plugin = (extends rows plugin WorkInterface && extends rows plugin StateInterface) && has_feature rows plugin StateThreadSafeRestore

-- the IRIs among the objects
unfoldable pub iris_of : List Triple → Term → Word → List (List ℕ)
iris_of rows plugin word = filter_map iri_in (objects_of rows plugin word)

-- the declaration of a URI
unfoldable pub declaration_of : List Triple → List ℕ → Decl
declaration_of rows uri = record {
  uri = uri;
  name = unwrap_or (name_in (objects_of rows (Iri uri) DoapName)) [];
  minor = version rows (Iri uri) Lv2MinorVersion;
  micro = version rows (Iri uri) Lv2MicroVersion;
  ports = declared_ports rows (Iri uri);
  worker = extends rows (Iri uri) WorkInterface;
  state = extends rows (Iri uri) StateInterface;
  safe = is_safe rows (Iri uri);
  reads = iris_of rows (Iri uri) PatchReadable;
  writes = iris_of rows (Iri uri) PatchWritable;
}
