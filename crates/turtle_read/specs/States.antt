-- What an environment is.
use Rattle.std.specs.Prelude.{ℕ, List, take}
use Rattle.triple_store.specs.declared.term.Triple.{Triple}
use Rattle.std.specs.Str.{bytes_eq}
use Rattle.indexmap.specs.IndexMap.{get}
use Rattle.turtle_document.specs.Meaning.{State, bound}
use Rattle.turtle_read.specs.declared.environment.Environment.{Environment}

abbrev pub state_of : Environment → State
state_of e = record { base = e.base; prefixes = get bytes_eq e.prefixes; labels = get bytes_eq e.labels; blanks = e.blanks; rows = e.store }

-- a prefix stands for a namespace
abbrev pub with_prefix : List ℕ → List ℕ → State → State
with_prefix prefix namespace st = record st { prefixes = bound prefix namespace st.prefixes }

-- the rows that were there before a document's
unfoldable pub kept_of : Environment → List Triple
kept_of e = take e.before e.store
