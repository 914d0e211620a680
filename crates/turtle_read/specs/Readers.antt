-- Where a reader stands.
use Rattle.std.specs.Prelude.{List}
use Rattle.turtle_document.specs.Machine.{Config, config}
use Rattle.turtle_document.specs.Meaning.{State}
use Rattle.triple_store.specs.declared.term.Triple.{Triple}
use Rattle.turtle_read.specs.States.{state_of, kept_of}
use Rattle.turtle_read.specs.declared.reader.Reader.{Reader}

abbrev pub config_of : Reader → Config
config_of r = config r.next r.outer

-- its environment
abbrev pub inside : Reader → State
inside r = state_of r.environment

-- the rows that were there before the document's
abbrev pub kept : Reader → List Triple
kept r = kept_of r.environment
