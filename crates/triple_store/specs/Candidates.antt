-- Where the rows of a pattern are looked for.
use Rattle.std.specs.Prelude.{List}
use Rattle.triple_store.specs.declared.candidates.Candidates.{Candidates}
use Rattle.triple_store.specs.declared.candidates.Candidates.TheVariants.{All, OfSubject}
use Rattle.triple_store.specs.declared.term.Triple.{Triple}

-- the rows that are left to look at
abbrev pub candidates_of : Candidates → List Triple
candidates_of (All rows) = rows.now
candidates_of (OfSubject rows) = rows
