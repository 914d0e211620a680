-- Where a reader's blank numbers lie: each term that it holds has a number below the next one to be given.
use Rattle.std.specs.Prelude.{ℕ, ◌≤◌, ◌<◌, List, [], ◌∷◌}
use Rattle.triple_store.specs.Triples.{blanks_of_term}
use Rattle.triple_store.specs.declared.term.Term.{Term}
use Rattle.turtle_document.specs.declared.expected.Hole.{Hole}
use Rattle.turtle_document.specs.declared.expected.Hole.TheVariants as holes
use Rattle.turtle_document.specs.declared.expected.Chain.{Chain}
use Rattle.turtle_document.specs.declared.expected.Chain.TheVariants as chains
use Rattle.turtle_document.specs.declared.expected.Expected.{Expected}
use Rattle.turtle_document.specs.declared.expected.Expected.TheVariants as expect

abbrev pub IsBelow : ℕ → Term → Type 0
IsBelow bound term = blanks_of_term term ≤ bound

abbrev pub HoleBelow : ℕ → Hole → Type 0
HoleBelow bound (holes.Object s p) = IsBelow bound s × IsBelow bound p
HoleBelow bound (holes.Item first node) = (first < bound) × (node < bound)
HoleBelow bound _ = Unit {0}

abbrev pub HolesBelow : ℕ → List Hole → Type 0
HolesBelow bound [] = Unit {0}
HolesBelow bound (hole ∷ outer) = HoleBelow bound hole × HolesBelow bound outer

abbrev pub ChainBelow : ℕ → Chain → Type 0
ChainBelow bound chains.Empty = Unit {0}
ChainBelow bound (chains.Nodes first last) = (first < bound) × (last < bound)

abbrev pub NextBelow : ℕ → Expected → Type 0
NextBelow bound (expect.Verb s) = IsBelow bound s
NextBelow bound (expect.AfterSemicolon s) = IsBelow bound s
NextBelow bound (expect.AfterObject s p) = IsBelow bound s × IsBelow bound p
NextBelow bound (expect.AfterListed s) = IsBelow bound s
NextBelow bound (expect.Object s p) = IsBelow bound s × IsBelow bound p
NextBelow bound (expect.Item chain) = ChainBelow bound chain
NextBelow bound (expect.Property node) = node < bound
NextBelow bound (expect.Suffix text at hole) = HoleBelow bound hole
NextBelow bound (expect.Datatype text hole) = HoleBelow bound hole
NextBelow bound _ = Unit {0}
