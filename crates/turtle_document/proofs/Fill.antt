-- A hole that is filled, with no token taken.
use Rattle.std.proofs.Common.{ℕ, zero, List, [], ◌∷◌, length, Some, None, Result, Ok, Err, refl}
use Rattle.triple_store.specs.declared.term.Term.{Term}
use Rattle.triple_store.specs.declared.term.Term.TheVariants as terms
use Rattle.turtle_grammar.specs.Tree.{Lexeme, Leaf, Verb, Object, Items, Predicates, Objects, More}
use Rattle.turtle_document.specs.Vocabulary.{rdf_first}
use Rattle.turtle_document.specs.Meaning.{Fault, State, ◌>>=◌, add, items_of}
use Rattle.turtle_document.specs.Machine.{config, on, filled}
use Rattle.turtle_document.specs.Machine.Move.{to}
use Rattle.turtle_document.specs.declared.expected.Hole.{Hole}
use Rattle.turtle_document.specs.declared.expected.Hole.TheVariants as holes
use Rattle.turtle_document.specs.declared.expected.Chain.TheVariants as chains
use Rattle.turtle_document.specs.declared.expected.Expected.TheVariants as expect
use Rattle.turtle_document.proofs.Completion.{Up, up_tokens, up_of, tail_of}
use Rattle.turtle_document.proofs.Completion.Tail.{over}
use Rattle.turtle_document.proofs.Tools.{Trees, trees, behind, IsRightFor, arrives}

-- a leaf at a place
abbrev pub leaf_at : ℕ → Leaf
leaf_at n = record { at = n; text = [] }

-- the shortest list of predicates, with each token at this place
abbrev pub short_list : ℕ → Predicates
short_list n = Predicates.predicates (Verb.is_a (leaf_at n)) (Objects.one (Object.label (leaf_at n))) More.done

-- the shortest end, with each token at this place
abbrev pub short_up : (n : ℕ) (outer : List Hole) → Up outer
short_up n [] = []
short_up n (holes.Subject ∷ outer) = (short_list n, leaf_at n, short_up n outer)
short_up n (holes.ListedSubject ∷ outer) = (None, leaf_at n, short_up n outer)
short_up n (holes.Object s p ∷ outer) = (over More.done, leaf_at n, short_up n outer)
short_up n (holes.Item first node ∷ outer) = (Items.none, leaf_at n, short_up n outer)

-- what may come once a term fills a hole
abbrev pub ups : Hole → List Hole → Term → ℕ → State → Trees
ups hole outer term at st = trees (Up (hole ∷ outer)) (up_tokens (hole ∷ outer)) (λ u. up_of (hole ∷ outer) u term at st)

-- it is filled by a triple that may not find room
pub object_filled : (t : Lexeme) (s p : Term) (outer : List Hole) (r : Result State Fault)
    → IsRightFor (behind t (trees (Up (holes.Object s p ∷ outer)) (up_tokens (holes.Object s p ∷ outer)) (λ u. r >>= tail_of u.0 (length outer) s p >>= up_of outer u.2 s u.1.at))) t (on r (to (config (expect.AfterObject s p) outer)))
object_filled t s p outer (Ok after) = arrives t (config (expect.AfterObject s p) outer) after
object_filled t s p outer (Err fault) = record {
  there = (short_up zero (holes.Object s p ∷ outer), up_tokens (holes.Object s p ∷ outer) (short_up zero (holes.Object s p ∷ outer)), refl);
  each = λ x rest e. refl;
}

pub item_filled : (t : Lexeme) (first node : ℕ) (outer : List Hole) (r : Result State Fault)
    → IsRightFor (behind t (trees (Up (holes.Item first node ∷ outer)) (up_tokens (holes.Item first node ∷ outer)) (λ u. r >>= items_of u.0 (length outer) (Some node) u.1.at >>= (λ rest. up_of outer u.2 (terms.Blank first) u.1.at rest.state)))) t (on r (to (config (expect.Item (chains.Nodes first node)) outer)))
item_filled t first node outer (Ok after) = arrives t (config (expect.Item (chains.Nodes first node)) outer) after
item_filled t first node outer (Err fault) = record {
  there = (short_up zero (holes.Item first node ∷ outer), up_tokens (holes.Item first node ∷ outer) (short_up zero (holes.Item first node ∷ outer)), refl);
  each = λ x rest e. refl;
}

pub filled_right : (t : Lexeme) (hole : Hole) (at : ℕ) (term : Term) (outer : List Hole) (st : State)
    → IsRightFor (behind t (ups hole outer term at st)) t (filled hole at term outer st)
filled_right t holes.Subject at term outer st = arrives t (config (expect.Verb term) outer) st
filled_right t holes.ListedSubject at term outer st = arrives t (config (expect.AfterListed term) outer) st
filled_right t (holes.Object s p) at term outer st = object_filled t s p outer (add at s p term st)
filled_right t (holes.Item first node) at term outer st = item_filled t first node outer (add at (terms.Blank node) (terms.Iri rdf_first) term st)
