-- In a collection.
use Rattle.std.proofs.Common.{◌≡◌, ℕ, zero, Bool, true, false, List, ◌∷◌, length, Some, Result, Ok, Err, refl, sym, ap, ◌∙◌}
use Rattle.triple_store.specs.declared.term.Term.{Term}
use Rattle.triple_store.specs.declared.term.Term.TheVariants as terms
use Rattle.turtle_grammar.specs.declared.token.TokenKind.{TokenKind}
use Rattle.turtle_grammar.specs.declared.token.TokenKind.TheVariants as kinds
use Rattle.turtle_grammar.specs.Tree.{Lexeme, Leaf, Object, Items, lexeme, object_tokens, items_tokens}
use Rattle.turtle_grammar.specs.Tree.Items.{none, item}
use Rattle.turtle_document.specs.Vocabulary.{rdf_first, rdf_nil}
use Rattle.turtle_document.specs.Meaning.{Fault, State, Read, read, ◌>>=◌, numbered, add, linked, ended, started, object_of, object_start, object_end, items_of}
use Rattle.turtle_document.specs.Machine.{config, on, closed, begins_object, begin_object, started_by, begin_item, in_collection, last_of, first_of, collection_of}
use Rattle.turtle_document.specs.declared.expected.Hole.{Hole}
use Rattle.turtle_document.specs.declared.expected.Hole.TheVariants as holes
use Rattle.turtle_document.specs.declared.expected.Chain.{Chain}
use Rattle.turtle_document.specs.declared.expected.Chain.TheVariants as chains
use Rattle.turtle_document.specs.declared.expected.Expected.TheVariants as expect
use Rattle.turtle_document.proofs.Completion.{Up, up_tokens, up_of, collected, completed_by}
use Rattle.turtle_document.proofs.Tools.{Trees, trees, partial, HasNone, IsRightFor, Same, same, Takes, takes, tried, same_rest, same_kind, same_leaf, no, bind_assoc, bind_same}
use Rattle.turtle_document.proofs.Starts.{class_of, no_object, no_first, object_first, begun}
use Rattle.turtle_document.proofs.Fill.{short_up, filled_right}
use Rattle.turtle_document.proofs.Objects.{objects, object_right}

-- The end of a collection.
collected_nil : (chain : Chain) → collected chain (terms.Iri rdf_nil) ≡ collection_of chain
collected_nil chains.Empty = refl
collected_nil (chains.Nodes first last) = refl

abbrev after_collection : Leaf → Chain → Hole → List Hole → State → Trees
after_collection leaf chain hole outer st =
    trees (Up (hole ∷ outer)) (up_tokens (hole ∷ outer)) (λ u. ended (last_of chain) leaf.at st >>= (λ after. up_of (hole ∷ outer) u (collection_of chain) leaf.at after))

none_leaves : (leaf : Leaf) (chain : Chain) (hole : Hole) (outer : List Hole) (st : State) (u : Up (hole ∷ outer))
    → completed_by (expect.Item chain) (hole ∷ outer) (none, leaf, u) st ≡ (after_collection leaf chain hole outer st).value u
none_leaves leaf chain hole outer st u =
    bind_assoc (ended (last_of chain) leaf.at st) (λ after. Ok (read (terms.Iri rdf_nil) after)) (λ rest. up_of (hole ∷ outer) u (collected chain rest.term) leaf.at rest.state)
    ∙ ap (λ (x : Term). ended (last_of chain) leaf.at st >>= (λ after. up_of (hole ∷ outer) u x leaf.at after)) (collected_nil chain)

end_split : (leaf : Leaf) (chain : Chain) (hole : Hole) (outer : List Hole) (st : State) (items : Items) (l : Leaf) (u : Up (hole ∷ outer)) (rest : List Lexeme)
    → items_tokens items (lexeme kinds.CloseRound l ∷ up_tokens (hole ∷ outer) u) ≡ lexeme kinds.CloseRound leaf ∷ rest
    → (y : Up (hole ∷ outer)) × (rest ≡ up_tokens (hole ∷ outer) y) × (completed_by (expect.Item chain) (hole ∷ outer) (items, l, u) st ≡ (after_collection leaf chain hole outer st).value y)
end_split leaf chain hole outer st none l u rest e = (
  u,
  sym (same_rest _ _ (up_tokens (hole ∷ outer) u) rest e),
  none_leaves l chain hole outer st u
      ∙ ap (λ (x : Leaf). (after_collection x chain hole outer st).value u) (same_leaf kinds.CloseRound kinds.CloseRound l leaf (up_tokens (hole ∷ outer) u) rest e),
)
end_split leaf chain hole outer st (item object items) l u rest e =
    absurd (no_first object (items_tokens items (lexeme kinds.CloseRound l ∷ up_tokens (hole ∷ outer) u)) rest kinds.CloseRound leaf refl e)

end_takes : (leaf : Leaf) (chain : Chain) (hole : Hole) (outer : List Hole) (st : State)
    → Takes (partial (config (expect.Item chain) (hole ∷ outer)) st) (lexeme kinds.CloseRound leaf) (after_collection leaf chain hole outer st)
end_takes leaf chain hole outer st = record {
  build = λ y. ((none, leaf, y), refl, none_leaves leaf chain hole outer st y);
  split = λ x rest e. end_split leaf chain hole outer st x.0 x.1 x.2 rest e;
}

end_right : (leaf : Leaf) (chain : Chain) (hole : Hole) (outer : List Hole) (st : State)
    → IsRightFor (partial (config (expect.Item chain) (hole ∷ outer)) st) (lexeme kinds.CloseRound leaf)
    (on (ended (last_of chain) leaf.at st) (closed leaf.at (collection_of chain) (hole ∷ outer)))
end_right leaf chain hole outer st =
    let t = lexeme kinds.CloseRound leaf in
    takes (partial (config (expect.Item chain) (hole ∷ outer)) st) t (after_collection leaf chain hole outer st)
    (on (ended (last_of chain) leaf.at st) (closed leaf.at (collection_of chain) (hole ∷ outer))) (end_takes leaf chain hole outer st)
    (tried (ended (last_of chain) leaf.at st) (closed leaf.at (collection_of chain) (hole ∷ outer)) (Up (hole ∷ outer)) (λ u. t ∷ up_tokens (hole ∷ outer) u)
    (λ after u. up_of (hole ∷ outer) u (collection_of chain) leaf.at after) t
    (short_up zero (hole ∷ outer), up_tokens (hole ∷ outer) (short_up zero (hole ∷ outer)), refl)
    (λ after. filled_right t hole leaf.at (collection_of chain) outer after))

-- An item: the fault of its first token, the link from the node before, and the item as an object that fills its hole.
abbrev Listed : List Hole → Type 0
Listed outer = Object × (Items × Leaf × Up outer)

abbrev listed_tokens : (outer : List Hole) → Listed outer → List Lexeme
listed_tokens outer x = object_tokens x.0 (items_tokens x.1.0 (lexeme kinds.CloseRound x.1.1 ∷ up_tokens outer x.1.2))

abbrev node_hole : Chain → ℕ → Hole
node_hole chain node = holes.Item (first_of chain node) node

abbrev item_inside : Chain → (outer : List Hole) → Listed outer → ℕ → State → Result State Fault
item_inside chain outer x node inside = (objects (node_hole chain node) outer inside).value (x.0, x.1)

abbrev item_linked : Leaf → Chain → (outer : List Hole) → Listed outer → State → Result State Fault
item_linked leaf chain outer x here = linked (last_of chain) leaf.at here.blanks (numbered here) >>= (λ inside. item_inside chain outer x here.blanks inside)

abbrev items_from : TokenKind → Leaf → Chain → List Hole → State → Trees
items_from kind leaf chain outer st =
    trees (Listed outer) (listed_tokens outer) (λ x. started_by kind leaf (length outer) st >>= (λ here. item_linked leaf chain outer x here))

collected_node : (chain : Chain) (node : ℕ) → collected chain (terms.Blank node) ≡ terms.Blank (first_of chain node)
collected_node chains.Empty node = refl
collected_node (chains.Nodes first last) node = refl

-- what comes after an item
abbrev rest_read : Items → ℕ → ℕ → ℕ → State → Result Read Fault
rest_read items n node close after = items_of items n (Some node) close after >>= (λ rest. Ok (read (terms.Blank node) rest.state))

rest_leaves : (chain : Chain) (outer : List Hole) (items : Items) (l : Leaf) (u : Up outer) (node : ℕ) (r : Result State Fault)
    → r >>= (λ after. rest_read items (length outer) node l.at after) >>= (λ rest. up_of outer u (collected chain rest.term) l.at rest.state)
    ≡ r >>= items_of items (length outer) (Some node) l.at >>= (λ rest. up_of outer u (terms.Blank (first_of chain node)) l.at rest.state)
rest_leaves chain outer items l u node (Ok after) =
    bind_assoc (items_of items (length outer) (Some node) l.at after) (λ rest. Ok (read (terms.Blank node) rest.state)) (λ rest. up_of outer u (collected chain rest.term) l.at rest.state)
    ∙ ap (λ (x : Term). items_of items (length outer) (Some node) l.at after >>= (λ rest. up_of outer u x l.at rest.state)) (collected_node chain node)
rest_leaves chain outer items l u node (Err fault) = refl

-- what an item leaves, once its node is numbered and linked
abbrev value_read : Object → Items → ℕ → ℕ → ℕ → State → Result Read Fault
value_read object items n node close inside =
    object_of object n inside >>= (λ value.
    add (object_end object) (terms.Blank node) (terms.Iri rdf_first) value.term value.state >>= (λ after. rest_read items n node close after))

value_leaves : (chain : Chain) (outer : List Hole) (object : Object) (items : Items) (l : Leaf) (u : Up outer) (node : ℕ) (inside : State)
    → value_read object items (length outer) node l.at inside >>= (λ rest. up_of outer u (collected chain rest.term) l.at rest.state)
    ≡ item_inside chain outer (object, (items, l, u)) node inside
value_leaves chain outer object items l u node inside =
    let n = length outer in
    let after_object : Read → Result Read Fault = λ value.
    add (object_end object) (terms.Blank node) (terms.Iri rdf_first) value.term value.state >>= (λ after. rest_read items n node l.at after) in
    let then_on : Read → Result State Fault = λ rest. up_of outer u (collected chain rest.term) l.at rest.state in
    bind_assoc (object_of object n inside) after_object then_on
    ∙ bind_same (object_of object n inside) (λ value. after_object value >>= then_on)
    (λ value. up_of (node_hole chain node ∷ outer) (items, l, u) value.term (object_end object) value.state)
    (λ value. rest_leaves chain outer items l u node (add (object_end object) (terms.Blank node) (terms.Iri rdf_first) value.term value.state))

item_leaves : (chain : Chain) (outer : List Hole) (object : Object) (items : Items) (l : Leaf) (u : Up outer) (st : State)
    → completed_by (expect.Item chain) outer (item object items, l, u) st
    ≡ started object (length outer) st >>= (λ here. linked (last_of chain) (object_start object) here.blanks (numbered here) >>= (λ inside. item_inside chain outer (object, (items, l, u)) here.blanks inside))
item_leaves chain outer object items l u st =
    let n = length outer in
    let then_on : Read → Result State Fault = λ rest. up_of outer u (collected chain rest.term) l.at rest.state in
    let with_link : State → Result State Fault = λ here. linked (last_of chain) (object_start object) here.blanks (numbered here) in
    bind_assoc (started object n st) (λ here. with_link here >>= (λ inside. value_read object items n here.blanks l.at inside)) then_on
    ∙ bind_same (started object n st) (λ here. with_link here >>= (λ inside. value_read object items n here.blanks l.at inside) >>= then_on)
    (λ here. with_link here >>= (λ inside. item_inside chain outer (object, (items, l, u)) here.blanks inside))
    (λ here. bind_assoc (with_link here) (λ inside. value_read object items n here.blanks l.at inside) then_on
    ∙ bind_same (with_link here) (λ inside. value_read object items n here.blanks l.at inside >>= then_on)
    (λ inside. item_inside chain outer (object, (items, l, u)) here.blanks inside)
    (λ inside. value_leaves chain outer object items l u here.blanks inside))

item_value : (kind : TokenKind) (leaf : Leaf) (chain : Chain) (outer : List Hole) (st : State) (object : Object) (items : Items) (l : Leaf) (u : Up outer) (rest : List Lexeme)
    → listed_tokens outer (object, (items, l, u)) ≡ lexeme kind leaf ∷ rest
    → completed_by (expect.Item chain) outer (item object items, l, u) st ≡ (items_from kind leaf chain outer st).value (object, (items, l, u))
item_value kind leaf chain outer st object items l u rest e =
    let facts = object_first object (items_tokens items (lexeme kinds.CloseRound l ∷ up_tokens outer u)) rest kind leaf e in
    item_leaves chain outer object items l u st
    ∙ (ap (λ (x : ℕ). started object (length outer) st >>= (λ here. linked (last_of chain) x here.blanks (numbered here) >>= (λ inside. item_inside chain outer (object, (items, l, u)) here.blanks inside))) facts.0
    ∙ ap (λ (r : Result State Fault). r >>= (λ here. item_linked leaf chain outer (object, (items, l, u)) here)) (facts.1 (length outer) st))

abbrev is_round : TokenKind → Bool
is_round kinds.CloseRound = true
is_round _ = false

item_split : (kind : TokenKind) (leaf : Leaf) (chain : Chain) (outer : List Hole) (st : State) (items : Items) (l : Leaf) (u : Up outer) (rest : List Lexeme) → is_round kind ≡ false
    → items_tokens items (lexeme kinds.CloseRound l ∷ up_tokens outer u) ≡ lexeme kind leaf ∷ rest
    → (y : Listed outer) × (listed_tokens outer y ≡ lexeme kind leaf ∷ rest) × (completed_by (expect.Item chain) outer (items, l, u) st ≡ (items_from kind leaf chain outer st).value y)
item_split kind leaf chain outer st none l u rest c e =
    let k : true ≡ is_round kind = ap is_round (same_kind kinds.CloseRound kind l leaf (up_tokens outer u) rest e) in absurd (no (sym c ∙ sym k))
item_split kind leaf chain outer st (item object items) l u rest c e = ((object, (items, l, u)), e, item_value kind leaf chain outer st object items l u rest e)

item_same : (kind : TokenKind) (leaf : Leaf) (chain : Chain) (outer : List Hole) (st : State) → is_round kind ≡ false
    → Same (partial (config (expect.Item chain) outer) st) (items_from kind leaf chain outer st) (lexeme kind leaf)
item_same kind leaf chain outer st c = record {
  build = λ y rest e. ((item y.0 y.1.0, y.1.1, y.1.2), e, item_value kind leaf chain outer st y.0 y.1.0 y.1.1 y.1.2 rest e);
  split = λ x rest e. item_split kind leaf chain outer st x.0 x.1 x.2 rest c e;
}

item_begun : (kind : TokenKind) (leaf : Leaf) (outer : List Hole) → begins_object kind ≡ true
    → (x : Listed outer) × (rest : List Lexeme) × (listed_tokens outer x ≡ lexeme kind leaf ∷ rest)
item_begun kind leaf outer b =
    let first = begun kind leaf b in
    let more = first.1 (items_tokens none (lexeme kinds.CloseRound leaf ∷ up_tokens outer (short_up zero outer))) in
    ((first.0, (none, leaf, short_up zero outer)), more.0, more.1)

item_right : (kind : TokenKind) (leaf : Leaf) (chain : Chain) (outer : List Hole) (st : State) → begins_object kind ≡ true → is_round kind ≡ false
    → IsRightFor (partial (config (expect.Item chain) outer) st) (lexeme kind leaf) (begin_item kind leaf chain outer st)
item_right kind leaf chain outer st b c =
    let t = lexeme kind leaf in
    same (partial (config (expect.Item chain) outer) st) (items_from kind leaf chain outer st) t (begin_item kind leaf chain outer st)
    (item_same kind leaf chain outer st c)
    (tried (started_by kind leaf (length outer) st)
    (λ here. on (linked (last_of chain) leaf.at here.blanks (numbered here)) (λ inside. begin_object kind (node_hole chain here.blanks) leaf outer inside))
    (Listed outer) (listed_tokens outer) (λ here x. item_linked leaf chain outer x here) t (item_begun kind leaf outer b)
    (λ here. tried (linked (last_of chain) leaf.at here.blanks (numbered here)) (λ inside. begin_object kind (node_hole chain here.blanks) leaf outer inside)
    (Listed outer) (listed_tokens outer) (λ inside x. item_inside chain outer x here.blanks inside) t (item_begun kind leaf outer b)
    (λ inside. object_right kind leaf (node_hole chain here.blanks) outer inside tt)))

no_item : (kind : TokenKind) (leaf : Leaf) (outer : List Hole) (items : Items) (l : Leaf) (u : Up outer) (rest : List Lexeme) → class_of kind ≡ no_object → is_round kind ≡ false
    → items_tokens items (lexeme kinds.CloseRound l ∷ up_tokens outer u) ≡ lexeme kind leaf ∷ rest → ⊥
no_item kind leaf outer none l u rest k c e =
    let round : true ≡ is_round kind = ap is_round (same_kind kinds.CloseRound kind l leaf (up_tokens outer u) rest e) in no (sym c ∙ sym round)
no_item kind leaf outer (item object items) l u rest k c e = no_first object (items_tokens items (lexeme kinds.CloseRound l ∷ up_tokens outer u)) rest kind leaf k e

-- a token that neither begins an item nor ends the collection
pub item_stuck : (kind : TokenKind) (leaf : Leaf) (chain : Chain) (outer : List Hole) (st : State) → class_of kind ≡ no_object → is_round kind ≡ false
    → HasNone (partial (config (expect.Item chain) outer) st) (lexeme kind leaf)
item_stuck kind leaf chain outer st k c = λ x rest e. no_item kind leaf outer x.0 x.1 x.2 rest k c e

-- the move in a collection is right
pub collection_right : (kind : TokenKind) (leaf : Leaf) (chain : Chain) (hole : Hole) (outer : List Hole) (st : State)
    → IsRightFor (partial (config (expect.Item chain) (hole ∷ outer)) st) (lexeme kind leaf) (in_collection kind leaf chain (hole ∷ outer) st)
collection_right kinds.CloseRound leaf chain hole outer st = end_right leaf chain hole outer st
collection_right kinds.Iri leaf chain hole outer st = item_right kinds.Iri leaf chain (hole ∷ outer) st refl refl
collection_right kinds.PrefixedName leaf chain hole outer st = item_right kinds.PrefixedName leaf chain (hole ∷ outer) st refl refl
collection_right kinds.Namespace leaf chain hole outer st = item_right kinds.Namespace leaf chain (hole ∷ outer) st refl refl
collection_right kinds.BlankLabel leaf chain hole outer st = item_right kinds.BlankLabel leaf chain (hole ∷ outer) st refl refl
collection_right kinds.OpenSquare leaf chain hole outer st = item_right kinds.OpenSquare leaf chain (hole ∷ outer) st refl refl
collection_right kinds.OpenRound leaf chain hole outer st = item_right kinds.OpenRound leaf chain (hole ∷ outer) st refl refl
collection_right kinds.String leaf chain hole outer st = item_right kinds.String leaf chain (hole ∷ outer) st refl refl
collection_right kinds.SingleString leaf chain hole outer st = item_right kinds.SingleString leaf chain (hole ∷ outer) st refl refl
collection_right kinds.LongString leaf chain hole outer st = item_right kinds.LongString leaf chain (hole ∷ outer) st refl refl
collection_right kinds.LongSingleString leaf chain hole outer st = item_right kinds.LongSingleString leaf chain (hole ∷ outer) st refl refl
collection_right kinds.Integer leaf chain hole outer st = item_right kinds.Integer leaf chain (hole ∷ outer) st refl refl
collection_right kinds.Decimal leaf chain hole outer st = item_right kinds.Decimal leaf chain (hole ∷ outer) st refl refl
collection_right kinds.Double leaf chain hole outer st = item_right kinds.Double leaf chain (hole ∷ outer) st refl refl
collection_right kinds.True leaf chain hole outer st = item_right kinds.True leaf chain (hole ∷ outer) st refl refl
collection_right kinds.False leaf chain hole outer st = item_right kinds.False leaf chain (hole ∷ outer) st refl refl
collection_right kind leaf chain hole outer st = item_stuck kind leaf chain (hole ∷ outer) st refl refl
