-- The first token of an object.
use Rattle.std.proofs.Common.{◌≡◌, ◌⊎◌, inl, inr, ℕ, zero, suc, List, [], ◌∷◌, length, None, Result, Ok, refl, sym, ap, ◌∙◌}
use Rattle.triple_store.specs.declared.term.Term.{Term}
use Rattle.triple_store.specs.declared.term.Term.TheVariants as terms
use Rattle.turtle_grammar.specs.declared.token.TokenKind.{TokenKind}
use Rattle.turtle_grammar.specs.declared.token.TokenKind.TheVariants as kinds
use Rattle.turtle_grammar.specs.Tree.{Lexeme, Leaf, Name, Quoting, Shorthand, Suffix, Object, Items, Predicates, lexeme, quoting_kind, shorthand_kind, suffix_tokens, object_tokens, items_tokens, predicates_tokens}
use Rattle.turtle_grammar.specs.Tree.Name.{full, prefixed, bare}
use Rattle.turtle_grammar.specs.Tree.Quoting.{double, single, long_double, long_single}
use Rattle.turtle_grammar.specs.Tree.Shorthand.{integer, decimal, double_number, true_word, false_word}
use Rattle.turtle_grammar.specs.Tree.Suffix.{nothing, language, datatype}
use Rattle.turtle_grammar.specs.Tree.Object.{named, label, anonymous, quoted, short, collection, properties}
use Rattle.turtle_grammar.specs.Value.{string_of}
use Rattle.turtle_document.specs.Vocabulary.{datatype_of}
use Rattle.turtle_document.specs.Meaning.{Fault, State, Read, read, ◌>>=◌, name_of, name_at, fresh, numbered, labelled, may_open, literal_of, suffix_at, object_of, object_end, items_of, predicates_of}
use Rattle.turtle_document.specs.Machine.{config, on, filled, listed, begin_object}
use Rattle.turtle_document.specs.Machine.Move.{to}
use Rattle.turtle_document.specs.declared.expected.Hole.{Hole}
use Rattle.turtle_document.specs.declared.expected.Hole.TheVariants as holes
use Rattle.turtle_document.specs.declared.expected.Chain.TheVariants as chains
use Rattle.turtle_document.specs.declared.expected.Expected.TheVariants as expect
use Rattle.turtle_document.proofs.Completion.{Up, up_tokens, up_of, tokens_by, completed_by, string_end}
use Rattle.turtle_document.proofs.Tools.{Trees, trees, partial, behind, HasNone, IsRightFor, Takes, takes, arrives, moves, tried, same_rest, same_kind, same_leaf, bind_assoc, bind_same}
use Rattle.turtle_document.proofs.Starts.{class_of, no_object, name_kind, name_leaf, name_lexeme, name_shape, name_class, quoting_class, shorthand_class, same_name, same_quoting, same_shorthand, object_starts, no_first}
use Rattle.turtle_document.proofs.Fill.{short_up, ups, filled_right}

-- Each of the following are the trees after a token with which a term begins that fills a hole.
abbrev pub after_name : Name → Hole → List Hole → State → Trees
after_name name hole outer st = trees (Up (hole ∷ outer)) (up_tokens (hole ∷ outer)) (λ u. name_of name st >>= (λ iri. up_of (hole ∷ outer) u (terms.Iri iri) (name_at name) st))

abbrev pub after_label : Leaf → Hole → List Hole → State → Trees
after_label leaf hole outer st = ups hole outer (labelled leaf.text st).term leaf.at (labelled leaf.text st).state

abbrev pub after_short : Shorthand → Leaf → Hole → List Hole → State → Trees
after_short shorthand leaf hole outer st = ups hole outer (terms.Literal leaf.text (datatype_of shorthand) []) leaf.at st

abbrev pub after_string : Quoting → Leaf → Hole → List Hole → State → Trees
after_string quoting leaf hole outer st = partial (config (expect.Suffix (string_of quoting leaf.text) leaf.at hole) outer) st

abbrev pub after_round : Leaf → Hole → List Hole → State → Trees
after_round leaf hole outer st =
    trees (Items × Leaf × Up (hole ∷ outer)) (λ x. items_tokens x.0 (lexeme kinds.CloseRound x.1 ∷ up_tokens (hole ∷ outer) x.2))
    (λ x. may_open leaf.at (length outer) st >>= (λ here. completed_by (expect.Item chains.Empty) (hole ∷ outer) x here))

-- what may stand after a `[`, and what may come after it once it is closed: without predicates, and with them
abbrev pub Within : List Hole → List Hole → Type 0
Within without behind_list = (Leaf × Up without) ⊎ (Predicates × Leaf × Up behind_list)

abbrev pub within_tokens : (without behind_list : List Hole) → Within without behind_list → List Lexeme
within_tokens without behind_list (inl x) = lexeme kinds.CloseSquare x.0 ∷ up_tokens without x.1
within_tokens without behind_list (inr x) = predicates_tokens x.0 (lexeme kinds.CloseSquare x.1 ∷ up_tokens behind_list x.2)

abbrev pub within_of : (without behind_list : List Hole) → Within without behind_list → ℕ → ℕ → State → Result State Fault
within_of without behind_list (inl x) n node st = up_of without x.1 (terms.Blank node) x.0.at st
within_of without behind_list (inr x) n node st = predicates_of x.0 n (terms.Blank node) st >>= up_of behind_list x.2 (terms.Blank node) x.1.at

abbrev pub after_square : Leaf → Hole → List Hole → List Hole → State → Trees
after_square leaf hole outer behind_list st =
    trees (Within (hole ∷ outer) behind_list) (within_tokens (hole ∷ outer) behind_list)
    (λ x. may_open leaf.at (length outer) st >>= (λ here. within_of (hole ∷ outer) behind_list x (suc (length outer)) here.blanks (numbered here)))

-- A reader is right after each of them.
pub name_right : (t : Lexeme) (name : Name) (hole : Hole) (outer : List Hole) (st : State)
    → IsRightFor (behind t (after_name name hole outer st)) t (on (name_of name st) (λ iri. filled hole (name_at name) (terms.Iri iri) outer st))
name_right t name hole outer st =
    tried (name_of name st) (λ iri. filled hole (name_at name) (terms.Iri iri) outer st) (Up (hole ∷ outer)) (λ u. t ∷ up_tokens (hole ∷ outer) u)
    (λ iri u. up_of (hole ∷ outer) u (terms.Iri iri) (name_at name) st) t
    (short_up zero (hole ∷ outer), up_tokens (hole ∷ outer) (short_up zero (hole ∷ outer)), refl)
    (λ iri. filled_right t hole (name_at name) (terms.Iri iri) outer st)

pub label_right : (t : Lexeme) (leaf : Leaf) (hole : Hole) (outer : List Hole) (st : State)
    → IsRightFor (behind t (after_label leaf hole outer st)) t (filled hole leaf.at (labelled leaf.text st).term outer (labelled leaf.text st).state)
label_right t leaf hole outer st = filled_right t hole leaf.at (labelled leaf.text st).term outer (labelled leaf.text st).state

pub round_right : (t : Lexeme) (leaf : Leaf) (hole : Hole) (outer : List Hole) (st : State)
    → IsRightFor (behind t (after_round leaf hole outer st)) t (on (may_open leaf.at (length outer) st) (to (config (expect.Item chains.Empty) (hole ∷ outer))))
round_right t leaf hole outer st =
    tried (may_open leaf.at (length outer) st) (to (config (expect.Item chains.Empty) (hole ∷ outer))) (Items × Leaf × Up (hole ∷ outer))
    (λ x. t ∷ items_tokens x.0 (lexeme kinds.CloseRound x.1 ∷ up_tokens (hole ∷ outer) x.2))
    (λ here x. completed_by (expect.Item chains.Empty) (hole ∷ outer) x here) t
    ((Items.none, leaf, short_up zero (hole ∷ outer)), lexeme kinds.CloseRound leaf ∷ up_tokens (hole ∷ outer) (short_up zero (hole ∷ outer)), refl)
    (λ here. arrives t (config (expect.Item chains.Empty) (hole ∷ outer)) here)

within_same : (hole : Hole) (outer : List Hole) (node : ℕ) (x : Within (hole ∷ outer) (listed (hole ∷ outer)))
    → within_tokens (hole ∷ outer) (listed (hole ∷ outer)) x ≡ tokens_by (expect.Property node) (hole ∷ outer) x
within_same hole outer node (inl x) = refl
within_same hole outer node (inr x) = refl

within_leaves : (hole : Hole) (outer : List Hole) (node : ℕ) (st : State) (x : Within (hole ∷ outer) (listed (hole ∷ outer)))
    → within_of (hole ∷ outer) (listed (hole ∷ outer)) x (suc (length outer)) node st ≡ completed_by (expect.Property node) (hole ∷ outer) x st
within_leaves hole outer node st (inl x) = refl
within_leaves hole outer node st (inr x) = refl

within_right : (t : Lexeme) (hole : Hole) (outer : List Hole) (node : ℕ) (st : State)
    → IsRightFor (trees (Within (hole ∷ outer) (listed (hole ∷ outer))) (λ x. t ∷ within_tokens (hole ∷ outer) (listed (hole ∷ outer)) x) (λ x. within_of (hole ∷ outer) (listed (hole ∷ outer)) x (suc (length outer)) node st))
    t (to (config (expect.Property node) (hole ∷ outer)) st)
within_right t hole outer node st = record {
  build = λ y. (y, ap (λ (ts : List Lexeme). t ∷ ts) (within_same hole outer node y), within_leaves hole outer node st y);
  split = λ x rest e. (x, sym (same_rest t t _ rest e) ∙ within_same hole outer node x, within_leaves hole outer node st x);
}

pub square_right : (t : Lexeme) (leaf : Leaf) (hole : Hole) (outer : List Hole) (st : State)
    → IsRightFor (behind t (after_square leaf hole outer (listed (hole ∷ outer)) st)) t
    (on (may_open leaf.at (length outer) st) (λ here. to (config (expect.Property here.blanks) (hole ∷ outer)) (numbered here)))
square_right t leaf hole outer st =
    tried (may_open leaf.at (length outer) st) (λ here. to (config (expect.Property here.blanks) (hole ∷ outer)) (numbered here)) (Within (hole ∷ outer) (listed (hole ∷ outer)))
    (λ x. t ∷ within_tokens (hole ∷ outer) (listed (hole ∷ outer)) x)
    (λ here x. within_of (hole ∷ outer) (listed (hole ∷ outer)) x (suc (length outer)) here.blanks (numbered here)) t
    (inl (leaf, short_up zero (hole ∷ outer)), lexeme kinds.CloseSquare leaf ∷ up_tokens (hole ∷ outer) (short_up zero (hole ∷ outer)), refl)
    (λ here. within_right t hole outer here.blanks (numbered here))

-- an object that fills a hole, and what may come then
abbrev pub objects : Hole → List Hole → State → Trees
objects hole outer st =
    trees (Object × Up (hole ∷ outer)) (λ x. object_tokens x.0 (up_tokens (hole ∷ outer) x.1))
    (λ x. object_of x.0 (length outer) st >>= (λ value. up_of (hole ∷ outer) x.1 value.term (object_end x.0) value.state))

-- What each first token takes off an object.
named_split : (name : Name) (hole : Hole) (outer : List Hole) (st : State) (object : Object) (u : Up (hole ∷ outer)) (rest : List Lexeme)
    → object_tokens object (up_tokens (hole ∷ outer) u) ≡ name_lexeme name ∷ rest
    → (y : Up (hole ∷ outer)) × (rest ≡ up_tokens (hole ∷ outer) y) × ((objects hole outer st).value (object, u) ≡ (after_name name hole outer st).value y)
named_split name hole outer st (named other) u rest e =
    let same = same_name other name (up_tokens (hole ∷ outer) u) rest e in (
      u,
      sym same.1,
      bind_assoc (name_of other st) (λ iri. Ok (read (terms.Iri iri) st)) (λ value. up_of (hole ∷ outer) u value.term (name_at other) value.state)
          ∙ ap (λ (x : Name). (after_name x hole outer st).value u) same.0,
    )
named_split name hole outer st object u rest e =
    let c = object_starts object (up_tokens (hole ∷ outer) u) rest (name_kind name) (name_leaf name) e ∙ name_class name in absurd (cc)

pub named_takes : (name : Name) (hole : Hole) (outer : List Hole) (st : State) → Takes (objects hole outer st) (name_lexeme name) (after_name name hole outer st)
named_takes name hole outer st = record {
  build = λ y. (
    (named name, y),
    name_shape name (up_tokens (hole ∷ outer) y),
    bind_assoc (name_of name st) (λ iri. Ok (read (terms.Iri iri) st)) (λ value. up_of (hole ∷ outer) y value.term (name_at name) value.state),
  );
  split = λ x rest e. named_split name hole outer st x.0 x.1 rest e;
}

label_split : (leaf : Leaf) (hole : Hole) (outer : List Hole) (st : State) (object : Object) (u : Up (hole ∷ outer)) (rest : List Lexeme)
    → object_tokens object (up_tokens (hole ∷ outer) u) ≡ lexeme kinds.BlankLabel leaf ∷ rest
    → (y : Up (hole ∷ outer)) × (rest ≡ up_tokens (hole ∷ outer) y) × ((objects hole outer st).value (object, u) ≡ (after_label leaf hole outer st).value y)
label_split leaf hole outer st (label l) u rest e = (
  u,
  sym (same_rest _ _ (up_tokens (hole ∷ outer) u) rest e),
  ap (λ (x : Leaf). (after_label x hole outer st).value u) (same_leaf kinds.BlankLabel kinds.BlankLabel l leaf (up_tokens (hole ∷ outer) u) rest e),
)
label_split leaf hole outer st object u rest e =
    let c = object_starts object (up_tokens (hole ∷ outer) u) rest kinds.BlankLabel leaf e in absurd (cc)

pub label_takes : (leaf : Leaf) (hole : Hole) (outer : List Hole) (st : State) → Takes (objects hole outer st) (lexeme kinds.BlankLabel leaf) (after_label leaf hole outer st)
label_takes leaf hole outer st = record {
  build = λ y. ((label leaf, y), refl, refl);
  split = λ x rest e. label_split leaf hole outer st x.0 x.1 rest e;
}

short_split : (shorthand : Shorthand) (leaf : Leaf) (hole : Hole) (outer : List Hole) (st : State) (object : Object) (u : Up (hole ∷ outer)) (rest : List Lexeme)
    → object_tokens object (up_tokens (hole ∷ outer) u) ≡ lexeme (shorthand_kind shorthand) leaf ∷ rest
    → (y : Up (hole ∷ outer)) × (rest ≡ up_tokens (hole ∷ outer) y) × ((objects hole outer st).value (object, u) ≡ (after_short shorthand leaf hole outer st).value y)
short_split shorthand leaf hole outer st (short other l) u rest e =
    let kind = same_kind (shorthand_kind other) (shorthand_kind shorthand) l leaf (up_tokens (hole ∷ outer) u) rest e in (
      u,
      sym (same_rest _ _ (up_tokens (hole ∷ outer) u) rest e),
      ap (λ (x : Leaf). (after_short other x hole outer st).value u) (same_leaf (shorthand_kind other) (shorthand_kind shorthand) l leaf (up_tokens (hole ∷ outer) u) rest e)
          ∙ ap (λ (x : Shorthand). (after_short x leaf hole outer st).value u) (same_shorthand other shorthand kind),
    )
short_split shorthand leaf hole outer st object u rest e =
    let c = object_starts object (up_tokens (hole ∷ outer) u) rest (shorthand_kind shorthand) leaf e ∙ shorthand_class shorthand in absurd (cc)

pub short_takes : (shorthand : Shorthand) (leaf : Leaf) (hole : Hole) (outer : List Hole) (st : State)
    → Takes (objects hole outer st) (lexeme (shorthand_kind shorthand) leaf) (after_short shorthand leaf hole outer st)
short_takes shorthand leaf hole outer st = record {
  build = λ y. ((short shorthand leaf, y), refl, refl);
  split = λ x rest e. short_split shorthand leaf hole outer st x.0 x.1 rest e;
}

suffix_ends : (leaf : Leaf) (suffix : Suffix) → suffix_at leaf suffix ≡ string_end leaf.at suffix
suffix_ends leaf nothing = refl
suffix_ends leaf (language tag) = refl
suffix_ends leaf (datatype carets name) = refl

string_leaves : (quoting : Quoting) (leaf : Leaf) (hole : Hole) (outer : List Hole) (st : State) (suffix : Suffix) (u : Up (hole ∷ outer))
    → (objects hole outer st).value (quoted quoting leaf suffix, u) ≡ (after_string quoting leaf hole outer st).value (suffix, u)
string_leaves quoting leaf hole outer st suffix u =
    bind_assoc (literal_of (string_of quoting leaf.text) suffix st) (λ term. Ok (read term st)) (λ value. up_of (hole ∷ outer) u value.term (suffix_at leaf suffix) value.state)
    ∙ ap (λ (n : ℕ). literal_of (string_of quoting leaf.text) suffix st >>= (λ term. up_of (hole ∷ outer) u term n st)) (suffix_ends leaf suffix)

string_split : (quoting : Quoting) (leaf : Leaf) (hole : Hole) (outer : List Hole) (st : State) (object : Object) (u : Up (hole ∷ outer)) (rest : List Lexeme)
    → object_tokens object (up_tokens (hole ∷ outer) u) ≡ lexeme (quoting_kind quoting) leaf ∷ rest
    → (y : Suffix × Up (hole ∷ outer)) × (rest ≡ suffix_tokens y.0 (up_tokens (hole ∷ outer) y.1)) × ((objects hole outer st).value (object, u) ≡ (after_string quoting leaf hole outer st).value y)
string_split quoting leaf hole outer st (quoted other l suffix) u rest e =
    let kind = same_kind (quoting_kind other) (quoting_kind quoting) l leaf (suffix_tokens suffix (up_tokens (hole ∷ outer) u)) rest e in (
      (suffix, u),
      sym (same_rest _ _ (suffix_tokens suffix (up_tokens (hole ∷ outer) u)) rest e),
      string_leaves other l hole outer st suffix u
          ∙ (ap (λ (x : Leaf). (after_string other x hole outer st).value (suffix, u)) (same_leaf (quoting_kind other) (quoting_kind quoting) l leaf (suffix_tokens suffix (up_tokens (hole ∷ outer) u)) rest e)
          ∙ ap (λ (x : Quoting). (after_string x leaf hole outer st).value (suffix, u)) (same_quoting other quoting kind)),
    )
string_split quoting leaf hole outer st object u rest e =
    let c = object_starts object (up_tokens (hole ∷ outer) u) rest (quoting_kind quoting) leaf e ∙ quoting_class quoting in absurd (cc)

pub string_takes : (quoting : Quoting) (leaf : Leaf) (hole : Hole) (outer : List Hole) (st : State)
    → Takes (objects hole outer st) (lexeme (quoting_kind quoting) leaf) (after_string quoting leaf hole outer st)
string_takes quoting leaf hole outer st = record {
  build = λ y. ((quoted quoting leaf y.0, y.1), refl, string_leaves quoting leaf hole outer st y.0 y.1);
  split = λ x rest e. string_split quoting leaf hole outer st x.0 x.1 rest e;
}

round_leaves : (leaf : Leaf) (hole : Hole) (outer : List Hole) (st : State) (items : Items) (end : Leaf) (u : Up (hole ∷ outer))
    → (objects hole outer st).value (collection leaf items end, u) ≡ (after_round leaf hole outer st).value (items, end, u)
round_leaves leaf hole outer st items end u =
    bind_assoc (may_open leaf.at (length outer) st) (items_of items (suc (length outer)) None end.at) (λ value. up_of (hole ∷ outer) u value.term end.at value.state)

round_split : (leaf : Leaf) (hole : Hole) (outer : List Hole) (st : State) (object : Object) (u : Up (hole ∷ outer)) (rest : List Lexeme)
    → object_tokens object (up_tokens (hole ∷ outer) u) ≡ lexeme kinds.OpenRound leaf ∷ rest
    → (y : (after_round leaf hole outer st).carrier) × (rest ≡ (after_round leaf hole outer st).tokens y) × ((objects hole outer st).value (object, u) ≡ (after_round leaf hole outer st).value y)
round_split leaf hole outer st (collection start items end) u rest e = (
  (items, end, u),
  sym (same_rest _ _ _ rest e),
  round_leaves start hole outer st items end u
      ∙ ap (λ (x : Leaf). (after_round x hole outer st).value (items, end, u)) (same_leaf kinds.OpenRound kinds.OpenRound start leaf _ rest e),
)
round_split leaf hole outer st object u rest e =
    let c = object_starts object (up_tokens (hole ∷ outer) u) rest kinds.OpenRound leaf e in absurd (cc)

pub round_takes : (leaf : Leaf) (hole : Hole) (outer : List Hole) (st : State) → Takes (objects hole outer st) (lexeme kinds.OpenRound leaf) (after_round leaf hole outer st)
round_takes leaf hole outer st = record {
  build = λ y. ((collection leaf y.0 y.1, y.2), refl, round_leaves leaf hole outer st y.0 y.1 y.2);
  split = λ x rest e. round_split leaf hole outer st x.0 x.1 rest e;
}

empty_leaves : (leaf : Leaf) (hole : Hole) (outer : List Hole) (st : State) (end : Leaf) (u : Up (hole ∷ outer))
    → (objects hole outer st).value (anonymous leaf end, u) ≡ (after_square leaf hole outer (hole ∷ outer) st).value (inl (end, u))
empty_leaves leaf hole outer st end u =
    bind_assoc (may_open leaf.at (length outer) st) (λ here. Ok (fresh here)) (λ value. up_of (hole ∷ outer) u value.term end.at value.state)

list_leaves : (leaf : Leaf) (hole : Hole) (outer : List Hole) (st : State) (list : Predicates) (end : Leaf) (u : Up (hole ∷ outer))
    → (objects hole outer st).value (properties leaf list end, u) ≡ (after_square leaf hole outer (hole ∷ outer) st).value (inr (list, end, u))
list_leaves leaf hole outer st list end u =
    let f : State → Result Read Fault = λ here. predicates_of list (suc (length outer)) (fresh here).term (fresh here).state >>= (λ after. Ok (read (fresh here).term after)) in
    let g : Read → Result State Fault = λ value. up_of (hole ∷ outer) u value.term end.at value.state in
    bind_assoc (may_open leaf.at (length outer) st) f g
    ∙ bind_same (may_open leaf.at (length outer) st) (λ here. f here >>= g)
    (λ here. within_of (hole ∷ outer) (hole ∷ outer) (inr (list, end, u)) (suc (length outer)) here.blanks (numbered here))
    (λ here. bind_assoc (predicates_of list (suc (length outer)) (fresh here).term (fresh here).state) (λ after. Ok (read (fresh here).term after)) g)

square_split : (leaf : Leaf) (hole : Hole) (outer : List Hole) (st : State) (object : Object) (u : Up (hole ∷ outer)) (rest : List Lexeme)
    → object_tokens object (up_tokens (hole ∷ outer) u) ≡ lexeme kinds.OpenSquare leaf ∷ rest
    → (y : Within (hole ∷ outer) (hole ∷ outer)) × (rest ≡ within_tokens (hole ∷ outer) (hole ∷ outer) y) × ((objects hole outer st).value (object, u) ≡ (after_square leaf hole outer (hole ∷ outer) st).value y)
square_split leaf hole outer st (anonymous start end) u rest e = (
  inl (end, u),
  sym (same_rest _ _ _ rest e),
  empty_leaves start hole outer st end u
      ∙ ap (λ (x : Leaf). (after_square x hole outer (hole ∷ outer) st).value (inl (end, u))) (same_leaf kinds.OpenSquare kinds.OpenSquare start leaf _ rest e),
)
square_split leaf hole outer st (properties start list end) u rest e = (
  inr (list, end, u),
  sym (same_rest _ _ _ rest e),
  list_leaves start hole outer st list end u
      ∙ ap (λ (x : Leaf). (after_square x hole outer (hole ∷ outer) st).value (inr (list, end, u))) (same_leaf kinds.OpenSquare kinds.OpenSquare start leaf _ rest e),
)
square_split leaf hole outer st object u rest e =
    let c = object_starts object (up_tokens (hole ∷ outer) u) rest kinds.OpenSquare leaf e in absurd (cc)

square_build : (leaf : Leaf) (hole : Hole) (outer : List Hole) (st : State) (y : Within (hole ∷ outer) (hole ∷ outer))
    → (x : Object × Up (hole ∷ outer)) × ((objects hole outer st).tokens x ≡ lexeme kinds.OpenSquare leaf ∷ within_tokens (hole ∷ outer) (hole ∷ outer) y)
    × ((objects hole outer st).value x ≡ (after_square leaf hole outer (hole ∷ outer) st).value y)
square_build leaf hole outer st (inl y) = ((anonymous leaf y.0, y.1), refl, empty_leaves leaf hole outer st y.0 y.1)
square_build leaf hole outer st (inr y) = ((properties leaf y.0 y.1, y.2), refl, list_leaves leaf hole outer st y.0 y.1 y.2)

pub square_takes : (leaf : Leaf) (hole : Hole) (outer : List Hole) (st : State) → Takes (objects hole outer st) (lexeme kinds.OpenSquare leaf) (after_square leaf hole outer (hole ∷ outer) st)
square_takes leaf hole outer st = record {
  build = λ y. square_build leaf hole outer st y;
  split = λ x rest e. square_split leaf hole outer st x.0 x.1 rest e;
}

-- the holes that any object may fill
abbrev pub IsInner : Hole → Type 0
IsInner holes.Subject = ⊥
IsInner holes.ListedSubject = ⊥
IsInner (holes.Object s p) = Unit {0}
IsInner (holes.Item first node) = Unit {0}

object_named : (name : Name) (hole : Hole) (outer : List Hole) (st : State)
    → IsRightFor (objects hole outer st) (name_lexeme name) (on (name_of name st) (λ iri. filled hole (name_at name) (terms.Iri iri) outer st))
object_named name hole outer st =
    takes (objects hole outer st) (name_lexeme name) (after_name name hole outer st) (on (name_of name st) (λ iri. filled hole (name_at name) (terms.Iri iri) outer st))
    (named_takes name hole outer st) (name_right (name_lexeme name) name hole outer st)

object_short : (shorthand : Shorthand) (leaf : Leaf) (hole : Hole) (outer : List Hole) (st : State)
    → IsRightFor (objects hole outer st) (lexeme (shorthand_kind shorthand) leaf) (filled hole leaf.at (terms.Literal leaf.text (datatype_of shorthand) []) outer st)
object_short shorthand leaf hole outer st =
    let t = lexeme (shorthand_kind shorthand) leaf in
    let literal : Term = terms.Literal leaf.text (datatype_of shorthand) [] in
    takes (objects hole outer st) t (after_short shorthand leaf hole outer st) (filled hole leaf.at literal outer st)
    (short_takes shorthand leaf hole outer st) (filled_right t hole leaf.at literal outer st)

object_quoted : (quoting : Quoting) (leaf : Leaf) (hole : Hole) (outer : List Hole) (st : State)
    → IsRightFor (objects hole outer st) (lexeme (quoting_kind quoting) leaf) (to (config (expect.Suffix (string_of quoting leaf.text) leaf.at hole) outer) st)
object_quoted quoting leaf hole outer st =
    moves (objects hole outer st) (lexeme (quoting_kind quoting) leaf) (config (expect.Suffix (string_of quoting leaf.text) leaf.at hole) outer) st (string_takes quoting leaf hole outer st)

object_square : (leaf : Leaf) (hole : Hole) (outer : List Hole) (st : State) → IsInner hole
    → IsRightFor (objects hole outer st) (lexeme kinds.OpenSquare leaf)
    (on (may_open leaf.at (length outer) st) (λ here. to (config (expect.Property here.blanks) (hole ∷ outer)) (numbered here)))
object_square leaf holes.Subject outer st inner = absurd inner
object_square leaf holes.ListedSubject outer st inner = absurd inner
object_square leaf (holes.Object s p) outer st inner =
    takes (objects (holes.Object s p) outer st) (lexeme kinds.OpenSquare leaf) (after_square leaf (holes.Object s p) outer (holes.Object s p ∷ outer) st)
    (on (may_open leaf.at (length outer) st) (λ here. to (config (expect.Property here.blanks) (holes.Object s p ∷ outer)) (numbered here)))
    (square_takes leaf (holes.Object s p) outer st) (square_right (lexeme kinds.OpenSquare leaf) leaf (holes.Object s p) outer st)
object_square leaf (holes.Item first node) outer st inner =
    takes (objects (holes.Item first node) outer st) (lexeme kinds.OpenSquare leaf) (after_square leaf (holes.Item first node) outer (holes.Item first node ∷ outer) st)
    (on (may_open leaf.at (length outer) st) (λ here. to (config (expect.Property here.blanks) (holes.Item first node ∷ outer)) (numbered here)))
    (square_takes leaf (holes.Item first node) outer st) (square_right (lexeme kinds.OpenSquare leaf) leaf (holes.Item first node) outer st)

object_stuck : (kind : TokenKind) (leaf : Leaf) (hole : Hole) (outer : List Hole) (st : State) → class_of kind ≡ no_object → HasNone (objects hole outer st) (lexeme kind leaf)
object_stuck kind leaf hole outer st k = λ x rest e. no_first x.0 (up_tokens (hole ∷ outer) x.1) rest kind leaf k e

-- the move at an object's first token is right
pub object_right : (kind : TokenKind) (leaf : Leaf) (hole : Hole) (outer : List Hole) (st : State) → IsInner hole
    → IsRightFor (objects hole outer st) (lexeme kind leaf) (begin_object kind hole leaf outer st)
object_right kinds.Iri leaf hole outer st inner = object_named (full leaf) hole outer st
object_right kinds.PrefixedName leaf hole outer st inner = object_named (prefixed leaf) hole outer st
object_right kinds.Namespace leaf hole outer st inner = object_named (bare leaf) hole outer st
object_right kinds.BlankLabel leaf hole outer st inner =
    takes (objects hole outer st) (lexeme kinds.BlankLabel leaf) (after_label leaf hole outer st) (begin_object kinds.BlankLabel hole leaf outer st)
    (label_takes leaf hole outer st) (label_right (lexeme kinds.BlankLabel leaf) leaf hole outer st)
object_right kinds.OpenSquare leaf hole outer st inner = object_square leaf hole outer st inner
object_right kinds.OpenRound leaf hole outer st inner =
    takes (objects hole outer st) (lexeme kinds.OpenRound leaf) (after_round leaf hole outer st) (begin_object kinds.OpenRound hole leaf outer st)
    (round_takes leaf hole outer st) (round_right (lexeme kinds.OpenRound leaf) leaf hole outer st)
object_right kinds.String leaf hole outer st inner = object_quoted double leaf hole outer st
object_right kinds.SingleString leaf hole outer st inner = object_quoted single leaf hole outer st
object_right kinds.LongString leaf hole outer st inner = object_quoted long_double leaf hole outer st
object_right kinds.LongSingleString leaf hole outer st inner = object_quoted long_single leaf hole outer st
object_right kinds.Integer leaf hole outer st inner = object_short integer leaf hole outer st
object_right kinds.Decimal leaf hole outer st inner = object_short decimal leaf hole outer st
object_right kinds.Double leaf hole outer st inner = object_short double_number leaf hole outer st
object_right kinds.True leaf hole outer st inner = object_short true_word leaf hole outer st
object_right kinds.False leaf hole outer st inner = object_short false_word leaf hole outer st
object_right kind leaf hole outer st inner = object_stuck kind leaf hole outer st refl
