-- Verbs, lists of objects and what ends a list of predicates.
use Rattle.std.proofs.Common.{◌≡◌, ℕ, zero, Bool, true, false, List, [], ◌∷◌, length, Option, Some, None, Result, Ok, refl, sym, ap, ◌∙◌}
use Rattle.triple_store.specs.declared.term.Term.{Term}
use Rattle.triple_store.specs.declared.term.Term.TheVariants as terms
use Rattle.turtle_grammar.specs.declared.token.TokenKind.{TokenKind}
use Rattle.turtle_grammar.specs.declared.token.TokenKind.TheVariants as kinds
use Rattle.turtle_grammar.specs.Tree.{Lexeme, Leaf, Name, Object, Predicates, Objects, More, lexeme, object_tokens, predicates_tokens, objects_tokens, more_tokens}
use Rattle.turtle_grammar.specs.Tree.Name.{full, prefixed, bare}
use Rattle.turtle_grammar.specs.Tree.Verb.{predicate, is_a}
use Rattle.turtle_grammar.specs.Tree.Predicates.{predicates}
use Rattle.turtle_grammar.specs.Tree.Objects.{one, several}
use Rattle.turtle_grammar.specs.Tree.More.{done, empty, next}
use Rattle.turtle_document.specs.Vocabulary.{rdf_type}
use Rattle.turtle_document.specs.Meaning.{Fault, State, ◌>>=◌, add, name_of, verb_of, object_of, object_end, objects_of, more_of}
use Rattle.turtle_document.specs.Machine.{config, on, filled, at_verb, at_end, after_object, after_semicolon, after_listed}
use Rattle.turtle_document.specs.Machine.Move.{to}
use Rattle.turtle_document.specs.declared.expected.Hole.{Hole}
use Rattle.turtle_document.specs.declared.expected.Expected.TheVariants as expect
use Rattle.turtle_document.proofs.Completion.{Tail, Behind, Up, up_tokens, up_of, tail_tokens, tail_of, behind_tokens, maybe_tokens, close_kind, tokens_by, completed_by}
use Rattle.turtle_document.proofs.Completion.Tail.{over, another}
use Rattle.turtle_document.proofs.Completion.Behind.{again, list}
use Rattle.turtle_document.proofs.Tools.{Trees, trees, partial, HasNone, IsRightFor, Same, same, takes, moves, arrives, tried, same_rest, same_kind, same_leaf, no, bind_assoc, bind_same}
use Rattle.turtle_document.proofs.Starts.{class_of, a_name, no_object, name_kind, name_leaf, name_lexeme, name_shape, name_class, same_name, starts_verb, no_verb}
use Rattle.turtle_document.proofs.Fill.{leaf_at, short_up, ups, filled_right}

-- A list of objects and what follows it is an object and what follows that.
abbrev joined_objects : Object → Tail → Objects
joined_objects object (over more) = one object
joined_objects object (another comma objects more) = several object comma objects

abbrev joined_more : Tail → More
joined_more (over more) = more
joined_more (another comma objects more) = more

abbrev first_of_objects : Objects → Object
first_of_objects (one object) = object
first_of_objects (several object comma objects) = object

abbrev tail_from : Objects → More → Tail
tail_from (one object) more = over more
tail_from (several object comma objects) more = another comma objects more

joined_tokens : (object : Object) (tail : Tail) (back : List Lexeme)
    → objects_tokens (joined_objects object tail) (more_tokens (joined_more tail) back) ≡ object_tokens object (tail_tokens tail back)
joined_tokens object (over more) back = refl
joined_tokens object (another comma objects more) back = refl

parted_tokens : (objects : Objects) (more : More) (back : List Lexeme)
    → objects_tokens objects (more_tokens more back) ≡ object_tokens (first_of_objects objects) (tail_tokens (tail_from objects more) back)
parted_tokens (one object) more back = refl
parted_tokens (several object comma objects) more back = refl

-- an object is read and its triple added
abbrev stated : Object → ℕ → Term → Term → State → Result State Fault
stated object n s p st = object_of object n st >>= (λ value. add (object_end object) s p value.term value.state)

-- an object, the rest of its list and what comes then
abbrev then_told : Object → Tail → ℕ → Term → Term → State → (State → Result State Fault) → Result State Fault
then_told object tail n s p st then_on = object_of object n st >>= (λ value. add (object_end object) s p value.term value.state >>= tail_of tail n s p >>= then_on)

joined_leaves : (object : Object) (tail : Tail) (n : ℕ) (s p : Term) (st : State)
    → objects_of (joined_objects object tail) n s p st >>= more_of (joined_more tail) n s
    ≡ object_of object n st >>= (λ value. add (object_end object) s p value.term value.state >>= tail_of tail n s p)
joined_leaves object (over more) n s p st =
    bind_assoc (object_of object n st) (λ value. add (object_end object) s p value.term value.state) (more_of more n s)
joined_leaves object (another comma objects more) n s p st =
    bind_assoc (stated object n s p st) (objects_of objects n s p) (more_of more n s)
    ∙ bind_assoc (object_of object n st) (λ value. add (object_end object) s p value.term value.state) (λ after. objects_of objects n s p after >>= more_of more n s)

joined_told : (object : Object) (tail : Tail) (n : ℕ) (s p : Term) (st : State) (then_on : State → Result State Fault)
    → objects_of (joined_objects object tail) n s p st >>= more_of (joined_more tail) n s >>= then_on ≡ then_told object tail n s p st then_on
joined_told object tail n s p st then_on =
    ap (λ (r : Result State Fault). r >>= then_on) (joined_leaves object tail n s p st)
    ∙ bind_assoc (object_of object n st) (λ value. add (object_end object) s p value.term value.state >>= tail_of tail n s p) then_on

parted_told : (objects : Objects) (more : More) (n : ℕ) (s p : Term) (st : State) (then_on : State → Result State Fault)
    → objects_of objects n s p st >>= more_of more n s >>= then_on ≡ then_told (first_of_objects objects) (tail_from objects more) n s p st then_on
parted_told (one object) more n s p st then_on = joined_told object (over more) n s p st then_on
parted_told (several object comma objects) more n s p st then_on = joined_told object (another comma objects more) n s p st then_on

-- what closes here, and what may come then
abbrev pub closing : (outer : List Hole) → Leaf → Up outer → List Lexeme
closing outer leaf u = lexeme (close_kind outer) leaf ∷ up_tokens outer u

-- Verbs.
abbrev Told : List Hole → Type 0
Told outer = Object × (Tail × Leaf × Up outer)

abbrev told_tokens : (outer : List Hole) → Told outer → List Lexeme
told_tokens outer y = object_tokens y.0 (tail_tokens y.1.0 (closing outer y.1.1 y.1.2))

abbrev after_verb : Name → Term → List Hole → State → Trees
after_verb name s outer st = trees (Told outer) (told_tokens outer) (λ y. name_of name st >>= (λ iri. completed_by (expect.Object s (terms.Iri iri)) outer y st))

verb_leaves : (name : Name) (s : Term) (outer : List Hole) (st : State) (objects : Objects) (more : More) (leaf : Leaf) (u : Up outer)
    → completed_by (expect.Verb s) outer (predicates (predicate name) objects more, leaf, u) st
    ≡ (after_verb name s outer st).value (first_of_objects objects, (tail_from objects more, leaf, u))
verb_leaves name s outer st objects more leaf u =
    let n = length outer in
    let read_name : Result Term Fault = verb_of (predicate name) st in
    let after : Term → Result State Fault = λ p. objects_of objects n s p st >>= more_of more n s in
    let then_on : State → Result State Fault = up_of outer u s leaf.at in
    bind_assoc read_name after then_on
    ∙ (bind_assoc (name_of name st) (λ iri. Ok (terms.Iri iri)) (λ p. after p >>= then_on)
    ∙ bind_same (name_of name st) (λ iri. after (terms.Iri iri) >>= then_on)
    (λ iri. then_told (first_of_objects objects) (tail_from objects more) n s (terms.Iri iri) st then_on)
    (λ iri. parted_told objects more n s (terms.Iri iri) st then_on))

verb_build : (name : Name) (s : Term) (outer : List Hole) (st : State) (object : Object) (tail : Tail) (leaf : Leaf) (u : Up outer)
    → (x : Predicates × Leaf × Up outer) × (tokens_by (expect.Verb s) outer x ≡ name_lexeme name ∷ told_tokens outer (object, (tail, leaf, u)))
    × (completed_by (expect.Verb s) outer x st ≡ (after_verb name s outer st).value (object, (tail, leaf, u)))
verb_build name s outer st object (over more) leaf u = (
  (predicates (predicate name) (one object) more, leaf, u),
  name_shape name (object_tokens object (more_tokens more (closing outer leaf u))),
  verb_leaves name s outer st (one object) more leaf u,
)
verb_build name s outer st object (another comma objects more) leaf u = (
  (predicates (predicate name) (several object comma objects) more, leaf, u),
  name_shape name (object_tokens object (lexeme kinds.Comma comma ∷ objects_tokens objects (more_tokens more (closing outer leaf u)))),
  verb_leaves name s outer st (several object comma objects) more leaf u,
)

verb_split : (name : Name) (s : Term) (outer : List Hole) (st : State) (tree : Predicates) (leaf : Leaf) (u : Up outer) (rest : List Lexeme)
    → predicates_tokens tree (closing outer leaf u) ≡ name_lexeme name ∷ rest
    → (y : Told outer) × (rest ≡ told_tokens outer y) × (completed_by (expect.Verb s) outer (tree, leaf, u) st ≡ (after_verb name s outer st).value y)
verb_split name s outer st (predicates (predicate other) objects more) leaf u rest e =
    let back = objects_tokens objects (more_tokens more (closing outer leaf u)) in
    let same_one = same_name other name back rest e in
    let y : Told outer = (first_of_objects objects, (tail_from objects more, leaf, u)) in (
      y,
      sym same_one.1 ∙ parted_tokens objects more (closing outer leaf u),
      verb_leaves other s outer st objects more leaf u ∙ ap (λ (x : Name). (after_verb x s outer st).value y) same_one.0,
    )
verb_split name s outer st (predicates (is_a l) objects more) leaf u rest e =
    let c : no_object ≡ a_name = ap class_of (same_kind kinds.A (name_kind name) l (name_leaf name) _ rest e) ∙ name_class name in absurd (cc)

verb_named : (name : Name) (s : Term) (outer : List Hole) (st : State)
    → IsRightFor (partial (config (expect.Verb s) outer) st) (name_lexeme name) (on (name_of name st) (λ iri. to (config (expect.Object s (terms.Iri iri)) outer) st))
verb_named name s outer st =
    let t = name_lexeme name in
    takes (partial (config (expect.Verb s) outer) st) t (after_verb name s outer st) (on (name_of name st) (λ iri. to (config (expect.Object s (terms.Iri iri)) outer) st))
    (record {
      build = λ y. verb_build name s outer st y.0 y.1.0 y.1.1 y.1.2;
      split = λ x rest e. verb_split name s outer st x.0 x.1 x.2 rest e;
    })
    (tried (name_of name st) (λ iri. to (config (expect.Object s (terms.Iri iri)) outer) st) (Told outer) (λ y. t ∷ told_tokens outer y)
    (λ iri y. completed_by (expect.Object s (terms.Iri iri)) outer y st) t
    ((Object.label (leaf_at zero), (over done, leaf_at zero, short_up zero outer)), told_tokens outer (Object.label (leaf_at zero), (over done, leaf_at zero, short_up zero outer)), refl)
    (λ iri. arrives t (config (expect.Object s (terms.Iri iri)) outer) st))

a_build : (at : Leaf) (s : Term) (outer : List Hole) (st : State) (object : Object) (tail : Tail) (leaf : Leaf) (u : Up outer)
    → (x : Predicates × Leaf × Up outer) × (tokens_by (expect.Verb s) outer x ≡ lexeme kinds.A at ∷ told_tokens outer (object, (tail, leaf, u)))
    × (completed_by (expect.Verb s) outer x st ≡ completed_by (expect.Object s (terms.Iri rdf_type)) outer (object, (tail, leaf, u)) st)
a_build at s outer st object (over more) leaf u =
    ((predicates (is_a at) (one object) more, leaf, u), refl, parted_told (one object) more (length outer) s (terms.Iri rdf_type) st (up_of outer u s leaf.at))
a_build at s outer st object (another comma objects more) leaf u = (
  (predicates (is_a at) (several object comma objects) more, leaf, u),
  refl,
  parted_told (several object comma objects) more (length outer) s (terms.Iri rdf_type) st (up_of outer u s leaf.at),
)

a_split : (at : Leaf) (s : Term) (outer : List Hole) (st : State) (tree : Predicates) (leaf : Leaf) (u : Up outer) (rest : List Lexeme)
    → predicates_tokens tree (closing outer leaf u) ≡ lexeme kinds.A at ∷ rest
    → (y : Told outer) × (rest ≡ told_tokens outer y) × (completed_by (expect.Verb s) outer (tree, leaf, u) st ≡ completed_by (expect.Object s (terms.Iri rdf_type)) outer y st)
a_split at s outer st (predicates (predicate other) objects more) leaf u rest e =
    let same_one = same_kind (name_kind other) kinds.A (name_leaf other) at (objects_tokens objects (more_tokens more (closing outer leaf u))) rest
    (sym (name_shape other (objects_tokens objects (more_tokens more (closing outer leaf u)))) ∙ e) in
    let c : a_name ≡ no_object = sym (name_class other) ∙ ap class_of same_one in absurd (cc)
a_split at s outer st (predicates (is_a l) objects more) leaf u rest e = (
  (first_of_objects objects, (tail_from objects more, leaf, u)),
  sym (same_rest _ _ (objects_tokens objects (more_tokens more (closing outer leaf u))) rest e) ∙ parted_tokens objects more (closing outer leaf u),
  parted_told objects more (length outer) s (terms.Iri rdf_type) st (up_of outer u s leaf.at),
)

verb_stuck : (kind : TokenKind) (leaf : Leaf) (s : Term) (outer : List Hole) (st : State) → starts_verb kind ≡ false
    → HasNone (partial (config (expect.Verb s) outer) st) (lexeme kind leaf)
verb_stuck kind leaf s outer st k = λ x rest e. no_verb x.0 (closing outer x.1 x.2) rest kind leaf k e

-- the move where a verb has to come is right
pub verb_right : (kind : TokenKind) (leaf : Leaf) (s : Term) (outer : List Hole) (st : State)
    → IsRightFor (partial (config (expect.Verb s) outer) st) (lexeme kind leaf) (at_verb kind leaf s outer st)
verb_right kinds.Iri leaf s outer st = verb_named (full leaf) s outer st
verb_right kinds.PrefixedName leaf s outer st = verb_named (prefixed leaf) s outer st
verb_right kinds.Namespace leaf s outer st = verb_named (bare leaf) s outer st
verb_right kinds.A leaf s outer st =
    moves (partial (config (expect.Verb s) outer) st) (lexeme kinds.A leaf) (config (expect.Object s (terms.Iri rdf_type)) outer) st
    (record {
      build = λ y. a_build leaf s outer st y.0 y.1.0 y.1.1 y.1.2;
      split = λ x rest e. a_split leaf s outer st x.0 x.1 x.2 rest e;
    })
verb_right kind leaf s outer st = verb_stuck kind leaf s outer st refl

-- Ends.
abbrev ends : Term → List Hole → State → Trees
ends s outer st = trees (Leaf × Up outer) (λ x. closing outer x.0 x.1) (λ x. up_of outer x.1 s x.0.at st)

abbrev is_close : TokenKind → Bool
is_close kinds.Dot = true
is_close kinds.CloseSquare = true
is_close _ = false

closes : (outer : List Hole) → is_close (close_kind outer) ≡ true
closes [] = refl
closes (hole ∷ outer) = refl

-- a token that closes nothing
not_closing : (outer : List Hole) (l : Leaf) (u : Up outer) (kind : TokenKind) (leaf : Leaf) (rest : List Lexeme) → is_close kind ≡ false → closing outer l u ≡ lexeme kind leaf ∷ rest → ⊥
not_closing outer l u kind leaf rest k e = no (sym k ∙ (sym (ap is_close (same_kind (close_kind outer) kind l leaf (up_tokens outer u) rest e)) ∙ closes outer))

pub end_right : (kind : TokenKind) (leaf : Leaf) (s : Term) (outer : List Hole) (st : State) → IsRightFor (ends s outer st) (lexeme kind leaf) (at_end kind leaf s outer st)
end_right kinds.Dot leaf s [] st =
    moves (ends s [] st) (lexeme kinds.Dot leaf) (config expect.Statement []) st
    (record {
      build = λ y. ((leaf, y), refl, refl);
      split = λ x rest e. (x.1, sym (same_rest _ _ _ rest e), refl);
    })
end_right kinds.Dot leaf s (hole ∷ outer) st = λ x rest e. let k : kinds.CloseSquare ≡ kinds.Dot = same_kind kinds.CloseSquare kinds.Dot x.0 leaf _ rest e in cc
end_right kinds.CloseSquare leaf s [] st = λ x rest e. let k : kinds.Dot ≡ kinds.CloseSquare = same_kind kinds.Dot kinds.CloseSquare x.0 leaf _ rest e in cc
end_right kinds.CloseSquare leaf s (hole ∷ outer) st =
    takes (ends s (hole ∷ outer) st) (lexeme kinds.CloseSquare leaf) (ups hole outer s leaf.at st) (filled hole leaf.at s outer st)
    (record {
      build = λ y. ((leaf, y), refl, refl);
      split = λ x rest e. (
        x.1,
        sym (same_rest _ _ _ rest e),
        ap (λ (l : Leaf). up_of (hole ∷ outer) x.1 s l.at st) (same_leaf kinds.CloseSquare kinds.CloseSquare x.0 leaf _ rest e),
      );
    })
    (filled_right (lexeme kinds.CloseSquare leaf) hole leaf.at s outer st)
end_right kind leaf s outer st = λ x rest e. not_closing outer x.0 x.1 kind leaf rest refl e

-- After an object.
abbrev continues : TokenKind → Bool
continues kinds.Comma = true
continues kinds.Semicolon = true
continues _ = false

another_split : (at : Leaf) (s p : Term) (outer : List Hole) (st : State) (tail : Tail) (leaf : Leaf) (u : Up outer) (rest : List Lexeme)
    → tail_tokens tail (closing outer leaf u) ≡ lexeme kinds.Comma at ∷ rest
    → (y : Told outer) × (rest ≡ told_tokens outer y) × (completed_by (expect.AfterObject s p) outer (tail, leaf, u) st ≡ completed_by (expect.Object s p) outer y st)
another_split at s p outer st (over done) leaf u rest e = absurd (not_closing outer leaf u kinds.Comma at rest refl e)
another_split at s p outer st (over (empty l more)) leaf u rest e = let k : kinds.Semicolon ≡ kinds.Comma = same_kind kinds.Semicolon kinds.Comma l at _ rest e in absurd (cc)
another_split at s p outer st (over (next l more)) leaf u rest e = let k : kinds.Semicolon ≡ kinds.Comma = same_kind kinds.Semicolon kinds.Comma l at _ rest e in absurd (cc)
another_split at s p outer st (another comma objects more) leaf u rest e = (
  (first_of_objects objects, (tail_from objects more, leaf, u)),
  sym (same_rest _ _ (objects_tokens objects (more_tokens more (closing outer leaf u))) rest e) ∙ parted_tokens objects more (closing outer leaf u),
  parted_told objects more (length outer) s p st (up_of outer u s leaf.at),
)

semicolon_split : (at : Leaf) (s p : Term) (outer : List Hole) (st : State) (tail : Tail) (leaf : Leaf) (u : Up outer) (rest : List Lexeme)
    → tail_tokens tail (closing outer leaf u) ≡ lexeme kinds.Semicolon at ∷ rest
    → (y : Behind × Leaf × Up outer) × (rest ≡ tokens_by (expect.AfterSemicolon s) outer y)
    × (completed_by (expect.AfterObject s p) outer (tail, leaf, u) st ≡ completed_by (expect.AfterSemicolon s) outer y st)
semicolon_split at s p outer st (over done) leaf u rest e = absurd (not_closing outer leaf u kinds.Semicolon at rest refl e)
semicolon_split at s p outer st (over (empty l more)) leaf u rest e = ((again more, leaf, u), sym (same_rest _ _ _ rest e), refl)
semicolon_split at s p outer st (over (next l more)) leaf u rest e = ((list more, leaf, u), sym (same_rest _ _ _ rest e), refl)
semicolon_split at s p outer st (another comma objects more) leaf u rest e =
    let k : kinds.Comma ≡ kinds.Semicolon = same_kind kinds.Comma kinds.Semicolon comma at _ rest e in absurd (cc)

semicolon_build : (at : Leaf) (s p : Term) (outer : List Hole) (st : State) (tree : Behind) (leaf : Leaf) (u : Up outer)
    → (x : Tail × Leaf × Up outer) × (tokens_by (expect.AfterObject s p) outer x ≡ lexeme kinds.Semicolon at ∷ tokens_by (expect.AfterSemicolon s) outer (tree, leaf, u))
    × (completed_by (expect.AfterObject s p) outer x st ≡ completed_by (expect.AfterSemicolon s) outer (tree, leaf, u) st)
semicolon_build at s p outer st (again more) leaf u = ((over (empty at more), leaf, u), refl, refl)
semicolon_build at s p outer st (list more) leaf u = ((over (next at more), leaf, u), refl, refl)

over_split : (kind : TokenKind) (at : Leaf) (s p : Term) (outer : List Hole) (st : State) (tail : Tail) (leaf : Leaf) (u : Up outer) (rest : List Lexeme) → continues kind ≡ false
    → tail_tokens tail (closing outer leaf u) ≡ lexeme kind at ∷ rest
    → (y : Leaf × Up outer) × (closing outer y.0 y.1 ≡ lexeme kind at ∷ rest) × (completed_by (expect.AfterObject s p) outer (tail, leaf, u) st ≡ up_of outer y.1 s y.0.at st)
over_split kind at s p outer st (over done) leaf u rest c e = ((leaf, u), e, refl)
over_split kind at s p outer st (over (empty l more)) leaf u rest c e =
    let k : true ≡ continues kind = ap continues (same_kind kinds.Semicolon kind l at _ rest e) in absurd (no (sym c ∙ sym k))
over_split kind at s p outer st (over (next l more)) leaf u rest c e =
    let k : true ≡ continues kind = ap continues (same_kind kinds.Semicolon kind l at _ rest e) in absurd (no (sym c ∙ sym k))
over_split kind at s p outer st (another comma objects more) leaf u rest c e =
    let k : true ≡ continues kind = ap continues (same_kind kinds.Comma kind comma at _ rest e) in absurd (no (sym c ∙ sym k))

object_over : (kind : TokenKind) (at : Leaf) (s p : Term) (outer : List Hole) (st : State) → continues kind ≡ false
    → Same (partial (config (expect.AfterObject s p) outer) st) (ends s outer st) (lexeme kind at)
object_over kind at s p outer st c = record {
  build = λ y rest e. ((over done, y.0, y.1), e, refl);
  split = λ x rest e. over_split kind at s p outer st x.0 x.1 x.2 rest c e;
}

comma_build : (at : Leaf) (s p : Term) (outer : List Hole) (st : State) (object : Object) (tail : Tail) (leaf : Leaf) (u : Up outer)
    → (x : Tail × Leaf × Up outer) × (tokens_by (expect.AfterObject s p) outer x ≡ lexeme kinds.Comma at ∷ told_tokens outer (object, (tail, leaf, u)))
    × (completed_by (expect.AfterObject s p) outer x st ≡ completed_by (expect.Object s p) outer (object, (tail, leaf, u)) st)
comma_build at s p outer st object (over more) leaf u =
    ((another at (one object) more, leaf, u), refl, parted_told (one object) more (length outer) s p st (up_of outer u s leaf.at))
comma_build at s p outer st object (another comma objects more) leaf u =
    ((another at (several object comma objects) more, leaf, u), refl, parted_told (several object comma objects) more (length outer) s p st (up_of outer u s leaf.at))

-- the move after an object is right
pub after_object_right : (kind : TokenKind) (leaf : Leaf) (s p : Term) (outer : List Hole) (st : State)
    → IsRightFor (partial (config (expect.AfterObject s p) outer) st) (lexeme kind leaf) (after_object kind leaf s p outer st)
after_object_right kinds.Comma leaf s p outer st =
    moves (partial (config (expect.AfterObject s p) outer) st) (lexeme kinds.Comma leaf) (config (expect.Object s p) outer) st
    (record {
      build = λ y. comma_build leaf s p outer st y.0 y.1.0 y.1.1 y.1.2;
      split = λ x rest e. another_split leaf s p outer st x.0 x.1 x.2 rest e;
    })
after_object_right kinds.Semicolon leaf s p outer st =
    moves (partial (config (expect.AfterObject s p) outer) st) (lexeme kinds.Semicolon leaf) (config (expect.AfterSemicolon s) outer) st
    (record {
      build = λ y. semicolon_build leaf s p outer st y.0 y.1 y.2;
      split = λ x rest e. semicolon_split leaf s p outer st x.0 x.1 x.2 rest e;
    })
after_object_right kind leaf s p outer st =
    same (partial (config (expect.AfterObject s p) outer) st) (ends s outer st) (lexeme kind leaf) (at_end kind leaf s outer st)
    (object_over kind leaf s p outer st refl) (end_right kind leaf s outer st)

-- After a `;`.
abbrev goes_on : TokenKind → Bool
goes_on kinds.Semicolon = true
goes_on kinds.Dot = true
goes_on kinds.CloseSquare = true
goes_on _ = false

goes_on_closed : (outer : List Hole) → goes_on (close_kind outer) ≡ true
goes_on_closed [] = refl
goes_on_closed (hole ∷ outer) = refl

again_split : (at : Leaf) (s : Term) (outer : List Hole) (st : State) (tree : Behind) (leaf : Leaf) (u : Up outer) (rest : List Lexeme)
    → behind_tokens tree (closing outer leaf u) ≡ lexeme kinds.Semicolon at ∷ rest
    → (y : Behind × Leaf × Up outer) × (rest ≡ tokens_by (expect.AfterSemicolon s) outer y)
    × (completed_by (expect.AfterSemicolon s) outer (tree, leaf, u) st ≡ completed_by (expect.AfterSemicolon s) outer y st)
again_split at s outer st (again done) leaf u rest e = absurd (not_closing outer leaf u kinds.Semicolon at rest refl e)
again_split at s outer st (again (empty l more)) leaf u rest e = ((again more, leaf, u), sym (same_rest _ _ _ rest e), refl)
again_split at s outer st (again (next l more)) leaf u rest e = ((list more, leaf, u), sym (same_rest _ _ _ rest e), refl)
again_split at s outer st (list more) leaf u rest e = absurd (no_verb more (closing outer leaf u) rest kinds.Semicolon at refl e)

again_build : (at : Leaf) (s : Term) (outer : List Hole) (st : State) (tree : Behind) (leaf : Leaf) (u : Up outer)
    → (x : Behind × Leaf × Up outer) × (tokens_by (expect.AfterSemicolon s) outer x ≡ lexeme kinds.Semicolon at ∷ tokens_by (expect.AfterSemicolon s) outer (tree, leaf, u))
    × (completed_by (expect.AfterSemicolon s) outer x st ≡ completed_by (expect.AfterSemicolon s) outer (tree, leaf, u) st)
again_build at s outer st (again more) leaf u = ((again (empty at more), leaf, u), refl, refl)
again_build at s outer st (list more) leaf u = ((again (next at more), leaf, u), refl, refl)

semicolon_end : (kind : TokenKind) (at : Leaf) (s : Term) (outer : List Hole) (st : State) (tree : Behind) (leaf : Leaf) (u : Up outer) (rest : List Lexeme) → is_close kind ≡ true → starts_verb kind ≡ false
    → behind_tokens tree (closing outer leaf u) ≡ lexeme kind at ∷ rest
    → (y : Leaf × Up outer) × (closing outer y.0 y.1 ≡ lexeme kind at ∷ rest) × (completed_by (expect.AfterSemicolon s) outer (tree, leaf, u) st ≡ up_of outer y.1 s y.0.at st)
semicolon_end kind at s outer st (again done) leaf u rest c v e = ((leaf, u), e, refl)
semicolon_end kind at s outer st (again (empty l more)) leaf u rest c v e =
    let k : false ≡ is_close kind = ap is_close (same_kind kinds.Semicolon kind l at _ rest e) in absurd (no (k ∙ c))
semicolon_end kind at s outer st (again (next l more)) leaf u rest c v e =
    let k : false ≡ is_close kind = ap is_close (same_kind kinds.Semicolon kind l at _ rest e) in absurd (no (k ∙ c))
semicolon_end kind at s outer st (list more) leaf u rest c v e = absurd (no_verb more (closing outer leaf u) rest kind at v e)

semicolon_ends : (kind : TokenKind) (at : Leaf) (s : Term) (outer : List Hole) (st : State) → is_close kind ≡ true → starts_verb kind ≡ false
    → Same (partial (config (expect.AfterSemicolon s) outer) st) (ends s outer st) (lexeme kind at)
semicolon_ends kind at s outer st c v = record {
  build = λ y rest e. ((again done, y.0, y.1), e, refl);
  split = λ x rest e. semicolon_end kind at s outer st x.0 x.1 x.2 rest c v e;
}

semicolon_verb : (kind : TokenKind) (at : Leaf) (s : Term) (outer : List Hole) (st : State) (tree : Behind) (leaf : Leaf) (u : Up outer) (rest : List Lexeme) → goes_on kind ≡ false
    → behind_tokens tree (closing outer leaf u) ≡ lexeme kind at ∷ rest
    → (y : Predicates × Leaf × Up outer) × (tokens_by (expect.Verb s) outer y ≡ lexeme kind at ∷ rest)
    × (completed_by (expect.AfterSemicolon s) outer (tree, leaf, u) st ≡ completed_by (expect.Verb s) outer y st)
semicolon_verb kind at s outer st (again done) leaf u rest c e =
    let k = ap goes_on (same_kind (close_kind outer) kind leaf at (up_tokens outer u) rest e) in absurd (no (sym c ∙ (sym k ∙ goes_on_closed outer)))
semicolon_verb kind at s outer st (again (empty l more)) leaf u rest c e =
    let k : true ≡ goes_on kind = ap goes_on (same_kind kinds.Semicolon kind l at _ rest e) in absurd (no (sym c ∙ sym k))
semicolon_verb kind at s outer st (again (next l more)) leaf u rest c e =
    let k : true ≡ goes_on kind = ap goes_on (same_kind kinds.Semicolon kind l at _ rest e) in absurd (no (sym c ∙ sym k))
semicolon_verb kind at s outer st (list more) leaf u rest c e = ((more, leaf, u), e, refl)

semicolon_verbs : (kind : TokenKind) (at : Leaf) (s : Term) (outer : List Hole) (st : State) → goes_on kind ≡ false
    → Same (partial (config (expect.AfterSemicolon s) outer) st) (partial (config (expect.Verb s) outer) st) (lexeme kind at)
semicolon_verbs kind at s outer st c = record {
  build = λ y rest e. ((list y.0, y.1, y.2), e, refl);
  split = λ x rest e. semicolon_verb kind at s outer st x.0 x.1 x.2 rest c e;
}

-- the move after a `;` is right
pub after_semicolon_right : (kind : TokenKind) (leaf : Leaf) (s : Term) (outer : List Hole) (st : State)
    → IsRightFor (partial (config (expect.AfterSemicolon s) outer) st) (lexeme kind leaf) (after_semicolon kind leaf s outer st)
after_semicolon_right kinds.Semicolon leaf s outer st =
    moves (partial (config (expect.AfterSemicolon s) outer) st) (lexeme kinds.Semicolon leaf) (config (expect.AfterSemicolon s) outer) st
    (record {
      build = λ y. again_build leaf s outer st y.0 y.1 y.2;
      split = λ x rest e. again_split leaf s outer st x.0 x.1 x.2 rest e;
    })
after_semicolon_right kinds.Dot leaf s outer st =
    same (partial (config (expect.AfterSemicolon s) outer) st) (ends s outer st) (lexeme kinds.Dot leaf) (at_end kinds.Dot leaf s outer st)
    (semicolon_ends kinds.Dot leaf s outer st refl refl) (end_right kinds.Dot leaf s outer st)
after_semicolon_right kinds.CloseSquare leaf s outer st =
    same (partial (config (expect.AfterSemicolon s) outer) st) (ends s outer st) (lexeme kinds.CloseSquare leaf) (at_end kinds.CloseSquare leaf s outer st)
    (semicolon_ends kinds.CloseSquare leaf s outer st refl refl) (end_right kinds.CloseSquare leaf s outer st)
after_semicolon_right kind leaf s outer st =
    same (partial (config (expect.AfterSemicolon s) outer) st) (partial (config (expect.Verb s) outer) st) (lexeme kind leaf) (at_verb kind leaf s outer st)
    (semicolon_verbs kind leaf s outer st refl) (verb_right kind leaf s outer st)

-- After a subject in brackets.
listed_end : (kind : TokenKind) (at : Leaf) (s : Term) (outer : List Hole) (st : State) (tree : Option Predicates) (leaf : Leaf) (u : Up outer) (rest : List Lexeme) → starts_verb kind ≡ false
    → maybe_tokens tree (closing outer leaf u) ≡ lexeme kind at ∷ rest
    → (y : Leaf × Up outer) × (closing outer y.0 y.1 ≡ lexeme kind at ∷ rest) × (completed_by (expect.AfterListed s) outer (tree, leaf, u) st ≡ up_of outer y.1 s y.0.at st)
listed_end kind at s outer st None leaf u rest v e = ((leaf, u), e, refl)
listed_end kind at s outer st (Some more) leaf u rest v e = absurd (no_verb more (closing outer leaf u) rest kind at v e)

listed_ends : (kind : TokenKind) (at : Leaf) (s : Term) (outer : List Hole) (st : State) → starts_verb kind ≡ false
    → Same (partial (config (expect.AfterListed s) outer) st) (ends s outer st) (lexeme kind at)
listed_ends kind at s outer st v = record {
  build = λ y rest e. ((None, y.0, y.1), e, refl);
  split = λ x rest e. listed_end kind at s outer st x.0 x.1 x.2 rest v e;
}

listed_verb : (kind : TokenKind) (at : Leaf) (s : Term) (outer : List Hole) (st : State) (tree : Option Predicates) (leaf : Leaf) (u : Up outer) (rest : List Lexeme) → is_close kind ≡ false
    → maybe_tokens tree (closing outer leaf u) ≡ lexeme kind at ∷ rest
    → (y : Predicates × Leaf × Up outer) × (tokens_by (expect.Verb s) outer y ≡ lexeme kind at ∷ rest)
    × (completed_by (expect.AfterListed s) outer (tree, leaf, u) st ≡ completed_by (expect.Verb s) outer y st)
listed_verb kind at s outer st None leaf u rest c e = absurd (not_closing outer leaf u kind at rest c e)
listed_verb kind at s outer st (Some more) leaf u rest c e = ((more, leaf, u), e, refl)

listed_verbs : (kind : TokenKind) (at : Leaf) (s : Term) (outer : List Hole) (st : State) → is_close kind ≡ false
    → Same (partial (config (expect.AfterListed s) outer) st) (partial (config (expect.Verb s) outer) st) (lexeme kind at)
listed_verbs kind at s outer st c = record {
  build = λ y rest e. ((Some y.0, y.1, y.2), e, refl);
  split = λ x rest e. listed_verb kind at s outer st x.0 x.1 x.2 rest c e;
}

-- the move after a subject in brackets is right
pub after_listed_right : (kind : TokenKind) (leaf : Leaf) (s : Term) (outer : List Hole) (st : State)
    → IsRightFor (partial (config (expect.AfterListed s) outer) st) (lexeme kind leaf) (after_listed kind leaf s outer st)
after_listed_right kinds.Dot leaf s outer st =
    same (partial (config (expect.AfterListed s) outer) st) (ends s outer st) (lexeme kinds.Dot leaf) (at_end kinds.Dot leaf s outer st)
    (listed_ends kinds.Dot leaf s outer st refl) (end_right kinds.Dot leaf s outer st)
after_listed_right kinds.CloseSquare leaf s outer st =
    same (partial (config (expect.AfterListed s) outer) st) (ends s outer st) (lexeme kinds.CloseSquare leaf) (at_end kinds.CloseSquare leaf s outer st)
    (listed_ends kinds.CloseSquare leaf s outer st refl) (end_right kinds.CloseSquare leaf s outer st)
after_listed_right kind leaf s outer st =
    same (partial (config (expect.AfterListed s) outer) st) (partial (config (expect.Verb s) outer) st) (lexeme kind leaf) (at_verb kind leaf s outer st)
    (listed_verbs kind leaf s outer st refl) (verb_right kind leaf s outer st)
