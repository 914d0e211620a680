-- After a string, and its datatype.
use Rattle.std.proofs.Common.{◌≡◌, ◌≢◌, ℕ, zero, Bool, true, false, List, [], ◌∷◌, length, Some, Result, Ok, Err, if◌then◌else◌, refl, sym, ap, ◌∙◌, subst}
use Rattle.triple_store.specs.declared.term.Term.{Term}
use Rattle.triple_store.specs.declared.term.Term.TheVariants as terms
use Rattle.turtle_grammar.specs.declared.token.TokenKind.{TokenKind}
use Rattle.turtle_grammar.specs.declared.token.TokenKind.TheVariants as kinds
use Rattle.turtle_grammar.specs.Tree.{Lexeme, Leaf, Name, Suffix, Object, lexeme, name_tokens, suffix_tokens, items_tokens}
use Rattle.turtle_grammar.specs.Tree.Name.{full, prefixed, bare}
use Rattle.turtle_grammar.specs.Tree.Suffix.{nothing, language, datatype}
use Rattle.turtle_grammar.specs.Tree.Items.{none, item}
use Rattle.turtle_grammar.specs.Tree.Objects.{one}
use Rattle.turtle_grammar.specs.Tree.More.{done, empty}
use Rattle.turtle_grammar.specs.Value.{tag_of}
use Rattle.turtle_document.specs.Vocabulary.{rdf_first, rdf_lang_string, xsd_string}
use Rattle.turtle_document.specs.Meaning.{Fault, State, ◌>>=◌, add, name_of, name_at, items_of}
use Rattle.turtle_document.specs.Machine.{config, Move, on, filled, begins_object, plain_move, follows, onward, after_string}
use Rattle.turtle_document.specs.Machine.Move.{to, stuck}
use Rattle.turtle_document.specs.declared.expected.Hole.{Hole}
use Rattle.turtle_document.specs.declared.expected.Hole.TheVariants as holes
use Rattle.turtle_document.specs.declared.expected.Chain.TheVariants as chains
use Rattle.turtle_document.specs.declared.expected.Expected.TheVariants as expect
use Rattle.turtle_document.proofs.Completion.{Up, up_tokens, up_of, tail_of, completed_by}
use Rattle.turtle_document.proofs.Completion.Tail.{over, another}
use Rattle.turtle_document.proofs.Tools.{Trees, trees, partial, Has, HasNone, IsRightFor, Same, same, takes, moves, tried, same_rest, same_kind, same_leaf, no, bind_assoc}
use Rattle.turtle_document.proofs.Starts.{class_of, a_name, name_lexeme, name_shape, name_starts, same_name, no_class, begun}
use Rattle.turtle_document.proofs.Fill.{short_up, ups, filled_right}
use Rattle.turtle_document.proofs.Lists.{after_object_right}
use Rattle.turtle_document.proofs.Collections.{item_stuck, collection_right}

-- A datatype.
typed_split : (name : Name) (text : List ℕ) (hole : Hole) (outer : List Hole) (st : State) (other : Name) (u : Up (hole ∷ outer)) (rest : List Lexeme)
    → name_tokens other (up_tokens (hole ∷ outer) u) ≡ name_lexeme name ∷ rest
    → (y : Up (hole ∷ outer)) × (rest ≡ up_tokens (hole ∷ outer) y)
    × (completed_by (expect.Datatype text hole) outer (other, u) st ≡ completed_by (expect.Datatype text hole) outer (name, y) st)
typed_split name text hole outer st other u rest e =
    let same_one = same_name other name (up_tokens (hole ∷ outer) u) rest e in
    (u, sym same_one.1, ap (λ (x : Name). completed_by (expect.Datatype text hole) outer (x, u) st) same_one.0)

typed_right : (name : Name) (text : List ℕ) (hole : Hole) (outer : List Hole) (st : State)
    → IsRightFor (partial (config (expect.Datatype text hole) outer) st) (name_lexeme name)
    (on (name_of name st) (λ iri. filled hole (name_at name) (terms.Literal text iri []) outer st))
typed_right name text hole outer st =
    let t = name_lexeme name in
    let go : List ℕ → Move = λ iri. filled hole (name_at name) (terms.Literal text iri []) outer st in
    takes (partial (config (expect.Datatype text hole) outer) st) t
    (trees (Up (hole ∷ outer)) (up_tokens (hole ∷ outer)) (λ u. completed_by (expect.Datatype text hole) outer (name, u) st))
    (on (name_of name st) go)
    (record {
      build = λ y. ((name, y), name_shape name (up_tokens (hole ∷ outer) y), refl);
      split = λ x rest e. typed_split name text hole outer st x.0 x.1 rest e;
    })
    (tried (name_of name st) go (Up (hole ∷ outer)) (λ u. t ∷ up_tokens (hole ∷ outer) u)
    (λ iri u. up_of (hole ∷ outer) u (terms.Literal text iri []) (name_at name) st) t
    (short_up zero (hole ∷ outer), up_tokens (hole ∷ outer) (short_up zero (hole ∷ outer)), refl)
    (λ iri. filled_right t hole (name_at name) (terms.Literal text iri []) outer st))

typed_stuck : (kind : TokenKind) (leaf : Leaf) (text : List ℕ) (hole : Hole) (outer : List Hole) (st : State) → class_of kind ≢ a_name
    → HasNone (partial (config (expect.Datatype text hole) outer) st) (lexeme kind leaf)
typed_stuck kind leaf text hole outer st k = λ x rest e. k (sym (name_starts x.0 (up_tokens (hole ∷ outer) x.1) rest kind leaf e))

-- the move where a datatype has to come is right
pub datatype_right : (kind : TokenKind) (leaf : Leaf) (text : List ℕ) (hole : Hole) (outer : List Hole) (st : State)
    → IsRightFor (partial (config (expect.Datatype text hole) outer) st) (lexeme kind leaf) (plain_move (expect.Datatype text hole) outer kind leaf st)
datatype_right kinds.Iri leaf text hole outer st = typed_right (full leaf) text hole outer st
datatype_right kinds.PrefixedName leaf text hole outer st = typed_right (prefixed leaf) text hole outer st
datatype_right kinds.Namespace leaf text hole outer st = typed_right (bare leaf) text hole outer st
datatype_right kind leaf text hole outer st = typed_stuck kind leaf text hole outer st (λ k. (cc))

-- A string that fills its hole before the token after it is judged.
abbrev object_ups : Term → Term → List Hole → Result State Fault → Trees
object_ups s p outer r =
    trees (Up (holes.Object s p ∷ outer)) (up_tokens (holes.Object s p ∷ outer)) (λ u. r >>= tail_of u.0 (length outer) s p >>= up_of outer u.2 s u.1.at)

object_onward : (kind : TokenKind) (leaf : Leaf) (s p : Term) (outer : List Hole) (r : Result State Fault)
    → Has (object_ups s p outer r) (lexeme kind leaf)
    → IsRightFor (object_ups s p outer r) (lexeme kind leaf) (onward (on r (to (config (expect.AfterObject s p) outer))) kind leaf)
object_onward kind leaf s p outer (Ok after) h = after_object_right kind leaf s p outer after
object_onward kind leaf s p outer (Err fault) h = record { there = h; each = λ x rest e. refl }

abbrev item_ups : ℕ → ℕ → List Hole → Result State Fault → Trees
item_ups first node outer r =
    trees (Up (holes.Item first node ∷ outer)) (up_tokens (holes.Item first node ∷ outer))
    (λ u. r >>= items_of u.0 (length outer) (Some node) u.1.at >>= (λ rest. up_of outer u.2 (terms.Blank first) u.1.at rest.state))

item_onward : (kind : TokenKind) (leaf : Leaf) (first node : ℕ) (hole : Hole) (outer : List Hole) (r : Result State Fault)
    → Has (item_ups first node (hole ∷ outer) r) (lexeme kind leaf)
    → IsRightFor (item_ups first node (hole ∷ outer) r) (lexeme kind leaf) (onward (on r (to (config (expect.Item (chains.Nodes first node)) (hole ∷ outer)))) kind leaf)
item_onward kind leaf first node hole outer (Ok after) h = collection_right kind leaf (chains.Nodes first node) hole outer after
item_onward kind leaf first node hole outer (Err fault) h = record { there = h; each = λ x rest e. refl }

abbrev judged : Hole → ℕ → Term → List Hole → State → TokenKind → Leaf → Move
judged hole at term outer st kind leaf = if follows hole outer kind then onward (filled hole at term outer st) kind leaf else stuck

object_judged : (kind : TokenKind) (leaf : Leaf) (s p : Term) (at : ℕ) (term : Term) (outer : List Hole) (st : State)
    → IsRightFor (ups (holes.Object s p) outer term at st) (lexeme kind leaf) (judged (holes.Object s p) at term outer st kind leaf)
object_judged kinds.Comma leaf s p at term outer st =
    object_onward kinds.Comma leaf s p outer (add at s p term st) ((another leaf (one (Object.label leaf)) done, leaf, short_up zero outer), _, refl)
object_judged kinds.Semicolon leaf s p at term outer st =
    object_onward kinds.Semicolon leaf s p outer (add at s p term st) ((over (empty leaf done), leaf, short_up zero outer), _, refl)
object_judged kinds.Dot leaf s p at term [] st =
    object_onward kinds.Dot leaf s p [] (add at s p term st) ((over done, leaf, []), _, refl)
object_judged kinds.CloseSquare leaf s p at term (hole ∷ outer) st =
    object_onward kinds.CloseSquare leaf s p (hole ∷ outer) (add at s p term st) ((over done, leaf, short_up zero (hole ∷ outer)), _, refl)
object_judged kind leaf s p at term [] st = after_object_right kind leaf s p [] st
object_judged kind leaf s p at term (hole ∷ outer) st = after_object_right kind leaf s p (hole ∷ outer) st

item_judged_by : (kind : TokenKind) (leaf : Leaf) (first node : ℕ) (at : ℕ) (term : Term) (hole : Hole) (outer : List Hole) (st : State) (b : Bool)
    → begins_object kind ≡ b → (b ≡ false → HasNone (partial (config (expect.Item (chains.Nodes first node)) (hole ∷ outer)) st) (lexeme kind leaf))
    → IsRightFor (ups (holes.Item first node) (hole ∷ outer) term at st) (lexeme kind leaf)
    (if b then onward (filled (holes.Item first node) at term (hole ∷ outer) st) kind leaf else stuck)
item_judged_by kind leaf first node at term hole outer st true b h =
    let o = begun kind leaf b in
    let more = o.1 (items_tokens none (lexeme kinds.CloseRound leaf ∷ up_tokens (hole ∷ outer) (short_up zero (hole ∷ outer)))) in
    item_onward kind leaf first node hole outer (add at (terms.Blank node) (terms.Iri rdf_first) term st)
    ((item o.0 none, leaf, short_up zero (hole ∷ outer)), more.0, more.1)
item_judged_by kind leaf first node at term hole outer st false b h = h refl

item_judged : (kind : TokenKind) (leaf : Leaf) (first node : ℕ) (at : ℕ) (term : Term) (hole : Hole) (outer : List Hole) (st : State)
    → IsRightFor (ups (holes.Item first node) (hole ∷ outer) term at st) (lexeme kind leaf) (judged (holes.Item first node) at term (hole ∷ outer) st kind leaf)
item_judged kinds.CloseRound leaf first node at term hole outer st =
    item_onward kinds.CloseRound leaf first node hole outer (add at (terms.Blank node) (terms.Iri rdf_first) term st)
    ((none, leaf, short_up zero (hole ∷ outer)), up_tokens (hole ∷ outer) (short_up zero (hole ∷ outer)), refl)
item_judged kind leaf first node at term hole outer st =
    item_judged_by kind leaf first node at term hole outer st (begins_object kind) refl
    (λ b. item_stuck kind leaf (chains.Nodes first node) (hole ∷ outer) st (no_class kind b) refl)

-- where a string may wait
abbrev pub MayWait : Hole → List Hole → Type 0
MayWait holes.Subject outer = ⊥
MayWait holes.ListedSubject outer = ⊥
MayWait (holes.Object s p) outer = Unit {0}
MayWait (holes.Item first node) [] = ⊥
MayWait (holes.Item first node) (hole ∷ outer) = Unit {0}

judged_right : (kind : TokenKind) (leaf : Leaf) (hole : Hole) (at : ℕ) (term : Term) (outer : List Hole) (st : State) → MayWait hole outer
    → IsRightFor (ups hole outer term at st) (lexeme kind leaf) (judged hole at term outer st kind leaf)
judged_right kind leaf holes.Subject at term outer st may = absurd may
judged_right kind leaf holes.ListedSubject at term outer st may = absurd may
judged_right kind leaf (holes.Object s p) at term outer st may = object_judged kind leaf s p at term outer st
judged_right kind leaf (holes.Item first node) at term [] st may = absurd may
judged_right kind leaf (holes.Item first node) at term (hole ∷ outer) st may = item_judged kind leaf first node at term hole outer st

-- what a string has after it
abbrev is_suffix : TokenKind → Bool
is_suffix kinds.LanguageTag = true
is_suffix kinds.DoubleCaret = true
is_suffix _ = false

plain_split : (kind : TokenKind) (leaf : Leaf) (text : List ℕ) (at : ℕ) (hole : Hole) (outer : List Hole) (st : State) (suffix : Suffix) (u : Up (hole ∷ outer)) (rest : List Lexeme) → is_suffix kind ≡ false
    → suffix_tokens suffix (up_tokens (hole ∷ outer) u) ≡ lexeme kind leaf ∷ rest
    → (y : Up (hole ∷ outer)) × (up_tokens (hole ∷ outer) y ≡ lexeme kind leaf ∷ rest)
    × (completed_by (expect.Suffix text at hole) outer (suffix, u) st ≡ up_of (hole ∷ outer) y (terms.Literal text xsd_string []) at st)
plain_split kind leaf text at hole outer st nothing u rest c e = (u, e, refl)
plain_split kind leaf text at hole outer st (language tag) u rest c e =
    let k : true ≡ is_suffix kind = ap is_suffix (same_kind kinds.LanguageTag kind tag leaf (up_tokens (hole ∷ outer) u) rest e) in absurd (no (sym c ∙ sym k))
plain_split kind leaf text at hole outer st (datatype carets name) u rest c e =
    let k : true ≡ is_suffix kind = ap is_suffix (same_kind kinds.DoubleCaret kind carets leaf (name_tokens name (up_tokens (hole ∷ outer) u)) rest e) in absurd (no (sym c ∙ sym k))

plain_same : (kind : TokenKind) (leaf : Leaf) (text : List ℕ) (at : ℕ) (hole : Hole) (outer : List Hole) (st : State) → is_suffix kind ≡ false
    → Same (partial (config (expect.Suffix text at hole) outer) st) (ups hole outer (terms.Literal text xsd_string []) at st) (lexeme kind leaf)
plain_same kind leaf text at hole outer st c = record {
  build = λ y rest e. ((nothing, y), e, refl);
  split = λ x rest e. plain_split kind leaf text at hole outer st x.0 x.1 rest c e;
}

-- nothing that may come once a string fills its hole begins with a tag or with `^^`
no_suffix : (kind : TokenKind) (leaf : Leaf) (hole : Hole) (outer : List Hole) (st : State) → MayWait hole outer → follows hole outer kind ≡ false
    → (u : Up (hole ∷ outer)) (rest : List Lexeme) → up_tokens (hole ∷ outer) u ≡ lexeme kind leaf ∷ rest → ⊥
no_suffix kind leaf hole outer st may f u rest e =
    let h = judged_right kind leaf hole zero (terms.Blank zero) outer st may in
    let P : Bool → Type 0 = λ b. IsRightFor (ups hole outer (terms.Blank zero) zero st) (lexeme kind leaf) (if b then onward (filled hole zero (terms.Blank zero) outer st) kind leaf else stuck) in
    let none_begins : P false = subst P f h in
    none_begins u rest e

-- No token of a string's own can follow it in its place.
tag_follows : (hole : Hole) (outer : List Hole) → follows hole outer kinds.LanguageTag ≡ false
tag_follows holes.Subject outer = refl
tag_follows holes.ListedSubject outer = refl
tag_follows (holes.Object s p) [] = refl
tag_follows (holes.Object s p) (hole ∷ outer) = refl
tag_follows (holes.Item first node) outer = refl

carets_follow : (hole : Hole) (outer : List Hole) → follows hole outer kinds.DoubleCaret ≡ false
carets_follow holes.Subject outer = refl
carets_follow holes.ListedSubject outer = refl
carets_follow (holes.Object s p) [] = refl
carets_follow (holes.Object s p) (hole ∷ outer) = refl
carets_follow (holes.Item first node) outer = refl

abbrev tagged : List ℕ → Leaf → Term
tagged text tag = terms.Literal text rdf_lang_string (tag_of tag.text)

tag_split : (leaf : Leaf) (text : List ℕ) (at : ℕ) (hole : Hole) (outer : List Hole) (st : State) (suffix : Suffix) (u : Up (hole ∷ outer)) (rest : List Lexeme) → MayWait hole outer
    → suffix_tokens suffix (up_tokens (hole ∷ outer) u) ≡ lexeme kinds.LanguageTag leaf ∷ rest
    → (y : Up (hole ∷ outer)) × (rest ≡ up_tokens (hole ∷ outer) y) × (completed_by (expect.Suffix text at hole) outer (suffix, u) st ≡ up_of (hole ∷ outer) y (tagged text leaf) leaf.at st)
tag_split leaf text at hole outer st nothing u rest may e = absurd (no_suffix kinds.LanguageTag leaf hole outer st may (tag_follows hole outer) u rest e)
tag_split leaf text at hole outer st (language tag) u rest may e = (
  u,
  sym (same_rest _ _ (up_tokens (hole ∷ outer) u) rest e),
  ap (λ (x : Leaf). up_of (hole ∷ outer) u (tagged text x) x.at st) (same_leaf kinds.LanguageTag kinds.LanguageTag tag leaf (up_tokens (hole ∷ outer) u) rest e),
)
tag_split leaf text at hole outer st (datatype carets name) u rest may e =
    let k : kinds.DoubleCaret ≡ kinds.LanguageTag = same_kind kinds.DoubleCaret kinds.LanguageTag carets leaf (name_tokens name (up_tokens (hole ∷ outer) u)) rest e in absurd (cc)

datatype_leaves : (carets : Leaf) (name : Name) (text : List ℕ) (at : ℕ) (hole : Hole) (outer : List Hole) (st : State) (u : Up (hole ∷ outer))
    → completed_by (expect.Suffix text at hole) outer (datatype carets name, u) st ≡ completed_by (expect.Datatype text hole) outer (name, u) st
datatype_leaves carets name text at hole outer st u =
    bind_assoc (name_of name st) (λ iri. Ok (terms.Literal text iri [])) (λ term. up_of (hole ∷ outer) u term (name_at name) st)

carets_split : (leaf : Leaf) (text : List ℕ) (at : ℕ) (hole : Hole) (outer : List Hole) (st : State) (suffix : Suffix) (u : Up (hole ∷ outer)) (rest : List Lexeme) → MayWait hole outer
    → suffix_tokens suffix (up_tokens (hole ∷ outer) u) ≡ lexeme kinds.DoubleCaret leaf ∷ rest
    → (y : Name × Up (hole ∷ outer)) × (rest ≡ name_tokens y.0 (up_tokens (hole ∷ outer) y.1)) × (completed_by (expect.Suffix text at hole) outer (suffix, u) st ≡ completed_by (expect.Datatype text hole) outer y st)
carets_split leaf text at hole outer st nothing u rest may e = absurd (no_suffix kinds.DoubleCaret leaf hole outer st may (carets_follow hole outer) u rest e)
carets_split leaf text at hole outer st (language tag) u rest may e =
    let k : kinds.LanguageTag ≡ kinds.DoubleCaret = same_kind kinds.LanguageTag kinds.DoubleCaret tag leaf (up_tokens (hole ∷ outer) u) rest e in absurd (cc)
carets_split leaf text at hole outer st (datatype carets name) u rest may e =
    ((name, u), sym (same_rest _ _ (name_tokens name (up_tokens (hole ∷ outer) u)) rest e), datatype_leaves carets name text at hole outer st u)

-- the move after a string is right
pub string_right : (kind : TokenKind) (leaf : Leaf) (text : List ℕ) (at : ℕ) (hole : Hole) (outer : List Hole) (st : State) → MayWait hole outer
    → IsRightFor (partial (config (expect.Suffix text at hole) outer) st) (lexeme kind leaf) (after_string kind leaf text at hole outer st)
string_right kinds.LanguageTag leaf text at hole outer st may =
    takes (partial (config (expect.Suffix text at hole) outer) st) (lexeme kinds.LanguageTag leaf) (ups hole outer (tagged text leaf) leaf.at st)
    (filled hole leaf.at (tagged text leaf) outer st)
    (record {
      build = λ y. ((language leaf, y), refl, refl);
      split = λ x rest e. tag_split leaf text at hole outer st x.0 x.1 rest may e;
    })
    (filled_right (lexeme kinds.LanguageTag leaf) hole leaf.at (tagged text leaf) outer st)
string_right kinds.DoubleCaret leaf text at hole outer st may =
    moves (partial (config (expect.Suffix text at hole) outer) st) (lexeme kinds.DoubleCaret leaf) (config (expect.Datatype text hole) outer) st
    (record {
      build = λ y. ((datatype leaf y.0, y.1), refl, datatype_leaves leaf y.0 text at hole outer st y.1);
      split = λ x rest e. carets_split leaf text at hole outer st x.0 x.1 rest may e;
    })
string_right kind leaf text at hole outer st may =
    same (partial (config (expect.Suffix text at hole) outer) st) (ups hole outer (terms.Literal text xsd_string []) at st) (lexeme kind leaf)
    (judged hole at (terms.Literal text xsd_string []) outer st kind leaf) (plain_same kind leaf text at hole outer st refl)
    (judged_right kind leaf hole at (terms.Literal text xsd_string []) outer st may)
