-- With which tokens the parts of a tree begin.
use Rattle.std.proofs.Common.{◌≡◌, ℕ, Bool, true, false, List, ◌∷◌, Some, refl, sym, ap, ◌∙◌}
use Rattle.turtle_grammar.specs.declared.token.TokenKind.{TokenKind}
use Rattle.turtle_grammar.specs.declared.token.TokenKind.TheVariants as kinds
use Rattle.turtle_grammar.specs.Tree.{Lexeme, Leaf, Name, Quoting, Shorthand, Suffix, Object, Items, Predicates, lexeme, quoting_kind, shorthand_kind, name_tokens, object_tokens, predicates_tokens}
use Rattle.turtle_grammar.specs.Tree.Name.{full, prefixed, bare}
use Rattle.turtle_grammar.specs.Tree.Quoting.{double, single, long_double, long_single}
use Rattle.turtle_grammar.specs.Tree.Shorthand.{integer, decimal, double_number, true_word, false_word}
use Rattle.turtle_grammar.specs.Tree.Verb.{predicate, is_a}
use Rattle.turtle_grammar.specs.Tree.Object.{named, label, anonymous, quoted, short, collection, properties}
use Rattle.turtle_grammar.specs.Tree.Predicates.{predicates}
use Rattle.turtle_document.specs.Meaning.{State, object_start, started}
use Rattle.turtle_document.specs.Machine.{as_name, as_quoting, as_shorthand, begins_object, started_by}
use Rattle.turtle_document.proofs.Tools.{same_rest, same_kind, same_leaf, no}

-- the sorts of objects by their first tokens
pub data Class : Type 0 where
  a_name : Class
  a_label : Class
  a_square : Class
  a_round : Class
  a_string : Class
  a_short : Class
  no_object : Class

abbrev pub class_of : TokenKind → Class
class_of kinds.Iri = a_name
class_of kinds.PrefixedName = a_name
class_of kinds.Namespace = a_name
class_of kinds.BlankLabel = a_label
class_of kinds.OpenSquare = a_square
class_of kinds.OpenRound = a_round
class_of kinds.String = a_string
class_of kinds.SingleString = a_string
class_of kinds.LongString = a_string
class_of kinds.LongSingleString = a_string
class_of kinds.Integer = a_short
class_of kinds.Decimal = a_short
class_of kinds.Double = a_short
class_of kinds.True = a_short
class_of kinds.False = a_short
class_of _ = no_object

abbrev pub object_class : Object → Class
object_class (named name) = a_name
object_class (label leaf) = a_label
object_class (anonymous start end) = a_square
object_class (quoted quoting leaf suffix) = a_string
object_class (short shorthand leaf) = a_short
object_class (collection start items end) = a_round
object_class (properties start list end) = a_square

-- a name's token
abbrev pub name_kind : Name → TokenKind
name_kind (full leaf) = kinds.Iri
name_kind (prefixed leaf) = kinds.PrefixedName
name_kind (bare leaf) = kinds.Namespace

abbrev pub name_leaf : Name → Leaf
name_leaf (full leaf) = leaf
name_leaf (prefixed leaf) = leaf
name_leaf (bare leaf) = leaf

abbrev pub name_lexeme : Name → Lexeme
name_lexeme name = lexeme (name_kind name) (name_leaf name)

pub name_shape : (name : Name) (back : List Lexeme) → name_tokens name back ≡ name_lexeme name ∷ back
name_shape (full leaf) back = refl
name_shape (prefixed leaf) back = refl
name_shape (bare leaf) back = refl

pub name_class : (name : Name) → class_of (name_kind name) ≡ a_name
name_class (full leaf) = refl
name_class (prefixed leaf) = refl
name_class (bare leaf) = refl

name_again : (name : Name) → as_name (name_kind name) (name_leaf name) ≡ Some name
name_again (full leaf) = refl
name_again (prefixed leaf) = refl
name_again (bare leaf) = refl

quoting_again : (quoting : Quoting) → as_quoting (quoting_kind quoting) ≡ Some quoting
quoting_again double = refl
quoting_again single = refl
quoting_again long_double = refl
quoting_again long_single = refl

shorthand_again : (shorthand : Shorthand) → as_shorthand (shorthand_kind shorthand) ≡ Some shorthand
shorthand_again integer = refl
shorthand_again decimal = refl
shorthand_again double_number = refl
shorthand_again true_word = refl
shorthand_again false_word = refl

pub quoting_class : (quoting : Quoting) → class_of (quoting_kind quoting) ≡ a_string
quoting_class double = refl
quoting_class single = refl
quoting_class long_double = refl
quoting_class long_single = refl

pub shorthand_class : (shorthand : Shorthand) → class_of (shorthand_kind shorthand) ≡ a_short
shorthand_class integer = refl
shorthand_class decimal = refl
shorthand_class double_number = refl
shorthand_class true_word = refl
shorthand_class false_word = refl

some_same : {A : Type 0} (x y : A) → Some x ≡ Some y → x ≡ y
some_same x y e = cc

-- two names with the same token are one
pub same_name : (name other : Name) (back rest : List Lexeme) → name_tokens name back ≡ name_lexeme other ∷ rest → (name ≡ other) × (back ≡ rest)
same_name name other back rest e =
    let tokens : name_lexeme name ∷ back ≡ name_lexeme other ∷ rest = sym (name_shape name back) ∙ e in
    let kind = same_kind (name_kind name) (name_kind other) (name_leaf name) (name_leaf other) back rest tokens in
    let leaf = same_leaf (name_kind name) (name_kind other) (name_leaf name) (name_leaf other) back rest tokens in
    let both : Some name ≡ Some other =
    sym (name_again name) ∙ (ap (λ (k : TokenKind). as_name k (name_leaf name)) kind
    ∙ (ap (λ (l : Leaf). as_name (name_kind other) l) leaf ∙ name_again other)) in
    (some_same name other both, same_rest (name_lexeme name) (name_lexeme other) back rest tokens)

pub same_quoting : (quoting other : Quoting) → quoting_kind quoting ≡ quoting_kind other → quoting ≡ other
same_quoting quoting other e = some_same quoting other (sym (quoting_again quoting) ∙ (ap as_quoting e ∙ quoting_again other))

pub same_shorthand : (shorthand other : Shorthand) → shorthand_kind shorthand ≡ shorthand_kind other → shorthand ≡ other
same_shorthand shorthand other e = some_same shorthand other (sym (shorthand_again shorthand) ∙ (ap as_shorthand e ∙ shorthand_again other))

pub name_starts : (name : Name) (back rest : List Lexeme) (kind : TokenKind) (leaf : Leaf) → name_tokens name back ≡ lexeme kind leaf ∷ rest → a_name ≡ class_of kind
name_starts (full l) back rest kind leaf e = ap class_of (same_kind kinds.Iri kind l leaf back rest e)
name_starts (prefixed l) back rest kind leaf e = ap class_of (same_kind kinds.PrefixedName kind l leaf back rest e)
name_starts (bare l) back rest kind leaf e = ap class_of (same_kind kinds.Namespace kind l leaf back rest e)

-- an object's first token is of the object's class
pub object_starts : (object : Object) (back rest : List Lexeme) (kind : TokenKind) (leaf : Leaf) → object_tokens object back ≡ lexeme kind leaf ∷ rest → object_class object ≡ class_of kind
object_starts (named name) back rest kind leaf e = name_starts name back rest kind leaf e
object_starts (label l) back rest kind leaf e = ap class_of (same_kind kinds.BlankLabel kind l leaf back rest e)
object_starts (anonymous start end) back rest kind leaf e = ap class_of (same_kind kinds.OpenSquare kind start leaf _ rest e)
object_starts (quoted quoting l suffix) back rest kind leaf e = sym (quoting_class quoting) ∙ ap class_of (same_kind (quoting_kind quoting) kind l leaf _ rest e)
object_starts (short shorthand l) back rest kind leaf e = sym (shorthand_class shorthand) ∙ ap class_of (same_kind (shorthand_kind shorthand) kind l leaf back rest e)
object_starts (collection start items end) back rest kind leaf e = ap class_of (same_kind kinds.OpenRound kind start leaf _ rest e)
object_starts (properties start list end) back rest kind leaf e = ap class_of (same_kind kinds.OpenSquare kind start leaf _ rest e)

-- each object is of a class
pub has_class : (object : Object) → object_class object ≡ no_object → ⊥
has_class (named name) e = cc
has_class object e = cc

pub no_first : (object : Object) (back rest : List Lexeme) (kind : TokenKind) (leaf : Leaf) → class_of kind ≡ no_object → object_tokens object back ≡ lexeme kind leaf ∷ rest → ⊥
no_first object back rest kind leaf k e = has_class object (object_starts object back rest kind leaf e ∙ k)

same_start : (k : TokenKind) (l : Leaf) (ts rest : List Lexeme) (kind : TokenKind) (leaf : Leaf) → lexeme k l ∷ ts ≡ lexeme kind leaf ∷ rest
    → (l.at ≡ leaf.at) × ((n : ℕ) (st : State) → started_by k l n st ≡ started_by kind leaf n st)
same_start k l ts rest kind leaf e =
    let same = same_leaf k kind l leaf ts rest e in
    let kind_same = same_kind k kind l leaf ts rest e in (
      ap (λ (x : Leaf). x.at) same,
      λ n st. ap (λ (x : TokenKind). started_by x l n st) kind_same ∙ ap (λ (x : Leaf). started_by kind x n st) same,
    )

-- an object's first token tells its place and whether it has a fault
pub object_first : (object : Object) (back rest : List Lexeme) (kind : TokenKind) (leaf : Leaf) → object_tokens object back ≡ lexeme kind leaf ∷ rest
    → (object_start object ≡ leaf.at) × ((n : ℕ) (st : State) → started object n st ≡ started_by kind leaf n st)
object_first (named (full l)) back rest kind leaf e = same_start kinds.Iri l back rest kind leaf e
object_first (named (prefixed l)) back rest kind leaf e = same_start kinds.PrefixedName l back rest kind leaf e
object_first (named (bare l)) back rest kind leaf e = same_start kinds.Namespace l back rest kind leaf e
object_first (label l) back rest kind leaf e = same_start kinds.BlankLabel l back rest kind leaf e
object_first (anonymous start end) back rest kind leaf e = same_start kinds.OpenSquare start _ rest kind leaf e
object_first (quoted double l suffix) back rest kind leaf e = same_start kinds.String l _ rest kind leaf e
object_first (quoted single l suffix) back rest kind leaf e = same_start kinds.SingleString l _ rest kind leaf e
object_first (quoted long_double l suffix) back rest kind leaf e = same_start kinds.LongString l _ rest kind leaf e
object_first (quoted long_single l suffix) back rest kind leaf e = same_start kinds.LongSingleString l _ rest kind leaf e
object_first (short integer l) back rest kind leaf e = same_start kinds.Integer l back rest kind leaf e
object_first (short decimal l) back rest kind leaf e = same_start kinds.Decimal l back rest kind leaf e
object_first (short double_number l) back rest kind leaf e = same_start kinds.Double l back rest kind leaf e
object_first (short true_word l) back rest kind leaf e = same_start kinds.True l back rest kind leaf e
object_first (short false_word l) back rest kind leaf e = same_start kinds.False l back rest kind leaf e
object_first (collection start items end) back rest kind leaf e = same_start kinds.OpenRound start _ rest kind leaf e
object_first (properties start list end) back rest kind leaf e = same_start kinds.OpenSquare start _ rest kind leaf e

abbrev pub Begun : TokenKind → Leaf → Type 0
Begun kind leaf = (object : Object) × ((back : List Lexeme) → (rest : List Lexeme) × (object_tokens object back ≡ lexeme kind leaf ∷ rest))

-- some object begins with each token that begins one
pub begun : (kind : TokenKind) (leaf : Leaf) → begins_object kind ≡ true → Begun kind leaf
begun kinds.Iri leaf e = (named (full leaf), λ back. (back, refl))
begun kinds.PrefixedName leaf e = (named (prefixed leaf), λ back. (back, refl))
begun kinds.Namespace leaf e = (named (bare leaf), λ back. (back, refl))
begun kinds.BlankLabel leaf e = (label leaf, λ back. (back, refl))
begun kinds.OpenSquare leaf e = (anonymous leaf leaf, λ back. (lexeme kinds.CloseSquare leaf ∷ back, refl))
begun kinds.OpenRound leaf e = (collection leaf Items.none leaf, λ back. (lexeme kinds.CloseRound leaf ∷ back, refl))
begun kinds.String leaf e = (quoted double leaf Suffix.nothing, λ back. (back, refl))
begun kinds.SingleString leaf e = (quoted single leaf Suffix.nothing, λ back. (back, refl))
begun kinds.LongString leaf e = (quoted long_double leaf Suffix.nothing, λ back. (back, refl))
begun kinds.LongSingleString leaf e = (quoted long_single leaf Suffix.nothing, λ back. (back, refl))
begun kinds.Integer leaf e = (short integer leaf, λ back. (back, refl))
begun kinds.Decimal leaf e = (short decimal leaf, λ back. (back, refl))
begun kinds.Double leaf e = (short double_number leaf, λ back. (back, refl))
begun kinds.True leaf e = (short true_word leaf, λ back. (back, refl))
begun kinds.False leaf e = (short false_word leaf, λ back. (back, refl))
begun kind leaf e = absurd (no e)

-- no object begins with the others
pub no_class : (kind : TokenKind) → begins_object kind ≡ false → class_of kind ≡ no_object
no_class kinds.Iri e = absurd (no (sym e))
no_class kinds.PrefixedName e = absurd (no (sym e))
no_class kinds.Namespace e = absurd (no (sym e))
no_class kinds.BlankLabel e = absurd (no (sym e))
no_class kinds.OpenSquare e = absurd (no (sym e))
no_class kinds.OpenRound e = absurd (no (sym e))
no_class kinds.String e = absurd (no (sym e))
no_class kinds.SingleString e = absurd (no (sym e))
no_class kinds.LongString e = absurd (no (sym e))
no_class kinds.LongSingleString e = absurd (no (sym e))
no_class kinds.Integer e = absurd (no (sym e))
no_class kinds.Decimal e = absurd (no (sym e))
no_class kinds.Double e = absurd (no (sym e))
no_class kinds.True e = absurd (no (sym e))
no_class kinds.False e = absurd (no (sym e))
no_class kind e = refl

-- whether a token is a verb's
abbrev pub starts_verb : TokenKind → Bool
starts_verb kinds.Iri = true
starts_verb kinds.PrefixedName = true
starts_verb kinds.Namespace = true
starts_verb kinds.A = true
starts_verb _ = false

pub list_starts : (list : Predicates) (back rest : List Lexeme) (kind : TokenKind) (leaf : Leaf) → predicates_tokens list back ≡ lexeme kind leaf ∷ rest → true ≡ starts_verb kind
list_starts (predicates (predicate (full l)) objects more) back rest kind leaf e = ap starts_verb (same_kind kinds.Iri kind l leaf _ rest e)
list_starts (predicates (predicate (prefixed l)) objects more) back rest kind leaf e = ap starts_verb (same_kind kinds.PrefixedName kind l leaf _ rest e)
list_starts (predicates (predicate (bare l)) objects more) back rest kind leaf e = ap starts_verb (same_kind kinds.Namespace kind l leaf _ rest e)
list_starts (predicates (is_a l) objects more) back rest kind leaf e = ap starts_verb (same_kind kinds.A kind l leaf _ rest e)

pub no_verb : (list : Predicates) (back rest : List Lexeme) (kind : TokenKind) (leaf : Leaf) → starts_verb kind ≡ false → predicates_tokens list back ≡ lexeme kind leaf ∷ rest → ⊥
no_verb list back rest kind leaf k e = let h = list_starts list back rest kind leaf e in no (sym k ∙ sym h)
