-- Directives: the moves within them are right, and those at their first word.
use Rattle.std.proofs.Common.{◌≡◌, ℕ, Bool, true, false, List, [], ◌∷◌, refl, sym, ap, ◌∙◌}
use Rattle.turtle_grammar.specs.declared.token.TokenKind.{TokenKind}
use Rattle.turtle_grammar.specs.declared.token.TokenKind.TheVariants as kinds
use Rattle.turtle_grammar.specs.Tree.{Lexeme, Leaf, Document, lexeme, document_tokens}
use Rattle.turtle_grammar.specs.Value.{prefix_of}
use Rattle.turtle_document.specs.Meaning.{State, ◌>>=◌, bound, absolute, document_of}
use Rattle.turtle_document.specs.Machine.{config, on, after_iri, at_prefix, at_namespace, at_base, at_dot}
use Rattle.turtle_document.specs.Machine.Move.{to}
use Rattle.turtle_document.specs.declared.expected.Hole.{Hole}
use Rattle.turtle_document.specs.declared.expected.Expected.TheVariants as expect
use Rattle.turtle_document.proofs.Completion.{Dots, dots_tokens, IsRight}
use Rattle.turtle_document.proofs.Tools.{Trees, trees, IsRightFor, Same, same_rest, same_kind, same_leaf, same, arrives, tried, right_for}

-- after a directive's IRI, where it gives this environment
behind_iri : (dot : Bool) (outer : List Hole) (leaf : Leaf) (after : State)
    → IsRightFor (trees (Dots dot × Document) (λ x. lexeme kinds.Iri leaf ∷ dots_tokens dot x.0 (document_tokens x.1)) (λ x. document_of x.1 after))
    (lexeme kinds.Iri leaf) (to (config (after_iri dot) outer) after)
behind_iri true outer leaf after = arrives (lexeme kinds.Iri leaf) (config expect.DirectiveDot outer) after
behind_iri false outer leaf after = record {
  build = λ y. ((tt, y), refl, refl);
  split = λ x rest e. (x.1, sym (same_rest (lexeme kinds.Iri leaf) (lexeme kinds.Iri leaf) (document_tokens x.1) rest e), refl);
}

some_dots : (dot : Bool) → Leaf → Dots dot
some_dots true leaf = leaf
some_dots false leaf = tt

-- the trees of which an IRI comes first and gives an environment
abbrev iri_trees : Bool → List ℕ → (List ℕ → State) → Trees
iri_trees dot base into =
    trees (Leaf × Dots dot × Document) (λ x. lexeme kinds.Iri x.0 ∷ dots_tokens dot x.1 (document_tokens x.2))
    (λ x. absolute base x.0 >>= (λ value. document_of x.2 (into value)))

abbrev this_iri_trees : Bool → List ℕ → (List ℕ → State) → Leaf → Trees
this_iri_trees dot base into leaf =
    trees (Dots dot × Document) (λ x. lexeme kinds.Iri leaf ∷ dots_tokens dot x.0 (document_tokens x.1))
    (λ x. absolute base leaf >>= (λ value. document_of x.1 (into value)))

this_iri : (dot : Bool) (base : List ℕ) (into : List ℕ → State) (leaf : Leaf)
    → Same (iri_trees dot base into) (this_iri_trees dot base into leaf) (lexeme kinds.Iri leaf)
this_iri dot base into leaf = record {
  build = λ y rest e. ((leaf, y.0, y.1), e, refl);
  split = λ x rest e.
      let l : x.0 ≡ leaf = same_leaf kinds.Iri kinds.Iri x.0 leaf (dots_tokens dot x.1 (document_tokens x.2)) rest e in (
        (x.1, x.2),
        ap (λ (a : Leaf). lexeme kinds.Iri a ∷ dots_tokens dot x.1 (document_tokens x.2)) (sym l) ∙ e,
        ap (λ (a : Leaf). absolute base a >>= (λ value. document_of x.2 (into value))) l,
      );
}

iri_right : (dot : Bool) (outer : List Hole) (base : List ℕ) (into : List ℕ → State) (leaf : Leaf)
    → IsRightFor (iri_trees dot base into) (lexeme kinds.Iri leaf) (on (absolute base leaf) (λ value. to (config (after_iri dot) outer) (into value)))
iri_right dot outer base into leaf =
    same (iri_trees dot base into) (this_iri_trees dot base into leaf) (lexeme kinds.Iri leaf)
    (on (absolute base leaf) (λ value. to (config (after_iri dot) outer) (into value))) (this_iri dot base into leaf)
    (tried (absolute base leaf) (λ value. to (config (after_iri dot) outer) (into value)) (Dots dot × Document)
    (λ x. lexeme kinds.Iri leaf ∷ dots_tokens dot x.0 (document_tokens x.1)) (λ value x. document_of x.1 (into value)) (lexeme kinds.Iri leaf)
    ((some_dots dot leaf, []), dots_tokens dot (some_dots dot leaf) [], refl)
    (λ value. behind_iri dot outer leaf (into value)))

pub prefix_right : (dot : Bool) (outer : List Hole) (kind : TokenKind) (leaf : Leaf) (st : State)
    → IsRight (config (expect.Prefix dot) outer) (lexeme kind leaf) st (at_prefix kind leaf dot outer st)
prefix_right dot outer kinds.Namespace leaf st = record {
  build = λ y. ((leaf, y.0, y.1, y.2), refl, refl);
  split = λ x rest e.
      let after : List Lexeme = lexeme kinds.Iri x.1 ∷ dots_tokens dot x.2 (document_tokens x.3) in
      let l : x.0 ≡ leaf = same_leaf kinds.Namespace kinds.Namespace x.0 leaf after rest e in (
        (x.1, x.2, x.3),
        sym (same_rest (lexeme kinds.Namespace x.0) (lexeme kinds.Namespace leaf) after rest e),
        ap (λ (a : Leaf). absolute st.base x.1 >>= (λ value. document_of x.3 (record st { prefixes = bound (prefix_of a.text) value st.prefixes }))) l,
      );
}
prefix_right dot outer kind leaf st = λ x rest e.
    let k : kinds.Namespace ≡ kind = same_kind kinds.Namespace kind x.0 leaf (lexeme kinds.Iri x.1 ∷ dots_tokens dot x.2 (document_tokens x.3)) rest e in cc

pub namespace_right : (dot : Bool) (prefix : List ℕ) (outer : List Hole) (kind : TokenKind) (leaf : Leaf) (st : State)
    → IsRight (config (expect.Namespace dot prefix) outer) (lexeme kind leaf) st (at_namespace kind leaf dot prefix outer st)
namespace_right dot prefix outer kinds.Iri leaf st =
    right_for (config (expect.Namespace dot prefix) outer) (lexeme kinds.Iri leaf) st (at_namespace kinds.Iri leaf dot prefix outer st)
    (iri_right dot outer st.base (λ value. record st { prefixes = bound prefix value st.prefixes }) leaf)
namespace_right dot prefix outer kind leaf st = λ x rest e.
    let k : kinds.Iri ≡ kind = same_kind kinds.Iri kind x.0 leaf (dots_tokens dot x.1 (document_tokens x.2)) rest e in cc

pub base_right : (dot : Bool) (outer : List Hole) (kind : TokenKind) (leaf : Leaf) (st : State)
    → IsRight (config (expect.Base dot) outer) (lexeme kind leaf) st (at_base kind leaf dot outer st)
base_right dot outer kinds.Iri leaf st =
    right_for (config (expect.Base dot) outer) (lexeme kinds.Iri leaf) st (at_base kinds.Iri leaf dot outer st)
    (iri_right dot outer st.base (λ value. record st { base = value }) leaf)
base_right dot outer kind leaf st = λ x rest e.
    let k : kinds.Iri ≡ kind = same_kind kinds.Iri kind x.0 leaf (dots_tokens dot x.1 (document_tokens x.2)) rest e in cc

pub dot_right : (outer : List Hole) (kind : TokenKind) (leaf : Leaf) (st : State)
    → IsRight (config expect.DirectiveDot outer) (lexeme kind leaf) st (at_dot kind outer st)
dot_right outer kinds.Dot leaf st = record {
  build = λ y. ((leaf, y), refl, refl);
  split = λ x rest e. (x.1, sym (same_rest (lexeme kinds.Dot x.0) (lexeme kinds.Dot leaf) (document_tokens x.1) rest e), refl);
}
dot_right outer kind leaf st = λ x rest e.
    let k : kinds.Dot ≡ kind = same_kind kinds.Dot kind x.0 leaf (document_tokens x.1) rest e in cc
