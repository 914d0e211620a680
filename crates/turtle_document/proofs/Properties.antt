-- After a `[`.
use Rattle.std.proofs.Common.{◌≡◌, ◌⊎◌, inl, inr, ℕ, suc, Bool, true, false, List, ◌∷◌, length, refl, sym, ap, ◌∙◌}
use Rattle.triple_store.specs.declared.term.Term.TheVariants as terms
use Rattle.turtle_grammar.specs.declared.token.TokenKind.{TokenKind}
use Rattle.turtle_grammar.specs.declared.token.TokenKind.TheVariants as kinds
use Rattle.turtle_grammar.specs.Tree.{Lexeme, Leaf, Predicates, lexeme, predicates_tokens}
use Rattle.turtle_document.specs.Meaning.{State, ◌>>=◌, predicates_of}
use Rattle.turtle_document.specs.Machine.{config, filled, listed, at_verb, in_brackets}
use Rattle.turtle_document.specs.declared.expected.Hole.{Hole}
use Rattle.turtle_document.specs.declared.expected.Hole.TheVariants as holes
use Rattle.turtle_document.specs.declared.expected.Expected.TheVariants as expect
use Rattle.turtle_document.proofs.Completion.{Up, up_tokens, up_of, close_kind, tokens_by, completed_by}
use Rattle.turtle_document.proofs.Tools.{partial, IsRightFor, Same, same, takes, same_rest, same_kind, same_leaf, no}
use Rattle.turtle_document.proofs.Starts.{no_verb}
use Rattle.turtle_document.proofs.Fill.{ups, filled_right}
use Rattle.turtle_document.proofs.Lists.{verb_right}

abbrev Listed : List Hole → Type 0
Listed outer = (Leaf × Up outer) ⊎ (Predicates × Leaf × Up (listed outer))

listed_close : (hole : Hole) (outer : List Hole) → close_kind (listed (hole ∷ outer)) ≡ kinds.CloseSquare
listed_close holes.Subject outer = refl
listed_close holes.ListedSubject outer = refl
listed_close (holes.Object s p) outer = refl
listed_close (holes.Item first node) outer = refl

listed_length : (hole : Hole) (outer : List Hole) → length (listed (hole ∷ outer)) ≡ suc (length outer)
listed_length holes.Subject outer = refl
listed_length holes.ListedSubject outer = refl
listed_length (holes.Object s p) outer = refl
listed_length (holes.Item first node) outer = refl

close_split : (leaf : Leaf) (node : ℕ) (hole : Hole) (outer : List Hole) (st : State) (x : Listed (hole ∷ outer)) (rest : List Lexeme)
    → tokens_by (expect.Property node) (hole ∷ outer) x ≡ lexeme kinds.CloseSquare leaf ∷ rest
    → (y : Up (hole ∷ outer)) × (rest ≡ up_tokens (hole ∷ outer) y)
    × (completed_by (expect.Property node) (hole ∷ outer) x st ≡ up_of (hole ∷ outer) y (terms.Blank node) leaf.at st)
close_split leaf node hole outer st (inl x) rest e = (
  x.1,
  sym (same_rest _ _ _ rest e),
  ap (λ (l : Leaf). up_of (hole ∷ outer) x.1 (terms.Blank node) l.at st) (same_leaf kinds.CloseSquare kinds.CloseSquare x.0 leaf _ rest e),
)
close_split leaf node hole outer st (inr x) rest e = absurd (no_verb x.0 _ rest kinds.CloseSquare leaf refl e)

abbrev is_square : TokenKind → Bool
is_square kinds.CloseSquare = true
is_square _ = false

verb_split : (kind : TokenKind) (leaf : Leaf) (node : ℕ) (hole : Hole) (outer : List Hole) (st : State) (x : Listed (hole ∷ outer)) (rest : List Lexeme) → is_square kind ≡ false
    → tokens_by (expect.Property node) (hole ∷ outer) x ≡ lexeme kind leaf ∷ rest
    → (y : Predicates × Leaf × Up (listed (hole ∷ outer))) × (tokens_by (expect.Verb (terms.Blank node)) (listed (hole ∷ outer)) y ≡ lexeme kind leaf ∷ rest)
    × (completed_by (expect.Property node) (hole ∷ outer) x st ≡ completed_by (expect.Verb (terms.Blank node)) (listed (hole ∷ outer)) y st)
verb_split kind leaf node hole outer st (inl x) rest c e =
    let k : true ≡ is_square kind = ap is_square (same_kind kinds.CloseSquare kind x.0 leaf _ rest e) in absurd (no (sym c ∙ sym k))
verb_split kind leaf node hole outer st (inr x) rest c e = (
  x,
  ap (λ (k : TokenKind). predicates_tokens x.0 (lexeme k x.1 ∷ up_tokens (listed (hole ∷ outer)) x.2)) (listed_close hole outer) ∙ e,
  ap (λ (n : ℕ). predicates_of x.0 n (terms.Blank node) st >>= up_of (listed (hole ∷ outer)) x.2 (terms.Blank node) x.1.at) (sym (listed_length hole outer)),
)

verb_build : (kind : TokenKind) (leaf : Leaf) (node : ℕ) (hole : Hole) (outer : List Hole) (st : State) (y : Predicates × Leaf × Up (listed (hole ∷ outer))) (rest : List Lexeme)
    → tokens_by (expect.Verb (terms.Blank node)) (listed (hole ∷ outer)) y ≡ lexeme kind leaf ∷ rest
    → (x : Listed (hole ∷ outer)) × (tokens_by (expect.Property node) (hole ∷ outer) x ≡ lexeme kind leaf ∷ rest)
    × (completed_by (expect.Property node) (hole ∷ outer) x st ≡ completed_by (expect.Verb (terms.Blank node)) (listed (hole ∷ outer)) y st)
verb_build kind leaf node hole outer st y rest e = (
  inr y,
  sym (ap (λ (k : TokenKind). predicates_tokens y.0 (lexeme k y.1 ∷ up_tokens (listed (hole ∷ outer)) y.2)) (listed_close hole outer)) ∙ e,
  ap (λ (n : ℕ). predicates_of y.0 n (terms.Blank node) st >>= up_of (listed (hole ∷ outer)) y.2 (terms.Blank node) y.1.at) (sym (listed_length hole outer)),
)

property_verbs : (kind : TokenKind) (leaf : Leaf) (node : ℕ) (hole : Hole) (outer : List Hole) (st : State) → is_square kind ≡ false
    → Same (partial (config (expect.Property node) (hole ∷ outer)) st) (partial (config (expect.Verb (terms.Blank node)) (listed (hole ∷ outer))) st) (lexeme kind leaf)
property_verbs kind leaf node hole outer st c = record {
  build = λ y rest e. verb_build kind leaf node hole outer st y rest e;
  split = λ x rest e. verb_split kind leaf node hole outer st x rest c e;
}

-- the move after a `[` is right
pub property_right : (kind : TokenKind) (leaf : Leaf) (node : ℕ) (hole : Hole) (outer : List Hole) (st : State)
    → IsRightFor (partial (config (expect.Property node) (hole ∷ outer)) st) (lexeme kind leaf) (in_brackets kind leaf node (hole ∷ outer) st)
property_right kinds.CloseSquare leaf node hole outer st =
    takes (partial (config (expect.Property node) (hole ∷ outer)) st) (lexeme kinds.CloseSquare leaf) (ups hole outer (terms.Blank node) leaf.at st)
    (filled hole leaf.at (terms.Blank node) outer st)
    (record {
      build = λ y. (inl (leaf, y), refl, refl);
      split = λ x rest e. close_split leaf node hole outer st x rest e;
    })
    (filled_right (lexeme kinds.CloseSquare leaf) hole leaf.at (terms.Blank node) outer st)
property_right kind leaf node hole outer st =
    same (partial (config (expect.Property node) (hole ∷ outer)) st) (partial (config (expect.Verb (terms.Blank node)) (listed (hole ∷ outer))) st) (lexeme kind leaf)
    (at_verb kind leaf (terms.Blank node) (listed (hole ∷ outer)) st) (property_verbs kind leaf node hole outer st refl)
    (verb_right kind leaf (terms.Blank node) (listed (hole ∷ outer)) st)
