-- What is kept of names stays right.
use Rattle.std.proofs.Common.{◌≡◌, ◌⊎◌, inl, inr, ℕ, Bool, true, false, cond, List, Option, None, Some, Result, Ok, Err, Contains, refl, ap, sym, subst}
use Rattle.std.specs.List.{list_any}
use Rattle.std.proofs.lemmas.List.Elements.{All-contains}
use Rattle.iri_resolve.specs.Excluded.{is_excluded}
use Rattle.iri_resolve.specs.Target.{resolved}
use Rattle.turtle_grammar.specs.Tree.{Leaf}
use Rattle.turtle_grammar.specs.Value.{reference_of, prefix_of}
use Rattle.turtle_grammar.specs.declared.token.TokenKind.{TokenKind}
use Rattle.turtle_grammar.specs.declared.token.TokenKind.TheVariants as kinds
use Rattle.turtle_document.specs.Meaning.{State, Fault, expanded, ◌>>=◌}
use Rattle.turtle_document.specs.Meaning.Fault.{bad_iri}
use Rattle.turtle_read.specs.Moves.{named}
use Rattle.turtle_read.specs.Recents.{HoldNothing, IsKnown, AreKnown, iri_of}
use Rattle.turtle_read.specs.declared.recent.Known.{Known}

abbrev pub leaf : ℕ → List ℕ → Leaf
leaf at text = record { at = at; text = text }

abbrev pub known : TokenKind → List ℕ → List ℕ → Known
known kind text iri = record { kind = kind; text = text; iri = iri }

-- an answer that there is an IRI
abbrev pub Names : Result (List ℕ) Fault → List ℕ → Type 0
Names answer iri = (answer >>= (λ iri. Ok (Some iri))) ≡ Ok (Some iri)

full_elsewhere : (bad : Bool) (at there : ℕ) (value iri : List ℕ) → Names (cond bad (Err (bad_iri at)) (Ok value)) iri → Names (cond bad (Err (bad_iri there)) (Ok value)) iri
full_elsewhere true at there value iri e = cc
full_elsewhere false at there value iri e = e

short_elsewhere : (namespace : Option (List ℕ)) (at there : ℕ) (text iri : List ℕ) → Names (expanded namespace (leaf at text)) iri → Names (expanded namespace (leaf there text)) iri
short_elsewhere None at there text iri e = cc
short_elsewhere (Some namespace) at there text iri e = e

-- a name has the same IRI at another place, under the same base and prefixes
pub elsewhere : (kind : TokenKind) (text iri : List ℕ) (at there : ℕ) (st other : State) → other.base ≡ st.base → other.prefixes ≡ st.prefixes
    → named kind (leaf at text) st ≡ Ok (Some iri) → named kind (leaf there text) other ≡ Ok (Some iri)
unfolding named
elsewhere kinds.Iri text iri at there st other base prefixes e =
    subst (λ b. Names (cond (list_any is_excluded (reference_of text)) (Err (bad_iri there)) (Ok (resolved b (reference_of text)))) iri) (sym base)
    (full_elsewhere (list_any is_excluded (reference_of text)) at there (resolved st.base (reference_of text)) iri e)
elsewhere kinds.PrefixedName text iri at there st other base prefixes e =
    subst (λ (p : List ℕ → Option (List ℕ)). Names (expanded (p (prefix_of text)) (leaf there text)) iri) (sym prefixes) (short_elsewhere (st.prefixes (prefix_of text)) at there text iri e)
elsewhere kinds.Namespace text iri at there st other base prefixes e =
    subst (λ (p : List ℕ → Option (List ℕ)). Names (expanded (p (prefix_of text)) (leaf there text)) iri) (sym prefixes) (short_elsewhere (st.prefixes (prefix_of text)) at there text iri e)
elsewhere _ text iri at there st other base prefixes e = cc

-- a name that was read is known
pub read_known : (kind : TokenKind) (text iri : List ℕ) (at : ℕ) (st : State) → named kind (leaf at text) st ≡ Ok (Some iri) → IsKnown st.base st.prefixes (known kind text iri)
read_known kind text iri at st e other there base prefixes = ap iri_of (elsewhere kind text iri at there st other base prefixes e)

-- a known name has its IRI
pub found : (kind : TokenKind) (text iri : List ℕ) (at : ℕ) (st : State) (slots : List (Option Known)) → AreKnown st.base st.prefixes slots → Contains slots (Some (known kind text iri))
    → named kind (leaf at text) st ≡ Ok (Some iri)
found kind text iri at st slots all there = whole (named kind (leaf at text) st) iri (all (known kind text iri) there st at refl refl)
  where
    whole : (answer : Result (Option (List ℕ)) Fault) (iri : List ℕ) → iri_of answer ≡ Some iri → answer ≡ Ok (Some iri)
    whole (Ok o) iri e = ap Ok e
    whole (Err fault) iri e = cc

pub none_known : (base : List ℕ) (prefixes : List ℕ → Option (List ℕ)) (slots : List (Option Known)) → HoldNothing slots → AreKnown base prefixes slots
none_known base prefixes slots nothing k there = absurd (differ k (All-contains (λ slot. slot ≡ None) slots (Some k) nothing there))
  where
    differ : (k : Known) → Some k ≡ None → ⊥
    differ k e = cc

-- with one more that is known
pub more_known : (base : List ℕ) (prefixes : List ℕ → Option (List ℕ)) (old new : List (Option Known)) (k : Known) → AreKnown base prefixes old → IsKnown base prefixes k
    → ((q : Known) → Contains new (Some q) → Contains old (Some q) ⊎ (q ≡ k)) → AreKnown base prefixes new
more_known base prefixes old new k all one among q there = by (among q there)
  where
    by : Contains old (Some q) ⊎ (q ≡ k) → IsKnown base prefixes q
    by (inl h) = all q h
    by (inr e) = subst (λ x. IsKnown base prefixes x) (sym e) one
