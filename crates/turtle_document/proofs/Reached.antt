-- How a reader stands after some tokens: what may still come there are the documents that begin with them. What a move says of partial
-- trees is so said of documents.
use Rattle.std.proofs.Common.{◌≡◌, inl, inr, ℕ, Bool, true, false, List, [], ◌∷◌, ◌++◌, Option, None, Some, Result, Ok, refl, sym, ap, ◌∙◌, subst, append_assoc, append-nil}
use Rattle.turtle_grammar.specs.Tree.{Lexeme, Name, Suffix, Verb, Object, Items, Predicates, More, Statement, Document, as_object, name_tokens, suffix_tokens, verb_tokens, object_tokens, items_tokens, predicates_tokens, objects_tokens, more_tokens, statement_tokens, document_tokens}
use Rattle.turtle_grammar.specs.Tree.Name.{full, prefixed, bare}
use Rattle.turtle_grammar.specs.Tree.Suffix.{nothing, language, datatype}
use Rattle.turtle_grammar.specs.Tree.Verb.{predicate, is_a}
use Rattle.turtle_grammar.specs.Tree.Object.{named, label, anonymous, quoted, short, collection, properties}
use Rattle.turtle_grammar.specs.Tree.Items.{none, item}
use Rattle.turtle_grammar.specs.Tree.Predicates.{predicates}
use Rattle.turtle_grammar.specs.Tree.More.{done, empty, next}
use Rattle.turtle_grammar.specs.Tree.Triples.{about, alone, with_more}
use Rattle.turtle_grammar.specs.Tree.Statement.{at_prefix, at_base, sparql_prefix, sparql_base, triples}
use Rattle.turtle_document.specs.Meaning.{Fault, State, document_of}
use Rattle.turtle_document.specs.Answer.{IsClearTo, BeginsDocument, IsOpen, Means, IsUnfinished, Faults}
use Rattle.turtle_document.specs.Machine.{Config, config}
use Rattle.turtle_document.specs.declared.expected.Hole.{Hole}
use Rattle.turtle_document.specs.declared.expected.Hole.TheVariants as holes
use Rattle.turtle_document.specs.declared.expected.Expected.{Expected}
use Rattle.turtle_document.specs.declared.expected.Expected.TheVariants as expect
use Rattle.turtle_document.proofs.Completion.{Tail, Behind, Up, up_tokens, tail_tokens, behind_tokens, maybe_tokens, Completion, tokens_by, Partial, tokens_of, completed, Moves, IsStuck, HasFault}
use Rattle.turtle_document.proofs.Completion.Tail.{over, another}
use Rattle.turtle_document.proofs.Completion.Behind.{again, list}

-- The documents that begin with these tokens are the partial trees that may come, after them, and mean what they leave.
pub record Reached (start : State) (front : List Lexeme) (c : Config) (st : State) : Type 0 where
  pub build : (y : Partial c) → (d : Document) × (document_tokens d ≡ front ++ tokens_of c y) × (document_of d start ≡ completed c y st)
  pub split : (d : Document) (rest : List Lexeme) → document_tokens d ≡ front ++ rest
      → (y : Partial c) × (rest ≡ tokens_of c y) × (document_of d start ≡ completed c y st)

-- before a document's first token
pub reached_start : (start : State) → Reached start [] (config expect.Statement []) start
reached_start start = record { build = λ y. (y, refl, refl); split = λ d rest e. (d, sym e, refl) }

pub reached_next : (start : State) (front : List Lexeme) (c : Config) (t : Lexeme) (st : State) (d : Config) (after : State)
    → Reached start front c st → Moves c t st d after → Reached start (front ++ t ∷ []) d after
reached_next start front c t st d after r m = record {
  build = λ y.
      let x = m.build y in let doc = r.build x.0 in
      (doc.0, doc.1 ∙ (ap (λ ts. front ++ ts) x.1 ∙ sym (append_assoc front (t ∷ []) (tokens_of d y))), doc.2 ∙ x.2);
  split = λ doc rest e.
      let x = r.split doc (t ∷ rest) (e ∙ append_assoc front (t ∷ []) rest) in let y = m.split x.0 rest (sym x.1) in
      (y.0, y.1, x.2 ∙ y.2);
}

-- What tokens are, where the partial trees after them can be closed before any place without a fault.
pub is_open : (start : State) (front : List Lexeme) (c : Config) (st : State) → Reached start front c st
    → ((n : ℕ) → (x : Partial c) × IsClearTo n (completed c x st)) → IsOpen start front
is_open start front c st r some n =
    let x = some n in let d = r.build x.0 in
    let P : Result State Fault → Type 0 = λ left. IsClearTo n left in
    (d.0, tokens_of c x.0, d.1, subst P (sym d.2) x.1)

-- a token that no partial tree begins with ends every document
pub no_document : (start : State) (front : List Lexeme) (c : Config) (t : Lexeme) (st : State) → Reached start front c st
    → IsStuck c t → BeginsDocument (front ++ t ∷ []) → ⊥
no_document start front c t st r stuck b =
    let x = r.split b.0 (t ∷ b.1) (b.2 ∙ append_assoc front (t ∷ []) b.1) in stuck x.0 b.1 (sym x.1)

-- a fault of the partial trees that begin so is one of the documents
pub has_fault : (start : State) (front : List Lexeme) (c : Config) (t : Lexeme) (st : State) (f : Fault) → Reached start front c st
    → HasFault c t st f → Faults start (front ++ t ∷ []) f
has_fault start front c t st f r h =
    let x = h.there in let d = r.build x.0 in (
      (d.0, x.1, d.1 ∙ (ap (λ ts. front ++ ts) x.2 ∙ sym (append_assoc front (t ∷ []) x.1))),
      (λ d more e. let y = r.split d (t ∷ more) (e ∙ append_assoc front (t ∷ []) more) in y.2 ∙ h.each y.0 more (sym y.1)),
    )

-- before a statement, all tokens so far are a document
pub means : (start : State) (front : List Lexeme) (outer : List Hole) (st : State) → Reached start front (config expect.Statement outer) st
    → Means start front st
means start front outer st r = let d = r.build [] in (d.0, d.1 ∙ append-nil front, d.2)

some_name : (x : Name) (rest : List Lexeme) → name_tokens x rest ≡ [] → ⊥
some_name (full leaf) rest e = cc
some_name (prefixed leaf) rest e = cc
some_name (bare leaf) rest e = cc

some_verb : (x : Verb) (rest : List Lexeme) → verb_tokens x rest ≡ [] → ⊥
some_verb (predicate name) rest e = some_name name rest e
some_verb (is_a leaf) rest e = cc

some_object : (x : Object) (rest : List Lexeme) → object_tokens x rest ≡ [] → ⊥
some_object (named name) rest e = some_name name rest e
some_object (label leaf) rest e = cc
some_object (anonymous start end) rest e = cc
some_object (quoted quoting leaf suffix) rest e = cc
some_object (short shorthand leaf) rest e = cc
some_object (collection start items end) rest e = cc
some_object (properties start inner end) rest e = cc

some_predicates : (x : Predicates) (rest : List Lexeme) → predicates_tokens x rest ≡ [] → ⊥
some_predicates (predicates verb objects more) rest e = some_verb verb (objects_tokens objects (more_tokens more rest)) e

some_items : (x : Items) (t : Lexeme) (rest : List Lexeme) → items_tokens x (t ∷ rest) ≡ [] → ⊥
some_items none t rest e = cc
some_items (item object items) t rest e = some_object object (items_tokens items (t ∷ rest)) e

some_more : (x : More) (t : Lexeme) (rest : List Lexeme) → more_tokens x (t ∷ rest) ≡ [] → ⊥
some_more done t rest e = cc
some_more (empty semicolon more) t rest e = cc
some_more (next semicolon inner) t rest e = cc

some_tail : (x : Tail) (t : Lexeme) (rest : List Lexeme) → tail_tokens x (t ∷ rest) ≡ [] → ⊥
some_tail (over more) t rest e = some_more more t rest e
some_tail (another comma objects more) t rest e = cc

some_behind : (x : Behind) (t : Lexeme) (rest : List Lexeme) → behind_tokens x (t ∷ rest) ≡ [] → ⊥
some_behind (again more) t rest e = some_more more t rest e
some_behind (list more) t rest e = some_predicates more (t ∷ rest) e

some_maybe : (x : Option Predicates) (t : Lexeme) (rest : List Lexeme) → maybe_tokens x (t ∷ rest) ≡ [] → ⊥
some_maybe None t rest e = cc
some_maybe (Some more) t rest e = some_predicates more (t ∷ rest) e

some_up : (hole : Hole) (outer : List Hole) (x : Up (hole ∷ outer)) → up_tokens (hole ∷ outer) x ≡ [] → ⊥
some_up holes.Subject outer x e = some_predicates x.0 _ e
some_up holes.ListedSubject outer x e = some_maybe x.0 _ _ e
some_up (holes.Object s p) outer x e = some_tail x.0 _ _ e
some_up (holes.Item first node) outer x e = some_items x.0 _ _ e

some_suffix : (x : Suffix) (hole : Hole) (outer : List Hole) (up : Up (hole ∷ outer)) → suffix_tokens x (up_tokens (hole ∷ outer) up) ≡ [] → ⊥
some_suffix nothing hole outer up e = some_up hole outer up e
some_suffix (language tag) hole outer up e = cc
some_suffix (datatype carets name) hole outer up e = cc

some_property : (node : ℕ) (outer : List Hole) (x : Completion (expect.Property node) outer) → tokens_by (expect.Property node) outer x ≡ [] → ⊥
some_property node outer (inl x) e = cc
some_property node outer (inr x) e = some_predicates x.0 _ e

-- whether a statement or the document's end has to come next
abbrev pub is_between : Expected → Bool
is_between expect.Statement = true
is_between _ = false

-- Within a statement more has to come.
pub some_token : (expected : Expected) (outer : List Hole) → is_between expected ≡ false → (x : Completion expected outer) → tokens_by expected outer x ≡ [] → ⊥
some_token expect.Statement outer within x e = cc
some_token (expect.Prefix dot) outer within x e = cc
some_token (expect.Namespace dot prefix) outer within x e = cc
some_token (expect.Base dot) outer within x e = cc
some_token expect.DirectiveDot outer within x e = cc
some_token (expect.Verb s) outer within x e = some_predicates x.0 _ e
some_token (expect.AfterSemicolon s) outer within x e = some_behind x.0 _ _ e
some_token (expect.AfterObject s p) outer within x e = some_tail x.0 _ _ e
some_token (expect.AfterListed s) outer within x e = some_maybe x.0 _ _ e
some_token (expect.Object s p) outer within x e = some_object x.0 _ e
some_token (expect.Item chain) outer within x e = some_items x.0 _ _ e
some_token (expect.Property node) outer within x e = some_property node outer x e
some_token (expect.Suffix text at hole) outer within x e = some_suffix x.0 hole outer x.1 e
some_token (expect.Datatype text hole) outer within x e = some_name x.0 _ e

-- within a statement no document has all tokens so far and no more
pub unfinished : (start : State) (front : List Lexeme) (expected : Expected) (outer : List Hole) (st : State)
    → Reached start front (config expected outer) st → is_between expected ≡ false → IsUnfinished front
unfinished start front expected outer st r within d e =
    let x = r.split d [] (e ∙ sym (append-nil front)) in some_token expected outer within x.0 (sym x.1)

some_statement : (x : Statement) (rest : List Lexeme) → statement_tokens x rest ≡ [] → ⊥
some_statement (at_prefix at namespace iri dot) rest e = cc
some_statement (at_base at iri dot) rest e = cc
some_statement (sparql_prefix word namespace iri) rest e = cc
some_statement (sparql_base word iri) rest e = cc
some_statement (triples (about subject inner) dot) rest e = some_object (as_object subject) _ e
some_statement (triples (alone start inner end) dot) rest e = cc
some_statement (triples (with_more start inner end outer) dot) rest e = cc

no_tokens : (x : Document) (st : State) → [] ≡ document_tokens x → document_of x st ≡ Ok st
no_tokens [] st e = refl
no_tokens (statement ∷ statements) st e = absurd (some_statement statement (document_tokens statements) (sym e))

-- A document that has all tokens so far, and no more, leaves what has been reached.
pub means_this : (start : State) (front : List Lexeme) (expected : Expected) (outer : List Hole) (st after : State)
    → Reached start front (config expected outer) st → Means start front after → after ≡ st
means_this start front expect.Statement outer st after r m =
    let x = r.split m.0 [] (m.1 ∙ sym (append-nil front)) in
    let left : Ok after ≡ Ok st = sym m.2 ∙ (x.2 ∙ no_tokens x.0 st x.1) in cc
means_this start front expected outer st after r m = absurd (unfinished start front expected outer st r refl m.0 m.1)
