-- Where the numbers of blank nodes lie that a reader holds.
use Rattle.std.proofs.Common.{◌≡◌, ◌⊎◌, inl, inr, ℕ, ◌+◌, ◌-◌, ◌<◌, ◌≤◌, Bool, true, false, List, [], ◌∷◌, ◌++◌, length, Option, None, Some, Result, Ok, Err, if◌then◌else◌, refl, ap, sym, subst, ◌∙◌, length-append, arith}
use Rattle.std.specs.Prelude.{◌^◌, nat_le}
use Rattle.std.specs.Option.{option_map}
use Rattle.triple_store.specs.Triples.{blanks_of}
use Rattle.triple_store.specs.declared.fault.TheConstants.{MOST_ROWS}
use Rattle.triple_store.specs.declared.term.Term.{Term}
use Rattle.triple_store.specs.declared.term.Term.TheVariants as terms
use Rattle.triple_store.specs.declared.term.Triple.{Triple}
use Rattle.turtle_grammar.specs.Tree.{Leaf, Shorthand}
use Rattle.turtle_grammar.specs.declared.token.TokenKind.{TokenKind}
use Rattle.turtle_document.specs.Below.{IsBelow, HoleBelow, ChainBelow, NextBelow}
use Rattle.turtle_document.specs.Meaning as meaning
use Rattle.turtle_document.specs.Vocabulary.{rdf_first, rdf_rest}
use Rattle.turtle_document.specs.Meaning.{Fault, State, numbered, beginning, is_row}
use Rattle.turtle_document.specs.Meaning.Fault.{full_store}
use Rattle.turtle_document.specs.Machine as machine
use Rattle.turtle_document.specs.Machine.{Config, Move, config, on, last_of, first_of, collection_of}
use Rattle.turtle_document.specs.Machine.Move.{to, fails}
use Rattle.turtle_document.specs.Numbers.{HaveFewNumbers}
use Rattle.turtle_document.specs.declared.expected.Chain.{Chain}
use Rattle.turtle_document.specs.declared.expected.Chain.TheVariants as chains
use Rattle.turtle_document.specs.declared.expected.Expected.{Expected}
use Rattle.turtle_document.specs.declared.expected.Expected.TheVariants as expect
use Rattle.turtle_document.specs.declared.expected.Hole.{Hole}
use Rattle.turtle_document.specs.declared.expected.Hole.TheVariants as holes
use Rattle.turtle_document.proofs.Mentions.{Has, has_left, has_right, ends, need_terms, length_ends}
use Rattle.turtle_document.proofs.Numbering.{Numbered, waiting, all_waiting, next_waiting, numbered_first, stays_numbered}
use Rattle.turtle_read.specs.Moves.{linked, filled, move}
use Rattle.turtle_read.specs.Names.{short_of}
use Rattle.turtle_read.specs.Rooms.{HasRoom}

pub term_as : (b : ℕ) (t u : Term) → u ≡ t → IsBelow b t → IsBelow b u
term_as b t u e h = let P : Term → Type 0 = λ x. IsBelow b x in subst P (sym e) h

pub iri_below : (b : ℕ) (t : Term) (iri : List ℕ) → t ≡ terms.Iri iri → IsBelow b t
iri_below b t iri e = term_as b (terms.Iri iri) t e (omega arith)

pub literal_below : (b : ℕ) (t : Term) (text datatype lang : List ℕ) → t ≡ terms.Literal text datatype lang → IsBelow b t
literal_below b t text datatype lang e = term_as b (terms.Literal text datatype lang) t e (omega arith)

pub short_below : (b : ℕ) (o : Option Shorthand) (text : List ℕ) (t : Term) → Some t ≡ option_map (short_of text) o → IsBelow b t
short_below b None text t e = absurd (cc)
short_below b (Some s) text t e = let same : t ≡ short_of text s = cc in term_as b (short_of text s) t same (omega arith)

pub hole_as : (b : ℕ) (hole other : Hole) → hole ≡ other → HoleBelow b hole → HoleBelow b other
hole_as b hole other e h = let P : Hole → Type 0 = λ x. HoleBelow b x in subst P e h

pub chain_as : (b : ℕ) (chain other : Chain) → chain ≡ other → ChainBelow b chain → ChainBelow b other
chain_as b chain other e h = let P : Chain → Type 0 = λ x. ChainBelow b x in subst P e h

pub next_as : (b : ℕ) (next other : Expected) → next ≡ other → NextBelow b next → NextBelow b other
next_as b next other e h = let P : Expected → Type 0 = λ x. NextBelow b x in subst P e h

by_chain : (b : ℕ) (chain : Chain) → ChainBelow b chain → IsBelow b (collection_of chain)
by_chain b chains.Empty h = omega arith
by_chain b (chains.Nodes first last) h = omega (arith, h.0)

pub collection_below : (b : ℕ) (chain : Chain) (t : Term) → t ≡ collection_of chain → ChainBelow b chain → IsBelow b t
collection_below b chain t e h = term_as b (collection_of chain) t e (by_chain b chain h)

pub first_below : (b : ℕ) (chain : Chain) (node : ℕ) → ChainBelow b chain → node < b → first_of chain node < b
first_below b chains.Empty node h small = small
first_below b (chains.Nodes first last) node h small = h.0

-- ---- room

pub room_as : (k : ℕ) (st after : State) → after ≡ st → HasRoom k st → HasRoom k after
room_as k st after e h = let P : State → Type 0 = λ s. HasRoom k s in subst P (sym e) h

pub less_room : (st : State) → HasRoom 2 st → HasRoom 1 st
less_room st h = record { blanks = let m = h.blanks in omega (arith, m); labels = h.labels }

pub numbered_room : (st after : State) → after ≡ numbered st → HasRoom 2 st → HasRoom 1 after
numbered_room st after e h = room_as 1 (numbered st) after e (record { blanks = let m = h.blanks in omega (arith, m); labels = h.labels })

-- the numbers are the same
abbrev IsSame : State → State → Type 0
IsSame st after = (after.blanks ≡ st.blanks) × (after.labels ≡ st.labels)

room_by : (k : ℕ) (st after : State) → IsSame st after → HasRoom k st → HasRoom k after
room_by k st after same h =
    let P : (List ℕ → Option ℕ) → Type 0 = λ labels. (name : List ℕ) (n : ℕ) → labels name ≡ Some n → n < 2 ^ 31 in
    let Q : ℕ → Type 0 = λ n. n + k ≤ 2 ^ 31 in
    record { blanks = subst Q (sym same.0) h.blanks; labels = subst P (sym same.1) h.labels }

same_of : (st after : State) → after ≡ st → IsSame st after
same_of st after e = (ap (λ (s : State). s.blanks) e, ap (λ (s : State). s.labels) e)

add_same : (at : ℕ) (s p o : Term) (st after : State) → meaning.add at s p o st ≡ Ok after → IsSame st after
add_same at s p o st after e = by (is_row s p o st.rows) (nat_le MOST_ROWS (length st.rows)) e
  where
    by : (there full : Bool)
        → (if there then Ok st else if full then Err (full_store at) else Ok (record st { rows = st.rows ++ record { s = s; p = p; o = o } ∷ [] })) ≡ Ok after → IsSame st after
    by true full e = let same : after ≡ st = cc in same_of st after same
    by false true e = absurd (cc)
    by false false e =
        let same : after ≡ record st { rows = st.rows ++ record { s = s; p = p; o = o } ∷ [] } = cc in
        (ap (λ (s : State). s.blanks) same, ap (λ (s : State). s.labels) same)

pub linked_room : (k : ℕ) (chain : Chain) (at node : ℕ) (st after : State) → linked chain at node st ≡ Ok after → HasRoom k st → HasRoom k after
unfolding linked
linked_room k chains.Empty at node st after e h = let same : after ≡ st = cc in room_as k st after same h
linked_room k (chains.Nodes first last) at node st after e h = room_by k st after (add_same at (terms.Blank last) (terms.Iri rdf_rest) (terms.Blank node) st after e) h

-- what a hole that is filled leaves
abbrev IsLeft : ℕ → State → Config → State → Type 0
IsLeft b st c after = NextBelow b c.next × IsSame st after

left_to : (b : ℕ) (st mid : State) (next : Expected) (outer : List Hole) (c : Config) (after : State) → NextBelow b next → IsSame st mid
    → to (config next outer) mid ≡ to c after → IsLeft b st c after
left_to b st mid next outer c after below same e =
    let left : config next outer ≡ c = cc in
    let state : mid ≡ after = cc in
    let P : Config → Type 0 = λ d. NextBelow b d.next in
    let Q : State → Type 0 = λ s. IsSame st s in
    (subst P left below, subst Q state same)

left_by : (b : ℕ) (st : State) (r : Result State Fault) (next : Expected) (outer : List Hole) (c : Config) (after : State) → NextBelow b next
    → ((mid : State) → r ≡ Ok mid → IsSame st mid) → on r (to (config next outer)) ≡ to c after → IsLeft b st c after
left_by b st (Ok mid) next outer c after below same e = left_to b st mid next outer c after below (same mid refl) e
left_by b st (Err f) next outer c after below same e = absurd (cc)

fill_left : (b : ℕ) (hole : Hole) (at : ℕ) (term : Term) (outer : List Hole) (st : State) (c : Config) (after : State) → HoleBelow b hole → IsBelow b term
    → machine.filled hole at term outer st ≡ to c after → IsLeft b st c after
fill_left b holes.Subject at term outer st c after h t e = left_to b st st (expect.Verb term) outer c after t (refl, refl) e
fill_left b holes.ListedSubject at term outer st c after h t e = left_to b st st (expect.AfterListed term) outer c after t (refl, refl) e
fill_left b (holes.Object s p) at term outer st c after h t e =
    left_by b st (meaning.add at s p term st) (expect.AfterObject s p) outer c after h (λ mid f. add_same at s p term st mid f) e
fill_left b (holes.Item first node) at term outer st c after h t e =
    left_by b st (meaning.add at (terms.Blank node) (terms.Iri rdf_first) term st) (expect.Item (chains.Nodes first node)) outer c after h (λ mid f. add_same at (terms.Blank node) (terms.Iri rdf_first) term st mid f) e

pub filled_next : (b : ℕ) (hole : Hole) (at : ℕ) (term : Term) (outer : List Hole) (st : State) (c : Config) (after : State) → HoleBelow b hole → IsBelow b term
    → filled hole at term outer st ≡ to c after → NextBelow b c.next
unfolding filled
filled_next b hole at term outer st c after h t e = (fill_left b hole at term outer st c after h t e).0

pub filled_room : (k : ℕ) (hole : Hole) (at : ℕ) (term : Term) (outer : List Hole) (st : State) (c : Config) (after : State) → HoleBelow (2 ^ 31) hole → IsBelow (2 ^ 31) term
    → filled hole at term outer st ≡ to c after → HasRoom k st → HasRoom k after
unfolding filled
filled_room k hole at term outer st c after h t e room = room_by k st after (fill_left (2 ^ 31) hole at term outer st c after h t e).1 room

-- ---- between two tokens

one_waits : (hole : Hole) → length (waiting hole) ≤ 1
one_waits holes.Subject = omega arith
one_waits holes.ListedSubject = omega arith
one_waits (holes.Object s p) = omega arith
one_waits (holes.Item first node) = omega arith

few_wait : (outer : List Hole) → length (all_waiting outer) ≤ length outer
few_wait [] = omega arith
few_wait (hole ∷ outer) =
    let a = one_waits hole in let b = few_wait outer in
    let e = length-append (waiting hole) (all_waiting outer) in omega (arith, a, b, e)

next_waits : (next : Expected) → length (next_waiting next) ≤ 1
next_waits (expect.Verb s) = omega arith
next_waits (expect.Object s p) = omega arith
next_waits (expect.Property node) = omega arith
next_waits (expect.Suffix text at hole) = one_waits hole
next_waits (expect.Datatype text hole) = one_waits hole
next_waits _ = omega arith

somewhere : (ts us : List Term) (n : ℕ) → Has ts n ⊎ Has us n → Has (ts ++ us) n
somewhere ts us n (inl h) = has_left ts us n h
somewhere ts us n (inr h) = has_right ts us n h

few_numbers : (old : List Triple) (next : Expected) (outer : List Hole) (st : State) → HaveFewNumbers old → length st.rows ≤ MOST_ROWS → Numbered old next outer st
    → st.blanks + 2 ≤ 2 ^ 31
few_numbers old next outer st few most h =
    let f = h.fine in
    let wait = next_waiting next ++ all_waiting outer in
    let count : st.blanks - blanks_of old ≤ length (ends f.new ++ wait) =
    need_terms (st.blanks - blanks_of old) (blanks_of old) (ends f.new ++ wait) (λ n above below. somewhere (ends f.new) wait n (f.each n above (omega (arith, above, below)))) in
    let a = length-append (ends f.new) wait in
    let b = length-append (next_waiting next) (all_waiting outer) in
    let two = length_ends f.new in
    let one = next_waits next in
    let others = few_wait outer in
    let open_ones = h.few_open in
    let long : length st.rows ≡ length old + length f.new = ap length f.rows ∙ length-append old f.new in
    omega (arith, count, a, b, two, one, others, open_ones, long, few, most)

more_below : (b c : ℕ) (t : Term) → b ≤ c → IsBelow b t → IsBelow c t
more_below b c t le h = omega (arith, le, h)

hole_more : (b c : ℕ) (hole : Hole) → b ≤ c → HoleBelow b hole → HoleBelow c hole
hole_more b c holes.Subject le h = tt
hole_more b c holes.ListedSubject le h = tt
hole_more b c (holes.Object s p) le h = (more_below b c s le h.0, more_below b c p le h.1)
hole_more b c (holes.Item first node) le h = (omega (arith, le, h.0), omega (arith, le, h.1))

chain_more : (b c : ℕ) (chain : Chain) → b ≤ c → ChainBelow b chain → ChainBelow c chain
chain_more b c chains.Empty le h = tt
chain_more b c (chains.Nodes first last) le h = (omega (arith, le, h.0), omega (arith, le, h.1))

next_more : (b c : ℕ) (next : Expected) → b ≤ c → NextBelow b next → NextBelow c next
next_more b c (expect.Verb s) le h = more_below b c s le h
next_more b c (expect.AfterSemicolon s) le h = more_below b c s le h
next_more b c (expect.AfterObject s p) le h = (more_below b c s le h.0, more_below b c p le h.1)
next_more b c (expect.AfterListed s) le h = more_below b c s le h
next_more b c (expect.Object s p) le h = (more_below b c s le h.0, more_below b c p le h.1)
next_more b c (expect.Item chain) le h = chain_more b c chain le h
next_more b c (expect.Property node) le h = omega (arith, le, h)
next_more b c (expect.Suffix text at hole) le h = hole_more b c hole le h
next_more b c (expect.Datatype text hole) le h = hole_more b c hole le h
next_more b c expect.Statement le h = tt
next_more b c (expect.Prefix dot) le h = tt
next_more b c (expect.Namespace dot prefix) le h = tt
next_more b c (expect.Base dot) le h = tt
next_more b c expect.DirectiveDot le h = tt

-- Some rows were there, whose numbers were few, and each number since is accounted for.
abbrev pub IsCounted : Config → State → Type 0
IsCounted c st = (old : List Triple) × HaveFewNumbers old × Numbered old c.next c.outer st

pub counted_room : (c : Config) (st : State) → length st.rows ≤ MOST_ROWS → IsCounted c st → HasRoom 2 st
counted_room c st most h =
    let m = few_numbers h.0 c.next c.outer st h.1 most h.2 in
    record { blanks = m; labels = λ name n e. let k = h.2.fine.labels name n e in omega (arith, m, k) }

pub counted_next : (c : Config) (st : State) → length st.rows ≤ MOST_ROWS → IsCounted c st → NextBelow (2 ^ 31) c.next
counted_next c st most h =
    let m = few_numbers h.0 c.next c.outer st h.1 most h.2 in
    next_more st.blanks (2 ^ 31) c.next (omega (arith, m)) h.2.next_below

pub counted_first : (base : List ℕ) (old : List Triple) (c : Config) (st : State) → c.next ≡ expect.Statement → c.outer ≡ [] → st ≡ beginning base old → HaveFewNumbers old → IsCounted c st
counted_first base old c st next outer begun few =
    let P : Expected → Type 0 = λ e. Numbered old e [] (beginning base old) in
    let Q : List Hole → Type 0 = λ o. Numbered old c.next o (beginning base old) in
    let R : State → Type 0 = λ s. Numbered old c.next c.outer s in
    (old, few, subst R (sym begun) (subst Q (sym outer) (subst P (sym next) (numbered_first base old))))

pub counted_on : (c : Config) (kind : TokenKind) (leaf : Leaf) (st : State) (d : Config) (after : State) → IsCounted c st → move c kind leaf st ≡ to d after → IsCounted d after
unfolding move
counted_on c kind leaf st d after h e = (h.0, h.1, stays_numbered h.0 c kind leaf st d after h.2 e)
