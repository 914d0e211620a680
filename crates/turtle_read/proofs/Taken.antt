-- How a reader and its lexer stand between two tokens of a text, and what the text is where they stop.
use Rattle.std.proofs.Common.{◌≡◌, ◌≢◌, ℕ, ◌+◌, ◌-◌, ◌<◌, ◌≤◌, Bool, true, false, cond, List, [], ◌∷◌, length, take, drop, IsUtf8, Option, None, Some, Result, Ok, Err, refl, ap, sym, subst, ◌∙◌, true≢false, arith}
use Rattle.std.specs.Prelude.{MatchOption, IsErrAnd, IfErr}
use Rattle.turtle_grammar.specs.Spans.{LiesFrom}
use Rattle.turtle_grammar.specs.declared.token.Token.{Token}
use Rattle.turtle_grammar.proofs.Spans.{rising_spans}
use Rattle.turtle_lex.specs.declared.fault.LexFault.{LexFault}
use Rattle.turtle_lex.specs.declared.fault.LexFault.TheVariants as lex
use Rattle.turtle_lex.specs.Reading.{Reading, IsBegun, ComesNext, Steps, moved_on}
use Rattle.turtle_document.specs.Answer.{IsReadAs}
use Rattle.turtle_document.specs.Answer.Outcome.{document, syntax}
use Rattle.turtle_document.specs.Meaning.{State}
use Rattle.turtle_document.specs.Meaning.Fault.{no_prefix, bad_iri, too_deep, full_store}
use Rattle.turtle_document.specs.Machine.{Config, config}
use Rattle.turtle_document.specs.Machine.Move.{to}
use Rattle.turtle_document.specs.declared.expected.Expected.{Expected}
use Rattle.turtle_document.specs.declared.expected.Expected.TheVariants as expect
use Rattle.turtle_document.proofs.Outcomes.{IsPlace, start_place}
use Rattle.turtle_document.proofs.Reached.{is_between}
use Rattle.turtle_document.proofs.Reading.{Stands, stands_first, stands_next, reads_stuck, reads_fault, reads_unclosed, reads_bad, reads_document, reads_early}
use Rattle.turtle_read.specs.declared.fault.TurtleFault.{TurtleFault}
use Rattle.turtle_read.specs.declared.fault.TurtleFault.TheVariants.{Lex}
use Rattle.turtle_read.specs.declared.token_fault.TokenFault.{TokenFault}
use Rattle.turtle_read.specs.declared.token_fault.TokenFault.TheVariants.{Syntax, NoPrefix, BadIri, Depth, StoreFull, NoMemory}
use Rattle.turtle_read.specs.Answers.{Tells}
use Rattle.turtle_read.specs.Faults.{Stops, whole_of}
use Rattle.turtle_read.specs.Moves.{move}
use Rattle.turtle_read.specs.Tokens.{IsTokenOf, leaf_in}

-- ---- between two tokens

-- The lexer has met no fault and stands at a place of the text, up to which the reader has taken its tokens.
pub record IsAt (start : State) (text : List ℕ) (lexer : Reading) (c : Config) (st : State) : Type 0 where
  pub same : lexer.text ≡ text
  pub sound : lexer.fault ≡ None
  pub place : IsPlace text lexer.at
  pub stands : Stands start text lexer.at c st

-- one of two cases, where the other can't be
none_then : (f : Option LexFault) (A : Type 0) (B : LexFault → Type 0) → ((w : LexFault) → B w → ⊥) → MatchOption f A B → (f ≡ None) × A
none_then None A B never h = (refl, h)
none_then (Some w) A B never h = absurd (never w h)

-- before the first token
pub at_first : (text : List ℕ) (lexer : Reading) (c : Config) (st : State) → IsUtf8 text → IsBegun text lexer
    → c.next ≡ expect.Statement → c.outer ≡ [] → IsAt st text lexer c st
at_first text lexer c st utf8 h is_next is_outer =
    let f = none_then lexer.fault _ _ (λ w k. k.0 utf8) h in
    let P : ℕ → Type 0 = λ at. IsPlace text at in
    let begun : config expect.Statement [] ≡ c = λ i. config (sym is_next i) (sym is_outer i) in
    let Q : ℕ → Config → Type 0 = λ at d. Stands st text at d st in
    record {
      same = f.1.1;
      sound = f.0;
      place = subst P (sym f.1.2) (start_place text utf8);
      stands = subst (λ (d : Config). Q lexer.at d) begun (subst (λ (at : ℕ). Q at (config expect.Statement [])) (sym f.1.2) (stands_first st text utf8));
    }

-- what a lexer without a fault answers
comes : (start : State) (text : List ℕ) (lexer : Reading) (c : Config) (st : State) (r : Result (Option Token) LexFault) (after : Reading)
    → IsAt start text lexer c st → Steps lexer r after → ComesNext text lexer.at r × (after ≡ moved_on lexer r)
comes start text lexer c st r after h steps =
    let P : Option LexFault → Type 0 = λ f. MatchOption f (ComesNext lexer.text lexer.at r × (after ≡ moved_on lexer r)) (λ w. (r ≡ Err w) × (after ≡ lexer)) in
    let Q : List ℕ → Type 0 = λ x. ComesNext x lexer.at r in
    let both = subst P h.sound steps in
    (subst Q h.same both.0, both.1)

pub is_token : (start : State) (text : List ℕ) (lexer : Reading) (c : Config) (st : State) (t : Token) (after : Reading)
    → IsAt start text lexer c st → Steps lexer (Ok (Some t)) after → IsTokenOf text t
is_token start text lexer c st t after h steps =
    record { place = lexer.at; within = h.place.0; utf8 = h.place.1; comes = (comes start text lexer c st (Ok (Some t)) after h steps).0 }

token_lies : (start : State) (text : List ℕ) (lexer : Reading) (c : Config) (st : State) (t : Token) (after : Reading)
    → IsAt start text lexer c st → Steps lexer (Ok (Some t)) after → LiesFrom text lexer.at t
token_lies start text lexer c st t after h steps =
    rising_spans text lexer.at t h.place.0 h.place.1 (comes start text lexer c st (Ok (Some t)) after h steps).0

-- after a token less is left
pub further : (start : State) (text : List ℕ) (lexer : Reading) (c : Config) (st : State) (t : Token) (after : Reading)
    → IsAt start text lexer c st → Steps lexer (Ok (Some t)) after → length text - after.at < length text - lexer.at
further start text lexer c st t after h steps =
    let l = token_lies start text lexer c st t after h steps in
    let moved : after.at ≡ t.upto = ap (λ (x : Reading). x.at) (comes start text lexer c st (Ok (Some t)) after h steps).1 in
    omega (arith, l.from, l.some, l.within, moved)

-- after a token that leads on
pub at_next : (start : State) (text : List ℕ) (lexer : Reading) (c : Config) (st : State) (t : Token) (after : Reading) (d : Config) (new : State)
    → IsAt start text lexer c st → Steps lexer (Ok (Some t)) after → move c t.kind (leaf_in text t) st ≡ to d new → IsAt start text after d new
unfolding move
at_next start text lexer c st t after d new h steps e =
    let l = token_lies start text lexer c st t after h steps in
    let n = comes start text lexer c st (Ok (Some t)) after h steps in
    let at : after.at ≡ t.upto = ap (λ (x : Reading). x.at) n.1 in
    record {
      same = ap (λ (x : Reading). x.text) n.1 ∙ h.same;
      sound = ap (λ (x : Reading). x.fault) n.1;
      place = subst (λ (i : ℕ). IsPlace text i) (sym at) (l.within, l.ends);
      stands = subst (λ (i : ℕ). Stands start text i d new) (sym at) (stands_next start text lexer.at c st t d new h.stands n.0 e);
    }

-- ---- where they stop

tells_syntax : (start : State) (text : List ℕ) (place at : ℕ) → place ≡ at → IsReadAs start text (syntax at) → IsReadAs start text (syntax place)
tells_syntax start text place at e h = subst (λ (i : ℕ). IsReadAs start text (syntax i)) (sym e) h

-- at a token
pub stops_at : (start : State) (text : List ℕ) (lexer : Reading) (c : Config) (st : State) (t : Token) (after : Reading) (why : TokenFault)
    → IsAt start text lexer c st → Steps lexer (Ok (Some t)) after → Stops t.at why (move c t.kind (leaf_in text t) st) → Tells (IsReadAs start text) (whole_of why)
unfolding move
stops_at start text lexer c st t after (Syntax place) h steps s =
    tells_syntax start text place t.at s.0 (reads_stuck start text lexer.at c st t h.stands (comes start text lexer c st (Ok (Some t)) after h steps).0 s.1)
stops_at start text lexer c st t after (NoPrefix place) h steps s =
    reads_fault start text lexer.at c st t (no_prefix place) h.stands (comes start text lexer c st (Ok (Some t)) after h steps).0 s
stops_at start text lexer c st t after (BadIri place) h steps s =
    reads_fault start text lexer.at c st t (bad_iri place) h.stands (comes start text lexer c st (Ok (Some t)) after h steps).0 s
stops_at start text lexer c st t after (Depth place) h steps s =
    reads_fault start text lexer.at c st t (too_deep place) h.stands (comes start text lexer c st (Ok (Some t)) after h steps).0 s
stops_at start text lexer c st t after (StoreFull place) h steps s =
    reads_fault start text lexer.at c st t (full_store place) h.stands (comes start text lexer c st (Ok (Some t)) after h steps).0 s
stops_at start text lexer c st t after NoMemory h steps s = tt

-- where no token comes
pub breaks : (start : State) (text : List ℕ) (lexer : Reading) (c : Config) (st : State) (w : LexFault) (after : Reading)
    → IsAt start text lexer c st → Steps lexer (Err w) after → Tells (IsReadAs start text) (Lex w)
breaks start text lexer c st (lex.NotUtf8 place) after h steps = absurd (comes start text lexer c st (Err (lex.NotUtf8 place)) after h steps).0
breaks start text lexer c st (lex.Unclosed place) after h steps =
    reads_unclosed start text lexer.at c st place h.stands (comes start text lexer c st (Err (lex.Unclosed place)) after h steps).0
breaks start text lexer c st (lex.BadByte place) after h steps =
    reads_bad start text lexer.at c st place h.stands (comes start text lexer c st (Err (lex.BadByte place)) after h steps).0

-- at the text's end, between two statements
pub is_document : (start : State) (text : List ℕ) (lexer : Reading) (c : Config) (st : State) (after : Reading)
    → IsAt start text lexer c st → Steps lexer (Ok None) after → c.next ≡ expect.Statement → IsReadAs start text (document st.rows)
is_document start text lexer c st after h steps e =
    let P : Expected → Type 0 = λ n. Stands start text lexer.at (config n c.outer) st in
    reads_document start text lexer.at c.outer st (subst P e h.stands) (comes start text lexer c st (Ok None) after h steps).0

within_statement : (n : Expected) → n ≢ expect.Statement → is_between n ≡ false
within_statement expect.Statement other = absurd (other refl)
within_statement _ other = refl

-- or within one
pub ends_early : (start : State) (text : List ℕ) (lexer : Reading) (c : Config) (st : State) (after : Reading)
    → IsAt start text lexer c st → Steps lexer (Ok None) after → c.next ≢ expect.Statement → IsReadAs start text (syntax (length text))
ends_early start text lexer c st after h steps other =
    reads_early start text lexer.at c.next c.outer st h.stands (comes start text lexer c st (Ok None) after h steps).0 (within_statement c.next other)

-- ---- answers of the code

-- the answer of a lexer is a token
pub steps_as : (lexer after : Reading) (o p : Option Token) → o ≡ p → Steps lexer (Ok o) after → Steps lexer (Ok p) after
steps_as lexer after o p e steps = subst (λ (x : Option Token). Steps lexer (Ok x) after) e steps

-- or it is none
pub ended : (lexer after : Reading) (o : Option Token) → ((t : Token) → o ≡ Some t → ⊥) → Steps lexer (Ok o) after → Steps lexer (Ok None) after
ended lexer after None never steps = steps
ended lexer after (Some t) never steps = absurd (never t refl)

-- a fault that `?` hands on
pub told_on : {T : Type 0} (Has : TurtleFault → Type 0) (r : Result T TurtleFault) (why : TurtleFault) → IsErrAnd r (λ made. made ≡ why) → Has why → IfErr r Has
told_on Has (Ok x) why e h = absurd e
told_on Has (Err made) why e h = subst Has (sym e) h
