-- A reader's run over tokens: how far it comes.
use Rattle.std.proofs.Common.{◌≡◌, List, [], ◌∷◌, ◌++◌, refl, sym, subst, append_assoc, append-nil}
use Rattle.turtle_grammar.specs.Tree.{Lexeme, Leaf}
use Rattle.turtle_document.specs.Meaning.{Fault, State}
use Rattle.turtle_document.specs.Machine.{Config, config, Move, move}
use Rattle.turtle_document.specs.Machine.Move.{to, stuck, fails}
use Rattle.turtle_document.specs.declared.expected.Expected.TheVariants as expect
use Rattle.turtle_document.proofs.Completion.{IsStuck, HasFault, IsRight}
use Rattle.turtle_document.proofs.Formed.{IsFormed, LeadsWell, kept, formed_first}
use Rattle.turtle_document.proofs.Reached.{Reached, reached_start, reached_next}
use Rattle.turtle_document.proofs.Right.{right}

abbrev pub leaf_of : Lexeme → Leaf
leaf_of t = record { at = t.at; text = t.text }

-- It takes all tokens, or it stops at one, which no document has there, or at one whose fault each document has that begins so.
pub data Course (start : State) (tokens : List Lexeme) : Type 0 where
  through : (c : Config) → (st : State) → IsFormed c → Reached start tokens c st → Course start tokens
  stops : (front : List Lexeme) → (t : Lexeme) → (back : List Lexeme) → tokens ≡ front ++ t ∷ back
      → (c : Config) → (st : State) → IsFormed c → Reached start front c st → IsStuck c t → Course start tokens
  is_faulty : (front : List Lexeme) → (t : Lexeme) → (back : List Lexeme) → tokens ≡ front ++ t ∷ back
      → (c : Config) → (st : State) → IsFormed c → Reached start front c st → (f : Fault) → HasFault c t st f → Course start tokens

step : (start : State) (front : List Lexeme) (t : Lexeme) (rest : List Lexeme) (c : Config) (st : State)
    → IsFormed c → Reached start front c st → (m : Move) → IsRight c t st m → LeadsWell m
    → ((d : Config) (after : State) → IsFormed d → Reached start (front ++ t ∷ []) d after → Course start ((front ++ t ∷ []) ++ rest))
    → Course start (front ++ t ∷ rest)
step start front t rest c st formed r (to d after) is_right leads more =
    let P : List Lexeme → Type 0 = λ ts. Course start ts in
    subst P (append_assoc front (t ∷ []) rest) (more d after leads (reached_next start front c t st d after r is_right))
step start front t rest c st formed r stuck is_right leads more = Course.stops front t rest refl c st formed r is_right
step start front t rest c st formed r (fails f) is_right leads more = Course.is_faulty front t rest refl c st formed r f is_right

course_from : (start : State) (tokens front : List Lexeme) (c : Config) (st : State) → IsFormed c → Reached start front c st
    → Course start (front ++ tokens)
course_from start [] front c st formed r =
    let P : List Lexeme → Type 0 = λ ts. Reached start ts c st in Course.through c st formed (subst P (sym (append-nil front)) r)
course_from start (t ∷ rest) front c st formed r =
    step start front t rest c st formed r (move c t.kind (leaf_of t) st)
    (right c t.kind (leaf_of t) st formed) (kept c t.kind (leaf_of t) st formed) (course_from start rest (front ++ t ∷ []))

pub course : (start : State) (tokens : List Lexeme) → Course start tokens
course start tokens = course_from start tokens [] (config expect.Statement []) start formed_first (reached_start start)
