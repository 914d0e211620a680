-- Each text that falls into tokens is read in some way.
use Rattle.std.proofs.Common.{◌≡◌, ℕ, List, [], ◌∷◌, length, refl}
use Rattle.triple_store.specs.declared.term.Triple.{Triple}
use Rattle.turtle_grammar.specs.Tokens.{Answer, Lexes, start_of}
use Rattle.turtle_grammar.specs.Tokens.Answer.{end, is_unclosed, is_bad}
use Rattle.turtle_grammar.specs.declared.token.Token.{Token}
use Rattle.turtle_document.specs.Meaning.{State, beginning}
use Rattle.turtle_document.specs.Answer.{Outcome, IsReadAs, HasTokens}
use Rattle.turtle_document.specs.Answer.Outcome.{document, unclosed, bad_byte, syntax, fault}
use Rattle.turtle_document.specs.Machine.{Config, config, Move, move}
use Rattle.turtle_document.specs.Machine.Move.{to, stuck, fails}
use Rattle.turtle_document.specs.declared.expected.Expected.{Expected}
use Rattle.turtle_document.specs.declared.expected.Expected.TheVariants as expect
use Rattle.turtle_document.specs.declared.expected.Hole.{Hole}
use Rattle.turtle_document.proofs.Reading.{Stands, leaf_at, stands_first, stands_next, reads_stuck, reads_fault, reads_unclosed, reads_bad, reads_document, reads_early}

-- some answer to bytes
abbrev IsRead : State → List ℕ → Type 0
IsRead start bytes = (o : Outcome) × IsReadAs start bytes o

at_end : (start : State) (bytes : List ℕ) (place : ℕ) (expected : Expected) (outer : List Hole) (st : State)
    → Stands start bytes place (config expected outer) st → Lexes bytes place [] end → IsRead start bytes
at_end start bytes place expect.Statement outer st s h =
    (document st.rows, reads_document start bytes place outer st s h.0)
at_end start bytes place expected outer st s h =
    (syntax (length bytes), reads_early start bytes place expected outer st s h.0 refl)

at_last : (start : State) (bytes : List ℕ) (place : ℕ) (c : Config) (st : State) (last : Answer)
    → Stands start bytes place c st → Lexes bytes place [] last → IsRead start bytes
at_last start bytes place c st (Answer.next t) s h = absurd h.1
at_last start bytes place c st end s h = at_end start bytes place c.next c.outer st s h
at_last start bytes place c st (is_unclosed at) s h =
    (unclosed at, reads_unclosed start bytes place c st at s h.0)
at_last start bytes place c st (is_bad at) s h = (bad_byte at, reads_bad start bytes place c st at s h.0)

at_token : (start : State) (bytes : List ℕ) (place : ℕ) (c : Config) (st : State) (t : Token) (rest : List Token) (last : Answer) (m : Move)
    → Stands start bytes place c st → Lexes bytes place (t ∷ rest) last → move c t.kind (leaf_at bytes t) st ≡ m
    → ((d : Config) (after : State) → Stands start bytes t.upto d after → IsRead start bytes) → IsRead start bytes
at_token start bytes place c st t rest last (to d after) s h e more =
    more d after (stands_next start bytes place c st t d after s h.0 e)
at_token start bytes place c st t rest last stuck s h e more =
    (syntax t.at, reads_stuck start bytes place c st t s h.0 e)
at_token start bytes place c st t rest last (fails f) s h e more =
    (fault f, reads_fault start bytes place c st t f s h.0 e)

from_here : (start : State) (bytes : List ℕ) (tokens : List Token) (place : ℕ) (c : Config) (st : State) (last : Answer)
    → Stands start bytes place c st → Lexes bytes place tokens last → IsRead start bytes
from_here start bytes [] place c st last s h = at_last start bytes place c st last s h
from_here start bytes (t ∷ rest) place c st last s h =
    at_token start bytes place c st t rest last (move c t.kind (leaf_at bytes t) st) s h refl
    (λ d after stands. from_here start bytes rest t.upto d after last stands h.1)

pub some_outcome : (base : List ℕ) (rows : List Triple) (bytes : List ℕ) (tokens : List Token) (last : Answer)
    → HasTokens bytes tokens last → (o : Outcome) × IsReadAs (beginning base rows) bytes o
some_outcome base rows bytes tokens last h =
    from_here (beginning base rows) bytes tokens (start_of bytes) (config expect.Statement []) (beginning base rows) last
    (stands_first (beginning base rows) bytes h.0) h.1
