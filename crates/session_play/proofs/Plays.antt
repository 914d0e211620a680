-- The play of a record is one, and goes on from that of its first entries.
use Rattle.std.proofs.Common.{◌≡◌, List, [], ◌∷◌, ◌++◌, refl, sym, ap, ◌∙◌}
use Rattle.step_law.specs.declared.entry.Entry.{Entry}
use Rattle.record_law.specs.Protocol.{after}
use Rattle.session_play.specs.Looking.{steps_of}
use Rattle.session_play.specs.Playing.{IsPlayed, played, playing, then_played, value_at}
use Rattle.session_play.specs.Laws.{HasOnePlay, HasSomePlay, PlaysGoOn}
use Rattle.session_play.specs.Run.{Run}
use Rattle.session_play.specs.SessionShape.{shape_of}
use Rattle.session_play.specs.Value.{Play}

-- a play has the values of its history
pub is_played : {F B : Type 0} → (run : Run F B) (p : Play F B) → IsPlayed run p → p ≡ played run (steps_of p)
is_played run [] k = refl
is_played run (x ∷ p) k =
    let rest : p ≡ played run (steps_of p) = is_played run p k.1 in
    let value : x.value ≡ value_at run (played run (steps_of p)) x.step = k.0 ∙ ap (λ q. value_at run q x.step) rest in
    (λ i. record { step = x.step; value = value i } ∷ rest i)

pub has_one_play : {F B : Type 0} → HasOnePlay F B
has_one_play run steps p q k l =
    is_played run p k.played ∙ ap (played run) (k.of_record ∙ sym l.of_record) ∙ sym (is_played run q l.played)

-- what is played after a play has its values
pub plays_on : {F B : Type 0} → (run : Run F B) (p : Play F B) (steps : List Entry) → IsPlayed run p → IsPlayed run (playing run p steps)
plays_on run p [] k = k
plays_on run p (e ∷ later) k = plays_on run (then_played run p e) later (refl, k)

pub steps_on : {F B : Type 0} → (run : Run F B) (p : Play F B) (steps : List Entry)
    → steps_of (playing run p steps) ≡ after (shape_of run.setup) (steps_of p) steps
steps_on run p [] = refl
steps_on run p (e ∷ later) = steps_on run (then_played run p e) later

pub has_some_play : {F B : Type 0} → HasSomePlay F B
has_some_play run steps = record { of_record = steps_on run [] steps; played = plays_on run [] steps tt }

pub goes_on : {F B : Type 0} → (run : Run F B) (p : Play F B) (first second : List Entry) → playing run p (first ++ second) ≡ playing run (playing run p first) second
goes_on run p [] second = refl
goes_on run p (e ∷ first) second = goes_on run (then_played run p e) first second

pub plays_go_on : {F B : Type 0} → PlaysGoOn F B
plays_go_on run first second = goes_on run [] first second
