-- What an entry makes of tasks, one kind of task at a time.
use Rattle.std.proofs.Common.{◌≡◌, ℕ, suc, ◌≤◌, Bool, true, false, not, cond, List, ◌++◌, length, Option, Some, None, refl, sym, ap, ◌∙◌, ⊎_elim, true≢false, arith}
use Rattle.std.specs.List.{position, position_or_len}
use Rattle.std.specs.Option.{unwrap_or}
use Rattle.std.proofs.lemmas.Bool.Decides.{leb_tells}
use Rattle.std.proofs.lemmas.List.Sums.{prefix_len-le-length}
use Rattle.record_law.specs.Message.{Message}
use Rattle.record_law.specs.Task.{Task, Move, only_if, may_be, where_due}
use Rattle.record_law.specs.Protocol.{Follows, then_left}

-- the first that passes, or the length
pub or_length : {X : Type 0} (p : X → Bool) (xs : List X) → unwrap_or (position p xs) (length xs) ≡ position_or_len p xs
or_length p xs =
    let n : ℕ = position_or_len p xs in
    let within : n ≤ length xs = prefix_len-le-length (λ x. not (p x)) xs in
    ⊎_elim
    (λ t. ap (λ b. unwrap_or (cond b (Some n) None) (length xs)) t.0)
    (λ t. let same : length xs ≡ n = omega (arith, t.1) in ap (λ b. unwrap_or (cond b (Some n) None) (length xs)) t.0 ∙ same)
    (leb_tells (suc n) (length xs))

-- what is left where an entry is the one that is wanted
abbrev pub made : Bool → Message → List Task → Option Follows
made true message tasks = Some (record { about = message; left = tasks })
made false message tasks = None

-- an entry that has to come
pub only_made : (b : Bool) (message : Message) (first tasks : List Task) (rest : Option Follows) → then_left (only_if b message first) tasks rest ≡ made b message (first ++ tasks)
only_made true message first tasks rest = refl
only_made false message first tasks rest = refl

-- one that may come
abbrev pub made_or : Bool → Message → List Task → Option Follows → Option Follows
made_or true message tasks otherwise = Some (record { about = message; left = tasks })
made_or false message tasks otherwise = otherwise

pub may_made : (b : Bool) (message : Message) (first tasks : List Task) (rest : Option Follows) → then_left (may_be b message first) tasks rest ≡ made_or b message (first ++ tasks) rest
may_made true message first tasks rest = refl
may_made false message first tasks rest = refl

-- a move that isn't asked for passes
pub not_due : (b : Bool) (m : Move) (tasks : List Task) (rest : Option Follows) → b ≡ false → then_left (where_due b m) tasks rest ≡ rest
not_due true m tasks rest isnt = absurd (true≢false isnt)
not_due false m tasks rest isnt = refl

pub is_due : (b : Bool) (m : Move) (tasks : List Task) (rest : Option Follows) → b ≡ true → then_left (where_due b m) tasks rest ≡ then_left m tasks rest
is_due true m tasks rest holds = refl
is_due false m tasks rest holds = absurd (true≢false (sym holds))
