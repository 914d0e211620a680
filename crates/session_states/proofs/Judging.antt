-- The first thing that stands against the rows of a file.
use Rattle.std.proofs.Common.{◌≡◌, ◌≢◌, inl, inr, ℕ, ◌^◌, ◌<◌, ◌≤◌, Bool, cond, List, length, Option, None, Some, Result, Ok, Err, IfOk, IfErr, refl, ap, sym, ◌∙◌, arith}
use Rattle.std.proofs.lemmas.Bool.{lt-ltb, le-ltb}
use Rattle.std.specs.Option.{option_map}
use Rattle.state_file.specs.Reading.{saves_of}
use Rattle.state_file.specs.Rules.{first_broken, IsCause as IsStateCause}
use Rattle.state_file.specs.declared.fault.StateFault.{StateFault}
use Rattle.state_file.specs.declared.fault.StateFault.TheVariants as state
use Rattle.state_file.specs.declared.saved.Saved.{Saved}
use Rattle.triple_store.specs.declared.term.Triple.{Triple}
use Rattle.session_states.specs.Rules.{restores_from, broken_by, IsBroken, fault_of, with_states, verdict, verdict_by, verdict_after, ArePassed, IsCause}
use Rattle.session_states.specs.declared.fault.Rule.{Rule}
use Rattle.session_states.specs.declared.fault.StatesFault.{StatesFault}
use Rattle.session_states.specs.declared.fault.StatesFault.TheVariants.{Load, Broken, UridFull}
use Rattle.session_states.specs.declared.restore.Restore.{Restore}

-- what is told of a rule for what is restored
abbrev of_rule : List ℕ → Option Rule → Option StatesFault
of_rule path broken = option_map (λ rule. Broken path rule) broken

-- the states keep their rules
past_rules : (path : List ℕ) (restores : List Restore) (rows : List Triple) (urids : List (List ℕ)) → first_broken rows ≡ None
    → verdict path restores rows urids ≡ verdict_after path restores rows urids
past_rules path restores rows urids kept = ap (λ broken. verdict_by broken path restores rows urids) kept

-- there are numbers, or there are none
past_numbers : (path : List ℕ) (restores : List Restore) (rows : List Triple) (urids : List (List ℕ)) → length (with_states urids rows) ≤ 2 ^ 20
    → verdict_after path restores rows urids ≡ of_rule path (broken_by (saves_of rows (with_states urids rows)) (restores_from path restores))
past_numbers path restores rows urids room =
    ap (λ b. cond b (Some UridFull) (of_rule path (broken_by (saves_of rows (with_states urids rows)) (restores_from path restores))))
    (le-ltb (2 ^ 20) (length (with_states urids rows)) room)

no_numbers : (path : List ℕ) (restores : List Restore) (rows : List Triple) (urids : List (List ℕ)) → 2 ^ 20 < length (with_states urids rows)
    → verdict_after path restores rows urids ≡ Some UridFull
no_numbers path restores rows urids many =
    ap (λ b. cond b (Some UridFull) (of_rule path (broken_by (saves_of rows (with_states urids rows)) (restores_from path restores))))
    (lt-ltb (2 ^ 20) (length (with_states urids rows)) many)

-- what was read of rows that keep the rules of states, where there are numbers
pub record AreRead (rows : List Triple) (urids : List (List ℕ)) (saves : List Saved) (after : List (List ℕ)) : Type 0 where
  pub kept : first_broken rows ≡ None
  pub mapped : after ≡ with_states urids rows
  pub room : length after ≤ 2 ^ 20
  pub states : saves ≡ saves_of rows after

by_restores : (path : List ℕ) (restores : List Restore) (rows : List Triple) (urids : List (List ℕ)) (saves : List Saved) (after : List (List ℕ))
    → AreRead rows urids saves after → verdict path restores rows urids ≡ of_rule path (broken_by saves (restores_from path restores))
by_restores path restores rows urids saves after x =
    let room : length (with_states urids rows) ≤ 2 ^ 20 = omega (arith, x.room, ap length x.mapped) in
    let same : saves_of rows (with_states urids rows) ≡ saves = ap (λ u. saves_of rows u) (sym x.mapped) ∙ sym x.states in
    past_rules path restores rows urids x.kept ∙ past_numbers path restores rows urids room
    ∙ ap (λ s. of_rule path (broken_by s (restores_from path restores))) same

pub passed : (path : List ℕ) (restores : List Restore) (rows : List Triple) (urids : List (List ℕ)) (saves : List Saved) (after : List (List ℕ))
    (r : Result (List Saved) StatesFault) → AreRead rows urids saves after
    → IfOk r (λ given. (given ≡ saves) × (broken_by saves (restores_from path restores) ≡ None))
    → IfOk r (λ given. ArePassed path restores rows urids given after)
passed path restores rows urids saves after (Ok given) x h = record {
  passed = by_restores path restores rows urids saves after x ∙ ap (of_rule path) h.1;
  mapped = x.mapped;
  states = h.0 ∙ x.states;
}
passed path restores rows urids saves after (Err fault) x h = tt

broken_cause : (path : List ℕ) (restores : List Restore) (rows : List Triple) (urids : List (List ℕ)) (broken : Option Rule) (fault : StatesFault)
    → verdict path restores rows urids ≡ of_rule path broken → IsBroken path broken fault → IsCause path restores rows urids fault
broken_cause path restores rows urids broken (Load fault) e h = h
broken_cause path restores rows urids broken (Broken at rule) e h =
    e ∙ ap (of_rule path) h.1 ∙ ap (λ p. Some (Broken p rule)) (sym h.0)
broken_cause path restores rows urids broken UridFull e h = absurd h

pub refused : (path : List ℕ) (restores : List Restore) (rows : List Triple) (urids : List (List ℕ)) (saves : List Saved) (after : List (List ℕ))
    (r : Result (List Saved) StatesFault) → AreRead rows urids saves after
    → IfErr r (IsBroken path (broken_by saves (restores_from path restores)))
    → IfErr r (IsCause path restores rows urids)
refused path restores rows urids saves after (Ok given) x h = tt
refused path restores rows urids saves after (Err fault) x h =
    broken_cause path restores rows urids (broken_by saves (restores_from path restores)) fault (by_restores path restores rows urids saves after x) h

-- the states break a rule, or there are no numbers
state_verdict : (path : List ℕ) (restores : List Restore) (rows : List Triple) (urids : List (List ℕ)) (fault : StateFault) → fault ≢ state.NoMemory
    → IsStateCause rows urids fault → verdict path restores rows urids ≡ Some (fault_of path fault)
state_verdict path restores rows urids fault some (inl (inl e)) = absurd (some e)
state_verdict path restores rows urids fault some (inl (inr e)) = ap (λ broken. verdict_by broken path restores rows urids) e
state_verdict path restores rows urids fault some (inr x) =
    past_rules path restores rows urids x.1 ∙ no_numbers path restores rows urids x.2 ∙ ap (λ f. Some (fault_of path f)) (sym x.0)

pub state_cause : (path : List ℕ) (restores : List Restore) (rows : List Triple) (urids : List (List ℕ)) (fault : StateFault)
    → IsStateCause rows urids fault → IsCause path restores rows urids (fault_of path fault)
state_cause path restores rows urids state.Shape h = state_verdict path restores rows urids state.Shape (λ e. cc) h
state_cause path restores rows urids state.Flags h = state_verdict path restores rows urids state.Flags (λ e. cc) h
state_cause path restores rows urids state.Bytes h = state_verdict path restores rows urids state.Bytes (λ e. cc) h
state_cause path restores rows urids state.Size h = state_verdict path restores rows urids state.Size (λ e. cc) h
state_cause path restores rows urids state.UridFull h = state_verdict path restores rows urids state.UridFull (λ e. cc) h
state_cause path restores rows urids state.NoMemory h = refl
