-- Records that are judged while they are made.
use Rattle.std.specs.Prelude.{◌≡◌, ℕ, ◌<◌, ◌≤◌, ◌^◌, true, if◌then◌else◌, List, [], ◌∷◌, ◌++◌, map, length, Option, Some}
use Rattle.step_law.specs.declared.entry.Entry.{Entry}
use Rattle.record_law.specs.declared.shape.Broken.{Broken}
use Rattle.record_law.specs.declared.shape.Broken.TheVariants as rule
use Rattle.record_law.specs.declared.shape.Shape.{Shape}
use Rattle.record_law.specs.Lawful.{KeepsRules, IsLawful, is_ended}
use Rattle.record_law.specs.Protocol.{history_of}
use Rattle.record_law.specs.Rules.{first_broken}
use Rattle.record_legal.specs.Judging.{IsJudge, Judged}
use Rattle.judged_log.specs.declared.follower.Follower.{Follower}
use Rattle.judged_log.specs.declared.halt.Halt.{Halt}
use Rattle.judged_log.specs.declared.halt.Halt.TheVariants.{NoMemory, Broken as BrokenBy, Astray}

-- the entries of a log, without their tickets
abbrev pub entries_of : List (ℕ × Entry) → List Entry
entries_of marks = map (λ (mark : ℕ × Entry). mark.1) marks

-- The first rule that is broken where an entry comes after others. The end of a record is a line only as the last.
abbrev pub next_broken : Shape → List Entry → Entry → Option Broken
next_broken s steps e = if is_ended steps then Some rule.Syntax else first_broken s (history_of s steps) e

-- these entries break no rule, and what is kept is of them
pub record IsFollowed (s : Shape) (steps : List Entry) (follower : Follower) : Type 0 where
  pub keeps_rules : KeepsRules s steps
  pub is_judge : IsJudge s follower.judge
  pub judged : Judged s (history_of s steps) follower.judge
  pub ended : follower.ended ≡ is_ended steps

-- what is kept is of some entries
abbrev pub HasFollowed : Shape → Follower → Type 0
HasFollowed s follower = (steps : List Entry) × (length steps < 2 ^ 63) × IsFollowed s steps follower

-- what was followed to its end is lawful, but for its values
abbrev pub FollowedIsLawful : Type 0
FollowedIsLawful = (s : Shape) (steps : List Entry) (follower : Follower) → IsFollowed s steps follower → is_ended steps ≡ true → IsLawful s steps

-- why an entry isn't taken after others; memory may be wanted anywhere
abbrev pub IsRefused : Shape → List Entry → Entry → Halt → Type 0
IsRefused s steps e NoMemory = Unit {0}
IsRefused s steps e (BrokenBy broken) = next_broken s steps e ≡ Some broken
IsRefused s steps e Astray = ⊥

-- Of entries of which so many were followed, this is the first rule that one of the others breaks: what stands before it keeps the rules.
pub record BreaksAfter (s : Shape) (from : ℕ) (steps : List Entry) (broken : Broken) : Type 0 where
  pub before : List Entry
  pub here : Entry
  pub later : List Entry
  pub split : steps ≡ before ++ here ∷ later
  pub place : from ≤ length before
  pub kept : KeepsRules s before
  pub breaks : next_broken s before here ≡ Some broken
