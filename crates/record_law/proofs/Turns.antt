-- In a record that keeps the rules, takes bring what is next on their rings, and parts are tokens.
use Rattle.std.proofs.Common.{◌≡◌, ℕ, zero, suc, true, ◌||◌, List, [], ◌∷◌, ◌++◌, map, flat_map, None, refl, sym, ap, ◌∙◌, ⊎_elim, is_some, true≢false, eqb-true, arith}
use Rattle.std.proofs.lemmas.Bool.{and_parts, or_cases, cond-true}
use Rattle.step_law.specs.declared.actor.Actor.{Actor}
use Rattle.step_law.specs.declared.actor.Actor.TheVariants.{Audio, Control, Worker}
use Rattle.step_law.specs.declared.call.Call.TheVariants.{Make, Activate}
use Rattle.step_law.specs.declared.entry.Entry.{Entry}
use Rattle.step_law.specs.declared.entry.Kind.TheVariants.{Take, Last}
use Rattle.step_law.specs.Actor.{actor_at}
use Rattle.step_law.specs.Entry.{block_of, stop_of, done_of}
use Rattle.step_law.specs.Ring.{ring_at}
use Rattle.record_law.specs.declared.shape.Broken.TheVariants as rule
use Rattle.record_law.specs.declared.shape.Shape.{Shape}
use Rattle.record_law.specs.Entries.{kind_number, is_kind}
use Rattle.record_law.specs.Message.{Message, History}
use Rattle.record_law.specs.Message.Message.{nothing}
use Rattle.record_law.specs.History.{next_on, own}
use Rattle.record_law.specs.Shape.{insts_of}
use Rattle.record_law.specs.Task.{Task, Move}
use Rattle.record_law.specs.Task.Task.{one, look_messages, return_front, running, acting}
use Rattle.record_law.specs.Task.Move.{refuses, passes, goes}
use Rattle.record_law.specs.Room.{finds_message}
use Rattle.record_law.specs.Owners.{owns_all}
use Rattle.record_law.specs.Audio.{whole_call, cycle, cycles}
use Rattle.record_law.specs.Control.{opening, stages_from}
use Rattle.record_law.specs.Waits.{may_come}
use Rattle.record_law.specs.Rules.{is_next, keeps}
use Rattle.record_law.specs.Protocol.{tasks_of, move, then_left, follow, left_in, about_in, left_after, brought, follow_in, done_in, after, history_of}
use Rattle.record_law.specs.Lawful.{broken_at}
use Rattle.record_law.specs.Fits.{TakesInTurn}
use Rattle.record_law.specs.Tokens.{KeepsOwners}
use Rattle.record_law.specs.Laws.{TakesComeInTurn, RulesKeepTokens}
use Rattle.record_law.proofs.Classes.{rule_kept}
use Rattle.record_law.proofs.Takes.{is_no_take, about_move, move_brings}
use Rattle.record_law.proofs.TakeLists.{no_takes, leaves_none, none_append, none_map, none_flat}
use Rattle.record_law.proofs.NoTakes.{move_leaves}
use Rattle.record_law.proofs.Tokens.{parts_are_tokens}
use Rattle.record_law.proofs.Verdicts.{KeepsFrom}

-- ---- all tasks name no take

none_cycle : (s : Shape) (block : ℕ) → no_takes (cycle s block) ≡ true
none_cycle s block =
    let first : List Task = one (block_of block) nothing ∷ look_messages ∷ [] in
    none_append (first ++ map return_front (insts_of s) ++ map running s.plan) (one (done_of block) nothing ∷ [])
    (none_append (first ++ map return_front (insts_of s)) (map running s.plan)
    (none_append first (map return_front (insts_of s)) refl (none_map return_front (insts_of s) (λ i. refl)))
    (none_map running s.plan (λ i. refl)))
    refl

none_cycles : (s : Shape) (block more : ℕ) → no_takes (cycles s block more) ≡ true
none_cycles s block zero = refl
none_cycles s block (suc more) = none_append (cycle s block) (cycles s (suc block) more) (none_cycle s block) (none_cycles s (suc block) more)

none_tasks : (s : Shape) (actor : Actor) → no_takes (tasks_of s actor) ≡ true
none_tasks s Audio = none_append (cycles s 0 s.blocks) (one (stop_of Audio) nothing ∷ []) (none_cycles s 0 s.blocks) refl
none_tasks s Control =
    none_append (opening s) (acting (stages_from s 0 s.actions) ∷ [])
    (none_append (flat_map (λ inst. whole_call Control Make inst nothing) (insts_of s)) (flat_map (λ inst. whole_call Control Activate inst nothing) (insts_of s))
    (none_flat (λ inst. whole_call Control Make inst nothing) (insts_of s) (λ i. refl))
    (none_flat (λ inst. whole_call Control Activate inst nothing) (insts_of s) (λ i. refl)))
    refl
none_tasks s (Worker worker) = refl

none_follow : (s : Shape) (h : History) (taken : Message) (tasks : List Task) (e : Entry) → no_takes tasks ≡ true → no_takes (left_in (follow s h taken tasks e)) ≡ true
none_follow s h taken [] e k = refl
none_follow s h taken (task ∷ tasks) e k =
    let both = and_parts (is_no_take task) (no_takes tasks) k in
    by (move s h taken task e) (move_leaves s h taken task e) both.1 (none_follow s h taken tasks e both.1)
  where
    by : (m : Move) → leaves_none m ≡ true → no_takes tasks ≡ true → no_takes (left_in (follow s h taken tasks e)) ≡ true
        → no_takes (left_in (then_left m tasks (follow s h taken tasks e))) ≡ true
    by refuses left rest later = refl
    by passes left rest later = later
    by (goes message first) left rest later = none_append first tasks left rest

pub none_left : (s : Shape) (actor : Actor) (h : History) → no_takes (left_after s actor h) ≡ true
none_left s actor [] = none_tasks s actor
none_left s actor (x ∷ h) = none_follow s h x.about (left_after s actor h) x.entry (none_left s actor h)

-- ---- a take is about what it brings

pub follow_brings : (s : Shape) (h : History) (taken : Message) (tasks : List Task) (e : Entry) → is_kind Take e ≡ true → no_takes tasks ≡ true
    → is_some (follow s h taken tasks e) ≡ true → about_in (follow s h taken tasks e) ≡ taken
follow_brings s h taken [] e take k some = absurd (true≢false (sym some))
follow_brings s h taken (task ∷ tasks) e take k some =
    let both = and_parts (is_no_take task) (no_takes tasks) k in
    by (move s h taken task e) (move_brings e take taken s h task both.0) (follow_brings s h taken tasks e take both.1) some
  where
    by : (m : Move) → about_move taken m ≡ taken → (is_some (follow s h taken tasks e) ≡ true → about_in (follow s h taken tasks e) ≡ taken)
        → is_some (then_left m tasks (follow s h taken tasks e)) ≡ true → about_in (then_left m tasks (follow s h taken tasks e)) ≡ taken
    by refuses brings later some' = absurd (true≢false (sym some'))
    by passes brings later some' = later some'
    by (goes message first) brings later some' = brings

-- an entry that keeps the rules follows
follows_in : (s : Shape) (h : History) (e : Entry) (later : List Entry) → broken_at s h e later ≡ None → is_kind Take e ≡ true → is_some (follow_in s h e) ≡ true
follows_in s h e later k take =
    let kept : (is_kind Last e || is_next s h e) ≡ true = rule_kept s h e later (rule.Syntax ∷ []) (rule.Ring ∷ rule.Full ∷ rule.Room ∷ rule.Look ∷ rule.Holder ∷ rule.Class ∷ rule.End ∷ []) rule.Order refl k in
    ⊎_elim (λ is_last. absurd (not_two e take is_last)) (λ next. (and_parts (is_some (follow_in s h e)) (may_come s h e) next).0)
    (or_cases (is_kind Last e) (is_next s h e) kept)
  where
    not_two : (x : Entry) → is_kind Take x ≡ true → is_kind Last x ≡ true → ⊥
    not_two x a b =
        let first = eqb-true (kind_number x.kind) (kind_number Take) a in
        let second = eqb-true (kind_number x.kind) (kind_number Last) b in
        omega (arith, first, second)

turns_after : (s : Shape) (h : History) (steps : List Entry) → KeepsFrom s h steps → TakesInTurn h → TakesInTurn (after s h steps)
turns_after s h [] keeps turns = turns
turns_after s h (e ∷ later) keeps turns =
    let k : broken_at s h e later ≡ None = keeps [] later e refl in
    let actor : Actor = actor_at e.actor in
    turns_after s (done_in s h e) later (λ before rest x split. keeps (e ∷ before) rest x (ap (λ l. e ∷ l) split)) (
      (λ take.
          follow_brings s (own actor h) (brought h e) (left_after s actor (own actor h)) e take (none_left s actor (own actor h)) (follows_in s h e later k take)
          ∙ cond-true (is_kind Take e) (next_on (ring_at e.a) h) nothing take),
      turns,
    )

owners_after : (s : Shape) (h : History) (steps : List Entry) → KeepsFrom s h steps → KeepsOwners s h → KeepsOwners s (after s h steps)
owners_after s h [] keeps owners = owners
owners_after s h (e ∷ later) keeps owners =
    let k : broken_at s h e later ≡ None = keeps [] later e refl in
    let finds : finds_message h e.kind e.a ≡ true =
    rule_kept s h e later (rule.Syntax ∷ rule.Order ∷ []) (rule.Full ∷ rule.Room ∷ rule.Look ∷ rule.Holder ∷ rule.Class ∷ rule.End ∷ []) rule.Ring refl k in
    let owns : owns_all s h e (about_in (follow_in s h e)) ≡ true =
    rule_kept s h e later (rule.Syntax ∷ rule.Order ∷ rule.Ring ∷ rule.Full ∷ rule.Room ∷ rule.Look ∷ []) (rule.Class ∷ rule.End ∷ []) rule.Holder refl k in
    owners_after s (done_in s h e) later (λ before rest x split. keeps (e ∷ before) rest x (ap (λ l. e ∷ l) split)) (finds, owns, owners)

pub takes_come_in_turn : TakesComeInTurn
takes_come_in_turn s steps keeps = turns_after s [] steps keeps tt

pub rules_keep_tokens : RulesKeepTokens
rules_keep_tokens s it steps worker keeps no_join =
    parts_are_tokens s it (history_of s steps) worker (turns_after s [] steps keeps tt) (owners_after s [] steps keeps tt) no_join
