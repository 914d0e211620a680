-- The one-thread record keeps the threading classes.
use Rattle.std.proofs.Common.{◌≡◌, ℕ, zero, suc, ◌+◌, ◌<◌, ◌≤◌, ◌==◌, Bool, true, false, if◌then◌else◌, List, [], ◌∷◌, ◌++◌, Some, None, replicate, ⊎_elim, refl, ap, ◌∙◌, arith, eq-eqb}
use Rattle.std.specs.List.{cons_option}
use Rattle.std.proofs.lemmas.List.{append-nil, replicate-append-replicate}
use Rattle.std.proofs.lemmas.List.Elements.{filter_map-append}
use Rattle.std.proofs.lemmas.Bool.{ne_eqb, cases_lt}
use Rattle.step_law.specs.declared.actor.Actor.{Actor}
use Rattle.step_law.specs.declared.actor.Actor.TheVariants.{Audio, Control}
use Rattle.step_law.specs.declared.call.Call.{Call}
use Rattle.step_law.specs.declared.call.Call.TheVariants.{Run, Make, Activate, Deactivate, Cleanup}
use Rattle.step_law.specs.declared.entry.Entry.{Entry}
use Rattle.step_record.specs.Call.{call_at, call_number}
use Rattle.replay_core.specs.Each.{each}
use Rattle.replay_core.specs.PlainRecord.{called, opening, cycle, stopping, plain_record}
use Rattle.replay_core.specs.Threading.{IsOneAtATime, none, event, whole_call, begun, calls_on, whole_life}

-- two such records make one
pub IsOneAtATime-append : (xs ys : List Entry) → IsOneAtATime xs → IsOneAtATime ys → IsOneAtATime (xs ++ ys)
IsOneAtATime-append _ ys none q = q
IsOneAtATime-append _ ys (event e xs edge p) q = event e (xs ++ ys) edge (IsOneAtATime-append xs ys p q)
IsOneAtATime-append _ ys (whole_call actor call inst xs p) q = whole_call actor call inst (xs ++ ys) (IsOneAtATime-append xs ys p q)

-- and so do many
pub IsOneAtATime-each : (n : ℕ) (f : ℕ → List Entry) → ((k : ℕ) → IsOneAtATime (f k)) → IsOneAtATime (each n f)
IsOneAtATime-each zero f p = none
IsOneAtATime-each (suc n) f p = IsOneAtATime-append (each n f) (f n) (IsOneAtATime-each n f p) (p n)

-- a call on each instance
pub IsOneAtATime-calls : (actor : Actor) (call : Call) (n : ℕ) → IsOneAtATime (each n (called actor call))
IsOneAtATime-calls actor call n = IsOneAtATime-each n (called actor call) (λ k. whole_call actor call k [] none)

-- a block
pub IsOneAtATime-cycle : (n block : ℕ) → IsOneAtATime (cycle n block)
IsOneAtATime-cycle n block =
    event _ _ refl (event _ _ refl (IsOneAtATime-append (each n (called Audio Run)) _ (IsOneAtATime-calls Audio Run n) (event _ _ refl none)))

-- the whole record
pub IsOneAtATime-plain_record : (n blocks : ℕ) → IsOneAtATime (plain_record n blocks)
IsOneAtATime-plain_record n blocks =
    IsOneAtATime-append (opening n) _ (IsOneAtATime-append (each n (called Control Make)) _ (IsOneAtATime-calls Control Make n) (IsOneAtATime-calls Control Activate n))
    (IsOneAtATime-append (each blocks (cycle n)) _ (IsOneAtATime-each blocks (cycle n) (IsOneAtATime-cycle n))
    (IsOneAtATime-append (stopping blocks) _ (event _ _ refl (event _ _ refl (event _ _ refl (event _ _ refl (event _ _ refl (event _ _ refl none))))))
    (IsOneAtATime-append (each n (called Control Deactivate)) _ (IsOneAtATime-calls Control Deactivate n)
    (IsOneAtATime-append (each n (called Control Cleanup)) _ (IsOneAtATime-calls Control Cleanup n) (event _ _ refl none)))))

-- what one call adds to the calls on an instance
abbrev pub one_of : Bool → Call → List Call
one_of true call = call ∷ []
one_of false call = []

one_of-if : (mine : Bool) (call : Call) (rest : List Call) → cons_option (if mine then Some call else None) rest ≡ one_of mine call ++ rest
one_of-if true call rest = refl
one_of-if false call rest = refl

calls_on-called : (actor : Actor) (call : Call) (i j : ℕ) → call_at (call_number call) ≡ Some call → calls_on i (called actor call j) ≡ one_of (j == i) call
calls_on-called actor call i j known = rw known (one_of-if (j == i) call [] ∙ append-nil (one_of (j == i) call))

-- a call on each of the instances before i
calls_on-others : (actor : Actor) (call : Call) (i n : ℕ) → call_at (call_number call) ≡ Some call → n ≤ i → calls_on i (each n (called actor call)) ≡ []
calls_on-others actor call i zero known h = refl
calls_on-others actor call i (suc n) known h =
    filter_map-append (begun i) (each n (called actor call)) (called actor call n)
    ∙ ap (λ (before : List Call). before ++ calls_on i (called actor call n)) (calls_on-others actor call i n known (omega arith))
    ∙ calls_on-called actor call i n known
    ∙ ap (λ (mine : Bool). one_of mine call) (ne_eqb n i (λ e. absurd (omega arith)))

-- a call on each instance is one call on instance i
pub calls_on-each : (actor : Actor) (call : Call) (i n : ℕ) → call_at (call_number call) ≡ Some call → i < n → calls_on i (each n (called actor call)) ≡ call ∷ []
calls_on-each actor call i zero known h = absurd (omega arith)
calls_on-each actor call i (suc n) known h =
    filter_map-append (begun i) (each n (called actor call)) (called actor call n) ∙ ⊎_elim
    (λ before. ap (λ (calls : List Call). calls ++ calls_on i (called actor call n)) (calls_on-each actor call i n known before)
    ∙ ap (λ (calls : List Call). call ∷ calls) (calls_on-called actor call i n known ∙ ap (λ (mine : Bool). one_of mine call) (ne_eqb n i (λ e. absurd (omega arith)))))
    (λ last. ap (λ (calls : List Call). calls ++ calls_on i (called actor call n)) (calls_on-others actor call i n known last)
    ∙ calls_on-called actor call i n known
    ∙ ap (λ (mine : Bool). one_of mine call) (eq-eqb n i (omega arith)))
    (cases_lt i n)

-- a block is one run
calls_on-cycle : (i n block : ℕ) → i < n → calls_on i (cycle n block) ≡ Run ∷ []
calls_on-cycle i n block h =
    filter_map-append (begun i) (each n (called Audio Run)) _ ∙ ap (λ (calls : List Call). calls ++ []) (calls_on-each Audio Run i n refl h)

-- all blocks are a run each
calls_on-cycles : (i n blocks : ℕ) → i < n → calls_on i (each blocks (cycle n)) ≡ replicate blocks Run
calls_on-cycles i n zero h = refl
calls_on-cycles i n (suc blocks) h =
    let more : blocks + 1 ≡ suc blocks = omega arith in
    filter_map-append (begun i) (each blocks (cycle n)) (cycle n blocks)
    ∙ ap (λ (calls : List Call). calls ++ calls_on i (cycle n blocks)) (calls_on-cycles i n blocks h)
    ∙ ap (λ (calls : List Call). replicate blocks Run ++ calls) (calls_on-cycle i n blocks h)
    ∙ replicate-append-replicate blocks 1 Run
    ∙ ap (λ (count : ℕ). replicate count Run) more

-- the calls on an instance in the whole record
pub calls_on-plain_record : (i n blocks : ℕ) → i < n → calls_on i (plain_record n blocks) ≡ whole_life blocks
calls_on-plain_record i n blocks h =
    let made = calls_on-each Control Make i n refl h in
    let active = calls_on-each Control Activate i n refl h in
    let runs = calls_on-cycles i n blocks h in
    let inactive = calls_on-each Control Deactivate i n refl h in
    let clean = calls_on-each Control Cleanup i n refl h in
    simp (filter_map-append, made, active, runs, inactive, clean)
