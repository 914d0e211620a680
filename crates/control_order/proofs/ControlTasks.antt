-- What an entry of control makes of the tasks of a stage.
use Rattle.std.proofs.Common.{◌≡◌, ℕ, zero, suc, ◌+◌, ◌-◌, ◌<◌, ◌≤◌, Bool, true, false, List, [], ◌∷◌, ◌++◌, length, map, flat_map, drop, Option, Some, None, cond, refl, sym, ap, subst, ◌∙◌, true≢false, arith, append_assoc}
use Rattle.std.specs.List.{slice_get, range_with_len}
use Rattle.std.proofs.lemmas.List.{drop_more}
use Rattle.std.proofs.lemmas.Option.{slice_get_within, get_or_from_slice_get, none-some, same_Some}
use Rattle.step_law.specs.declared.actor.Actor.TheVariants.{Control}
use Rattle.step_law.specs.declared.call.Call.{Call}
use Rattle.step_law.specs.declared.call.Call.TheVariants.{Deactivate, Cleanup}
use Rattle.step_law.specs.declared.entry.Entry.{Entry}
use Rattle.step_law.specs.declared.ring.Ring.TheVariants.{WorkerToControl}
use Rattle.step_law.specs.Entry.{begin_of, end_of, join, last, take_of}
use Rattle.record_law.specs.declared.shape.Shape.{Shape}
use Rattle.record_law.specs.declared.shape.ShapeAction.{ShapeAction}
use Rattle.record_law.specs.Control.{ending, stages_from, finish_from, rings_left, is_part, stages_after}
use Rattle.record_law.specs.Entries.{same_entry}
use Rattle.record_law.specs.Message.{Message as Meant, History}
use Rattle.record_law.specs.Message.Message.{nothing}
use Rattle.record_law.specs.Protocol.{Follows, then_left, follow}
use Rattle.record_law.specs.Task.{Task, only_if, may_be}
use Rattle.record_law.specs.Task.Task.{one, closing, leftovers}
use Rattle.control_order.specs.declared.control_stage.ActionStage.{ActionStage}
use Rattle.control_order.specs.declared.control_stage.ActionStage.TheVariants.{Due as IsDue, Tell, Ask, Hear, Plain}
use Rattle.control_order.specs.declared.control_stage.PlainStage.TheVariants.{AskFront, AwaitFront, AskBack, TakeBack, Begin, GiveBack, GiveFront}
use Rattle.control_order.specs.declared.control_stage.ControlStage.{ControlStage}
use Rattle.control_order.specs.declared.control_stage.ControlStep.{ControlStep}
use Rattle.record_terms.specs.declared.message.Message.{Message}
use Rattle.record_terms.specs.Message.{meaning_of}
use Rattle.control_order.specs.Control.{calls_left, closing_left, control_left, control_follows, control_goes, stages_left, front_come, IsActionStage}
use Rattle.control_order.specs.declared.control_stage.ClosingStage.TheVariants.{Telling}
use Rattle.order_base.proofs.Follow.{made}

-- ---- answers

pub wanted : (s : Shape) (b : Bool) (about : Message) (stage : ControlStage) (rest : Option Follows) (answer : Option ControlStep)
    → answer ≡ control_goes b about stage → then_left (only_if b (meaning_of about) []) (control_left s stage) rest ≡ control_follows s answer
wanted s true about stage rest answer is = ap (control_follows s) (sym is)
wanted s false about stage rest answer is = ap (control_follows s) (sym is)

pub made_goes : (s : Shape) (b : Bool) (about : Message) (stage : ControlStage) (answer : Option ControlStep)
    → answer ≡ control_goes b about stage → made b (meaning_of about) (control_left s stage) ≡ control_follows s answer
made_goes s true about stage answer is = ap (control_follows s) (sym is)
made_goes s false about stage answer is = ap (control_follows s) (sym is)

-- ---- lists of tasks

-- what the actions from one on begin with
pub drop_at : {X : Type 0} (xs : List X) (k : ℕ) (x : X) → slice_get xs k ≡ Some x → drop k xs ≡ x ∷ drop (k + 1) xs
drop_at xs k x at =
    drop_more xs k x (slice_get_within xs k x at) ∙ ap (λ y. y ∷ drop (k + 1) xs) (get_or_from_slice_get xs k x x at)

pub past_none : {X : Type 0} (xs : List X) (k : ℕ) → slice_get xs k ≡ None → length xs ≤ k
past_none [] k none = omega arith
past_none (x ∷ xs) zero none = absurd (none-some x (sym none))
past_none (x ∷ xs) (suc k) none = let less = past_none xs k none in omega (arith, less)

pub calls_more : (s : Shape) (it : Call) (inst : ℕ) → inst < length s.insts
    → calls_left s it inst ≡ one (begin_of Control it inst) nothing ∷ one (end_of Control it inst) nothing ∷ calls_left s it (inst + 1)
calls_more s it inst less =
    let more : length s.insts - inst ≡ suc (length s.insts - (inst + 1)) = omega (arith, less) in
    ap (λ n. flat_map (λ i. one (begin_of Control it i) nothing ∷ one (end_of Control it i) nothing ∷ []) (range_with_len inst n)) more

pub calls_none : (s : Shape) (it : Call) (inst : ℕ) → length s.insts ≤ inst → calls_left s it inst ≡ []
calls_none s it inst past =
    let none : length s.insts - inst ≡ 0 = omega (arith, past) in
    ap (λ n. flat_map (λ i. one (begin_of Control it i) nothing ∷ one (end_of Control it i) nothing ∷ []) (range_with_len inst n)) none

regroup : (a b c d e f g : List Task) → a ++ b ++ c ++ d ++ (e ++ f) ++ g ≡ a ++ (b ++ (c ++ (d ++ (e ++ (f ++ g)))))
regroup a b c d e f g = simp append_assoc

pub ending_is : (s : Shape) (k : ℕ) → ending s k ≡ closing_left s k (Telling 1)
ending_is s k =
    let all : s.workers ≡ s.workers + 1 - 1 = omega arith in
    let insts : length s.insts ≡ length s.insts - 0 = omega arith in
    let calls : Call → ℕ → List Task = λ it n. flat_map (λ i. one (begin_of Control it i) nothing ∷ one (end_of Control it i) nothing ∷ []) (range_with_len 0 n) in
    regroup (map closing (range_with_len 1 s.workers)) (one join nothing ∷ []) (map leftovers (rings_left s)) (finish_from k (drop k s.actions))
    (calls Deactivate (length s.insts)) (calls Cleanup (length s.insts)) (one last nothing ∷ [])
    ∙ ap
    (λ n. map closing (range_with_len 1 n)
    ++ ((one join nothing ∷ []) ++ (map leftovers (rings_left s) ++ (finish_from k (drop k s.actions) ++ (calls Deactivate (length s.insts) ++ (calls Cleanup (length s.insts) ++ one last nothing ∷ []))))))
    all
    ∙ ap
    (λ n. map closing (range_with_len 1 (s.workers + 1 - 1))
    ++ ((one join nothing ∷ []) ++ (map leftovers (rings_left s) ++ (finish_from k (drop k s.actions) ++ (calls Deactivate n ++ (calls Cleanup n ++ one last nothing ∷ []))))))
    insts

-- ---- the front that control waits for

pub front_comes : (s : Shape) (k : ℕ) (stage : ActionStage) (m : Meant) (inst : ℕ) → front_come stage m ≡ Some inst
    → (stages_left s k (Plain inst AskBack) ≡ stages_after m (stages_left s k stage)) × (IsActionStage s k stage → IsActionStage s k (Plain inst AskBack))
front_comes s k IsDue m inst come = absurd (none-some inst come)
front_comes s k Tell m inst come = absurd (none-some inst come)
front_comes s k (Ask i message) m inst come = absurd (none-some inst come)
front_comes s k (Hear i) m inst come = absurd (none-some inst come)
front_comes s k (Plain i AskFront) m inst come = absurd (none-some inst come)
front_comes s k (Plain i AskBack) m inst come = absurd (none-some inst come)
front_comes s k (Plain i TakeBack) m inst come = absurd (none-some inst come)
front_comes s k (Plain i Begin) m inst come = absurd (none-some inst come)
front_comes s k (Plain i GiveBack) m inst come = absurd (none-some inst come)
front_comes s k (Plain i GiveFront) m inst come = absurd (none-some inst come)
front_comes s k (Plain i AwaitFront) m inst come = by (is_part i m) come
  where
    by : (b : Bool) → cond b (Some i) None ≡ Some inst
        → (stages_left s k (Plain inst AskBack) ≡ cond b (stages_left s k (Plain i AskBack)) (stages_left s k (Plain i AwaitFront)))
        × (IsActionStage s k (Plain i AwaitFront) → IsActionStage s k (Plain inst AskBack))
    by true come' =
        let same : i ≡ inst = same_Some i inst come' in (ap (λ n. stages_left s k (Plain n AskBack)) (sym same), λ is. subst (λ n. IsActionStage s k (Plain n AskBack)) same is)
    by false come' = absurd (none-some inst come')

pub front_stays : (s : Shape) (k : ℕ) (stage : ActionStage) (m : Meant) → front_come stage m ≡ None → stages_left s k stage ≡ stages_after m (stages_left s k stage)
front_stays s k IsDue m none = by (drop k s.actions)
  where
    by : (actions : List ShapeAction) → stages_from s k actions ≡ stages_after m (stages_from s k actions)
    by [] = refl
    by (it ∷ later) = refl
front_stays s k Tell m none = refl
front_stays s k (Ask i message) m none = refl
front_stays s k (Hear i) m none = refl
front_stays s k (Plain i AskFront) m none = refl
front_stays s k (Plain i AskBack) m none = refl
front_stays s k (Plain i TakeBack) m none = refl
front_stays s k (Plain i Begin) m none = refl
front_stays s k (Plain i GiveBack) m none = refl
front_stays s k (Plain i GiveFront) m none = refl
front_stays s k (Plain i AwaitFront) m none = by (is_part i m) none
  where
    by : (b : Bool) → cond b (Some i) None ≡ None → stages_left s k (Plain i AwaitFront) ≡ cond b (stages_left s k (Plain i AskBack)) (stages_left s k (Plain i AwaitFront))
    by true none' = absurd (none-some i (sym none'))
    by false none' = refl

-- ---- what is left in rings

module _ (s : Shape) (h : History) (taken : Meant) (e : Entry) where
  abbrev Of : List Task → Option Follows
  Of tasks = follow s h taken tasks e

  abbrev takes : ℕ → Bool
  takes worker = same_entry (take_of Control (WorkerToControl worker)) e

  abbrev rings : ℕ → ℕ → List Task
  rings worker n = map leftovers (map WorkerToControl (range_with_len worker n))

  pub passed : (b : Bool) (first tasks : List Task) (rest : Option Follows) → b ≡ false → then_left (may_be b taken first) tasks rest ≡ rest
  passed true first tasks rest none = absurd (true≢false none)
  passed false first tasks rest none = refl

  carried : (b : Bool) (first tasks : List Task) (rest : Option Follows) → b ≡ true → then_left (may_be b taken first) tasks rest ≡ made true taken (first ++ tasks)
  carried true first tasks rest some = refl
  carried false first tasks rest some = absurd (true≢false (sym some))

  -- none of these rings is the one that is taken from
  pub leaves_rings : (n worker : ℕ) (tail : List Task) → ((w : ℕ) → worker ≤ w → w < worker + n → takes w ≡ false) → Of (rings worker n ++ tail) ≡ Of tail
  leaves_rings zero worker tail none = refl
  leaves_rings (suc n) worker tail none =
      passed (takes worker) (leftovers (WorkerToControl worker) ∷ []) (rings (worker + 1) n ++ tail) (Of (rings (worker + 1) n ++ tail)) (none worker (omega arith) (omega arith))
      ∙ leaves_rings n (worker + 1) tail (λ w above below. none w (omega (arith, above)) (omega (arith, below)))

  -- this one is
  pub takes_ring : (m n worker : ℕ) (tail : List Task) → m < n → ((w : ℕ) → worker ≤ w → w < worker + m → takes w ≡ false) → takes (worker + m) ≡ true
      → Of (rings worker n ++ tail) ≡ made true taken (rings (worker + m) (n - m) ++ tail)
  takes_ring m zero worker tail less none this = absurd (omega (arith, less))
  takes_ring zero (suc n) worker tail less none this =
      let same : worker + 0 ≡ worker = omega arith in
      let all : suc n ≡ suc n - 0 = omega arith in
      carried (takes worker) (leftovers (WorkerToControl worker) ∷ []) (rings (worker + 1) n ++ tail) (Of (rings (worker + 1) n ++ tail)) (ap takes (sym same) ∙ this)
      ∙ ap (λ w. made true taken (rings w (suc n) ++ tail)) (sym same)
      ∙ ap (λ k. made true taken (rings (worker + 0) k ++ tail)) all
  takes_ring (suc m) (suc n) worker tail less none this =
      let same : (worker + 1) + m ≡ worker + suc m = omega arith in
      let rest : n - m ≡ suc n - suc m = omega arith in
      passed (takes worker) (leftovers (WorkerToControl worker) ∷ []) (rings (worker + 1) n ++ tail) (Of (rings (worker + 1) n ++ tail)) (none worker (omega arith) (omega arith))
      ∙ takes_ring m n (worker + 1) tail (omega (arith, less)) (λ w above below. none w (omega (arith, above)) (omega (arith, below))) (ap takes same ∙ this)
      ∙ ap (λ w. made true taken (rings w (n - m) ++ tail)) same
      ∙ ap (λ k. made true taken (rings (worker + suc m) k ++ tail)) rest
