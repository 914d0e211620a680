-- One request after another.
use Rattle.std.proofs.Common.{◌≡◌, ℕ, ◌≤◌, List, [], ◌∷◌, ◌++◌, length, map, ℤ, pos, negsuc, ◌≤ℤ◌, of_z, sym, ap, ◌∙◌, subst, refl, arith}
use Rattle.std.specs.Int.{w64}
use Rattle.std.proofs.lemmas.Int.{ints}
use Rattle.std.proofs.lemmas.List.{map-append}
use Rattle.interaction.specs.Attempts.{Attempt}
use Rattle.plug_api.specs.Chains.{ChainsAttempts}
use Rattle.plug_api.specs.declared.ports.Ports.{Ports}
use Rattle.stock_tank.specs.declared.ask.Ask.{Ask}
use Rattle.stock_tank.specs.declared.ask.Ask.TheVariants.{Set, Get, Nothing}
use Rattle.stock_tank.specs.Requests.{Request}
use Rattle.stock_tank.specs.Levels.{sets_in, jobs_for, frame_of}
use Rattle.stock_tank.specs.Playing.{Playing, step, block_of, AreTimed, IsAhead, Told}

pub frame_is : (time : ℤ) → pos 0 ≤ℤ time → of_z w64 time ≡ frame_of time
frame_is (pos n) late = refl
frame_is (negsuc n) late = absurd (omega (arith, ints, late))

pub frame_back : (time : ℤ) → pos 0 ≤ℤ time → pos (frame_of time) ≡ time
frame_back (pos n) late = refl
frame_back (negsuc n) late = absurd (omega (arith, ints, late))

pub timed_from : (a b : ℤ) (frames : ℕ) (requests : List Request) → b ≤ℤ a → AreTimed a frames requests → AreTimed b frames requests
timed_from a b frames [] before timed = tt
timed_from a b frames (request ∷ requests) before timed = (omega (arith, ints, before, timed.0), timed.1, timed.2)

pub ahead : (lent : Ports) (from frames : ℕ) (time : ℤ) (ask : Ask) (requests : List Request) → frames ≡ length (block_of lent)
    → AreTimed (pos from) frames ((time, ask) ∷ requests) → IsAhead lent from time
ahead lent from frames time ask requests same timed =
    let late : pos 0 ≤ℤ time = omega (arith, ints, timed.0) in
    let back = frame_back time late in
    record { late = late; from_here = omega (arith, ints, back, timed.0); within = omega (arith, ints, same, back, timed.1) }

-- the times of the others are from the frame on that isn't written yet then
pub timed_next : (key : ℕ) (now : Playing) (frames : ℕ) (time : ℤ) (ask : Ask) (requests : List Request)
    → AreTimed (pos now.from) frames ((time, ask) ∷ requests) → AreTimed (pos (step key now (time, ask)).from) frames requests
timed_next key now frames time (Set level) requests timed =
    subst (λ (z : ℤ). AreTimed z frames requests) (sym (frame_back time (omega (arith, ints, timed.0)))) timed.2
timed_next key now frames time (Get wanted) requests timed = timed_from time (pos now.from) frames requests timed.0 timed.2
timed_next key now frames time Nothing requests timed = timed_from time (pos now.from) frames requests timed.0 timed.2

pub within_next : (key : ℕ) (now : Playing) (frames : ℕ) (time : ℤ) (ask : Ask) (requests : List Request) → now.from ≤ frames
    → AreTimed (pos now.from) frames ((time, ask) ∷ requests) → (step key now (time, ask)).from ≤ frames
within_next key now frames time (Set level) requests few timed =
    let back = frame_back time (omega (arith, ints, timed.0)) in omega (arith, ints, back, timed.1)
within_next key now frames time (Get wanted) requests few timed = few
within_next key now frames time Nothing requests few timed = few

-- the jobs of one request, and then those of the others
pub jobs_next : (time : ℤ) (ask : Ask) (requests : List Request)
    → jobs_for (sets_in ((time, ask) ∷ requests)) ≡ jobs_for (sets_in ((time, ask) ∷ [])) ++ jobs_for (sets_in requests)
jobs_next time (Set level) requests = refl
jobs_next time (Get wanted) requests = refl
jobs_next time Nothing requests = refl

pub told_none : {S : Type 0} (went : S → List Attempt → S → Type 0) (sched : S) → ChainsAttempts went → Told went sched [] sched
told_none went sched chains = ([], chains.none sched, refl)

pub told_more : {S : Type 0} (went : S → List Attempt → S → Type 0) (old mid new : S) (first then : List (List ℕ)) → ChainsAttempts went
    → Told went old first mid → Told went mid then new → Told went old (first ++ then) new
told_more went old mid new first then chains one two = (
  one.0 ++ two.0,
  chains.more old mid new one.0 two.0 one.1 two.1,
  map-append (λ (it : Attempt). it.body) one.0 two.0
      ∙ ap (λ (jobs : List (List ℕ)). jobs ++ map (λ (it : Attempt). it.body) two.0) one.2
      ∙ ap (λ (jobs : List (List ℕ)). first ++ jobs) two.2,
)
