-- The entries of a whole call keep the rule on values.
use Rattle.std.proofs.Common.{◌≡◌, ◌⊎◌, ℕ, zero, suc, ◌+◌, ◌==◌, nat_lt, nat_le, Bool, true, false, not, ◌&&◌, ◌||◌, if◌then◌else◌, List, [], ◌∷◌, ◌++◌, drop, take, length, map, Some, refl, sym, ap, subst, ◌∙◌, inl, inr, eqb-true, true≢false, add-zero, add-suc, suc-add, arith}
use Rattle.std.proofs.lemmas.List.Elements.{All-head, All-tail}
use Rattle.interaction.specs.Attempts.{Attempt, Plays}
use Rattle.interaction.specs.Interaction.{Interaction, done, ask}
use Rattle.step_law.specs.declared.actor.Actor.TheVariants.{Audio}
use Rattle.step_law.specs.declared.entry.Kind.TheVariants.{Full, Long}
use Rattle.step_law.specs.Actor.{actor_number, actor_at}
use Rattle.record_law.specs.Entries.{is_by}
use Rattle.record_law.specs.Message.{Step}
use Rattle.record_law.specs.Message.Message.{body}
use Rattle.session_play.specs.Looking.{doings, open_call, tries}
use Rattle.session_play.specs.Notices.{is_notice, untold}
use Rattle.session_play.specs.Run.{Run}
use Rattle.session_play.specs.SessionShape.{works}
use Rattle.session_play.specs.Value.{Ending, Play}
use Rattle.session_play.specs.ValueRule.{is_long, same, attempts_so, sends_so, is_over, ends_so, value_keeps, is_none, has_told}
use Rattle.play_known.specs.Calling.{WholeCall, begin_step, try_step, end_step, steps_in, call_known, most_told, is_answered}
use Rattle.play_known.specs.Known.{known_of}
use Rattle.play_known.specs.Laws.{CallKeepsValues}
use Rattle.play_known.proofs.CallPlayed.{KeptIn, kept_so, caller, own_says, try_moment, IsIn, AreAnswered, tried_goes, in_rest}
use Rattle.play_known.proofs.CallKnown.{Silent, begin_moment, begun_silent, tried_silent, plays_split, silent_of, begins, in_begun}

-- ---- audio goes on

tells_all : (mine about : Bool) (left : List (List ℕ)) → (mine ≡ true → left ≡ []) → (not mine || about || is_none left) ≡ true
tells_all true true left none = refl
tells_all true false left none = ap is_none (none refl)
tells_all false about left none = refl

-- the caller has told all notices, if it is audio
told_here : {F B : Type 0} → (run : Run F B) (it : WholeCall F B) (q : Play F B) (x : Step) → x.entry.actor ≡ actor_number it.actor → Silent run it q
    → has_told run x (doings (actor_at x.entry.actor) q) ≡ true
told_here run it q x by silent =
    tells_all (is_by Audio x.entry) (is_notice x.about) (untold run.setup (doings (actor_at x.entry.actor) q))
    (λ mine. ap (λ actor. untold run.setup (doings (actor_at actor) q)) (eqb-true x.entry.actor 0 mine)
    ∙ silent (ap (λ actor. actor == 0) (sym by) ∙ mine))

-- ---- an attempt

are_same : (long : Bool) → same long long ≡ true
are_same true = refl
are_same false = refl

-- a body that is refused is as long as the entry says
refused_keeps : {F B : Type 0} → (run : Run F B) (long : Bool) (x : Step) (own : Play F B) (asked : List ℕ) (next : ℕ → Interaction (Ending F B)) → x.about ≡ body
    → open_call own ≡ Some (ask asked next) → is_long asked ≡ long → value_keeps run (if long then Long else Full) x own ≡ true
refused_keeps run true x own asked next about here is =
    (λ t. sends_so run true (about t) own) ∙ ap (attempts_so true) here ∙ is
refused_keeps run false x own asked next about here is =
    (λ t. sends_so run false (about t) own) ∙ ap (attempts_so false) here ∙ ap not is

short_sent : (long : Bool) → ((0 == 0) && not long || (0 == 2)) ≡ true → long ≡ false
short_sent true is = absurd (true≢false (sym is))
short_sent false is = refl

try_keeps : {F B : Type 0} → (run : Run F B) (it : WholeCall F B) (said asked : List ℕ) (answer : ℕ) (next : ℕ → Interaction (Ending F B)) (q : Play F B)
    → IsIn it (ask asked next) q → said ≡ asked → is_answered (record { body = said; answer = answer }) ≡ true
    → (let x = try_step it (record { body = said; answer = answer }) in value_keeps run x.entry.kind x (doings (caller it) q)) ≡ true
try_keeps run it said asked zero next q here same_body so =
    ap (attempts_so false) here ∙ ap not (ap is_long (sym same_body) ∙ short_sent (nat_lt 256 (length said)) so)
try_keeps run it said asked (suc answer) next q here same_body so =
    refused_keeps run (nat_lt 256 (length said)) (try_step it (record { body = said; answer = suc answer })) (doings (caller it) q) asked next refl here
    (ap is_long (sym same_body))

both : (a b : Bool) → a ≡ true → b ≡ true → (a && b) ≡ true
both a b first second = ap (λ it. it && b) first ∙ second

-- ---- the end

-- it attempts nothing more, or as often as may be told, or its instance declares no worker
abbrev IsEnough : {F B : Type 0} → Run F B → WholeCall F B → List Attempt → ℕ → Type 0
IsEnough run it left made = (left ≡ []) ⊎ ((made ≡ 16) ⊎ (works run.setup it.inst ≡ false))

over_with : {F B : Type 0} → (call : Interaction (Ending F B)) (left : List Attempt) (ending : Ending F B) → left ≡ [] → Plays call left ending → is_over (Some call) ≡ true
over_with (done result) left ending none plays = refl
over_with (ask asked next) left ending none plays = absurd (subst (λ left. Plays (ask asked next) left ending) none plays)

any_of : (a b c : Bool) → (a ≡ true) ⊎ ((b ≡ true) ⊎ (c ≡ false)) → (a || b || not c) ≡ true
any_of true b c so = refl
any_of false true c so = refl
any_of false false true (inl so) = so
any_of false false true (inr (inl so)) = so
any_of false false true (inr (inr so)) = absurd (true≢false so)
any_of false false false so = refl

end_keeps : {F B : Type 0} → (run : Run F B) (it : WholeCall F B) (call : Interaction (Ending F B)) (left : List Attempt) (q : Play F B) → IsIn it call q
    → Plays call left it.ending → IsEnough run it left (tries (doings (caller it) q)) → ends_so run it.inst (doings (caller it) q) ≡ true
end_keeps run it call left q here plays enough =
    let mine = doings (caller it) q in
    any_of (is_over (open_call mine)) (nat_le 16 (tries mine)) (works run.setup it.inst) (by mine here enough)
  where
    by : (own : _) → open_call own ≡ Some call → IsEnough run it left (tries own)
        → (is_over (open_call own) ≡ true) ⊎ ((nat_le 16 (tries own) ≡ true) ⊎ (works run.setup it.inst ≡ false))
    by own over (inl none) = inl (ap is_over over ∙ over_with call left it.ending none plays)
    by own over (inr (inl most)) = inr (inl (ap (nat_le 16) most))
    by own over (inr (inr none)) = inr (inr none)

-- ---- all attempts, and the end

kept_attempts : {F B : Type 0} → (run : Run F B) (it : WholeCall F B) → caller it ≡ it.actor → (call : Interaction (Ending F B)) (told left : List Attempt)
    (q : Play F B) → IsIn it call q → Plays call (told ++ left) it.ending → AreAnswered told → Silent run it q
    → IsEnough run it left (tries (doings (caller it) q) + length told) → KeptIn run q (map (try_step it) told ++ end_step it ∷ [])
kept_attempts run it is call [] left q here plays so silent enough = (
  both (ends_so run it.inst (doings (caller it) q)) (has_told run (end_step it) (doings (caller it) q))
      (end_keeps run it call left q here plays (subst (IsEnough run it left) (add-zero (tries (doings (caller it) q))) enough))
      (told_here run it q (end_step it) refl silent),
  tt,
)
kept_attempts run it is (done ending) (attempt ∷ told) left q here plays so silent enough = absurd plays
kept_attempts run it is (ask asked next) (attempt ∷ told) left q here plays so silent enough =
    let rest = next attempt.answer in
    let x = try_step it attempt in
    let answered : is_answered attempt ≡ true = All-head (λ it. is_answered it ≡ true) attempt told so in
    let mine = doings (caller it) q in
    let more : tries (doings (caller it) (try_moment it attempt rest ∷ q)) ≡ suc (tries mine) = own_says it (try_moment it attempt rest) q tries is refl in
    let made : tries mine + length (attempt ∷ told) ≡ tries (doings (caller it) (try_moment it attempt rest ∷ q)) + length told =
    add-suc (tries mine) (length told) ∙ sym (suc-add (tries mine) (length told)) ∙ ap (λ n. n + length told) (sym more) in (
      both (value_keeps run x.entry.kind x mine) (has_told run x mine) (try_keeps run it attempt.body asked attempt.answer next q here plays.0 answered)
          (told_here run it q x refl silent),
      subst (λ moment. KeptIn run (moment ∷ q) (map (try_step it) told ++ end_step it ∷ [])) (sym (tried_goes run it attempt asked next q here plays.0 answered))
          (kept_attempts run it is rest told left (try_moment it attempt rest ∷ q) (in_rest it attempt rest q is) plays.1
          (All-tail (λ it. is_answered it ≡ true) attempt told so) (tried_silent run it attempt rest q silent) (subst (IsEnough run it left) made enough)),
    )

-- ---- the whole call

-- as many as may be told, or all
split_at : (n : ℕ) (attempts : List Attempt) → (drop n attempts ≡ []) ⊎ (length (take n attempts) ≡ n)
split_at zero attempts = inr refl
split_at (suc n) [] = inl refl
split_at (suc n) (attempt ∷ attempts) = by (split_at n attempts)
  where
    by : (drop n attempts ≡ []) ⊎ (length (take n attempts) ≡ n) → (drop n attempts ≡ []) ⊎ (suc (length (take n attempts)) ≡ suc n)
    by (inl none) = inl none
    by (inr all) = inr (ap suc all)

enough_whole : {F B : Type 0} → (run : Run F B) (it : WholeCall F B) (attempts : List Attempt) → it.told ≡ take (most_told run it.inst) attempts
    → (made : ℕ) → made ≡ 0 → IsEnough run it (drop (most_told run it.inst) attempts) (made + length it.told)
enough_whole run it attempts told made none = by (works run.setup it.inst) refl
  where
    with_works : (b : Bool) → works run.setup it.inst ≡ b → (drop (if b then 16 else 0) attempts ≡ []) ⊎ (length (take (if b then 16 else 0) attempts) ≡ (if b then 16 else 0))
        → (drop (most_told run it.inst) attempts ≡ []) ⊎ (length it.told ≡ (if b then 16 else 0))
    with_works b is (inl rest) = inl (ap (λ w. drop (if w then 16 else 0) attempts) is ∙ rest)
    with_works b is (inr all) = inr (ap length told ∙ ap (λ w. length (take (if w then 16 else 0) attempts)) is ∙ all)

    sixteen : (drop (most_told run it.inst) attempts ≡ []) ⊎ (length it.told ≡ 16) → IsEnough run it (drop (most_told run it.inst) attempts) (made + length it.told)
    sixteen (inl rest) = inl rest
    sixteen (inr all) = inr (inl (omega (arith, none, all)))

    by : (b : Bool) → works run.setup it.inst ≡ b → IsEnough run it (drop (most_told run it.inst) attempts) (made + length it.told)
    by true is = sixteen (with_works true is (split_at 16 attempts))
    by false is = inr (inr is)

pub call_keeps_values : {F B : Type 0} → CallKeepsValues F B
call_keeps_values run names it p c told =
    let k = known_of run names p in
    let call = call_known run k it.actor it.call it.about it.inst in
    let left = drop (most_told run it.inst) c.attempts in
    let after = begin_moment it call ∷ p in
    let silent : Silent run it p = silent_of run names it p c in
    kept_so run p (steps_in it) told (
      told_here run it p (begin_step it) refl silent,
      subst (λ moment. KeptIn run (moment ∷ p) (map (try_step it) it.told ++ end_step it ∷ [])) (sym (begins run names it p c))
          (kept_attempts run it c.actor call it.told left after (in_begun it call p c.actor) (plays_split run names k it c) c.answered
          (begun_silent run it call p silent)
          (enough_whole run it c.attempts c.told (tries (doings (caller it) after)) (own_says it (begin_moment it call) p tries c.actor refl))),
    )
