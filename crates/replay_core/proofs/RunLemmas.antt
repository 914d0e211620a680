-- How a play goes on, and how the parts of a run join.
use Rattle.std.proofs.Common.{◌≡◌, ℕ, zero, suc, ◌+◌, ◌<◌, List, [], ◌∷◌, ◌++◌, length, map, take, drop, set, get_or, refl, sym, ap, ◌∙◌, slice_get, append_assoc, Result, Ok, Err}
use Rattle.std.specs.Prelude.{IfOk}
use Rattle.std.proofs.lemmas.List.{set_split, append-nil, map-append, length_push, take_more}
use Rattle.std.proofs.lemmas.List.{get_or-map, drop-drop}
use Rattle.std.proofs.lemmas.List.Elements.{All-get_or}
use Rattle.std.proofs.Math.Seq.{map-set_same}
use Rattle.std.proofs.Math.ListN.{length-set}
use Rattle.std.proofs.lemmas.List.Sums.{fold-append}
use Rattle.std.proofs.lemmas.Option.{slice_get_read}
use Rattle.session_script.specs.declared.session.Session.{Session}
use Rattle.session_script.specs.declared.session.Inst.{Inst}
use Rattle.session_script.specs.Stock.{IsStockUri}
use Rattle.session_script.specs.Playable.{IsPlayable}
use Rattle.step_law.specs.declared.actor.Actor.TheVariants.{Control}
use Rattle.step_law.specs.declared.call.Call.TheVariants.{Cleanup}
use Rattle.step_law.specs.declared.entry.Entry.{Entry}
use Rattle.step_record.specs.Entry.{last}
use Rattle.replay_core.specs.PlainRecord.{called, before_cleanup, record_of}
use Rattle.replay_core.specs.declared.run.Run.{Run}
use Rattle.replay_core.specs.declared.outcome.Outcome.{Outcome}
use Rattle.replay_core.specs.Each.{each}
use Rattle.replay_core.specs.Play.{Meaning, Moment, start, put, changed, ran, after_entry, played_from, played, sound_of}
use Rattle.replay_core.specs.Outcome.{IsOutcome}
use Rattle.replay_core.specs.Summary.{summary_of}
use Rattle.replay_core.specs.Run.{moment_of, IsRunning, Plays}
use Rattle.replay_core.specs.Signals.{uris_of, uri_at, inputs_at}
use Rattle.replay_core.proofs.EachLemmas.{each-more}

-- putting an element where there is one sets it
pub put-set : {X : Type 0} (xs : List X) (i : ℕ) (x : X) → i < length xs → put xs i x ≡ set xs i x
put-set xs i x h = sym (set_split xs i x h)

-- putting an element after the last one adds it
pub put-end : {X : Type 0} (xs : List X) (x : X) → put xs (length xs) x ≡ xs ++ x ∷ []
put-end [] x = refl
put-end (y ∷ ys) x = ap (λ rest. y ∷ rest) (put-end ys x)

-- the same at a number
pub put-next : {X : Type 0} (xs : List X) (i : ℕ) (x : X) → length xs ≡ i → put xs i x ≡ xs ++ x ∷ []
put-next xs i x e = rw (← e) (put-end xs x)

-- a call that changes a front
pub changed-at : {F : Type 0} (call : F → F) (m : Moment F) (i : ℕ) (front : F) → i < length m.fronts → front ≡ get_or m.fronts i front → changed call m i (slice_get m.fronts i) ≡ record m { fronts = set m.fronts i (call front) }
changed-at call m i front h is =
    rw (slice_get_read m.fronts (length m.fronts) i front refl h is) (ap (λ fronts. record m { fronts = fronts }) (put-set m.fronts i (call front) h))

-- a run that has ended
pub ran-at : {F : Type 0} (code : Meaning F) (s : Session) (m : Moment F) (i : ℕ) (front : F) → i < length m.fronts → i < length m.signals → front ≡ get_or m.fronts i front → ran code s m i (slice_get m.fronts i) ≡ record m { fronts = set m.fronts i (code.run front (inputs_at s m.signals i)).0; signals = set m.signals i (code.run front (inputs_at s m.signals i)).1 }
ran-at code s m i front h there is =
    rw (slice_get_read m.fronts (length m.fronts) i front refl h is, put-set m.fronts i (code.run front (inputs_at s m.signals i)).0 h, put-set m.signals i (code.run front (inputs_at s m.signals i)).1 there) refl

-- the begin and the end of a call
pub steps-called : (steps begun ended : List Entry) (b e begin end : Entry) → begun ≡ steps ++ b ∷ [] → ended ≡ begun ++ e ∷ [] → b ≡ begin → e ≡ end → ended ≡ steps ++ (begin ∷ end ∷ [])
steps-called steps begun ended b e begin end p q is_begin is_end =
    rw (q, p, is_begin, is_end) (append_assoc steps (begin ∷ []) (end ∷ []))

-- a front was replaced by one of the same code
pub uris-set : {F : Type 0} (uri_of : F → List ℕ) (s : Session) (fronts : List F) (i : ℕ) (front other : F) → map uri_of fronts ≡ take (length fronts) (uris_of s) → front ≡ get_or fronts i front → uri_of other ≡ uri_of front → map uri_of (set fronts i other) ≡ take (length (set fronts i other)) (uris_of s)
uris-set uri_of s fronts i front other were is same =
    map-set_same uri_of fronts i other front (same ∙ ap uri_of is) ∙ were ∙ ap (λ n. take n (uris_of s)) (sym (length-set fronts i other))

-- the front of the next instance was added
pub uris-push : {F : Type 0} (uri_of : F → List ℕ) (s : Session) (fronts : List F) (front : F) → map uri_of fronts ≡ take (length fronts) (uris_of s) → length fronts < length (uris_of s) → uri_of front ≡ uri_at s (length fronts) → map uri_of (fronts ++ front ∷ []) ≡ take (length (fronts ++ front ∷ [])) (uris_of s)
uris-push uri_of s fronts front were there is =
    rw (map-append, were, is, length_push, take_more (uris_of s) (length fronts) [] there) refl

-- nothing was done
pub Plays-none : {C F : Type 0} (code : Meaning F) (uri_of : F → List ℕ) (s : Session) (run : Run C F) → IsRunning uri_of s run → Plays code uri_of s run run []
Plays-none code uri_of s run running = record { steps = sym (append-nil run.steps); moment = refl; running = running }

-- one thing after the other
pub Plays-then : {C F : Type 0} {code : Meaning F} {uri_of : F → List ℕ} {s : Session} {a b c : Run C F} {es fs : List Entry} → Plays code uri_of s a b es → Plays code uri_of s b c fs → Plays code uri_of s a c (es ++ fs)
Plays-then {code} {s} {a} {es} {fs} first second = record {
  steps = second.steps ∙ ap (λ steps. steps ++ fs) first.steps ∙ append_assoc a.steps es fs;
  moment = second.moment ∙ ap (λ m. played_from code s m fs) first.moment ∙ sym (fold-append (after_entry code s) (moment_of a) es fs);
  running = second.running;
}

-- one instance more
pub Plays-more : {C F : Type 0} {code : Meaning F} {uri_of : F → List ℕ} {s : Session} {a b c : Run C F} (n : ℕ) (f : ℕ → List Entry) → Plays code uri_of s a b (each n f) → Plays code uri_of s b c (f n) → Plays code uri_of s a c (each (n + 1) f)
Plays-more {code} {uri_of} {s} {a} {c} n f first second = rw each-more (Plays-then first second)

-- nothing is left of nothing
drop-nil : {X : Type 0} (i : ℕ) → drop {A = X} i [] ≡ []
drop-nil zero = refl
drop-nil (suc i) = refl

-- what is silent from i on is silent at i, and from the next on
pub get_or-same_drop : {X : Type 0} (xs ys : List X) (i : ℕ) (d : X) → drop i xs ≡ drop i ys → get_or xs i d ≡ get_or ys i d
get_or-same_drop xs ys zero d e = ap (λ zs. get_or zs 0 d) e
get_or-same_drop [] [] (suc i) d e = refl
get_or-same_drop [] (y ∷ ys) (suc i) d e = get_or-same_drop [] ys i d (drop-nil i ∙ e)
get_or-same_drop (x ∷ xs) [] (suc i) d e = get_or-same_drop xs [] i d (e ∙ sym (drop-nil i))
get_or-same_drop (x ∷ xs) (y ∷ ys) (suc i) d e = get_or-same_drop xs ys i d e

pub drop-same_more : {X : Type 0} (xs ys : List X) (i : ℕ) → drop i xs ≡ drop i ys → drop (i + 1) xs ≡ drop (i + 1) ys
drop-same_more xs ys i e = sym (drop-drop 1 i xs) ∙ ap (drop 1) e ∙ drop-drop 1 i ys

-- an entry was added
pub pushed : (steps more : List Entry) (e entry : Entry) → more ≡ steps ++ e ∷ [] → e ≡ entry → more ≡ steps ++ entry ∷ []
pushed steps more e entry p is = p ∙ ap (λ (last : Entry). steps ++ last ∷ []) is

-- six entries, one after the other
pub six-steps : (s s1 s2 s3 s4 s5 s6 : List Entry) (a b c d e f : Entry) → s1 ≡ s ++ a ∷ [] → s2 ≡ s1 ++ b ∷ [] → s3 ≡ s2 ++ c ∷ [] → s4 ≡ s3 ++ d ∷ [] → s5 ≡ s4 ++ e ∷ [] → s6 ≡ s5 ++ f ∷ [] → s6 ≡ s ++ (a ∷ b ∷ c ∷ d ∷ e ∷ f ∷ [])
six-steps s s1 s2 s3 s4 s5 s6 a b c d e f p q r t u v = rw (v, u, t, r, q, p) (simp append_assoc)

-- cleaning up changes no value
pub played-cleanups : {F : Type 0} (code : Meaning F) (s : Session) (m : Moment F) (n : ℕ) → played_from code s m (each n (called Control Cleanup)) ≡ m
played-cleanups code s m zero = refl
played-cleanups code s m (suc n) =
    fold-append (after_entry code s) m (each n (called Control Cleanup)) (called Control Cleanup n)
    ∙ ap (λ before. played_from code s before (called Control Cleanup n)) (played-cleanups code s m n)

-- nor does the end
pub played-end : {F : Type 0} (code : Meaning F) (s : Session) (m : Moment F) (n : ℕ) → played_from code s m (each n (called Control Cleanup) ++ last ∷ []) ≡ m
played-end code s m n =
    fold-append (after_entry code s) m (each n (called Control Cleanup)) (last ∷ [])
    ∙ ap (λ before. played_from code s before (last ∷ [])) (played-cleanups code s m n)

-- a session's instances are of the stock codes
pub stock-at : (s : Session) (i : ℕ) (inst : Inst) → IsPlayable s → i < length s.insts → IsStockUri (uri_at s i)
stock-at s i inst valid there =
    rw (get_or-map (λ (inst : Inst). inst.uri) s.insts i inst [] there) (All-get_or (λ (inst : Inst). IsStockUri inst.uri) s.insts i inst there valid.stock)

-- the clean-up, and the end
abbrev pub cleanup : Session → List Entry
cleanup s = each (length s.insts) (called Control Cleanup) ++ last ∷ []

-- they are the whole record
record-split : (s : Session) → before_cleanup s ++ cleanup s ≡ record_of s
record-split s = simp append_assoc

-- a run that went through all of it has made the record, and has what is heard in its play
pub whole-run : {C F : Type 0} (code : Meaning F) (uri_of : F → List ℕ) (s : Session) (begun ended : Run C F) (steps : List Entry) → begun.steps ≡ [] → moment_of begun ≡ start s → Plays code uri_of s begun ended (before_cleanup s) → length ended.fronts.items ≡ length s.insts → steps ≡ ended.steps ++ (each (length ended.fronts.items) (called Control Cleanup) ++ last ∷ []) → (steps ≡ record_of s) × (ended.pcm ≡ sound_of code s steps)
whole-run {F} code uri_of s begun ended steps fresh at_start run count is =
    let all : steps ≡ before_cleanup s ++ cleanup s = is
    ∙ ap (λ (n : ℕ). ended.steps ++ (each n (called Control Cleanup) ++ last ∷ [])) count
    ∙ ap (λ (done : List Entry). done ++ cleanup s) (run.steps ∙ ap (λ (done : List Entry). done ++ before_cleanup s) fresh) in
    let heard = λ (m : Moment F). m.sound in
    let before = played code s (before_cleanup s) in (
      all ∙ record-split s,
      ap heard run.moment
          ∙ ap (λ (m : Moment F). (played_from code s m (before_cleanup s)).sound) at_start
          ∙ sym (ap heard (played-end code s before (length s.insts)))
          ∙ sym (ap heard (fold-append (after_entry code s) (start s) (before_cleanup s) (cleanup s)))
          ∙ ap (sound_of code s) (sym all),
    )

-- and gives the outcome of the session
pub outcome-of : {C F E : Type 0} (code : Meaning F) (uri_of : F → List ℕ) (s : Session) (begun ended : Run C F) (r : Result Outcome E) → begun.steps ≡ [] → moment_of begun ≡ start s → Plays code uri_of s begun ended (before_cleanup s) → length ended.fronts.items ≡ length s.insts → IfOk r (λ (outcome : Outcome). outcome.steps ≡ ended.steps ++ (each (length ended.fronts.items) (called Control Cleanup) ++ last ∷ [])) → IfOk r (λ (outcome : Outcome). outcome.pcm ≡ ended.pcm) → IfOk r (λ (outcome : Outcome). outcome.summary ≡ summary_of s outcome.steps) → IfOk r (IsOutcome code s)
outcome-of code uri_of s begun ended (Ok outcome) fresh at_start run count steps pcm summary =
    let whole = whole-run code uri_of s begun ended outcome.steps fresh at_start run count steps in
    record { steps = whole.0; pcm = pcm ∙ whole.1; summary = summary }
outcome-of code uri_of s begun ended (Err e) fresh at_start run count steps pcm summary = tt
