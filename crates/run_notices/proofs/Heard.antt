-- The first of some events, and the answers among them.
use Rattle.std.proofs.Common.{◌≡◌, ℕ, ◌+◌, ◌<◌, ◌≤◌, ◌-◌, zero, suc, if◌then◌else◌, Bool, true, false, List, [], ◌∷◌, ◌++◌, length, map, take, filter, slice_range, Option, Some, None, IfSome, IfNone, Result, Ok, Err, refl, sym, ap, ◌∙◌, subst, append_assoc, length-append, arith}
use Rattle.std.specs.Prelude.{is_ok}
use Rattle.std.proofs.Math.Bridge.{le_prop}
use Rattle.std.proofs.Math.Logic.{∥∥₁_elim}
use Rattle.std.proofs.lemmas.Bool.{le-leb, lt-leb}
use Rattle.std.proofs.lemmas.List.{append-nil}
use Rattle.std.proofs.Props.{props}
use Rattle.atom_core.specs.Value.{other, timed, Value, plain, Parts, none, part}
use Rattle.atom_core.specs.Spelling.{i64, kind_of, body_of, atom_of, parts_of}
use Rattle.atom_core.specs.Answer.{Spells}
use Rattle.atom_core.specs.Atoms.{SpellEvents, AreEvents}
use Rattle.atom_core.specs.Iterating.{Event as Found, TakesEvent, NextEvent}
use Rattle.atom_core.proofs.Firsts.{fits_more}
use Rattle.atom_core.proofs.Numbers.{i64-length}
use Rattle.atom_sequence.specs.Event.{Event}
use Rattle.patch_control.specs.declared.message.Message.{Message}
use Rattle.patch_control.specs.declared.message.PatchFault.{PatchFault}
use Rattle.patch_control.specs.Message.{Content, Reads, message_of}
use Rattle.session_play.specs.Notices.{is_answer}
use Rattle.session_play.specs.Patch.{is_message}
use Rattle.port_atoms.specs.Read.{events_of}
use Rattle.port_atoms.proofs.Parted.{Parted, parted}
use Rattle.port_atoms.proofs.Listed.{events_spelled}
use Rattle.port_atoms.proofs.Said.{messages_spelled}
use Rattle.run_notices.specs.Answers.{answers_in, kept}

-- ---- messages

read_so : (result : Result Message PatchFault) (content : Result Content PatchFault) → Reads result content → is_ok result ≡ is_ok content
read_so (Ok message) (Ok content) reads = refl
read_so (Err fault) (Err right) reads = refl
read_so (Ok message) (Err right) reads = absurd reads
read_so (Err fault) (Ok content) reads = absurd reads

-- what is read as a message is one by its bytes
pub answer_read : (result : Result Message PatchFault) (bytes : List ℕ) (v : Value) → Spells bytes v → Reads result (message_of v)
    → is_ok result ≡ is_message (kind_of v) (body_of v)
answer_read result bytes v spells reads = read_so result (message_of v) reads ∙ sym (messages_spelled v spells.fits)

-- ---- the first event

record Cut (before after : List ℕ) (found : Found) : Type 0 where
  value : Value
  parts : Parts
  spells : Spells found.1.bytes.now value
  before_is : SpellEvents before (part (timed found.0) value parts)
  after_is : SpellEvents after parts
  at : Parted before value (parts_of parts)

cut : (before after : List ℕ) (parts : Parts) (found : Found) → SpellEvents before parts → TakesEvent parts (Some found) after → Cut before after found
cut before after none found spells takes = absurd takes
cut before after (part lead v ps) found spells takes =
    let same : SpellEvents before (part (timed found.0) v ps) = subst (λ l. SpellEvents before (part l v ps)) takes.0 spells in
    record {
      value = v;
      parts = ps;
      spells = record { fits = fits_more 15 16 v (omega arith) (spells.0.2); bytes_are = takes.1 };
      before_is = same;
      after_is = takes.2;
      at = subst (λ (b : List ℕ). Parted b v (parts_of ps)) (sym same.1) (parted 15 (i64 found.0) v (parts_of ps) (i64-length found.0) spells.0.2);
    }

pub answers_set : IsSet (List (List ℕ))
answers_set = hlevel props

abbrev answers : List Event → List (List ℕ)
answers events = map (λ (it : Event). atom_of it.value) (filter (λ (it : Event). is_answer it.value) events)

-- with one event more
chosen : (x : Event) (events : List Event) (b : Bool) → b ≡ is_answer x.value → answers (x ∷ events) ≡ (if b then atom_of x.value ∷ answers events else answers events)
chosen x events true e = rw (sym e) refl
chosen x events false e = rw (sym e) refl

answers_spelled : (bytes : List ℕ) (parts : Parts) → SpellEvents bytes parts → answers_in bytes ≡ answers (events_of parts)
unfolding answers_in
answers_spelled bytes parts spells = ap answers (events_spelled bytes parts spells)

-- it may be an answer
pub event_heard : (before after : List ℕ) (found : Found) (told : Bool) (atom body : List ℕ) → ∥ AreEvents before ∥₁ → NextEvent before (Some found) after
    → ((v : Value) → Spells found.1.bytes.now v → told ≡ is_message (kind_of v) (body_of v)) → ((v : Value) → Spells found.1.bytes.now v → body ≡ body_of v)
    → atom ≡ slice_range before 8 (16 + length body)
    → answers_in before ≡ (if told then atom ∷ answers_in after else answers_in after)
event_heard before after found told atom body spelled next tells bodied is =
    ∥∥₁_elim spelled (answers_set _ _) (λ a. heard (cut before after a.0 found a.1 (next a.0 a.1)))
  where
    heard : Cut before after found → answers_in before ≡ (if told then atom ∷ answers_in after else answers_in after)
    heard c =
        let whole : atom_of c.value ≡ atom = sym (is ∙ ap (λ (b : List ℕ). slice_range before 8 (16 + length b)) (bodied c.value c.spells) ∙ c.at.atom) in
        let rest : answers (events_of c.parts) ≡ answers_in after = sym (answers_spelled after c.parts c.after_is) in
        let first : Event = record { time = found.0; value = plain (other (kind_of c.value) (body_of c.value)) } in
        answers_spelled before (part (timed found.0) c.value c.parts) c.before_is
        ∙ chosen first (events_of c.parts) told (tells c.value c.spells)
        ∙ ap (λ (a : List ℕ). if told then a ∷ answers (events_of c.parts) else answers (events_of c.parts)) whole
        ∙ ap (λ (l : List (List ℕ)). if told then atom ∷ l else l) rest

pub event_room : (before after : List ℕ) (found : Found) (body : List ℕ) → ∥ AreEvents before ∥₁ → NextEvent before (Some found) after
    → ((v : Value) → Spells found.1.bytes.now v → body ≡ body_of v) → 16 + length body ≤ length before
event_room before after found body spelled next bodied = ∥∥₁_elim spelled le_prop (λ a. room (cut before after a.0 found a.1 (next a.0 a.1)))
  where
    room : Cut before after found → 16 + length body ≤ length before
    room c = omega (arith, ap length (bodied c.value c.spells), c.at.room)

pub event_less : (before after : List ℕ) (found : Found) → ∥ AreEvents before ∥₁ → NextEvent before (Some found) after → length after < length before
event_less before after found spelled next = ∥∥₁_elim spelled le_prop (λ a. less (cut before after a.0 found a.1 (next a.0 a.1)))
  where
    less : Cut before after found → length after < length before
    less c = omega (arith, ap length c.after_is.1, c.at.less)

-- there is none
ended : (before after : List ℕ) (parts : Parts) → SpellEvents before parts → TakesEvent parts None after → answers_in before ≡ []
ended before after none spells takes = answers_spelled before none spells
ended before after (part lead v ps) spells takes = absurd takes

pub none_heard : (before after : List ℕ) → ∥ AreEvents before ∥₁ → NextEvent before None after → answers_in before ≡ []
none_heard before after spelled next = ∥∥₁_elim spelled (answers_set _ _) (λ a. ended before after a.0 a.1 (next a.0 a.1))

-- as many as there is room for
pub told_more : (n : ℕ) (kept_so : List ℕ → Option (List ℕ)) (answer : List ℕ) (rest : List (List ℕ)) → 0 < n
    → map kept_so (take n (answer ∷ rest)) ≡ kept_so answer ∷ map kept_so (take (n - 1) rest)
told_more zero kept_so answer rest some = absurd (omega (arith, some))
told_more (suc n) kept_so answer rest some =
    let one : suc n - 1 ≡ n = omega arith in sym (ap (λ k. kept_so answer ∷ map kept_so (take k rest)) one)

pub told_on : (items new : List (Option (List ℕ))) (left later : List (List ℕ)) (answer : List ℕ) (notice : Option (List ℕ)) (all : List (Option (List ℕ)))
    → length items < 16 → items ++ map kept (take (16 - length items) left) ≡ all → left ≡ answer ∷ later → notice ≡ kept answer → new ≡ items ++ notice ∷ []
    → new ++ map kept (take (16 - length new) later) ≡ all
told_on items new left later answer notice all few so_far is as_kept grown =
    let one : length new ≡ length items + 1 = ap length grown ∙ length-append items (notice ∷ []) in
    let less : 16 - length new ≡ (16 - length items) - 1 = omega (arith, one) in
    ap (λ (l : List (Option (List ℕ))). l ++ map kept (take (16 - length new) later)) grown
    ∙ append_assoc items (notice ∷ []) (map kept (take (16 - length new) later))
    ∙ ap (λ k. items ++ notice ∷ map kept (take k later)) less
    ∙ ap (λ (o : Option (List ℕ)). items ++ o ∷ map kept (take ((16 - length items) - 1) later)) as_kept
    ∙ ap (λ (l : List (Option (List ℕ))). items ++ l) (sym (told_more (16 - length items) kept answer later (omega (arith, few))))
    ∙ ap (λ (l : List (List ℕ)). items ++ map kept (take (16 - length items) l)) (sym is)
    ∙ so_far

-- there are no more answers, or there is no more room
take_nothing : (n : ℕ) (l : List (List ℕ)) → l ≡ [] → map kept (take n l) ≡ []
take_nothing zero l e = refl
take_nothing (suc n) [] e = refl
take_nothing (suc n) (x ∷ l) e = absurd cc

pub told_out : (items : List (Option (List ℕ))) (n : ℕ) (left : List (List ℕ)) (all : List (Option (List ℕ))) → items ++ map kept (take n left) ≡ all → left ≡ [] → items ≡ all
told_out items n left all so_far none_is =
    sym (append-nil items) ∙ sym (ap (λ (l : List (Option (List ℕ))). items ++ l) (take_nothing n left none_is)) ∙ so_far

pub told_full : (items : List (Option (List ℕ))) (left : List (List ℕ)) (all : List (Option (List ℕ))) → items ++ map kept (take (16 - length items) left) ≡ all
    → 16 ≤ length items → items ≡ all
told_full items left all so_far full =
    let nothing : 16 - length items ≡ 0 = omega (arith, full) in
    sym (append-nil items) ∙ sym (ap (λ k. items ++ map kept (take k left)) nothing) ∙ so_far

-- a parcel is what is kept
pub short_kept : (parcel : Option (List ℕ)) (bytes : List ℕ) → IfSome parcel (λ it. it ≡ bytes) → IfNone parcel (256 < length bytes) → length bytes ≤ 256 → parcel ≡ kept bytes
short_kept None bytes same long short = absurd (omega (arith, long, short))
short_kept (Some it) bytes same long short = rw (le-leb (length bytes) 256 short) (ap Some same)

pub long_kept : (bytes : List ℕ) → 256 < length bytes → None ≡ kept bytes
long_kept bytes long = rw (lt-leb (length bytes) 256 long) refl
