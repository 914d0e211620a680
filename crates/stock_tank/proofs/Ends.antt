-- What is played at the end.
use Rattle.std.proofs.Common.{◌≡◌, ℕ, ◌-◌, ◌≤◌, false, List, [], ◌∷◌, ◌++◌, length, take, drop, replicate, ℤ, pos, ◌≤ℤ◌, inl, inr, sym, ap, ◌∙◌, subst, refl, append_assoc, arith}
use Rattle.std.proofs.lemmas.Int.{ints}
use Rattle.std.proofs.lemmas.Bool.{cases_lt, le-leb, lt-leb}
use Rattle.std.proofs.lemmas.List.{append-nil, take_at, drop_all, length-append, length-take, length-replicate}
use Rattle.lv_base.specs.declared.number.Fixed.{Fixed}
use Rattle.lv_base.specs.declared.number.Sample.{Sample}
use Rattle.lv_base.specs.Number.{sample_of}
use Rattle.atom_core.specs.Value.{timed}
use Rattle.atom_core.specs.Spelling.{part_of}
use Rattle.atom_forge.specs.Forged.{Forged, left, with_piece}
use Rattle.atom_sequence.specs.Event.{Event, size_of}
use Rattle.stock_tank.specs.declared.ask.Ask.TheVariants.{Set, Get, Nothing}
use Rattle.stock_tank.specs.Requests.{Request}
use Rattle.stock_tank.specs.Levels.{sets_in, level_after, frame_of, heard_from}
use Rattle.stock_tank.specs.Answers.{answer_to, answers_to, fitting, event_bytes}
use Rattle.stock_tank.specs.Playing.{Playing, filled, with_event, step, steps, AreTimed}
use Rattle.stock_tank.proofs.Answering.{event_fits, event_full}
use Rattle.stock_tank.proofs.Outputs.{filled-length}
use Rattle.stock_tank.proofs.Turns.{frame_back, timed_from}

pub steps_level : (key : ℕ) (now : Playing) (requests : List Request) → (steps key now requests).level ≡ level_after now.level (sets_in requests)
steps_level key now [] = refl
steps_level key now ((time, Set level) ∷ requests) = steps_level key (step key now (time, Set level)) requests
steps_level key now ((time, Get wanted) ∷ requests) = steps_level key (step key now (time, Get wanted)) requests
steps_level key now ((time, Nothing) ∷ requests) = steps_level key now requests

-- nothing more after what a forge holds
pub nothing_more : (forge : Forged) → forge.waits ≡ false → with_piece forge [] false ≡ forge
nothing_more forge still =
    ap (λ (bytes : List ℕ). record { room = forge.room; bytes = bytes; levels = forge.levels; waits = false }) (append-nil forge.bytes)
    ∙ ap (λ waits. record { room = forge.room; bytes = forge.bytes; levels = forge.levels; waits = waits }) (sym still)

-- an event, and then those that fit after it
event_then : (forge : Forged) (e : Event) (events : List Event) (new : Forged)
    → new ≡ with_piece (with_event forge e) (event_bytes (fitting (left (with_event forge e)) events)) false
    → new ≡ with_piece forge (event_bytes (fitting (left forge) (e ∷ events))) false
event_then forge e events new is =
    elim (cases_lt (left forge) (size_of e)) [
      | inr fits ↦
          let piece = part_of (timed e.time) e.value in
          let put = event_fits forge e fits in
          let room : left (with_piece forge piece false) ≡ left forge - size_of e = omega (arith, length-append forge.bytes piece) in
          let both : fitting (left forge) (e ∷ events) ≡ e ∷ fitting (left forge - size_of e) events = rw (le-leb (size_of e) (left forge) fits) refl in
          is
          ∙ ap (λ (f : Forged). with_piece f (event_bytes (fitting (left f) events)) false) put
          ∙ ap (λ n. with_piece (with_piece forge piece false) (event_bytes (fitting n events)) false) room
          ∙ ap (λ (bytes : List ℕ). record { room = forge.room; bytes = bytes; levels = forge.levels; waits = false })
          (append_assoc forge.bytes piece (event_bytes (fitting (left forge - size_of e) events)))
          ∙ ap (λ (es : List Event). with_piece forge (event_bytes es) false) (sym both)
      | inl full ↦
          let same : fitting (left forge) (e ∷ events) ≡ fitting (left forge) events = rw (lt-leb (size_of e) (left forge) full) refl in
          is
          ∙ ap (λ (f : Forged). with_piece f (event_bytes (fitting (left f) events)) false) (event_full forge e full)
          ∙ ap (λ (es : List Event). with_piece forge (event_bytes es) false) (sym same)
    ]

still_after : (forge : Forged) (e : Event) → forge.waits ≡ false → (with_event forge e).waits ≡ false
still_after forge e still =
    elim (cases_lt (left forge) (size_of e)) [
      | inr fits ↦ ap (λ (f : Forged). f.waits) (event_fits forge e fits)
      | inl full ↦ ap (λ (f : Forged). f.waits) (event_full forge e full) ∙ still
    ]

pub steps_forge : (key : ℕ) (now : Playing) (requests : List Request) → now.forge.waits ≡ false
    → (steps key now requests).forge ≡ with_piece now.forge (event_bytes (fitting (left now.forge) (answers_to key now.level requests))) false
steps_forge key now [] still = sym (nothing_more now.forge still)
steps_forge key now ((time, Set level) ∷ requests) still = steps_forge key (step key now (time, Set level)) requests still
steps_forge key now ((time, Get wanted) ∷ requests) still =
    let e : Event = record { time = time; value = answer_to key now.level wanted } in
    event_then now.forge e (answers_to key now.level requests) _ (steps_forge key (step key now (time, Get wanted)) requests (still_after now.forge e still))
steps_forge key now ((time, Nothing) ∷ requests) still = steps_forge key now requests still

-- the frames up to one that were filled so far
taken : (block : List Sample) (from to : ℕ) (sample : Sample) → from ≤ to → from ≤ length block
    → take to (filled block from to sample) ≡ take from block ++ replicate (to - from) sample
taken block from to sample begins within =
    let front = take from block in
    let more : List Sample = replicate (to - from) sample in
    ap (take to) (sym (append_assoc front more (drop to block)))
    ∙ take_at (front ++ more) (drop to block) to
    (omega (arith, begins, within, length-append front more, length-take from block, length-replicate (to - from) sample))

pub steps_block : (key frames : ℕ) (now : Playing) (requests : List Request) → length now.block ≡ frames → now.from ≤ frames
    → AreTimed (pos now.from) frames requests
    → filled (steps key now requests).block (steps key now requests).from frames (sample_of (steps key now requests).level)
    ≡ take now.from now.block ++ heard_from frames now.from now.level (sets_in requests)
steps_block key frames now [] whole few times =
    let rest : List Sample = replicate (frames - now.from) (sample_of now.level) in
    ap (λ (l : List Sample). take now.from now.block ++ (rest ++ l)) (drop_all frames now.block (omega (arith, whole)))
    ∙ ap (λ (l : List Sample). take now.from now.block ++ l) (append-nil rest)
steps_block key frames now ((time, Set level) ∷ requests) whole few times =
    let to = frame_of time in
    let late : pos 0 ≤ℤ time = omega (arith, ints, times.0) in
    let back = frame_back time late in
    let begins : now.from ≤ to = omega (arith, ints, back, times.0) in
    let ends : to ≤ frames = omega (arith, ints, back, times.1) in
    let sample = sample_of now.level in
    let next : Playing = step key now (time, Set level) in
    let rest = heard_from frames to level (sets_in requests) in
    let long : length (filled now.block now.from to sample) ≡ frames = filled-length now.block now.from to sample begins (omega (arith, whole, ends)) ∙ whole in
    steps_block key frames next requests long ends (subst (λ (z : ℤ). AreTimed z frames requests) (sym back) times.2)
    ∙ ap (λ (l : List Sample). l ++ rest) (taken now.block now.from to sample begins (omega (arith, whole, few)))
    ∙ append_assoc (take now.from now.block) (replicate (to - now.from) sample) rest
steps_block key frames now ((time, Get wanted) ∷ requests) whole few times =
    steps_block key frames (step key now (time, Get wanted)) requests whole few (timed_from time (pos now.from) frames requests times.0 times.2)
steps_block key frames now ((time, Nothing) ∷ requests) whole few times =
    steps_block key frames now requests whole few (timed_from time (pos now.from) frames requests times.0 times.2)

-- each frame is heard
pub heard-length : (frames from : ℕ) (level : Fixed) (requests : List Request) → from ≤ frames → AreTimed (pos from) frames requests
    → length (heard_from frames from level (sets_in requests)) ≡ frames - from
heard-length frames from level [] few times = length-replicate (frames - from) (sample_of level)
heard-length frames from level ((time, Set new) ∷ requests) few times =
    let to = frame_of time in
    let back = frame_back time (omega (arith, ints, times.0)) in
    let begins : from ≤ to = omega (arith, ints, back, times.0) in
    let ends : to ≤ frames = omega (arith, ints, back, times.1) in
    let rest = heard-length frames to new requests ends (subst (λ (z : ℤ). AreTimed z frames requests) (sym back) times.2) in
    omega (
      arith,
      begins,
      ends,
      rest,
      length-append (replicate (to - from) (sample_of level)) (heard_from frames to new (sets_in requests)),
      length-replicate (to - from) (sample_of level),
    )
heard-length frames from level ((time, Get wanted) ∷ requests) few times =
    heard-length frames from level requests few (timed_from time (pos from) frames requests times.0 times.2)
heard-length frames from level ((time, Nothing) ∷ requests) few times =
    heard-length frames from level requests few (timed_from time (pos from) frames requests times.0 times.2)
