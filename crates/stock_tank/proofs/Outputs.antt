-- The outputs while a run is played.
use Rattle.std.proofs.Common.{◌≡◌, ℕ, zero, suc, ◌-◌, ◌≤◌, List, [], ◌∷◌, ◌++◌, length, take, drop, replicate, set, get_or, ℤ, sym, ap, ◌∙◌, subst, refl, arith}
use Rattle.std.proofs.lemmas.List.{length-set, get_or-set_same, set-get_or, length-append, length-take, length-drop, length-replicate}
use Rattle.std.specs.Prelude.{slice_index}
use Rattle.lv_base.specs.declared.number.Fixed.{Fixed}
use Rattle.lv_base.specs.declared.number.Sample.{Sample}
use Rattle.lv_base.specs.Number.{sample_of}
use Rattle.atom_forge.specs.Forged.{Forged}
use Rattle.atom_sequence.specs.Views.{AwaitsEvent}
use Rattle.plug_api.specs.declared.ports.Ports.{Ports}
use Rattle.plug_api.specs.Buffers.{Left, empty_forge, with_block, with_forge}
use Rattle.plug_api.specs.Ports.{places_of, outs_of, place_of, IsSameLoan}
use Rattle.stock_tank.specs.declared.ask.Ask.TheVariants.{Set, Get}
use Rattle.stock_tank.specs.declared.ask.Wanted.{Wanted}
use Rattle.stock_tank.specs.Levels.{frame_of}
use Rattle.stock_tank.specs.Answers.{answer_to}
use Rattle.stock_tank.specs.Playing.{Playing, filled, with_event, step, block_of, forge_of, playing, with_played, CanPlay, HasPlayed, IsAhead}
use Rattle.stock_tank.proofs.Answering.{awaits_still}

pub set-set : {A : Type 0} (xs : List A) (i : ℕ) (a b : A) → set (set xs i a) i b ≡ set xs i b
set-set [] i a b = refl
set-set (x ∷ xs) zero a b = refl
set-set (x ∷ xs) (suc i) a b = ap (λ ys. x ∷ ys) (set-set xs i a b)

pub filled-length : (block : List Sample) (from to : ℕ) (sample : Sample) → from ≤ to → to ≤ length block → length (filled block from to sample) ≡ length block
filled-length block from to sample begins ends =
    omega (
      arith,
      begins,
      ends,
      length-append (take from block) (replicate (to - from) sample ++ drop to block),
      length-append (replicate (to - from) sample) (drop to block),
      length-take from block,
      length-replicate (to - from) sample,
      length-drop to block,
    )

pub place_same : (lent new : Ports) (i : ℕ) → IsSameLoan lent new → place_of new i ≡ place_of lent i
place_same lent new i loan = ap (λ (places : List ℕ). slice_index places i) loan.places

-- what was written stands there
pub has_played : (lent new : Ports) (now : Playing) → CanPlay lent → IsSameLoan lent new → outs_of new ≡ with_played lent now → AwaitsEvent now.forge
    → length now.block ≡ length (block_of lent) → HasPlayed lent new now
has_played lent new now can loan outputs awaits frames =
    let one = place_same lent new 1 loan in
    let two = place_same lent new 2 loan in
    let places : length (places_of new) ≡ length (places_of lent) = ap length loan.places in
    let forge : forge_of new ≡ now.forge =
    ap (λ (left : Left). get_or left.forges (place_of new 1) (empty_forge 0)) outputs
    ∙ ap (λ i. get_or (set (outs_of lent).forges (place_of lent 1) now.forge) i (empty_forge 0)) one
    ∙ get_or-set_same (outs_of lent).forges (place_of lent 1) now.forge (empty_forge 0) can.forge in
    let block : block_of new ≡ now.block =
    ap (λ (left : Left). get_or left.blocks (place_of new 2) []) outputs
    ∙ ap (λ i. get_or (set (outs_of lent).blocks (place_of lent 2) now.block) i []) two
    ∙ get_or-set_same (outs_of lent).blocks (place_of lent 2) now.block [] can.block in
    let forges : length (outs_of new).forges ≡ length (outs_of lent).forges =
    ap (λ (left : Left). length left.forges) outputs ∙ length-set (outs_of lent).forges (place_of lent 1) now.forge in
    let blocks : length (outs_of new).blocks ≡ length (outs_of lent).blocks =
    ap (λ (left : Left). length left.blocks) outputs ∙ length-set (outs_of lent).blocks (place_of lent 2) now.block in
    record {
      loan = loan;
      outputs = outputs;
      block = block;
      forge = forge;
      frames = frames;
      can = record {
        answers = omega (arith, places, can.answers);
        forge = omega (arith, one, forges, can.forge);
        awaits = subst AwaitsEvent (sym forge) awaits;
        sounds = omega (arith, places, can.sounds);
        block = omega (arith, two, blocks, can.block);
      };
    }

-- with a block alone, with a forge alone, and with neither
pub as_block : (lent : Ports) (level : Fixed) (from : ℕ) (block : List Sample)
    → with_block (outs_of lent) (place_of lent 2) block ≡ with_played lent (record { level = level; from = from; block = block; forge = forge_of lent })
as_block lent level from block =
    ap (λ (forges : List Forged). with_block (record (outs_of lent) { forges = forges }) (place_of lent 2) block)
    (sym (set-get_or (outs_of lent).forges (place_of lent 1) (empty_forge 0)))

pub as_forge : (lent : Ports) (level : Fixed) (from : ℕ) (forge : Forged)
    → with_forge (outs_of lent) (place_of lent 1) forge ≡ with_played lent (record { level = level; from = from; block = block_of lent; forge = forge })
as_forge lent level from forge =
    ap (λ (blocks : List (List Sample)). record (with_forge (outs_of lent) (place_of lent 1) forge) { blocks = blocks })
    (sym (set-get_or (outs_of lent).blocks (place_of lent 2) []))

pub as_itself : (lent : Ports) (level : Fixed) (from : ℕ) → outs_of lent ≡ with_played lent (playing level from lent)
as_itself lent level from =
    ap (λ (blocks : List (List Sample)). record (outs_of lent) { blocks = blocks }) (sym (set-get_or (outs_of lent).blocks (place_of lent 2) []))
    ∙ as_block lent level from (block_of lent)

pub same_loan : (lent : Ports) → IsSameLoan lent lent
same_loan lent = record { ports = refl; ins = refl; places = refl; reference = refl }

pub loan_then : (lent mid new : Ports) → IsSameLoan lent mid → IsSameLoan mid new → IsSameLoan lent new
loan_then lent mid new first second = record {
  ports = second.ports ∙ first.ports;
  ins = second.ins ∙ first.ins;
  places = second.places ∙ first.places;
  reference = second.reference ∙ first.reference;
}

pub has_itself : (lent : Ports) (level : Fixed) (from : ℕ) → CanPlay lent → HasPlayed lent lent (playing level from lent)
has_itself lent level from can =
    has_played lent lent (playing level from lent) can (same_loan lent) (as_itself lent level from) can.awaits refl

-- what was written over what was written
pub with_then : (lent mid : Ports) (now next : Playing) → IsSameLoan lent mid → outs_of mid ≡ with_played lent now → with_played mid next ≡ with_played lent next
with_then lent mid now next loan outputs =
    ap (λ i. with_block (with_forge (outs_of mid) i next.forge) (place_of mid 2) next.block) (place_same lent mid 1 loan)
    ∙ ap (λ i. with_block (with_forge (outs_of mid) (place_of lent 1) next.forge) i next.block) (place_same lent mid 2 loan)
    ∙ ap (λ (left : Left). with_block (with_forge left (place_of lent 1) next.forge) (place_of lent 2) next.block) outputs
    ∙ ap (λ (forges : List Forged). record (outs_of lent) { forges = forges; blocks = set (set (outs_of lent).blocks (place_of lent 2) now.block) (place_of lent 2) next.block })
    (set-set (outs_of lent).forges (place_of lent 1) now.forge next.forge)
    ∙ ap (λ (blocks : List (List Sample)). record (with_forge (outs_of lent) (place_of lent 1) next.forge) { blocks = blocks })
    (set-set (outs_of lent).blocks (place_of lent 2) now.block next.block)

pub played_then : (lent mid new : Ports) (now next : Playing) → HasPlayed lent mid now → HasPlayed mid new next → HasPlayed lent new next
played_then lent mid new now next first second = record {
  loan = loan_then lent mid new first.loan second.loan;
  outputs = second.outputs ∙ with_then lent mid now next first.loan first.outputs;
  block = second.block;
  forge = second.forge;
  frames = second.frames ∙ ap length first.block ∙ first.frames;
  can = second.can;
}

-- how far a run has come is what it has played
pub now_is : (lent new : Ports) (level : Fixed) (from : ℕ) (now : Playing) → HasPlayed lent new now → level ≡ now.level → from ≡ now.from
    → playing level from new ≡ now
now_is lent new level from now has level_is from_is =
    ap (λ (l : Fixed). playing l from new) level_is
    ∙ ap (λ n. playing now.level n new) from_is
    ∙ ap (λ (b : List Sample). record { level = now.level; from = now.from; block = b; forge = forge_of new }) has.block
    ∙ ap (λ (f : Forged). record { level = now.level; from = now.from; block = now.block; forge = f }) has.forge

-- a level that is set, and an answer
pub set_played : (lent new : Ports) (key : ℕ) (old level : Fixed) (from to : ℕ) (time : ℤ) → CanPlay lent → IsAhead lent from time → to ≡ frame_of time
    → IsSameLoan lent new → outs_of new ≡ with_block (outs_of lent) (place_of lent 2) (filled (block_of lent) from to (sample_of old))
    → HasPlayed lent new (step key (playing old from lent) (time, Set level))
set_played lent new key old level from to time can ahead same loan outputs =
    let now : Playing = step key (playing old from lent) (time, Set level) in
    let outs : outs_of new ≡ with_played lent now =
    outputs ∙ ap (λ n. with_block (outs_of lent) (place_of lent 2) (filled (block_of lent) from n (sample_of old))) same ∙ as_block lent level (frame_of time) now.block in
    has_played lent new now can loan outs can.awaits (filled-length (block_of lent) from (frame_of time) (sample_of old) ahead.from_here ahead.within)

pub get_played : (lent new : Ports) (key : ℕ) (level : Fixed) (from : ℕ) (time : ℤ) (wanted : Wanted) → CanPlay lent → IsSameLoan lent new
    → outs_of new ≡ with_forge (outs_of lent) (place_of lent 1) (with_event (forge_of lent) (record { time = time; value = answer_to key level wanted }))
    → HasPlayed lent new (step key (playing level from lent) (time, Get wanted))
get_played lent new key level from time wanted can loan outputs =
    let now : Playing = step key (playing level from lent) (time, Get wanted) in
    has_played lent new now can loan (outputs ∙ as_forge lent level from now.forge)
    (awaits_still (forge_of lent) (record { time = time; value = answer_to key level wanted }) can.awaits) refl
