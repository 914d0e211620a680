use Rattle.std.proofs.Common.{◌≡◌, ◌<◌, ◌^◌, List, [], ◌∷◌, pos, FitsSigned, rules, arith}
use Rattle.std.specs.Int.{w64}
use Rattle.atom_core.specs.Form.{form_of}
use Rattle.atom_core.specs.Value.{plain, urid, fixed, holding, object, keyed, none, part}
use Rattle.atom_core.specs.Spelling.{u32, i64}
use Rattle.atom_sequence.specs.Event.{Event, SpellSequence, NeverFall}
use Rattle.atom_sequence.proofs.Unique.{in_order_by}
use Rattle.atom_tests.proofs.tests.sequences.merge_set.Goals as goal

pub merge_both-requires-clause-first : goal.merge_both-requires-clause-first
unfolding u32
merge_both-requires-clause-first c =
    let events : List Event = [] in
    let spells : SpellSequence c.in-Ok.first.bytes.now events = record { fits = (tt, omega arith, tt); bytes_are = c.in-Ok.ensures.answer.0 } in
    (∣ (events, spells) ∣₁, in_order_by c.in-Ok.first.bytes.now events spells tt)

pub merge_both-requires-clause-second : goal.merge_both-requires-clause-second
unfolding u32 i64 form_of
merge_both-requires-clause-second c =
    let set = holding (object 0 16) (part (keyed 18 0) (plain (urid 26)) (part (keyed 19 0) (plain (fixed (pos 4194304))) none)) in
    let events : List Event = record { time = pos 0; value = set } ∷ [] in
    let start : FitsSigned w64 (pos 0) = search rules in
    let quarter : FitsSigned w64 (pos 4194304) = search rules in
    let some : 0 < 16 = omega arith in
    let within : 0 < 15 = omega arith in
    let spells : SpellSequence c.in-Ok-read.second.bytes.now events = record {
      fits = (
        tt,
        omega arith,
        (
          some,
          start,
          (
            (omega arith, omega arith),
            omega arith,
            (
              within,
              (omega arith, omega arith),
              (omega arith, omega arith),
              (within, (omega arith, omega arith), (quarter, omega arith), tt),
            ),
          ),
          tt,
        ),
      );
      bytes_are = c.in-Ok-read.ensures.answer.0;
    } in
    let falls : NeverFall events = (λ k d lt. absurd (omega (arith, lt)), tt) in
    (∣ (events, spells) ∣₁, in_order_by c.in-Ok-read.second.bytes.now events spells falls)
