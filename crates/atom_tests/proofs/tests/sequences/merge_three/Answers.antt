use Rattle.std.proofs.Common.{◌≡◌, ◌<◌, ◌^◌, ℕ, List, [], ◌∷◌, ℤ, pos, ◌≤ℤ◌, FitsSigned, rules, arith}
use Rattle.std.specs.Int.{w32, w64}
use Rattle.std.proofs.lemmas.Int.{ints}
use Rattle.atom_core.specs.Form.{form_of}
use Rattle.atom_core.specs.Value.{plain, int}
use Rattle.atom_core.specs.Spelling.{u32, i32, i64}
use Rattle.atom_sequence.specs.Event.{Event, SpellSequence, NeverFall}
use Rattle.atom_sequence.proofs.Times.{all_cons}
use Rattle.atom_sequence.proofs.Unique.{in_order_by}
use Rattle.atom_tests.proofs.tests.sequences.merge_three.Goals as goal

an_int : ℤ → ℤ → Event
an_int time number = record { time = time; value = plain (int number) }

pub merge_both-requires-clause-first : goal.merge_both-requires-clause-first
unfolding u32 i32 i64 form_of an_int
merge_both-requires-clause-first c =
    let events : List Event = an_int (pos 3) (pos 7) ∷ an_int (pos 5) (pos 8) ∷ [] in
    let three : FitsSigned w64 (pos 3) = search rules in
    let five : FitsSigned w64 (pos 5) = search rules in
    let seven : FitsSigned w32 (pos 7) = search rules in
    let eight : FitsSigned w32 (pos 8) = search rules in
    let four : 4 < 2 ^ 32 = omega arith in
    let some : 0 < 16 = omega arith in
    let spells : SpellSequence c.in-Ok.first.bytes.now events = record {
      fits = (tt, omega arith, (some, three, (seven, four), (some, five, (eight, four), tt)));
      bytes_are = c.in-Ok.ensures.answer.0;
    } in
    let le : pos 3 ≤ℤ pos 5 = omega (arith, ints) in
    let falls : NeverFall events = (
      all_cons (λ (f : Event). pos 3 ≤ℤ f.time) (an_int (pos 5) (pos 8)) [] le (λ k d lt. absurd (omega (arith, lt))),
      (λ k d lt. absurd (omega (arith, lt)), tt),
    ) in
    (∣ (events, spells) ∣₁, in_order_by c.in-Ok.first.bytes.now events spells falls)

pub merge_both-requires-clause-second : goal.merge_both-requires-clause-second
unfolding u32 i32 i64 form_of an_int
merge_both-requires-clause-second c =
    let events : List Event = an_int (pos 3) (pos 9) ∷ [] in
    let three : FitsSigned w64 (pos 3) = search rules in
    let nine : FitsSigned w32 (pos 9) = search rules in
    let four : 4 < 2 ^ 32 = omega arith in
    let some : 0 < 16 = omega arith in
    let spells : SpellSequence c.in-Ok-read.second.bytes.now events = record {
      fits = (tt, omega arith, (some, three, (nine, four), tt));
      bytes_are = c.in-Ok-read.ensures.answer.0;
    } in
    let falls : NeverFall events = (λ k d lt. absurd (omega (arith, lt)), tt) in
    (∣ (events, spells) ∣₁, in_order_by c.in-Ok-read.second.bytes.now events spells falls)
