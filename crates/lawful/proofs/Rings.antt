-- The list by ticket keeps the rules on takes, on full rings and on sends.
use Rattle.std.proofs.Common.{◌≡◌, ℕ, ◌+◌, ◌<◌, ◌≤◌, ◌==◌, true, List, refl, arith, lt-ltb, le-leb, eq-eqb}
use Rattle.std.proofs.lemmas.Bool.{and_from}
use Rattle.step_law.specs.declared.entry.Entry.{Entry}
use Rattle.step_law.specs.declared.entry.Kind.{Kind}
use Rattle.step_law.specs.declared.entry.Kind.TheVariants.{Take, Send, Full}
use Rattle.step_law.specs.Ring.{ring_at}
use Rattle.cable_trace.specs.Merged.{is_send, is_take, is_full, sends_in, takes_in}
use Rattle.record_law.specs.declared.shape.Shape.{Shape}
use Rattle.record_law.specs.Message.{History}
use Rattle.record_law.specs.History.{waiting}
use Rattle.record_law.specs.Room.{finds_message, is_really_full, has_room}
use Rattle.record_law.specs.Protocol.{history_of}
use Rattle.lawful.specs.Merged.{entries_in, RingsKeepRules}
use Rattle.lawful.proofs.Counts.{sends_before, takes_before}

module _ (s : Shape) (before : List (ℕ × Entry)) where
  abbrev past : History
  past = history_of s (entries_in before)

  finds_at : (kind : Kind) (a : ℕ) → (is_take kind ≡ true → takes_in a before < sends_in a before) → finds_message past kind a ≡ true
  finds_at Take a k =
      let sends = sends_before s a before in
      let takes = takes_before s a before in
      let less = k refl in
      lt-ltb 0 (waiting (ring_at a) past) (omega (arith, sends, takes, less))
  finds_at kind a k = refl

  full_at : (kind : Kind) (a : ℕ) → (is_full kind ≡ true → takes_in a before + s.cells ≤ sends_in a before) → is_really_full s past kind a ≡ true
  full_at Full a k =
      let sends = sends_before s a before in
      let takes = takes_before s a before in
      let less = k refl in
      le-leb s.cells (waiting (ring_at a) past) (omega (arith, sends, takes, less))
  full_at kind a k = refl

  room_at : (kind : Kind) (a : ℕ) → (is_send kind ≡ true → sends_in a before ≤ takes_in a before + s.cells + 1) → has_room s past kind a ≡ true
  room_at Send a k =
      let sends = sends_before s a before in
      let takes = takes_before s a before in
      let less = k refl in
      le-leb (waiting (ring_at a) past) (s.cells + 1) (omega (arith, sends, takes, less))
  room_at kind a k = refl

pub rings_keep_rules : RingsKeepRules
rings_keep_rules s source target marks before after mark keeps split =
    let a : ℕ = mark.1.a in
    record {
      finds = finds_at s before mark.1.kind a (λ is. (keeps a).paired before after mark split (and_from (is_take mark.1.kind) (mark.1.a == a) is (eq-eqb a a refl)));
      full = full_at s before mark.1.kind a (λ is. (keeps a).full before after mark split (and_from (is_full mark.1.kind) (mark.1.a == a) is (eq-eqb a a refl)));
      room = room_at s before mark.1.kind a (λ is. (keeps a).roomy before after mark split (and_from (is_send mark.1.kind) (mark.1.a == a) is (eq-eqb a a refl)));
    }
