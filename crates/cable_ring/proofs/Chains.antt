-- What the steps of a call find, one after another.
use Rattle.std.proofs.Common.{◌≡◌, ℕ, suc, ◌+◌, ◌-◌, ◌*◌, ◌%◌, ◌^◌, ◌<◌, ◌≤◌, List, [], ◌∷◌, ◌++◌, length, Option, Some, None, refl, sym, ap, subst, ◌∙◌, arith}
use mathlib.Core.Option.{some}
use lib.ListN.{get_elem?}
use Rattle.atomic_table.specs.Table.{rest}
use Rattle.cable_trace.specs.declared.trace.Action.TheVariants.{Sent, Refused, Looked, Taken}
use Rattle.cable_trace.specs.declared.trace.Pending.TheVariants.{Idle, Drew, Putting, Fetching, Took}
use Rattle.cable_trace.specs.Trace.{sent, shown, taken, moved}
use Rattle.cable_trace.specs.Step.{with_event, with_pending}
use Rattle.cable_ring.specs.Cells.{slot}
use Rattle.cable_ring.specs.Rule.{head_word, tail_word}
use Rattle.cable_ring.specs.Steps.{Seated, At, trace_of, going_on, drew, FoundHead, saw_head, stored_tail, FoundTail, saw_tail, FoundCell, saw_cell, stored_head, took}
use Rattle.cable_ring.specs.Passes.{PassView, trace_at, seated}
use Rattle.cable_ring.proofs.AfterCall.{amid, moved_count, drew_amid, head_found, tail_found, cell_found}

module _ {M : Type 0} where
  -- what is in the first of the cells that a seat has
  abbrev cell_in : List (ℕ × Option M) → Option M
  cell_in [] = None
  cell_in (cell ∷ cells) = cell.1

  pub filled_cell : (cells : List (ℕ × Option M)) (place at : ℕ) (found : Option M) (message : M) → cells ≡ (place, Some message) ∷ [] → cells ≡ (at, found) ∷ rest cells → found ≡ Some message
  filled_cell cells place at found message is was = sym (ap cell_in (sym is ∙ was))

  -- the seat has this cell, by another number of its slot
  pub has_cell : (cells : List (ℕ × Option M)) (place at : ℕ) (found : Option M) → cells ≡ (place, found) ∷ [] → at ≡ place → cells ≡ (at, found) ∷ rest cells
  has_cell cells place at found is same = is ∙ (λ i. (sym same i, found) ∷ rest (sym is i))

  -- the seat after an exchange in its one cell
  pub exchanged_amid : (me now : Seated M) (place at : ℕ) (found put : Option M) (view : Seated M) → me ≡ (view.0, (place, found) ∷ []) → at ≡ place → now ≡ (me.0, (at, put) ∷ rest me.1)
      → now ≡ (view.0, (place, put) ∷ [])
  exchanged_amid me now place at found put view is same e = e ∙ (λ i. ((is i).0, (same i, put) ∷ rest (is i).1))

  module _ (p : PassView M) (ring ticket : ℕ) (first then : At M) (me0 me1 me2 : Seated M) (at-rest : me0 ≡ seated p) (drawing : drew first me0 ticket me1) where
    module _ (seen count cells : ℕ) (word : then.word ≡ head_word ring) (saw : saw_head then me1 seen me2) (cells-is : cells ≡ p.plan.cells) (count-is : count ≡ length (sent ring (trace_at p))) where
      found-head : FoundHead (amid p (Drew ticket) []) seen me2 ring ticket
      found-head = head_found p ring ticket first then me0 me1 me2 at-rest drawing seen word saw

      pub seen-le : seen ≤ count
      seen-le = let low : seen ≤ length (sent ring (trace_at p)) = found-head.0 in omega arith

      pub found_full : count - seen ≡ cells → me2 ≡ (going_on (seated p) (with_event (trace_at p) ticket (Refused ring seen)) [])
      found_full e = let low : seen ≤ length (sent ring (trace_at p)) = found-head.0 in found-head.2 (omega arith)

      pub full_count : count - seen ≡ cells → length (sent ring (trace_at p)) ≡ seen + cells
      full_count e = let low : seen ≤ length (sent ring (trace_at p)) = found-head.0 in omega arith

      pub found_room : (count - seen ≡ cells → ⊥) → me2 ≡ amid p (Putting ring ticket seen) ((slot p.plan.cells ring (length (sent ring (trace_at p))), None) ∷ [])
      found_room ne = let low : seen ≤ length (sent ring (trace_at p)) = found-head.0 in let most : length (sent ring (trace_at p)) ≤ seen + p.plan.cells = found-head.1 in
          let apart : ¬ (count - seen ≡ cells) = ne in found-head.3 (omega arith)

    -- the seat after the tail is stored
    pub sent_amid : (seen place : ℕ) (message : M) (value : ℕ) (me3 me4 : Seated M) (last : At M) → me3 ≡ amid p (Putting ring ticket seen) ((place, Some message) ∷ []) → stored_tail last me3 value me4
        → me4 ≡ going_on (seated p) (with_event (trace_at p) ticket (Sent ring seen message)) []
    sent_amid seen place message value me3 me4 last is did = did ring ticket seen place message (ap (λ (m : Seated M). (trace_of m).pending) is) (ap (λ (m : Seated M). m.1) is)
        ∙ ap (λ (m : Seated M). going_on m (with_event (trace_of m) ticket (Sent ring seen message)) []) is

    module _ (tail : ℕ) (word : then.word ≡ tail_word ring) (saw : saw_tail then me1 tail me2) where
      pub found-tail : FoundTail (amid p (Drew ticket) []) tail me2 ring ticket
      found-tail = tail_found p ring ticket first then me0 me1 me2 at-rest drawing tail word saw

      pub taken-le-tail : length (taken ring (trace_at p)) ≤ tail
      taken-le-tail = let low : length (moved ring (record { events = p.events; pending = Drew ticket })) ≤ tail = found-tail.3 in omega (arith, moved_count ring p.events (Drew ticket) refl)

      pub tail-le : tail ≤ length (taken ring (trace_at p)) + p.plan.cells
      tail-le = let most : tail ≤ length (moved ring (record { events = p.events; pending = Drew ticket })) + p.plan.cells = found-tail.4 in omega (arith, moved_count ring p.events (Drew ticket) refl)

  -- a take: the cell at the head, and what is in it
  module _ (p : PassView M) (ring : ℕ) (then : At M) (head : ℕ) (me0 me1 : Seated M) (at-rest : me0 ≡ seated p) (word : then.word ≡ head_word ring) (saw : saw_cell then me0 head me1) where
    pub cell : FoundCell (seated p) me1 ring
    cell = cell_found p ring then head me0 me1 at-rest word saw

    pub is_moved : length (moved ring (trace_at p)) ≡ length (taken ring (trace_at p))
    is_moved = moved_count ring p.events Idle refl

    pub message_shown : get_elem? (shown ring (trace_at p)) (length (taken ring (trace_at p))) ≡ some cell.0
    message_shown = ap (λ (k : ℕ). get_elem? (shown ring (trace_at p)) k) (sym is_moved) ∙ cell.1

    pub fetched_amid : me1 ≡ amid p (Fetching ring cell.0) ((slot p.plan.cells ring (length (taken ring (trace_at p))), Some cell.0) ∷ [])
    fetched_amid = cell.2 ∙ ap (λ (k : ℕ). amid p (Fetching ring cell.0) ((slot p.plan.cells ring k, Some cell.0) ∷ [])) is_moved

  pub taken_amid : (p : PassView M) (ring place value : ℕ) (message : M) (me2 me3 : Seated M) (last : At M) → me2 ≡ amid p (Fetching ring message) ((place, None) ∷ []) → stored_head last me2 value me3
      → me3 ≡ amid p (Took ring message) []
  taken_amid p ring place value message me2 me3 last is did = did ring message (ap (λ (m : Seated M). (trace_of m).pending) is)
      ∙ ap (λ (m : Seated M). going_on m (with_pending (trace_of m) (Took ring message)) (rest m.1)) is

  pub took_rest : (p : PassView M) (ring ticket : ℕ) (message : M) (me3 me4 : Seated M) (last : At M) → me3 ≡ amid p (Took ring message) [] → took last me3 ticket me4
      → me4 ≡ going_on (seated p) (with_event (trace_at p) ticket (Taken ring message)) []
  took_rest p ring ticket message me3 me4 last is did = (did ring message (ap (λ (m : Seated M). (trace_of m).pending) is)).1
      ∙ ap (λ (m : Seated M). going_on m (with_event (trace_of m) ticket (Taken ring message)) m.1) is
