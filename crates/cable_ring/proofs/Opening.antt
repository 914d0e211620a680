-- The rule holds of a new cable, and the desk may hand out the next seat and gather a trace.
use Rattle.std.proofs.Common.{◌≡◌, ◌≢◌, ℕ, zero, suc, ◌+◌, ◌*◌, ◌%◌, ◌<◌, ◌≤◌, List, [], ◌∷◌, ◌++◌, map, length, get_or, set, replicate, Option, Some, None, refl, sym, ap, subst, ◌∙◌, arith, length-set, get_or-set_same, get_or-set_other}
use mathlib.Core.Option as maybe
use mathlib.Core.Option.{some, none, some-injective, some-ne-none}
use lib.ListN.{get_elem?, length-map, length-replicate, get_or-replicate}
use Rattle.atomic_table.specs.Table.{State, opening, Splits}
use Rattle.cable_trace.specs.declared.trace.Trace.{Trace}
use Rattle.cable_trace.specs.Trace.{drawn}
use Rattle.cable_trace.specs.Step.{fresh}
use Rattle.cable_trace.specs.Ring.{RingHolds}
use Rattle.cable_trace.proofs.Orders.{order_fresh}
use Rattle.cable_trace.proofs.BeatKeeps.{beat_fresh, last_fresh}
use Rattle.cable_ring.specs.declared.view.RingSpec.{RingSpec}
use Rattle.cable_ring.specs.declared.view.Plan.{Plan}
use Rattle.cable_ring.specs.declared.view.View.{View}
use Rattle.cable_ring.specs.declared.view.View.TheVariants.{Desk, Actor}
use Rattle.cable_ring.specs.Cells.{slot}
use Rattle.cable_ring.specs.Ends.{IsOwn}
use Rattle.cable_trace.specs.declared.trace.Event.{Event}
use Rattle.std.proofs.lemmas.List.Elements.{All-nil}
use Rattle.cable_ring.specs.Drawn.{AreTickets}
use Rattle.cable_ring.specs.Rule.{head_word, tail_word, IsPlan, IsRing, IsBeat, IsCable}
use Rattle.cable_ring.specs.Steps.{handed_out, next_actor}
use Rattle.cable_ring.proofs.CellSteps.{at-lt}
use Rattle.cable_ring.proofs.TicketSteps.{tickets_none}
use Rattle.cable_ring.proofs.SeatSteps.{seats_begin, seats_handed_out}
use Rattle.cable_ring.proofs.CableSteps.{slot-lt}

all_vacant : {A : Type 0} (n i : ℕ) (a : A) → i < n → get_elem? (map some (replicate n a)) i ≡ some (some a)
all_vacant zero i a lt = absurd (omega arith)
all_vacant (suc n) zero a lt = refl
all_vacant (suc n) (suc i) a lt = all_vacant n i a (omega arith)

-- a ring on which nothing has been done
ring_begins : {M : Type 0} (plan : Plan) (ring : ℕ) → IsPlan plan → ring < length plan.rings
    → IsRing {M = M} plan.cells ring 0 0 (map some (replicate (length plan.rings * plan.cells) None)) fresh fresh
ring_begins {M} plan ring limits lt = record {
  holds = record { shows = record { rest = []; is = refl }; moves = record { rest = []; is = refl }; room = omega arith; order = order_fresh plan.cells };
  head_is = refl;
  tail_is = refl;
  lie = record {
    full = λ k m le out e. absurd (some-ne-none m (sym e));
    empty = λ k le below out. all_vacant (length plan.rings * plan.cells) (slot plan.cells ring k) None (slot-lt plan.cells (length plan.rings) ring k limits.some_cell lt);
    sees = λ seen e. absurd (no_seen seen e);
    moves = λ m e. absurd (no_message m e);
  };
}
  where
    no_seen : (seen : ℕ) → [] ≡ seen ∷ [] → ⊥
    no_seen seen e = cc

    no_message : (m : M) → [] ≡ m ∷ [] → ⊥
    no_message m e = cc

-- cells that are all empty
abbrev vacant_cells : (M : Type 0) → ℕ → List (maybe.Option (Option M))
vacant_cells M n = map some (replicate n None)

-- a table with all words 0 but the counter, and all cells empty
pub cable_begins : {M : Type 0} (plan : Plan) (words : List ℕ) (cells : ℕ) → IsPlan plan → length words ≡ 16 * length plan.rings + 16 → cells ≡ length plan.rings * plan.cells
    → get_or words 0 0 ≡ plan.first → ((i : ℕ) → 0 < i → i < length words → get_or words i 0 ≡ 0) → IsCable {M = M} plan (opening words (replicate cells None) (Desk plan 0 []))
cable_begins {M} plan words cells limits wide deep first others = subst (λ (n : ℕ). IsCable {M = M} plan (opening words (replicate n None) (Desk plan 0 []))) (sym deep) (record {
  traces = λ actor. fresh;
  limits = limits;
  words = wide;
  slots = length-map (replicate (length plan.rings * plan.cells) None) (λ (x : Option M). some x) ∙ length-replicate (length plan.rings * plan.cells) None;
  own = λ actor. All-nil (λ (event : Event M). IsOwn plan.rings actor event.action);
  seated = seats_begin plan;
  tickets = subst (λ (n : ℕ). AreTickets plan.first plan.actors n (λ actor. drawn {M = M} fresh)) (sym first) (tickets_none plan.first plan.actors (λ actor. drawn {M = M} fresh) (λ k. refl));
  rings = λ ring spec is. let lt = at-lt plan.rings ring spec is in
      subst (λ (n : ℕ). IsRing {M = M} plan.cells ring n (get_or words (tail_word ring) 0) (vacant_cells M (length plan.rings * plan.cells)) fresh fresh) (sym (others (head_word ring) (omega arith) (omega arith)))
      (subst (λ (n : ℕ). IsRing {M = M} plan.cells ring 0 n (vacant_cells M (length plan.rings * plan.cells)) fresh fresh) (sym (others (tail_word ring) (omega arith) (omega arith))) (ring_begins plan ring limits lt));
  beat = subst (λ (n : ℕ). IsBeat {M = M} n fresh fresh) (sym (others 8 (omega arith) (omega arith))) (record { holds = beat_fresh; last = last_fresh });
})

pub cable_begins_at : {M : Type 0} (plan : Plan) (words : List ℕ) (cells : ℕ) → IsPlan plan → words ≡ set (replicate (16 * length plan.rings + 16) 0) 0 plan.first
    → cells ≡ length plan.rings * plan.cells → IsCable {M = M} plan (opening words (replicate cells None) (Desk plan 0 []))
cable_begins_at {M} plan words cells limits is deep = subst (λ (ws : List ℕ). IsCable {M = M} plan (opening ws (replicate cells None) (Desk plan 0 []))) (sym is)
    (cable_begins plan (set (replicate (16 * length plan.rings + 16) 0) 0 plan.first) cells limits (length-set (replicate (16 * length plan.rings + 16) 0) 0 plan.first ∙ length-replicate {A = ℕ} (16 * length plan.rings + 16) 0) deep
    (get_or-set_same (replicate (16 * length plan.rings + 16) 0) 0 plan.first 0 (omega (arith, length-replicate {A = ℕ} (16 * length plan.rings + 16) 0)))
    (λ i some-i lt. get_or-set_other (replicate (16 * length plan.rings + 16) 0) 0 i plan.first 0 (λ e. omega arith) ∙ get_or-replicate {A = ℕ} (16 * length plan.rings + 16) i 0 0
    (omega (arith, length-set (replicate (16 * length plan.rings + 16) 0) 0 plan.first, length-replicate {A = ℕ} (16 * length plan.rings + 16) 0))))

-- the desk hands out a seat
pub may_hand_out : {M : Type 0} (plan : Plan) (id n : ℕ) (view : View M) → view ≡ Desk plan n [] → n < plan.actors → Splits (IsCable plan) id view (handed_out view) (next_actor view)
may_hand_out {M} plan id n view is below = subst (λ (v : View M). Splits (IsCable plan) id v (handed_out v) (next_actor v)) (sym is) (λ s h at. record {
  traces = h.traces;
  limits = h.limits;
  words = h.words;
  slots = h.slots;
  own = h.own;
  seated = seats_handed_out plan h.traces s.views h.seated id plan n [] at refl below;
  tickets = h.tickets;
  rings = h.rings;
  beat = h.beat;
})
