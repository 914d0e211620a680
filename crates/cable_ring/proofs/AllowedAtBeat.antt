-- Each step at the beat is allowed by the rule.
use Rattle.std.proofs.Common.{◌≡◌, ◌≢◌, ℕ, ◌+◌, ◌*◌, ◌<◌, ◌≤◌, ◌⊎◌, inl, inr, List, [], ◌∷◌, ◌++◌, length, get_or, set, Option, refl, sym, ap, subst, ◌∙◌, arith, length-set, get_or-set_other, get_or-set_same}
use mathlib.Core.Option.{some, none}
use lib.ListN.{get_elem?}
use lib.Seq.{set-get_or}
use Rattle.std.specs.List.{All, Contains}
use Rattle.atomic_table.specs.Table.{State, step, keeps, stepped, Allows}
use Rattle.cable_trace.specs.declared.trace.Action.TheVariants.{Stored, Loaded}
use Rattle.cable_trace.specs.declared.trace.Pending.TheVariants.{Drew}
use Rattle.cable_trace.specs.declared.trace.Trace.{Trace}
use Rattle.cable_trace.specs.Trace.{pending_ticket, taken_before_ticket, drawn}
use Rattle.cable_trace.specs.Step.{with_event}
use Rattle.cable_trace.specs.Beat.{stores, IsLast}
use Rattle.cable_trace.proofs.Tells.{drawn_same}
use Rattle.cable_trace.proofs.BeatKeeps.{writer_stored, reader_loaded}
use Rattle.cable_ring.specs.declared.view.Plan.{Plan}
use Rattle.cable_ring.specs.declared.view.Acting.{Acting}
use Rattle.cable_ring.specs.declared.view.View.{View}
use Rattle.cable_ring.specs.declared.view.View.TheVariants.{Actor}
use Rattle.cable_ring.specs.Cells.{putting, fetching}
use Rattle.cable_ring.specs.Rule.{head_word, tail_word, IsBeat, IsCable}
use Rattle.cable_ring.specs.Steps.{Seated, stored_beat, saw_beat}
use Rattle.cable_ring.proofs.Put.{put, sides}
use Rattle.cable_ring.proofs.Aside.{event_aside}
use Rattle.cable_ring.proofs.CableSteps.{Is, own-above, beat_step}
use Rattle.cable_ring.proofs.Owned.{own_event}
use Rattle.cable_ring.proofs.Allowed.{as_ruled, by_rule}
use Rattle.cable_ring.proofs.AllowedOnRings.{drew-same}

-- the last number is below one that is above all and above 0
last-lt : (last number : ℕ) (stored : List (ℕ × ℕ)) → 0 < number → All (λ store. store.1 < number) stored → IsLast last stored → last < number
last-lt last number stored above all h = go h.stands
  where
    go : (last ≡ 0) ⊎ ((ticket : ℕ) × Contains stored (ticket, last)) → last < number
    go (inl zero) = omega arith
    go (inr there) = let k = there.1 in let below = all k.0 (there.0, last) k.1 in let is = ap (λ (x : ℕ × ℕ). x.1) k.2 in omega arith

module _ {M : Type 0} (plan : Plan) (slots id : ℕ) where
  abbrev pub MayStoreBeat : ℕ → ℕ → Acting M → Type 0
  MayStoreBeat ticket number x = (x.trace.pending ≡ Drew ticket) × (x.actor ≡ 0) × (0 < number) × All (λ store. store.1 < number) (stores x.trace)

  pub may_store_beat : (ticket number : ℕ) (acting : Acting M) (c : List (ℕ × Option M)) → MayStoreBeat ticket number acting
      → Allows (IsCable plan) slots id (Actor acting, c) 8 (λ _. number) (λ _. stored_beat (step slots 8 number 0 none) (Actor acting, c) number)
  may_store_beat ticket number acting c pre = by_rule plan slots id 8 (λ _. number) (λ me found new. stored_beat (step slots 8 number 0 none) me number new) (MayStoreBeat ticket number) acting c pre
      (λ s h deep at may.
      let a : ℕ = acting.actor in let old : Trace M = h.traces a in let new : Trace M = with_event old ticket (Stored number) in
      let p = may.0 in let first : a ≡ 0 = may.1 in
      let same : drawn new ≡ drawn old = drawn_same old ticket (Stored number) (ap pending_ticket p) in
      let words : List ℕ = set s.words 8 number in
      let inside : 8 < length s.words = omega (arith, h.words) in (
        Is plan s h id a new,
        keeps,
        tt,
        beat_step plan s h id a at new (own_event plan.rings a ticket old (Stored number) (h.own a) first) words s.homes same (length-set s.words 8 number) refl (get_or-set_other s.words 8 0 number 0 (λ e. omega arith))
            (λ ring. event_aside ring ticket old (Stored number) refl refl (ap (taken_before_ticket ring) p) (ap (putting ring) p) (ap (fetching ring) p))
            (λ ring. (get_or-set_other s.words 8 (head_word ring) number 0 (λ e. omega arith), get_or-set_other s.words 8 (tail_word ring) number 0 (λ e. omega arith))) refl
            (subst (λ (n : ℕ). IsBeat n (put h.traces a new 0) (put h.traces a new 1)) (sym (get_or-set_same s.words 8 number 0 inside))
            (sides (IsBeat (get_or s.words 8 0)) (IsBeat number) (IsBeat number) h.traces a new 0 1
            (λ e t b. let did = writer_stored old t b.holds ticket (get_or s.words 8 0) number p (own-above plan s h id a at ticket (ap pending_ticket p)) b.last
            (last-lt (get_or s.words 8 0) number (stores old) may.2 may.3 b.last) in record { holds = did.0; last = did.1 })
            (λ ne s' t b. absurd (ne (sym first))) (λ e s' b. absurd (omega arith)) (λ ne s' t b. b) h.beat)),
        (λ t ep. let two : ticket ≡ t = drew-same old.pending ticket t p ep in λ i. (Is plan s h id a (with_event old (two i) (Stored number)), c)),
      ))

  abbrev pub MaySeeBeat : ℕ → Acting M → Type 0
  MaySeeBeat ticket x = (x.trace.pending ≡ Drew ticket) × (x.actor ≡ 1)

  pub may_see_beat : (ticket : ℕ) (acting : Acting M) (c : List (ℕ × Option M)) → MaySeeBeat ticket acting
      → Allows (IsCable plan) slots id (Actor acting, c) 8 (λ n. n) (saw_beat (step slots 8 0 0 none) (Actor acting, c))
  may_see_beat ticket acting c pre = by_rule plan slots id 8 (λ n. n) (saw_beat (step slots 8 0 0 none)) (MaySeeBeat ticket) acting c pre
      (λ s h deep at may.
      let a : ℕ = acting.actor in let old : Trace M = h.traces a in let number : ℕ = get_or s.words 8 0 in let new : Trace M = with_event old ticket (Loaded number) in
      let p = may.0 in let second : a ≡ 1 = may.1 in
      let same : drawn new ≡ drawn old = drawn_same old ticket (Loaded number) (ap pending_ticket p) in (
        Is plan s h id a new,
        keeps,
        tt,
        subst (λ (ws : List ℕ). IsCable plan record { words = ws; homes = s.homes; views = set s.views id (Is plan s h id a new) }) (sym (set-get_or s.words 8 0))
            (beat_step plan s h id a at new (own_event plan.rings a ticket old (Loaded number) (h.own a) second) s.words s.homes same refl refl refl
            (λ ring. event_aside ring ticket old (Loaded number) refl refl (ap (taken_before_ticket ring) p) (ap (putting ring) p) (ap (fetching ring) p))
            (λ ring. (refl, refl)) refl
            (sides (IsBeat number) (IsBeat number) (IsBeat number) h.traces a new 0 1
            (λ e t b. absurd (omega arith)) (λ ne s' t b. b)
            (λ e s' b. record { holds = reader_loaded s' old b.holds ticket number p (own-above plan s h id a at ticket (ap pending_ticket p)) b.last; last = b.last })
            (λ ne s' t b. absurd (ne (sym second))) h.beat)),
        (λ t ep. let two : ticket ≡ t = drew-same old.pending ticket t p ep in λ i. (Is plan s h id a (with_event old (two i) (Loaded number)), c)),
      ))
