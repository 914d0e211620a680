-- The desk takes in what an actor did.
use Rattle.std.proofs.Common.{◌≡◌, ◌≢◌, ℕ, zero, suc, ◌+◌, ◌<◌, ◌≤◌, List, [], ◌∷◌, ◌++◌, length, set, refl, sym, ap, subst, ◌∙◌, ⊎_elim, length-append, arith, Option}
use Rattle.std.proofs.lemmas.List.{length-set}
use mathlib.Core.Option.{some, some-injective}
use native.Mathlib.Decide.{ℕ_discrete}
use lib.ListN.{get_elem?}
use Rattle.atomic_table.specs.Table.{State, Joins}
use Rattle.atomic_table.proofs.Lists.{at_set, set_here, set_else}
use Rattle.cable_trace.specs.declared.trace.Trace.{Trace}
use Rattle.cable_ring.specs.declared.view.Plan.{Plan}
use Rattle.cable_ring.specs.declared.view.Acting.{Acting}
use Rattle.cable_ring.specs.declared.view.View.{View}
use Rattle.cable_ring.specs.declared.view.View.TheVariants.{Desk, Actor, Spent}
use Rattle.cable_ring.specs.Seats.{HasTrace, Knows, AreSeated}
use Rattle.cable_ring.specs.Rule.{IsCable}
use Rattle.cable_ring.specs.Steps.{gathered_with}
use Rattle.cable_ring.proofs.CellSteps.{at-lt}
use Rattle.cable_ring.proofs.Put.{put, put_here, put_else}
use Rattle.cable_ring.proofs.SeatSteps.{at_end}

module _ {M : Type 0} (plan : Plan) (traces : ℕ → Trace M) (views : List (View M)) (h : AreSeated plan traces views) (id other : ℕ) (p : Plan) (n : ℕ) (g : List (Trace M)) (acting : Acting M)
    (at : get_elem? views id ≡ some (Desk p n g)) (apart : other ≢ id) (there : get_elem? views other ≡ some (Actor acting)) (next : acting.actor ≡ length g) where
  desk_known : Knows plan traces h.desk h.dealt h.owner id (Desk p n g)
  desk_known = h.knows id (Desk p n g) at

  known : Knows plan traces h.desk h.dealt h.owner other (Actor acting)
  known = h.knows other (Actor acting) there

  abbrev owners : ℕ → ℕ
  owners = put h.owner acting.actor id

  abbrev gathered : View M
  gathered = Desk p n (g ++ acting.trace ∷ [])

  abbrev after : List (View M)
  after = set (set views id gathered) other Spent

  long : length (g ++ acting.trace ∷ []) ≡ length g + 1
  long = length-append g (acting.trace ∷ [])

  desk_here : get_elem? after id ≡ some gathered
  desk_here = set_else (set views id gathered) other id Spent (λ e. apart (sym e)) ∙ set_here views id gathered (at-lt views id (Desk p n g) at)

  desk_knows : Knows plan traces h.desk h.dealt owners id gathered
  desk_knows = (
    desk_known.0,
    desk_known.1,
    desk_known.2,
    λ b t e. ⊎_elim (λ old. let k = desk_known.3 b t old in (k.0, at_desk b k.1 (ℕ_discrete b acting.actor), k.2))
        (λ last. let is : b ≡ acting.actor = last.0 ∙ sym next in (
          subst (λ (a : ℕ). a < h.dealt) (sym is) known.0,
          ap owners is ∙ put_here h.owner acting.actor id ∙ desk_known.0,
          sym last.1 ∙ known.3 ∙ ap traces (sym is),
        )) (at_end g acting.trace t b e),
  )
    where
      at_desk : (b : ℕ) → h.owner b ≡ h.desk → Dec (b ≡ acting.actor) → owners b ≡ h.desk
      at_desk b own (yes e) = ap owners e ∙ put_here h.owner acting.actor id ∙ desk_known.0
      at_desk b own (no ne) = put_else h.owner acting.actor id b ne ∙ own

  others : (j : ℕ) → j ≢ other → j ≢ id → (v : View M) → Knows plan traces h.desk h.dealt h.owner j v → Knows plan traces h.desk h.dealt owners j v
  others j away far (Actor b) k = (k.0, put_else h.owner acting.actor id b.actor (λ e. away (sym k.1 ∙ ap h.owner e ∙ known.1)) ∙ k.1, k.2, k.3)
  others j away far (Desk p' n' g') k = absurd (far (k.0 ∙ sym desk_known.0))
  others j away far Spent k = tt

  moved_in : (b : ℕ) → Dec (b ≡ acting.actor) → b < h.dealt → (v : View M) × (get_elem? after (owners b) ≡ some v) × HasTrace b v
  moved_in b (yes e) below = (gathered, ap (get_elem? after) (ap owners e ∙ put_here h.owner acting.actor id) ∙ desk_here, (let w : b < length (g ++ acting.trace ∷ []) = omega (arith, long) in w))
  moved_in b (no ne) below = let was = h.placed b below in stays b ne was.0 was.1 was.2 (ℕ_discrete (h.owner b) id) (ℕ_discrete (h.owner b) other)
    where
      stays : (b : ℕ) → b ≢ acting.actor → (v : View M) → get_elem? views (h.owner b) ≡ some v → HasTrace b v → Dec (h.owner b ≡ id) → Dec (h.owner b ≡ other)
          → (v : View M) × (get_elem? after (owners b) ≡ some v) × HasTrace b v
      stays b ne v found has (yes e) far = (
        gathered,
        ap (get_elem? after) (put_else h.owner acting.actor id b ne ∙ e) ∙ desk_here,
        (let k : HasTrace b (Desk p n g) = subst (HasTrace b) (some-injective v (Desk p n g) (sym found ∙ ap (get_elem? views) e ∙ at)) has in
            let k' : b < length g = k in let w : b < length (g ++ acting.trace ∷ []) = omega (arith, long) in w),
      )
      stays b ne v found has (no away) (yes e) = let k : HasTrace b (Actor acting) = subst (HasTrace b) (some-injective v (Actor acting) (sym found ∙ ap (get_elem? views) e ∙ there)) has in
          let k' : acting.actor ≡ b = k in absurd (ne (sym k'))
      stays b ne v found has (no away) (no far) = (
        v,
        ap (get_elem? after) (put_else h.owner acting.actor id b ne) ∙ set_else (set views id gathered) other (h.owner b) Spent far ∙ set_else views id (h.owner b) gathered away ∙ found,
        has,
      )

  -- the desk has the trace then, and the other seat has none
  pub seats_gathered : AreSeated plan traces (set (set views id (Desk p n (g ++ acting.trace ∷ []))) other Spent)
  seats_gathered = record {
    desk = h.desk;
    dealt = h.dealt;
    owner = owners;
    enough = h.enough;
    knows = λ j v e. ⊎_elim (λ here. subst (Knows plan traces h.desk h.dealt owners j) here.1 tt)
        (λ away. ⊎_elim (λ here. subst (λ (x : ℕ × View M). Knows plan traces h.desk h.dealt owners x.0 x.1) (λ i. (sym here.0 i, here.1 i)) desk_knows)
        (λ far. others j away.0 far.0 v (h.knows j v far.1)) (at_set views id j gathered v away.1)) (at_set (set views id gathered) other j Spent v e);
    placed = λ b below. moved_in b (ℕ_discrete b acting.actor) below;
    waits = h.waits;
  }

-- the desk takes in the trace of the next actor
pub may_gather : {M : Type 0} (plan : Plan) (id other n : ℕ) (g : List (Trace M)) (acting : Acting M) (desk view : View M) → desk ≡ Desk plan n g → view ≡ Actor acting → acting.actor ≡ length g
    → Joins (IsCable plan) id desk other view (gathered_with desk view) Spent
may_gather {M} plan id other n g acting desk view is seen next = subst (λ (v : View M × View M). Joins (IsCable plan) id v.0 other v.1 (gathered_with v.0 v.1) Spent) (λ i. (sym is i, sym seen i))
    (λ s h at apart there. record {
      traces = h.traces;
      limits = h.limits;
      words = h.words;
      slots = h.slots;
      own = h.own;
      seated = seats_gathered plan h.traces s.views h.seated id other plan n g acting at apart (sym (set_else s.views id other (Desk plan n (g ++ acting.trace ∷ [])) apart) ∙ there) next;
      tickets = h.tickets;
      rings = h.rings;
      beat = h.beat;
    })
