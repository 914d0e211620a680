-- What a step does to who has which trace.
use Rattle.std.proofs.Common.{◌≡◌, ◌≢◌, ℕ, zero, suc, ◌+◌, ◌<◌, ◌≤◌, ◌⊎◌, List, [], ◌∷◌, ◌++◌, length, set, refl, sym, ap, subst, ◌∙◌, ⊎_elim, inl, inr, length-append, arith}
use Rattle.std.proofs.lemmas.List.{length-set}
use mathlib.Core.Option.{some, some-injective, some-ne-none}
use native.Mathlib.Decide.{ℕ_discrete}
use lib.ListN.{get_elem?}
use Rattle.atomic_table.proofs.Lists.{at_set, set_here, set_else, at_longer, at_last}
use Rattle.cable_trace.specs.declared.trace.Trace.{Trace}
use Rattle.cable_trace.specs.Step.{fresh}
use Rattle.cable_ring.specs.declared.view.Plan.{Plan}
use Rattle.cable_ring.specs.declared.view.Acting.{Acting}
use Rattle.cable_ring.specs.declared.view.View.{View}
use Rattle.cable_ring.specs.declared.view.View.TheVariants.{Desk, Actor, Spent}
use Rattle.cable_ring.specs.Seats.{with_trace, HasTrace, Knows, AreSeated}
use Rattle.cable_ring.proofs.CellSteps.{at-lt}
use Rattle.cable_ring.proofs.Put.{put, put_here, put_else}

-- what stands in a longer list stood there, or is the last
pub at_end : {A : Type 0} (l : List A) (a b : A) (j : ℕ) → get_elem? (l ++ a ∷ []) j ≡ some b → (get_elem? l j ≡ some b) ⊎ ((j ≡ length l) × (a ≡ b))
at_end [] a b zero e = inr (refl, some-injective a b e)
at_end [] a b (suc j) e = absurd (some-ne-none b (sym e))
at_end (x ∷ xs) a b zero e = inl e
at_end (x ∷ xs) a b (suc j) e = ⊎_elim (λ t. inl t) (λ t. let n = t.0 in inr (omega arith, t.1)) (at_end xs a b j e)

module _ {M : Type 0} (plan : Plan) (traces : ℕ → Trace M) (views : List (View M)) (h : AreSeated plan traces views) (id : ℕ) where
  module _ (acting : Acting M) (at : get_elem? views id ≡ some (Actor acting)) where
    known : Knows plan traces h.desk h.dealt h.owner id (Actor acting)
    known = h.knows id (Actor acting) at

    -- an actor goes on
    pub seats_go : (new : Trace M) → AreSeated plan (put traces acting.actor new) (set views id (with_trace acting new))
    seats_go new = record {
      desk = h.desk;
      dealt = h.dealt;
      owner = h.owner;
      enough = h.enough;
      knows = λ j v e. ⊎_elim (λ t. subst (Knows plan (put traces acting.actor new) h.desk h.dealt h.owner j) t.1 (known.0, known.1 ∙ sym t.0, known.2, sym (put_here traces acting.actor new)))
          (λ t. others j t.0 v (h.knows j v t.1)) (at_set views id j (with_trace acting new) v e);
      placed = λ b below. place b below (ℕ_discrete (h.owner b) id);
      waits = λ b le. put_else traces acting.actor new b (λ e. let k = known.0 in omega arith) ∙ h.waits b le;
    }
      where
        others : (j : ℕ) → j ≢ id → (v : View M) → Knows plan traces h.desk h.dealt h.owner j v → Knows plan (put traces acting.actor new) h.desk h.dealt h.owner j v
        others j ne (Actor b) k = (k.0, k.1, k.2, k.3 ∙ sym (put_else traces acting.actor new b.actor (λ e. ne (sym k.1 ∙ ap h.owner e ∙ known.1))))
        others j ne (Desk p n g) k = (k.0, k.1, k.2, λ b t e. let c = k.3 b t e in (c.0, c.1, c.2 ∙ sym (put_else traces acting.actor new b (λ e'. ne (k.0 ∙ sym c.1 ∙ ap h.owner e' ∙ known.1)))))
        others j ne Spent k = tt

        place : (b : ℕ) → b < h.dealt → Dec (h.owner b ≡ id) → (v : View M) × (get_elem? (set views id (with_trace acting new)) (h.owner b) ≡ some v) × HasTrace b v
        place b below (yes e) = let p = h.placed b below in let is : Actor acting ≡ p.0 = some-injective (Actor acting) p.0 (sym at ∙ ap (get_elem? views) (sym e) ∙ p.1) in
            let has : HasTrace b (Actor acting) = subst (HasTrace b) (sym is) p.2 in
            (with_trace acting new, ap (get_elem? (set views id (with_trace acting new))) e ∙ set_here views id (with_trace acting new) (at-lt views id (Actor acting) at), has)
        place b below (no ne) = let p = h.placed b below in (p.0, set_else views id (h.owner b) (with_trace acting new) ne ∙ p.1, p.2)

  module _ (p : Plan) (n : ℕ) (g : List (Trace M)) (at : get_elem? views id ≡ some (Desk p n g)) where
    desk_known : Knows plan traces h.desk h.dealt h.owner id (Desk p n g)
    desk_known = h.knows id (Desk p n g) at

    abbrev new_view : View M
    new_view = Actor (record { actor = n; plan = p; trace = fresh })

    abbrev owner_out : ℕ → ℕ
    owner_out = put h.owner n (length views)

    -- the desk hands out a seat
    pub seats_handed_out : g ≡ [] → n < plan.actors → AreSeated plan traces (set views id (Desk p (n + 1) g) ++ Actor (record { actor = n; plan = p; trace = fresh }) ∷ [])
    seats_handed_out none below = record {
      desk = h.desk;
      dealt = n + 1;
      owner = owner_out;
      enough = omega arith;
      knows = λ j v e. ⊎_elim (λ t. ⊎_elim (λ u. subst (Knows plan traces h.desk (n + 1) owner_out j) u.1 (u.0 ∙ desk_known.0, desk_known.1, refl, nothing)) (λ u. others j u.0 v (h.knows j v u.1))
          (at_set views id j (Desk p (n + 1) g) v t))
          (λ t. subst (Knows plan traces h.desk (n + 1) owner_out j) t.1
          (omega arith, put_here h.owner n (length views) ∙ sym (length-set views id (Desk p (n + 1) g)) ∙ sym t.0, desk_known.1, sym (h.waits n (omega (arith, desk_known.2)))))
          (at_end (set views id (Desk p (n + 1) g)) new_view v j e);
      placed = λ b lt. place b lt (ℕ_discrete b n);
      waits = λ b le. h.waits b (omega (arith, desk_known.2));
    }
      where
        nothing : (actor : ℕ) (trace : Trace M) → get_elem? g actor ≡ some trace → (actor < n + 1) × (owner_out actor ≡ h.desk) × (trace ≡ traces actor)
        nothing actor trace e = absurd (some-ne-none trace (sym (ap (λ l. get_elem? l actor) (sym none) ∙ e)))

        others : (j : ℕ) → j ≢ id → (v : View M) → Knows plan traces h.desk h.dealt h.owner j v → Knows plan traces h.desk (n + 1) owner_out j v
        others j ne (Actor b) k = let lt = k.0 in (omega (arith, desk_known.2), put_else h.owner n (length views) b.actor (λ e. omega (arith, desk_known.2)) ∙ k.1, k.2, k.3)
        others j ne (Desk p' n' g') k = absurd (ne (k.0 ∙ sym desk_known.0))
        others j ne Spent k = tt

        place : (b : ℕ) → b < n + 1 → Dec (b ≡ n) → (v : View M) × (get_elem? (set views id (Desk p (n + 1) g) ++ new_view ∷ []) (owner_out b) ≡ some v) × HasTrace b v
        place b lt (yes e) = (
          new_view,
          ap (get_elem? (set views id (Desk p (n + 1) g) ++ new_view ∷ [])) (ap owner_out e ∙ put_here h.owner n (length views))
              ∙ at_last (set views id (Desk p (n + 1) g)) new_view (length views) (length-set views id (Desk p (n + 1) g)),
          sym e,
        )
        place b lt (no ne) = let q = h.placed b (omega (arith, desk_known.2)) in let else-where : h.owner b ≢ id = λ e. not_gathered b q.0 q.2 (sym at ∙ ap (get_elem? views) (sym e) ∙ q.1) in (
          q.0,
          ap (get_elem? (set views id (Desk p (n + 1) g) ++ new_view ∷ [])) (put_else h.owner n (length views) b ne)
              ∙ at_longer (set views id (Desk p (n + 1) g)) (new_view ∷ []) (h.owner b) q.0 (set_else views id (h.owner b) (Desk p (n + 1) g) else-where ∙ q.1),
          q.2,
        )
          where
            not_gathered : (b : ℕ) (v : View M) → HasTrace b v → some (Desk p n g) ≡ some v → ⊥
            not_gathered b v has e = let k : HasTrace b (Desk p n g) = subst (HasTrace b) (sym (some-injective (Desk p n g) v e)) has in
                let few : length g ≡ 0 = ap (λ (l : List (Trace M)). length l) none in omega arith

-- at the start the desk has handed out nothing
pub seats_begin : {M : Type 0} (plan : Plan) → AreSeated {M = M} plan (λ actor. fresh) (Desk plan 0 [] ∷ [])
seats_begin {M} plan = record {
  desk = 0;
  dealt = 0;
  owner = λ actor. 0;
  enough = omega arith;
  knows = λ j v e. first j v e;
  placed = λ b lt. absurd (omega arith);
  waits = λ b le. refl;
}
  where
    first : (j : ℕ) (v : View M) → get_elem? (Desk plan 0 [] ∷ []) j ≡ some v → Knows plan (λ actor. fresh) 0 0 (λ actor. 0) j v
    first zero v e = subst (Knows plan (λ actor. fresh) 0 0 (λ actor. 0) 0) (some-injective (Desk plan 0 []) v e) (refl, refl, refl, λ actor trace t. absurd (some-ne-none trace (sym t)))
    first (suc j) v e = absurd (some-ne-none v (sym e))
