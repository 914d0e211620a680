-- Each step keeps the order of tickets.
use Rattle.std.proofs.Common.{◌≡◌, ℕ, ◌+◌, ◌<◌, ◌≤◌, List, [], ◌∷◌, ◌++◌, length, get_or, arith}
use Rattle.std.specs.List.{All}
use Rattle.std.proofs.lemmas.List.{length_push}
use Rattle.std.proofs.lemmas.List.Elements.{All-nil, All-push}
use Rattle.cable_trace.specs.Order.{below, InOrder}
use Rattle.cable_trace.proofs.Below.{below_high, below-more, below-le, below-all}

-- nothing has happened
pub order_fresh : (cells : ℕ) → InOrder cells [] [] [] [] [] []
order_fresh cells = record {
  paired = All-nil (λ ticket. below ticket [] < below ticket []);
  roomy = All-nil (λ ticket. below ticket [] ≤ below ticket [] + cells + 1);
  full = All-nil (λ refusal. (below refusal.0 [] ≤ refusal.1) × (below refusal.0 [] ≡ refusal.1 + cells));
  at_least = All-nil (λ look. All (λ ticket. ticket < look.0 → below ticket [] ≤ look.1) []);
  at_most = All-nil (λ look. All (λ ticket. look.0 < ticket → look.1 ≤ below ticket []) []);
  in_all = All-nil (λ look. look.1 ≤ length {A = ℕ} []);
}

module _ (cells : ℕ) (drawn sends : List ℕ) (refusals : List (ℕ × ℕ)) (asked : List ℕ) (looks : List (ℕ × ℕ)) (takes : List ℕ)
    (o : InOrder cells drawn sends refusals asked looks takes) where
  -- the sender draws a ticket above those of takes and looks
  pub order_sender_draws : (ticket : ℕ) → All (λ t. t < ticket) takes → All (λ look. look.0 < ticket) looks
      → length sends ≤ length takes + cells + 1 → InOrder cells (drawn ++ ticket ∷ []) sends refusals asked looks takes
  order_sender_draws ticket t l room = record {
    paired = o.paired;
    roomy = All-push (λ x. below x sends ≤ below x takes + cells + 1) drawn ticket o.roomy (omega (arith, below-le ticket sends, below-all ticket takes t));
    full = o.full;
    at_least = λ k d lt. All-push (λ x. x < (get_or looks k d).0 → below x sends ≤ (get_or looks k d).1) drawn ticket (o.at_least k d lt) (λ h. absurd (omega (arith, l k d lt)));
    at_most = o.at_most;
    in_all = o.in_all;
  }

  -- the sender sends with the last ticket that it drew
  pub order_sender_sends : (ticket : ℕ) → All (λ t. t ≤ ticket) drawn → All (λ refusal. refusal.0 ≤ ticket) refusals
      → InOrder cells drawn (sends ++ ticket ∷ []) refusals asked looks takes
  order_sender_sends ticket last r = record {
    paired = λ k d lt. omega (arith, o.paired k d lt, below-more (get_or takes k d) ticket sends);
    roomy = λ k d lt. omega (arith, o.roomy k d lt, below_high (get_or drawn k d) ticket sends (last k d lt));
    full = λ k d lt. ((o.full k d lt).0, omega (arith, (o.full k d lt).1, below_high (get_or refusals k d).0 ticket sends (r k d lt)));
    at_least = λ k d lt i e in_drawn h. omega (arith, o.at_least k d lt i e in_drawn h, below_high (get_or drawn i e) ticket sends (last i e in_drawn));
    at_most = λ k d lt i e in_asked h. omega (arith, o.at_most k d lt i e in_asked h, below-more (get_or asked i e) ticket sends);
    in_all = λ k d lt. omega (arith, o.in_all k d lt, length_push sends ticket);
  }

  -- the sender finds the ring full, with the last ticket that it drew
  pub order_sender_is_refused : (ticket seen : ℕ) → All (λ t. t < ticket) sends → length takes ≤ seen → length sends ≡ seen + cells
      → InOrder cells drawn sends (refusals ++ (ticket, seen) ∷ []) asked looks takes
  order_sender_is_refused ticket seen s h e = record {
    paired = o.paired;
    roomy = o.roomy;
    full =
        let at : ℕ × ℕ = (ticket, seen) in
        All-push (λ x. (below x.0 takes ≤ x.1) × (below x.0 sends ≡ x.1 + cells)) refusals at o.full
        (omega (arith, below-le ticket takes), omega (arith, below-all ticket sends s));
    at_least = o.at_least;
    at_most = o.at_most;
    in_all = o.in_all;
  }

  -- the taker draws a ticket above those of all sends
  pub order_taker_draws : (ticket : ℕ) → All (λ t. t < ticket) sends → InOrder cells drawn sends refusals (asked ++ ticket ∷ []) looks takes
  order_taker_draws ticket s = record {
    paired = o.paired;
    roomy = o.roomy;
    full = o.full;
    at_least = o.at_least;
    at_most = λ k d lt. All-push (λ x. (get_or looks k d).0 < x → (get_or looks k d).1 ≤ below x sends) asked ticket (o.at_most k d lt)
        (λ h. omega (arith, o.in_all k d lt, below-all ticket sends s));
    in_all = o.in_all;
  }

  -- the taker looks, with the last ticket that it drew
  pub order_taker_looks : (ticket count : ℕ) → count ≡ length sends → All (λ t. t ≤ ticket) asked
      → InOrder cells drawn sends refusals asked (looks ++ (ticket, count) ∷ []) takes
  order_taker_looks ticket count e last =
      let at : ℕ × ℕ = (ticket, count) in
      record {
        paired = o.paired;
        roomy = o.roomy;
        full = o.full;
        at_least = All-push (λ look. All (λ t. t < look.0 → below t sends ≤ look.1) drawn) looks at o.at_least
            (λ k d lt h. omega (arith, below-le (get_or drawn k d) sends));
        at_most = All-push (λ look. All (λ t. look.0 < t → look.1 ≤ below t sends) asked) looks at o.at_most
            (λ k d lt h. absurd (omega (arith, last k d lt)));
        in_all = All-push (λ look. look.1 ≤ length sends) looks at o.in_all (omega arith);
      }

  -- the taker takes one of those that were sent, with a ticket above those of all sends
  pub order_taker_takes : (ticket : ℕ) → All (λ refusal. refusal.0 ≤ ticket) refusals → All (λ t. t < ticket) sends → All (λ t. t ≤ ticket) takes
      → length takes < length sends → InOrder cells drawn sends refusals asked looks (takes ++ ticket ∷ [])
  order_taker_takes ticket r s t more = record {
    paired = All-push (λ x. below x (takes ++ ticket ∷ []) < below x sends) takes ticket
        (λ k d lt. omega (arith, o.paired k d lt, below_high (get_or takes k d) ticket takes (t k d lt)))
        (omega (arith, below_high ticket ticket takes (omega arith), below-le ticket takes, below-all ticket sends s));
    roomy = λ k d lt. omega (arith, o.roomy k d lt, below-more (get_or drawn k d) ticket takes);
    full = λ k d lt. (omega (arith, (o.full k d lt).0, below_high (get_or refusals k d).0 ticket takes (r k d lt)), (o.full k d lt).1);
    at_least = o.at_least;
    at_most = o.at_most;
    in_all = o.in_all;
  }
