-- How an instance's inputs are filled, port by port.
use Rattle.std.proofs.Common.{◌≡◌, ◌≢◌, ℕ, ◌+◌, ◌<◌, ◌≤◌, List, [], length, map, slice_get, Some, refl, sym, ap, subst, ◌∙◌, ◌⊎◌, inl, inr, arith}
use Rattle.std.proofs.lemmas.Bool.{cases_lt}
use Rattle.std.proofs.lemmas.List.{length-set, get_or-set_same, get_or-set_other}
use Rattle.std.proofs.lemmas.Option.{same_Some}
use Rattle.lv_base.specs.declared.number.Sample.{Sample}
use Rattle.plug_api.specs.Buffers.{Given, block_at}
use Rattle.session_play.specs.Signals.{mixed}
use Rattle.block_signals.specs.declared.outlets.Outlets.{Outlets}
use Rattle.block_signals.specs.declared.source.Input.{Input}
use Rattle.block_signals.specs.declared.source.Input.TheVariants.{Sound, Events, Still}
use Rattle.block_signals.specs.Inlets.{CanPut, with_input, IsPut}
use Rattle.block_signals.specs.Mixing.{heard}

-- so many ports are filled, and nothing else is changed
pub record Fills (frames : ℕ) (first now : Given) (outlets : Outlets) (inputs : List Input) (n : ℕ) : Type 0 where
  pub others : now ≡ record first { blocks = now.blocks }
  pub count : length now.blocks ≡ length first.blocks
  pub put : (i : ℕ) (input : Input) → i < n → slice_get inputs i ≡ Some input → IsPut frames now outlets i input
  pub rest : (i : ℕ) → n ≤ i → block_at now.blocks i ≡ block_at first.blocks i

pub fills_none : (frames : ℕ) (first : Given) (outlets : Outlets) (inputs : List Input) → Fills frames first first outlets inputs 0
fills_none frames first outlets inputs =
    record { others = refl; count = refl; put = λ i input h e. absurd (omega (arith, h)); rest = λ i h. refl }

-- whether something can be put at a port hangs on its block alone
can_stays : (frames : ℕ) (old new : Given) (outlets : Outlets) (port : ℕ) (input : Input) → length new.blocks ≡ length old.blocks
    → block_at new.blocks port ≡ block_at old.blocks port → CanPut frames old outlets port input → CanPut frames new outlets port input
can_stays frames old new outlets port (Sound sources) count same can =
    let there = can.0.there in
    (record { there = omega (arith, there, count); whole = ap length same ∙ can.0.whole }, can.1, can.2)
can_stays frames old new outlets port (Events sources) count same can = tt
can_stays frames old new outlets port Still count same can = tt

pub can_next : (frames : ℕ) (first now : Given) (outlets : Outlets) (inputs : List Input) (n : ℕ) (input : Input) → Fills frames first now outlets inputs n
    → CanPut frames first outlets n input → CanPut frames now outlets n input
can_next frames first now outlets inputs n input fills can = can_stays frames first now outlets n input fills.count (fills.rest n (omega arith)) can

put_stays : (frames : ℕ) (old new : Given) (outlets : Outlets) (port : ℕ) (input : Input) → block_at new.blocks port ≡ block_at old.blocks port
    → IsPut frames old outlets port input → IsPut frames new outlets port input
put_stays frames old new outlets port (Sound sources) same put = same ∙ put
put_stays frames old new outlets port (Events sources) same put = tt
put_stays frames old new outlets port Still same put = tt

-- what one port changes
record Changes (frames : ℕ) (old new : Given) (outlets : Outlets) (port : ℕ) (input : Input) : Type 0 where
  others : new ≡ record old { blocks = new.blocks }
  count : length new.blocks ≡ length old.blocks
  here : IsPut frames new outlets port input
  apart : (i : ℕ) → i ≢ port → block_at new.blocks i ≡ block_at old.blocks i

changes_one : (frames : ℕ) (old : Given) (outlets : Outlets) (port : ℕ) (input : Input) → CanPut frames old outlets port input
    → Changes frames old (with_input frames old outlets port input) outlets port input
changes_one frames old outlets port (Sound sources) can =
    let block : List Sample = mixed frames (map (heard outlets) sources) in
    record {
      others = refl;
      count = length-set old.blocks port block;
      here = get_or-set_same old.blocks port block [] can.0.there;
      apart = λ i h. get_or-set_other old.blocks port i block [] h;
    }
changes_one frames old outlets port (Events sources) can = record { others = refl; count = refl; here = tt; apart = λ i h. refl }
changes_one frames old outlets port Still can = record { others = refl; count = refl; here = tt; apart = λ i h. refl }

pub fills_more : (frames : ℕ) (first old new : Given) (outlets : Outlets) (inputs : List Input) (n : ℕ) (input : Input) → Fills frames first old outlets inputs n
    → slice_get inputs n ≡ Some input → CanPut frames old outlets n input → new ≡ with_input frames old outlets n input
    → Fills frames first new outlets inputs (n + 1)
fills_more frames first old new outlets inputs n input fills at can is =
    subst (λ (now : Given). Fills frames first now outlets inputs (n + 1)) (sym is) (record {
      others = changes.others ∙ ap (λ (ins : Given). record ins { blocks = (with_input frames old outlets n input).blocks }) fills.others;
      count = changes.count ∙ fills.count;
      put = λ i other h e. by i other e (cases_lt i n) h;
      rest = λ i h. changes.apart i (λ same. omega (arith, same, h)) ∙ fills.rest i (omega (arith, h));
    })
  where
    changes : Changes frames old (with_input frames old outlets n input) outlets n input
    changes = changes_one frames old outlets n input can

    by : (i : ℕ) (other : Input) → slice_get inputs i ≡ Some other → (i < n) ⊎ (n ≤ i) → i < n + 1 → IsPut frames (with_input frames old outlets n input) outlets i other
    by i other e (inl k) h = put_stays frames old (with_input frames old outlets n input) outlets i other (changes.apart i (λ same. omega (arith, same, k))) (fills.put i other k e)
    by i other e (inr k) h =
        let same : n ≡ i = omega (arith, k, h) in
        let one : input ≡ other = same_Some input other (sym at ∙ ap (slice_get inputs) same ∙ e) in
        let P : ℕ → Input → Type 0 = λ port it. IsPut frames (with_input frames old outlets n input) outlets port it in
        subst (λ (port : ℕ). P port other) same (subst (P n) one changes.here)
