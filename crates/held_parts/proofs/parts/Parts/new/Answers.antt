use Rattle.std.proofs.Common.{[], ◌∷◌, length, ap, sym, subst, arith}
use Rattle.std.proofs.lemmas.List.{length-append}
use Rattle.held_parts.specs.declared.place.Place.TheVariants.{Away}
use Rattle.held_parts.proofs.Away.{AreAway, one_more_away, away_anyhow}
use Rattle.held_parts.proofs.parts.Parts.new.Goals as goal

pub loop-preserved : goal.loop-preserved
loop-preserved g c =
    let items = c.in_ok-push.ensures.items in
    let all = ap length items in
    let sum = length-append c.loop.places.items (Away ∷ []) in
    let before = c.loop.invariant.0 in
    (omega (arith, all, sum, before), subst (λ l. AreAway l) (sym items) (one_more_away c.loop.places.items c.loop.invariant.1))

pub returns : goal.returns
returns g c setup fronts backs count = record {
  all = let before = c.loop.invariant.0 in omega (arith, before, count, c.loop-test.false, c.loop.auto.counter-end);
  each = λ inst place got. away_anyhow setup inst (fronts inst) (backs inst) place (c.loop.invariant.1 inst place got);
}
