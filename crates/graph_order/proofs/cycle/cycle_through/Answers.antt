use Rattle.std.proofs.Common.{◌+◌, Bool, List, Option, length, subst}
use Rattle.std.specs.Option.{IfSome, IfNone}
use Rattle.graph_order.specs.Search.{IsSearched, IsLeastOf, IsApartBelow}
use Rattle.graph_order.proofs.Least.{through-of}
use Rattle.graph_order.proofs.Shortening.{none-from-apart}
use Rattle.graph_order.proofs.cycle.cycle_through.Goals as goal

pub returns-in_ok-way_back-in-Some-clause-some : goal.returns-in_ok-way_back-in-Some-clause-some
returns-in_ok-way_back-in-Some-clause-some c =
    let Found : Option (List (List Bool)) → Type 0 = λ rows. IfSome rows (IsSearched c.args.cables.now c.args.inst c.args.count) in
    let Least : List (List Bool) → Type 0 = λ rows. IsLeastOf c.args.cables.now c.args.inst (length rows) c.in_ok-way_back-in-Some.field-0 in
    through-of c.args.cables.now c.args.inst c.args.count c.in-Some.rows c.in_ok-way_back-in-Some.field-0 (subst Found c.in-Some.is c.in_ok-rows.ensures.some) (subst Least c.as_slice.ensures c.in_ok-way_back-in-Some.ensures)

pub returns-in-None-clause-none : goal.returns-in-None-clause-none
returns-in-None-clause-none c =
    let Missing : Option (List (List Bool)) → Type 0 = λ rows. IfNone rows (IsApartBelow c.args.cables.now c.args.inst (c.args.count + 1)) in
    none-from-apart c.args.cables.now c.args.count c.args.inst c.requires.within (subst Missing c.in-None.is c.in_ok-rows.ensures.none)
