use Rattle.std.proofs.Common.{rules}
use Rattle.state_store.specs.Properties.{AreRising}
use Rattle.state_store.proofs.Ordered.{same_map}
use Rattle.state_store.proofs.props.Props.same_where_alike.Goals as goal

pub returns : goal.returns
returns c =
    let up : AreRising c.args.self.now = search rules in
    let up' : AreRising c.args.other.now = search rules in
    λ alike. same_map c.args.self.now c.args.other.now up up' alike
