-- A loaded session: a setup without its states.
use Rattle.std.specs.Prelude.{ℕ, List}
use Rattle.state_store.specs.declared.prop.Prop.{Prop}
use Rattle.graph_order.specs.declared.setup.Setup.{Setup}
use Rattle.graph_order.specs.Setup.{IsReady}
use Rattle.session_setup.specs.declared.loaded.Loaded.{Loaded}

-- the setup, once the states of the restores are there
abbrev pub setup_of : Loaded → List (List (ℕ × Prop)) → Setup
setup_of made states = record { session = made.session; decls = made.decls; plan = made.plan; states = states }

-- whatever the states are, the setup is ready to be played
abbrev pub IsSound : Loaded → Type 0
IsSound made = (states : List (List (ℕ × Prop))) → IsReady (setup_of made states)
