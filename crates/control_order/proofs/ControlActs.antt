-- What control judges, for lists that are equal.
use Rattle.std.proofs.Common.{◌≡◌, List, Option, sym, subst}
use Rattle.record_law.specs.Task.{Due, Task}
use Rattle.control_order.specs.declared.control.ControlView.{ControlView}
use Rattle.control_order.specs.declared.control_stage.ControlStep.{ControlStep}
use Rattle.control_order.specs.ControlView.{Acts, Judges}

pub acts_as : (view : ControlView) (stages also : List Due) (answer : Option ControlStep) → stages ≡ also → Acts view also answer → Acts view stages answer
acts_as view stages also answer same acts = subst (λ (it : List Due). Acts view it answer) (sym same) acts

pub judges_as : (view : ControlView) (tasks also : List Task) (answer : Option ControlStep) → tasks ≡ also → Judges view also answer → Judges view tasks answer
judges_as view tasks also answer same judges = subst (λ (it : List Task). Judges view it answer) (sym same) judges
