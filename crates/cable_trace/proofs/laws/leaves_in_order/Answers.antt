use Rattle.std.proofs.Common.{◌++◌, ap, ◌∙◌, append_assoc}
use Rattle.cable_trace.specs.Trace.{moved}
use Rattle.cable_trace.proofs.laws.leaves_in_order.Goals as goal

pub returns : goal.returns
returns g c = λ cells ring sender taker h. record {
  rest = h.moves.rest ++ h.shows.rest;
  is = h.shows.is ∙ ap (λ l. l ++ h.shows.rest) h.moves.is ∙ append_assoc (moved ring taker) h.moves.rest h.shows.rest;
}
