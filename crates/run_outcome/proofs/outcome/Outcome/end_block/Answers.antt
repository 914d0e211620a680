use Rattle.std.proofs.Common.{◌++◌, ◌∙◌}
use Rattle.run_outcome.proofs.Nothing.{on_ok}
use Rattle.run_outcome.proofs.outcome.Outcome.end_block.Goals as goal

pub returns : goal.returns
returns c =
    on_ok c.push_all.result
    (λ pushed setup board sound saved statuses lines ready outs chans show. record {
      is_sound =
          pushed ∙ (λ t. show.is_sound t ++ (c.as_slice.ensures.value ∙ c.put_block.ensures.given setup board ready outs chans) t);
      are_saved = show.are_saved;
      are_statuses = show.are_statuses;
      are_lines = show.are_lines;
      room = c.put_block.ensures.room ∙ show.room;
    })
    c.push_all.ensures.ok
