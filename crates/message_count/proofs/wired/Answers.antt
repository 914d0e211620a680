use Rattle.std.proofs.Common.{◌≡◌, [], ◌∷◌, ◌++◌, subst, ap, ◌∙◌}
use Rattle.std.specs.Option.{option_to_list}
use Rattle.cable_ring.specs.Opened.{AreOpened, plan_with}
use Rattle.cable_ring.specs.Tables.{table_of}
use Rattle.message_count.proofs.Wirings.{opened_last, wired_new}
use Rattle.message_count.proofs.wired.Goals as goal

pub returns : goal.returns
returns c =
    let plan = plan_with 0 64 2 (record { from = 0; to = 1 } ∷ []) in
    let table = table_of c.in_ok-cable.cable in
    let both : AreOpened table plan 2 c.in_ok-cable.passes.items = c.in_ok-cable.ensures.passes in
    let split : c.in_ok-cable.passes.items ≡ c.pop.new.self.items ++ c.unwrap-taker.result ∷ [] = c.pop.ensures.items ∙ ap (λ r. c.pop.new.self.items ++ option_to_list r) c.unwrap-taker.ensures in
    let last = opened_last table plan 1 c.pop.new.self.items c.unwrap-taker.result (subst (λ xs. AreOpened table plan 2 xs) split both) in
    let split2 : c.pop.new.self.items ≡ c.pop-2.new.self.items ++ c.unwrap-sender.result ∷ [] = c.pop-2.ensures.items ∙ ap (λ r. c.pop-2.new.self.items ++ option_to_list r) c.unwrap-sender.ensures in
    let first = opened_last table plan 0 c.pop-2.new.self.items c.unwrap-sender.result (subst (λ xs. AreOpened table plan 1 xs) split2 last.1) in
    (wired_new table 0 _ first.0, wired_new table 1 _ last.0)
