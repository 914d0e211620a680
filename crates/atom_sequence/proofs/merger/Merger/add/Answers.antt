use Rattle.std.proofs.Common.{◌≡◌, length, sym, ap, ◌∙◌, arith}
use Rattle.atom_sequence.proofs.Holding.{held_count}
use Rattle.atom_sequence.proofs.merger.Merger.add.Goals as goal

pub returns-then-self-eq-MOST_VIEWS-clause-room : goal.returns-then-self-eq-MOST_VIEWS-clause-room
returns-then-self-eq-MOST_VIEWS-clause-room c =
    let inside = c.self.inside in
    let count : length c.args.self.now ≡ inside.count = ap length (sym c.self.view_is) ∙ held_count inside.views inside.count (omega arith) in
    (λ no. absurd cc, λ less. absurd (omega (arith, less, count)))
