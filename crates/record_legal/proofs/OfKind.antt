-- Entries that are of a kind.
use Rattle.std.proofs.Common.{◌≡◌, true, refl, sym, true≢false}
use Rattle.step_law.specs.declared.entry.Kind.{Kind}
use Rattle.step_law.specs.declared.entry.Kind.TheVariants.{Block, Look, Take, Send, Full, Long, Done, Stop, Begin, End, Beat, Join, Late, Last}
use Rattle.std.specs.Prelude.{◌==◌}
use Rattle.record_law.specs.Entries.{kind_number}

pub is_take : (kind : Kind) → (kind_number kind == 2) ≡ true → kind ≡ Take
is_take Take e = refl
is_take Block e = absurd (true≢false (sym e))
is_take Look e = absurd (true≢false (sym e))
is_take Send e = absurd (true≢false (sym e))
is_take Full e = absurd (true≢false (sym e))
is_take Long e = absurd (true≢false (sym e))
is_take Done e = absurd (true≢false (sym e))
is_take Stop e = absurd (true≢false (sym e))
is_take Begin e = absurd (true≢false (sym e))
is_take End e = absurd (true≢false (sym e))
is_take Beat e = absurd (true≢false (sym e))
is_take Join e = absurd (true≢false (sym e))
is_take Late e = absurd (true≢false (sym e))
is_take Last e = absurd (true≢false (sym e))

pub is_send : (kind : Kind) → (kind_number kind == 3) ≡ true → kind ≡ Send
is_send Send e = refl
is_send Block e = absurd (true≢false (sym e))
is_send Look e = absurd (true≢false (sym e))
is_send Take e = absurd (true≢false (sym e))
is_send Full e = absurd (true≢false (sym e))
is_send Long e = absurd (true≢false (sym e))
is_send Done e = absurd (true≢false (sym e))
is_send Stop e = absurd (true≢false (sym e))
is_send Begin e = absurd (true≢false (sym e))
is_send End e = absurd (true≢false (sym e))
is_send Beat e = absurd (true≢false (sym e))
is_send Join e = absurd (true≢false (sym e))
is_send Late e = absurd (true≢false (sym e))
is_send Last e = absurd (true≢false (sym e))
