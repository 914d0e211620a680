-- What a look shows, and what control sees of the progress of audio: all that its sender has gone on from, and nothing of later.
use Rattle.std.specs.Prelude.{ℕ, ◌+◌, nat_le, nat_eq, Bool, true, ◌||◌, [], ◌∷◌}
use Rattle.std.specs.List.{list_all, list_any}
use Rattle.step_law.specs.declared.actor.Actor.TheVariants.{Audio}
use Rattle.step_law.specs.declared.entry.Kind.{Kind}
use Rattle.step_law.specs.declared.entry.Kind.TheVariants.{Look, Take, Send, Beat}
use Rattle.step_law.specs.declared.ring.Ring.{Ring}
use Rattle.step_law.specs.Ring.{ring_at}
use Rattle.record_law.specs.declared.shape.Shape.{Shape}
use Rattle.record_law.specs.Message.{History}
use Rattle.record_law.specs.History.{count, own, settled, progress_in}
use Rattle.record_law.specs.Shape.{sender}

-- a look has shown what it shows and what was taken before
abbrev pub shown_by : Ring → History → ℕ → ℕ
shown_by ring h shown = shown + count Take ring h

-- at least: the sends that stand before an entry of the sender which stands before the look; likewise the progress
abbrev pub shows_enough : Shape → History → Kind → (a b : ℕ) → Bool
shows_enough s h Look ring b = nat_le (count Send (ring_at ring) (settled (sender s (ring_at ring)) h)) (shown_by (ring_at ring) h b)
shows_enough s h Beat seen b = list_all (λ progress. nat_le progress seen) (progress_in s (settled Audio h))
shows_enough s h kind a b = true

-- at most: the sends that stand before the looker's next entry; likewise the progress, which is 0 or one that stands there
abbrev pub shows_no_more : Shape → History → Kind → (a b : ℕ) → Bool
shows_no_more s h Look ring b = nat_le (shown_by (ring_at ring) h b) (count Send (ring_at ring) h)
shows_no_more s h Beat seen b = nat_eq seen 0 || list_any (nat_eq seen) (progress_in s (own Audio h))
shows_no_more s h kind a b = true

-- the actor's entry before, if it has one, showed no more
abbrev pub last_shows_no_more : Shape → History → History → Bool
last_shows_no_more s h [] = true
last_shows_no_more s h (x ∷ older) = shows_no_more s h x.entry.kind x.entry.a x.entry.b
