-- Counts in a history are counts in the list of entries that it comes from.
use Rattle.std.proofs.Common.{◌≡◌, ℕ, suc, ◌+◌, ◌==◌, Bool, true, false, ◌&&◌, cond, List, [], ◌∷◌, length, filter, refl, sym, ap, ◌∙◌, arith, true≢false}
use Rattle.std.proofs.lemmas.List.Sums.{length-filter}
use Rattle.step_law.specs.declared.entry.Entry.{Entry}
use Rattle.step_law.specs.declared.entry.Kind.{Kind}
use Rattle.step_law.specs.declared.entry.Kind.TheVariants.{Block, Look, Take, Send, Full, Long, Done, Stop, Begin, End, Beat, Join, Late, Last}
use Rattle.step_law.specs.declared.ring.Ring.{Ring}
use Rattle.step_law.specs.Ring.{ring_number, ring_at}
use Rattle.step_law.proofs.EventLaws.{ring_same}
use Rattle.cable_trace.specs.Merged.{is_send, is_take, is_on as is_marked, sends_in, takes_in}
use Rattle.record_law.specs.declared.shape.Shape.{Shape}
use Rattle.record_law.specs.Entries.{kind_number, is_on}
use Rattle.record_law.specs.Message.{History}
use Rattle.record_law.specs.History.{one_more, count}
use Rattle.record_law.specs.Protocol.{done_in, after, history_of}
use Rattle.lawful.specs.Merged.{entries_in}

-- the kinds of both sides are the same
pub send_same : (kind : Kind) → (kind_number kind == 3) ≡ is_send kind
send_same Send = refl
send_same Block = refl
send_same Look = refl
send_same Take = refl
send_same Full = refl
send_same Long = refl
send_same Done = refl
send_same Stop = refl
send_same Begin = refl
send_same End = refl
send_same Beat = refl
send_same Join = refl
send_same Late = refl
send_same Last = refl

take_same : (kind : Kind) → (kind_number kind == 2) ≡ is_take kind
take_same Take = refl
take_same Send = refl
take_same Block = refl
take_same Look = refl
take_same Full = refl
take_same Long = refl
take_same Done = refl
take_same Stop = refl
take_same Begin = refl
take_same End = refl
take_same Beat = refl
take_same Join = refl
take_same Late = refl
take_same Last = refl

-- how many of some marks are of a kind on a ring
abbrev pub among : Kind → Ring → List (ℕ × Entry) → ℕ
among kind ring marks = length (filter (λ mark. is_on kind ring mark.1) marks)

pub count_after : (s : Shape) (kind : Kind) (ring : Ring) (h : History) (marks : List (ℕ × Entry))
    → count kind ring (after s h (entries_in marks)) ≡ count kind ring h + among kind ring marks
count_after s kind ring h [] = omega arith
count_after s kind ring h (mark ∷ marks) = by (is_on kind ring mark.1) refl (count_after s kind ring (done_in s h mark.1) marks)
  where
    by : (b : Bool) → is_on kind ring mark.1 ≡ b
        → count kind ring (after s (done_in s h mark.1) (entries_in marks)) ≡ count kind ring (done_in s h mark.1) + among kind ring marks
        → count kind ring (after s (done_in s h mark.1) (entries_in marks)) ≡ count kind ring h + length (cond (is_on kind ring mark.1) (mark ∷ filter (λ m. is_on kind ring m.1) marks) (filter (λ m. is_on kind ring m.1) marks))
    by true e rest =
        let one : count kind ring (done_in s h mark.1) ≡ suc (count kind ring h) = ap (λ b. one_more b (count kind ring h)) e in
        let more : length (cond (is_on kind ring mark.1) (mark ∷ filter (λ m. is_on kind ring m.1) marks) (filter (λ m. is_on kind ring m.1) marks)) ≡ suc (among kind ring marks) =
        ap (λ b. length (cond b (mark ∷ filter (λ m. is_on kind ring m.1) marks) (filter (λ m. is_on kind ring m.1) marks))) e in
        omega (arith, rest, one, more)
    by false e rest =
        let one : count kind ring (done_in s h mark.1) ≡ count kind ring h = ap (λ b. one_more b (count kind ring h)) e in
        let more : length (cond (is_on kind ring mark.1) (mark ∷ filter (λ m. is_on kind ring m.1) marks) (filter (λ m. is_on kind ring m.1) marks)) ≡ among kind ring marks =
        ap (λ b. length (cond b (mark ∷ filter (λ m. is_on kind ring m.1) marks) (filter (λ m. is_on kind ring m.1) marks))) e in
        omega (arith, rest, one, more)

-- marks that pass one test pass the other
filter_same : {X : Type 0} (p q : X → Bool) (xs : List X) → ((x : X) → p x ≡ q x) → length (filter p xs) ≡ length (filter q xs)
filter_same p q [] k = refl
filter_same p q (x ∷ xs) k = by (p x) (q x) (k x) (filter_same p q xs k)
  where
    by : (b c : Bool) → b ≡ c → length (filter p xs) ≡ length (filter q xs)
        → length (cond b (x ∷ filter p xs) (filter p xs)) ≡ length (cond c (x ∷ filter q xs) (filter q xs))
    by true true e rest = ap suc rest
    by true false e rest = absurd (true≢false e)
    by false true e rest = absurd (true≢false (sym e))
    by false false e rest = rest

pub among_sends : (ring : Ring) (marks : List (ℕ × Entry)) → among Send ring marks ≡ sends_in (ring_number ring) marks
among_sends ring marks =
    filter_same (λ mark. is_on Send ring mark.1) (is_marked is_send (ring_number ring)) marks (λ mark. ap (λ b. b && (mark.1.a == ring_number ring)) (send_same mark.1.kind))
    ∙ length-filter (is_marked is_send (ring_number ring)) marks

pub among_takes : (ring : Ring) (marks : List (ℕ × Entry)) → among Take ring marks ≡ takes_in (ring_number ring) marks
among_takes ring marks =
    filter_same (λ mark. is_on Take ring mark.1) (is_marked is_take (ring_number ring)) marks (λ mark. ap (λ b. b && (mark.1.a == ring_number ring)) (take_same mark.1.kind))
    ∙ length-filter (is_marked is_take (ring_number ring)) marks

pub sends_before : (s : Shape) (a : ℕ) (before : List (ℕ × Entry)) → count Send (ring_at a) (history_of s (entries_in before)) ≡ sends_in a before
sends_before s a before =
    let there = count_after s Send (ring_at a) [] before in
    let same = among_sends (ring_at a) before in
    let number : sends_in (ring_number (ring_at a)) before ≡ sends_in a before = ap (λ n. sends_in n before) (ring_same a) in
    omega (arith, there, same, number)

pub takes_before : (s : Shape) (a : ℕ) (before : List (ℕ × Entry)) → count Take (ring_at a) (history_of s (entries_in before)) ≡ takes_in a before
takes_before s a before =
    let there = count_after s Take (ring_at a) [] before in
    let same = among_takes (ring_at a) before in
    let number : takes_in (ring_number (ring_at a)) before ≡ takes_in a before = ap (λ n. takes_in n before) (ring_same a) in
    omega (arith, there, same, number)
