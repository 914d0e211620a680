-- Entries that are the same by the test are equal, and what a history has was done.
use Rattle.std.proofs.Common.{◌≡◌, ◌⊎◌, ℕ, zero, suc, ◌<◌, ◌==◌, true, ◌&&◌, List, [], ◌∷◌, length, slice_index_or, Contains, refl, sym, ap, subst, ◌∙◌, inl, inr, ⊎_elim, arith, eq-eqb, eqb-true}
use Rattle.std.proofs.lemmas.Bool.{and_parts, and_from, or_cases, or_left, or_right}
use Rattle.step_law.specs.declared.entry.Entry.{Entry}
use Rattle.step_law.specs.declared.entry.Kind.{Kind}
use Rattle.step_law.specs.declared.entry.Kind.TheVariants.{Block, Look, Take, Send, Full, Long, Done, Stop, Begin, End, Beat, Join, Late, Last}
use Rattle.record_law.specs.declared.shape.Shape.{Shape}
use Rattle.record_law.specs.Entries.{kind_number, is_kind, same_entry}
use Rattle.record_law.specs.Message.{History}
use Rattle.record_law.specs.History.{has}
use Rattle.record_law.specs.Protocol.{done_in, after}

-- kinds are told apart by their numbers
kind_at : ℕ → Kind
kind_at zero = Block
kind_at (suc zero) = Look
kind_at (suc (suc zero)) = Take
kind_at (suc (suc (suc zero))) = Send
kind_at (suc (suc (suc (suc zero)))) = Full
kind_at (suc (suc (suc (suc (suc zero))))) = Long
kind_at (suc (suc (suc (suc (suc (suc zero)))))) = Done
kind_at (suc (suc (suc (suc (suc (suc (suc zero))))))) = Stop
kind_at (suc (suc (suc (suc (suc (suc (suc (suc zero)))))))) = Begin
kind_at (suc (suc (suc (suc (suc (suc (suc (suc (suc zero))))))))) = End
kind_at (suc (suc (suc (suc (suc (suc (suc (suc (suc (suc zero)))))))))) = Beat
kind_at (suc (suc (suc (suc (suc (suc (suc (suc (suc (suc (suc zero))))))))))) = Join
kind_at (suc (suc (suc (suc (suc (suc (suc (suc (suc (suc (suc (suc zero)))))))))))) = Late
kind_at _ = Last

kind_back : (kind : Kind) → kind_at (kind_number kind) ≡ kind
unfolding kind_at
kind_back Block = refl
kind_back Look = refl
kind_back Take = refl
kind_back Send = refl
kind_back Full = refl
kind_back Long = refl
kind_back Done = refl
kind_back Stop = refl
kind_back Begin = refl
kind_back End = refl
kind_back Beat = refl
kind_back Join = refl
kind_back Late = refl
kind_back Last = refl

pub same_kind : (kind also : Kind) → kind_number kind ≡ kind_number also → kind ≡ also
same_kind kind also e = sym (kind_back kind) ∙ ap kind_at e ∙ kind_back also

abbrev pub entry : ℕ → Kind → ℕ → ℕ → Entry
entry actor kind a b = record { actor = actor; kind = kind; a = a; b = b }

pub same_means : (x e : Entry) → same_entry x e ≡ true → e ≡ x
same_means x e h =
    let first = and_parts ((e.actor == x.actor) && is_kind x.kind e && (e.a == x.a)) (e.b == x.b) h in
    let second = and_parts ((e.actor == x.actor) && is_kind x.kind e) (e.a == x.a) first.0 in
    let third = and_parts (e.actor == x.actor) (is_kind x.kind e) second.0 in
    let actor = eqb-true e.actor x.actor third.0 in
    let kind = same_kind e.kind x.kind (eqb-true (kind_number e.kind) (kind_number x.kind) third.1) in
    let a = eqb-true e.a x.a second.1 in
    let b = eqb-true e.b x.b first.1 in
    λ i. entry (actor i) (kind i) (a i) (b i)

pub same_itself : (e : Entry) → same_entry e e ≡ true
same_itself e =
    and_from ((e.actor == e.actor) && is_kind e.kind e && (e.a == e.a)) (e.b == e.b)
    (and_from ((e.actor == e.actor) && is_kind e.kind e) (e.a == e.a)
    (and_from (e.actor == e.actor) (is_kind e.kind e) (eq-eqb e.actor e.actor refl) (eq-eqb (kind_number e.kind) (kind_number e.kind) refl))
    (eq-eqb e.a e.a refl))
    (eq-eqb e.b e.b refl)

-- ---- what stands in a list

pub at_head : (e x : Entry) (later : List Entry) → x ≡ e → Contains (x ∷ later) e
at_head e x later same = (0, omega arith, same)

pub in_tail : (e x : Entry) (later : List Entry) → Contains later e → Contains (x ∷ later) e
in_tail e x later c = let less = c.1 in (suc c.0, omega (arith, less), c.2)

-- what a history has after some entries was there before, or is one of them
pub has_means : (s : Shape) (e : Entry) (h : History) (later : List Entry) → has e (after s h later) ≡ true → (has e h ≡ true) ⊎ Contains later e
has_means s e h [] k = inl k
has_means s e h (x ∷ later) k =
    ⊎_elim
    (λ early. ⊎_elim (λ same. inr (at_head e x later (same_means e x same))) (λ old. inl old) (or_cases (same_entry e x) (has e h) early))
    (λ late. inr (in_tail e x later late))
    (has_means s e (done_in s h x) later k)

pub has_stays : (s : Shape) (e : Entry) (h : History) (later : List Entry) → has e h ≡ true → has e (after s h later) ≡ true
has_stays s e h [] k = k
has_stays s e h (x ∷ later) k = has_stays s e (done_in s h x) later (or_right (same_entry e x) (has e h) k)

pub has_all : (s : Shape) (e : Entry) (h : History) (later : List Entry) (place : ℕ) → place < length later → slice_index_or later place e ≡ e
    → has e (after s h later) ≡ true
has_all s e h [] place less there = absurd (omega (arith, less))
has_all s e h (x ∷ later) zero less there =
    has_stays s e (done_in s h x) later (or_left (same_entry e x) (has e h) (subst (λ it. same_entry e it ≡ true) (sym there) (same_itself e)))
has_all s e h (x ∷ later) (suc place) less there = has_all s e (done_in s h x) later place (omega (arith, less)) there
