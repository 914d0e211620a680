-- What is kept of each actor's own steps and of audio's progress, as a history goes on, and what it says of looks.
use Rattle.std.proofs.Common.{◌≡◌, ◌⊎◌, ℕ, zero, suc, ◌+◌, ◌-◌, ◌<◌, ◌≤◌, ◌^◌, ◌==◌, nat_le, nat_eq, Bool, true, false, ◌&&◌, ◌||◌, cond, List, [], ◌∷◌, length, min, drop, set, Option, Some, None, refl, sym, ap, ◌∙◌, inl, inr, ⊎_elim, arith, eq-eqb, ne_eqb, true≢false}
use mir.Val.{bool_byte}
use Rattle.std.specs.List.{cons_option, list_all, list_any}
use Rattle.std.proofs.lemmas.Bool.{cond-true, cond-false, cases_Bool, cases_eq, le-leb, leb-true, false_from_ne_true}
use Rattle.std.proofs.lemmas.List.{length-set}
use Rattle.step_law.specs.declared.actor.Actor.{Actor}
use Rattle.step_law.specs.declared.actor.Actor.TheVariants.{Audio}
use Rattle.step_law.specs.declared.entry.Entry.{Entry}
use Rattle.step_law.specs.declared.entry.Kind.{Kind}
use Rattle.step_law.specs.declared.entry.Kind.TheVariants.{Block, Look, Take, Send, Full, Long, Done, Stop, Begin, End, Beat, Join, Late, Last}
use Rattle.step_law.specs.Actor.{actor_at}
use Rattle.step_law.specs.Ring.{ring_at}
use Rattle.step_law.proofs.EventLaws.{actor_same, ring_same}
use Rattle.record_law.specs.declared.shape.Shape.{Shape}
use Rattle.record_law.specs.Entries.{is_by, is_kind, is_on}
use Rattle.record_law.specs.Message.{Step, History}
use Rattle.record_law.specs.History.{one_more, count, own, settled, progress_of, progress_in}
use Rattle.std.proofs.lemmas.Option.{none-some}
use Rattle.record_law.specs.Looks.{shows_no_more, last_shows_no_more}
use Rattle.record_counts.specs.declared.looks.Looks.{Looks}
use Rattle.record_counts.specs.Table.{IsTable}
use Rattle.record_counts.specs.Progress.{worth_of}
use Rattle.record_counts.specs.Looks.{newest_of, is_newest_on, last_of, countdown, EndsInTurn, TellsLooks}
use Rattle.record_counts.proofs.Tables.{table_set}

-- ---- the last entry of each actor

by_number : (n : ℕ) (e : Entry) → is_by (actor_at n) e ≡ (e.actor == n)
by_number n e = ap (λ (k : ℕ). e.actor == k) (actor_same n)

last_here : (h : History) (x : Step) → Some x.entry ≡ last_of (x ∷ h) x.entry.actor
last_here h x =
    ap newest_of
    (sym (cond-true (is_by (actor_at x.entry.actor) x.entry) (x ∷ own (actor_at x.entry.actor) h) (own (actor_at x.entry.actor) h)
    (by_number x.entry.actor x.entry ∙ eq-eqb x.entry.actor x.entry.actor refl)))

last_other : (h : History) (x : Step) (n : ℕ) → (n ≡ x.entry.actor → ⊥) → last_of h n ≡ last_of (x ∷ h) n
last_other h x n other =
    ap newest_of
    (sym (cond-false (is_by (actor_at n) x.entry) (x ∷ own (actor_at n) h) (own (actor_at n) h)
    (by_number n x.entry ∙ ne_eqb x.entry.actor n (λ same. other (sym same)))))

last_goes_on : (h : History) (x : Step) (last : List (Option Entry)) → IsTable (last_of h) last → IsTable (last_of (x ∷ h)) (set last x.entry.actor (Some x.entry))
last_goes_on h x last table = table_set (last_of h) (last_of (x ∷ h)) last x.entry.actor (Some x.entry) table (λ within. last_here h x) (λ n other. last_other h x n other)

-- ---- progress

worth_more : (blocks : ℕ) (kind : Kind) (a : ℕ) (known : List ℕ) → length (cons_option (progress_of blocks kind a) known) ≡ length known + worth_of kind
worth_more blocks Done a known = omega arith
worth_more blocks Stop a known = omega arith
worth_more blocks Block a known = omega arith
worth_more blocks Look a known = omega arith
worth_more blocks Take a known = omega arith
worth_more blocks Send a known = omega arith
worth_more blocks Full a known = omega arith
worth_more blocks Long a known = omega arith
worth_more blocks Begin a known = omega arith
worth_more blocks End a known = omega arith
worth_more blocks Beat a known = omega arith
worth_more blocks Join a known = omega arith
worth_more blocks Late a known = omega arith
worth_more blocks Last a known = omega arith

worth_most : (kind : Kind) → worth_of kind ≤ 1
worth_most Done = omega arith
worth_most Stop = omega arith
worth_most kind = omega arith

progress_most : (s : Shape) (h : History) → length (progress_in s h) ≤ length h
progress_most s [] = omega arith
progress_most s (x ∷ h) =
    omega (arith, worth_more s.blocks x.entry.kind x.entry.a (progress_in s h), worth_most x.entry.kind, progress_most s h)

own_most : (actor : Actor) (h : History) → length (own actor h) ≤ length h
own_most actor [] = omega arith
own_most actor (x ∷ h) = by (is_by actor x.entry) (own_most actor h)
  where
    by : (b : Bool) → length (own actor h) ≤ length h → length (cond b (x ∷ own actor h) (own actor h)) ≤ length (x ∷ h)
    by true less = omega (arith, less)
    by false less = omega (arith, less)

module _ (s : Shape) (h : History) (x : Step) (looks : Looks) (told : TellsLooks s h looks) where
  abbrev noted : List (Option Entry)
  noted = set looks.last x.entry.actor (Some x.entry)

  pub by_audio : is_by Audio x.entry ≡ true → length h < 2 ^ 63 → (known : ℕ) → (known ≡ min (looks.known + worth_of x.entry.kind) (2 ^ 64 - 1))
      → TellsLooks s (x ∷ h) (record { last = noted; known = known; settled = looks.known })
  by_audio mine less known is =
      let newest : own Audio (x ∷ h) ≡ x ∷ own Audio h = cond-true (is_by Audio x.entry) (x ∷ own Audio h) (own Audio h) mine in
      let more = ap (λ (l : History). length (progress_in s l)) newest ∙ worth_more s.blocks x.entry.kind x.entry.a (progress_in s (own Audio h)) in
      let few = progress_most s (own Audio h) in
      let own_few = own_most Audio h in
      let one = worth_most x.entry.kind in
      let knew = told.known in record {
        each = last_goes_on h x looks.last told.each;
        all = length-set looks.last x.entry.actor (Some x.entry) ∙ told.all;
        known = is ∙ omega (arith, more, few, own_few, one, knew, less);
        settled = told.known ∙ sym (ap (λ (l : History). length (progress_in s (drop 1 l))) newest);
      }

  pub by_other : is_by Audio x.entry ≡ false → TellsLooks s (x ∷ h) (record looks { last = noted })
  by_other other =
      let same : own Audio (x ∷ h) ≡ own Audio h = cond-false (is_by Audio x.entry) (x ∷ own Audio h) (own Audio h) other in record {
        each = last_goes_on h x looks.last told.each;
        all = length-set looks.last x.entry.actor (Some x.entry) ∙ told.all;
        known = told.known ∙ sym (ap (λ (l : History). length (progress_in s l)) same);
        settled = told.settled ∙ sym (ap (λ (l : History). length (progress_in s (drop 1 l))) same);
      }

-- ---- tests that hold of the same numbers

pub le_same : (a b c d : ℕ) → (a ≤ b → c ≤ d) → (c ≤ d → a ≤ b) → nat_le a b ≡ nat_le c d
le_same a b c d there back =
    ⊎_elim
    (λ yes. yes ∙ sym (le-leb c d (there (leb-true a b yes))))
    (λ no.
    no
    ∙ sym (false_from_ne_true (nat_le c d) (λ also. true≢false (sym (le-leb a b (back (leb-true c d also))) ∙ no))))
    (cases_Bool (nat_le a b))

-- ---- the numbers from one on down to 1

pub countdown_all : (n seen : ℕ) → list_all (λ progress. nat_le progress seen) (countdown n) ≡ nat_le n seen
countdown_all zero seen = sym (le-leb 0 seen (omega arith))
countdown_all (suc n) seen = ap (λ (b : Bool). nat_le (suc n) seen && b) (countdown_all n seen) ∙ by (nat_le (suc n) seen) refl
  where
    by : (b : Bool) → nat_le (suc n) seen ≡ b → (b && nat_le n seen) ≡ b
    by true is = let less = leb-true (suc n) seen is in le-leb n seen (omega (arith, less))
    by false is = refl

none_least : (k : ℕ) → false ≡ nat_le (suc k) 0
none_least k = sym (false_from_ne_true (nat_le (suc k) 0) (λ le. let less = leb-true (suc k) 0 le in omega (arith, less)))

any_below : (n k : ℕ) → list_any (nat_eq (suc k)) (countdown n) ≡ nat_le (suc k) n
any_below zero k = none_least k
any_below (suc n) k = ap (λ (b : Bool). nat_eq (suc k) (suc n) || b) (any_below n k) ∙ by (cases_eq (suc k) (suc n))
  where
    by : ((suc k ≡ suc n) ⊎ (suc k ≡ suc n → ⊥)) → (nat_eq (suc k) (suc n) || nat_le (suc k) n) ≡ nat_le (suc k) (suc n)
    by (inl same) =
        ap (λ (b : Bool). b || nat_le (suc k) n) (eq-eqb (suc k) (suc n) same) ∙ sym (le-leb (suc k) (suc n) (omega (arith, same)))
    by (inr other) =
        ap (λ (b : Bool). b || nat_le (suc k) n) (ne_eqb (suc k) (suc n) other)
        ∙ le_same (suc k) n (suc k) (suc n) (λ (le : suc k ≤ n). omega (arith, le)) (λ (le : suc k ≤ suc n). omega (arith, le, other))

pub countdown_any : (n seen : ℕ) → (nat_eq seen 0 || list_any (nat_eq seen) (countdown n)) ≡ nat_le seen n
countdown_any n zero = sym (le-leb 0 n (omega arith))
countdown_any n (suc k) = ap (λ (b : Bool). b || list_any (nat_eq (suc k)) (countdown n)) (ne_eqb (suc k) 0 (λ zero. omega (arith, zero))) ∙ any_below n k

-- what audio has gone on from is known in turn
pub settled_in_turn : (s : Shape) (h : History) → EndsInTurn s h → progress_in s (settled Audio h) ≡ countdown (length (progress_in s (settled Audio h)))
settled_in_turn s h turn = by (own Audio h) turn
  where
    less : (o : Option ℕ) (known : List ℕ) → cons_option o known ≡ countdown (length (cons_option o known)) → known ≡ countdown (length known)
    less None known e = e
    less (Some n) known e = ap (drop 1) e

    by : (l : History) → progress_in s l ≡ countdown (length (progress_in s l)) → progress_in s (drop 1 l) ≡ countdown (length (progress_in s (drop 1 l)))
    by [] e = refl
    by (x ∷ older) e = less (progress_of s.blocks x.entry.kind x.entry.a) (progress_in s older) e

-- ---- sends that the sender has gone on from

pub settled_sends : (ring : ℕ) (actor : Actor) (h : History)
    → count Send (ring_at ring) (settled actor h) ≡ count Send (ring_at ring) (own actor h) - bool_byte (is_newest_on Send ring (newest_of (own actor h)))
settled_sends ring actor h = by (own actor h)
  where
    one_less : (b : Bool) (n : ℕ) → n ≡ one_more b n - bool_byte b
    one_less true n = omega arith
    one_less false n = omega arith

    by : (l : History) → count Send (ring_at ring) (drop 1 l) ≡ count Send (ring_at ring) l - bool_byte (is_newest_on Send ring (newest_of l))
    by [] = refl
    by (x ∷ older) =
        one_less (is_on Send (ring_at ring) x.entry) (count Send (ring_at ring) older)
        ∙ ap (λ (n : ℕ). count Send (ring_at ring) (x ∷ older) - bool_byte (is_kind Send x.entry && (x.entry.a == n))) (ring_same ring)

-- ---- the newest entry of an actor

pub last_shows : (s : Shape) (h : History) (actor : Actor) (e : Entry) → newest_of (own actor h) ≡ Some e
    → last_shows_no_more s h (own actor h) ≡ shows_no_more s h e.kind e.a e.b
last_shows s h actor e = by (own actor h)
  where
    by : (l : History) → newest_of l ≡ Some e → last_shows_no_more s h l ≡ shows_no_more s h e.kind e.a e.b
    by [] is = absurd (none-some e is)
    by (x ∷ older) is = let same : x.entry ≡ e = cc in ap (λ (it : Entry). shows_no_more s h it.kind it.a it.b) same
