-- A part is one thing: it has one owner, or one message carries it.
use Rattle.std.proofs.Common.{◌≡◌, ◌⊎◌, ℕ, zero, suc, ◌+◌, ◌<◌, ◌≤◌, ◌==◌, nat_lt, nat_eq, Bool, true, false, ◌&&◌, ◌||◌, cond, List, [], ◌∷◌, ◌++◌, map, drop, length, Option, Some, None, refl, sym, ap, ap₂, subst, subst₂, ◌∙◌, inl, inr, ⊎_elim, arith, true≢false, eqb-true, ne_eqb, ltb-true}
use Rattle.std.specs.List.{list_all}
use Rattle.std.specs.Option.{option_map_or}
use Rattle.std.proofs.lemmas.Bool.{and_parts, and_left, and_right, or_parts, cases_Bool, false_from_ne_true}
use Rattle.step_law.specs.declared.actor.Actor.{Actor}
use Rattle.step_law.specs.declared.actor.Actor.TheVariants.{Control}
use Rattle.step_law.specs.declared.call.Call.TheVariants.{Activate}
use Rattle.step_law.specs.declared.entry.Entry.{Entry}
use Rattle.step_law.specs.declared.entry.Kind.{Kind}
use Rattle.step_law.specs.declared.entry.Kind.TheVariants.{Take, Send, End}
use Rattle.step_law.specs.declared.ring.Ring.{Ring}
use Rattle.step_law.specs.Entry.{join, end_of}
use Rattle.step_law.specs.Form.{is_ring, is_worker}
use Rattle.step_law.specs.Ring.{ring_number, ring_at}
use Rattle.step_law.proofs.EventLaws.{ring_back}
use Rattle.record_law.specs.declared.shape.Shape.{Shape}
use Rattle.record_law.specs.Entries.{kind_number, is_by, is_kind, is_on, same_entry}
use Rattle.record_law.specs.Message.{Message, Step, History}
use Rattle.record_law.specs.Message.Message.{part, give}
use Rattle.record_law.specs.History.{one_more, count, put_last, sent_on, message_at, next_on, waiting, has}
use Rattle.record_law.specs.Shape.{worker_of}
use Rattle.record_law.specs.Room.{finds_message}
use Rattle.record_law.specs.Owners.{Part, inst_of, home_of, ring_away, ring_home, is_part_of, owner_after, owner_of, owns, insts_in, parts_in, parts_needed, owns_all}
use Rattle.record_law.specs.Owners.Part.{front, back}
use Rattle.record_law.specs.Tokens.{untaken, carrying, on_its_way, KeepsOwners, messages_of, PartsAreTokens}
use Rattle.record_law.proofs.Same.{same_kind, same_means}

-- ---- lists

carrying_append : (inst : ℕ) (xs : List Message) (m : Message) → carrying inst (xs ++ m ∷ []) ≡ carrying inst xs + carrying inst (m ∷ [])
carrying_append inst [] m = omega arith
carrying_append inst (x ∷ xs) m = by (is_part_of inst x) (carrying_append inst xs m)
  where
    by : (b : Bool) → carrying inst (xs ++ m ∷ []) ≡ carrying inst xs + carrying inst (m ∷ [])
        → one_more b (carrying inst (xs ++ m ∷ [])) ≡ one_more b (carrying inst xs) + carrying inst (m ∷ [])
    by true e = omega (arith, e)
    by false e = e

drop_append : (k : ℕ) (xs : List Message) (m : Message) → k ≤ length xs → drop k (xs ++ m ∷ []) ≡ drop k xs ++ m ∷ []
drop_append zero xs m h = refl
drop_append (suc k) [] m h = absurd (omega (arith, h))
drop_append (suc k) (x ∷ xs) m h = drop_append k xs m (omega (arith, h))

drop_next : (k : ℕ) (xs : List Message) → k < length xs → drop k xs ≡ message_at xs k ∷ drop (suc k) xs
drop_next zero [] h = absurd (omega (arith, h))
drop_next (suc k) [] h = absurd (omega (arith, h))
drop_next zero (x ∷ xs) h = refl
drop_next (suc k) (x ∷ xs) h = drop_next k xs (omega (arith, h))

length_push : (xs : List Message) (m : Message) → length (xs ++ m ∷ []) ≡ suc (length xs)
length_push [] m = refl
length_push (x ∷ xs) m = ap suc (length_push xs m)

-- ---- counts of a ring

length_sent : (ring : Ring) (h : History) → length (sent_on ring h) ≡ count Send ring h
length_sent ring [] = refl
length_sent ring (x ∷ h) = by (is_on Send ring x.entry) (length_sent ring h)
  where
    by : (b : Bool) → length (sent_on ring h) ≡ count Send ring h → length (put_last b x.about (sent_on ring h)) ≡ one_more b (count Send ring h)
    by true e = length_push (sent_on ring h) x.about ∙ ap suc e
    by false e = e

-- an entry of one kind is of no other, and one on a ring is on no other
pub other_kind : (kind also : Kind) (ring ring' : Ring) (e : Entry) → (kind_number kind ≡ kind_number also → ⊥) → is_on kind ring e ≡ true → is_on also ring' e ≡ false
other_kind kind also ring ring' e differ is =
    let k = eqb-true (kind_number e.kind) (kind_number kind) (and_parts (is_kind kind e) (e.a == ring_number ring) is).0 in
    and_left (is_kind also e) (e.a == ring_number ring') (ne_eqb (kind_number e.kind) (kind_number also) (λ other. differ (sym k ∙ other)))

pub other_ring : (kind also : Kind) (ring ring' : Ring) (e : Entry) → (ring_number ring ≡ ring_number ring' → ⊥) → is_on kind ring e ≡ true → is_on also ring' e ≡ false
other_ring kind also ring ring' e differ is =
    let a = eqb-true e.a (ring_number ring) (and_parts (is_kind kind e) (e.a == ring_number ring) is).1 in
    and_right (is_kind also e) (e.a == ring_number ring') (ne_eqb e.a (ring_number ring') (λ other. differ (sym a ∙ other)))

-- an entry on a ring is of that kind, and names that ring
pub kind_of_on : (kind : Kind) (ring : Ring) (e : Entry) → is_on kind ring e ≡ true → kind_number e.kind ≡ kind_number kind
kind_of_on kind ring e is = eqb-true (kind_number e.kind) (kind_number kind) (and_parts (is_kind kind e) (e.a == ring_number ring) is).0

count_yes : (kind : Kind) (ring : Ring) (x : Step) (h : History) → is_on kind ring x.entry ≡ true → count kind ring (x ∷ h) ≡ suc (count kind ring h)
count_yes kind ring x h e = ap (λ b. one_more b (count kind ring h)) e

count_no : (kind : Kind) (ring : Ring) (x : Step) (h : History) → is_on kind ring x.entry ≡ false → count kind ring (x ∷ h) ≡ count kind ring h
count_no kind ring x h e = ap (λ b. one_more b (count kind ring h)) e

count_more : (kind : Kind) (ring : Ring) (x : Step) (h : History) → count kind ring h ≤ count kind ring (x ∷ h)
count_more kind ring x h =
    ⊎_elim (λ yes_on. let e = count_yes kind ring x h yes_on in omega (arith, e)) (λ no_on. let e = count_no kind ring x h no_on in omega (arith, e))
    (cases_Bool (is_on kind ring x.entry))

-- a take on a ring finds a message there
found : (ring : Ring) (x : Step) (h : History) → is_ring ring ≡ true → is_on Take ring x.entry ≡ true → finds_message h x.entry.kind x.entry.a ≡ true
    → count Take ring h < count Send ring h
found ring x h there is finds =
    let both = and_parts (is_kind Take x.entry) (x.entry.a == ring_number ring) is in
    let kind = same_kind x.entry.kind Take (eqb-true (kind_number x.entry.kind) (kind_number Take) both.0) in
    let a = eqb-true x.entry.a (ring_number ring) both.1 in
    let at : nat_lt 0 (waiting (ring_at (ring_number ring)) h) ≡ true = subst₂ (λ k n. finds_message h k n ≡ true) kind a finds in
    let some : 0 < waiting ring h = ltb-true 0 (waiting ring h) (subst (λ r. nat_lt 0 (waiting r h) ≡ true) (ring_back ring there) at) in
    omega (arith, some)

-- no more is taken than was sent
within : (s : Shape) (ring : Ring) (h : History) → is_ring ring ≡ true → KeepsOwners s h → count Take ring h ≤ count Send ring h
within s ring [] there k = omega arith
within s ring (x ∷ h) there k =
    ⊎_elim
    (λ take. let e = count_yes Take ring x h take in let less = found ring x h there take k.0 in let more = count_more Send ring x h in omega (arith, e, less, more))
    (λ none. let e = count_no Take ring x h none in let before = within s ring h there k.2 in let more = count_more Send ring x h in omega (arith, e, before, more))
    (cases_Bool (is_on Take ring x.entry))

-- ---- what is on its way on a ring

abbrev weight : Bool → ℕ
weight p = one_more p 0

module _ (inst : ℕ) (ring : Ring) (x : Step) (h : History) where
  abbrev now : ℕ
  now = carrying inst (untaken ring (x ∷ h))

  abbrev older : ℕ
  older = carrying inst (untaken ring h)

  way_send : count Take ring h ≤ count Send ring h → is_on Send ring x.entry ≡ true → now ≡ older + weight (is_part_of inst x.about)
  way_send enough is =
      let take : is_on Take ring x.entry ≡ false = other_kind Send Take ring ring x.entry (λ e. absurd (omega (arith, e))) is in
      let len = length_sent ring h in
      let fits : count Take ring h ≤ length (sent_on ring h) = omega (arith, len, enough) in
      let same : untaken ring (x ∷ h) ≡ untaken ring h ++ x.about ∷ [] =
      ap₂ (λ b c. drop (one_more b (count Take ring h)) (put_last c x.about (sent_on ring h))) take is ∙ drop_append (count Take ring h) (sent_on ring h) x.about fits in
      ap (carrying inst) same ∙ carrying_append inst (untaken ring h) x.about

  way_take : count Take ring h < count Send ring h → is_on Take ring x.entry ≡ true → x.about ≡ next_on ring h → older ≡ now + weight (is_part_of inst x.about)
  way_take some is turn =
      let send : is_on Send ring x.entry ≡ false = other_kind Take Send ring ring x.entry (λ e. absurd (omega (arith, e))) is in
      let len = length_sent ring h in
      let fits : count Take ring h < length (sent_on ring h) = omega (arith, len, some) in
      let same : untaken ring (x ∷ h) ≡ drop (suc (count Take ring h)) (sent_on ring h) =
      ap₂ (λ b c. drop (one_more b (count Take ring h)) (put_last c x.about (sent_on ring h))) is send in
      let split : untaken ring h ≡ x.about ∷ untaken ring (x ∷ h) =
      drop_next (count Take ring h) (sent_on ring h) fits ∙ ap₂ (λ (m : Message) (l : List Message). m ∷ l) (sym turn) (sym same) in
      ap (carrying inst) split ∙ add_weight (is_part_of inst x.about) now
    where
      add_weight : (b : Bool) (n : ℕ) → one_more b n ≡ n + weight b
      add_weight true n = omega arith
      add_weight false n = omega arith

  way_none : is_on Send ring x.entry ≡ false → is_on Take ring x.entry ≡ false → now ≡ older
  way_none send take = ap (carrying inst) (ap₂ (λ b c. drop (one_more b (count Take ring h)) (put_last c x.about (sent_on ring h))) take send)

-- ---- owners

abbrev like : Part → ℕ → Part
like (front inst) other = front other
like (back inst) other = back other

like_itself : (it : Part) → like it (inst_of it) ≡ it
like_itself (front inst) = refl
like_itself (back inst) = refl

parts_away : (s : Shape) (it : Part) (about : Message) → parts_in (ring_away s it) about ≡ map (like it) (insts_in about)
parts_away s (front inst) about = refl
parts_away s (back inst) about = refl

parts_home : (s : Shape) (it : Part) (about : Message) → parts_in (ring_home s it) about ≡ map (like it) (insts_in about)
parts_home s (front inst) about = refl
parts_home s (back inst) about = refl

owned : (s : Shape) (h : History) (e : Entry) (it : Part) → owns s h e it ≡ true → messages_of (owner_of s it h) ≡ 0
owned s h e it = by (owner_of s it h)
  where
    by : (o : Option Actor) → option_map_or (λ owner. is_by owner e) o false ≡ true → messages_of o ≡ 0
    by None k = absurd (true≢false (sym k))
    by (Some owner) k = refl

owns_one : (s : Shape) (h : History) (e : Entry) (it : Part) (other : ℕ) → nat_eq other (inst_of it) ≡ true → list_all (owns s h e) (like it other ∷ []) ≡ true
    → messages_of (owner_of s it h) ≡ 0
owns_one s h e it other same k =
    let here = (and_parts (owns s h e (like it other)) true k).0 in
    owned s h e it (subst (λ p. owns s h e p ≡ true) (ap (like it) (eqb-true other (inst_of it) same) ∙ like_itself it) here)

owns_carried : (s : Shape) (h : History) (e : Entry) (it : Part) (about : Message) → is_part_of (inst_of it) about ≡ true
    → list_all (owns s h e) (map (like it) (insts_in about)) ≡ true → messages_of (owner_of s it h) ≡ 0
owns_carried s h e it (part other) is k = owns_one s h e it other is k
owns_carried s h e it (give other) is k = owns_one s h e it other is k
owns_carried s h e it about is k = absurd (true≢false (sym is))

-- who sends a part owns it
sender_owns : (s : Shape) (it : Part) (ring : Ring) (x : Step) (h : History) → is_ring ring ≡ true → parts_in ring x.about ≡ map (like it) (insts_in x.about)
    → is_on Send ring x.entry ≡ true → is_part_of (inst_of it) x.about ≡ true → owns_all s h x.entry x.about ≡ true → messages_of (owner_of s it h) ≡ 0
sender_owns s it ring x h there parts is carried k =
    let both = and_parts (is_kind Send x.entry) (x.entry.a == ring_number ring) is in
    let kind = same_kind x.entry.kind Send (eqb-true (kind_number x.entry.kind) (kind_number Send) both.0) in
    let a = eqb-true x.entry.a (ring_number ring) both.1 in
    let needed : parts_needed x.entry.kind x.entry.a x.entry.b x.about ≡ parts_in (ring_at (ring_number ring)) x.about =
    (λ i. parts_needed (kind i) (a i) x.entry.b x.about) in
    let all : list_all (owns s h x.entry) (map (like it) (insts_in x.about)) ≡ true =
    subst (λ l. list_all (owns s h x.entry) l ≡ true) (needed ∙ ap (λ r. parts_in r x.about) (ring_back ring there) ∙ parts) k in
    owns_carried s h x.entry it x.about carried all

-- control owns what it activates
opener_owns : (s : Shape) (it : Part) (x : Step) (h : History) → x.entry ≡ end_of Control Activate (inst_of it) → owns_all s h x.entry x.about ≡ true
    → messages_of (owner_of s it h) ≡ 0
opener_owns s (front inst) x h same k =
    let e : Entry = end_of Control Activate inst in
    let all : list_all (owns s h e) (front inst ∷ back inst ∷ []) ≡ true = subst (λ it. owns_all s h it x.about ≡ true) same k in
    owned s h e (front inst) (and_parts (owns s h e (front inst)) (owns s h e (back inst) && true) all).0
opener_owns s (back inst) x h same k =
    let e : Entry = end_of Control Activate inst in
    let all : list_all (owns s h e) (front inst ∷ back inst ∷ []) ≡ true = subst (λ it. owns_all s h it x.about ≡ true) same k in
    owned s h e (back inst) (and_parts (owns s h e (back inst)) true (and_parts (owns s h e (front inst)) (owns s h e (back inst) && true) all).1).0

-- ---- one step

-- what a step makes of the owner, by its tests
abbrev picked : (away home taken_away taken_home carried joins opens : Bool) → Actor → Option Actor → Option Actor
picked away home taken_away taken_home carried joins opens at_home before =
    cond ((away && carried) || (home && carried)) None
    (cond ((taken_away && carried) || joins) (Some Control) (cond ((taken_home && carried) || opens) (Some at_home) before))

messages_within : (o : Option Actor) → messages_of o ≤ 1
messages_within None = omega arith
messages_within (Some owner) = omega arith

rings_differ : (s : Shape) (it : Part) → ring_number (ring_away s it) ≡ ring_number (ring_home s it) → ⊥
rings_differ s (front inst) e = absurd (omega (arith, e))
rings_differ s (back inst) e = absurd (omega (arith, e))

away_there : (s : Shape) (it : Part) → is_worker (worker_of s (inst_of it)) ≡ true → is_ring (ring_away s it) ≡ true
away_there s (front inst) w = refl
away_there s (back inst) w = w

home_there : (s : Shape) (it : Part) → is_worker (worker_of s (inst_of it)) ≡ true → is_ring (ring_home s it) ≡ true
home_there s (front inst) w = refl
home_there s (back inst) w = w

module _ (s : Shape) (it : Part) (x : Step) (h : History) (worker : is_worker (worker_of s (inst_of it)) ≡ true)
    (turn : is_kind Take x.entry ≡ true → x.about ≡ next_on (ring_at x.entry.a) h)
    (finds : finds_message h x.entry.kind x.entry.a ≡ true) (owners : owns_all s h x.entry x.about ≡ true) (kept : KeepsOwners s h)
    (no_join : same_entry join x.entry ≡ false) (before : on_its_way s it h ≡ messages_of (owner_of s it h)) where
  abbrev away : Ring
  away = ring_away s it

  abbrev home : Ring
  home = ring_home s it

  abbrev inst : ℕ
  inst = inst_of it

  abbrev carried : Bool
  carried = is_part_of inst x.about

  abbrev opening_end : Entry
  opening_end = end_of Control Activate inst

  abbrev Goal : Type 0
  Goal = on_its_way s it (x ∷ h) ≡ messages_of (owner_after s it x (owner_of s it h))

  -- the owner after the step, where its tests are known
  owner_is : (a b c d p o : Bool) → is_on Send away x.entry ≡ a → is_on Send home x.entry ≡ b → is_on Take away x.entry ≡ c → is_on Take home x.entry ≡ d
      → carried ≡ p → same_entry opening_end x.entry ≡ o
      → owner_after s it x (owner_of s it h) ≡ picked a b c d p false o (home_of s it) (owner_of s it h)
  owner_is a b c d p o ea eb ec ed ep eo = λ i. picked (ea i) (eb i) (ec i) (ed i) (ep i) (no_join i) (eo i) (home_of s it) (owner_of s it h)

  -- an entry of another kind doesn't end an activation
  no_opening : (kind : Kind) (ring : Ring) → (kind_number kind ≡ kind_number End → ⊥) → is_on kind ring x.entry ≡ true → same_entry opening_end x.entry ≡ false
  no_opening kind ring differ is =
      false_from_ne_true (same_entry opening_end x.entry)
      (λ same. differ (sym (kind_of_on kind ring x.entry is) ∙ ap (λ (e : Entry). kind_number e.kind) (same_means opening_end x.entry same)))

  turn_on : (ring : Ring) → is_ring ring ≡ true → is_on Take ring x.entry ≡ true → x.about ≡ next_on ring h
  turn_on ring there is =
      let both = and_parts (is_kind Take x.entry) (x.entry.a == ring_number ring) is in
      let a = eqb-true x.entry.a (ring_number ring) both.1 in
      turn both.0 ∙ ap (λ r. next_on r h) (ap ring_at a ∙ ring_back ring there)

  -- a part is sent, from home or back
  send_away : is_on Send away x.entry ≡ true → Goal
  send_away is =
      let there = away_there s it worker in
      let b = other_ring Send Send away home x.entry (rings_differ s it) is in
      let c = other_kind Send Take away away x.entry (λ e. absurd (omega (arith, e))) is in
      let d = other_kind Send Take away home x.entry (λ e. absurd (omega (arith, e))) is in
      let o = no_opening Send away (λ e. absurd (omega (arith, e))) is in
      let here = way_send inst away x h (within s away h there kept) is in
      let other = way_none inst home x h b d in
      ⊎_elim
      (λ p.
      let owner = ap messages_of (owner_is true false false false true false is b c d p o) in
      let none = sender_owns s it away x h there (parts_away s it x.about) is p owners in
      let w = ap weight p in
      omega (arith, here, other, before, none, w, owner))
      (λ p.
      let owner = ap messages_of (owner_is true false false false false false is b c d p o) in
      let w = ap weight p in
      omega (arith, here, other, before, w, owner))
      (cases_Bool carried)

  send_home : is_on Send home x.entry ≡ true → Goal
  send_home is =
      let there = home_there s it worker in
      let a = other_ring Send Send home away x.entry (λ e. rings_differ s it (sym e)) is in
      let c = other_kind Send Take home away x.entry (λ e. absurd (omega (arith, e))) is in
      let d = other_kind Send Take home home x.entry (λ e. absurd (omega (arith, e))) is in
      let o = no_opening Send home (λ e. absurd (omega (arith, e))) is in
      let here = way_send inst home x h (within s home h there kept) is in
      let other = way_none inst away x h a c in
      ⊎_elim
      (λ p.
      let owner = ap messages_of (owner_is false true false false true false a is c d p o) in
      let none = sender_owns s it home x h there (parts_home s it x.about) is p owners in
      let w = ap weight p in
      omega (arith, here, other, before, none, w, owner))
      (λ p.
      let owner = ap messages_of (owner_is false true false false false false a is c d p o) in
      let w = ap weight p in
      omega (arith, here, other, before, w, owner))
      (cases_Bool carried)

  -- a part is taken
  take_away : is_on Take away x.entry ≡ true → Goal
  take_away is =
      let there = away_there s it worker in
      let a = other_kind Take Send away away x.entry (λ e. absurd (omega (arith, e))) is in
      let b = other_kind Take Send away home x.entry (λ e. absurd (omega (arith, e))) is in
      let d = other_ring Take Take away home x.entry (rings_differ s it) is in
      let o = no_opening Take away (λ e. absurd (omega (arith, e))) is in
      let here = way_take inst away x h (found away x h there is finds) is (turn_on away there is) in
      let other = way_none inst home x h b d in
      let most = messages_within (owner_of s it h) in
      ⊎_elim
      (λ p. let owner = ap messages_of (owner_is false false true false true false a b is d p o) in let w = ap weight p in omega (arith, here, other, before, most, w, owner))
      (λ p. let owner = ap messages_of (owner_is false false true false false false a b is d p o) in let w = ap weight p in omega (arith, here, other, before, w, owner))
      (cases_Bool carried)

  take_home : is_on Take home x.entry ≡ true → Goal
  take_home is =
      let there = home_there s it worker in
      let a = other_kind Take Send home away x.entry (λ e. absurd (omega (arith, e))) is in
      let b = other_kind Take Send home home x.entry (λ e. absurd (omega (arith, e))) is in
      let c = other_ring Take Take home away x.entry (λ e. rings_differ s it (sym e)) is in
      let o = no_opening Take home (λ e. absurd (omega (arith, e))) is in
      let here = way_take inst home x h (found home x h there is finds) is (turn_on home there is) in
      let other = way_none inst away x h a c in
      let most = messages_within (owner_of s it h) in
      ⊎_elim
      (λ p. let owner = ap messages_of (owner_is false false false true true false a b c is p o) in let w = ap weight p in omega (arith, here, other, before, most, w, owner))
      (λ p. let owner = ap messages_of (owner_is false false false true false false a b c is p o) in let w = ap weight p in omega (arith, here, other, before, w, owner))
      (cases_Bool carried)

  -- nothing goes through the part's rings
  stays : (a : is_on Send away x.entry ≡ false) (b : is_on Send home x.entry ≡ false) (c : is_on Take away x.entry ≡ false) (d : is_on Take home x.entry ≡ false) → Goal
  stays a b c d =
      let here = way_none inst away x h a c in
      let other = way_none inst home x h b d in
      ⊎_elim
      (λ o.
      let owner = ap messages_of (after_opening o (cases_Bool carried)) in
      let none = opener_owns s it x h (same_means opening_end x.entry o) owners in
      omega (arith, here, other, before, none, owner))
      (λ o. let owner = ap messages_of (unchanged o (cases_Bool carried)) in omega (arith, here, other, before, owner))
      (cases_Bool (same_entry opening_end x.entry))
    where
      after_opening : same_entry opening_end x.entry ≡ true → (carried ≡ true) ⊎ (carried ≡ false) → owner_after s it x (owner_of s it h) ≡ Some (home_of s it)
      after_opening o (inl p) = owner_is false false false false true true a b c d p o
      after_opening o (inr p) = owner_is false false false false false true a b c d p o

      unchanged : same_entry opening_end x.entry ≡ false → (carried ≡ true) ⊎ (carried ≡ false) → owner_after s it x (owner_of s it h) ≡ owner_of s it h
      unchanged o (inl p) = owner_is false false false false true false a b c d p o
      unchanged o (inr p) = owner_is false false false false false false a b c d p o

  one_step : Goal
  one_step =
      ⊎_elim send_away
      (λ a. ⊎_elim send_home
      (λ b. ⊎_elim take_away
      (λ c. ⊎_elim take_home
      (λ d. stays a b c d)
      (cases_Bool (is_on Take home x.entry))) (cases_Bool (is_on Take away x.entry))) (cases_Bool (is_on Send home x.entry)))
      (cases_Bool (is_on Send away x.entry))

pub parts_are_tokens : PartsAreTokens
parts_are_tokens s it [] worker turns kept no_join = refl
parts_are_tokens s it (x ∷ h) worker turns kept no_join =
    let joins = or_parts (same_entry join x.entry) (has join h) no_join in
    one_step s it x h worker turns.0 kept.0 kept.1 kept.2 joins.0 (parts_are_tokens s it h worker turns.1 kept.2 joins.1)
