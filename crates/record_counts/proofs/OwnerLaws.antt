-- The owners of parts as a history goes on.
use Rattle.std.proofs.Common.{◌≡◌, ◌⊎◌, ℕ, ◌+◌, ◌<◌, ◌≤◌, ◌==◌, nat_lt, Bool, true, false, ◌&&◌, ◌||◌, cond, List, [], ◌∷◌, length, set, Option, Some, None, refl, sym, ap, ap₂, ◌∙◌, inl, inr, ⊎_elim, eq-eqb, ne_eqb, lt-ltb, le-ltb, arith}
use Rattle.std.specs.Option.{option_map_or}
use Rattle.std.proofs.lemmas.Bool.{and_left, and_right, cond-true, cond-false, cases_eq, cases_lt}
use Rattle.step_law.specs.declared.actor.Actor.{Actor}
use Rattle.step_law.specs.declared.actor.Actor.TheVariants as actor
use Rattle.step_law.specs.declared.call.Call.TheVariants.{Activate}
use Rattle.step_law.specs.declared.entry.Entry.{Entry}
use Rattle.step_law.specs.declared.entry.Kind.{Kind}
use Rattle.step_law.specs.declared.entry.Kind.TheVariants.{Take, Send, End, Join}
use Rattle.step_law.specs.declared.ring.Ring.{Ring}
use Rattle.step_law.specs.Entry.{end_of, join}
use Rattle.step_law.specs.Ring.{ring_number}
use Rattle.record_law.specs.declared.shape.Shape.{Shape}
use Rattle.record_law.specs.Entries.{kind_number, is_by, is_kind, is_on, same_entry}
use Rattle.record_law.specs.Message.{Message, Step, History}
use Rattle.record_law.specs.Message.Message.{nothing, body, notice, input, lend, part, give, save, restore, answer, close}
use Rattle.record_law.specs.Owners.{Part, front, back, inst_of, home_of, ring_away, ring_home, is_part_of, carries, owner_after, owner_of, owns, insts_in}
use Rattle.record_counts.specs.declared.owners.Owner.{Owner}
use Rattle.record_counts.specs.declared.owners.Owner.TheVariants.{Home, Control, Nobody}
use Rattle.record_counts.specs.declared.owners.PartOwners.{PartOwners}
use Rattle.record_counts.specs.Table.{IsTable}
use Rattle.record_counts.specs.Owners.{actor_of, is_carrying, next_owner, owner_at, owners_at, next_owners, TellsOwners}
use Rattle.record_counts.proofs.Tables.{table_set, table_same}

-- ---- the owner in the table is the owner of the rules

actor_of_next : (s : Shape) (it : Part) (x : Step) (o : Owner) → actor_of s it (next_owner s it x o) ≡ owner_after s it x (actor_of s it o)
actor_of_next s it x o =
    by (carries Send (ring_away s it) (inst_of it) x || carries Send (ring_home s it) (inst_of it) x)
    (carries Take (ring_away s it) (inst_of it) x || same_entry join x.entry)
    (carries Take (ring_home s it) (inst_of it) x || same_entry (end_of actor.Control Activate (inst_of it)) x.entry)
  where
    by : (a b c : Bool) → actor_of s it (cond a Nobody (cond b Control (cond c Home o))) ≡ cond a None (cond b (Some actor.Control) (cond c (Some (home_of s it)) (actor_of s it o)))
    by true b c = refl
    by false true c = refl
    by false false true = refl
    by false false false = refl

pub owner_is : (s : Shape) (it : Part) (h : History) → owner_of s it h ≡ actor_of s it (owner_at s it h)
owner_is s it [] = refl
owner_is s it (x ∷ h) = ap (owner_after s it x) (owner_is s it h) ∙ sym (actor_of_next s it x (owner_at s it h))

-- the actor of an entry owns a part, by the table
pub owns_is : (s : Shape) (it : Part) (h : History) (e : Entry) (owner : Owner) → owner ≡ owner_at s it h
    → owns s h e it ≡ option_map_or (λ who. is_by who e) (actor_of s it owner) false
owns_is s it h e owner is = ap (λ (o : Option Actor). option_map_or (λ who. is_by who e) o false) (owner_is s it h ∙ ap (actor_of s it) (sym is))

-- ---- what an entry leaves as it is

pub other_kind : (wanted e : Entry) → is_kind wanted.kind e ≡ false → same_entry wanted e ≡ false
other_kind wanted e other =
    and_left ((e.actor == wanted.actor) && is_kind wanted.kind e && (e.a == wanted.a)) (e.b == wanted.b)
    (and_left ((e.actor == wanted.actor) && is_kind wanted.kind e) (e.a == wanted.a) (and_right (e.actor == wanted.actor) (is_kind wanted.kind e) other))

-- a step neither sends nor takes a part of an instance, nor is it the join or the end of its activation
record IsQuiet (inst : ℕ) (x : Step) : Type 0 where
  sends : (ring : Ring) → carries Send ring inst x ≡ false
  takes : (ring : Ring) → carries Take ring inst x ≡ false
  joins : same_entry join x.entry ≡ false
  ends : same_entry (end_of actor.Control Activate inst) x.entry ≡ false

none_of : (a b : Bool) → a ≡ false → b ≡ false → (a || b) ≡ false
none_of true b x y = x
none_of false b x y = y

quiet_owner : (s : Shape) (it : Part) (x : Step) (o : Owner) → IsQuiet (inst_of it) x → o ≡ next_owner s it x o
quiet_owner s it x o quiet =
    sym
    (cond-false (carries Send (ring_away s it) (inst_of it) x || carries Send (ring_home s it) (inst_of it) x) Nobody _
    (none_of _ _ (quiet.sends (ring_away s it)) (quiet.sends (ring_home s it)))
    ∙ cond-false (carries Take (ring_away s it) (inst_of it) x || same_entry join x.entry) Control _ (none_of _ _ (quiet.takes (ring_away s it)) quiet.joins)
    ∙ cond-false (carries Take (ring_home s it) (inst_of it) x || same_entry (end_of actor.Control Activate (inst_of it)) x.entry) Home o
    (none_of _ _ (quiet.takes (ring_home s it)) quiet.ends))

quiet_owners : (s : Shape) (h : History) (x : Step) (i : ℕ) → IsQuiet i x → owners_at s h i ≡ owners_at s (x ∷ h) i
quiet_owners s h x i quiet =
    ap₂ (λ (a b : Owner). let it : PartOwners = record { front = a; back = b } in it) (quiet_owner s (front i) x (owner_at s (front i) h) quiet)
    (quiet_owner s (back i) x (owner_at s (back i) h) quiet)

-- ---- which instances an entry is quiet for

-- of a kind that isn't one of these
quiet_kind : (i : ℕ) (x : Step) → is_kind Send x.entry ≡ false → is_kind Take x.entry ≡ false → is_kind Join x.entry ≡ false → is_kind End x.entry ≡ false → IsQuiet i x
quiet_kind i x sends takes joins ends = record {
  sends = λ ring. and_left (is_on Send ring x.entry) (is_part_of i x.about) (and_left (is_kind Send x.entry) (x.entry.a == ring_number ring) sends);
  takes = λ ring. and_left (is_on Take ring x.entry) (is_part_of i x.about) (and_left (is_kind Take x.entry) (x.entry.a == ring_number ring) takes);
  joins = other_kind join x.entry joins;
  ends = other_kind (end_of actor.Control Activate i) x.entry ends;
}

no_join : (kind : Kind) → is_carrying kind ≡ true → (kind_number kind == kind_number Join) ≡ false
no_join Send is = refl
no_join Take is = refl
no_join kind is = absurd (cc is)

no_end : (kind : Kind) → is_carrying kind ≡ true → (kind_number kind == kind_number End) ≡ false
no_end Send is = refl
no_end Take is = refl
no_end kind is = absurd (cc is)

-- of a message that is no part of it
quiet_part : (i : ℕ) (x : Step) → is_carrying x.entry.kind ≡ true → is_part_of i x.about ≡ false → IsQuiet i x
quiet_part i x is none = record {
  sends = λ ring. and_right (is_on Send ring x.entry) (is_part_of i x.about) none;
  takes = λ ring. and_right (is_on Take ring x.entry) (is_part_of i x.about) none;
  joins = other_kind join x.entry (no_join x.entry.kind is);
  ends = other_kind (end_of actor.Control Activate i) x.entry (no_end x.entry.kind is);
}

-- of the end of a call on another
quiet_end : (i : ℕ) (x : Step) → x.entry.kind ≡ End → (i ≡ x.entry.b → ⊥) → IsQuiet i x
quiet_end i x is other = record {
  sends = λ ring. and_left (is_on Send ring x.entry) (is_part_of i x.about) (and_left (is_kind Send x.entry) (x.entry.a == ring_number ring) (ap (λ (k : Kind). kind_number k == kind_number Send) is));
  takes = λ ring. and_left (is_on Take ring x.entry) (is_part_of i x.about) (and_left (is_kind Take x.entry) (x.entry.a == ring_number ring) (ap (λ (k : Kind). kind_number k == kind_number Take) is));
  joins = other_kind join x.entry (ap (λ (k : Kind). kind_number k == kind_number Join) is);
  ends = and_right ((x.entry.actor == 1) && is_kind End x.entry && (x.entry.a == 7)) (x.entry.b == i) (ne_eqb x.entry.b i (λ same. other (sym same)));
}

no_part : (m : Message) (i : ℕ) → insts_in m ≡ [] → is_part_of i m ≡ false
no_part (part inst) i none = absurd (cc none)
no_part (give inst) i none = absurd (cc none)
no_part nothing i none = refl
no_part body i none = refl
no_part (notice inst) i none = refl
no_part (input action) i none = refl
no_part (lend inst) i none = refl
no_part (save action inst) i none = refl
no_part (restore action inst) i none = refl
no_part (answer action) i none = refl
no_part close i none = refl

other_part : (m : Message) (inst i : ℕ) → insts_in m ≡ inst ∷ [] → (i ≡ inst → ⊥) → is_part_of i m ≡ false
other_part (part other) inst i one differs = let same : other ≡ inst = cc one in ne_eqb other i (λ e. differs (sym e ∙ same))
other_part (give other) inst i one differs = let same : other ≡ inst = cc one in ne_eqb other i (λ e. differs (sym e ∙ same))
other_part nothing inst i one differs = refl
other_part body inst i one differs = refl
other_part (notice other) inst i one differs = refl
other_part (input action) inst i one differs = refl
other_part (lend other) inst i one differs = refl
other_part (save action other) inst i one differs = refl
other_part (restore action other) inst i one differs = refl
other_part (answer action) inst i one differs = refl
other_part close inst i one differs = refl

-- ---- the table goes on

-- a table that goes on at one place
abbrev pub at_one : Shape → Step → ℕ → (ℕ → PartOwners) → ℕ → PartOwners
at_one s x inst f i = cond (i == inst) (next_owners s x i (f i)) (f i)

pub put_one : (s : Shape) (x : Step) (inst : ℕ) (f : ℕ → PartOwners) (owners : List PartOwners) (now : PartOwners) → IsTable f owners
    → (inst < length owners → now ≡ next_owners s x inst (f inst)) → IsTable (at_one s x inst f) (set owners inst now)
put_one s x inst f owners now table here =
    table_set f (at_one s x inst f) owners inst now table
    (λ within. here within ∙ sym (cond-true (inst == inst) (next_owners s x inst (f inst)) (f inst) (eq-eqb inst inst refl)))
    (λ i other. sym (cond-false (i == inst) (next_owners s x i (f i)) (f i) (ne_eqb i inst other)))

one_or_quiet : (s : Shape) (h : History) (x : Step) (inst : ℕ) → ((i : ℕ) → (i ≡ inst → ⊥) → IsQuiet i x) → (i : ℕ)
    → at_one s x inst (owners_at s h) i ≡ owners_at s (x ∷ h) i
one_or_quiet s h x inst quiet i =
    ⊎_elim
    (λ same. cond-true (i == inst) (owners_at s (x ∷ h) i) (owners_at s h i) (eq-eqb i inst same))
    (λ other. cond-false (i == inst) (owners_at s (x ∷ h) i) (owners_at s h i) (ne_eqb i inst other) ∙ quiet_owners s h x i (quiet i other))
    (cases_eq i inst)

module _ (s : Shape) (h : History) (x : Step) (owners : List PartOwners) (told : TellsOwners s h owners) where
  one_goes_on : (inst : ℕ) (now : List PartOwners) → IsTable (at_one s x inst (owners_at s h)) now → length now ≡ length owners
      → ((i : ℕ) → (i ≡ inst → ⊥) → IsQuiet i x) → TellsOwners s (x ∷ h) now
  one_goes_on inst now table same quiet = record {
    each = table_same (at_one s x inst (owners_at s h)) (owners_at s (x ∷ h)) now table (one_or_quiet s h x inst quiet);
    all = same ∙ told.all;
  }

  pub carried : (inst : ℕ) (now : List PartOwners) → is_carrying x.entry.kind ≡ true → insts_in x.about ≡ inst ∷ []
      → IsTable (at_one s x inst (owners_at s h)) now → length now ≡ length owners → TellsOwners s (x ∷ h) now
  carried inst now is one table same = one_goes_on inst now table same (λ i other. quiet_part i x is (other_part x.about inst i one other))

  pub not_carried : is_carrying x.entry.kind ≡ true → insts_in x.about ≡ [] → TellsOwners s (x ∷ h) owners
  not_carried is none = record {
    each = table_same (owners_at s h) (owners_at s (x ∷ h)) owners told.each (λ i. quiet_owners s h x i (quiet_part i x is (no_part x.about i none)));
    all = told.all;
  }

  pub ended : (now : List PartOwners) → x.entry.kind ≡ End → IsTable (at_one s x x.entry.b (owners_at s h)) now → length now ≡ length owners → TellsOwners s (x ∷ h) now
  ended now is table same = one_goes_on x.entry.b now table same (λ i other. quiet_end i x is other)

  pub passed : is_kind Send x.entry ≡ false → is_kind Take x.entry ≡ false → is_kind Join x.entry ≡ false → is_kind End x.entry ≡ false → TellsOwners s (x ∷ h) owners
  passed sends takes joins ends = record {
    each = table_same (owners_at s h) (owners_at s (x ∷ h)) owners told.each (λ i. quiet_owners s h x i (quiet_kind i x sends takes joins ends));
    all = told.all;
  }

-- ---- a table that goes on at all places

-- it has gone on below a place
abbrev pub below : Shape → Step → ℕ → (ℕ → PartOwners) → ℕ → PartOwners
below s x k f i = cond (nat_lt i k) (next_owners s x i (f i)) (f i)

one_more_place : (s : Shape) (x : Step) (k : ℕ) (f : ℕ → PartOwners) (i : ℕ) → at_one s x k (below s x k f) i ≡ below s x (k + 1) f i
one_more_place s x k f i = by (cases_lt i k) (cases_eq i k)
  where
    by : ((i < k) ⊎ (k ≤ i)) → ((i ≡ k) ⊎ (i ≡ k → ⊥)) → at_one s x k (below s x k f) i ≡ below s x (k + 1) f i
    by low (inl same) =
        cond-true (i == k) (next_owners s x i (below s x k f i)) (below s x k f i) (eq-eqb i k same)
        ∙ ap (next_owners s x i) (cond-false (nat_lt i k) (next_owners s x i (f i)) (f i) (le-ltb i k (omega (arith, same))))
        ∙ sym (cond-true (nat_lt i (k + 1)) (next_owners s x i (f i)) (f i) (lt-ltb i (k + 1) (omega (arith, same))))
    by (inl less) (inr other) =
        cond-false (i == k) (next_owners s x i (below s x k f i)) (below s x k f i) (ne_eqb i k other)
        ∙ cond-true (nat_lt i k) (next_owners s x i (f i)) (f i) (lt-ltb i k less)
        ∙ sym (cond-true (nat_lt i (k + 1)) (next_owners s x i (f i)) (f i) (lt-ltb i (k + 1) (omega (arith, less))))
    by (inr least) (inr other) =
        cond-false (i == k) (next_owners s x i (below s x k f i)) (below s x k f i) (ne_eqb i k other)
        ∙ cond-false (nat_lt i k) (next_owners s x i (f i)) (f i) (le-ltb i k least)
        ∙ sym (cond-false (nat_lt i (k + 1)) (next_owners s x i (f i)) (f i) (le-ltb i (k + 1) (omega (arith, least, other))))

pub one_more : (s : Shape) (x : Step) (k : ℕ) (f : ℕ → PartOwners) (now : List PartOwners) → IsTable (at_one s x k (below s x k f)) now → IsTable (below s x (k + 1) f) now
one_more s x k f now table = table_same (at_one s x k (below s x k f)) (below s x (k + 1) f) now table (one_more_place s x k f)
