-- In which order the instances run within a block.
use Rattle.std.specs.Prelude.{◌≡◌, ℕ, ◌<◌, ◌==◌, nat_eq, nat_lt, Bool, true, false, not, ◌&&◌, All, List, take, length, slice_index}
use Rattle.std.specs.List.{list_any, IsDistinct}
use Rattle.session_script.specs.declared.session.CableLine.{CableLine}
use Rattle.graph_order.specs.declared.plan.Plan.{Plan}

-- an instance is one of those that have their place
abbrev pub is_placed : List ℕ → ℕ → Bool
is_placed placed inst = list_any (λ one. inst == one) placed

-- a cable without delay leads to an instance from one that has no place yet
abbrev pub keeps_waiting : List ℕ → ℕ → CableLine → Bool
keeps_waiting placed inst cable = not cable.delayed && (cable.target == inst && not (is_placed placed cable.source))

-- it has no place yet, and all that feed it have theirs
unfoldable pub is_ready : List CableLine → List ℕ → ℕ → Bool
is_ready cables placed inst = not (is_placed placed inst) && not (list_any (keeps_waiting placed inst) cables)

-- the least instance that is ready
pub record IsNext (cables : List CableLine) (count : ℕ) (placed : List ℕ) (inst : ℕ) : Type 0 where
  pub there : inst < count
  pub ready : is_ready cables placed inst ≡ true
  pub least : (other : ℕ) → other < inst → is_ready cables placed other ≡ false

-- at each place stands the least instance that is ready after those before it
pub record IsLeastFirst (cables : List CableLine) (count : ℕ) (order : List ℕ) : Type 0 where
  pub all : length order ≡ count
  pub next : (k : ℕ) → k < count → IsNext cables count (take k order) (slice_index order k)

-- each instance stands once, at its place
pub record IsPlacing (count : ℕ) (plan : Plan) : Type 0 where
  pub orders : length plan.order ≡ count
  pub places : length plan.place ≡ count
  pub placed : (k : ℕ) → k < count → (slice_index plan.order k < count) × (slice_index plan.place (slice_index plan.order k) ≡ k)
  pub ordered : (inst : ℕ) → inst < count → (slice_index plan.place inst < count) × (slice_index plan.order (slice_index plan.place inst) ≡ inst)

-- each instance stands once, after all that feed it
pub record IsLawful (cables : List CableLine) (count : ℕ) (plan : Plan) : Type 0 where
  pub placing : IsPlacing count plan
  pub fed : All (λ (cable : CableLine). cable.delayed ≡ false → slice_index plan.place cable.source < slice_index plan.place cable.target) cables

-- the plan of some cables
pub record IsPlanOf (cables : List CableLine) (count : ℕ) (plan : Plan) : Type 0 where
  pub least : IsLeastFirst cables count plan.order
  pub placing : IsPlacing count plan

-- none is ready
abbrev pub IsStuck : List CableLine → ℕ → List ℕ → Type 0
IsStuck cables count placed = (inst : ℕ) → inst < count → is_ready cables placed inst ≡ false

-- the places tell which instances stand in the order
pub record IsMarking (plan : Plan) : Type 0 where
  pub same : (inst : ℕ) → is_placed plan.order inst ≡ (nat_lt inst (length plan.place) && nat_lt (slice_index plan.place inst) (length plan.place))

-- a plan of the first instances; the others have the place `count`
pub record IsGrowing (cables : List CableLine) (count : ℕ) (plan : Plan) : Type 0 where
  pub marking : IsMarking plan
  pub places : length plan.place ≡ count
  pub next : (k : ℕ) → k < length plan.order → IsNext cables count (take k plan.order) (slice_index plan.order k)
  pub distinct : IsDistinct nat_eq plan.order
  pub placed : (k : ℕ) → k < length plan.order → slice_index plan.place (slice_index plan.order k) ≡ k
  pub ordered : (inst : ℕ) → is_placed plan.order inst ≡ true → (slice_index plan.place inst < length plan.order) × (slice_index plan.order (slice_index plan.place inst) ≡ inst)
