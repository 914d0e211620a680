-- How far mapping has come.
use Rattle.std.proofs.Common.{◌≡◌, ℕ, suc, ◌<◌, ◌≤◌, ◌^◌, Bool, true, false, cond, List, [], ◌∷◌, ◌++◌, length, refl, sym, ap, subst, ◌∙◌, append_assoc, arith}
use Rattle.std.specs.Prelude.{Result, Ok, Err, IfErr}
use Rattle.std.specs.Result.{IsErrAnd}
use Rattle.urid_map.specs.Numbers.{holds, with_uris}
use Rattle.urid_map.specs.declared.fault.UridFault.{UridFault}
use Rattle.urid_map.specs.declared.fault.UridFault.TheVariants.{Full}
use Rattle.state_file.specs.Ready.{IsStopped, AreMappedBefore}
use Rattle.state_file.specs.Rules.{AreMappedInPart}
use Rattle.state_file.proofs.Held.{mapped-two, mapped-more, mapped_none, mapped-one, longer-one}

nothing-after : {X : Type 0} (xs : List X) → xs ++ [] ≡ xs
nothing-after [] = refl
nothing-after (x ∷ xs) = ap (λ l. x ∷ l) (nothing-after xs)

-- at the beginning
pub before-all : (urids all : List (List ℕ)) → AreMappedBefore urids all all urids
before-all urids all = record { front = []; cut = refl; mapped = sym (mapped_none urids) }

-- some more
pub before-rest : (urids all these rest now next : List (List ℕ)) → AreMappedBefore urids all (these ++ rest) now → next ≡ with_uris now these → AreMappedBefore urids all rest next
before-rest urids all these rest now next so step =
    record { front = so.front ++ these; cut = so.cut ∙ sym (append_assoc so.front these rest); mapped = step ∙ (ap (λ u. with_uris u these) so.mapped ∙ sym (mapped-two urids so.front these)) }

-- at the end
pub before-none : (urids all now : List (List ℕ)) → AreMappedBefore urids all [] now → now ≡ with_uris urids all
before-none urids all now so = so.mapped ∙ ap (with_uris urids) (sym (so.cut ∙ nothing-after so.front))

-- a stop among the next ones is one among all
pub stopped-later : (urids all these rest now new : List (List ℕ)) (fault : UridFault) → AreMappedBefore urids all (these ++ rest) now → IsStopped now these fault new → IsStopped urids all fault new
stopped-later urids all these rest now new fault so stop =
    record { front = so.front ++ stop.front; rest = stop.rest ++ rest; cut = cut; mapped = mapped; full = full }
  where
    cut : all ≡ (so.front ++ stop.front) ++ (stop.rest ++ rest)
    cut = so.cut ∙ (ap (λ l. so.front ++ (l ++ rest)) stop.cut ∙ (ap (λ l. so.front ++ l) (append_assoc stop.front stop.rest rest) ∙ sym (append_assoc so.front stop.front (stop.rest ++ rest))))

    mapped : new ≡ with_uris urids (so.front ++ stop.front)
    mapped = stop.mapped ∙ (ap (λ u. with_uris u stop.front) so.mapped ∙ sym (mapped-two urids so.front stop.front))

    whole : with_uris urids all ≡ with_uris (with_uris now these) rest
    whole = ap (with_uris urids) so.cut ∙ (mapped-two urids so.front (these ++ rest) ∙ (ap (λ u. with_uris u (these ++ rest)) (sym so.mapped) ∙ mapped-two now these rest))

    full : fault ≡ Full → 2 ^ 20 < length (with_uris urids all)
    full e =
        let here : 2 ^ 20 < length (with_uris now these) = stop.full e in
        let more : length (with_uris now these) ≤ length (with_uris (with_uris now these) rest) = mapped-more (with_uris now these) rest in
        subst (λ u. 2 ^ 20 < length u) (sym whole) (omega arith)

-- the first of two parts stops, and the second
pub stopped-first : (urids a b new : List (List ℕ)) (fault : UridFault) → IsStopped urids a fault new → IsStopped urids (a ++ b) fault new
stopped-first urids a b new fault stop = stopped-later urids (a ++ b) a b urids new fault (before-all urids (a ++ b)) stop

pub stopped-second : (urids a b middle new : List (List ℕ)) (fault : UridFault) → middle ≡ with_uris urids a → IsStopped middle b fault new → IsStopped urids (a ++ b) fault new
stopped-second urids a b middle new fault step stop =
    let so : AreMappedBefore urids (a ++ b) b middle = before-rest urids (a ++ b) a b urids middle (before-all urids (a ++ b)) step in
    stopped-later urids (a ++ b) b [] middle new fault (subst (λ l. AreMappedBefore urids (a ++ b) l middle) (sym (nothing-after b)) so) stop

-- a URI that can't be mapped
pub stopped-at : (urids new : List (List ℕ)) (uri : List ℕ) (fault : UridFault) → new ≡ urids → (fault ≡ Full → (length urids ≡ 2 ^ 20) × (holds urids uri ≡ false)) → IsStopped urids (uri ∷ []) fault new
stopped-at urids new uri fault same full =
    record { front = []; rest = uri ∷ []; cut = refl; mapped = same ∙ sym (mapped_none urids); full = λ e. too-many (full e).0 (full e).1 }
  where
    grown : (b : Bool) → b ≡ false → length urids ≡ 2 ^ 20 → 2 ^ 20 < length (cond b urids (urids ++ uri ∷ []))
    grown true h few = cc
    grown false h few = let more : length (urids ++ uri ∷ []) ≡ suc (length urids) = longer-one urids uri in omega arith

    too-many : length urids ≡ 2 ^ 20 → holds urids uri ≡ false → 2 ^ 20 < length (with_uris urids (uri ∷ []))
    too-many few new = subst (λ u. 2 ^ 20 < length u) (sym (mapped-one urids uri)) (grown (holds urids uri) new few)

-- what is told outside
pub part_stopped : (urids uris new : List (List ℕ)) (fault : UridFault) → IsStopped urids uris fault new → AreMappedInPart urids uris new
part_stopped urids uris new fault stop = record { front = stop.front; rest = stop.rest; cut = stop.cut; mapped = stop.mapped }

pub part_none : (urids uris new : List (List ℕ)) → new ≡ urids → AreMappedInPart urids uris new
part_none urids uris new same = record { front = []; rest = uris; cut = refl; mapped = same ∙ sym (mapped_none urids) }

pub part_all : (urids uris new : List (List ℕ)) → new ≡ with_uris urids uris → AreMappedInPart urids uris new
part_all urids uris new e = record { front = uris; rest = []; cut = sym (nothing-after uris); mapped = e }

-- a fault that is passed on
pub passed-on : {A : Type 0} (P : UridFault → Type 0) (r : Result A UridFault) (fault : UridFault) → IsErrAnd r (λ e. e ≡ fault) → P fault → IfErr r P
passed-on P (Ok a) fault is why = absurd is
passed-on P (Err e) fault is why = subst P (sym is) why
