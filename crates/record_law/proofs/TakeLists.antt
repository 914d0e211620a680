-- Tasks that name no take.
use Rattle.std.proofs.Common.{◌≡◌, ℕ, zero, suc, ◌+◌, Bool, true, List, [], ◌∷◌, ◌++◌, map, flat_map, refl}
use Rattle.std.specs.List.{list_all}
use Rattle.std.proofs.lemmas.Bool.{and_parts, and_from}
use Rattle.record_law.specs.declared.shape.ActionKind.{ActionKind}
use Rattle.record_law.specs.declared.shape.ActionKind.TheVariants.{Set, Patch, Save, RestoreSafe, Restore}
use Rattle.record_law.specs.declared.shape.ShapeAction.{ShapeAction}
use Rattle.record_law.specs.Task.{Task, Move}
use Rattle.record_law.specs.Task.Move.{refuses, passes, goes}
use Rattle.record_law.specs.Audio.{times}
use Rattle.record_law.specs.Actions.{finish}
use Rattle.record_law.specs.Control.{finish_from}
use Rattle.record_law.proofs.Takes.{is_no_take}

abbrev pub no_takes : List Task → Bool
no_takes tasks = list_all is_no_take tasks

abbrev pub leaves_none : Move → Bool
leaves_none refuses = true
leaves_none passes = true
leaves_none (goes message tasks) = no_takes tasks

pub none_append : (first second : List Task) → no_takes first ≡ true → no_takes second ≡ true → no_takes (first ++ second) ≡ true
none_append [] second f g = g
none_append (x ∷ first) second f g =
    let both = and_parts (is_no_take x) (no_takes first) f in and_from (is_no_take x) (no_takes (first ++ second)) both.0 (none_append first second both.1 g)

pub none_map : {A : Type 0} (f : A → Task) (xs : List A) → ((x : A) → is_no_take (f x) ≡ true) → no_takes (map f xs) ≡ true
none_map f [] k = refl
none_map f (x ∷ xs) k = and_from (is_no_take (f x)) (no_takes (map f xs)) (k x) (none_map f xs k)

pub none_flat : {A : Type 0} (f : A → List Task) (xs : List A) → ((x : A) → no_takes (f x) ≡ true) → no_takes (flat_map f xs) ≡ true
none_flat f [] k = refl
none_flat f (x ∷ xs) k = none_append (f x) (flat_map f xs) (k x) (none_flat f xs k)

pub none_times : (n : ℕ) (tasks : List Task) → no_takes tasks ≡ true → no_takes (times n tasks) ≡ true
none_times zero tasks k = refl
none_times (suc n) tasks k = none_append tasks (times n tasks) k (none_times n tasks k)

-- ---- what is left of the actions

none_finish : (kind : ActionKind) (k inst : ℕ) → no_takes (finish kind k inst) ≡ true
none_finish Set k inst = refl
none_finish Patch k inst = refl
none_finish Save k inst = refl
none_finish RestoreSafe k inst = refl
none_finish Restore k inst = refl

pub none_finish_from : (k : ℕ) (actions : List ShapeAction) → no_takes (finish_from k actions) ≡ true
none_finish_from k [] = refl
none_finish_from k (it ∷ later) =
    none_append (finish it.kind k it.inst) (finish_from (k + 1) later) (none_finish it.kind k it.inst) (none_finish_from (k + 1) later)
