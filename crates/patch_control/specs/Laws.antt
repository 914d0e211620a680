-- The laws of messages.
use Rattle.std.specs.Prelude.{◌≡◌, ◌≢◌, ℕ, List, Ok}
use Rattle.atom_core.specs.Value.{object, Lead, Value, holding, Parts, part}
use Rattle.patch_control.specs.declared.value.Value.{Value as Number}
use Rattle.patch_control.specs.Message.{get, set, put, message_of}
use Rattle.patch_control.specs.Written.{value_of, body_with, get_object, set_object, put_object}

-- the same properties, but that two beside each other have changed places
pub data Swapped : Parts → Parts → Type 0 where
  here : (l m : Lead) (v w : Value) (parts : Parts) → Swapped (part l v (part m w parts)) (part m w (part l v parts))
  later : (l : Lead) (v : Value) (old new : Parts) → Swapped old new → Swapped (part l v old) (part l v new)

-- an object says the same
abbrev pub AnyOrder : Type 0
AnyOrder = (id kind : ℕ) (old new : Parts) → Swapped old new → message_of (holding (object id kind) old) ≡ message_of (holding (object id kind) new)

-- what is written is read as the message
pub record WrittenIsRead : Type 0 where
  pub get_reads : (property : ℕ) → message_of (get_object property) ≡ Ok (get property 0)
  pub set_reads : (property : ℕ) (value : Number) → property ≢ 0 → message_of (set_object property value) ≡ Ok (set property 0 (value_of value))
  pub put_reads : (rows : List (ℕ × Number)) → message_of (put_object rows) ≡ Ok (put 0 (body_with rows))
