-- A message alone in a forge: it is short, so it has room, and a parcel has room for it.
use Rattle.std.proofs.Common.{◌≡◌, ℕ, zero, suc, ◌+◌, ◌^◌, ◌≤◌, ◌<◌, FitsSigned, Bool, true, false, ◌||◌, not, cond, if◌then◌else◌, List, [], ◌∷◌, length, Option, Some, None, IfSome, IfNone, Result, Ok, Err, refl, sym, ap, ◌∙◌, subst, arith}
use Rattle.std.specs.List.{position_or_len, list_any}
use Rattle.std.specs.Option.{unwrap_or, option_map_or}
use Rattle.std.specs.Int.{w32, w64}
use Rattle.std.specs.Str.{bytes_eq}
use Rattle.atom_core.specs.Value.{urid, object, keyed, Value, plain, holding, none, part}
use Rattle.atom_core.specs.Spelling.{u32, i32, i64, framed, body_of, atom_of}
use Rattle.atom_core.specs.Form.{form_of}
use Rattle.atom_core.specs.Fits.{Fits}
use Rattle.atom_forge.specs.Forged.{Forged, PutsAtom}
use Rattle.atom_forge.specs.declared.room.NoRoom.{NoRoom}
use Rattle.patch_control.specs.declared.value.Value.{Value as Number}
use Rattle.patch_control.specs.declared.value.Value.TheVariants.{Int, Fixed}
use Rattle.atom_forge.proofs.Pieces.{framed-length}
use Rattle.patch_control.specs.Written.{get_object, set_object, value_of}
use Rattle.session_play.specs.Patch.{get_type, property_key, get_message}
use Rattle.urid_map.specs.Numbers.{holds, number_of}

-- ---- numbers

next_place : (uri : List ℕ) (urids : List (List ℕ)) → list_any (bytes_eq uri) urids ≡ false → position_or_len (bytes_eq uri) urids ≡ length urids
next_place uri [] e = refl
next_place uri (x ∷ xs) e = by (next_place uri xs) (bytes_eq uri x) refl e
  where
    by : (list_any (bytes_eq uri) xs ≡ false → position_or_len (bytes_eq uri) xs ≡ length xs) → (b : Bool) → bytes_eq uri x ≡ b → (b || list_any (bytes_eq uri) xs) ≡ false
        → cond (not b) (1 + position_or_len (bytes_eq uri) xs) 0 ≡ suc (length xs)
    by more true same h = absurd cc
    by more false same h = omega (arith, more h)

-- a URI without a number is given the next
pub number_is : (urids : List (List ℕ)) (uri : List ℕ) (found : Option ℕ) (next : ℕ) → found ≡ (if holds urids uri then Some (number_of urids uri) else None)
    → next ≡ length urids + 1 → unwrap_or found next ≡ number_of urids uri
number_is urids uri found next is after = by (holds urids uri) refl is
  where
    by : (b : Bool) → holds urids uri ≡ b → found ≡ (if b then Some (number_of urids uri) else None) → unwrap_or found next ≡ number_of urids uri
    by true held e = ap (λ o. unwrap_or o next) e
    by false held e = ap (λ o. unwrap_or o next) e ∙ after ∙ sym (ap (λ n. n + 1) (next_place uri urids held))

-- ---- how long messages are

pub set_short : (property : ℕ) (value : Number) → length (atom_of (set_object property value)) ≤ 64
unfolding u32 i32 i64
set_short property (Int z) = omega arith
set_short property (Fixed f) = omega arith

pub get_short : (property : ℕ) → length (atom_of (get_object property)) ≤ 64
unfolding u32 i32 i64
get_short zero = omega arith
get_short (suc n) = omega arith

-- ---- what a forge has then

-- a forge that was empty has the message, alone
abbrev pub emptied : ℕ → Forged
emptied room = record { room = room; bytes = []; levels = []; waits = false }

pub record Holds (room : ℕ) (value : Value) (forge : Forged) : Type 0 where
  pub bytes : forge.bytes ≡ atom_of value
  pub room_is : forge.room ≡ room

pub put_alone : (room : ℕ) (value : Value) (result : Result (Unit {0}) NoRoom) (old new : Forged) → 64 ≤ room → length (atom_of value) ≤ 64
    → old ≡ emptied room → PutsAtom old value result new → Holds room value new
put_alone room value result old new roomy short empty puts = by result (subst (λ (f : Forged). PutsAtom f value result new) empty puts)
  where
    by : (result : Result (Unit {0}) NoRoom) → PutsAtom (emptied room) value result new → Holds room value new
    by (Ok u) h = record { bytes = ap (λ (f : Forged). f.bytes) h.1; room_is = ap (λ (f : Forged). f.room) h.1 }
    by (Err e) h = absurd (omega (arith, roomy, short, h.0))

-- a parcel has room for it
pub parcel_is : (result : Option (List ℕ)) (bytes text : List ℕ) → bytes ≡ text → length text ≤ 64 → IfSome result (λ parcel. parcel ≡ bytes)
    → IfNone result (256 < length bytes) → result ≡ Some text
parcel_is None bytes text is short kept long = absurd (omega (arith, ap length is, short, long))
parcel_is (Some parcel) bytes text is short kept long = ap Some (kept ∙ is)

-- ---- what is asked for

pub asked_is : (urids : List (List ℕ)) (property : Option (List ℕ)) → get_object (option_map_or (number_of urids) property 0) ≡ get_message urids property
asked_is urids None = refl
asked_is urids (Some uri) = asks (number_of urids uri) (position_or_len (bytes_eq uri) urids) (omega arith)
  where
    asks : (n place : ℕ) → n ≡ suc place → get_object n ≡ holding (object 0 get_type) (part (keyed property_key 0) (plain (urid n)) none)
    asks n place e = ap get_object e ∙ ap (λ k. holding (object 0 get_type) (part (keyed property_key 0) (plain (urid k)) none)) (sym e)

-- ---- a message may stand in a sequence

-- the numbers of properties are those of the format
abbrev pub NumberFits : Number → Type 0
NumberFits (Int z) = FitsSigned w32 z
NumberFits (Fixed f) = FitsSigned w64 f.0

body_short : (kind : ℕ) (body : List ℕ) (most : ℕ) → length (framed kind body) ≤ most → length body ≤ most
body_short kind body most h = omega (arith, framed-length kind body, h)

urid_fits : (n : ℕ) → n < 2 ^ 32 → Fits 14 (plain (urid n))
unfolding u32
urid_fits n h = (h, omega arith)

number_fits : (value : Number) → NumberFits value → Fits 14 (value_of value)
unfolding i32 i64
number_fits (Int z) h = (h, omega arith)
number_fits (Fixed f) h = (h, omega arith)

pub set_fits : (property : ℕ) (value : Number) → property < 2 ^ 32 → NumberFits value → Fits 15 (set_object property value)
unfolding form_of
set_fits property value small fits =
    let short = body_short 9 (body_of (set_object property value)) 64 (set_short property value) in (
      (omega arith, omega arith),
      omega (arith, short),
      (omega arith, (omega arith, omega arith), urid_fits property small, (omega arith, (omega arith, omega arith), number_fits value fits, tt)),
    )

pub get_fits : (property : ℕ) → property < 2 ^ 32 → Fits 15 (get_object property)
unfolding form_of
get_fits zero small = ((omega arith, omega arith), (let short = body_short 9 (body_of (get_object zero)) 64 (get_short zero) in omega (arith, short)), tt)
get_fits (suc n) small = (
  (omega arith, omega arith),
  (let short = body_short 9 (body_of (get_object (suc n))) 64 (get_short (suc n)) in omega (arith, short)),
  (omega arith, (omega arith, omega arith), urid_fits (suc n) small, tt),
)
