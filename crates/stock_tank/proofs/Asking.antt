-- What messages ask.
use Rattle.std.proofs.Common.{◌≡◌, ℕ, pred, ◌==◌, if◌then◌else◌, Bool, true, false, Option, Some, None, Result, Ok, Err, IfSome, FitsSigned, refl, arith}
use Rattle.std.specs.Int.{w64}
use Rattle.lv_base.specs.declared.number.Fixed.{Fixed}
use Rattle.atom_core.specs.declared.form.Form.{Form}
use Rattle.atom_core.specs.Value.{fixed, tuple, object, sequence, bare, keyed, timed, Value, plain, holding, Parts, none, part}
use Rattle.atom_core.specs.Fits.{Fits, PartsFit}
use Rattle.atom_core.specs.Answer.{most_containers}
use Rattle.atom_core.specs.Readers.{fixed_of}
use Rattle.atom_core.proofs.Firsts.{fits_more}
use Rattle.patch_control.specs.declared.message.Message.{Message}
use Rattle.patch_control.specs.declared.message.PatchFault.{PatchFault}
use Rattle.patch_control.specs.declared.words.TheConstants.{GET, SET, PUT, VALUE}
use Rattle.patch_control.specs.Properties.{first}
use Rattle.patch_control.specs.Message.{Content, get, set, put, other, any_value, unless_repeated, get_in, set_with, set_in, put_with, put_in, message_of, HasContent, Reads}
use Rattle.stock_tank.specs.declared.ask.Ask.{Ask}
use Rattle.stock_tank.specs.declared.ask.Ask.TheVariants.{Set, Get, Nothing}
use Rattle.stock_tank.specs.Requests.{set_to, says_message, says, ask_of, HasValue}

-- what a property has is within the limits
first_fits : (n : ℕ) (form : Form) (key : ℕ) (parts : Parts) → PartsFit n form parts → IfSome (first any_value key parts) (Fits (pred n))
first_fits n form key none fits = tt
first_fits n form key (part bare value parts) fits = first_fits n form key parts fits.3
first_fits n form key (part (timed time) value parts) fits = first_fits n form key parts fits.3
first_fits n form key (part (keyed k context) value parts) fits =
    elim (k == key) as (λ same. IfSome (if same then Some value else first any_value key parts) (Fits (pred n))) [
      | true ↦ fits.2
      | false ↦ first_fits n form key parts fits.3
    ]

-- the value of what was read is within the limits
abbrev HaveValue : Result Content PatchFault → Type 0
HaveValue (Ok content) = HasValue content
HaveValue (Err fault) = Unit {0}

once_has : (again : Bool) (content : Content) → HasValue content → HaveValue (unless_repeated again content)
once_has true content has = tt
once_has false content has = has

set_has : (property : Option ℕ) (value : Option Value) (subject : ℕ) (again : Bool) → IfSome value (Fits most_containers)
    → HaveValue (set_with property value subject again)
set_has None value subject again fits = tt
set_has (Some property) None subject again fits = tt
set_has (Some property) (Some value) subject again fits = once_has again (set property subject value) fits

put_has : (body : Option Value) (subject : ℕ) (again : Bool) → HaveValue (put_with body subject again)
put_has None subject again = tt
put_has (Some body) subject again = once_has again (put subject body) tt

more_fits : (value : Option Value) → IfSome value (Fits 15) → IfSome value (Fits most_containers)
more_fits None fits = tt
more_fits (Some value) fits = fits_more 15 16 value (omega arith) fits

choose_has : (is_get is_set is_put : Bool) (get_is set_is put_is : Result Content PatchFault) → HaveValue get_is → HaveValue set_is → HaveValue put_is
    → HaveValue (if is_get then get_is else if is_set then set_is else if is_put then put_is else Ok other)
choose_has true is_set is_put get_is set_is put_is g s p = g
choose_has false true is_put get_is set_is put_is g s p = s
choose_has false false true get_is set_is put_is g s p = p
choose_has false false false get_is set_is put_is g s p = tt

message_has : (value : Value) → Fits most_containers value → HaveValue (message_of value)
message_has (plain p) fits = tt
message_has (holding tuple parts) fits = tt
message_has (holding sequence parts) fits = tt
message_has (holding (object id kind) parts) fits =
    choose_has (kind == GET) (kind == SET) (kind == PUT) (get_in parts) (set_in parts) (put_in parts)
    (once_has _ (get _ _) tt) (set_has _ (first any_value VALUE parts) _ _ (more_fits _ (first_fits 16 _ VALUE parts fits.2))) (put_has _ _ _)

-- what is asked by what was read
asks_ok : (key : ℕ) (message : Message) (ask : Ask) (answer : Result Content PatchFault) → Reads (Ok message) answer → HaveValue answer
    → ((content : Content) → HasContent message content → HasValue content → ask ≡ says_message key content) → ask ≡ says key answer
asks_ok key message ask (Ok content) reads has said = said content reads has
asks_ok key message ask (Err fault) reads has said = absurd reads

asks_err : (key : ℕ) (fault : PatchFault) (answer : Result Content PatchFault) → Reads (Err fault) answer → Nothing ≡ says key answer
asks_err key fault (Ok content) reads = absurd reads
asks_err key fault (Err right) reads = refl

pub ask_read : (key : ℕ) (message : Message) (ask : Ask) (value : Value) → Fits most_containers value → Reads (Ok message) (message_of value)
    → ((content : Content) → HasContent message content → HasValue content → ask ≡ says_message key content) → ask ≡ ask_of key value
unfolding ask_of
ask_read key message ask value fits reads said = asks_ok key message ask (message_of value) reads (message_has value fits) said

pub ask_none : (key : ℕ) (fault : PatchFault) (value : Value) → Reads (Err fault) (message_of value) → Nothing ≡ ask_of key value
unfolding ask_of
ask_none key fault value reads = asks_err key fault (message_of value) reads

-- a level that is set is a number of 64 bits
abbrev pub SetFits : Ask → Type 0
SetFits (Set level) = FitsSigned w64 level.0
SetFits (Get wanted) = Unit {0}
SetFits Nothing = Unit {0}

fixed_fits : (value : Value) → Fits most_containers value → IfSome (fixed_of value) (λ level. FitsSigned w64 level.0)
fixed_fits (plain (fixed z)) fits = fits.0
fixed_fits value fits = tt

set_fits : (value : Option Fixed) → IfSome value (λ level. FitsSigned w64 level.0) → SetFits (set_to value)
set_fits None fits = tt
set_fits (Some level) fits = fits

asked_fits : (same all : Bool) (first second : Ask) → SetFits first → SetFits second → SetFits (if same then first else if all then second else Nothing)
asked_fits true all a b first second = first
asked_fits false true a b first second = second
asked_fits false false a b first second = tt

if_fits : (same : Bool) (ask : Ask) → SetFits ask → SetFits (if same then ask else Nothing)
if_fits true ask fits = fits
if_fits false ask fits = tt

says_fits : (key : ℕ) (answer : Result Content PatchFault) → HaveValue answer → SetFits (says key answer)
says_fits key (Ok (get property subject)) has = asked_fits (property == key) (property == 0) (Get _) (Get _) tt tt
says_fits key (Ok (set property subject value)) has = if_fits (property == key) (set_to (fixed_of value)) (set_fits (fixed_of value) (fixed_fits value has))
says_fits key (Ok (put subject body)) has = tt
says_fits key (Ok other) has = tt
says_fits key (Err fault) has = tt

pub ask_fits : (key : ℕ) (value : Value) → Fits most_containers value → SetFits (ask_of key value)
unfolding ask_of
ask_fits key value fits = says_fits key (message_of value) (message_has value fits)
