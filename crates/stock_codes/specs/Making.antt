-- The instances of stock codes.
use Rattle.std.specs.Prelude.{◌≡◌, ℕ, pos, ◌==◌, Bool, true, false, not, ◌&&◌, List, length, Option, Some, None, Result, Ok, Err, if◌then◌else◌, codes}
use Rattle.plugin_decl.specs.declared.declaration.Decl.{Decl}
use Rattle.plugin_decl.specs.declared.declaration.Port.{Port}
use Rattle.urid_map.specs.Numbers.{holds, number_of, with_uri}
use Rattle.urid_map.specs.declared.urids.TheConstants.{MOST_URIDS}
use Rattle.plug_api.specs.declared.fault.MakeFault.{MakeFault}
use Rattle.plug_api.specs.declared.fault.MakeFault.TheVariants.{NoCode, Refused, NoMemory}
use Rattle.plug_api.specs.Roles.{has_audio, has_control}
use Rattle.plug_api.specs.Meaning.{Making, made, refused}
use Rattle.stock_sound.specs.Constant.{has_constant_ports}
use Rattle.stock_sound.specs.Amplifier.{has_amplifier_ports}
use Rattle.stock_sound.specs.Mixer.{has_mixer_ports}
use Rattle.stock_sound.specs.Echo.{has_echo_ports, no_echo}
use Rattle.stock_tank.specs.Tank.{has_tank_ports}
use Rattle.stock_codes.specs.Names.{name_of}
use Rattle.stock_codes.specs.declared.name.StockName.{StockName}
use Rattle.stock_codes.specs.declared.name.StockName.TheVariants.{Const, Amp, Mix, Echo, Fetch, Burst, Keep, Tank}
use Rattle.stock_codes.specs.declared.front.StockFront.{StockFront}
use Rattle.stock_codes.specs.declared.front.StockFront.TheVariants as front
use Rattle.stock_codes.specs.declared.back.StockBack.{StockBack}
use Rattle.stock_codes.specs.declared.back.StockBack.TheVariants as back

abbrev pub has_fetch_ports : List Port → Bool
has_fetch_ports ports = has_audio false ports 0 && has_control false ports 1

abbrev pub has_burst_ports : List Port → Bool
has_burst_ports ports =
    (has_control true ports 0 && has_control true ports 1) && (has_control false ports 2 && has_control false ports 3) && has_audio false ports 4

abbrev pub has_keep_ports : List Port → Bool
has_keep_ports ports = has_audio false ports 0 && has_control true ports 1

-- each port of the code is declared, with its direction and its kind
abbrev pub has_ports : StockName → List Port → Bool
has_ports Const ports = has_constant_ports ports
has_ports Amp ports = has_amplifier_ports ports
has_ports Mix ports = has_mixer_ports ports
has_ports Echo ports = has_echo_ports ports
has_ports Fetch ports = has_fetch_ports ports
has_ports Burst ports = has_burst_ports ports
has_ports Keep ports = has_keep_ports ports
has_ports Tank ports = has_tank_ports ports

-- the properties that keep and tank store, by their URIs
abbrev pub value_uri : List ℕ
value_uri = codes "urn:lv2fx:value"

abbrev pub level_uri : List ℕ
level_uri = codes "urn:lv2fx:level"

-- the property of a code
abbrev pub property_of : StockName → Option (List ℕ)
property_of Keep = Some value_uri
property_of Tank = Some level_uri
property_of Const = None
property_of Amp = None
property_of Mix = None
property_of Echo = None
property_of Fetch = None
property_of Burst = None

-- the parts of a new instance, whose property has this number
abbrev pub front_of : StockName → ℕ → StockFront
front_of Const key = front.Constant (record {})
front_of Amp key = front.Amplifier (record {})
front_of Mix key = front.Mixer (record {})
front_of Echo key = front.Echo no_echo
front_of Fetch key = front.Fetch (record { jobs = 0; refused = 0; level = record { 0 = pos 0 } })
front_of Burst key = front.Burst (record { taken = 0; refused = 0; responses = 0 })
front_of Keep key = front.Keep (record { level = record { 0 = pos 0 } })
front_of Tank key = front.Tank (record { key = key; level = record { 0 = pos 0 } })

abbrev pub back_of : StockName → ℕ → StockBack
back_of Const key = back.Idle (record {})
back_of Amp key = back.Idle (record {})
back_of Mix key = back.Idle (record {})
back_of Echo key = back.Idle (record {})
back_of Fetch key = back.Fetch (record {})
back_of Burst key = back.Burst (record {})
back_of Keep key = back.Keep (record { key = key; level = record { 0 = pos 0 } })
back_of Tank key = back.Tank (record { key = key; level = record { 0 = pos 0 } })

-- as many URIs as may have numbers have one, and this isn't one of them
abbrev pub is_full : List (List ℕ) → List ℕ → Bool
is_full urids uri = length urids == MOST_URIDS && not (holds urids uri)

-- a code with a property makes an instance with its number, or answers the refusal 2 where it gets none
abbrev pub parts_with : StockName → Option (List ℕ) → List (List ℕ) → Making StockFront StockBack
parts_with name None urids = made (front_of name 0) (back_of name 0) urids
parts_with name (Some uri) urids =
    let key = number_of (with_uri urids uri) uri in
    if is_full urids uri then refused 2 else made (front_of name key) (back_of name key) (with_uri urids uri)

abbrev pub parts_of : StockName → List (List ℕ) → Making StockFront StockBack
parts_of name urids = parts_with name (property_of name) urids

-- the answer to who asks for a number: it is there, there is none left, or there is no memory
abbrev pub IsMapped : List (List ℕ) → List ℕ → Result ℕ MakeFault → List (List ℕ) → Type 0
IsMapped urids uri (Ok key) mapped = (is_full urids uri ≡ false) × (key ≡ number_of (with_uri urids uri) uri) × (mapped ≡ with_uri urids uri)
IsMapped urids uri (Err NoMemory) mapped = Unit {0}
IsMapped urids uri (Err (Refused number)) mapped = (is_full urids uri ≡ true) × (number ≡ 2)
IsMapped urids uri (Err NoCode) mapped = ⊥

-- an instance of a code, or the refusal 1 where it doesn't find its ports
abbrev pub made_of : StockName → List Port → List (List ℕ) → Making StockFront StockBack
made_of name ports urids = if has_ports name ports then parts_of name urids else refused 1

-- an instance of the code with the declaration's URI, if there is one
abbrev pub made_by : Option StockName → List Port → List (List ℕ) → Making StockFront StockBack
made_by None ports urids = refused 0
made_by (Some name) ports urids = made_of name ports urids

abbrev pub instance_of : Decl → List (List ℕ) → Making StockFront StockBack
instance_of decl urids = made_by (name_of decl.uri) decl.ports urids
