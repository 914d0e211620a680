-- What the calls of the stock codes mean.
use Rattle.std.specs.Prelude.{ℕ, List, Option}
use Rattle.std.specs.Option.{option_map}
use Rattle.state_store.specs.declared.prop.Prop.{Prop}
use Rattle.plug_api.specs.Meaning.{CodesMeaning}
use Rattle.stock_state.specs.declared.keep.KeepFront.{KeepFront}
use Rattle.stock_state.specs.declared.keep.KeepBack.{KeepBack}
use Rattle.stock_state.specs.Keep.{keep_restore}
use Rattle.stock_tank.specs.declared.front.TankFront.{TankFront}
use Rattle.stock_tank.specs.declared.back.TankBack.{TankBack}
use Rattle.stock_tank.specs.Tank.{tank_restore}
use Rattle.stock_codes.specs.Documents.{document_of}
use Rattle.stock_codes.specs.Names.{name_of}
use Rattle.stock_codes.specs.Making.{instance_of}
use Rattle.stock_codes.specs.declared.front.StockFront.{StockFront}
use Rattle.stock_codes.specs.declared.front.StockFront.TheVariants as front
use Rattle.stock_codes.specs.declared.back.StockBack.{StockBack}
use Rattle.stock_codes.specs.declared.back.StockBack.TheVariants as back

-- the declaration that comes with the code of a URI
abbrev pub text_of : List ℕ → Option (List ℕ)
text_of uri = option_map document_of (name_of uri)

-- parts of which nothing is known that could be given back stay as they are, and the status is 1
abbrev pub unknown : StockFront → StockBack → StockFront × StockBack × ℕ
unknown front back = (front, back, 1)

abbrev pub kept : KeepFront × KeepBack × ℕ → StockFront × StockBack × ℕ
kept parts = (front.Keep parts.0, back.Keep parts.1, parts.2)

-- the front of keep is given its state back with a back of keep
abbrev pub keep_restored : KeepFront → StockBack → List (ℕ × Prop) → StockFront × StockBack × ℕ
keep_restored keep (back.Keep part) props = kept (keep_restore keep part props)
keep_restored keep (back.Idle part) props = unknown (front.Keep keep) (back.Idle part)
keep_restored keep (back.Fetch part) props = unknown (front.Keep keep) (back.Fetch part)
keep_restored keep (back.Burst part) props = unknown (front.Keep keep) (back.Burst part)
keep_restored keep (back.Tank part) props = unknown (front.Keep keep) (back.Tank part)

abbrev pub filled : TankFront × TankBack × ℕ → StockFront × StockBack × ℕ
filled parts = (front.Tank parts.0, back.Tank parts.1, parts.2)

-- the front of tank with a back of tank
abbrev pub tank_restored : TankFront → StockBack → List (ℕ × Prop) → StockFront × StockBack × ℕ
tank_restored tank (back.Tank part) props = filled (tank_restore tank part props)
tank_restored tank (back.Idle part) props = unknown (front.Tank tank) (back.Idle part)
tank_restored tank (back.Fetch part) props = unknown (front.Tank tank) (back.Fetch part)
tank_restored tank (back.Burst part) props = unknown (front.Tank tank) (back.Burst part)
tank_restored tank (back.Keep part) props = unknown (front.Tank tank) (back.Keep part)

abbrev pub restored : StockFront → StockBack → List (ℕ × Prop) → StockFront × StockBack × ℕ
restored (front.Keep part) back props = keep_restored part back props
restored (front.Tank part) back props = tank_restored part back props
restored (front.Constant part) back props = unknown (front.Constant part) back
restored (front.Amplifier part) back props = unknown (front.Amplifier part) back
restored (front.Mixer part) back props = unknown (front.Mixer part) back
restored (front.Echo part) back props = unknown (front.Echo part) back
restored (front.Fetch part) back props = unknown (front.Fetch part) back
restored (front.Burst part) back props = unknown (front.Burst part) back

abbrev pub stock : CodesMeaning StockFront StockBack
stock = record { text = text_of; make = λ decl rate options urids. instance_of decl urids; restore = restored }
