-- The URIs of the stock codes.
use Rattle.std.specs.Prelude.{ℕ, List, Option, Some, None, if◌then◌else◌, codes}
use Rattle.std.specs.Str.{bytes_eq}
use Rattle.stock_codes.specs.declared.name.StockName.{StockName}
use Rattle.stock_codes.specs.declared.name.StockName.TheVariants.{Const, Amp, Mix, Echo, Fetch, Burst, Keep, Tank}

-- the code with this URI, of those that have a worker or a state
abbrev pub working : List ℕ → Option StockName
working uri =
    if bytes_eq uri (codes "urn:lv2fx:fetch") then Some Fetch
    else if bytes_eq uri (codes "urn:lv2fx:burst") then Some Burst
    else if bytes_eq uri (codes "urn:lv2fx:keep") then Some Keep
    else if bytes_eq uri (codes "urn:lv2fx:tank") then Some Tank
    else None

-- the code with this URI
abbrev pub name_of : List ℕ → Option StockName
name_of uri =
    if bytes_eq uri (codes "urn:lv2fx:const") then Some Const
    else if bytes_eq uri (codes "urn:lv2fx:amp") then Some Amp
    else if bytes_eq uri (codes "urn:lv2fx:mix") then Some Mix
    else if bytes_eq uri (codes "urn:lv2fx:echo") then Some Echo
    else working uri
