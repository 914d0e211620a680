-- A new instance can run over the ports that its code found.
use Rattle.std.proofs.Common.{◌≡◌, ℕ, true, List, Result, Ok, Err}
use Rattle.std.specs.Prelude.{IfOk}
use Rattle.plugin_decl.specs.declared.declaration.Port.{Port}
use Rattle.stock_codes.specs.Fronts.{front_fits}
use Rattle.stock_codes.specs.Making.{has_ports, front_of}
use Rattle.plug_api.specs.declared.fault.MakeFault.{MakeFault}
use Rattle.stock_codes.specs.declared.front.StockFront.{StockFront}
use Rattle.stock_codes.specs.declared.back.StockBack.{StockBack}
use Rattle.stock_codes.specs.declared.name.StockName.{StockName}
use Rattle.stock_codes.specs.declared.name.StockName.TheVariants.{Const, Amp, Mix, Echo, Fetch, Burst, Keep, Tank}

pub fits_made : (name : StockName) (key : ℕ) (ports : List Port) → has_ports name ports ≡ true → front_fits (front_of name key) ports ≡ true
fits_made Const key ports found = found
fits_made Amp key ports found = found
fits_made Mix key ports found = found
fits_made Echo key ports found = found
fits_made Fetch key ports found = found
fits_made Burst key ports found = found
fits_made Keep key ports found = found
fits_made Tank key ports found = found

pub made_fits : (name : StockName) (ports : List Port) (result : Result (StockFront × StockBack) MakeFault) → has_ports name ports ≡ true
    → IfOk result (λ parts. (key : ℕ) × (parts.0 ≡ front_of name key)) → IfOk result (λ parts. front_fits parts.0 ports ≡ true)
made_fits name ports (Ok parts) found is = rw is.1 (fits_made name is.0 ports found)
made_fits name ports (Err fault) found is = tt
