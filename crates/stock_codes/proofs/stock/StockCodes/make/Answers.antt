use Rattle.std.proofs.Common.{◌≡◌, true, arith}
use Rattle.stock_codes.specs.Making.{has_ports}
use Rattle.stock_codes.proofs.Made.{made_fits}
use Rattle.stock_codes.proofs.stock.StockCodes.make.Goals as goal

pub returns-in-Some-clause-fits : goal.returns-in-Some-clause-fits
returns-in-Some-clause-fits c =
    let name = c.in-Some.name in
    let ports = c.args.decl.now.ports in
    let found : has_ports name ports ≡ true = grind (arith, c.has_ports.ensures, c.as_slice.ensures, c.if-has_ports.true) in
    made_fits name ports c.parts_of.result found c.parts_of.ensures.fits
