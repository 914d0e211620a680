pub mod Inputs
pub mod Lending
pub mod Outputs
pub mod Ports
pub mod Sound
pub mod Stock
pub mod StockPorts
