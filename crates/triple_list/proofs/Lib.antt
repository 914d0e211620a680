mod Runs
mod Datatypes
mod Examples
