mod Counts
mod Cuts
mod Numerals
mod LineLaws
mod LinesFound
mod Lines
mod Unique
