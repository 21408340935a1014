mod Conversing
mod Fields
mod InTurn
mod Pairs
mod Pieces
mod Ranges
