mod Pieces
mod Printing
