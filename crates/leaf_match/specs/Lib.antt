pub mod Piece
pub mod Wild
pub mod Like
pub mod Place
pub mod AsciiCase
pub mod Cidr
