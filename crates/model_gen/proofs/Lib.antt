pub mod Pieces
pub mod MadeByHand
