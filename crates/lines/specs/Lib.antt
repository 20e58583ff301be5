pub mod PieceWriting
pub mod LineWriting
