pub mod RowBuffers
