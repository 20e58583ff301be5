pub mod AcOps
