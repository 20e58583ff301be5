pub mod BestLaws
