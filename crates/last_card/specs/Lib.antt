pub mod LastLaws
