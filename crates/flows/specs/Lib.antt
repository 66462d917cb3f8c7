pub mod Ordering
pub mod Push
pub mod Round
pub mod RoundsTold
pub mod OrderingLaws
pub mod PushLaws
pub mod RoundLaws
pub mod Worked
