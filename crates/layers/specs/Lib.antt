pub mod JunctionLaws
pub mod Junctions
pub mod Turns
pub mod TurnLaws
