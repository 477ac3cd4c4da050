pub mod Places
pub mod Split
pub mod Same
pub mod Counted
pub mod Hs
pub mod Log
