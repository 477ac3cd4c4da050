pub mod Eighteen
