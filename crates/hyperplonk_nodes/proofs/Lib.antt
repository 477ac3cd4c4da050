pub mod ComposeInput
pub mod Compared
