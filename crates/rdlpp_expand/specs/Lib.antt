pub mod Run
pub mod Reading
pub mod Looking
pub mod Texts
pub mod Watching
