pub mod Status
pub mod Report
pub mod Definitions
pub mod Preprocess
pub mod Opening
pub mod Running
pub mod Renewing
pub mod LeftOut
