pub mod Seated
pub mod Judged
pub mod Waited
