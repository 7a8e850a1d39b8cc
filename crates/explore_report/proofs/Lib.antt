pub mod Counting
pub mod Differing
pub mod Reporting
pub mod Singles
pub mod More
pub mod Telling
pub mod Judging
