pub mod Found
mod Examples
