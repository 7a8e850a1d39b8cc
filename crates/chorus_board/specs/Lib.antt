pub mod Located
pub mod Worlds
pub mod Law
pub mod Ids
pub mod Table
pub mod Rule
pub mod Writers
pub mod Boards
