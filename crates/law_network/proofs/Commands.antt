pub mod OwnIsAnswer
pub mod Performing
pub mod Owning
