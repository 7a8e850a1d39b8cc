pub mod Entering
pub mod Seeing
pub mod HavePlaces
pub mod Cases
pub mod EachEvent
pub mod Said
pub mod InOrder
