pub mod PlacesStay
pub mod Layouts
