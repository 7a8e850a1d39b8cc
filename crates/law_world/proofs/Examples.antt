-- Examples, each computed: of each law a list, none of them legal, of which it is not so, and legal lists that meet what the laws ask;
-- of the laws of order and of at most once in chorus_world too.
pub mod Played
pub mod Orders
pub mod Settled
pub mod Caused
pub mod Chosen
pub mod Numbered
pub mod Looked
