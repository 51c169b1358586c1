pub mod Account
pub mod Capped
pub mod OnePass
pub mod OnlySent
