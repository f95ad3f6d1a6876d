pub mod Fronts
pub mod Keeping
pub mod Lasting
pub mod Places
pub mod Ruled
pub mod Turning
