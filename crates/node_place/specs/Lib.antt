pub mod Laws
pub mod Places
