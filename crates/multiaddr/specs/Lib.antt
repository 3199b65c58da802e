-- cited by public clauses and laws
pub mod Part
pub mod Ip6
pub mod Text
pub mod Given
pub mod Laws
pub mod Rows
