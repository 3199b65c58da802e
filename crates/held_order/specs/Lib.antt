-- definitions that public clauses name
pub mod Orders
pub mod Laws
pub mod HeldLaws
