pub mod HeldItems
