pub mod graphs
