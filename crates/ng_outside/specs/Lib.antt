pub mod Count
pub mod Contents
pub mod Read
pub mod Write
pub mod Memory
pub mod Real
