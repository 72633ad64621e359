pub mod Asked
pub mod HookNames
pub mod Links
pub mod RowLists
pub mod States
