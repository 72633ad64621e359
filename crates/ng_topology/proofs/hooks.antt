pub mod HookLemmas
pub mod JoinedLemmas
