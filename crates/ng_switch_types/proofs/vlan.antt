mod Apart
mod Hooks
mod InOrder
mod Refusals
mod Searching
