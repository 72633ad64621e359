mod AddressLists
mod Counting
mod FilterLists
mod Found
mod Hooks
mod Refusals
