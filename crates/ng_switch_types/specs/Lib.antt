pub mod bridge
pub mod vlan
pub mod one2many
