pub mod ComplexOrders
pub mod Slots
