pub mod Left
pub mod LegOrders
