pub mod National
