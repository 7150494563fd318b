pub mod FreshRows
