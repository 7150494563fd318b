-- Laws of device bytes.
pub mod Devices
