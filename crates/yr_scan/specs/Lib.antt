pub mod Misfits
pub mod Reported
pub mod Scanned
