pub mod Program
pub mod Fitting
