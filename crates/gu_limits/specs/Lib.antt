pub mod Admission
pub mod Pace
pub mod Said
pub mod Size
pub mod Turn
