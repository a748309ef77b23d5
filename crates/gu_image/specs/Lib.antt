pub mod Image
