mod Looking
mod Turning
mod Standing
mod Talking
mod Closing
mod Conversing
pub mod Seen
pub mod Still
