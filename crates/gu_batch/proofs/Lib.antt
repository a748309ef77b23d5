mod Transfers
mod Outputs
mod Holding
mod Sending
mod ReadSoFar
mod ReadAlong
mod Lawful
mod ReadBack
