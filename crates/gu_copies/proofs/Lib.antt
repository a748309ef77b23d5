mod Transfers
mod Looking
mod Anew
