mod Bytes
mod OneLine
mod ReadBack
